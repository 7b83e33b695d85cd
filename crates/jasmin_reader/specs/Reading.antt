-- The classes of a text, or its first line that breaks the grammar.
use Rattle.std.specs.Prelude.{ℕ, if◌then◌else◌, List, [], ◌∷◌, fold, Result, Ok, Err}
use Rattle.vm_model.specs.Failures.{◌>>=◌}
use Rattle.jasmin_text.specs.declared.token.Token.{Token}
use Rattle.jasmin_lines.specs.declared.fault.ReadKind.{ReadKind}
use Rattle.jasmin_lines.specs.declared.fault.ReadKind.TheVariants.{NoSuper}
use Rattle.jasmin_reader.specs.declared.fault.Refusal.{Refusal}
use Rattle.jasmin_lines.specs.declared.form.Form.{Form}
use Rattle.jasmin_lines.specs.Plain.{PlainClassText}
use Rattle.jasmin_lines.specs.Lexemes.{PlainLine, lines_after}
use Rattle.jasmin_reader.specs.Grammar.{PlainState, nothing_begun, next_state, lacks_super, form_among}
use Rattle.jasmin_reader.specs.Assembly.{classes_of}

abbrev pub at_line : {A : Type 0} → ℕ → Result A ReadKind → Result A Refusal
at_line line (Ok x) = Ok x
at_line line (Err kind) = Err (record { kind = kind; line = line })

-- the forms of lines after those that have begun this much, or the first fault; at the end a class must have its super
unfoldable pub forms_after : ℕ → PlainState → List PlainLine → Result (List Form) Refusal
forms_after last s [] = if lacks_super s then Err (record { kind = NoSuper; line = last }) else Ok []
forms_after last s (line ∷ lines) = do
  f ← at_line line.number (form_among s line lines)
  fs ← forms_after last (next_state f s) lines
  Ok (f ∷ fs)

-- the number of a text's last line, 0 where it has none
abbrev pub last_line : List Token → ℕ
last_line tokens = fold (λ n (t : Token). t.line) 0 tokens

unfoldable pub reading : List ℕ → List Token → Result (List PlainClassText) Refusal
reading text tokens = forms_after (last_line tokens) nothing_begun (lines_after text [] tokens) >>= λ forms. Ok (classes_of forms)
