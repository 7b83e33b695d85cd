-- All faults of a text's lines, in the order of the text, each with the least kind of its line. The other lines bear on
-- the fault of a line only by what those before it begin, and by whether a method ends after it.
use Rattle.std.specs.Prelude.{◌≡◌, ℕ, if◌then◌else◌, List, [], ◌∷◌, ◌++◌, flat_map, Result, Ok, Err}
use Rattle.jasmin_text.specs.declared.token.Token.{Token}
use Rattle.jasmin_lines.specs.declared.fault.ReadKind.{ReadKind}
use Rattle.jasmin_lines.specs.declared.fault.ReadKind.TheVariants.{NoSuper}
use Rattle.jasmin_reader.specs.declared.fault.Refusal.{Refusal}
use Rattle.jasmin_lines.specs.declared.form.Form.{Form}
use Rattle.jasmin_lines.specs.Forms.{form_of}
use Rattle.jasmin_reader.specs.Grammar.{PlainState, nothing_begun, next_state, lacks_super, form_among}
use Rattle.jasmin_lines.specs.Lexemes.{PlainLine, lines_after}
use Rattle.jasmin_reader.specs.Reading.{last_line}

-- ---- lines by themselves

-- the form of a line, wherever it stands
abbrev pub form_alone : PlainLine → Result Form ReadKind
form_alone line = form_of line.number line.words

abbrev pub form_if : Result Form ReadKind → List Form
form_if (Ok f) = f ∷ []
form_if (Err kind) = []

-- the forms of all lines that have one
abbrev pub forms_alone : List PlainLine → List Form
forms_alone lines = flat_map (λ line. form_if (form_alone line)) lines

-- what has begun after a line; one without a form begins nothing
abbrev pub begun_after : PlainState → Result Form ReadKind → PlainState
begun_after s (Ok f) = next_state f s
begun_after s (Err kind) = s

-- ---- faults

abbrev pub fault_of : ℕ → Result Form ReadKind → List Refusal
fault_of line (Ok f) = []
fault_of line (Err kind) = record { kind = kind; line = line } ∷ []

-- at the end a class must have its super
abbrev pub end_fault : ℕ → PlainState → List Refusal
end_fault last s = if lacks_super s then record { kind = NoSuper; line = last } ∷ [] else []

unfoldable pub faults_behind : ℕ → PlainState → List PlainLine → List Refusal
faults_behind last s [] = end_fault last s
faults_behind last s (line ∷ lines) = fault_of line.number (form_among s line lines) ++ faults_behind last (begun_after s (form_alone line)) lines

abbrev pub line_faults : List ℕ → List Token → List Refusal
line_faults text tokens = faults_behind (last_line tokens) nothing_begun (lines_after text [] tokens)

-- the first of faults that are in the order of the text
abbrev pub IsFirst : List Refusal → Refusal → Type 0
IsFirst [] f = ⊥
IsFirst (g ∷ gs) f = g ≡ f
