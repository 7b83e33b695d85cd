-- What the words of a line say, taken alone.
use Rattle.std.specs.Prelude.{ℕ, ◌-◌, Bool, if◌then◌else◌, ◌==◌, List, [], ◌∷◌, length, take, slice_index, Option, Some, None, Result, Ok}
use Rattle.vm_model.specs.Failures.{◌>>=◌}
use Rattle.jasmin_lines.specs.declared.fault.ReadKind.{ReadKind}
use Rattle.jasmin_lines.specs.declared.form.Form.{Form}
use Rattle.jasmin_lines.specs.declared.form.Form.TheVariants as form
use Rattle.jasmin_lines.specs.declared.lexeme.Lexeme.{Lexeme}
use Rattle.jasmin_lines.specs.declared.lexeme.Lexeme.TheVariants as lexeme
use Rattle.jasmin_lines.specs.Said.{PlainSaid}
use Rattle.jasmin_lines.specs.Words.{named, is_name}
use Rattle.jasmin_lines.specs.Instructions.{instruction}
use Rattle.jasmin_lines.specs.Directives.{directive_form}

abbrev pub code : ℕ → List (List ℕ) → PlainSaid → Form
code line labels said = form.Code (record { line = line; labels = labels; word = said.word; operands = said.operands })

unfoldable pub unlabelled_form : ℕ → List Lexeme → Result Form ReadKind
unlabelled_form line words = instruction words >>= λ said. Ok (code line [] said)

-- A label, alone or before an instruction. What is wrong with the instruction is a lesser fault than a bad name.
unfoldable pub labelled_form : ℕ → List ℕ → List Lexeme → Result Form ReadKind
labelled_form line label [] = named (is_name label) label >>= λ name. Ok (form.Label name)
labelled_form line label (word ∷ words) = do
  said ← instruction (word ∷ words)
  name ← named (is_name label) label
  Ok (code line (name ∷ []) said)

-- what comes before a colon at a word's end
abbrev pub label_of : List ℕ → Option (List ℕ)
label_of bytes = if slice_index bytes (length bytes - 1) == 58 then Some (take (length bytes - 1) bytes) else None

abbrev pub coded : ℕ → Option (List ℕ) → List Lexeme → List Lexeme → Result Form ReadKind
coded line (Some label) words all = labelled_form line label words
coded line None words all = unlabelled_form line all

abbrev pub begins_with_dot : List ℕ → Bool
begins_with_dot bytes = slice_index bytes 0 == 46

abbrev pub form_by : ℕ → List ℕ → List Lexeme → List Lexeme → Result Form ReadKind
form_by line first words all = if begins_with_dot first then directive_form line first words else coded line (label_of first) words all

-- what a line of these words says
unfoldable pub form_of : ℕ → List Lexeme → Result Form ReadKind
form_of line (lexeme.Word first ∷ words) = form_by line first words (lexeme.Word first ∷ words)
form_of line words = unlabelled_form line words
