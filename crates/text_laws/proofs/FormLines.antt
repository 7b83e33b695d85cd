-- Each form that a line of a text was read as is read again.
use Rattle.std.proofs.Common.{◌≡◌, ℕ, true, false, List, [], ◌∷◌, Option, Some, None, Ok, ◌∙◌, subst}
use Rattle.jasmin_lines.specs.declared.form.Form.TheVariants as form
use Rattle.jasmin_lines.specs.declared.lexeme.Lexeme.{Lexeme}
use Rattle.jasmin_lines.specs.declared.lexeme.Lexeme.TheVariants as lexeme
use Rattle.jasmin_lines.specs.Plain.{PlainLineText}
use Rattle.jasmin_lines.specs.Said.{PlainSaid}
use Rattle.jasmin_lines.specs.Words.{named, is_name}
use Rattle.jasmin_lines.specs.Instructions.{instruction}
use Rattle.jasmin_lines.specs.Forms.{code, unlabelled_form, labelled_form, label_of, coded, begins_with_dot, form_of}
use Rattle.text_laws.specs.OfText.{AreFound}
use Rattle.text_laws.proofs.Tests.{tested}
use Rattle.text_laws.proofs.Again.{IsAgain, AreAgain}
use Rattle.text_laws.proofs.Successes.{Holds, behind, step, named-is}
use Rattle.text_laws.proofs.Labels.{form-start, label-again}
use Rattle.text_laws.proofs.InstructionLines.{IsSaidAgain, instruction-found}
use Rattle.text_laws.proofs.MethodLines.{directive-found}

unlabelled-read : (n : ℕ) (words : List Lexeme) (said : PlainSaid) → instruction words ≡ Ok said → unlabelled_form n words ≡ Ok (code n [] said)
unfolding unlabelled_form
unlabelled-read n words said e = step (instruction words) _ said e

abbrev said_line : ℕ → PlainSaid → PlainLineText
said_line line said = record { line = line; labels = []; word = said.word; operands = said.operands }

code-again : (line : ℕ) (said : PlainSaid) → IsSaidAgain said → IsAgain (form.Code (said_line line said))
code-again line said h = record {
  fit = h.fit;
  read = λ m. form-start m said.word _ None h.undotted h.unlabelled ∙ unlabelled-read m _ said h.read;
}

said-again : (words : List Lexeme) (said : PlainSaid) → AreFound false words → instruction words ≡ Ok said → IsSaidAgain said
said-again words said found e = subst (Holds IsSaidAgain) e (instruction-found words found)

name-again : (label name : List ℕ) → named (is_name label) label ≡ Ok name → IsAgain (form.Label name)
name-again label name n =
    let is : (is_name label ≡ true) × (label ≡ name) = named-is (is_name label) label name n in
    subst (λ (x : List ℕ). IsAgain (form.Label x)) is.1 (label-again label is.0)

unlabelled-found : (line : ℕ) (words : List Lexeme) → AreFound false words → Holds AreAgain (unlabelled_form line words)
unfolding unlabelled_form
unlabelled-found line words found =
    behind AreAgain (instruction words) _ (λ (said : PlainSaid) (e : instruction words ≡ Ok said). (tt, code-again line said (said-again words said found e), tt))

labelled-found : (line : ℕ) (label : List ℕ) (words : List Lexeme) → AreFound false words → Holds AreAgain (labelled_form line label words)
unfolding labelled_form
labelled-found line label [] found =
    behind AreAgain (named (is_name label) label) _ (λ (name : List ℕ) (n : named (is_name label) label ≡ Ok name). name-again label name n)
labelled-found line label (word ∷ words) found =
    behind AreAgain (instruction (word ∷ words)) _ (λ (said : PlainSaid) (e : instruction (word ∷ words) ≡ Ok said).
    behind AreAgain (named (is_name label) label) _ (λ (name : List ℕ) (n : named (is_name label) label ≡ Ok name).
    ((name-again label name n, tt), code-again line said (said-again (word ∷ words) said found e), tt)))

coded-found : (line : ℕ) (label : Option (List ℕ)) (words all : List Lexeme) → AreFound false words → AreFound false all → Holds AreAgain (coded line label words all)
coded-found line (Some label) words all found found' = labelled-found line label words found
coded-found line None words all found found' = unlabelled-found line all found'

pub form-found : (line : ℕ) (words : List Lexeme) → AreFound false words → Holds AreAgain (form_of line words)
unfolding form_of
form-found line [] found = unlabelled-found line [] found
form-found line (lexeme.Number n ∷ words) found = unlabelled-found line (lexeme.Number n ∷ words) found
form-found line (lexeme.Text t ∷ words) found = unlabelled-found line (lexeme.Text t ∷ words) found
form-found line (lexeme.Word first ∷ words) found =
    tested (Holds AreAgain) (begins_with_dot first) _ _
    (λ (_ : begins_with_dot first ≡ true). directive-found line first words found.1)
    (λ (_ : begins_with_dot first ≡ false). coded-found line (label_of first) words (lexeme.Word first ∷ words) found.1 found)
