-- A label that was read is read again from a line of its own.
use Rattle.std.proofs.Common.{◌≡◌, ◌≢◌, ℕ, ◌-◌, Bool, true, false, not, ◌&&◌, nat_eq, List, [], ◌∷◌, ◌++◌, Option, Some, None, Result, Ok, length, take, cond, refl, ap, ◌∙◌, arith}
use Rattle.std.specs.Prelude.{slice_index}
use Rattle.std.specs.Char.{is_ascii_digit}
use Rattle.std.specs.List.{list_all, list_any}
use Rattle.std.proofs.lemmas.Bool.Decides.{nat_tests}
use Rattle.std.proofs.lemmas.List.{length-append}
use Rattle.std.proofs.lemmas.List.Folds.{list_any-append, list_all-append}
use Rattle.std.proofs.Math.Seq.{take-append_seam}
use Rattle.jasmin_text.specs.Numbers.{is_digits, is_number}
use Rattle.jasmin_text.specs.Pieces.{is_white, is_high}
use Rattle.jasmin_lines.specs.declared.fault.ReadKind.{ReadKind}
use Rattle.jasmin_lines.specs.declared.form.Form.{Form}
use Rattle.jasmin_lines.specs.declared.form.Form.TheVariants as form
use Rattle.jasmin_lines.specs.declared.lexeme.Lexeme.{Lexeme}
use Rattle.jasmin_lines.specs.declared.lexeme.Lexeme.TheVariants as lexeme
use Rattle.jasmin_lines.specs.Words.{named, is_name_byte, is_filled, is_name}
use Rattle.jasmin_lines.specs.Directives.{directive_form}
use Rattle.jasmin_lines.specs.Forms.{labelled_form, label_of, coded, begins_with_dot, form_of}
use Rattle.text_laws.specs.Spelled.{IsSpellable, BeginsNoString}
use Rattle.text_laws.proofs.Tests.{and-first, and-second, none-of}
use Rattle.text_laws.proofs.Numbers.{kind-is}
use Rattle.text_laws.proofs.Again.{IsAgain}
use Rattle.text_laws.proofs.Names.{name-begins, begins-no-comment, more-no-comment}
use Rattle.text_laws.proofs.Successes.{step, named-again}

abbrev pub colon : List ℕ → List ℕ
colon name = name ++ 58 ∷ []

bytes-of : (name : List ℕ) → is_name name ≡ true → list_all is_name_byte name ≡ true
bytes-of name h = and-second (is_filled name) (list_all is_name_byte name) h

byte-dark : (b : ℕ) → is_name_byte b ≡ true → is_white b ≡ false
byte-dark b h = grind (arith, nat_tests)

byte-low : (b : ℕ) → is_name_byte b ≡ true → is_high b ≡ false
byte-low b h = grind (arith, nat_tests)

none-more : (p : ℕ → Bool) (name : List ℕ) → list_any p name ≡ false → p 58 ≡ false → list_any p (colon name) ≡ false
none-more p name h e = list_any-append p name (58 ∷ []) ∙ rw (h, e) refl

and-false : (b : Bool) → (b && false) ≡ false
and-false true = refl
and-false false = refl

no-digits : (word : List ℕ) → is_digits (colon word) ≡ false
no-digits word =
    let last : list_all is_ascii_digit (colon word) ≡ false = list_all-append is_ascii_digit word (58 ∷ []) ∙ and-false (list_all is_ascii_digit word) in
    rw last (and-false (not (nat_eq (length (colon word)) 0)))

either-false : (c x y : Bool) → x ≡ false → y ≡ false → cond c x y ≡ false
either-false true x y ex ey = ex
either-false false x y ex ey = ey

no-number : (name : List ℕ) → is_name name ≡ true → is_number (colon name) ≡ false
no-number [] h = absurd (cc)
no-number (b ∷ rest) h = either-false (nat_eq b 45) (is_digits (colon rest)) (is_digits (b ∷ colon rest)) (no-digits rest) (no-digits (b ∷ rest))

byte-unquoted : (b : ℕ) → is_name_byte b ≡ true → b ≢ 34
byte-unquoted b h e = grind (arith, nat_tests)

byte-undotted : (b : ℕ) → is_name_byte b ≡ true → nat_eq b 46 ≡ false
byte-undotted b h = grind (arith, nat_tests)

unquoted : (name : List ℕ) → is_name name ≡ true → BeginsNoString (colon name)
unquoted [] h = absurd (cc)
unquoted (b ∷ rest) h = byte-unquoted b (and-first (is_name_byte b) (list_all is_name_byte rest) (bytes-of (b ∷ rest) h))

undotted : (name : List ℕ) → is_name name ≡ true → begins_with_dot (colon name) ≡ false
undotted [] h = absurd (cc)
undotted (b ∷ rest) h = byte-undotted b (and-first (is_name_byte b) (list_all is_name_byte rest) (bytes-of (b ∷ rest) h))

label-fits : (name : List ℕ) → is_name name ≡ true → IsSpellable (lexeme.Word (colon name))
label-fits name h =
    let low : list_any is_high (colon name) ≡ false = none-more is_high name (none-of is_high is_name_byte byte-low name (bytes-of name h)) refl in (
      record {
        dark = none-more is_white name (none-of is_white is_name_byte byte-dark name (bytes-of name h)) refl;
        kind = kind-is (colon name) low ∙ rw (no-number name h) refl;
        begins = unquoted name h;
      },
      more-no-comment name (58 ∷ []) (begins-no-comment name (name-begins name h)),
    )

last-is-colon : (name : List ℕ) → slice_index (colon name) (length name) ≡ 58
last-is-colon [] = refl
last-is-colon (b ∷ rest) = last-is-colon rest

abbrev label_by : List ℕ → ℕ → Option (List ℕ)
label_by bytes n = cond (nat_eq (slice_index bytes n) 58) (Some (take n bytes)) None

pub label-is : (name : List ℕ) → label_of (colon name) ≡ Some name
label-is name =
    let size : length (colon name) - 1 ≡ length name = omega (arith, length-append name (58 ∷ [])) in
    ap (label_by (colon name)) size
    ∙ ap (λ (x : ℕ). cond (nat_eq x 58) (Some (take (length name) (colon name))) None) (last-is-colon name)
    ∙ ap Some (take-append_seam name (58 ∷ []))

abbrev by_dot : ℕ → List ℕ → List Lexeme → List Lexeme → Bool → Option (List ℕ) → Result Form ReadKind
by_dot n first words all dot label = cond dot (directive_form n first words) (coded n label words all)

pub form-start : (n : ℕ) (first : List ℕ) (words : List Lexeme) (label : Option (List ℕ)) → begins_with_dot first ≡ false → label_of first ≡ label → form_of n (lexeme.Word first ∷ words) ≡ coded n label words (lexeme.Word first ∷ words)
unfolding form_of
form-start n first words label dot l =
    ap (λ (b : Bool). by_dot n first words (lexeme.Word first ∷ words) b (label_of first)) dot
    ∙ ap (by_dot n first words (lexeme.Word first ∷ words) false) l

alone-read : (n : ℕ) (name : List ℕ) → is_name name ≡ true → labelled_form n name [] ≡ Ok (form.Label name)
unfolding labelled_form
alone-read n name h = step (named (is_name name) name) _ name (named-again (is_name name) name h)

pub label-again : (name : List ℕ) → is_name name ≡ true → IsAgain (form.Label name)
label-again name h = record {
  fit = (label-fits name h, tt);
  read = λ m. form-start m (colon name) [] (Some name) (undotted name h) (label-is name) ∙ alone-read m name h;
}
