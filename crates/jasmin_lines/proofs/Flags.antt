-- Flags, looked for among the words that references point to.
use Rattle.std.proofs.lemmas.List.{append-nil}
use Rattle.std.proofs.Common.{length, ◌++◌, ◌<◌, arith, ◌≡◌, ℕ, Bool, true, false, List, [], ◌∷◌, filter, Ok, Err, refl, ap, ◌∙◌, sym, ◌||◌, ◌&&◌}
use Rattle.std.specs.List.{list_any, list_all}
use denote.Ref.{Bor}
use Rattle.jasmin_lines.specs.declared.fault.ReadKind.TheVariants.{BadOperand}
use Rattle.jasmin_lines.specs.declared.lexeme.Lexeme.{Lexeme}
use Rattle.jasmin_lines.specs.Texts.{texts}
use Rattle.jasmin_lines.specs.Words.{flags_of, is_word}

any-texts : (known : List (Bor (List ℕ))) (word : Lexeme) → list_any (λ (flag : Bor (List ℕ)). is_word flag.now word) known ≡ list_any (λ flag. is_word flag word) (texts known)
any-texts [] word = refl
any-texts (flag ∷ known) word = ap (λ (x : Bool). is_word flag.now word || x) (any-texts known word)

all-texts : (known : List (Bor (List ℕ))) (words : List Lexeme) → list_all (λ word. list_any (λ (flag : Bor (List ℕ)). is_word flag.now word) known) words ≡ list_all (λ word. list_any (λ flag. is_word flag word) (texts known)) words
all-texts known [] = refl
all-texts known (word ∷ words) = rw (any-texts known word) (ap (λ (x : Bool). list_any (λ flag. is_word flag word) (texts known) && x) (all-texts known words))

pub no-flags : (known : List (Bor (List ℕ))) (words : List Lexeme) → list_all (λ word. list_any (λ (flag : Bor (List ℕ)). is_word flag.now word) known) words ≡ false → flags_of (texts known) words ≡ Err BadOperand
no-flags known words h = rw (sym (all-texts known words) ∙ h) refl

pub all-flags : (known : List (Bor (List ℕ))) (words : List Lexeme) → list_all (λ word. list_any (λ (flag : Bor (List ℕ)). is_word flag.now word) known) words ≡ true → flags_of (texts known) words ≡ Ok (filter (λ flag. list_any (is_word flag) words) (texts known))
all-flags known words h = rw (sym (all-texts known words) ∙ h) refl

pub none-left : (front : List (List ℕ)) (p : List ℕ → Bool) (rest : List (Bor (List ℕ))) → length rest < 1 → front ++ filter p (texts rest) ≡ front
none-left front p [] h = append-nil front
none-left front p (flag ∷ rest) h = absurd (omega arith)
