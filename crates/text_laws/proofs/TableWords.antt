-- The words of the table of instructions can be spelled, begin no directive and end no label.
use Rattle.std.proofs.Common.{◌≡◌, ℕ, ◌-◌, Bool, true, false, not, ◌&&◌, nat_le, nat_eq, List, [], ◌∷◌, Some, None, Ok, ℤ, pos, negsuc, length, cond, refl, subst, arith}
use Rattle.std.specs.Prelude.{slice_index, bytes_eq, int_le}
use Rattle.std.specs.List.{list_all}
use Rattle.std.proofs.lemmas.Bool.Decides.{nat_tests}
use Rattle.std.proofs.lemmas.Slice.Eq.{bytes_eq-Decides}
use Rattle.jasmin_lines.specs.declared.lexeme.Lexeme.TheVariants as lexeme
use Rattle.jasmin_lines.specs.declared.mnemonic.Access.{Access}
use Rattle.jasmin_lines.specs.declared.mnemonic.Mnemonic.{Mnemonic}
use Rattle.jasmin_lines.specs.declared.mnemonic.Mnemonic.TheVariants as mnemonic
use Rattle.jasmin_lines.specs.Words.{in_range}
use Rattle.jasmin_lines.specs.Tables.{row_of}
use Rattle.jasmin_lines.specs.Mnemonics.{table, mnemonic_of}
use Rattle.jasmin_lines.specs.Forms.{label_of, begins_with_dot}
use Rattle.text_laws.specs.Sizes.{IsSmall}
use Rattle.text_laws.specs.Spelled.{IsSpellable}
use Rattle.text_laws.proofs.Tests.{and-first, and-second, not-true}
use Rattle.text_laws.proofs.Names.{is_good_word, good-word}

abbrev ends_well : List ℕ → Bool
ends_well word = not (begins_with_dot word) && not (nat_eq (slice_index word (length word - 1)) 58)

abbrev is_tiny : ℤ → Bool
is_tiny (pos n) = nat_le n 255
is_tiny (negsuc n) = nat_le n 255

abbrev is_local : ℤ → Bool
is_local n = int_le (pos 0) n && int_le n (pos 255)

abbrev asks_well : Mnemonic → Bool
asks_well (mnemonic.PushOf n) = is_tiny n
asks_well (mnemonic.LocalOf a n) = is_tiny n && is_local n
asks_well _ = true

abbrev is_good_row : List ℕ × Mnemonic → Bool
is_good_row row = is_good_word row.0 && (ends_well row.0 && asks_well row.1)

table-good : list_all is_good_row table ≡ true
unfolding table
table-good = refl

row-good : (word : List ℕ) (m : Mnemonic) (rows : List (List ℕ × Mnemonic)) → list_all is_good_row rows ≡ true → row_of word rows ≡ Some m → is_good_row (word, m) ≡ true
row-good word m [] h e = absurd (cc)
row-good word m (row ∷ rows) h e = by (bytes_eq row.0 word) refl e (row-good word m rows (and-second (is_good_row row) (list_all is_good_row rows) h))
  where
    by : (b : Bool) → bytes_eq row.0 word ≡ b → cond b (Some row.1) (row_of word rows) ≡ Some m → (row_of word rows ≡ Some m → is_good_row (word, m) ≡ true) → is_good_row (word, m) ≡ true
    by true same s more =
        let first : row.0 ≡ word = (bytes_eq-Decides row.0 word).0 same in
        let second : row.1 ≡ m = cc in
        subst (λ (x : List ℕ). is_good_row (x, m) ≡ true) first (subst (λ (x : Mnemonic). is_good_row (row.0, x) ≡ true) second (and-first (is_good_row row) (list_all is_good_row rows) h))
    by false same s more = more s

mnemonic-good : (word : List ℕ) (m : Mnemonic) → mnemonic_of word ≡ Some m → is_good_row (word, m) ≡ true
unfolding mnemonic_of
mnemonic-good word m e = row-good word m table table-good e

pub record IsMnemonic (word : List ℕ) : Type 0 where
  pub fits : IsSpellable (lexeme.Word word)
  pub undotted : begins_with_dot word ≡ false
  pub unlabelled : label_of word ≡ None

pub is-mnemonic : (word : List ℕ) (m : Mnemonic) → mnemonic_of word ≡ Some m → IsMnemonic word
is-mnemonic word m e =
    let good : is_good_row (word, m) ≡ true = mnemonic-good word m e in
    let ends : ends_well word ≡ true = and-first (ends_well word) (asks_well m) (and-second (is_good_word word) (ends_well word && asks_well m) good) in
    let last : nat_eq (slice_index word (length word - 1)) 58 ≡ false = not-true _ (and-second (not (begins_with_dot word)) (not (nat_eq (slice_index word (length word - 1)) 58)) ends) in
    record {
      fits = good-word word (and-first (is_good_word word) (ends_well word && asks_well m) good);
      undotted = not-true (begins_with_dot word) (and-first (not (begins_with_dot word)) (not (nat_eq (slice_index word (length word - 1)) 58)) ends);
      unlabelled = rw last refl;
    }

asks-well : (word : List ℕ) (m : Mnemonic) → mnemonic_of word ≡ Some m → asks_well m ≡ true
asks-well word m e = and-second (ends_well word) (asks_well m) (and-second (is_good_word word) (ends_well word && asks_well m) (mnemonic-good word m e))

tiny-small : (n : ℤ) → is_tiny n ≡ true → IsSmall n
tiny-small (pos n) e = grind (arith, nat_tests)
tiny-small (negsuc n) e = grind (arith, nat_tests)

pub push-small : (word : List ℕ) (n : ℤ) → mnemonic_of word ≡ Some (mnemonic.PushOf n) → IsSmall n
push-small word n e = tiny-small n (asks-well word (mnemonic.PushOf n) e)

pub local-small : (word : List ℕ) (a : Access) (n : ℤ) → mnemonic_of word ≡ Some (mnemonic.LocalOf a n) → IsSmall n
local-small word a n e = tiny-small n (and-first (is_tiny n) (is_local n) (asks-well word (mnemonic.LocalOf a n) e))

pub local-range : (word : List ℕ) (a : Access) (n : ℤ) → mnemonic_of word ≡ Some (mnemonic.LocalOf a n) → in_range (pos 0) (pos 255) n ≡ Ok n
local-range word a n e =
    let within : is_local n ≡ true = and-second (is_tiny n) (is_local n) (asks-well word (mnemonic.LocalOf a n) e) in
    rw within refl
