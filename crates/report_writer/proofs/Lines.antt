-- A line for each number of a range, one number more at a time.
use Rattle.std.proofs.Common.{◌≡◌, ℕ, zero, suc, ◌+◌, List, [], ◌∷◌, ◌++◌, sym, ap, ◌∙◌, arith, append_assoc, append-nil}
use Rattle.std.specs.List.{flat_map, range_with_len}
use Rattle.std.proofs.lemmas.Grind.{flat_map-append}

range_more : (from n : ℕ) → range_with_len from (suc n) ≡ range_with_len from n ++ (from + n) ∷ []
range_more from zero = ap (λ (k : ℕ). k ∷ []) (omega arith)
range_more from (suc n) =
    let same : (from + 1) + n ≡ from + suc n = omega arith in
    ap (λ ks. from ∷ ks) (range_more (from + 1) n ∙ ap (λ (k : ℕ). range_with_len (from + 1) n ++ k ∷ []) same)

-- one number more is one line more at the end
pub line_more : (f : ℕ → List ℕ) (n : ℕ) → flat_map f (range_with_len 0 (n + 1)) ≡ flat_map f (range_with_len 0 n) ++ f n
line_more f n =
    let next : n + 1 ≡ suc n = omega arith in
    let last : 0 + n ≡ n = omega arith in
    ap (λ (k : ℕ). flat_map f (range_with_len 0 k)) next
    ∙ ap (λ ks. flat_map f ks) (range_more 0 n)
    ∙ flat_map-append f (range_with_len 0 n) ((0 + n) ∷ [])
    ∙ ap (λ ks. flat_map f (range_with_len 0 n) ++ ks) (append-nil (f (0 + n)) ∙ ap f last)

-- what was there, the lines so far, and the next line
pub lines_so_far : (f : ℕ → List ℕ) (n : ℕ) (start before after : List ℕ) → before ≡ start ++ flat_map f (range_with_len 0 n) → after ≡ before ++ f n → after ≡ start ++ flat_map f (range_with_len 0 (n + 1))
lines_so_far f n start before after so_far added =
    added ∙ ap (λ (bytes : List ℕ). bytes ++ f n) so_far ∙ append_assoc start (flat_map f (range_with_len 0 n)) (f n) ∙ ap (λ (bytes : List ℕ). start ++ bytes) (sym (line_more f n))

pub no_lines : (f : ℕ → List ℕ) (start : List ℕ) → start ≡ start ++ flat_map f (range_with_len 0 0)
no_lines f start = sym (append-nil start)
