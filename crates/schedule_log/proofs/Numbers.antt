-- The spelling of a number, byte by byte.
use Rattle.std.proofs.Common.{◌≡◌, ℕ, zero, suc, ◌+◌, ◌/◌, ◌%◌, ◌<◌, ◌≤◌, List, [], ◌∷◌, ◌++◌, refl, sym, ap, append_assoc, ◌∙◌, inl, inr, arith}
use Rattle.std.proofs.lemmas.Bool.{cases_lt, lt-ltb, le-ltb}
use Rattle.schedule_log.specs.Spelling.{groups, leb128}

pub groups_small : (k n : ℕ) → n < 128 → groups k n ≡ n ∷ []
groups_small zero n lt = refl
groups_small (suc k) n lt = rw (lt-ltb n 128 lt) refl

pub groups_more : (k n : ℕ) → 128 ≤ n → groups (suc k) n ≡ (n % 128 + 128) ∷ groups k (n / 128)
groups_more k n ge = rw (le-ltb n 128 ge) refl

groups_enough : (k m n : ℕ) → n ≤ k → n ≤ m → groups k n ≡ groups m n
groups_enough zero m n hk hm = groups_small zero n (omega arith) ∙ sym (groups_small m n (omega arith))
groups_enough (suc k) zero n hk hm = groups_small (suc k) n (omega arith) ∙ sym (groups_small zero n (omega arith))
groups_enough (suc k) (suc m) n hk hm =
    elim (cases_lt n 128) [
      | inl lt ↦ groups_small (suc k) n lt ∙ sym (groups_small (suc m) n lt)
      | inr ge ↦ groups_more k n ge ∙ ap (λ (r : List ℕ). (n % 128 + 128) ∷ r) (groups_enough k m (n / 128) (omega arith) (omega arith)) ∙ sym (groups_more m n ge)
    ]

pub number_small : (n : ℕ) → n < 128 → leb128 n ≡ n ∷ []
unfolding leb128
number_small n lt = groups_small n n lt

pub number_more : (n : ℕ) → 128 ≤ n → leb128 n ≡ (n % 128 + 128) ∷ leb128 (n / 128)
unfolding leb128
number_more zero ge = absurd (omega arith)
number_more (suc k) ge = groups_more k (suc k) ge ∙ ap (λ (r : List ℕ). (suc k % 128 + 128) ∷ r) (groups_enough k (suc k / 128) (suc k / 128) (omega arith) (omega arith))

-- a loop that writes the groups of a number
pub put_more : (out whole : List ℕ) (rest : ℕ) → 128 ≤ rest → out ++ leb128 rest ≡ whole → (out ++ (rest % 128 + 128) ∷ []) ++ leb128 (rest / 128) ≡ whole
put_more out whole rest ge so_far = append_assoc out ((rest % 128 + 128) ∷ []) (leb128 (rest / 128)) ∙ ap (λ (r : List ℕ). out ++ r) (sym (number_more rest ge)) ∙ so_far

pub put_end : (out whole : List ℕ) (rest : ℕ) → rest < 128 → out ++ leb128 rest ≡ whole → out ++ rest ∷ [] ≡ whole
put_end out whole rest lt so_far = ap (λ (r : List ℕ). out ++ r) (sym (number_small rest lt)) ∙ so_far
