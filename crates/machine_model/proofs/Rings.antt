-- The ring by the numbers of the threads: what comes round the ring is what comes in rising order, from the next number on and
-- then from 0 on.
use Rattle.std.proofs.Common.{◌≡◌, ℕ, zero, suc, ◌+◌, ◌-◌, ◌<◌, ◌≤◌, Bool, true, false, cond, List, [], ◌∷◌, ◌++◌, Option, Some, refl, sym, ◌∙◌, ap, arith}
use Rattle.std.specs.Prelude.{filter, find, nat_lt, nat_le, length, unwrap_or}
use Rattle.std.specs.Option.{option_or}
use Rattle.std.specs.List.{range_with_len}
use Rattle.std.proofs.lemmas.List.Elements.{filter-append}
use Rattle.std.proofs.lemmas.List.Folds.{find-append}
use Rattle.machine_model.specs.Shared.{is_live}
use Rattle.machine_model.specs.Machine.{MachineState}
use Rattle.machine_model.specs.Ring.{Cuts, head_or, live_threads, next_in_ring, ring_after}

-- ---- lists

-- whatever passes the first test passes the second
abbrev pub IsAlso : (ℕ → Bool) → (ℕ → Bool) → Type 0
IsAlso P Q = (x : ℕ) → P x ≡ true → Q x ≡ true

find_kept : (P : ℕ → Bool) (x : ℕ) (rest : List ℕ) (p q : Bool) → P x ≡ p → (p ≡ true → q ≡ true) → find P (cond q (x ∷ rest) rest) ≡ cond p (Some x) (find P rest)
find_kept P x rest true true e h = rw e refl
find_kept P x rest false true e h = rw e refl
find_kept P x rest true false e h = let f = h refl in cc
find_kept P x rest false false e h = refl

-- a filter that keeps what the search looks for
pub find-filter_also : (P Q : ℕ → Bool) (xs : List ℕ) → IsAlso P Q → find P (filter Q xs) ≡ find P xs
find-filter_also P Q [] h = refl
find-filter_also P Q (x ∷ xs) h = find_kept P x (filter Q xs) (P x) (Q x) refl (h x) ∙ ap (cond (P x) (Some x)) (find-filter_also P Q xs h)

filter_one : (Q R : ℕ → Bool) (x : ℕ) (xs ys : List ℕ) (q r : Bool) → Q x ≡ q → R x ≡ r → filter Q xs ≡ filter R ys → filter Q (cond r (x ∷ xs) xs) ≡ filter R (cond q (x ∷ ys) ys)
filter_one Q R x xs ys true true e f h = rw (e, f) (ap (λ zs. x ∷ zs) h)
filter_one Q R x xs ys true false e f h = rw f h
filter_one Q R x xs ys false true e f h = rw e h
filter_one Q R x xs ys false false e f h = h

-- two filters in either order
pub filter-filter : (Q R : ℕ → Bool) (xs : List ℕ) → filter Q (filter R xs) ≡ filter R (filter Q xs)
filter-filter Q R [] = refl
filter-filter Q R (x ∷ xs) = filter_one Q R x (filter R xs) (filter Q xs) (Q x) (R x) refl refl (filter-filter Q R xs)

pub filter-all : (Q : ℕ → Bool) (a n : ℕ) → ((x : ℕ) → a ≤ x → x < a + n → Q x ≡ true) → filter Q (range_with_len a n) ≡ range_with_len a n
filter-all Q a zero h = refl
filter-all Q a (suc n) h = rw (h a (omega arith) (omega arith)) (ap (λ xs. a ∷ xs) (filter-all Q (a + 1) n (λ x low high. h x (omega arith) (omega arith))))

pub filter-none : (Q : ℕ → Bool) (a n : ℕ) → ((x : ℕ) → a ≤ x → x < a + n → Q x ≡ false) → filter Q (range_with_len a n) ≡ []
filter-none Q a zero h = refl
filter-none Q a (suc n) h = rw (h a (omega arith) (omega arith)) (filter-none Q (a + 1) n (λ x low high. h x (omega arith) (omega arith)))

pub range-split : (a m n : ℕ) → range_with_len a (m + n) ≡ range_with_len a m ++ range_with_len (a + m) n
range-split a zero n = let none : zero + n ≡ n = omega arith in let same : a + zero ≡ a = omega arith in rw (none, same) refl
range-split a (suc m) n =
    let more : suc m + n ≡ suc (m + n) = omega arith in
    let next : a + suc m ≡ a + 1 + m = omega arith in
    rw (more, next) (ap (λ xs. a ∷ xs) (range-split (a + 1) m n))

append_none : (xs : List ℕ) → xs ++ [] ≡ xs
append_none [] = refl
append_none (x ∷ xs) = ap (λ ys. x ∷ ys) (append_none xs)

lt_true : (a b : ℕ) → a < b → nat_lt a b ≡ true
lt_true a b h = grind arith

lt_false : (a b : ℕ) → b ≤ a → nat_lt a b ≡ false
lt_false a b h = grind arith

le_true : (a b : ℕ) → a ≤ b → nat_le a b ≡ true
le_true a b h = grind arith

le_false : (a b : ℕ) → b < a → nat_le a b ≡ false
le_false a b h = grind arith

cut : (n low : ℕ) → low ≤ n → range_with_len 0 n ≡ range_with_len 0 low ++ range_with_len low (n - low)
cut n low h =
    let sum : n ≡ low + (n - low) = omega arith in
    let from : 0 + low ≡ low = omega arith in
    ap (range_with_len 0) sum ∙ range-split 0 low (n - low) ∙ ap (λ a. range_with_len 0 low ++ range_with_len a (n - low)) from

pub filter-above : (u n low : ℕ) → Cuts u n low → filter (λ v. nat_lt u v) (range_with_len 0 n) ≡ range_with_len low (n - low)
filter-above u n low c =
    let within = c.within in
    ap (filter (λ v. nat_lt u v)) (cut n low c.within)
    ∙ filter-append (λ v. nat_lt u v) (range_with_len 0 low) (range_with_len low (n - low))
    ∙ ap (λ xs. xs ++ filter (λ v. nat_lt u v) (range_with_len low (n - low))) (filter-none (λ v. nat_lt u v) 0 low (λ x a b. lt_false u x (c.below x (omega arith))))
    ∙ filter-all (λ v. nat_lt u v) low (n - low) (λ x a b. lt_true u x (c.above x a (omega arith)))

pub filter-below : (u n low : ℕ) → Cuts u n low → filter (λ v. nat_le v u) (range_with_len 0 n) ≡ range_with_len 0 low
filter-below u n low c =
    let within = c.within in
    ap (filter (λ v. nat_le v u)) (cut n low c.within)
    ∙ filter-append (λ v. nat_le v u) (range_with_len 0 low) (range_with_len low (n - low))
    ∙ ap (λ xs. filter (λ v. nat_le v u) (range_with_len 0 low) ++ xs) (filter-none (λ v. nat_le v u) low (n - low) (λ x a b. le_false x u (c.above x a (omega arith))))
    ∙ append_none (filter (λ v. nat_le v u) (range_with_len 0 low))
    ∙ filter-all (λ v. nat_le v u) 0 low (λ x a b. le_true x u (c.below x (omega arith)))

-- ---- the ring

-- the ring behind u: the live threads above it, and then those up to it
pub ring_after_cut : (m : MachineState) (u low : ℕ) → Cuts u (length m.world.rows) low
    → ring_after m u ≡ filter (is_live m.world) (range_with_len low (length m.world.rows - low)) ++ filter (is_live m.world) (range_with_len 0 low)
ring_after_cut m u low c =
    let n = length m.world.rows in
    let live = is_live m.world in
    let high = filter-filter (λ v. nat_lt u v) live (range_with_len 0 n) ∙ ap (filter live) (filter-above u n low c) in
    let rest = filter-filter (λ v. nat_le v u) live (range_with_len 0 n) ∙ ap (filter live) (filter-below u n low c) in
    ap (λ xs. xs ++ filter (λ v. nat_le v u) (live_threads m)) high ∙ ap (λ xs. filter live (range_with_len low (n - low)) ++ xs) rest

-- a search round the ring for what only live threads have
pub find-ring_after : (P : ℕ → Bool) (m : MachineState) (u low : ℕ) → IsAlso P (is_live m.world) → Cuts u (length m.world.rows) low
    → find P (ring_after m u) ≡ option_or (find P (range_with_len low (length m.world.rows - low))) (find P (range_with_len 0 low))
find-ring_after P m u low also c =
    let n = length m.world.rows in
    let live = is_live m.world in
    ap (find P) (ring_after_cut m u low c)
    ∙ find-append P (filter live (range_with_len low (n - low))) (filter live (range_with_len 0 low))
    ∙ ap (λ a. option_or a (find P (filter live (range_with_len 0 low)))) (find-filter_also P live (range_with_len low (n - low)) also)
    ∙ ap (λ a. option_or (find P (range_with_len low (n - low))) a) (find-filter_also P live (range_with_len 0 low) also)

head_first : (Q : ℕ → Bool) (t x : ℕ) (rest : List ℕ) (o : Option ℕ) (q : Bool) → head_or t rest ≡ unwrap_or o t → head_or t (cond q (x ∷ rest) rest) ≡ unwrap_or (cond q (Some x) o) t
head_first Q t x rest o true h = refl
head_first Q t x rest o false h = h

-- the head of a filter is what a search finds
pub head-filter : (Q : ℕ → Bool) (t : ℕ) (xs : List ℕ) → head_or t (filter Q xs) ≡ unwrap_or (find Q xs) t
head-filter Q t [] = refl
head-filter Q t (x ∷ xs) = head_first Q t x (filter Q xs) (find Q xs) (Q x) (head-filter Q t xs)

-- the next live thread round the ring
pub next_in_ring_cut : (m : MachineState) (u low : ℕ) → Cuts u (length m.world.rows) low
    → next_in_ring m u ≡ unwrap_or (option_or (find (is_live m.world) (range_with_len low (length m.world.rows - low))) (find (is_live m.world) (range_with_len 0 low))) u
next_in_ring_cut m u low c =
    let n = length m.world.rows in
    let live = is_live m.world in
    ap (head_or u) (ring_after_cut m u low c ∙ sym (filter-append live (range_with_len low (n - low)) (range_with_len 0 low)))
    ∙ head-filter live u (range_with_len low (n - low) ++ range_with_len 0 low)
    ∙ ap (λ a. unwrap_or a u) (find-append live (range_with_len low (n - low)) (range_with_len 0 low))
