-- Round the ring each thread that can go on is reached.
use Rattle.std.proofs.Common.{◌≡◌, ◌≢◌, ℕ, zero, suc, ◌+◌, ◌-◌, ◌<◌, ◌≤◌, Bool, true, false, nat_eq, Option, Some, None, ◌⊎◌, inl, inr, length, refl, sym, ap, ◌∙◌, arith}
use Rattle.std.specs.Prelude.{find, unwrap_or}
use Rattle.std.specs.Option.{option_or}
use Rattle.std.specs.List.{range_with_len}
use Rattle.std.proofs.lemmas.Bool.{cases_lt, eqb-false}
use Rattle.std.proofs.lemmas.Bool.Decides.{nat_tests}
use Rattle.vm_model.specs.Program.{PlainProgram}
use Rattle.machine_model.specs.Shared.{is_live}
use Rattle.machine_model.specs.Machine.{MachineState, is_enabled}
use Rattle.machine_model.specs.Ring.{Cuts, moved_on, next_in_ring, pick}
use Rattle.machine_model.proofs.Picks.{cut_of, enabled_thread-live}
use Rattle.machine_model.proofs.Rings.{next_in_ring_cut}
use Rattle.machine_model.proofs.Turns.{live-started}
use Rattle.switch_schedule.specs.Derivations.{IsLeastPlaces}

-- ---- a search in rising order

-- what a search among so many numbers finds, where t is one of them that passes
record Finds (P : ℕ → Bool) (low n t : ℕ) : Type 0 where
  thread : ℕ
  found : find P (range_with_len low n) ≡ Some thread
  from : low ≤ thread
  within : thread ≤ t

finds : (P : ℕ → Bool) (low n t : ℕ) → low ≤ t → t < low + n → P t ≡ true → Finds P low n t
finds P low zero t h k e = absurd (omega (arith, h, k))
finds P low (suc n) t h k e = by_test (P low) refl (λ ne. finds P (low + 1) n t (omega (arith, h, ne)) (omega (arith, k)) e)
  where
    by_test : (b : Bool) → P low ≡ b → (low ≢ t → Finds P (low + 1) n t) → Finds P low (suc n) t
    by_test true now later = record { thread = low; found = rw now refl; from = omega arith; within = h }
    by_test false now later =
        let other : low ≢ t = λ same. (let clash : P t ≡ false = ap P (sym same) ∙ now in cc) in
        let r = later other in
        record { thread = r.thread; found = rw now r.found; from = omega (arith, r.from); within = r.within }

record FindsAbove (P : ℕ → Bool) (low n : ℕ) (o : Option ℕ) : Type 0 where
  within : (x : ℕ) → o ≡ Some x → (low ≤ x) × (x < low + n)

finds_above : (P : ℕ → Bool) (low n : ℕ) → FindsAbove P low n (find P (range_with_len low n))
finds_above P low zero = record { within = λ x e. absurd (none x e) }
  where
    none : (x : ℕ) → None ≡ Some x → ⊥
    none x e = cc
finds_above P low (suc n) = by_test (P low) refl (finds_above P (low + 1) n)
  where
    here : (x : ℕ) → Some low ≡ Some x → low ≡ x
    here x e = cc

    by_test : (b : Bool) → P low ≡ b → FindsAbove P (low + 1) n (find P (range_with_len (low + 1) n)) → FindsAbove P low (suc n) (find P (range_with_len low (suc n)))
    by_test true now later = record { within = λ x e. let same = here x (sym (rw now refl) ∙ e) in (omega (arith, same), omega (arith, same)) }
    by_test false now later = record { within = λ x e. let r = later.within x (sym (rw now refl) ∙ e) in (omega (arith, r.0), omega (arith, r.1)) }

-- ---- one place

-- the next thread is above, and not above t where t is above; else it is at most t
next_below : (m : MachineState) (u t : ℕ) → u < t → is_live m.world t ≡ true → (u < next_in_ring m u) × (next_in_ring m u ≤ t)
next_below m u t h live =
    let n = length m.world.rows in
    let c = cut_of u n in
    let low = c.0 in
    let some = live-started m t live in
    let from : low ≤ t = elim (cases_lt t low) [ inl k ↦ absurd (omega (arith, c.1.below t k, h)) | inr k ↦ k ] in
    let f = finds (is_live m.world) low (n - low) t from (omega (arith, c.1.within, some)) live in
    let is : next_in_ring m u ≡ f.thread = next_in_ring_cut m u low c.1 ∙ ap (λ o. unwrap_or (option_or o (find (is_live m.world) (range_with_len 0 low))) u) f.found in
    let above = c.1.above f.thread f.from (omega (arith, f.within, some)) in
    (omega (arith, is, above), omega (arith, is, f.within))

round_case : (m : MachineState) (u t low : ℕ) (o : Option ℕ) → Cuts u (length m.world.rows) low → t ≤ u → is_live m.world t ≡ true → find (is_live m.world) (range_with_len low (length m.world.rows - low)) ≡ o
    → ((u < next_in_ring m u) × (next_in_ring m u < length m.world.rows)) ⊎ (next_in_ring m u ≤ t)
round_case m u t low (Some x) c h live e =
    let n = length m.world.rows in
    let is : next_in_ring m u ≡ x = next_in_ring_cut m u low c ∙ ap (λ o. unwrap_or (option_or o (find (is_live m.world) (range_with_len 0 low))) u) e in
    let at = (finds_above (is_live m.world) low (n - low)).within x e in
    let below : x < n = omega (arith, at.1, c.within) in
    let above : u < x = c.above x at.0 below in
    inl (omega (arith, is, above), omega (arith, is, below))
round_case m u t low None c h live e =
    let n = length m.world.rows in
    let some : t < n = live-started m t live in
    let under : t < low = elim (cases_lt t low) [ inl k ↦ k | inr k ↦ absurd (omega (arith, c.above t k some, h)) ] in
    let f = finds (is_live m.world) 0 low t (omega arith) (omega (arith, under)) live in
    let is : next_in_ring m u ≡ f.thread = next_in_ring_cut m u low c ∙ ap (λ o. unwrap_or (option_or o (find (is_live m.world) (range_with_len 0 low))) u) e ∙ ap (λ o. unwrap_or (option_or None o) u) f.found in
    inr (omega (arith, is, f.within))

next_round : (m : MachineState) (u t : ℕ) → t ≤ u → is_live m.world t ≡ true → ((u < next_in_ring m u) × (next_in_ring m u < length m.world.rows)) ⊎ (next_in_ring m u ≤ t)
next_round m u t h live =
    let c = cut_of u (length m.world.rows) in
    round_case m u t c.0 (find (is_live m.world) (range_with_len c.0 (length m.world.rows - c.0))) c.1 h live refl

-- ---- so many places

record Reaches (m : MachineState) (u t most : ℕ) : Type 0 where
  places : ℕ
  few : places ≤ most
  there : moved_on m u places ≡ t

one_more : (m : MachineState) (u t most : ℕ) → Reaches m (next_in_ring m u) t most → Reaches m u t (suc most)
one_more m u t most r = record { places = suc r.places; few = omega (arith, r.few); there = r.there }

reaches_more : (m : MachineState) (u t low most : ℕ) → low ≤ most → Reaches m u t low → Reaches m u t most
reaches_more m u t low most h r = record { places = r.places; few = omega (arith, h, r.few); there = r.there }

at_once : (m : MachineState) (u t most : ℕ) → u ≡ t → Reaches m u t most
at_once m u t most e = record { places = 0; few = omega arith; there = e }

-- from below
reaches_up : (m : MachineState) (t : ℕ) → is_live m.world t ≡ true → (fuel u : ℕ) → u ≤ t → t ≤ u + fuel → Reaches m u t fuel
reaches_up m t live zero u h k = at_once m u t 0 (omega (arith, h, k))
reaches_up m t live (suc fuel) u h k =
    elim (cases_lt u t) [
      | inl lt ↦ (let next = next_below m u t lt live in one_more m u t fuel (reaches_up m t live fuel (next_in_ring m u) next.1 (omega (arith, next.0, k))))
      | inr ge ↦ at_once m u t (suc fuel) (omega (arith, h, ge))
    ]

from_low : (m : MachineState) (t : ℕ) → is_live m.world t ≡ true → (u : ℕ) → u ≤ t → Reaches m u t t
from_low m t live u h = reaches_up m t live t u h (omega arith)

-- from t or above, once round
reaches_round : (m : MachineState) (t : ℕ) → is_live m.world t ≡ true → (fuel u : ℕ) → t ≤ u → length m.world.rows ≤ u + fuel → Reaches m u t (suc (fuel + t))
reaches_round m t live zero u h k =
    elim (next_round m u t h live) [
      | inl up ↦ absurd (omega (arith, up.0, up.1, k))
      | inr low ↦ reaches_more m u t (suc t) (suc (zero + t)) (omega arith) (one_more m u t t (from_low m t live (next_in_ring m u) low))
    ]
reaches_round m t live (suc fuel) u h k =
    elim (next_round m u t h live) [
      | inl up ↦ reaches_more m u t (suc (suc (fuel + t))) (suc (suc fuel + t)) (omega arith) (one_more m u t (suc (fuel + t)) (reaches_round m t live fuel (next_in_ring m u) (omega (arith, h, up.0)) (omega (arith, k, up.0))))
      | inr low ↦ reaches_more m u t (suc t) (suc (suc fuel + t)) (omega arith) (one_more m u t t (from_low m t live (next_in_ring m u) low))
    ]

reaches : (m : MachineState) (u t : ℕ) → is_live m.world t ≡ true → length m.world.rows ≤ 64 → Reaches m u t 128
reaches m u t live few =
    let some : t < length m.world.rows = live-started m t live in
    elim (cases_lt u t) [
      | inl lt ↦ reaches_more m u t t 128 (omega (arith, some, few)) (from_low m t live u (omega (arith, lt)))
      | inr ge ↦ reaches_more m u t (suc (64 + t)) 128 (omega (arith, some, few)) (reaches_round m t live 64 u ge (omega (arith, few)))
    ]

-- ---- the least number of places

pub picks_there : (p : PlainProgram) (m : MachineState) (u t places : ℕ) → is_enabled p m t ≡ true → moved_on m u places ≡ t → pick p m u places ≡ Some t
picks_there p m u t places enabled there = rw there (rw enabled refl)

decided : (o : Option ℕ) (t : ℕ) → (o ≡ Some t) ⊎ (o ≢ Some t)
decided None t = inr (λ e. none e)
  where
    none : None ≡ Some t → ⊥
    none e = cc
decided (Some x) t = by_test (nat_eq x t) refl
  where
    inner : Some x ≡ Some t → x ≡ t
    inner e = cc

    same : nat_eq x t ≡ true → x ≡ t
    same e = grind (arith, nat_tests)

    by_test : (b : Bool) → nat_eq x t ≡ b → (Some x ≡ Some t) ⊎ (Some x ≢ Some t)
    by_test true e = inl (ap Some (same e))
    by_test false e = inr (λ f. eqb-false x t e (inner f))

-- the first number from one on where the search ends
first_from : (p : PlainProgram) (m : MachineState) (u t fuel low most : ℕ) → most ≤ low + fuel → low ≤ most → pick p m u most ≡ Some t → ((fewer : ℕ) → fewer < low → pick p m u fewer ≢ Some t)
    → (places : ℕ) × (places ≤ most) × IsLeastPlaces p m u t places
first_from p m u t zero low most h k at none =
    let same : low ≡ most = omega (arith, h, k) in
    (most, omega arith, record { leads = at; least = λ fewer lt. none fewer (omega (arith, lt, same)) })
first_from p m u t (suc fuel) low most h k at none =
    elim (decided (pick p m u low) t) [
      | inl here ↦ (low, k, record { leads = here; least = none })
      | inr other ↦ first_from p m u t fuel (low + 1) most (omega (arith, h)) (passed other) at (λ fewer lt. below fewer lt other)
    ]
  where
    passed : pick p m u low ≢ Some t → low + 1 ≤ most
    passed other = elim (cases_lt low most) [ inl lt ↦ omega (arith, lt) | inr ge ↦ absurd (other (ap (pick p m u) (even ge) ∙ at)) ]
      where
        even : most ≤ low → low ≡ most
        even ge = omega (arith, ge, k)

    below : (fewer : ℕ) → fewer < low + 1 → pick p m u low ≢ Some t → pick p m u fewer ≢ Some t
    below fewer lt other = elim (cases_lt fewer low) [ inl less ↦ none fewer less | inr ge ↦ λ e. other (ap (pick p m u) (even ge) ∙ e) ]
      where
        even : low ≤ fewer → low ≡ fewer
        even ge = omega (arith, ge, lt)

pub least-places : (p : PlainProgram) (m : MachineState) (before thread : ℕ) → length m.world.rows ≤ 64 → is_enabled p m thread ≡ true → (places : ℕ) × (places ≤ 128) × IsLeastPlaces p m before thread places
least-places p m before thread few enabled =
    let r = reaches m before thread (enabled_thread-live p m thread enabled) few in
    let found = first_from p m before thread r.places 0 r.places (omega arith) (omega arith) (picks_there p m before thread r.places enabled r.there) (λ fewer lt. absurd (omega (arith, lt))) in
    (found.0, omega (arith, found.1, r.few), found.2)
