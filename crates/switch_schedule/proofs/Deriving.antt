-- The least numbers of places, event by event.
use Rattle.std.proofs.Common.{◌≡◌, ◌≢◌, ℕ, zero, suc, ◌+◌, ◌*◌, ◌-◌, ◌<◌, ◌≤◌, true, false, cond, nat_eq, List, [], ◌∷◌, ◌++◌, Option, Some, None, length, take, replicate, refl, sym, ap, subst, ◌∙◌, arith, append_assoc, inl, inr}
use Rattle.std.specs.Prelude.{All, slice_get, slice_index}
use Rattle.std.specs.List.{AllByRecursion}
use Rattle.std.specs.Option.{is_some}
use Rattle.std.specs.List.Sorted.{IsNonDecreasing}
use Rattle.std.proofs.lemmas.Bool.{cases_lt, eq-eqb, ne_eqb}
use Rattle.std.proofs.lemmas.List.{append-nil, get_or-append_right, get_or_append_left, get_or-replicate, length-append, length-replicate}
use Rattle.std.proofs.lemmas.List.Elements.{All-append, All-nil, All-push, All-replicate, recursion_from_All}
use Rattle.std.proofs.lemmas.List.Folds.{sum_by-replicate}
use Rattle.std.proofs.lemmas.List.Sorted.{IsNonDecreasingBy-push, IsNonDecreasingBy-short}
use Rattle.std.proofs.lemmas.List.Sums.{sum_by-append, sum_by-cons}
use Rattle.std.proofs.lemmas.Option.{get_or_from_slice_get, slice_get-get_or, slice_get_within}
use Rattle.vm_model.specs.Program.{PlainProgram}
use Rattle.machine_model.specs.Machine.{MachineState, is_enabled, run}
use Rattle.machine_model.specs.Ring.{switches_at}
use Rattle.switch_schedule.specs.Derivations.{DerivesUpTo, HasDerived, IsLeastPlaces, thread_before}
use Rattle.switch_schedule.proofs.Reached.{least-places}

-- ---- how often a time occurs

one_if : ℕ → ℕ → ℕ
one_if event time = cond (nat_eq time event) 1 0

at-append : (xs ys : List ℕ) (event : ℕ) → switches_at (xs ++ ys) event ≡ switches_at xs event + switches_at ys event
at-append xs ys event = sum_by-append (λ time. cond {A = ℕ} (nat_eq time event) 1 0) xs ys

at-same : (k event : ℕ) → switches_at (replicate k event) event ≡ k
at-same k event = sum_by-replicate (λ time. cond {A = ℕ} (nat_eq time event) 1 0) k event ∙ ap (λ b. k * cond {A = ℕ} b 1 0) (eq-eqb event event refl) ∙ omega arith

at-other : (k time event : ℕ) → time ≢ event → switches_at (replicate k time) event ≡ 0
at-other k time event ne = sum_by-replicate (λ t. cond {A = ℕ} (nat_eq t event) 1 0) k time ∙ ap (λ b. k * cond {A = ℕ} b 1 0) (ne_eqb time event ne) ∙ omega arith

none_yet : (event : ℕ) (times : List ℕ) → AllByRecursion (λ time. time < event) times → switches_at times event ≡ 0
none_yet event [] h = refl
none_yet event (t ∷ ts) h =
    let other : t ≢ event = λ e. omega (arith, e, h.0) in
    sum_by-cons (λ time. cond {A = ℕ} (nat_eq time event) 1 0) t ts ∙ ap (λ b. cond {A = ℕ} b 1 0 + switches_at ts event) (ne_eqb t event other) ∙ omega (arith, none_yet event ts h.1)

pub none_of_event : (event : ℕ) (times : List ℕ) → All (λ time. time < event) times → switches_at times event ≡ 0
none_of_event event times h = none_yet event times (recursion_from_All (λ time. time < event) times h)

-- ---- rising

rising_more : (k clock : ℕ) (xs : List ℕ) → IsNonDecreasing xs → All (λ time. time ≤ clock) xs → IsNonDecreasing (xs ++ replicate k clock)
rising_more zero clock xs up low = subst IsNonDecreasing (sym (append-nil xs)) up
rising_more (suc k) clock xs up low =
    let one = IsNonDecreasingBy-push (λ x. x) xs clock up (λ d some. low (length xs - 1) d (omega (arith, some))) in
    let all = All-push (λ time. time ≤ clock) xs clock low (omega arith) in
    subst IsNonDecreasing (append_assoc xs (clock ∷ []) (replicate k clock)) (rising_more k clock (xs ++ clock ∷ []) one all)

-- ---- event by event

pub derives-start : (p : PlainProgram) (threads : List ℕ) → DerivesUpTo p threads 0 []
derives-start p threads = record { rising = IsNonDecreasingBy-short (λ x. x) [] (omega arith); within = All-nil (λ time. time < 0); least = λ event m lt ran. absurd (omega (arith, lt)) }

some_machine : (a b : MachineState) → Some a ≡ Some b → a ≡ b
some_machine a b e = cc

pub derives-more : (p : PlainProgram) (threads : List ℕ) (clock places : ℕ) (times : List ℕ) (m : MachineState) → run p (take clock threads) ≡ Some m → IsLeastPlaces p m (thread_before threads clock) (slice_index threads clock) places → DerivesUpTo p threads clock times
    → DerivesUpTo p threads (clock + 1) (times ++ replicate places clock)
derives-more p threads clock places times m ran is d =
    record {
      rising = rising_more places clock times d.rising (λ k e lt. omega (arith, d.within k e lt));
      within = All-append (λ time. time < clock + 1) times (replicate places clock) (λ k e lt. omega (arith, d.within k e lt)) (All-replicate (λ time. time < clock + 1) places clock (omega arith));
      least = λ event n lt there. elim (cases_lt event clock) [
        | inl before ↦ earlier event n before there
        | inr ge ↦ now event n (even event ge lt) there
      ];
    }
  where
    even : (event : ℕ) → clock ≤ event → event < clock + 1 → clock ≡ event
    even event ge lt = omega (arith, ge, lt)

    earlier : (event : ℕ) (n : MachineState) → event < clock → run p (take event threads) ≡ Some n → IsLeastPlaces p n (thread_before threads event) (slice_index threads event) (switches_at (times ++ replicate places clock) event)
    earlier event n before there =
        let other : clock ≢ event = λ e. omega (arith, e, before) in
        let none = at-other places clock event other in
        let same : switches_at times event ≡ switches_at (times ++ replicate places clock) event = omega (arith, at-append times (replicate places clock) event, none) in
        subst (IsLeastPlaces p n (thread_before threads event) (slice_index threads event)) same (d.least event n before there)

    here : (n : MachineState) → run p (take clock threads) ≡ Some n → IsLeastPlaces p n (thread_before threads clock) (slice_index threads clock) (switches_at (times ++ replicate places clock) clock)
    here n there =
        let same : places ≡ switches_at (times ++ replicate places clock) clock = omega (arith, at-append times (replicate places clock) clock, at-same places clock, none_of_event clock times d.within) in
        let P : ℕ → Type 0 = IsLeastPlaces p n (thread_before threads clock) (slice_index threads clock) in
        subst P same (subst (λ (k : MachineState). IsLeastPlaces p k (thread_before threads clock) (slice_index threads clock) places) (some_machine m n (sym ran ∙ there)) is)

    now : (event : ℕ) (n : MachineState) → clock ≡ event → run p (take event threads) ≡ Some n → IsLeastPlaces p n (thread_before threads event) (slice_index threads event) (switches_at (times ++ replicate places clock) event)
    now event n e there =
        let P : ℕ → Type 0 = λ k. run p (take k threads) ≡ Some n → IsLeastPlaces p n (thread_before threads k) (slice_index threads k) (switches_at (times ++ replicate places clock) k) in
        (subst P e (here n)) there

-- ---- the 16,385th time

pub passed_more : (times more : List ℕ) (clock : ℕ) → slice_get times 16384 ≡ Some clock → slice_get (times ++ more) 16384 ≡ Some clock
passed_more times more clock e =
    let within = slice_get_within times 16384 clock e in
    slice_get-get_or (times ++ more) 16384 0 (omega (arith, within, length-append times more))
    ∙ ap Some (get_or_append_left times more 0 16384 within ∙ get_or_from_slice_get times 16384 clock 0 e)

pub passed_here : (times : List ℕ) (places clock : ℕ) → length times ≤ 16384 → 16384 < length times + places → slice_get (times ++ replicate places clock) 16384 ≡ Some clock
passed_here times places clock low high =
    let more = replicate places clock in
    let size : length (times ++ more) ≡ length times + places = length-append times more ∙ ap (λ (n : ℕ). length times + n) (length-replicate places clock) in
    slice_get-get_or (times ++ more) 16384 0 (omega (arith, size, high))
    ∙ ap Some (get_or-append_right times more (length times) 16384 0 refl low ∙ get_or-replicate places (16384 - length times) clock 0 (omega (arith, low, high)))

-- ---- one event more

pub kept-more : (p : PlainProgram) (threads : List ℕ) (clock places : ℕ) (kept more : List ℕ) (m : MachineState) → run p (take clock threads) ≡ Some m → IsLeastPlaces p m (thread_before threads clock) (slice_index threads clock) places
    → length kept + places ≤ 16384 → more ≡ kept ++ replicate places clock → HasDerived p threads clock kept None → HasDerived p threads (clock + 1) more None
kept-more p threads clock places kept more m ran is low e h =
    let same : more ≡ h.times ++ replicate places clock = e ∙ ap (λ (ts : List ℕ). ts ++ replicate places clock) h.keeps.0 in
    let size : length (h.times ++ replicate places clock) ≡ length kept + places = ap length (sym same ∙ e) ∙ length-append kept (replicate places clock) ∙ ap (λ (n : ℕ). length kept + n) (length-replicate places clock) in
    record { times = h.times ++ replicate places clock; derives = derives-more p threads clock places h.times m ran is h.derives; keeps = (same, omega (arith, size, low)) }

pub passed-first : (p : PlainProgram) (threads : List ℕ) (clock places : ℕ) (kept : List ℕ) (m : MachineState) → run p (take clock threads) ≡ Some m → IsLeastPlaces p m (thread_before threads clock) (slice_index threads clock) places
    → 16384 < length kept + places → HasDerived p threads clock kept None → HasDerived p threads (clock + 1) kept (Some clock)
passed-first p threads clock places kept m ran is high h =
    record { times = h.times ++ replicate places clock; derives = derives-more p threads clock places h.times m ran is h.derives; keeps = passed_here h.times places clock h.keeps.1 (omega (arith, high, ap length h.keeps.0)) }

pub passed-on : (p : PlainProgram) (threads : List ℕ) (clock at : ℕ) (kept : List ℕ) (m : MachineState) → run p (take clock threads) ≡ Some m → length m.world.rows ≤ 64 → is_enabled p m (slice_index threads clock) ≡ true
    → HasDerived p threads clock kept (Some at) → HasDerived p threads (clock + 1) kept (Some at)
passed-on p threads clock at kept m ran few enabled h =
    let found = least-places p m (thread_before threads clock) (slice_index threads clock) few enabled in
    record { times = h.times ++ replicate found.0 clock; derives = derives-more p threads clock found.0 h.times m ran found.2 h.derives; keeps = passed_more h.times (replicate found.0 clock) at h.keeps }

-- ---- where it is told whether there was one too many

pub passed-stays : (p : PlainProgram) (threads : List ℕ) (clock : ℕ) (kept : List ℕ) (passed : Option ℕ) (m : MachineState) → is_some passed ≡ true → run p (take clock threads) ≡ Some m → length m.world.rows ≤ 64 → is_enabled p m (slice_index threads clock) ≡ true
    → HasDerived p threads clock kept passed → HasDerived p threads (clock + 1) kept passed
passed-stays p threads clock kept None m e ran few enabled h = cc
passed-stays p threads clock kept (Some at) m e ran few enabled h = passed-on p threads clock at kept m ran few enabled h

pub none_passed : (p : PlainProgram) (threads : List ℕ) (clock : ℕ) (kept : List ℕ) (passed : Option ℕ) → is_some passed ≡ false → HasDerived p threads clock kept passed → HasDerived p threads clock kept None
none_passed p threads clock kept None e h = h
none_passed p threads clock kept (Some at) e h = cc
