-- A list that is padded with a time that no event has agrees with the list.
use Rattle.std.proofs.Common.{◌≡◌, ℕ, zero, suc, ◌+◌, ◌-◌, ◌<◌, ◌≤◌, max, cond, List, length, replicate, refl, ◌∙◌, ap, arith, length-append}
use Rattle.std.specs.Prelude.{◌==◌}
use Rattle.std.proofs.lemmas.List.{length-replicate}
use Rattle.std.proofs.lemmas.Bool.{ne_eqb}
use Rattle.std.proofs.lemmas.List.Sums.{sum_by-cons, sum_by-append}
use Rattle.schedule_model.specs.Schedules.{Agree, occurrences}
use Rattle.dd_isolator.specs.Shifts.{padded, padded_to}

none_in : (events event n : ℕ) → event < events → occurrences (replicate n events) event ≡ 0
none_in events event zero h = refl
none_in events event (suc n) h =
    sum_by-cons (λ time. cond (time == event) 1 0) events (replicate n events)
    ∙ ap (λ b. cond {A = ℕ} b 1 0 + occurrences (replicate n events) event) (ne_eqb events event (λ e. absurd (omega arith)))
    ∙ ap (λ k. 0 + k) (none_in events event n h)

agree_padded_to : (events size : ℕ) (times : List ℕ) → Agree events times (padded_to events size times)
agree_padded_to events size times event h =
    let e : occurrences (padded_to events size times) event ≡ occurrences times event + occurrences (replicate (size - length times) events) event = sum_by-append (λ time. cond (time == event) 1 0) times (replicate (size - length times) events) in
    omega (arith, none_in events event (size - length times) h)

pub agree_padded : (events : ℕ) (times others : List ℕ) → Agree events times (padded events times others)
agree_padded events times others = agree_padded_to events (max (length times) (length others)) times

pub length-padded_to : (events size : ℕ) (times : List ℕ) → length times ≤ size → length (padded_to events size times) ≡ size
length-padded_to events size times h = length-append times (replicate (size - length times) events) ∙ ap (λ n. length times + n) (length-replicate (size - length times) events) ∙ omega arith

pub same_length : (events : ℕ) (xs ys : List ℕ) → length (padded events ys xs) ≡ length (padded events xs ys)
same_length events xs ys =
    let a : length (padded events ys xs) ≡ max (length ys) (length xs) = length-padded_to events (max (length ys) (length xs)) ys (omega arith) in
    let b : length (padded events xs ys) ≡ max (length xs) (length ys) = length-padded_to events (max (length xs) (length ys)) xs (omega arith) in
    omega arith
