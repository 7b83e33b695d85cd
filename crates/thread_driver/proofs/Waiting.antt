-- The times of a schedule that are still to come.
use Rattle.std.proofs.Common.{◌≡◌, ◌≢◌, ℕ, suc, ◌+◌, ◌≤◌, ◌<◌, cond, nat_eq, List, [], ◌∷◌, length, get_or, drop, refl, sym, ap, subst, ◌∙◌, arith}
use Rattle.std.specs.List.Sorted.{IsNonDecreasingBy, IsPermutation}
use Rattle.std.proofs.lemmas.Bool.{ne_eqb, eq-eqb}
use Rattle.std.proofs.lemmas.List.{drop-drop}
use Rattle.std.proofs.lemmas.List.Sorted.{sum_by-IsPermutation}
use Rattle.std.proofs.lemmas.List.Sums.{sum_by-cons}
use Rattle.machine_model.specs.Ring.{switches_at}
use Rattle.thread_driver.specs.Waiting.{Awaits, Rises}

pub rises_weaker : (low from : ℕ) (times : List ℕ) → low ≤ from → Rises from times → Rises low times
rises_weaker low from [] h r = tt
rises_weaker low from (t ∷ ts) h r = (omega (arith, h, r.0), r.1)

at_cons : (event t : ℕ) (ts : List ℕ) → switches_at (t ∷ ts) event ≡ cond (nat_eq t event) 1 0 + switches_at ts event
at_cons event t ts = sum_by-cons (λ time. cond {A = ℕ} (nat_eq time event) 1 0) t ts

pub at_same : (event t : ℕ) (ts : List ℕ) → t ≡ event → switches_at (t ∷ ts) event ≡ 1 + switches_at ts event
at_same event t ts e = at_cons event t ts ∙ ap (λ b. cond {A = ℕ} b 1 0 + switches_at ts event) (eq-eqb t event e)

pub at_other : (event t : ℕ) (ts : List ℕ) → t ≢ event → switches_at (t ∷ ts) event ≡ switches_at ts event
at_other event t ts e = at_cons event t ts ∙ ap (λ b. cond {A = ℕ} b 1 0 + switches_at ts event) (ne_eqb t event e) ∙ omega arith

-- later times aren't this event's
pub none_at : (event from : ℕ) (ts : List ℕ) → event < from → Rises from ts → switches_at ts event ≡ 0
none_at event from [] h r = refl
none_at event from (t ∷ ts) h r = at_other event t ts (λ e. omega (arith, e, h, r.0)) ∙ none_at event t ts (omega (arith, h, r.0)) r.1

-- ---- sorting

rises_at : (from : ℕ) (xs : List ℕ) → ((i d : ℕ) → i < length xs → from ≤ get_or xs i d) → IsNonDecreasingBy (λ x. x) xs → Rises from xs
rises_at from [] low up = tt
rises_at from (x ∷ xs) low up = (low 0 0 (omega arith), rises_at x xs (λ i d h. up 0 (suc i) d (omega arith) (omega (arith, h))) (λ i j d h k. up (suc i) (suc j) d (omega (arith, h)) (omega (arith, k))))

pub sorted-awaits : (times sorted : List ℕ) → IsPermutation times sorted → IsNonDecreasingBy (λ x. x) sorted → Awaits times 0 sorted
sorted-awaits times sorted moved up =
    record {
      rising = rises_at 0 sorted (λ i d h. omega arith) up;
      same = λ later h. sym (sum_by-IsPermutation (λ time. cond {A = ℕ} (nat_eq time later) 1 0) times sorted moved);
    }

-- ---- an event takes its times

-- so many of the times were taken
pub record Taken (times : List ℕ) (event places : ℕ) (rest : List ℕ) : Type 0 where
  pub counted : switches_at times event ≡ places + switches_at rest event
  pub rising : Rises event rest
  pub same : (later : ℕ) → event < later → switches_at times later ≡ switches_at rest later
  pub dropped : rest ≡ drop places times
  pub size : places + length rest ≡ length times

pub taken-start : (event : ℕ) (times : List ℕ) → Rises event times → Taken times event 0 times
taken-start event times r = record { counted = omega arith; rising = r; same = λ later h. refl; dropped = refl; size = omega arith }

drop_one : (n : ℕ) (xs ys : List ℕ) (x : ℕ) → x ∷ xs ≡ drop n ys → xs ≡ drop (n + 1) ys
drop_one n xs ys x e = ap (drop 1) e ∙ drop-drop 1 n ys

pub taken-more : (event places : ℕ) (times rest : List ℕ) → 1 ≤ length rest → get_or rest 0 0 ≡ event → Taken times event places rest → Taken times event (places + 1) (drop 1 rest)
taken-more event places times [] h e k = absurd (omega (arith, h))
taken-more event places times (t ∷ rest) h e k =
    record {
      counted = omega (arith, k.counted, at_same event t rest e);
      rising = rises_weaker event t rest (omega (arith, e)) k.rising.1;
      same = λ later g. k.same later g ∙ at_other later t rest (λ f. omega (arith, e, f, g));
      dropped = drop_one places rest times t k.dropped;
      size = omega (arith, k.size);
    }

-- all times of this event are taken
pub record TakenAll (times : List ℕ) (event places : ℕ) : Type 0 where
  pub value : places ≡ switches_at times event
  pub left : Awaits times (event + 1) (drop places times)

pub taken-all : (event places : ℕ) (times rest : List ℕ) → length rest < 1 → Taken times event places rest → TakenAll times event places
taken-all event places times (t ∷ rest) h k = absurd (omega (arith, h))
taken-all event places times [] h k =
    let rest : Awaits times (event + 1) [] = record { rising = tt; same = λ later g. k.same later (omega (arith, g)) } in
    record { value = omega (arith, k.counted); left = subst (Awaits times (event + 1)) k.dropped rest }

pub taken-other : (event places : ℕ) (times rest : List ℕ) → 1 ≤ length rest → get_or rest 0 0 ≢ event → Taken times event places rest → TakenAll times event places
taken-other event places times [] h ne k = absurd (omega (arith, h))
taken-other event places times (t ∷ rest) h ne k =
    let above : event < t = omega (arith, ne, k.rising.0) in
    let none : switches_at (t ∷ rest) event ≡ 0 = at_other event t rest ne ∙ none_at event t rest above k.rising.1 in
    let left : Awaits times (event + 1) (t ∷ rest) = record { rising = (omega (arith, above), k.rising.1); same = λ later g. k.same later (omega (arith, g)) } in
    record { value = omega (arith, k.counted, none); left = subst (Awaits times (event + 1)) k.dropped left }

-- ---- from event to event

-- what is left after an event that took its times
pub awaits-more : (times sorted waiting : List ℕ) (passed places n event m : ℕ) → waiting ≡ drop passed sorted → event ≡ n → m ≡ n + 1 → Awaits times n (drop passed sorted) → Awaits waiting (event + 1) (drop places waiting) → Awaits times m (drop (passed + places) sorted)
awaits-more times sorted waiting passed places n event m same now next a b =
    let rest : drop places waiting ≡ drop (passed + places) sorted = ap (drop places) same ∙ drop-drop places passed sorted in
    let left : Awaits waiting (event + 1) (drop (passed + places) sorted) = subst (Awaits waiting (event + 1)) rest b in
    let low : m ≡ event + 1 = omega (arith, now, next) in
    record {
      rising = rises_weaker m (event + 1) (drop (passed + places) sorted) (omega (arith, low)) left.rising;
      same = λ later h. a.same later (omega (arith, h, next)) ∙ ap (λ (ts : List ℕ). switches_at ts later) (sym same) ∙ left.same later (omega (arith, h, low));
    }

-- the number of places is that of the whole schedule
pub awaited : (times sorted waiting : List ℕ) (passed places n event : ℕ) → waiting ≡ drop passed sorted → event ≡ n → Awaits times n (drop passed sorted) → places ≡ switches_at waiting event → places ≡ switches_at times n
awaited times sorted waiting passed places n event same now a e =
    e ∙ ap (switches_at waiting) now ∙ ap (λ (ts : List ℕ). switches_at ts n) same ∙ sym (a.same n (omega arith))
