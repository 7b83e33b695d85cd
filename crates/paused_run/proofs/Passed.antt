-- The times before a clock, and where two lists of times part.
use Rattle.std.specs.Prelude.{IsTrue}
use Rattle.std.proofs.Math.Dec.{leb}
use Rattle.std.proofs.lemmas.Bool.{leb-false, leb-true}
use Rattle.std.proofs.Common.{Bool, true, false, ◌≡◌, ℕ, zero, suc, ◌+◌, ◌≤◌, ◌<◌, cond, nat_eq, List, [], ◌∷◌, length, get_or, take, drop, refl, sym, ap, subst, ◌∙◌, arith}
use Rattle.std.proofs.lemmas.List.{drop-drop, take-append-drop, take_all}
use Rattle.std.proofs.Math.ListN.{drop_of_length-le}
use Rattle.std.proofs.Math.Seq.{drop-cons}
use Rattle.std.proofs.lemmas.List.Sums.{sum_by-append}
use Rattle.machine_model.specs.Ring.{switches_at}
use Rattle.thread_driver.specs.Waiting.{Awaits, Rises}
use Rattle.thread_driver.proofs.Waiting.{at_other, at_same, none_at, rises_weaker}
use Rattle.schedule_model.specs.Schedules.{Agree, occurrences}
use Rattle.paused_run.specs.Partings.{AreAlike, PartAt}

-- so many times were passed, all before the clock
pub record Passed (times : List ℕ) (clock passed : ℕ) (rest : List ℕ) : Type 0 where
  pub rising : Rises 0 rest
  pub same : (later : ℕ) → clock ≤ later → switches_at times later ≡ switches_at rest later
  pub dropped : rest ≡ drop passed times
  pub size : passed + length rest ≡ length times

pub passed-start : (times : List ℕ) (clock : ℕ) → Rises 0 times → Passed times clock 0 times
passed-start times clock r = record { rising = r; same = λ later h. refl; dropped = refl; size = omega arith }

pub passed-more : (times rest : List ℕ) (clock passed : ℕ) → 1 ≤ length rest → get_or rest 0 0 < clock → Passed times clock passed rest → Passed times clock (passed + 1) (drop 1 rest)
passed-more times [] clock passed h lt k = absurd (omega (arith, h))
passed-more times (t ∷ rest) clock passed h lt k =
    record {
      rising = rises_weaker 0 t rest (omega arith) k.rising.1;
      same = λ later g. k.same later g ∙ at_other later t rest (λ e. omega (arith, e, g, lt));
      dropped = ap (drop 1) k.dropped ∙ drop-drop 1 passed times;
      size = omega (arith, k.size);
    }

pub passed-all : (times rest : List ℕ) (clock passed : ℕ) → length rest < 1 → Passed times clock passed rest → Awaits times clock (drop passed times)
passed-all times [] clock passed h k = let left : Awaits times clock [] = record { rising = tt; same = k.same } in subst (Awaits times clock) k.dropped left
passed-all times (t ∷ rest) clock passed h k = absurd (omega (arith, h))

pub passed-up : (times rest : List ℕ) (clock passed : ℕ) → 1 ≤ length rest → clock ≤ get_or rest 0 0 → Passed times clock passed rest → Awaits times clock (drop passed times)
passed-up times [] clock passed h le k = absurd (omega (arith, h))
passed-up times (t ∷ rest) clock passed h le k = let left : Awaits times clock (t ∷ rest) = record { rising = (le, k.rising.1); same = k.same } in subst (Awaits times clock) k.dropped left

-- ---- partings

counted : (xs : List ℕ) (n time : ℕ) → occurrences xs time ≡ occurrences (take n xs) time + occurrences (drop n xs) time
counted xs n time =
    ap (λ (ts : List ℕ). occurrences ts time) (sym (take-append-drop n xs))
    ∙ sum_by-append (λ t. cond {A = ℕ} (nat_eq t time) 1 0) (take n xs) (drop n xs)

rises_on : (n from : ℕ) (xs : List ℕ) → n < length xs → Rises from xs → Rises (get_or xs n 0) (drop (suc n) xs)
rises_on n from [] h r = absurd (omega (arith, h))
rises_on zero from (x ∷ xs) h r = r.1
rises_on (suc n) from (x ∷ xs) h r = rises_on n x xs (omega (arith, h)) r.1

-- the one goes on with a time up to which the other has none
pub parts_here : (xs ys : List ℕ) (n : ℕ) → Rises 0 xs → n < length xs → take n xs ≡ take n ys → ((time : ℕ) → time ≤ get_or xs n 0 → occurrences (drop n ys) time ≡ 0) → PartAt (get_or xs n 0) xs ys
parts_here xs ys n rising lt front none =
    let x : ℕ = get_or xs n 0 in
    let rest = drop (suc n) xs in
    let more : drop n xs ≡ x ∷ rest = drop-cons xs n 0 lt in
    let rises : Rises x rest = rises_on n 0 xs lt rising in
    let same : (time : ℕ) → occurrences (take n xs) time ≡ occurrences (take n ys) time = λ time. ap (λ (ts : List ℕ). occurrences ts time) front in
    record {
      agree = λ time below.
          omega (arith, counted xs n time, counted ys n time, same time, none time (omega (arith, below)), ap (λ (ts : List ℕ). occurrences ts time) more, none_at time x (x ∷ rest) below (omega arith, rises));
      differ = λ e.
          omega (arith, e, counted xs n x, counted ys n x, same x, none x (omega arith), ap (λ (ts : List ℕ). occurrences ts x) more, at_same x x rest refl);
    }

pub none_left : (ys : List ℕ) (n time : ℕ) → length ys ≤ n → occurrences (drop n ys) time ≡ 0
none_left ys n time h = ap (λ (ts : List ℕ). occurrences ts time) (drop_of_length-le ys h)

pub none_yet : (ys : List ℕ) (n time : ℕ) → Rises 0 ys → n < length ys → time < get_or ys n 0 → occurrences (drop n ys) time ≡ 0
none_yet ys n time rising lt below =
    ap (λ (ts : List ℕ). occurrences ts time) (drop-cons ys n 0 lt)
    ∙ none_at time (get_or ys n 0) (get_or ys n 0 ∷ drop (suc n) ys) below (omega arith, rises_on n 0 ys lt rising)

pub parts-swap : (xs ys : List ℕ) (time : ℕ) → PartAt time ys xs → PartAt time xs ys
parts-swap xs ys time h = record { agree = λ e below. sym (h.agree e below); differ = λ e. h.differ (sym e) }

pub alike_whole : (xs ys : List ℕ) (n : ℕ) → length xs ≤ n → length ys ≤ n → take n xs ≡ take n ys → AreAlike xs ys
alike_whole xs ys n hx hy front time = ap (λ (ts : List ℕ). occurrences ts time) (sym (take_all n xs hx) ∙ front ∙ take_all n ys hy)

-- ---- agreeing below a clock

pub agree_below : (xs ys : List ℕ) (clock time : ℕ) → clock ≤ time → PartAt time xs ys → Agree clock xs ys
agree_below xs ys clock time h k e below = k.agree e (omega (arith, h, below))

pub disagree_above : (xs ys : List ℕ) (clock time : ℕ) → time < clock → PartAt time xs ys → Agree clock xs ys → ⊥
disagree_above xs ys clock time h k agree = k.differ (agree time h)

pub agree_if : (xs ys : List ℕ) (clock time : ℕ) (b : Bool) → leb clock time ≡ b → PartAt time xs ys → (IsTrue b → Agree clock xs ys) × (Agree clock xs ys → IsTrue b)
agree_if xs ys clock time true e k = (λ t. agree_below xs ys clock time (leb-true clock time e) k, λ a. refl)
agree_if xs ys clock time false e k = (λ t. absurd (cc), λ a. absurd (disagree_above xs ys clock time (leb-false clock time e) k a))
