-- What the answer of a batch says of its round.
use Rattle.std.proofs.Common.{◌≡◌, ℕ, ◌+◌, ◌-◌, ◌<◌, ◌≤◌, false, List, [], length, get_or, take, refl, sym, ◌∙◌, ap, arith}
use Rattle.std.proofs.lemmas.List.FromFn.{length-map-range_with_len, get_or-map-range_with_len, take-map-range_with_len}
use Rattle.schedule_model.specs.declared.outcome.Outcome.{Outcome}
use Rattle.schedule_model.specs.declared.outcome.Outcome.TheVariants.{Unresolved}
use Rattle.schedule_model.specs.declared.rounds.Found.TheVariants.{Resolved, NoneResolved}
use Rattle.schedule_model.specs.Outcomes.{unresolved_among}
use Rattle.schedule_model.specs.Finds.{IsFirstResolved, tests_counted}
use Rattle.switch_reducer.specs.declared.round.Answered.{Answered}
use Rattle.switch_reducer.specs.Rounds.{State, is_fail, schedules_within, test}
use Rattle.switch_reducer.specs.Answers.{IsAnswered}

module _ (outcome : List ℕ → Outcome) (s : State) (from count : ℕ) (tests : List (List ℕ)) (are : tests ≡ schedules_within s from count) where
  pub long : length tests ≡ count
  long = ap length are ∙ length-map-range_with_len (λ i. (test s i).times) from count

  at_place : (k : ℕ) → k < count → get_or tests k [] ≡ (test s (from + k)).times
  at_place k h = ap (λ l. get_or l k []) are ∙ get_or-map-range_with_len (λ i. (test s i).times) from count k (from + k) [] h refl

  -- what test i of the round shows, from what the batch shows
  shows : (i : ℕ) (o : Outcome) → from ≤ i → i < from + count → outcome (get_or tests (i - from) []) ≡ o → outcome (test s i).times ≡ o
  shows i o low high e =
      let back : from + (i - from) ≡ i = omega arith in
      ap outcome (ap (λ n. (test s n).times) (sym back) ∙ sym (at_place (i - from) (omega arith))) ∙ e

  pub answered_upto : (at : ℕ) (o : Outcome) (a : Answered) → a.count ≡ at + 1 → a.fails ≡ is_fail o → IsFirstResolved outcome tests (Resolved at o) → IsAnswered outcome s from count a
  answered_upto at o a e f first =
      let below : at < count = omega (arith, first.0, long) in
      record {
        some = omega arith;
        most = omega arith;
        before = λ i low high. ap is_fail (shows i Unresolved low (omega arith) (first.3 (i - from) [] (omega arith) (omega arith)));
        last = λ i here.
            let is : i - from ≡ at = omega arith in
            ap is_fail (shows i o (omega arith) (omega arith) (ap (λ n. outcome (get_or tests n [])) is ∙ first.2 [])) ∙ sym f;
      }

  pub answered_all : (a : Answered) → 0 < count → a.count ≡ count → a.fails ≡ false → IsFirstResolved outcome tests NoneResolved → IsAnswered outcome s from count a
  answered_all a some e f first =
      record {
        some = omega arith;
        most = omega arith;
        before = λ i low high. ap is_fail (shows i Unresolved low (omega arith) (first (i - from) [] (omega (arith, long))));
        last = λ i here. ap is_fail (shows i Unresolved (omega arith) (omega arith) (first (i - from) [] (omega (arith, long)))) ∙ sym f;
      }

  -- the schedules that are counted
  pub counted : (k : ℕ) → k ≤ count → take k tests ≡ schedules_within s from k
  counted k h = ap (take k) are ∙ take-map-range_with_len (λ i. (test s i).times) from count k h

  pub found_below : (at : ℕ) (o : Outcome) → IsFirstResolved outcome tests (Resolved at o) → at < count
  found_below at o first = omega (arith, first.0, long)

  pub unresolved_upto : (at : ℕ) (o : Outcome) (k u u' : ℕ) → k ≡ at + 1 → IsFirstResolved outcome tests (Resolved at o) → u' ≡ u + unresolved_among outcome (take (tests_counted tests (Resolved at o)) tests) → u' ≡ u + unresolved_among outcome (schedules_within s from k)
  unresolved_upto at o k u u' e first h =
      h ∙ ap (λ l. u + unresolved_among outcome l) (counted (at + 1) (omega (arith, found_below at o first)) ∙ ap (schedules_within s from) (sym e))

  pub unresolved_all : (u u' : ℕ) → u' ≡ u + unresolved_among outcome (take (tests_counted tests NoneResolved) tests) → u' ≡ u + unresolved_among outcome (schedules_within s from count)
  unresolved_all u u' h = h ∙ ap (λ l. u + unresolved_among outcome l) (ap (λ n. take n tests) long ∙ counted count (omega arith))
