-- What the answer of a batch says of its round.
use Rattle.std.proofs.Common.{◌≡◌, ℕ, ◌+◌, ◌-◌, ◌<◌, ◌≤◌, true, List, [], length, map, get_or, take, refl, sym, ◌∙◌, ap, arith}
use Rattle.std.specs.Prelude.{Some, None}
use Rattle.std.specs.List.{range_with_len}
use Rattle.std.proofs.lemmas.List.FromFn.{length-map-range_with_len, get_or-map-range_with_len}
use Rattle.schedule_model.specs.declared.outcome.Outcome.{Outcome}
use Rattle.schedule_model.specs.declared.outcome.Outcome.TheVariants.{Unresolved}
use Rattle.schedule_model.specs.declared.rounds.Found.TheVariants.{Resolved, NoneResolved}
use Rattle.schedule_model.specs.Outcomes.{is_resolved, unresolved_among}
use Rattle.schedule_model.specs.Finds.{IsFirstResolved, tests_counted}
use Rattle.schedule_model.proofs.Fronts.{unresolved_front, resolved_next}
use Rattle.dd_isolator.specs.declared.round.Decision.{Decision}
use Rattle.dd_isolator.specs.Rounds.{State, test}
use Rattle.dd_isolator.specs.Answers.{IsOpen, IsFirstOf, Counts}

module _ (outcome : List ℕ → Outcome) (s : State) (from count : ℕ) (tests : List (List ℕ)) (are : tests ≡ map (λ i. (test s i).times) (range_with_len from count)) where
  pub long : length tests ≡ count
  long = ap length are ∙ length-map-range_with_len (λ i. (test s i).times) from count

  at_place : (k : ℕ) → k < count → get_or tests k [] ≡ (test s (from + k)).times
  at_place k h = ap (λ l. get_or l k []) are ∙ get_or-map-range_with_len (λ i. (test s i).times) from count k (from + k) [] h refl

  open_at : (i : ℕ) → from ≤ i → i < from + count → outcome (get_or tests (i - from) []) ≡ Unresolved → IsOpen outcome s i
  open_at i low high e =
      let back : from + (i - from) ≡ i = omega arith in
      ap is_resolved (ap outcome (ap (λ n. (test s n).times) (sym back) ∙ sym (at_place (i - from) (omega arith))) ∙ e)

  pub first_resolved_of : (at : ℕ) (o : Outcome) (d : Decision) → d.place ≡ from + at → d.outcome ≡ o → IsFirstResolved outcome tests (Resolved at o) → IsFirstOf outcome s from count (Some d)
  first_resolved_of at o d e f first =
      let below : at < count = omega (arith, first.0, long) in
      let here : outcome (test s d.place).times ≡ d.outcome = ap (λ n. outcome (test s n).times) e ∙ ap outcome (sym (at_place at below)) ∙ first.2 [] ∙ sym f in (
        omega arith,
        omega arith,
        here,
        ap is_resolved f ∙ first.1,
        λ i low high. open_at i low (omega arith) (first.3 (i - from) [] (omega arith) (omega arith)),
      )

  pub none_resolved_of : IsFirstResolved outcome tests NoneResolved → IsFirstOf outcome s from count None
  none_resolved_of first = λ i low high. open_at i low high (first (i - from) [] (omega (arith, long)))

  pub resolved_counts : (at : ℕ) (o : Outcome) (d : Decision) (a a' u u' : ℕ) → d.place ≡ from + at → IsFirstResolved outcome tests (Resolved at o) → a' ≡ a + tests_counted tests (Resolved at o) → u' ≡ u + unresolved_among outcome (take (tests_counted tests (Resolved at o)) tests) → Counts from count (Some d) a a' u u'
  resolved_counts at o d a a' u u' e first asked unresolved =
      let sure : is_resolved (outcome (get_or tests at [])) ≡ true = ap is_resolved (first.2 []) ∙ first.1 in
      let n : unresolved_among outcome (take (at + 1) tests) ≡ at = resolved_next outcome tests at first.0 sure first.3 in
      (omega arith, omega arith)

  pub none_counts : (a a' u u' : ℕ) → IsFirstResolved outcome tests NoneResolved → a' ≡ a + tests_counted tests NoneResolved → u' ≡ u + unresolved_among outcome (take (tests_counted tests NoneResolved) tests) → Counts from count None a a' u u'
  none_counts a a' u u' first asked unresolved =
      let n : unresolved_among outcome (take (length tests) tests) ≡ length tests = unresolved_front outcome tests (length tests) (omega arith) (λ j d low below. first j d below) in
      (omega (arith, long), omega (arith, long))

  pub found_below : (at : ℕ) (o : Outcome) → IsFirstResolved outcome tests (Resolved at o) → at < count
  found_below at o first = omega (arith, first.0, long)
