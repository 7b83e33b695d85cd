-- A group of tests among all.
use Rattle.std.proofs.Common.{◌≡◌, ℕ, ◌+◌, ◌-◌, ◌<◌, ◌≤◌, List, length, get_or, drop, ap, sym, ◌∙◌, subst, arith, inl, inr}
use Rattle.std.specs.Prelude.{◌⊎◌, All}
use Rattle.std.specs.List.{AllWithin, slice_range}
use Rattle.std.proofs.lemmas.Bool.{cases_lt}
use Rattle.std.proofs.lemmas.List.{get_or-take, get_or-drop, length-take, length-drop}
use Rattle.schedule_model.specs.declared.outcome.Outcome.{Outcome}
use Rattle.schedule_model.specs.declared.outcome.Outcome.TheVariants.{Unresolved}
use Rattle.schedule_model.specs.declared.rounds.Found.TheVariants.{Resolved, NoneResolved}
use Rattle.schedule_model.specs.Finds.{IsFirstResolved}

module _ (tests : List (List ℕ)) (done end : ℕ) (order : done ≤ end) (within : end ≤ length tests) where
  pub length-group : length (slice_range tests done end) ≡ end - done
  length-group = omega (arith, length-take (end - done) (drop done tests), length-drop done tests)

  group_at : (k : ℕ) (d : List ℕ) → k < end - done → get_or (slice_range tests done end) k d ≡ get_or tests (done + k) d
  group_at k d h = get_or-take (end - done) (drop done tests) k d h ∙ get_or-drop done tests k d

  pub All-group : (P : List ℕ → Type 0) → All P tests → All P (slice_range tests done end)
  All-group P all k d h =
      let below : k < end - done = omega (arith, length-group) in
      subst P (sym (group_at k d below)) (all (done + k) d (omega arith))

  module _ (outcome : List ℕ → Outcome) (tried : AllWithin (λ test. outcome test ≡ Unresolved) tests 0 done) where
    tried_before : (at : ℕ) → done + at ≤ end → AllWithin (λ test. outcome test ≡ Unresolved) (slice_range tests done end) 0 at → AllWithin (λ test. outcome test ≡ Unresolved) tests 0 (done + at)
    tried_before at fits later k d low high = by_place (cases_lt k done)
      where
        by_place : (k < done) ⊎ (done ≤ k) → outcome (get_or tests k d) ≡ Unresolved
        by_place (inl before) = tried k d low before
        by_place (inr after) =
            let back : done + (k - done) ≡ k = omega arith in
            ap (λ n. outcome (get_or tests n d)) (sym back) ∙ ap outcome (sym (group_at (k - done) d (omega arith))) ∙ later (k - done) d (omega arith) (omega arith)

    pub first_later : (at : ℕ) (o : Outcome) → IsFirstResolved outcome (slice_range tests done end) (Resolved at o) → IsFirstResolved outcome tests (Resolved (done + at) o)
    first_later at o first =
        let below : at < end - done = omega (arith, first.0, length-group) in (
          omega arith,
          first.1,
          λ d. ap outcome (sym (group_at at d below)) ∙ first.2 d,
          tried_before at (omega arith) first.3,
        )

    pub none_later : IsFirstResolved outcome (slice_range tests done end) NoneResolved → AllWithin (λ test. outcome test ≡ Unresolved) tests 0 end
    none_later none =
        let whole : done + (end - done) ≡ end = omega arith in
        subst (λ n. AllWithin (λ test. outcome test ≡ Unresolved) tests 0 n) whole (tried_before (end - done) (omega arith) (λ k d low high. none k d (omega (arith, length-group))))
