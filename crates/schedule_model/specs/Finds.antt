-- The first resolved one of several tests.
use Rattle.std.specs.Prelude.{◌≡◌, ◌<◌, ◌+◌, ℕ, true, List, length, All}
use Rattle.std.specs.List.{HoldsAt, AllWithin}
use Rattle.schedule_model.specs.declared.outcome.Outcome.{Outcome}
use Rattle.schedule_model.specs.declared.outcome.Outcome.TheVariants.{Unresolved}
use Rattle.schedule_model.specs.declared.rounds.Found.{Found}
use Rattle.schedule_model.specs.declared.rounds.Found.TheVariants.{Resolved, NoneResolved}
use Rattle.schedule_model.specs.Outcomes.{is_resolved}

-- what was found is the first resolved one of the tests, with its outcome
abbrev pub IsFirstResolved : (List ℕ → Outcome) → List (List ℕ) → Found → Type 0
IsFirstResolved outcome tests (Resolved at found) = (at < length tests) × (is_resolved found ≡ true) × HoldsAt (λ test. outcome test ≡ found) tests at × AllWithin (λ test. outcome test ≡ Unresolved) tests 0 at
IsFirstResolved outcome tests NoneResolved = All (λ test. outcome test ≡ Unresolved) tests

-- how many of the tests count: those up to and with the first resolved one
abbrev pub tests_counted : List (List ℕ) → Found → ℕ
tests_counted tests (Resolved at found) = at + 1
tests_counted tests NoneResolved = length tests
