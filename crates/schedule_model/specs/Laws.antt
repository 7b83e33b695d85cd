-- Laws of faults and of schedules.
use Rattle.std.specs.Prelude.{◌≡◌, ◌≤◌, ◌↔◌, ℕ, IsTrue, List, ◌++◌, ◌∷◌, length}
use Rattle.vm_model.specs.declared.ends.Fault.{Fault}
use Rattle.schedule_model.specs.declared.outcome.Outcome.{Outcome}
use Rattle.schedule_model.specs.Outcomes.{is_same_fault, unresolved_among}
use Rattle.schedule_model.specs.Schedules.{Agree}

-- two faults are counted as the same exactly where they are equal
abbrev pub SameFaultsAreEqual : Type 0
SameFaultsAreEqual = (f g : Fault) → IsTrue (is_same_fault f g) ↔ (f ≡ g)

-- two neighbouring times may change places
abbrev pub OrderIsFree : Type 0
OrderIsFree = (events time other : ℕ) (before after : List ℕ) → Agree events (before ++ time ∷ (other ∷ after)) (before ++ other ∷ (time ∷ after))

-- no more schedules of a list are unresolved than there are
abbrev pub FewAreUnresolved : Type 0
FewAreUnresolved = (outcome : List ℕ → Outcome) (tests : List (List ℕ)) → unresolved_among outcome tests ≤ length tests
