-- Rounds on several threads as contracts see them.
use Rattle.outcome_test.specs.Rounds.{RoundsState, AreRounds}
use Rattle.outcome_test.specs.declared.wide.WideRounds.TheInside.{Inside}

module _ {H : Type 0} where
  abbrev pub view_of : Inside H → RoundsState
  view_of s = record { program = s.plain.now; fault = s.fault; events = s.events; resolved = s.resolved; unresolved = s.unresolved }

  abbrev pub IsKept : Inside H → Type 0
  IsKept s = AreRounds (view_of s)
