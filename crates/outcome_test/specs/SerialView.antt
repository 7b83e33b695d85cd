-- Rounds on one thread as contracts see them.
use Rattle.schedule_model.specs.Outcomes.{outcome_of}
use Rattle.outcome_test.specs.Rounds.{RoundsState, AreRounds}
use Rattle.outcome_test.specs.Memos.{Remembers}
use Rattle.outcome_test.specs.Resumed.{AreUnder}
use Rattle.outcome_test.specs.declared.serial.SerialRounds.TheInside.{Inside}

abbrev pub view_of : Inside → RoundsState
view_of s = record { program = s.plain.now; fault = s.fault; events = s.events; resolved = s.resolved; unresolved = s.unresolved }

-- they are rounds, what is remembered is what the tests show, and what is kept are paused runs of the program
pub record IsKept (s : Inside) : Type 0 where
  pub fine : AreRounds (view_of s)
  pub remembers : Remembers (outcome_of s.plain.now s.events s.fault) s.memo
  pub under : AreUnder s.plain.now s.events s.runs
