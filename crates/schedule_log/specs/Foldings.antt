-- What a folding is: its thread, its intervals, and for how many more it has room.
use Rattle.std.specs.Prelude.{ℕ, List}
use Rattle.schedule_log.specs.declared.interval.Interval.{Interval}
use Rattle.schedule_log.specs.Intervals.{MaximalFrom}

pub record PlainFolding : Type 0 where
  pub thread : ℕ
  pub intervals : List Interval
  pub room : ℕ

-- its intervals are the maximal runs of neighbouring clocks
abbrev pub IsMaximal : PlainFolding → Type 0
IsMaximal f = MaximalFrom f.thread 0 f.intervals
