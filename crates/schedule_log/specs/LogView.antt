-- A log as contracts see it.
use Rattle.schedule_log.specs.Logs.{PlainLog, IsLawful}
use Rattle.schedule_log.specs.declared.log.Log.TheInside.{Inside}

abbrev pub view_of : Inside → PlainLog
view_of l = record { budget = l.budget; intervals = l.intervals.items; end = l.end }

abbrev pub IsKept : Inside → Type 0
IsKept l = IsLawful (view_of l)
