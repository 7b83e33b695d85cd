-- The faults of a log file.
use Rattle.std.specs.Prelude.{◌≡◌, ℕ, Result, Ok, Err}
use Rattle.schedule_log.specs.declared.fault.LogKind.{LogKind}
use Rattle.schedule_log.specs.declared.fault.LogKind.TheVariants.{Magic, Version, Short, LongSpelling, Overlap, Gap, NotMaximal, Limit, Trailing, BadEnd}
use Rattle.schedule_log.specs.declared.fault.LogFault.{LogFault}
use Rattle.schedule_log.specs.declared.fault.LogFault.TheVariants.{At, NoMemory}
use Rattle.schedule_log.specs.Logs.{PlainLog}

-- the number of a kind
abbrev pub kind_number : LogKind → ℕ
kind_number Magic = 1
kind_number Version = 2
kind_number Short = 3
kind_number LongSpelling = 4
kind_number Overlap = 5
kind_number Gap = 6
kind_number NotMaximal = 7
kind_number Limit = 8
kind_number Trailing = 9
kind_number BadEnd = 10

-- the answer is the wanted one, or memory ran out
abbrev pub IsUnlessNoMemory : Result PlainLog LogFault → Result PlainLog LogFault → Type 0
IsUnlessNoMemory (Ok log) wanted = wanted ≡ Ok log
IsUnlessNoMemory (Err (At kind offset)) wanted = wanted ≡ Err (At kind offset)
IsUnlessNoMemory (Err NoMemory) wanted = Unit {0}
