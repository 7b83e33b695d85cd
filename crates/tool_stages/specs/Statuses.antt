-- The numbers of the statuses.
use Rattle.std.specs.Prelude.{ℕ}
use Rattle.tool_stages.specs.declared.status.Status.{Status}
use Rattle.tool_stages.specs.declared.status.Status.TheVariants as status

abbrev pub number_of : Status → ℕ
number_of status.Ok = 0
number_of status.Usage = 2
number_of status.Absent = 3
number_of status.ProgramRefused = 4
number_of status.LogRefused = 5
number_of status.ScheduleRefused = 6
number_of status.Diverged = 7
number_of status.NotPassing = 8
number_of status.NotFailing = 9
number_of status.TestsSpent = 10
number_of status.NotFound = 11
number_of status.ReadFault = 12
number_of status.WriteFault = 13
number_of status.OutOfMemory = 14
