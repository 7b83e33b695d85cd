-- Why nothing was isolated, by what the search answered.
use Rattle.dd_isolator.specs.declared.fault.IsolateFault.{IsolateFault}
use Rattle.dd_isolator.specs.declared.fault.IsolateFault.TheVariants as fault
use Rattle.program_isolator.specs.declared.refusal.IsolationRefusal.{IsolationRefusal}
use Rattle.program_isolator.specs.declared.refusal.IsolationRefusal.TheVariants as refusal

abbrev pub refusal_of : IsolateFault → IsolationRefusal
refusal_of (fault.TestsSpent asked) = refusal.TestsSpent asked
refusal_of fault.NoMemory = refusal.NoMemory
