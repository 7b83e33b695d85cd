-- Why nothing was reduced, by what the search answered.
use Rattle.switch_reducer.specs.declared.fault.ReduceFault.{ReduceFault}
use Rattle.switch_reducer.specs.declared.fault.ReduceFault.TheVariants as fault
use Rattle.program_reducer.specs.declared.refusal.ReductionRefusal.{ReductionRefusal}
use Rattle.program_reducer.specs.declared.refusal.ReductionRefusal.TheVariants as refusal

abbrev pub refusal_of : ReduceFault → ReductionRefusal
refusal_of (fault.TestsSpent asked) = refusal.TestsSpent asked
refusal_of fault.NoMemory = refusal.NoMemory
