-- How a run ends.
use Rattle.vm_model.specs.declared.ends.End.{End}
use Rattle.vm_model.specs.declared.ends.End.TheVariants as end
use Rattle.vm_model.specs.declared.ends.EndKind.{EndKind}
use Rattle.vm_model.specs.declared.ends.EndKind.TheVariants as end_kind

-- the end without the fault itself
abbrev pub kind_of_end : End → EndKind
kind_of_end end.Done = end_kind.Done
kind_of_end (end.Fault fault) = end_kind.Fault
kind_of_end end.Stuck = end_kind.Stuck
kind_of_end end.Spent = end_kind.Spent
