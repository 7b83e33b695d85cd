-- A folding as contracts see it.
use Rattle.std.specs.Prelude.{◌-◌, vec_len, vec_capacity}
use Rattle.schedule_log.specs.Foldings.{PlainFolding, IsMaximal}
use Rattle.schedule_log.specs.declared.folding.Folding.TheInside.{Inside}

abbrev pub view_of : Inside → PlainFolding
view_of f = record { thread = f.thread; intervals = f.intervals.items; room = vec_capacity f.intervals - vec_len f.intervals }

abbrev pub IsKept : Inside → Type 0
IsKept f = IsMaximal (view_of f)
