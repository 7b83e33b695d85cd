-- A local of a shape, by whether it is there and set.
use Rattle.std.specs.Prelude.{Bool, true, false, Option, Some, None}
use Rattle.vm_model.specs.declared.value.Kind.{Kind}

-- the kind of a local that is there and set
abbrev pub set_in : Option (Option Kind) → Option Kind
set_in None = None
set_in (Some found) = found

-- the local isn't set, or isn't there
abbrev pub is_missing : Option (Option Kind) → Bool
is_missing None = true
is_missing (Some None) = true
is_missing (Some (Some k)) = false
