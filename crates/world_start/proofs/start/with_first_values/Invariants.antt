use Rattle.std.proofs.Common.{◌≡◌, ◌++◌, map, take}
use Rattle.machine_model.specs.Kinds.{first_value as first_value_of, kind_of_field}
use Rattle.world_start.proofs.start.with_first_values.Given as goal

abbrev pub invariant-loop-field : goal.invariant-loop-field
invariant-loop-field l = l.values.items ≡ l.fn.values.items ++ map first_value_of (map kind_of_field (take l.field-index l.fields))
