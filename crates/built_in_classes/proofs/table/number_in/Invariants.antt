use Rattle.std.proofs.Common.{◌≡◌, ◌≤◌, length, ◌+◌}
use Rattle.built_in_classes.specs.declared.numbers.TheConstants.{BUILT_IN_COUNT}
use Rattle.built_in_classes.specs.Classes as spec
use Rattle.built_in_classes.specs.Rows.{classes_of}
use Rattle.built_in_classes.proofs.table.number_in.Given as goal

abbrev pub invariant-loop-rest : goal.invariant-loop-rest
invariant-loop-rest l = record { few : l.number + length l.rest ≤ BUILT_IN_COUNT; so_far : spec.number_from l.number (classes_of l.rest) l.name ≡ spec.number_from 0 (classes_of l.rows) l.name }

abbrev pub decreases-loop-rest : goal.decreases-loop-rest
decreases-loop-rest l = length l.rest
