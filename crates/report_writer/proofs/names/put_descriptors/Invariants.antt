use Rattle.std.proofs.Common.{◌≡◌, ◌++◌, take}
use Rattle.std.specs.List.{flat_map}
use Rattle.report_writer.specs.Names.{descriptor}
use Rattle.report_writer.proofs.names.put_descriptors.Given as goal

-- the descriptors so far stand after what was there
abbrev pub invariant-loop-kind : goal.invariant-loop-kind
invariant-loop-kind l = l.out.items ≡ l.initial.out.items ++ flat_map (descriptor l.program) (take l.kind-index l.kinds)
