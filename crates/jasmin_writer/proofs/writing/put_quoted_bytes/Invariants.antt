use Rattle.std.proofs.Common.{◌≡◌, ◌++◌, length}
use Rattle.std.specs.List.{flat_map}
use Rattle.jasmin_writer.specs.Canonical.{quoted_byte}
use Rattle.jasmin_writer.proofs.writing.put_quoted_bytes.Given as goal

abbrev pub invariant-loop-rest : goal.invariant-loop-rest
invariant-loop-rest l = l.out.items ++ flat_map quoted_byte l.rest ≡ l.fn.out.items ++ flat_map quoted_byte l.items

abbrev pub decreases-loop-rest : goal.decreases-loop-rest
decreases-loop-rest l = length l.rest
