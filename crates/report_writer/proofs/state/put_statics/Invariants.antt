use Rattle.std.proofs.Common.{◌≡◌, ◌++◌}
use Rattle.report_writer.specs.State.{static_lines}
use Rattle.report_writer.proofs.state.put_statics.Given as goal

-- the lines so far come after what was there
abbrev pub invariant-loop-slot : goal.invariant-loop-slot
invariant-loop-slot l = l.out.items ≡ l.initial.out.items ++ static_lines l.program l.world.shared l.slot
