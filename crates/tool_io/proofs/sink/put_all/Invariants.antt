use Rattle.std.proofs.Common.{◌≡◌, ◌≤◌, ◌-◌, ◌++◌, length, take}
use Rattle.std.specs.Prelude.{IsTrue}
use Rattle.tool_io.proofs.sink.put_all.Given as goal

-- the bytes before `done` were taken
abbrev pub invariant-loop-done : goal.invariant-loop-done
invariant-loop-done g l =
    record {
      within : l.done ≤ length l.bytes;
      told : g.O.Sink.is_told l.out ≡ g.O.Sink.is_told l.initial.out;
      taken : IsTrue (g.O.Sink.is_told l.initial.out) → g.O.Sink.taken l.out ≡ g.O.Sink.taken l.initial.out ++ take l.done l.bytes;
      faults : g.O.Sink.faults l.out ≡ g.O.Sink.faults l.initial.out;
    }

abbrev pub decreases-loop-done : goal.decreases-loop-done
decreases-loop-done g l = length l.bytes - l.done
