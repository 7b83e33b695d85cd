use Rattle.std.proofs.Common.{◌≡◌, take, reverse}
use Rattle.local_machine.specs.Fields.{CallerHasRoom, callers}
use Rattle.local_machine.proofs.copy.copy_frames.Given as goal

abbrev pub invariant-loop-frame : goal.invariant-loop-frame
invariant-loop-frame l = record {
  same : callers l.copies.items ≡ callers (take l.frame-index l.frames);
  room : CallerHasRoom (reverse l.copies.items);
}
