use Rattle.std.proofs.Common.{◌≡◌, length}
use Rattle.machine_model.specs.Machine.{threads_of}
use Rattle.lane_driver.specs.Gathered.{AllParts, NoteFrom}
use Rattle.lane_driver.proofs.gather.gather_rest.Given as goal

abbrev pub invariant-loop-thread : goal.invariant-loop-thread
invariant-loop-thread l = record {
  size : length l.table.items ≡ 64;
  note : NoteFrom (threads_of l.world.history) l.thread l.table.items;
  many : length l.parts.items ≡ l.thread;
  parts : AllParts l.world.history l.parts.items;
}
