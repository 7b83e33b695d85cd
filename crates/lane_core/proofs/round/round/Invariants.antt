use Rattle.std.proofs.Common.{◌≡◌, take, length}
use Rattle.std.specs.Prelude.{Contains}
use Rattle.lane_core.specs.Slots.{AllFollow, RoundOf, SoFar, threads_in}
use Rattle.lane_core.proofs.round.round.Given as goal

abbrev pub invariant-loop-i : goal.invariant-loop-i
invariant-loop-i g l = record {
  seat : g.G.Gate.IsSeatOf l.gate l.seat;
  lane : Contains (g.G.Gate.told l.seat).lanes l.lane;
  many : length l.slots.items ≡ length l.fn.slots.items;
  threads : threads_in l.slots.items ≡ threads_in l.fn.slots.items;
  follows : AllFollow l.plain (g.G.Gate.told l.seat) l.lane l.slots.items;
  round : RoundOf (threads_in l.fn.slots.items) l.lane (g.G.Gate.told l.fn.seat) (g.G.Gate.told l.seat);
  told_off : (g.G.Gate.told l.seat).is_told_off ≡ (g.G.Gate.told l.fn.seat).is_told_off;
  so_far : SoFar l.pace (take l.i l.slots.items) (g.G.Gate.told l.fn.seat) (g.G.Gate.told l.seat);
}
