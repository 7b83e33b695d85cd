use Rattle.std.proofs.Common.{◌≡◌}
use Rattle.replay_gate.proofs.tests.first_other.Given as goal

abbrev pub invariant-loop-at : goal.invariant-loop-at
invariant-loop-at g l = record {
  first : g.G.Gate.IsSeatOf l.gate l.first;
  second : g.G.Gate.IsSeatOf l.gate l.second;
  lanes : (g.G.Gate.told l.first).lanes ≡ (g.G.Gate.told l.fn.first).lanes;
  other_lanes : (g.G.Gate.told l.second).lanes ≡ (g.G.Gate.told l.fn.second).lanes;
}
