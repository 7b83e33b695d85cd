-- The gate and its world, as seats are split, joined and at last given up.
use Rattle.std.specs.Prelude.{◌≡◌, ℕ, List, length, take}
use Rattle.machine_model.specs.Machine.{threads_of}
use Rattle.machine_model.specs.Operations.{IsLegalHistory}
use Rattle.shared_world.specs.Worlds.{WorldState}
use Rattle.schedule_log.specs.Logs.{expansion}
use Rattle.replay_gate.specs.Gates.{GateState, SeatState}

-- how many events the world takes: the log's budget
abbrev pub budget_of : GateState → ℕ
budget_of g = g.terms.log.budget

-- the lanes that the seat may still give
abbrev pub gives_of : SeatState → List ℕ
gives_of s = s.view.spare

-- the world has a legal history from the start, whose threads are the first ones of the log
pub record IsReplayOf (g : GateState) (world : WorldState) : Type 0 where
  pub legal : IsLegalHistory g.terms.start world.history world.shared
  pub column : threads_of world.history ≡ take (length world.history) (expansion g.terms.log)
