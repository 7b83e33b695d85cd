use Rattle.std.proofs.Common.{sym, subst, Contains}
use Rattle.replay_gate.specs.declared.view.ReplayView.{ReplayView}
use Rattle.replay_gate.proofs.Telling.{stays_spare}
use Rattle.replay_gate.proofs.world_gate.ReplayGateWorldGate.split.Goals as goal

pub returns-clause-gives : goal.returns-clause-gives
returns-clause-gives c = λ other ne has. subst (λ (v : ReplayView). Contains v.spare other) (sym c.split.ensures.left.1) (stays_spare c.args.lane c.args.seat.now.view.spare other ne has)
