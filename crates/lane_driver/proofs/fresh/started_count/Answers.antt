use Rattle.std.proofs.Common.{ℕ, ◌<◌, subst, sym}
use Rattle.std.specs.Prelude.{All}
use Rattle.machine_model.specs.Machine.{threads_of}
use Rattle.lane_driver.proofs.Started.{legal_threads}
use Rattle.lane_driver.proofs.fresh.started_count.Goals as goal

pub returns-clause-threads : goal.returns-clause-threads
returns-clause-threads c =
    let w = c.args.world.now in
    subst (λ (n : ℕ). All (λ t. t < n) (threads_of w.history)) (sym c.rows.ensures.value) (legal_threads w.declarations w.history w.shared c.history-history.ensures.legal)
