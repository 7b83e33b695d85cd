use Rattle.std.proofs.Common.{◌≡◌, drop}
use Rattle.machine_model.specs.Operations.{notify_rows as rows_notified}
use Rattle.shared_world.proofs.rows.notify_rows.Given as goal

abbrev pub invariant-loop-thread : goal.invariant-loop-thread
invariant-loop-thread l = rows_notified l.rows (drop l.thread-index l.threads) ≡ rows_notified l.initial.rows l.threads
