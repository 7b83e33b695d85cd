-- The log was replayed, so its turns are made once more.
use Rattle.std.proofs.Common.{◌≡◌, ℕ, Some, take, ap, sym, subst, ◌∙◌}
use Rattle.machine_model.specs.Machine.{run}
use Rattle.schedule_log.specs.Logs.{expansion}
use Rattle.event_machine.specs.MachineView.{machine_of}
use Rattle.thread_driver.specs.Answers.{RefusesBefore}
use Rattle.dejavu_tool.proofs.AfterLog.{ends_so, never_diverges, whole}
use Rattle.dejavu_tool.proofs.racing.machine_after.Goals as goal

pub unreachable-requires : goal.unreachable-requires
unreachable-requires c =
    let p = c.args.plain.now in
    let log = c.args.log.now in
    let r = c.in_ok-replayed.field-0 in
    let refused = subst (RefusesBefore p log c.events.result) c.in-Err-Diverged.field-0-is c.in-Err-Diverged.ensures.err in
    never_diverges p log r.log r.output.items r.end c.events.result c.in-Err-Diverged.field-0-0 c.in-Err-Diverged.field-0-1 c.in_ok-replayed.ensures.recording c.in_ok-replayed.ensures.log refused

pub returns-in-Ok-clause-runs : goal.returns-in-Ok-clause-runs
returns-in-Ok-clause-runs c =
    let p = c.args.plain.now in
    let log = c.args.log.now in
    whole p log (machine_of c.in-Ok.machine) (ap (λ (n : ℕ). run p (take n (expansion log))) (sym c.events.ensures.count) ∙ c.in-Ok.ensures.state)

pub returns-in-Ok-clause-ends : goal.returns-in-Ok-clause-ends
returns-in-Ok-clause-ends c =
    let p = c.args.plain.now in
    let log = c.args.log.now in
    let r = c.in_ok-replayed.field-0 in
    let runs : run p (expansion log) ≡ Some (machine_of c.in-Ok.machine) = whole p log (machine_of c.in-Ok.machine) (ap (λ (n : ℕ). run p (take n (expansion log))) (sym c.events.ensures.count) ∙ c.in-Ok.ensures.state) in
    ends_so p log r.log r.output.items r.end (machine_of c.in-Ok.machine) c.in_ok-replayed.ensures.recording c.in_ok-replayed.ensures.log runs
