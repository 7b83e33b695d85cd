use Rattle.std.proofs.Common.{◌≡◌, ℕ, ap, ◌∙◌, arith}
use Rattle.machine_model.specs.Machine.{threads_of}
use Rattle.schedule_log.specs.Logs.{expansion}
use Rattle.schedule_log.specs.Parts.{log_of_parts}
use Rattle.schedule_log.proofs.Folded.{folded_run}
use Rattle.shared_world.specs.Worlds.{WorldState}
use Rattle.event_machine.specs.MachineView.{machine_of}
use Rattle.thread_driver.proofs.Recorded.{loggable, recording}
use Rattle.thread_driver.proofs.record.finished.Goals as goal

pub of-requires : goal.of-requires
of-requires c =
    let m = c.args.machine.now in
    let same : c.budget-budget.result ≡ m.world.budget = c.budget-budget.ensures.value ∙ ap (λ (w : WorldState). w.budget) c.world.ensures in
    let can = loggable c.args.plain.now (machine_of m) m.world.budget c.args.end c.kind.result c.args.parts.items (c.requires.own.whole c.requires.whole).run c.requires.ended c.requires.begins (omega (arith, same, c.budget-budget.ensures.limit)) c.requires.within c.requires.few c.requires.parts c.kind.ensures in
    rw same (folded_run m.world.budget (threads_of m.world.history) c.args.parts.items c.kind.result can c.requires.parts).0

pub returns-clause-recording : goal.returns-clause-recording
returns-clause-recording c =
    let m = c.args.machine.now in
    let same : c.budget-budget.result ≡ m.world.budget = c.budget-budget.ensures.value ∙ ap (λ (w : WorldState). w.budget) c.world.ensures in
    let run = (c.requires.own.whole c.requires.whole).run in
    let can = loggable c.args.plain.now (machine_of m) m.world.budget c.args.end c.kind.result c.args.parts.items run c.requires.ended c.requires.begins (omega (arith, same, c.budget-budget.ensures.limit)) c.requires.within c.requires.few c.requires.parts c.kind.ensures in
    recording c.args.plain.now (machine_of m) m.world.budget c.args.end c.kind.result c.args.parts.items c.in_ok-of.field-0 c.in_ok-output.output.items run c.requires.ended can c.requires.parts c.kind.ensures
    (c.in_ok-of.ensures ∙ ap (λ (b : ℕ). log_of_parts b c.args.parts.items c.kind.result) same)
    (c.in_ok-output.ensures.items ∙ c.output.ensures ∙ ap (λ (w : WorldState). w.shared.output) c.world-2.ensures)

pub returns-clause-threads : goal.returns-clause-threads
returns-clause-threads c =
    let m = c.args.machine.now in
    let same : c.budget-budget.result ≡ m.world.budget = c.budget-budget.ensures.value ∙ ap (λ (w : WorldState). w.budget) c.world.ensures in
    let can = loggable c.args.plain.now (machine_of m) m.world.budget c.args.end c.kind.result c.args.parts.items (c.requires.own.whole c.requires.whole).run c.requires.ended c.requires.begins (omega (arith, same, c.budget-budget.ensures.limit)) c.requires.within c.requires.few c.requires.parts c.kind.ensures in
    ap expansion (c.in_ok-of.ensures ∙ ap (λ (b : ℕ). log_of_parts b c.args.parts.items c.kind.result) same) ∙ (folded_run m.world.budget (threads_of m.world.history) c.args.parts.items c.kind.result can c.requires.parts).1
