use Rattle.std.proofs.Common.{ap, sym, subst, ◌∙◌}
use Rattle.event_machine.specs.MachineView.{MachineView}
use Rattle.paused_run.specs.Pauses.{IsPausedOf, PausedRun}
use Rattle.paused_run.proofs.Kept.{own_for, with_times}
use Rattle.paused_run.proofs.paused.Paused.copy_for.Goals as goal

pub returns-clause-own : goal.returns-clause-own
returns-clause-own c = λ p own.
    let times = c.args.times.items in
    let now = ap (λ (r : PausedRun). with_times r times) (sym c.self.view_is) in
    let copied = ap (λ (m : MachineView). with_times (record { machine = m; thread = c.self.inside.thread; times = times }) times) (sym c.in_ok-copy.ensures) in
    subst (IsPausedOf p) (now ∙ copied) (own_for p c.args.self.now times c.requires.agree own)
