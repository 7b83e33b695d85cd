use Rattle.std.proofs.Common.{ℕ, List, length, ap, sym, ◌∙◌}
use Rattle.machine_model.specs.Ring.{schedule_threads}
use Rattle.schedule_log.proofs.Expanding.{length-threads}
use Rattle.switch_schedule.proofs.run.run_schedule.Goals as goal

pub returns-clause-clock : goal.returns-clause-clock
returns-clause-clock c = c.events.ensures.count ∙ sym (length-threads c.in_ok-recording.recording.log.intervals) ∙ ap length c.in_ok-recording.ensures.threads ∙ ap (λ (ts : List ℕ). length (schedule_threads c.args.plain.now ts c.args.events)) c.deref.ensures.value ∙ ap (λ (ts : List ℕ). length (schedule_threads c.args.plain.now ts c.args.events)) c.schedule.view_is
