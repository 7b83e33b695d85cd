use Rattle.std.proofs.Common.{rules, ℕ, ap, subst, sym, ◌∙◌}
use Rattle.machine_model.specs.Machine.{end_of, run}
use Rattle.schedule_log.specs.Logs.{PlainLog, IsLawful, expansion}
use Rattle.shared_world.specs.Worlds.{WorldState}
use Rattle.event_machine.specs.MachineView.{machine_of}
use Rattle.thread_driver.proofs.replay.repeated.Goals as goal

pub returns-clause-ok : goal.returns-clause-ok
returns-clause-ok c =
    let p = c.args.plain.now in
    let m = c.args.machine.now in
    let same = c.in-Ok-Ok.ensures' in
    record {
      lawful = subst IsLawful (sym same) c.requires.lawful;
      machine = machine_of m;
      runs = ap (λ (l : PlainLog). run p (expansion l)) same ∙ c.requires.runs;
      ended = ap (λ (l : PlainLog). end_of p (machine_of m) l.budget) same ∙ ap (λ (b : ℕ). end_of p (machine_of m) b) (sym c.requires.budget) ∙ sym (c.end.ensures.meaning p c.requires.own) ∙ c.in-Some.is;
      kind = ap (λ (l : PlainLog). l.end) same ∙ (search rules);
      printed = c.in-Ok-Ok.ensures.items ∙ c.output.ensures ∙ ap (λ (w : WorldState). w.shared.output) c.world.ensures;
    }
