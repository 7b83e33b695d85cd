use Rattle.std.proofs.Common.{rules, ◌≡◌, length, take, ap, sym, ◌∙◌}
use Rattle.std.proofs.lemmas.List.{take_all}
use Rattle.std.proofs.lemmas.Result.{IfOk-weaker}
use Rattle.machine_model.specs.Machine.{run}
use Rattle.thread_driver.proofs.replay.replay_until.Goals as goal

-- a clock at the log's end or after it takes all of the log's threads
pub returns-clause-state : goal.returns-clause-state
returns-clause-state c =
    let threads = c.deref-else-clock-all.result.now in
    let same = c.deref-else-clock-all.ensures.value ∙ c.in-Ok.ensures.threads in
    let size = ap length c.deref-else-clock-all.ensures.value in
    let all : take c.args.clock threads ≡ take c.len-all.result threads = take_all c.args.clock threads (search rules) ∙ sym (take_all c.len-all.result threads (search rules)) in
    IfOk-weaker c.turned-else-clock-all.result _ _ (λ m e. ap (λ ts. run c.args.plain.now (take c.args.clock ts)) (sym same) ∙ ap (run c.args.plain.now) all ∙ e) c.turned-else-clock-all.ensures.runs
