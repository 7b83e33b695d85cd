-- The log that a recording's bytes spell is the recording's, and that run ends as the log says.
use Rattle.std.proofs.Common.{◌≡◌, Some, ap, sym, subst, ◌∙◌}
use Rattle.std.specs.Prelude.{option_map}
use Rattle.vm_model.specs.Ends.{kind_of_end}
use Rattle.machine_model.specs.Machine.{end_of}
use Rattle.schedule_log.specs.Logs.{PlainLog}
use Rattle.schedule_log.specs.Reading.{read_log}
use Rattle.thread_driver.specs.Answers.{Refuses}
use Rattle.thread_driver.specs.Recordings.{Diverges}
use Rattle.tool_stages.proofs.Telling.{same_ok}
use Rattle.dejavu_tool.proofs.Completing.{doesnt_diverge}
use Rattle.dejavu_tool.proofs.Repeating.{spelled_is_read}
use Rattle.dejavu_tool.proofs.drilling.run_again.Goals as goal

pub unreachable-requires : goal.unreachable-requires
unreachable-requires c =
    let p = c.args.plain.now in
    let recorded = c.requires.recorded in
    let bytes = c.args.run.now.bytes.items in
    let same : c.args.log.now ≡ recorded.log = same_ok (read_log bytes) c.args.log.now recorded.log (spelled_is_read c.args.log.now bytes c.requires.spelled) (spelled_is_read recorded.log bytes recorded.spelled) in
    let ends : option_map kind_of_end (end_of p recorded.run.machine recorded.log.budget) ≡ Some recorded.log.end = ap (option_map kind_of_end) recorded.run.ended ∙ ap Some (sym recorded.run.kind) in
    doesnt_diverge p recorded.log recorded.run.machine c.in-Err-Diverged.field-0-0 c.in-Err-Diverged.field-0-1 recorded.run.runs ends
    (subst (λ (l : PlainLog). Diverges p l c.in-Err-Diverged.field-0-0 c.in-Err-Diverged.field-0-1) same (subst (Refuses p c.args.log.now) c.in-Err-Diverged.field-0-is c.in-Err-Diverged.ensures.err))
