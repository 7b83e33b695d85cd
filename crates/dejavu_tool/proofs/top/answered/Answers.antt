-- What a command says is put to the sink.
use Rattle.std.proofs.Common.{ap}
use Rattle.command_line.specs.Plain.{plain_command}
use Rattle.dejavu_tool.specs.Answers.{on_one_lane}
use Rattle.dejavu_tool.proofs.Answering.{put_done, put_stop}
use Rattle.dejavu_tool.proofs.Counting.{done_counted, halt_counted}
use Rattle.dejavu_tool.proofs.top.answered.Goals as goal

pub returns-in-Ok-done-clause-answer : goal.returns-in-Ok-done-clause-answer
returns-in-Ok-done-clause-answer g c =
    put_done _ (on_one_lane (plain_command c.in-Ok.command)) _ _ c.in-Ok-done.text.items c.deref.result.now c.put_text.result (ap on_one_lane c.in-Ok.ensures.value) c.deref.ensures.value c.in-Ok-done.ensures.does c.put_text.ensures

pub returns-in-Err-Told-clause-answer : goal.returns-in-Err-Told-clause-answer
returns-in-Err-Told-clause-answer g c =
    put_stop _ (on_one_lane (plain_command c.in-Ok.command)) _ _ c.in-Err-Told.field-0 c.in-Err-Told.status c.in-Err-Told.line c.deref-in-Err-Told.result.now c.put_text-in-Err-Told.result (ap on_one_lane c.in-Ok.ensures.value) c.in-Err-Told.field-0-is c.deref-in-Err-Told.ensures.value c.in-Err-Told.ensures.halts c.put_text-in-Err-Told.ensures

pub returns-in-Ok-done-clause-counted : goal.returns-in-Ok-done-clause-counted
returns-in-Ok-done-clause-counted g c =
    done_counted _ _ _ c.put_text.result c.deref.result.now c.in-Ok-done.ensures.counts c.put_text.ensures

pub returns-in-Err-Told-clause-counted : goal.returns-in-Err-Told-clause-counted
returns-in-Err-Told-clause-counted g c =
    halt_counted _ _ _ c.in-Err-Told.field-0 c.in-Err-Told.status c.put_text-in-Err-Told.result c.in-Err-Told.line c.deref-in-Err-Told.result.now c.in-Err-Told.field-0-is c.in-Err-Told.ensures.counts c.put_text-in-Err-Told.ensures
