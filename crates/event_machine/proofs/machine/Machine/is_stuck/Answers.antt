use Rattle.std.proofs.Common.{◌≡◌, ◌∙◌, sym}
use Rattle.event_machine.proofs.Shown.{stuck_none, stuck_some}
use Rattle.event_machine.proofs.machine.Machine.is_stuck.Goals as goal

pub returns-in-Some : goal.returns-in-Some
returns-in-Some c = stuck_some c.args.self.now c.first_enabled.result _ c.thread_count.result c.thread_count.ensures.value c.first_enabled.ensures c.in-Some.is

pub returns-in-None : goal.returns-in-None
returns-in-None c = stuck_none c.args.self.now c.first_enabled.result c.thread_count.result c.thread_count.ensures.value c.first_enabled.ensures c.in-None.is
