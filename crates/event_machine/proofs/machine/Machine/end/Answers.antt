use Rattle.std.proofs.Common.{◌≡◌, ◌∙◌}
use Rattle.event_machine.proofs.Shown.{end_shown}
use Rattle.event_machine.proofs.machine.Machine.end.Goals as goal

pub returns-clause-meaning : goal.returns-clause-meaning
returns-clause-meaning c = λ p own. c.end_now.ensures.shown ∙ end_shown p c.args.self.now c.requires own
