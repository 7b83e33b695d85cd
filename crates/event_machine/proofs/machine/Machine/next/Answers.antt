use Rattle.std.proofs.Common.{◌≡◌, ◌∙◌, sym}
use Rattle.event_machine.proofs.Ends.{none_picked, picked_turns}
use Rattle.event_machine.proofs.Shown.{end_shown}
use Rattle.event_machine.proofs.machine.Machine.next.Goals as goal

pub end_without_enabled-requires : goal.end_without_enabled-requires
end_without_enabled-requires c = none_picked c.args.self.now c.args.from c.args.places (sym c.pick.ensures.shown ∙ c.in_default.is)

pub returns-in_default-clause-meaning : goal.returns-in_default-clause-meaning
returns-in_default-clause-meaning c = λ p own. sym (end_shown p c.args.self.now c.requires own) ∙ c.end_without_enabled.ensures

pub end_beside_enabled-requires : goal.end_beside_enabled-requires
end_beside_enabled-requires c = picked_turns c.args.self.now c.args.from c.args.places c.in-Some.thread (sym c.pick.ensures.shown ∙ c.in-Some.is)

pub returns-in-Some-end_beside_enabled-clause-meaning : goal.returns-in-Some-end_beside_enabled-clause-meaning
returns-in-Some-end_beside_enabled-clause-meaning c = λ p own. sym (c.end_beside_enabled.ensures.shown ∙ end_shown p c.args.self.now c.requires own) ∙ c.in-Some-end_beside_enabled.is

pub returns-in-None-clause-meaning : goal.returns-in-None-clause-meaning
returns-in-None-clause-meaning c = λ p own.
    (sym (c.end_beside_enabled.ensures.shown ∙ end_shown p c.args.self.now c.requires own) ∙ c.in-None.is, sym (c.pick.ensures.meaning p own) ∙ c.in-Some.is)
