use Rattle.std.proofs.Common.{◌≡◌, None, refl, sym, ◌∙◌, ap, subst}
use Rattle.local_machine.specs.Further.{IsAtRest}
use Rattle.local_machine.specs.LocalFields.{view_of}
use Rattle.local_machine.specs.States.{completion_in, pending_in, state_of}
use Rattle.local_machine.proofs.Rested.{rested, unready-none}
use Rattle.local_machine.proofs.local.Local.advance.Goals as goal

pub returns-clause-stays : goal.returns-clause-stays
returns-clause-stays c = λ rest.
    let i = c.self.inside in
    let off = sym c.is_some.ensures ∙ c.if-is_some.false in
    let none : i.ready ≡ None = unready-none i.ready off in
    let new = state_of i.phase c.reach.new.top c.reach.new.below.items in
    (refl, rested c.program-program.result.now (view_of i) new c.reach.new.steps c.in_ok-self-inside.field-0 c.in_ok-self-inside.ensures.ok off (ap pending_in none) (ap completion_in none) (subst IsAtRest (sym c.self.view_is) rest) ∙ c.self.view_is)
