use Rattle.std.proofs.Common.{◌≡◌, ◌∙◌, sym, refl}
use Rattle.event_machine.proofs.Shown.{over_shown}
use Rattle.event_machine.proofs.machine.Machine.turn.Goals as goal

pub returns-then-is_some-clause-err : goal.returns-then-is_some-clause-err
returns-then-is_some-clause-err c =
    let m = c.args.self.now in
    let whole = sym c.is_broken.ensures ∙ c.if-is_broken.false in
    (whole, over_shown c.args.plain.now m c.end_beside_enabled.result whole c.requires c.end_beside_enabled.ensures.shown (sym c.is_some.ensures ∙ c.if-is_some.true), refl)
