use Rattle.std.proofs.Common.{◌≡◌, ◌∙◌, sym, ap, ℕ, Bool, Some, cond, Option, length, ◌-◌}
use Rattle.std.specs.Prelude.{find}
use Rattle.std.specs.Option.{option_or}
use Rattle.std.specs.List.{range_with_len}
use Rattle.event_machine.specs.MachineView.{may_turn}
use Rattle.event_machine.proofs.Going.{pick_round}
use Rattle.event_machine.proofs.machine.Machine.pick_at.Goals as goal

pub returns-else-may_turn : goal.returns-else-may_turn
returns-else-may_turn c =
    let m = c.args.self.now in
    let round = pick_round m c.args.at c.above.result c.above.ensures in
    let other = sym c.may_turn.ensures ∙ c.if-may_turn.false in
    c.first_enabled_round.ensures
    ∙ sym (round ∙ ap (λ (b : Bool). cond b (Some c.args.at) (option_or (find (may_turn m) (range_with_len c.above.result (length m.world.shared.rows - c.above.result))) (find (may_turn m) (range_with_len 0 c.above.result)))) other)
