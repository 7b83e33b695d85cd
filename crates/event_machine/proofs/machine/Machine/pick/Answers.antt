use Rattle.std.proofs.Common.{◌≡◌, ◌∙◌, ap, ℕ, ◌∷◌}
use Rattle.std.specs.Prelude.{find}
use Rattle.machine_model.specs.Ring.{ring_after}
use Rattle.event_machine.specs.MachineView.{machine_of, may_turn}
use Rattle.event_machine.proofs.Shown.{pick_shown}
use Rattle.event_machine.proofs.machine.Machine.pick.Goals as goal

pub returns-clause-meaning : goal.returns-clause-meaning
returns-clause-meaning c = λ p own.
    c.pick_at.ensures ∙ ap (λ (u : ℕ). find (may_turn c.args.self.now) (u ∷ ring_after (machine_of c.args.self.now) u)) c.moved_on.ensures
    ∙ pick_shown p c.args.self.now c.args.from c.args.places c.requires own
