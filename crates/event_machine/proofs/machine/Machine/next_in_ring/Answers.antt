use Rattle.std.proofs.Common.{◌≡◌, ◌∙◌, sym, ap, ℕ, Option}
use Rattle.std.specs.Prelude.{unwrap_or}
use Rattle.machine_model.proofs.Rings.{next_in_ring_cut}
use Rattle.event_machine.specs.MachineView.{machine_of}
use Rattle.event_machine.proofs.machine.Machine.next_in_ring.Goals as goal

pub returns : goal.returns
returns c =
    c.unwrap_or.ensures ∙ ap (λ (x : Option ℕ). unwrap_or x c.args.thread) c.first_live_round.ensures
    ∙ sym (next_in_ring_cut (machine_of c.args.self.now) c.args.thread c.above.result c.above.ensures)
