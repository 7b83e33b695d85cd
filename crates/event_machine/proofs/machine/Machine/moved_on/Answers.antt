use Rattle.std.proofs.Common.{◌≡◌, ◌∙◌, ◌-◌, ◌+◌, ap, ℕ, arith}
use Rattle.machine_model.specs.Ring.{moved_on}
use Rattle.event_machine.specs.MachineView.{machine_of}
use Rattle.event_machine.proofs.Going.{moved_on-more}
use Rattle.event_machine.proofs.machine.Machine.moved_on.Goals as goal

pub loop-preserved : goal.loop-preserved
loop-preserved c =
    let m = machine_of c.args.self.now in
    ap (λ (t : ℕ). moved_on m t (c.args.places - (c.loop.counter + 1))) c.next_in_ring-at.ensures
    ∙ moved_on-more m c.loop.at c.args.places c.loop.counter (omega arith) ∙ c.loop.invariant
