use Rattle.std.proofs.Common.{◌≡◌, ◌∙◌, sym, ap, Bool, false, Option}
use Rattle.vm_model.specs.declared.ends.Fault.{Fault}
use Rattle.machine_model.specs.Machine.{first_end}
use Rattle.shared_world.specs.Worlds.{WorldState}
use Rattle.event_machine.proofs.Ends.{end_beside}
use Rattle.event_machine.proofs.machine.Machine.end_beside_enabled.Goals as goal

pub returns-clause-shown : goal.returns-clause-shown
returns-clause-shown c =
    let m = c.args.self.now in
    c.first_of.ensures.first
    ∙ ap (λ (fault : Option Fault). first_end fault false false c.is_spent.result) (c.fault.ensures ∙ ap (λ (w : WorldState). w.shared.fault) c.world.ensures)
    ∙ ap (λ (spent : Bool). first_end m.world.shared.fault false false spent) c.is_spent.ensures.value
    ∙ sym (end_beside m c.args.thread c.requires)
