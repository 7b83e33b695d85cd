use Rattle.std.proofs.Common.{◌≡◌, Some, ap, sym, ◌∙◌, subst, map}
use Rattle.machine_model.specs.Declarations.{Declarations, declarations_of}
use Rattle.machine_model.specs.Machine.{history_of}
use Rattle.machine_model.specs.Operations.{IsLegalHistory}
use Rattle.projection_laws.proofs.Projected.{projected}
use Rattle.event_machine.specs.MachineView.{state_of}
use Rattle.event_machine.proofs.machine.assembled.Goals as goal

pub returns-clause-whole : goal.returns-clause-whole
returns-clause-whole c =
    let p = c.args.plain.now in
    let w = c.args.world.now in
    record {
      declarations = c.requires.declarations;
      ready = c.requires.ready;
      run = projected p w.history w.shared (map state_of c.args.locals.now) (subst (λ (d : Declarations). IsLegalHistory d w.history w.shared) c.requires.declarations c.history.ensures.legal) c.requires.projections;
    }

pub returns-clause-history : goal.returns-clause-history
returns-clause-history c =
    let p = c.args.plain.now in
    let w = c.args.world.now in
    ap history_of (projected p w.history w.shared (map state_of c.args.locals.now) (subst (λ (d : Declarations). IsLegalHistory d w.history w.shared) c.requires.declarations c.history.ensures.legal) c.requires.projections)
