use Rattle.std.proofs.Common.{◌≡◌, ◌≤◌, arith, ap, ◌∙◌, inl, inr, length}
use Rattle.std.proofs.lemmas.Bool.{cases_lt}
use Rattle.shared_world.specs.Worlds.{WorldState}
use Rattle.machine_model.specs.Ring.{pick}
use Rattle.event_machine.specs.MachineView.{machine_of}
use Rattle.switch_schedule.proofs.Reached.{least-places}
use Rattle.switch_schedule.proofs.derive.places_to.Goals as goal

pub loop-places-preserved : goal.loop-places-preserved
loop-places-preserved c fewer lt =
    let m = machine_of c.args.machine.now in
    elim (cases_lt fewer c.loop-places.places) [
      | inl less ↦ c.loop-places.invariant fewer less
      | inr ge ↦ (λ e.
          let even : c.loop-places.places ≡ fewer = omega (arith, ge, lt) in
          let on = c.leads.ensures.1 (ap (pick c.args.plain.now m c.args.before) even ∙ e) in
          let off = c.if-leads.false in
          cc)
    ]

pub unreachable-requires : goal.unreachable-requires
unreachable-requires c =
    let few : length (machine_of c.args.machine.now).world.rows ≤ 64 = omega (arith, c.rows-few.ensures.few, c.rows-few.ensures.value, ap (λ (w : WorldState). length w.shared.rows) c.world.ensures) in
    let found = least-places c.args.plain.now (machine_of c.args.machine.now) c.args.before c.args.thread few c.requires.enabled in
    c.loop-places.invariant found.0 (omega (arith, found.1, c.loop-places-test.false)) found.2.leads
