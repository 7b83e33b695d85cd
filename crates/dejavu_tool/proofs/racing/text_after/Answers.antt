-- The history of a log's run is one that has a report, and names what is there.
use Rattle.std.proofs.Common.{◌≡◌, ◌<◌, List, length, ap, sym, subst, ◌∙◌, arith}
use Rattle.std.specs.Prelude.{All}
use Rattle.vm_model.specs.declared.op.Entry.{Entry}
use Rattle.vm_model.specs.Program.{PlainProgram}
use Rattle.shared_world.specs.Worlds.{WorldState}
use Rattle.event_machine.specs.MachineView.{machine_of}
use Rattle.race_report.specs.declared.race.Race.{Race}
use Rattle.race_report.specs.Races.{IsDeclared, IsReport}
use Rattle.dejavu_tool.proofs.AfterLog.{declared, few_events, few_threads}
use Rattle.dejavu_tool.proofs.racing.text_after.Goals as goal

pub races-requires-clause-few : goal.races-requires-clause-few
races-requires-clause-few c =
    let same : c.history.result.now ≡ c.args.machine.now.world.history = c.history.ensures.value ∙ ap (λ (w : WorldState). w.history) c.world.ensures in
    omega (arith, ap length same, few_events c.args.plain.now c.args.log.now (machine_of c.args.machine.now) c.intervals-lawful.ensures.lawful c.requires.runs)

pub races-requires-clause-threads : goal.races-requires-clause-threads
races-requires-clause-threads c =
    let same : c.history.result.now ≡ c.args.machine.now.world.history = c.history.ensures.value ∙ ap (λ (w : WorldState). w.history) c.world.ensures in
    subst (λ (h : List Entry). All (λ e. e.thread < 64) h) (sym same) (few_threads c.args.plain.now c.args.log.now (machine_of c.args.machine.now) c.intervals-lawful.ensures.lawful c.requires.runs)

pub races_text-requires : goal.races_text-requires
races_text-requires c =
    let same : c.history.result.now ≡ c.args.machine.now.world.history = c.history.ensures.value ∙ ap (λ (w : WorldState). w.history) c.world.ensures in
    let found = c.in_ok-found.found.items in
    let report = subst (λ (h : List Entry). IsReport h found) same c.in_ok-found.ensures.report in
    let all = declared c.args.plain.now c.args.log.now (machine_of c.args.machine.now) found c.requires.runs report in
    let named = subst (λ (p : PlainProgram). All (λ (r : Race). IsDeclared p.statics r.place) found) (sym c.program.ensures.value) all in
    record { declared = subst (λ (rs : List Race). All (λ (r : Race). IsDeclared c.program.result.now.statics r.place) rs) (sym c.deref.ensures.value) named }
