use Rattle.std.proofs.Common.{List, ◌≡◌, ℕ, ◌+◌, subst, ◌<◌, ◌-◌, true, false, refl, sym, ◌∙◌, arith, slice_get, Some, get_or, length}
use Rattle.std.proofs.lemmas.Option.{slice_get-get_or}
use Rattle.std.proofs.lemmas.List.Elements.{Contains-push}
use Rattle.race_report.proofs.Racing.{Meets, meets, latest_races, is_reported, report_grows, stays_reported, stays_without}
use Rattle.vm_model.specs.declared.op.Entry.{Entry}
use Rattle.vm_model.specs.declared.op.Op.TheVariants as op
use Rattle.vm_model.specs.declared.op.Reply.TheVariants as reply
use Rattle.race_report.specs.declared.race.Race.{Race}
use Rattle.race_report.specs.Races.{IsRace, IsReportBelow}
use Rattle.race_report.specs.Accesses.{HasRace}
use Rattle.race_report.proofs.detection.report.Goals as goal

apart : false ≡ true → ⊥
apart e = cc

abbrev any : Entry
any = record { thread = 0; op = op.GetStatic 0; reply = reply.Unit }

pub returns-then-last-clause-report : goal.returns-then-last-clause-report
returns-then-last-clause-report c =
    let at : slice_get c.args.history.now c.args.position ≡ Some (get_or c.args.history.now c.args.position any) = slice_get-get_or _ _ _ c.requires.within in
    stays_reported _ _ _ _ _ at (c.requires.place _ at) (c.requires.kept.reported.0 c.if-last.true) c.requires.report

pub returns-then-latest-eq0-clause-report : goal.returns-then-latest-eq0-clause-report
returns-then-latest-eq0-clause-report c =
    let at : slice_get c.args.history.now c.args.position ≡ Some (get_or c.args.history.now c.args.position any) = slice_get-get_or _ _ _ c.requires.within in
    let m : Meets c.args.history.now c.args.position c.args.place (get_or c.args.history.now c.args.position any) c.counting.result c.args.clock.now c.latest_unknown-latest.result = meets _ _ _ _ _ _ _ _ _ _ at (c.requires.place _ at) c.is_write.ensures.write c.counting.ensures.counting c.requires.kept.accesses c.requires.kept.writes c.requires.clock c.latest_unknown-latest.ensures.latest c.requires.threads in
    stays_without _ _ _ _ _ _ _ _ m c.if-latest-eq0.true c.requires.report

pub bounds-history-latest : goal.bounds-history-latest
bounds-history-latest c =
    let at : slice_get c.args.history.now c.args.position ≡ Some (get_or c.args.history.now c.args.position any) = slice_get-get_or _ _ _ c.requires.within in
    let m : Meets c.args.history.now c.args.position c.args.place (get_or c.args.history.now c.args.position any) c.counting.result c.args.clock.now c.latest_unknown-latest.result = meets _ _ _ _ _ _ _ _ _ _ at (c.requires.place _ at) c.is_write.ensures.write c.counting.ensures.counting c.requires.kept.accesses c.requires.kept.writes c.requires.clock c.latest_unknown-latest.ensures.latest c.requires.threads in
    let below : c.latest_unknown-latest.result - 1 < c.args.position = (latest_races _ _ _ _ _ _ _ m c.if-latest-eq0.false).race.earlier in
    omega (arith, below, c.requires.within)

pub returns-clause-report : goal.returns-clause-report
returns-clause-report c =
    let at : slice_get c.args.history.now c.args.position ≡ Some (get_or c.args.history.now c.args.position any) = slice_get-get_or _ _ _ c.requires.within in
    let m : Meets c.args.history.now c.args.position c.args.place (get_or c.args.history.now c.args.position any) c.counting.result c.args.clock.now c.latest_unknown-latest.result = meets _ _ _ _ _ _ _ _ _ _ at (c.requires.place _ at) c.is_write.ensures.write c.counting.ensures.counting c.requires.kept.accesses c.requires.kept.writes c.requires.clock c.latest_unknown-latest.ensures.latest c.requires.threads in
    let below : c.latest_unknown-latest.result - 1 < c.args.position = (latest_races _ _ _ _ _ _ _ m c.if-latest-eq0.false).race.earlier in
    let inside : c.latest_unknown-latest.result - 1 < length c.args.history.now = omega (arith, below, c.requires.within) in
    let at_first : slice_get c.args.history.now (c.latest_unknown-latest.result - 1) ≡ Some (get_or c.args.history.now (c.latest_unknown-latest.result - 1) any) = slice_get-get_or _ _ _ inside in
    let none : (i j : ℕ) → j < c.args.position → IsRace c.args.history.now c.args.place i j → ⊥ = λ i j less race. apart (sym c.if-last.false ∙ c.requires.kept.reported.1 (c.requires.report.complete c.args.place i j less race)) in
    subst (IsReportBelow c.args.history.now (c.args.position + 1)) (sym {A = List Race} c.in_ok-push.ensures.items)
    (report_grows _ _ _ _ _ at (c.requires.place _ at) refl (is_reported _ _ _ _ _ _ _ m _ _ c.from.ensures at_first c.if-latest-eq0.false none) c.requires.report)

pub returns-clause-reported : goal.returns-clause-reported
returns-clause-reported c = (λ _. subst (λ xs. HasRace xs c.args.place) (sym c.in_ok-push.ensures.items) (_, Contains-push _ _, refl), λ _. refl)
