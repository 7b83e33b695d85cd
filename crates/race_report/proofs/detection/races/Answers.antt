use Rattle.std.proofs.Common.{ap, sym, subst}
use Rattle.std.specs.Map.{lookup}
use Rattle.race_report.specs.Accesses.{is_place, accesses_or_none}
use Rattle.race_report.specs.OwnersClocks.{is_owner, clock_or_none}
use Rattle.race_report.specs.Races.{IsReportBelow}
use Rattle.race_report.specs.declared.owner.ThreadStart.{ThreadStart}
use Rattle.std.specs.Prelude.{Contains, ◌↔◌, ℕ}
use Rattle.race_report.specs.HappensBefore.{WasStarted}
use Rattle.race_report.proofs.Giving.{first_clocks, first_starts}
use Rattle.race_report.proofs.PlacesKept.{first_places}
use Rattle.race_report.proofs.Racing.{no_race, whole}
use Rattle.race_report.proofs.detection.races.Goals as goal

pub loop-position-init : goal.loop-position-init
loop-position-init c = record {
  clocks = record {
    told = first_clocks _ _ (λ k. ap (λ es. clock_or_none (lookup (is_owner k) es)) c.new-clocks.ensures.empty);
    started = subst (λ xs. (object thread : ℕ) → WasStarted c.args.history.now 0 object thread ↔ Contains {X = ThreadStart} xs (record { object = object; thread = thread })) (sym c.new-starts.ensures.items) (first_starts c.args.history.now);
  };
  places = record {
    report = subst (IsReportBelow c.args.history.now 0) (sym c.new-found.ensures.items) (no_race c.args.history.now);
    kept = λ q. first_places _ _ _ c.new-found.ensures.items (ap (λ es. accesses_or_none (lookup (is_place q) es)) c.new-places.ensures.empty) q;
  };
}

pub returns : goal.returns
returns c = record { report = whole _ _ _ c.loop-position-test.false c.loop-position.invariant.places.report }
