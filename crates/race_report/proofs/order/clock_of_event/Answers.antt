use Rattle.std.proofs.Common.{ap, sym, subst}
use Rattle.std.specs.Map.{lookup}
use Rattle.std.specs.Prelude.{Contains, ◌↔◌, ℕ}
use Rattle.race_report.specs.HappensBefore.{WasStarted}
use Rattle.race_report.specs.OwnersClocks.{is_owner, clock_or_none}
use Rattle.race_report.specs.declared.owner.ThreadStart.{ThreadStart}
use Rattle.race_report.proofs.Giving.{first_clocks, first_starts}
use Rattle.race_report.proofs.order.clock_of_event.Goals as goal

pub loop-earlier-init : goal.loop-earlier-init
loop-earlier-init c = record {
  told = first_clocks _ _ (λ k. ap (λ es. clock_or_none (lookup (is_owner k) es)) c.new-clocks.ensures.empty);
  started = subst (λ xs. (object thread : ℕ) → WasStarted c.args.history.now 0 object thread ↔ Contains {X = ThreadStart} xs (record { object = object; thread = thread })) (sym c.new-starts.ensures.items) (first_starts c.args.history.now);
}
