use Rattle.std.proofs.Common.{◌≡◌, ℕ, zero, suc, Bool, List, [], ◌∷◌, sym, ◌∙◌, ap, subst, arith}
use Rattle.schedule_model.specs.declared.outcome.Outcome.{Outcome}
use Rattle.schedule_model.specs.declared.rounds.Found.TheVariants.{Resolved}
use Rattle.schedule_model.specs.Finds.{IsFirstResolved}
use Rattle.switch_reducer.specs.Rounds.{is_fail}
use Rattle.switch_reducer.proofs.search.empty_fails.Goals as goal

empty_shows : (outcome : List ℕ → Outcome) (times : List ℕ) (at : ℕ) (o : Outcome) (b : Bool) → b ≡ is_fail o → times ≡ [] → IsFirstResolved outcome (times ∷ []) (Resolved at o) → b ≡ is_fail (outcome [])
empty_shows outcome times zero o b e f first = e ∙ sym (ap is_fail (sym (ap outcome f) ∙ first.2 []))
empty_shows outcome times (suc at) o b e f first = absurd (omega (arith, first.0))

pub returns-in-Resolved-clause-fails : goal.returns-in-Resolved-clause-fails
returns-in-Resolved-clause-fails g c =
    let first = subst (IsFirstResolved (g.R.Rounds.outcome c.args.rounds.now) (c.new.result.items ∷ [])) c.in-Resolved.is c.in_ok-outcome.ensures.first in
    empty_shows (g.R.Rounds.outcome c.args.rounds.now) c.new.result.items c.in-Resolved.at c.in-Resolved.outcome c.is_fail.result c.is_fail.ensures c.new.ensures.items first
