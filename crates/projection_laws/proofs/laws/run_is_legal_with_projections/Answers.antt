use Rattle.projection_laws.proofs.Alone.{column, legal, projections}
use Rattle.projection_laws.proofs.laws.run_is_legal_with_projections.Goals as goal

pub returns : goal.returns
returns c = record {
  threads = λ p ts m e. column p ts m e;
  legal = λ p ts m e. legal p ts m e;
  projections = λ p ts m e. projections p ts m e;
}
