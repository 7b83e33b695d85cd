use Rattle.shape_laws.proofs.Found.{found}
use Rattle.shape_laws.proofs.Kept.{has_operation, is_defined}
use Rattle.shape_laws.proofs.laws.operands_are_found.Goals as goal

pub returns : goal.returns
returns c = record {
  operands = λ p table f shapes fit. found p table f shapes fit;
  action = λ p table f linked shapes fit. is_defined p table f linked shapes fit;
  operation = λ p table l linked shapes fit open'. has_operation p table l linked shapes fit open';
}
