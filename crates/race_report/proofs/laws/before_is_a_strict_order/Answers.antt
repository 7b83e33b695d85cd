use Rattle.std.proofs.Common.{◌<◌, arith}
use Rattle.race_report.proofs.Clocking.{is_earlier, is_transitive}
use Rattle.race_report.proofs.laws.before_is_a_strict_order.Goals as goal

pub returns : goal.returns
returns c = record {
  irreflexive = λ history i before. (let less : i < i = is_earlier history i i before in omega (arith, less));
  transitive = is_transitive;
  earlier = is_earlier;
}
