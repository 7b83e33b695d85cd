use Rattle.linking_laws.proofs.ReadNames.{read_are_named}
use Rattle.linking_laws.proofs.ReadCountable.{read_are_countable}
use Rattle.linking_laws.proofs.Faultless.{named_by_rules, linked_by_rules}
use Rattle.linking_laws.proofs.laws.linking_is_by_the_rules.Goals as goal

pub returns : goal.returns
returns c = record {
  named = λ classes f named few. named_by_rules classes f named few;
  linked = λ classes named few. linked_by_rules classes named few;
  read = λ text tokens classes f short cut e. named_by_rules classes f (read_are_named text tokens classes e) (read_are_countable text tokens classes short cut e);
  faultless = λ text tokens classes short cut e. linked_by_rules classes (read_are_named text tokens classes e) (read_are_countable text tokens classes short cut e);
}
