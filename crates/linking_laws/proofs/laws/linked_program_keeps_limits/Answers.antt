use Rattle.linking_laws.proofs.KeptLimits.{linked_keeps_all}
use Rattle.linking_laws.proofs.laws.linked_program_keeps_limits.Goals as goal

pub returns : goal.returns
returns c = record {
  classes = λ classes p e. (linked_keeps_all classes p e).classes;
  methods = λ classes p e. (linked_keeps_all classes p e).methods;
  statics = λ classes p e. (linked_keeps_all classes p e).statics;
  fields = λ classes p e. (linked_keeps_all classes p e).fields;
  texts = λ classes p e. (linked_keeps_all classes p e).texts;
  numbers = λ classes p e. (linked_keeps_all classes p e).numbers;
}
