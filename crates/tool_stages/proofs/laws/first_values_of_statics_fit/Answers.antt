use Rattle.tool_stages.proofs.FirstValues.{first_values_fit}
use Rattle.tool_stages.proofs.Linked.{steps_of}
use Rattle.tool_stages.proofs.laws.first_values_of_statics_fit.Goals as goal

pub returns : goal.returns
returns c = record {
  linked = λ classes p e. first_values_fit classes p e;
  accepted = λ text p accepted. let s = steps_of text p accepted.links in first_values_fit s.classes p s.links;
}
