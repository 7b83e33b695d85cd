use Rattle.linking_laws.proofs.ReadNames.{read_are_named}
use Rattle.linking_laws.proofs.WellLinked.{linked_is_well_linked}
use Rattle.linking_laws.proofs.laws.linked_program_is_well_linked.Goals as goal

pub returns : goal.returns
returns c = record {
  named = λ classes p named e. linked_is_well_linked classes p named e;
  read = λ text tokens classes p r e. linked_is_well_linked classes p (read_are_named text tokens classes r) e;
}
