use Rattle.linking_laws.proofs.NamesThere.{linked_names_there}
use Rattle.linking_laws.proofs.laws.linked_program_names_what_is_there.Goals as goal

pub returns : goal.returns
returns c = λ classes p e. linked_names_there classes p e
