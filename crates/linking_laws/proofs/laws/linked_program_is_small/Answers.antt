use Rattle.linking_laws.proofs.Linkings.{linked_is_few, linked_is_small}
use Rattle.linking_laws.proofs.laws.linked_program_is_small.Goals as goal

pub returns : goal.returns
returns c = record { small = λ classes p e. linked_is_small classes p e; methods = λ classes p e. (linked_is_few classes p e).few }
