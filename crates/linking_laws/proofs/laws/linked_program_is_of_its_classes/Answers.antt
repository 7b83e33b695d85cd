use Rattle.linking_laws.proofs.ReadNames.{read_are_named}
use Rattle.linking_laws.proofs.ReadWritten.{read_are_written}
use Rattle.linking_laws.proofs.LinkedProgram.{linked_links}
use Rattle.linking_laws.proofs.laws.linked_program_is_of_its_classes.Goals as goal

pub returns : goal.returns
returns c = record {
  written = λ classes p named written e. linked_links classes p named written e;
  read = λ text tokens classes p r e. linked_links classes p (read_are_named text tokens classes r) (read_are_written text tokens classes r) e;
}
