use Rattle.linking_laws.proofs.ReadNames.{read_are_named}
use Rattle.linking_laws.proofs.ReadWritten.{read_are_written}
use Rattle.linking_laws.proofs.OnlyProgram.{same_program, links_exactly}
use Rattle.linking_laws.proofs.laws.classes_have_one_program.Goals as goal

pub returns : goal.returns
returns c = record {
  only = λ classes p q a b. same_program classes p q a b;
  exactly = λ classes p named written. links_exactly classes p named written;
  read = λ text tokens classes p r. links_exactly classes p (read_are_named text tokens classes r) (read_are_written text tokens classes r);
}
