use Rattle.linking_laws.proofs.NamedFault.{declarations_first, bodies_first, main_last, linked_exactly}
use Rattle.linking_laws.proofs.laws.named_fault_is_first.Goals as goal

pub returns : goal.returns
returns c = record {
  declarations = λ classes f some. declarations_first classes f some;
  bodies = λ classes f none some. bodies_first classes f none some;
  main = λ classes f none also. main_last classes f none also;
  linked = λ classes. linked_exactly classes;
}
