use Rattle.linking_laws.proofs.ReadOutside.{read_outside}
use Rattle.linking_laws.proofs.laws.instructions_out_of_profile.Goals as goal

pub returns : goal.returns
returns c = λ classes words said run texts labels e known. read_outside classes words said run texts labels e known
