use Rattle.text_laws.proofs.ClassRules.{classes-made}
use Rattle.text_laws.proofs.laws.forms_make_classes.Goals as goal

pub returns : goal.returns
returns c = λ forms classes. classes-made forms classes
