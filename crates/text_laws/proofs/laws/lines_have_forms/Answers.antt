use Rattle.text_laws.proofs.HaveForms.{read-classes}
use Rattle.text_laws.proofs.LineForms.{form-related, one-form, form-or-fault}
use Rattle.text_laws.proofs.laws.lines_have_forms.Goals as goal

pub returns : goal.returns
returns c = record {
  alone = λ n words f. form-related n words f;
  one = λ n words f g h i. one-form n words f g h i;
  some = λ n words. form-or-fault n words;
  read = λ text tokens classes. read-classes text tokens classes;
}
