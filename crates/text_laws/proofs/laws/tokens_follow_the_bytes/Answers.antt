use Rattle.text_laws.proofs.TokensRelated.{exactly, at-most-one, none-of-nothing}
use Rattle.text_laws.proofs.laws.tokens_follow_the_bytes.Goals as goal

pub returns : goal.returns
returns c = record {
  read = λ text tokens. exactly text tokens;
  one = λ text tokens others h i. at-most-one text tokens others h i;
  none = λ text. none-of-nothing text;
}
