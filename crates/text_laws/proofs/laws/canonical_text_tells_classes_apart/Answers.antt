use Rattle.text_laws.proofs.Apart.{alike-same, same-alike}
use Rattle.text_laws.proofs.Whole.{reads-the-same}
use Rattle.text_laws.proofs.laws.canonical_text_tells_classes_apart.Goals as goal

pub returns : goal.returns
returns c = λ text tokens classes second second_tokens others e r e' r'. (same-alike classes others (reads-the-same text tokens classes e r) (reads-the-same second second_tokens others e' r'), alike-same classes others)
