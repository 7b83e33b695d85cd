use Rattle.std.proofs.Common.{sym, ◌∙◌, nat_eq}
use Rattle.jasmin_text.proofs.Skipping.{position-missed}
use Rattle.jasmin_text.proofs.words.left_of_line.Goals as goal

pub returns-in-None : goal.returns-in-None
returns-in-None c = sym (position-missed (λ b. nat_eq b 10) c.args.bytes.now (sym c.find_line_feed.ensures ∙ c.in-None.is))
