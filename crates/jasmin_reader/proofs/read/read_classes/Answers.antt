use Rattle.jasmin_reader.proofs.Within.{tokens-within}
use Rattle.jasmin_reader.proofs.read.read_classes.Goals as goal

pub lines_of-requires : goal.lines_of-requires
lines_of-requires c = tokens-within c.args.text.now c.args.tokens.now c.requires
