use Rattle.jasmin_lines.specs.Mnemonics.{mnemonic_of, table}
use Rattle.jasmin_lines.proofs.instructions.mnemonic_of.Goals as goal

pub returns : goal.returns
unfolding mnemonic_of table
returns c = c.row_of.ensures
