use Rattle.std.proofs.Common.{sym, ap}
use Rattle.built_in_classes.specs.Classes.{listed_name, listed_super}
use Rattle.built_in_classes.proofs.Columns.{in_column}
use Rattle.built_in_classes.proofs.table.super_in.Goals as goal

pub returns-in-Some : goal.returns-in-Some
returns-in-Some c = sym (ap listed_super (in_column (λ row. row.1) c.args.rows.now c.args.class _ c.in-Some.ensures.lookup.0 c.in-Some.ensures.lookup.1))
