use Rattle.std.proofs.Common.{◌∙◌, ap}
use Rattle.name_resolver.specs.Index.{value_of}
use Rattle.name_resolver.proofs.Rows.{found-row}
use Rattle.name_resolver.proofs.index.Index.find.Goals as goal

pub returns : goal.returns
returns c = c.copied.ensures ∙ c.get.ensures.value ∙ found-row c.args.key.now c.self.inside.rows.entries ∙ ap (value_of c.args.key.now) c.self.view_is
