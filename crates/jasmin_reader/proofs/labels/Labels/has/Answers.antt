use Rattle.std.proofs.Common.{ap, ◌∙◌, bytes_eq}
use Rattle.std.specs.List.{list_any}
use Rattle.jasmin_reader.proofs.KeptNames.{found-name}
use Rattle.jasmin_reader.proofs.labels.Labels.has.Goals as goal

pub returns : goal.returns
returns c = c.contains.ensures ∙ found-name c.args.label.now c.self.inside.names.keys ∙ ap (list_any (bytes_eq c.args.label.now)) c.self.view_is
