use Rattle.jasmin_reader.proofs.KeptNames.{added-name}
use Rattle.jasmin_reader.proofs.labels.Labels.add.Goals as goal

pub returns : goal.returns
returns c =
    added-name c.args.label.now c.in_ok-from_slice.field-0 c.self.inside.names.keys c.insert.new.self.keys c.args.self.now
    c.self.view_is c.in_ok-from_slice.ensures.items c.in_ok-insert.ensures.keys c.requires
