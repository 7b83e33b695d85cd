use Rattle.jasmin_reader.proofs.NewLabels.{among-new}
use Rattle.jasmin_reader.proofs.read.forms_of.Goals as goal

pub go_on-requires : goal.go_on-requires
go_on-requires c = among-new _ _ _ _ c.in-Ok.ensures
