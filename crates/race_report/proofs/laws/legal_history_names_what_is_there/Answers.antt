use Rattle.machine_model.specs.Shared.{start}
use Rattle.race_report.proofs.Legal.{of_threads, races_declared}
use Rattle.race_report.proofs.laws.legal_history_names_what_is_there.Goals as goal

pub returns : goal.returns
returns c = record { threads = λ d history s legal. of_threads d (start d) s history legal; places = races_declared }
