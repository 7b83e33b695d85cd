use Rattle.shape_laws.proofs.Kept.{main_fits, thread_fits}
use Rattle.shape_laws.proofs.laws.first_states_fit.Goals as goal

pub returns : goal.returns
returns c = record { main = λ p table linked shapes. main_fits p table linked shapes; thread = λ p table target linked shapes runs made under. thread_fits p table target linked shapes runs made under }
