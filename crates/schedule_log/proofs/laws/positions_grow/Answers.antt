use Rattle.std.proofs.Common.{◌+◌, ◌≡◌, ◌++◌, ◌∷◌, [], ℕ, cond, eqb, length, ap, ◌∙◌, arith}
use Rattle.schedule_log.specs.Parts.{positions_from}
use Rattle.schedule_log.proofs.Folded.{positions-push}
use Rattle.schedule_log.proofs.laws.positions_grow.Goals as goal

pub returns : goal.returns
returns c = λ t last threads. positions-push 0 t last threads ∙ ap (λ (n : ℕ). positions_from 0 t threads ++ cond (eqb last t) (n ∷ []) []) (let same : 0 + length threads ≡ length threads = omega arith in same)
