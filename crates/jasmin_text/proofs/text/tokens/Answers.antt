use Rattle.std.proofs.Common.{Result, Ok, Err}
use Rattle.std.specs.Result.{IfOk, MatchResult}
use Rattle.jasmin_text.proofs.InOrder.{spans}
use Rattle.jasmin_text.proofs.Slices.{slices}
use Rattle.jasmin_text.proofs.text.tokens.Goals as goal

of_value : {T E : Type 0} (r : Result T E) (P Q : T → Type 0) (F : E → Type 0) → MatchResult r P F → ((x : T) → P x → Q x) → IfOk r Q
of_value (Ok x) P Q F h f = f x h
of_value (Err e) P Q F h f = tt

pub returns-clause-spans : goal.returns-clause-spans
returns-clause-spans c = of_value c.cut.result _ _ _ c.cut.ensures (λ v h. spans c.args.text.now v.items h)

pub returns-clause-slices : goal.returns-clause-slices
returns-clause-slices c = of_value c.cut.result _ _ _ c.cut.ensures (λ v h. slices c.args.text.now v.items h)
