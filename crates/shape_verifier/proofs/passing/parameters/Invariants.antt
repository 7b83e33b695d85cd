use Rattle.std.proofs.Common.{◌≡◌, ◌++◌, map, take, Some}
use Rattle.shape_verifier.specs.Turning.{receiver_local}
use Rattle.shape_verifier.proofs.passing.parameters.Given as goal

-- the receiver and the first parameters
abbrev pub invariant-loop-kind : goal.invariant-loop-kind
invariant-loop-kind l = l.locals.items ≡ receiver_local l.method ++ map Some (take l.kind-index l.kind-items)
