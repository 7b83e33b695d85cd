use Rattle.std.proofs.Common.{◌≡◌, ◌≤◌, reverse, length, take}
use Rattle.shape_verifier.specs.Answers.{kinds_taken}
use Rattle.shape_verifier.proofs.declared.take_all.Given as goal

-- what is taken by the kinds that are left is what all kinds take
abbrev pub invariant-loop-left : goal.invariant-loop-left
invariant-loop-left l =
    (kinds_taken l.program (reverse (take l.left l.wanted)) l.shape.stack ≡ kinds_taken l.program (reverse l.wanted) l.fn.shape.stack) × (l.shape.locals ≡ l.fn.shape.locals)
    × (l.left ≤ length l.wanted)

abbrev pub decreases-loop-left : goal.decreases-loop-left
decreases-loop-left l = l.left
