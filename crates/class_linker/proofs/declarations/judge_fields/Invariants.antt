use Rattle.std.proofs.Common.{◌≡◌, length}
use Rattle.class_linker.specs.Judging.{fields_judged}
use Rattle.class_linker.proofs.declarations.judge_fields.Given as goal

abbrev pub invariant-loop-rest : goal.invariant-loop-rest
invariant-loop-rest l = fields_judged l.names l.class l.taken l.rest l.counts l.found ≡ fields_judged l.names l.class l.taken l.fields l.initial.counts l.initial.found

abbrev pub decreases-loop-rest : goal.decreases-loop-rest
decreases-loop-rest l = length l.rest
