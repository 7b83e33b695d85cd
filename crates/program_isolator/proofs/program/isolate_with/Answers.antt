use Rattle.std.proofs.Common.{◌≡◌, ℕ, List, ap, ◌∙◌}
use Rattle.schedule_model.specs.declared.outcome.Outcome.{Outcome}
use Rattle.program_isolator.proofs.Ends.{passes_of, fails_of}
use Rattle.program_isolator.proofs.Found.{found_between}
use Rattle.program_isolator.proofs.program.isolate_with.Goals as goal

pub isolate-requires-clause-passes : goal.isolate-requires-clause-passes
isolate-requires-clause-passes g c = ap (λ (o : List ℕ → Outcome). o c.args.pass.now) c.requires.outcome ∙ passes_of c.args._plain.now c.args.pass.now c.args.events c.args._fault c.requires.passes

pub isolate-requires-clause-fails : goal.isolate-requires-clause-fails
isolate-requires-clause-fails g c = ap (λ (o : List ℕ → Outcome). o c.args.fail.now) c.requires.outcome ∙ fails_of c.args._plain.now c.args.fail.now c.args.events c.args._fault c.requires.fails

pub returns-clause-found : goal.returns-clause-found
returns-clause-found g c =
    let e = c.isolate.ensures in
    found_between c.args._plain.now c.args.events c.args.pass.now c.args.fail.now c.args._fault (g.R.Rounds.outcome c.args.rounds.now) c.requires.outcome c.isolate.result e.isolated e.last e.units e.asked e.unresolved
