-- An accepted program makes an event under each budget.
use Rattle.std.proofs.Common.{◌≡◌, None, sym, subst}
use Rattle.machine_model.specs.Machine.{end_of, start_machine}
use Rattle.dejavu_tool.proofs.Beginning.{begins_under}
use Rattle.tool_tests.proofs.machines.ends.Goals as goal

pub record_still-requires-clause-begins : goal.record_still-requires-clause-begins
record_still-requires-clause-begins c =
    subst (λ p. end_of p (start_machine p) c.args.budget ≡ None) (sym c.plain.ensures.value) (begins_under _ c.args.budget c.requires.some c.in-Ok.ensures.begins)
