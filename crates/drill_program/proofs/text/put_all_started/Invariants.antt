use Rattle.std.proofs.Common.{◌≡◌, ◌++◌}
use Rattle.drill_program.specs.Texts.{of_workers, started_text}
use Rattle.drill_program.proofs.text.put_all_started.Given as goal

-- the lines so far come after what was there
abbrev pub invariant-loop-i : goal.invariant-loop-i
invariant-loop-i l = l.out.items ≡ l.initial.out.items ++ of_workers started_text l.i
