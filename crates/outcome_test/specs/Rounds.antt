-- Rounds of tests over runs of a program.
use Rattle.std.specs.Prelude.{◌≡◌, ◌≤◌, ◌<◌, ◌+◌, ◌^◌, ℕ, None, List, Result, IfOk}
use Rattle.std.proofs.Common.{arith}
use Rattle.vm_model.specs.declared.limits.TheConstants.{MOST_EVENTS}
use Rattle.vm_model.specs.declared.ends.Fault.{Fault}
use Rattle.vm_model.specs.declared.memory.NoMemory.{NoMemory}
use Rattle.schedule_model.specs.declared.outcome.Outcome.{Outcome}
use Rattle.vm_model.specs.Program.{PlainProgram}
use Rattle.machine_model.specs.Machine.{end_of, start_machine}

-- the program, the fault, how many events a run may make, and how many of the tests that counted were resolved and unresolved
pub record RoundsState : Type 0 where
  pub program : PlainProgram
  pub fault : Fault
  pub events : ℕ
  pub resolved : ℕ
  pub unresolved : ℕ

-- runs can be made, and the counts are numbers of 64 bits
pub record AreRounds (s : RoundsState) : Type 0 where
  pub some : 1 ≤ s.events
  pub limit : s.events ≤ MOST_EVENTS
  pub begins : end_of s.program (start_machine s.program) s.events ≡ None
  pub counts : s.resolved + s.unresolved < 2 ^ 64

pub counted : (resolved unresolved : ℕ) → unresolved ≤ resolved + unresolved
counted resolved unresolved = omega arith

-- what a test was found to show, unless memory ran out
abbrev pub Shows : (List ℕ → Outcome) → List ℕ → Result Outcome NoMemory → Type 0
Shows outcome test shown = IfOk shown (λ o. outcome test ≡ o)
