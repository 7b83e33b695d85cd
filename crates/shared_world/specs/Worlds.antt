-- The world as callers see it, and what an operation makes of it.
use Rattle.std.specs.Prelude.{ℕ, Bool, true, false, List, [], ◌∷◌, ◌++◌}
use Rattle.vm_model.specs.declared.op.Op.{Op}
use Rattle.vm_model.specs.declared.op.Op.TheVariants as op
use Rattle.vm_model.specs.declared.op.Entry.{Entry}
use Rattle.machine_model.specs.Declarations.{Declarations}
use Rattle.machine_model.specs.Shared.{SharedState, start}
use Rattle.machine_model.specs.Operations.{apply, entry}

pub record WorldState : Type 0 where
  pub declarations : Declarations
  -- so many events may be made
  pub budget : ℕ
  pub shared : SharedState
  pub history : List Entry

abbrev pub first_world : Declarations → ℕ → WorldState
first_world d budget = record { declarations = d; budget = budget; shared = start d; history = [] }

-- the world after an operation, which is its newest event
abbrev pub after : WorldState → ℕ → Op → WorldState
after w t o =
    record {
      declarations = w.declarations;
      budget = w.budget;
      shared = (apply w.declarations w.shared t o).world;
      history = w.history ++ entry t o (apply w.declarations w.shared t o).reply ∷ [];
    }

-- the operations that may need memory
abbrev pub takes_memory : Op → Bool
takes_memory (op.GetStatic slot) = false
takes_memory (op.PutStatic slot v) = false
takes_memory (op.GetField o place) = false
takes_memory (op.PutField o place v) = false
takes_memory (op.ArrayLoad arr index) = false
takes_memory (op.ArrayStore arr index n) = false
takes_memory (op.New class) = true
takes_memory (op.NewArray len) = true
takes_memory (op.Enter l) = false
takes_memory (op.Exit l) = false
takes_memory (op.Wait l) = true
takes_memory (op.Resume l count) = false
takes_memory (op.Notify l) = false
takes_memory (op.NotifyAll l) = false
takes_memory (op.Start target) = true
takes_memory (op.Join obj) = false
takes_memory (op.Print what newline) = true
takes_memory op.Yield = false
takes_memory op.Tick = false
takes_memory op.ThreadEnd = false
takes_memory (op.Fault kind method at) = false
