-- Where one thread goes on when the lanes have left.
use Rattle.std.specs.Prelude.{ℕ, List, [], ◌∷◌}
use Rattle.vm_model.specs.declared.op.Entry.{Entry}

-- the thread of the last event, and the first thread before any
abbrev pub last_thread : List Entry → ℕ
last_thread [] = 0
last_thread (e ∷ []) = e.thread
last_thread (e ∷ f ∷ es) = last_thread (f ∷ es)
