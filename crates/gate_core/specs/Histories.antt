-- The entries of a lane in a history.
use Rattle.std.specs.Prelude.{ℕ, ◌+◌, ◌%◌, ◌==◌, if◌then◌else◌, List, [], ◌∷◌}
use Rattle.vm_model.specs.declared.op.Entry.{Entry}
use Rattle.gate_core.specs.Seats.{Placed, placed}

-- each entry with its position, from this position on
abbrev pub numbered : ℕ → List Entry → List Placed
numbered n [] = []
numbered n (e ∷ es) = placed n e ∷ numbered (n + 1) es

-- those whose thread belongs to the lane, of so many lanes
abbrev pub of_lane : ℕ → ℕ → List Placed → List Placed
of_lane lanes lane [] = []
of_lane lanes lane (e ∷ es) = if e.entry.thread % lanes == lane then e ∷ of_lane lanes lane es else of_lane lanes lane es

-- the entries of a lane in a history, with their positions in it
abbrev pub entries_of_lane : ℕ → ℕ → List Entry → List Placed
entries_of_lane lanes lane h = of_lane lanes lane (numbered 0 h)
