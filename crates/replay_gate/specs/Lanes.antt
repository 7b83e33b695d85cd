-- Lanes: a thread belongs to the lane of its number modulo the number of lanes.
use Rattle.std.specs.Prelude.{ℕ, ◌%◌, ◌==◌, Bool, true, false, ◌&&◌, ◌||◌, not, if◌then◌else◌, List, [], ◌∷◌}
use Rattle.vm_model.specs.declared.op.Entry.{Entry}

abbrev pub lane_of : ℕ → ℕ → ℕ
lane_of lanes thread = thread % lanes

-- the lane is among these
abbrev pub has : List ℕ → ℕ → Bool
has [] lane = false
has (l ∷ ls) lane = l == lane || has ls lane

-- all but this lane
abbrev pub without : ℕ → List ℕ → List ℕ
without lane [] = []
without lane (l ∷ ls) = if l == lane then without lane ls else l ∷ without lane ls

abbrev pub is_of : ℕ → ℕ → Entry → Bool
is_of lanes lane e = lane_of lanes e.thread == lane

-- no entry of the lane is among these
abbrev pub is_quiet : ℕ → ℕ → List Entry → Bool
is_quiet lanes lane [] = true
is_quiet lanes lane (e ∷ es) = not (is_of lanes lane e) && is_quiet lanes lane es
