-- The lanes of threads, and what a history has of them.
use Rattle.std.specs.Prelude.{◌≡◌, ℕ, ◌%◌, ◌==◌, Bool, false, if◌then◌else◌, List, [], ◌∷◌, ⊤}
use Rattle.std.specs.List.{list_any}
use Rattle.vm_model.specs.declared.op.Entry.{Entry}

-- the number is in the list
abbrev pub has : List ℕ → ℕ → Bool
has lanes l = list_any (λ k. k == l) lanes

-- the list without the number
abbrev pub without : ℕ → List ℕ → List ℕ
without l [] = []
without l (k ∷ ks) = if k == l then without l ks else k ∷ without l ks

-- none of the entries is of one of these lanes, where there are so many lanes
abbrev pub HasNone : ℕ → List ℕ → List Entry → Type 0
HasNone count lanes [] = ⊤
HasNone count lanes (e ∷ es) = (has lanes (e.thread % count) ≡ false) × HasNone count lanes es
