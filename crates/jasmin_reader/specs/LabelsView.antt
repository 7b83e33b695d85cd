-- What a set of labels holds.
use Rattle.std.specs.Prelude.{ℕ, List, map, Vec}
use Rattle.indexmap.specs.IndexSet.{IndexSet}

abbrev pub names_of : {A S : Type 0} → IndexSet (Vec ℕ A) S → List (List ℕ)
names_of s = map (λ name. name.items) s.keys
