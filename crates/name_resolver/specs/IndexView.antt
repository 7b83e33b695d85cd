-- What an index holds.
use Rattle.std.specs.Prelude.{ℕ, map}
use Rattle.indexmap.specs.IndexMap.{IndexMap}
use Rattle.std.specs.Prelude.{Vec}
use Rattle.name_resolver.specs.Index.{Rows}

abbrev pub rows_of : {A S : Type 0} → IndexMap (Vec ℕ A) ℕ S → Rows
rows_of m = map (λ row. (row.0.items, row.1)) m.entries
