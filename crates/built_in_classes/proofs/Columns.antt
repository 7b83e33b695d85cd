-- A column of a table has at the place of a row what the row has there.
use Rattle.std.proofs.Common.{◌≡◌, ℕ, ◌<◌, Bool, true, List, length, map, Option, Some, refl, ◌∙◌, ap, arith}
use Rattle.std.specs.Prelude.{get_or, nat_lt, slice_get}
use Rattle.std.specs.Option.{option_map}
use Rattle.std.proofs.lemmas.Bool.Decides.{nat_tests}
use Rattle.std.proofs.lemmas.Option.{slice_get-map, slice_get_read}

below : (n size : ℕ) → true ≡ nat_lt n size → n < size
below n size e = grind (arith, nat_tests)

pub in_column : {A B : Type 0} (f : A → B) (rows : List A) (n : ℕ) (row : A) → true ≡ nat_lt n (length rows) → row ≡ get_or rows n row → slice_get (map f rows) n ≡ Some (f row)
in_column f rows n row low e = slice_get-map f rows n ∙ ap (option_map f) (slice_get_read rows (length rows) n row refl (below n (length rows) low) e)
