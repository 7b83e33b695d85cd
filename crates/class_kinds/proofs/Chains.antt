-- A class and its supers, one after another.
use Rattle.std.proofs.Common.{◌≡◌, ℕ, zero, suc, [], None, refl}
use Rattle.machine_model.specs.Declarations.{Declarations}
use Rattle.machine_model.specs.Kinds.{supers_within}

pub none_above : (n : ℕ) (d : Declarations) → supers_within n d None ≡ []
none_above zero d = refl
none_above (suc n) d = refl
