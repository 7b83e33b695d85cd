-- What becomes of the state where a shape comes to an instruction.
use Rattle.std.proofs.Common.{◌≡◌, ℕ, Bool, true, false, Option, Some, None, Ok, Err, refl, sym, ◌∙◌, ap}
use Rattle.std.specs.Prelude.{if◌then◌else◌, slice_get, slice_set, Result}
use Rattle.vm_model.specs.Program.{PlainProgram}
use Rattle.vm_model.specs.Failures.{◌>>=◌}
use Rattle.machine_model.specs.Shapes.{Shape}
use Rattle.shape_lattice.specs.declared.fault.ShapeKind.{ShapeKind}
use Rattle.shape_lattice.specs.Merging.{merged_shape, takes}
use Rattle.shape_verifier.specs.declared.fault.Refusal.{Refusal}
use Rattle.shape_verifier.specs.declared.passing.Reached.{Reached}
use Rattle.shape_verifier.specs.Passing.{PassState, at_place, merged_at, merged_into, reached}

pub data Arrives (p : PlainProgram) (state : PassState) (place : ℕ) (s : Shape) (next : PassState) : Type 0 where
  -- there is no such instruction
  Nowhere : slice_get state place ≡ None → next ≡ state → Arrives p state place s next
  First : slice_get state place ≡ Some None → next ≡ slice_set state place (reached true s) → Arrives p state place s next
  Stays : (r : Reached) → slice_get state place ≡ Some (Some r) → takes p s r.shape ≡ true → next ≡ state → Arrives p state place s next
  Raised : (r : Reached) (merged : Shape) → slice_get state place ≡ Some (Some r) → takes p s r.shape ≡ false → merged_shape p s r.shape ≡ Ok merged
      → next ≡ slice_set state place (reached true merged) → Arrives p state place s next

ok_same : (x y : PassState) → ◌≡◌ {A = Result PassState Refusal} (Ok x) (Ok y) → y ≡ x
ok_same x y e = cc

pub arrives : (p : PlainProgram) (state : PassState) (place : ℕ) (s : Shape) (next : PassState) → merged_at p state place s ≡ Ok next → Arrives p state place s next
arrives p state place s next e = by (slice_get state place) refl
  where
    changed : (r : Reached) (merged : Result Shape ShapeKind) → slice_get state place ≡ Some (Some r) → takes p s r.shape ≡ false → merged_shape p s r.shape ≡ merged
        → (at_place place merged >>= λ m. Ok (slice_set state place (reached true m))) ≡ Ok next → Arrives p state place s next
    changed r (Ok merged) at not is e' = Raised r merged at not is (ok_same _ _ e')
    changed r (Err why) at not is e' = cc

    tested : (r : Reached) (b : Bool) → slice_get state place ≡ Some (Some r) → takes p s r.shape ≡ b
        → (if b then Ok state else (at_place place (merged_shape p s r.shape) >>= λ m. Ok (slice_set state place (reached true m)))) ≡ Ok next → Arrives p state place s next
    tested r true at is e' = Stays r at is (ok_same _ _ e')
    tested r false at is e' = changed r (merged_shape p s r.shape) at is refl e'

    found : (o : Option (Option Reached)) → slice_get state place ≡ o → merged_into p state place s o ≡ Ok next → Arrives p state place s next
    found None at e' = Nowhere at (ok_same _ _ e')
    found (Some None) at e' = First at (ok_same _ _ e')
    found (Some (Some r)) at e' = tested r (takes p s r.shape) at refl e'

    by : (o : Option (Option Reached)) → slice_get state place ≡ o → Arrives p state place s next
    by o at = found o at (sym (ap (λ (x : Option (Option Reached)). merged_into p state place s x) at) ∙ e)
