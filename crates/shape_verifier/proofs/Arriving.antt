-- What the state becomes where a shape comes to an instruction, by what was there.
use Rattle.std.proofs.Common.{◌≡◌, ℕ, Bool, true, false, Option, Some, Ok, Err, refl, sym, ◌∙◌, ap}
use Rattle.std.specs.Prelude.{if◌then◌else◌, slice_get, slice_set, Result}
use Rattle.vm_model.specs.Program.{PlainProgram}
use Rattle.vm_model.specs.Failures.{◌>>=◌}
use Rattle.machine_model.specs.Shapes.{Shape}
use Rattle.shape_lattice.specs.declared.fault.ShapeKind.{ShapeKind}
use Rattle.shape_lattice.specs.Merging.{merged_shape, takes}
use Rattle.shape_verifier.specs.declared.fault.Refusal.{Refusal}
use Rattle.shape_verifier.specs.declared.passing.Reached.{Reached}
use Rattle.shape_verifier.specs.Passing.{PassState, at_place, merged_at, merged_into, reached}
use Rattle.shape_verifier.specs.Turning.{CopiedSo}
use Rattle.shape_verifier.proofs.Places.{same_again}

-- the test decides, and the merged shape is put there
abbrev tested : PassState → ℕ → Bool → Result Shape ShapeKind → Result PassState Refusal
tested state place b merged = if b then Ok state else (at_place place merged >>= λ m. Ok (slice_set state place (reached true m)))

met : (p : PlainProgram) (state : PassState) (place : ℕ) (s : Shape) (r : Reached) (b : Bool) (merged : Result Shape ShapeKind) → slice_get state place ≡ Some (Some r) → b ≡ takes p s r.shape
    → merged_shape p s r.shape ≡ merged → merged_at p state place s ≡ tested state place b merged
met p state place s r b merged at is e =
    ap (λ (o : Option (Option Reached)). merged_into p state place s o) at
    ∙ ap (λ (x : Bool). tested state place x (merged_shape p s r.shape)) (sym is)
    ∙ ap (λ (x : Result Shape ShapeKind). tested state place b x) e

pub stays : (p : PlainProgram) (state : PassState) (place : ℕ) (s : Shape) (r new : Reached) → slice_get state place ≡ Some (Some r) → (true ≡ takes p s r.shape) × (new ≡ r)
    → (merged_at p state place s ≡ Ok (slice_set state place (Some new))) × (slice_set state place (Some new) ≡ state)
stays p state place s r new at h =
    let same = same_again state place (Some new) (at ∙ ap (λ (x : Reached). Some (Some x)) (sym h.1)) in
    (met p state place s r true (merged_shape p s r.shape) at h.0 refl ∙ ap Ok (sym same), same)

pub stops : (p : PlainProgram) (state : PassState) (place : ℕ) (s : Shape) (r : Reached) (why : ShapeKind) → slice_get state place ≡ Some (Some r) → (false ≡ takes p s r.shape) × (merged_shape p s r.shape ≡ Err why)
    → merged_at p state place s ≡ Err (record { kind = why; at = place })
stops p state place s r why at h = met p state place s r false (Err why) at h.0 h.1

-- what arrived, whether it is new or not
pub copied : (b : Bool) (old new : PassState) (answer : Result PassState Refusal) → CopiedSo (Ok b) old new answer → answer ≡ Ok new
copied true old new answer h = h
copied false old new answer h = h.0
