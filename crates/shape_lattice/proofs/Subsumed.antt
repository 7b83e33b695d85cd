-- What an instruction asks of a kind holds of each kind that is subsumed under it.
use Rattle.std.proofs.Common.{◌≡◌, ℕ, true, false, refl, subst, ⊎_elim}
use Rattle.std.specs.Prelude.{◌==◌, not}
use Rattle.std.specs.List.{list_any}
use Rattle.std.proofs.lemmas.Bool.{false≢true}
use Rattle.vm_model.specs.declared.value.Kind.{Kind}
use Rattle.vm_model.specs.declared.value.Kind.TheVariants as kind
use Rattle.vm_model.specs.Program.{PlainProgram}
use Rattle.machine_model.specs.Declarations.{Declarations, declarations_of}
use Rattle.machine_model.specs.Kinds.{chain, extends, is_assignable}
use Rattle.machine_model.specs.Shapes.{is_subsumed, is_int, is_reference, is_array}
use Rattle.shape_laws.proofs.Tests.{same, either, of_left, both, on_left}
use Rattle.shape_laws.proofs.Supers.{extends_extends}

-- ---- what an instruction tests of a kind

pub int_kept : (p : PlainProgram) (k l : Kind) → is_subsumed p k l ≡ true → is_int l ≡ true → is_int k ≡ true
int_kept p kind.Int l is h = refl
int_kept p k kind.Null is h = absurd (false≢true h)
int_kept p k (kind.Ref d) is h = absurd (false≢true h)
int_kept p k kind.Arr is h = absurd (false≢true h)
int_kept p k kind.Args is h = absurd (false≢true h)
int_kept p k kind.Int is h = absurd (false≢true is)

pub other_kept : (p : PlainProgram) (k l : Kind) → is_subsumed p k l ≡ true → not (is_int l) ≡ true → not (is_int k) ≡ true
other_kept p kind.Int kind.Int is h = h
other_kept p kind.Int l is h = absurd (false≢true is)
other_kept p k l is h = refl

pub reference_kept : (p : PlainProgram) (k l : Kind) → is_subsumed p k l ≡ true → is_reference l ≡ true → is_reference k ≡ true
reference_kept p kind.Int kind.Int is h = h
reference_kept p kind.Int l is h = absurd (false≢true is)
reference_kept p kind.Args kind.Args is h = h
reference_kept p kind.Args l is h = absurd (false≢true is)
reference_kept p k l is h = refl

pub array_kept : (p : PlainProgram) (k l : Kind) → is_subsumed p k l ≡ true → is_array l ≡ true → is_array k ≡ true
array_kept p kind.Null l is h = refl
array_kept p kind.Arr l is h = refl
array_kept p k kind.Int is h = absurd (false≢true h)
array_kept p k (kind.Ref d) is h = absurd (false≢true h)
array_kept p k kind.Args is h = absurd (false≢true h)
array_kept p k l is h = absurd (false≢true is)

-- ---- where one kind may stand for another

-- a class may stand for what its super may stand for
class_kept : (d : Declarations) (b c e : ℕ) → list_any (λ s. s == c) (chain d b) ≡ true → extends d c e ≡ true → extends d b e ≡ true
class_kept d b c e is h = extends_extends d b c e (on_left (list_any (λ s. s == c) (chain d b)) _ is) h

-- Object may stand for itself only
object_kept : (d : Declarations) (c e : ℕ) → (c == 0) ≡ true → extends d c e ≡ true → (e == 0) ≡ true
unfolding chain
object_kept d c e is h =
    subst (λ (y : ℕ). (y == 0) ≡ true) (same 0 e (object (subst (λ (y : ℕ). extends d y e ≡ true) (same c 0 is) h))) refl
  where
    object : extends d 0 e ≡ true → (0 == e) ≡ true
    object h' = ⊎_elim (λ a. of_left (0 == e) a) (λ a. absurd (false≢true (both (e == 2) false a).1)) (either (list_any (λ s. s == e) (chain d 0)) _ h')

-- a kind may stand for what the kind that it is subsumed under may stand for
pub assignable_kept : (p : PlainProgram) (k l wanted : Kind) → is_subsumed p k l ≡ true → is_assignable (declarations_of p) l wanted ≡ true → is_assignable (declarations_of p) k wanted ≡ true
assignable_kept p kind.Int kind.Int wanted is h = h
assignable_kept p kind.Int l wanted is h = absurd (false≢true is)
assignable_kept p kind.Null kind.Null wanted is h = h
assignable_kept p kind.Null (kind.Ref d) (kind.Ref e) is h = refl
assignable_kept p kind.Null (kind.Ref d) wanted is h = absurd (false≢true h)
assignable_kept p kind.Null kind.Arr (kind.Ref e) is h = refl
assignable_kept p kind.Null kind.Arr kind.Arr is h = refl
assignable_kept p kind.Null kind.Arr wanted is h = absurd (false≢true h)
assignable_kept p kind.Null l wanted is h = absurd (false≢true is)
assignable_kept p (kind.Ref c) (kind.Ref d) (kind.Ref e) is h = class_kept (declarations_of p) c d e is h
assignable_kept p (kind.Ref c) (kind.Ref d) wanted is h = absurd (false≢true h)
assignable_kept p (kind.Ref c) l wanted is h = absurd (false≢true is)
assignable_kept p kind.Arr (kind.Ref d) (kind.Ref e) is h = object_kept (declarations_of p) d e is h
assignable_kept p kind.Arr (kind.Ref d) wanted is h = absurd (false≢true h)
assignable_kept p kind.Arr kind.Arr wanted is h = h
assignable_kept p kind.Arr l wanted is h = absurd (false≢true is)
assignable_kept p kind.Args kind.Args wanted is h = h
assignable_kept p kind.Args l wanted is h = absurd (false≢true is)
