-- What fits a shape fits a shape that takes it.
use Rattle.std.proofs.Common.{◌≡◌, ℕ, true, false, List, [], ◌∷◌, Option, Some, None, refl, sym, subst, ⊎_elim}
use Rattle.std.specs.Prelude.{◌==◌, ◌||◌}
use Rattle.std.specs.List.{list_any}
use Rattle.std.proofs.lemmas.Bool.{false≢true}
use Rattle.vm_model.specs.declared.value.Value.{Value}
use Rattle.vm_model.specs.declared.value.Value.TheVariants as value
use Rattle.vm_model.specs.declared.value.Kind.{Kind}
use Rattle.vm_model.specs.declared.value.Kind.TheVariants as kind
use Rattle.vm_model.specs.Program.{PlainProgram}
use Rattle.machine_model.specs.Declarations.{Declarations, declarations_of}
use Rattle.machine_model.specs.Kinds.{fits, is_assignable, extends, chain}
use Rattle.machine_model.specs.Frames.{Frame}
use Rattle.machine_model.specs.Shapes.{Shape, Table, shape_at, is_subsumed, StackTakes, LocalsTake, Takes, TakesAt}
use Rattle.shape_laws.specs.Fitting.{is_made, is_of, FitsKinds, FitsLocals, FitsShape, FitsAt}
use Rattle.shape_laws.proofs.Tests.{same, either, of_left, both, joined, on_left}
use Rattle.shape_laws.proofs.Supers.{extends_passes, extends_extends}

-- a reference to the first class, where one to the second is subsumed under one to the third
class_fits : (d : Declarations) (x c e : ℕ) → (extends d x c || false) ≡ true → list_any (λ s. s == e) (chain d c) ≡ true → (extends d x e || false) ≡ true
class_fits d x c e f g = on_left (extends d x e) false (extends_passes d x c e (of_left (extends d x c) f) g)

array_fits : (d : Declarations) (c e : ℕ) → ((c == 0) || false) ≡ true → list_any (λ s. s == e) (chain d c) ≡ true → ((e == 0) || false) ≡ true
unfolding chain
array_fits d c e f g =
    let low = subst (λ (y : ℕ). list_any (λ s. s == e) (chain d y) ≡ true) (same c 0 (of_left (c == 0) f)) g in
    subst (λ (y : ℕ). ((y == 0) || false) ≡ true) (same 0 e (of_left (0 == e) low)) refl

pub fits_taken : (p : PlainProgram) (v : Value) (k l : Kind) → fits (declarations_of p) v k ≡ true → is_subsumed p k l ≡ true → fits (declarations_of p) v l ≡ true
fits_taken p v kind.Int kind.Int f e = f
fits_taken p v kind.Int kind.Null f e = absurd (false≢true e)
fits_taken p v kind.Int (kind.Ref d) f e = absurd (false≢true e)
fits_taken p v kind.Int kind.Arr f e = absurd (false≢true e)
fits_taken p v kind.Int kind.Args f e = absurd (false≢true e)
fits_taken p v kind.Null kind.Int f e = absurd (false≢true e)
fits_taken p v kind.Null kind.Null f e = f
fits_taken p (value.Int n) kind.Null (kind.Ref d) f e = absurd (false≢true f)
fits_taken p value.Null kind.Null (kind.Ref d) f e = refl
fits_taken p (value.Obj id class) kind.Null (kind.Ref d) f e = absurd (false≢true f)
fits_taken p (value.Arr id len) kind.Null (kind.Ref d) f e = absurd (false≢true f)
fits_taken p (value.Text text) kind.Null (kind.Ref d) f e = absurd (false≢true f)
fits_taken p value.Stream kind.Null (kind.Ref d) f e = absurd (false≢true f)
fits_taken p (value.Int n) kind.Null kind.Arr f e = absurd (false≢true f)
fits_taken p value.Null kind.Null kind.Arr f e = refl
fits_taken p (value.Obj id class) kind.Null kind.Arr f e = absurd (false≢true f)
fits_taken p (value.Arr id len) kind.Null kind.Arr f e = refl
fits_taken p (value.Text text) kind.Null kind.Arr f e = absurd (false≢true f)
fits_taken p value.Stream kind.Null kind.Arr f e = absurd (false≢true f)
fits_taken p v kind.Null kind.Args f e = absurd (false≢true e)
fits_taken p v (kind.Ref c) kind.Int f e = absurd (false≢true e)
fits_taken p v (kind.Ref c) kind.Null f e = absurd (false≢true e)
fits_taken p (value.Int n) (kind.Ref c) (kind.Ref d) f e = absurd (false≢true f)
fits_taken p value.Null (kind.Ref c) (kind.Ref d) f e = refl
fits_taken p (value.Obj id class) (kind.Ref c) (kind.Ref d) f e = class_fits (declarations_of p) class c d f e
fits_taken p (value.Arr id len) (kind.Ref c) (kind.Ref d) f e = array_fits (declarations_of p) c d f e
fits_taken p (value.Text text) (kind.Ref c) (kind.Ref d) f e = class_fits (declarations_of p) 3 c d f e
fits_taken p value.Stream (kind.Ref c) (kind.Ref d) f e = class_fits (declarations_of p) 4 c d f e
fits_taken p v (kind.Ref c) kind.Arr f e = absurd (false≢true e)
fits_taken p v (kind.Ref c) kind.Args f e = absurd (false≢true e)
fits_taken p v kind.Arr kind.Int f e = absurd (false≢true e)
fits_taken p v kind.Arr kind.Null f e = absurd (false≢true e)
fits_taken p (value.Int n) kind.Arr (kind.Ref d) f e = absurd (false≢true f)
fits_taken p value.Null kind.Arr (kind.Ref d) f e = refl
fits_taken p (value.Obj id class) kind.Arr (kind.Ref d) f e = absurd (false≢true f)
fits_taken p (value.Arr id len) kind.Arr (kind.Ref d) f e = on_left (d == 0) false e
fits_taken p (value.Text text) kind.Arr (kind.Ref d) f e = absurd (false≢true f)
fits_taken p value.Stream kind.Arr (kind.Ref d) f e = absurd (false≢true f)
fits_taken p v kind.Arr kind.Arr f e = f
fits_taken p v kind.Arr kind.Args f e = absurd (false≢true e)
fits_taken p v kind.Args kind.Int f e = absurd (false≢true e)
fits_taken p v kind.Args kind.Null f e = absurd (false≢true e)
fits_taken p v kind.Args (kind.Ref d) f e = absurd (false≢true e)
fits_taken p v kind.Args kind.Arr f e = absurd (false≢true e)
fits_taken p v kind.Args kind.Args f e = f

array_extends : (d : Declarations) (c e : ℕ) → ((c == 0) || false) ≡ true → extends d c e ≡ true → ((e == 0) || false) ≡ true
unfolding chain
array_extends d c e f g =
    let low = subst (λ (y : ℕ). extends d y e ≡ true) (same c 0 (of_left (c == 0) f)) g in
    subst (λ (y : ℕ). ((y == 0) || false) ≡ true) (same 0 e (object d e low)) refl
  where
    object : (d : Declarations) (e : ℕ) → extends d 0 e ≡ true → (0 == e) ≡ true
    object d e h = ⊎_elim (λ a. of_left (0 == e) a) (λ a. absurd (false≢true (both (e == 2) false a).1)) (either (list_any (λ s. s == e) (chain d 0)) _ h)

-- what fits a kind fits each kind that this one may stand for
pub fits_assignable : (d : Declarations) (v : Value) (k l : Kind) → fits d v k ≡ true → is_assignable d k l ≡ true → fits d v l ≡ true
fits_assignable d v kind.Int kind.Int f e = f
fits_assignable d v kind.Int kind.Null f e = absurd (false≢true e)
fits_assignable d v kind.Int (kind.Ref e') f e = absurd (false≢true e)
fits_assignable d v kind.Int kind.Arr f e = absurd (false≢true e)
fits_assignable d v kind.Int kind.Args f e = absurd (false≢true e)
fits_assignable d v kind.Null kind.Int f e = absurd (false≢true e)
fits_assignable d v kind.Null kind.Null f e = f
fits_assignable d (value.Int n) kind.Null (kind.Ref e') f e = absurd (false≢true f)
fits_assignable d value.Null kind.Null (kind.Ref e') f e = refl
fits_assignable d (value.Obj id class) kind.Null (kind.Ref e') f e = absurd (false≢true f)
fits_assignable d (value.Arr id len) kind.Null (kind.Ref e') f e = absurd (false≢true f)
fits_assignable d (value.Text text) kind.Null (kind.Ref e') f e = absurd (false≢true f)
fits_assignable d value.Stream kind.Null (kind.Ref e') f e = absurd (false≢true f)
fits_assignable d (value.Int n) kind.Null kind.Arr f e = absurd (false≢true f)
fits_assignable d value.Null kind.Null kind.Arr f e = refl
fits_assignable d (value.Obj id class) kind.Null kind.Arr f e = absurd (false≢true f)
fits_assignable d (value.Arr id len) kind.Null kind.Arr f e = refl
fits_assignable d (value.Text text) kind.Null kind.Arr f e = absurd (false≢true f)
fits_assignable d value.Stream kind.Null kind.Arr f e = absurd (false≢true f)
fits_assignable d v kind.Null kind.Args f e = absurd (false≢true e)
fits_assignable d v (kind.Ref c) kind.Int f e = absurd (false≢true e)
fits_assignable d v (kind.Ref c) kind.Null f e = absurd (false≢true e)
fits_assignable d (value.Int n) (kind.Ref c) (kind.Ref e') f e = absurd (false≢true f)
fits_assignable d value.Null (kind.Ref c) (kind.Ref e') f e = refl
fits_assignable d (value.Obj id class) (kind.Ref c) (kind.Ref e') f e = on_left (extends d class e') false (extends_extends d class c e' (of_left (extends d class c) f) e)
fits_assignable d (value.Text text) (kind.Ref c) (kind.Ref e') f e = on_left (extends d 3 e') false (extends_extends d 3 c e' (of_left (extends d 3 c) f) e)
fits_assignable d value.Stream (kind.Ref c) (kind.Ref e') f e = on_left (extends d 4 e') false (extends_extends d 4 c e' (of_left (extends d 4 c) f) e)
fits_assignable d (value.Arr id len) (kind.Ref c) (kind.Ref e') f e = array_extends d c e' f e
fits_assignable d v (kind.Ref c) kind.Arr f e = absurd (false≢true e)
fits_assignable d v (kind.Ref c) kind.Args f e = absurd (false≢true e)
fits_assignable d v kind.Arr kind.Int f e = absurd (false≢true e)
fits_assignable d v kind.Arr kind.Null f e = absurd (false≢true e)
fits_assignable d (value.Int n) kind.Arr (kind.Ref e') f e = absurd (false≢true f)
fits_assignable d value.Null kind.Arr (kind.Ref e') f e = refl
fits_assignable d (value.Obj id class) kind.Arr (kind.Ref e') f e = absurd (false≢true f)
fits_assignable d (value.Arr id len) kind.Arr (kind.Ref e') f e = on_left (e' == 0) false e
fits_assignable d (value.Text text) kind.Arr (kind.Ref e') f e = absurd (false≢true f)
fits_assignable d value.Stream kind.Arr (kind.Ref e') f e = absurd (false≢true f)
fits_assignable d v kind.Arr kind.Arr f e = f
fits_assignable d v kind.Arr kind.Args f e = absurd (false≢true e)
fits_assignable d v kind.Args kind.Int f e = absurd (false≢true e)
fits_assignable d v kind.Args kind.Null f e = absurd (false≢true e)
fits_assignable d v kind.Args (kind.Ref e') f e = absurd (false≢true e)
fits_assignable d v kind.Args kind.Arr f e = absurd (false≢true e)
fits_assignable d v kind.Args kind.Args f e = f

-- the same of the values that a run makes
pub of_taken : (p : PlainProgram) (v : Value) (k l : Kind) → is_of p v k ≡ true → is_subsumed p k l ≡ true → is_of p v l ≡ true
of_taken p v k l f e = let parts = both (is_made v) (fits (declarations_of p) v k) f in joined (is_made v) (fits (declarations_of p) v l) parts.0 (fits_taken p v k l parts.1 e)

pub of_assignable : (p : PlainProgram) (v : Value) (k l : Kind) → is_of p v k ≡ true → is_assignable (declarations_of p) k l ≡ true → is_of p v l ≡ true
of_assignable p v k l f e = let parts = both (is_made v) (fits (declarations_of p) v k) f in joined (is_made v) (fits (declarations_of p) v l) parts.0 (fits_assignable (declarations_of p) v k l parts.1 e)

stack_taken : (p : PlainProgram) (vs : List Value) (ks ls : List Kind) → FitsKinds p vs ks → StackTakes p ks ls → FitsKinds p vs ls
stack_taken p [] [] [] f t = tt
stack_taken p [] [] (l ∷ ls) f t = absurd t
stack_taken p [] (k ∷ ks) ls f t = absurd f
stack_taken p (v ∷ vs) [] ls f t = absurd f
stack_taken p (v ∷ vs) (k ∷ ks) [] f t = absurd t
stack_taken p (v ∷ vs) (k ∷ ks) (l ∷ ls) f t = (of_taken p v k l f.0 t.0, stack_taken p vs ks ls f.1 t.1)

locals_taken : (p : PlainProgram) (vs : List Value) (ks ls : List (Option Kind)) → FitsLocals p vs ks → LocalsTake p ks ls → FitsLocals p vs ls
locals_taken p [] [] [] f t = tt
locals_taken p [] [] (l ∷ ls) f t = absurd t
locals_taken p [] (k ∷ ks) ls f t = absurd f
locals_taken p (v ∷ vs) [] ls f t = absurd f
locals_taken p (v ∷ vs) (k ∷ ks) [] f t = absurd t
locals_taken p (v ∷ vs) (None ∷ ks) (None ∷ ls) f t = locals_taken p vs ks ls f t.1
locals_taken p (v ∷ vs) (Some k ∷ ks) (None ∷ ls) f t = locals_taken p vs ks ls f.1 t.1
locals_taken p (v ∷ vs) (None ∷ ks) (Some l ∷ ls) f t = absurd t.0
locals_taken p (v ∷ vs) (Some k ∷ ks) (Some l ∷ ls) f t = (of_taken p v k l f.0 t.0, locals_taken p vs ks ls f.1 t.1)

pub shape_taken : (p : PlainProgram) (f : Frame) (new old : Shape) → FitsShape p new f → Takes p new old → FitsShape p old f
shape_taken p f new old fit t = record { stack = stack_taken p f.stack new.stack old.stack fit.stack t.stack; locals = locals_taken p f.locals new.locals old.locals fit.locals t.locals }

taken_by : (p : PlainProgram) (table : Table) (f : Frame) (s : Shape) (o : Option Shape) → shape_at table f.method f.place ≡ o → FitsShape p s f → TakesAt p s o → FitsAt p table f
taken_by p table f s None at fit t = absurd t
taken_by p table f s (Some old) at fit t = record { shape = old; is_there = at; fits_it = shape_taken p f s old fit t }

-- a frame fits the table where a shape that it fits is taken
pub fits_at : (p : PlainProgram) (table : Table) (f : Frame) (m place : ℕ) (s : Shape) → f.method ≡ m → f.place ≡ place → FitsShape p s f → TakesAt p s (shape_at table m place) → FitsAt p table f
fits_at p table f m place s em ep fit t =
    taken_by p table f s (shape_at table f.method f.place) refl fit
    (subst (λ (n : ℕ). TakesAt p s (shape_at table f.method n)) (sym ep) (subst (λ (n : ℕ). TakesAt p s (shape_at table n place)) (sym em) t))
