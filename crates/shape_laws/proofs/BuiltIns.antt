-- Which values an instruction that takes a reference finds; texts and the stream are the only values of their classes that
-- aren't null.
use Rattle.std.proofs.Common.{◌≡◌, ℕ, zero, suc, ◌≤◌, Bool, true, false, Some, None, refl, sym, ◌∙◌, ap, subst, arith, ⊎_elim}
use Rattle.std.specs.Prelude.{◌==◌, ◌&&◌, ◌||◌, not, nat_le, slice_get}
use Rattle.std.specs.List.{list_any}
use Rattle.std.proofs.lemmas.Bool.{false≢true}
use Rattle.std.proofs.lemmas.Bool.Decides.{nat_tests}
use Rattle.vm_model.specs.declared.value.Value.{Value}
use Rattle.vm_model.specs.declared.value.Value.TheVariants as value
use Rattle.vm_model.specs.declared.value.Kind.{Kind}
use Rattle.vm_model.specs.declared.value.Kind.TheVariants as kind
use Rattle.vm_model.specs.declared.value.Lock.{Lock}
use Rattle.vm_model.specs.declared.value.Lock.TheVariants as lock
use Rattle.vm_model.specs.declared.value.ObjRef.{ObjRef}
use Rattle.vm_model.specs.declared.op.Piece.{Piece}
use Rattle.vm_model.specs.declared.op.Piece.TheVariants as piece
use Rattle.vm_model.specs.declared.ends.FaultKind.TheVariants as fault
use Rattle.vm_model.specs.Program.{PlainProgram}
use Rattle.machine_model.specs.Declarations.{Declarations, declarations_of}
use Rattle.machine_model.specs.Kinds.{extends, chain, field_kinds, is_runnable_class}
use Rattle.machine_model.specs.Operands.{Action, Fails, as_object, as_instance, as_lock, as_stream, as_array, as_text}
use Rattle.machine_model.specs.Shapes.{Flow, is_array}
use Rattle.shape_laws.specs.Fitting.{has_objects, is_made, is_of}
use Rattle.shape_laws.proofs.Tests.{same, either, both, of_left, on_left, on_right, at_most}
use Rattle.shape_laws.proofs.Supers.{of_text, of_stream, thread_super, user_super_alone}

pub no_stream_object : (p : PlainProgram) (id class : ℕ) → is_of p (value.Obj id class) (kind.Ref 4) ≡ true → ⊥
no_stream_object p id class g =
    let parts = both (is_made (value.Obj id class)) (extends (declarations_of p) class 4 || false) g in
    let is_four = of_stream (declarations_of p) class (⊎_elim (λ a. a) (λ a. absurd (false≢true a)) (either (list_any (λ s. s == 4) (chain (declarations_of p) class)) false (of_left _ parts.1))) in
    false≢true (subst (λ (c : ℕ). is_made (value.Obj id c) ≡ true) is_four parts.0)

pub no_stream_text : (p : PlainProgram) (text : ℕ) → is_of p (value.Text text) (kind.Ref 4) ≡ true → ⊥
unfolding chain
no_stream_text p text g = false≢true g

pub stream_fits : (p : PlainProgram) → is_of p value.Stream (kind.Ref 4) ≡ true
unfolding chain
stream_fits p = refl

pub text_fits : (p : PlainProgram) (text : ℕ) → is_of p (value.Text text) (kind.Ref 3) ≡ true
unfolding chain
text_fits p text = refl

-- ---- what instructions take as references

-- a reference to a class with objects that aren't arrays
abbrev pub is_object_class : ℕ → Bool
is_object_class c = not (c == 0 || c == 3 || c == 4)

not_true : (b : Bool) → not b ≡ true → b ≡ false
not_true true e = absurd (false≢true e)
not_true false e = refl

neither : (a b : Bool) → (a || b) ≡ false → (a ≡ false) × (b ≡ false)
neither true b e = absurd (false≢true (sym e))
neither false b e = (refl, e)

flipped : (a b : ℕ) → (a == b) ≡ (b == a)
flipped a b = grind (arith, nat_tests)

-- a class that is neither Object nor String nor PrintStream
record Others (c : ℕ) : Type 0 where
  object : (c == 0) ≡ false
  text : (c == 3) ≡ false
  stream : (c == 4) ≡ false

others : (c : ℕ) → is_object_class c ≡ true → Others c
others c h =
    let outer = neither (c == 0 || c == 3) (c == 4) (not_true _ h) in
    let inner = neither (c == 0) (c == 3) outer.0 in
    record { object = inner.0; text = inner.1; stream = outer.1 }

not_text : (d : Declarations) (c : ℕ) → is_object_class c ≡ true → (extends d 3 c || false) ≡ false
unfolding chain
not_text d c h = rw (flipped 3 c, (others c h).text) (runnable (c == 2))
  where
    runnable : (b : Bool) → ((false || false || (b && false)) || false) ≡ false
    runnable true = refl
    runnable false = refl

not_stream : (d : Declarations) (c : ℕ) → is_object_class c ≡ true → (extends d 4 c || false) ≡ false
unfolding chain
not_stream d c h = rw (flipped 4 c, (others c h).stream) (runnable (c == 2))
  where
    runnable : (b : Bool) → ((false || false || (b && false)) || false) ≡ false
    runnable true = refl
    runnable false = refl

-- an object that a run may make, of a class that may stand for this one
pub record IsObjectOf (p : PlainProgram) (c class : ℕ) : Type 0 where
  pub made : has_objects class ≡ true
  pub under : extends (declarations_of p) class c ≡ true

object_parts : (p : PlainProgram) (c id class : ℕ) → is_of p (value.Obj id class) (kind.Ref c) ≡ true → IsObjectOf p c class
object_parts p c id class g =
    let parts = both (has_objects class) (extends (declarations_of p) class c || false) g in
    record { made = parts.0; under = of_left (extends (declarations_of p) class c) parts.1 }

module _ (p : PlainProgram) (P : Flow → Action → Type 0) (fl : Flow) (null : P fl (Fails fault.NullPointer)) where
  pub object_agrees : (c : ℕ) (v : Value) (go : ObjRef → Action) → is_object_class c ≡ true → is_of p v (kind.Ref c) ≡ true
      → ((id class : ℕ) → v ≡ value.Obj id class → IsObjectOf p c class → P fl (go (record { id = id; class = class }))) → P fl (as_object v go)
  object_agrees c (value.Int n) go h g each = absurd (false≢true g)
  object_agrees c value.Null go h g each = null
  object_agrees c (value.Obj id class) go h g each = each id class refl (object_parts p c id class g)
  object_agrees c (value.Arr id len) go h g each = absurd (false≢true (sym (ap (λ (b : Bool). b || false) (others c h).object) ∙ g))
  object_agrees c (value.Text text) go h g each = absurd (false≢true (sym (not_text (declarations_of p) c h) ∙ g))
  object_agrees c value.Stream go h g each = absurd (false≢true (sym (not_stream (declarations_of p) c h) ∙ g))

  -- a reference to any object or array
  pub instance_agrees : (c : ℕ) (v : Value) (go : Action) → not (c == 3 || c == 4) ≡ true → is_of p v (kind.Ref c) ≡ true → P fl go → P fl (as_instance v go)
  unfolding chain
  instance_agrees c (value.Int n) go h g done = absurd (false≢true g)
  instance_agrees c value.Null go h g done = null
  instance_agrees c (value.Obj id class) go h g done = done
  instance_agrees c (value.Arr id len) go h g done = done
  instance_agrees c (value.Text text) go h g done = absurd (false≢true (sym (only_text (neither (c == 3) (c == 4) (not_true _ h)).0) ∙ g))
    where
      runnable : (b : Bool) → ((false || false || (b && false)) || false) ≡ false
      runnable true = refl
      runnable false = refl

      only_text : (c == 3) ≡ false → (extends (declarations_of p) 3 c || false) ≡ false
      only_text e = rw (flipped 3 c, e) (runnable (c == 2))
  instance_agrees c value.Stream go h g done = absurd (false≢true (sym (only_stream (neither (c == 3) (c == 4) (not_true _ h)).1) ∙ g))
    where
      runnable : (b : Bool) → ((false || false || (b && false)) || false) ≡ false
      runnable true = refl
      runnable false = refl

      only_stream : (c == 4) ≡ false → (extends (declarations_of p) 4 c || false) ≡ false
      only_stream e = rw (flipped 4 c, e) (runnable (c == 2))

  pub lock_agrees : (v : Value) (go : Lock → Action) → is_of p v (kind.Ref 0) ≡ true → ((l : Lock) → P fl (go l)) → P fl (as_lock v go)
  unfolding chain
  lock_agrees (value.Int n) go g each = absurd (false≢true g)
  lock_agrees value.Null go g each = null
  lock_agrees (value.Obj id class) go g each = each (lock.Object id)
  lock_agrees (value.Arr id len) go g each = each (lock.Object id)
  lock_agrees (value.Text text) go g each = absurd (false≢true g)
  lock_agrees value.Stream go g each = absurd (false≢true g)

  pub stream_agrees : (v : Value) (go : Action) → is_of p v (kind.Ref 4) ≡ true → P fl go → P fl (as_stream v go)
  stream_agrees (value.Int n) go g done = absurd (false≢true g)
  stream_agrees value.Null go g done = null
  stream_agrees (value.Obj id class) go g done = absurd (no_stream_object p id class g)
  stream_agrees (value.Arr id len) go g done = absurd (false≢true g)
  stream_agrees (value.Text text) go g done = absurd (no_stream_text p text g)
  stream_agrees value.Stream go g done = done

  pub array_agrees : (k : Kind) (v : Value) (go : ℕ → ℕ → Action) → is_array k ≡ true → is_of p v k ≡ true → ((id len : ℕ) → P fl (go id len)) → P fl (as_array v go)
  array_agrees kind.Null (value.Int n) go h g each = absurd (false≢true g)
  array_agrees kind.Null value.Null go h g each = null
  array_agrees kind.Null (value.Obj id class) go h g each = absurd (false≢true (both (has_objects class) false g).1)
  array_agrees kind.Null (value.Arr id len) go h g each = each id len
  array_agrees kind.Null (value.Text text) go h g each = absurd (false≢true g)
  array_agrees kind.Null value.Stream go h g each = absurd (false≢true g)
  array_agrees kind.Arr (value.Int n) go h g each = absurd (false≢true g)
  array_agrees kind.Arr value.Null go h g each = null
  array_agrees kind.Arr (value.Obj id class) go h g each = absurd (false≢true (both (has_objects class) false g).1)
  array_agrees kind.Arr (value.Arr id len) go h g each = each id len
  array_agrees kind.Arr (value.Text text) go h g each = absurd (false≢true g)
  array_agrees kind.Arr value.Stream go h g each = absurd (false≢true g)
  array_agrees kind.Int v go h g each = absurd (false≢true h)
  array_agrees (kind.Ref c) v go h g each = absurd (false≢true h)
  array_agrees kind.Args v go h g each = absurd (false≢true h)

-- a text constant or null
pub text_agrees : (p : PlainProgram) (P : Flow → Action → Type 0) (fl : Flow) (v : Value) (go : Piece → Action) → is_of p v (kind.Ref 3) ≡ true → ((what : Piece) → P fl (go what)) → P fl (as_text v go)
unfolding chain
text_agrees p P fl (value.Int n) go g each = absurd (false≢true g)
text_agrees p P fl value.Null go g each = each piece.Null
text_agrees p P fl (value.Obj id class) go g each =
    let parts = both (has_objects class) (extends (declarations_of p) class 3 || false) g in
    let is_three = of_text (declarations_of p) class (⊎_elim (λ a. a) (λ a. absurd (false≢true a)) (either (list_any (λ s. s == 3) (chain (declarations_of p) class)) false (of_left _ parts.1))) in
    absurd (false≢true (subst (λ (c : ℕ). has_objects c ≡ true) is_three parts.0))
text_agrees p P fl (value.Arr id len) go g each = absurd (false≢true g)
text_agrees p P fl (value.Text text) go g each = each (piece.Text text)
text_agrees p P fl value.Stream go g each = absurd (false≢true g)

-- ---- fields

-- only Thread and user classes have fields
pub field_class : (p : PlainProgram) (class place : ℕ) (k : Kind) → slice_get (field_kinds (declarations_of p) class) place ≡ Some k → (class == 1 || nat_le 32 class) ≡ true
field_class p class place k e = by (class == 1) refl (nat_le 32 class) refl
  where
    none_some : None ≡ Some k → ⊥
    none_some e' = cc

    no_fields : (class == 1) ≡ false → nat_le 32 class ≡ false → slice_get (field_kinds (declarations_of p) class) place ≡ None
    no_fields one few = rw (one, few) refl

    by : (b : Bool) → (class == 1) ≡ b → (c : Bool) → nat_le 32 class ≡ c → (class == 1 || nat_le 32 class) ≡ true
    by true one c few = on_left (class == 1) (nat_le 32 class) one
    by false one true high = on_right (class == 1) (nat_le 32 class) high
    by false one false few = absurd (none_some (sym (no_fields one few) ∙ e))

pub own_class : (c : ℕ) → (c == 1 || nat_le 32 c) ≡ true → is_object_class c ≡ true
own_class c h = ⊎_elim (λ a. subst (λ (x : ℕ). is_object_class x ≡ true) (sym (same c 1 a)) refl) (λ a. let high : 32 ≤ c = at_most 32 c a in grind (arith, nat_tests)) (either (c == 1) (nat_le 32 c) h)

-- an object has the fields of each class that it may stand for
pub field_inherited : (p : PlainProgram) (x class place : ℕ) (k : Kind) → extends (declarations_of p) x class ≡ true → slice_get (field_kinds (declarations_of p) class) place ≡ Some k
    → slice_get (field_kinds (declarations_of p) x) place ≡ Some k
field_inherited p x class place k under e =
    ⊎_elim
    (λ a. ⊎_elim (λ one. of_thread (same class 1 one) place (subst (λ (y : ℕ). slice_get (field_kinds (declarations_of p) y) place ≡ Some k) (same class 1 one) e) (subst (λ (y : ℕ). list_any (λ s. s == y) (chain (declarations_of p) x) ≡ true) (same class 1 one) a))
    (λ high. subst (λ (y : ℕ). slice_get (field_kinds (declarations_of p) y) place ≡ Some k) (sym (user_super_alone (declarations_of p) x class high a)) e) (either (class == 1) (nat_le 32 class) (field_class p class place k e)))
    (λ a. absurd (not_runnable (both (class == 2) _ a).0))
    (either (list_any (λ s. s == class) (chain (declarations_of p) x)) (class == 2 && is_runnable_class (declarations_of p) x) under)
  where
    not_runnable : (class == 2) ≡ true → ⊥
    not_runnable two = false≢true (subst (λ (y : ℕ). (y == 1 || nat_le 32 y) ≡ true) (same class 2 two) (field_class p class place k e))

    none_some : None ≡ Some k → ⊥
    none_some e' = cc

    of_thread : class ≡ 1 → (n : ℕ) → slice_get (field_kinds (declarations_of p) 1) n ≡ Some k → list_any (λ s. s == 1) (chain (declarations_of p) x) ≡ true → slice_get (field_kinds (declarations_of p) x) n ≡ Some k
    of_thread one zero e' a = rw (thread_super (declarations_of p) x a) e'
    of_thread one (suc n) e' a = absurd (none_some e')
