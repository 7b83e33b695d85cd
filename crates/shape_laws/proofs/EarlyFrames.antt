-- Frames before the first event, when there are no objects and no arrays.
use Rattle.std.proofs.Common.{◌≡◌, ℕ, zero, suc, ◌-◌, Bool, true, false, List, [], ◌∷◌, length, take, drop, reverse, replicate, Option, Some, None, refl}
use Rattle.std.specs.Prelude.{nat_lt, is_some, slice_get}
use Rattle.std.specs.List.{AllByRecursion}
use Rattle.std.proofs.lemmas.List.{reverse-append}
use Rattle.vm_model.specs.declared.value.Value.{Value}
use Rattle.vm_model.specs.declared.value.Value.TheVariants as value
use Rattle.vm_model.specs.declared.value.Lock.{Lock}
use Rattle.vm_model.specs.declared.value.Lock.TheVariants as lock
use Rattle.vm_model.specs.Program.{PlainProgram, class_at, method_at}
use Rattle.machine_model.specs.Frames.{Frame}
use Rattle.machine_model.specs.Operands.{next, jump, branch}
use Rattle.machine_model.specs.LocalStep.{arity_at, locals_at, first_frame, with_given}
use Rattle.shape_laws.proofs.Tests.{all_both}

-- a value that there may be before an object: a text is one of the program's
abbrev pub is_early : PlainProgram → Value → Bool
is_early p (value.Int n) = true
is_early p value.Null = true
is_early p (value.Obj id class) = false
is_early p (value.Arr id len) = false
is_early p (value.Text text) = nat_lt text (length p.texts)
is_early p value.Stream = true

abbrev pub IsEarly : PlainProgram → Value → Type 0
IsEarly p v = is_early p v ≡ true

abbrev pub AreEarly : PlainProgram → List Value → Type 0
AreEarly p vs = AllByRecursion (IsEarly p) vs

abbrev pub IsEarlyMaybe : PlainProgram → Option Value → Type 0
IsEarlyMaybe p None = Unit {0}
IsEarlyMaybe p (Some v) = IsEarly p v

-- a lock that a frame keeps is that of a class of the program
abbrev pub IsEarlyLock : PlainProgram → Option Lock → Type 0
IsEarlyLock p None = Unit {0}
IsEarlyLock p (Some (lock.Object id)) = ⊥
IsEarlyLock p (Some (lock.Class class)) = is_some (class_at p class) ≡ true

-- no value of the frame is an object or an array
pub record IsEarlyFrame (p : PlainProgram) (f : Frame) : Type 0 where
  pub stack : AreEarly p f.stack
  pub locals : AreEarly p f.locals
  pub lock : IsEarlyLock p f.lock

-- ---- lists

-- what holds of each element holds of those that are taken, of the rest, and in the other order
all_taken : {A : Type 0} (P : A → Type 0) (n : ℕ) (xs : List A) → AllByRecursion P xs → AllByRecursion P (take n xs)
all_taken P zero xs all = tt
all_taken P (suc n) [] all = tt
all_taken P (suc n) (x ∷ xs) all = (all.0, all_taken P n xs all.1)

all_dropped : {A : Type 0} (P : A → Type 0) (n : ℕ) (xs : List A) → AllByRecursion P xs → AllByRecursion P (drop n xs)
all_dropped P zero xs all = all
all_dropped P (suc n) [] all = tt
all_dropped P (suc n) (x ∷ xs) all = all_dropped P n xs all.1

all_reversed : {A : Type 0} (P : A → Type 0) (xs : List A) → AllByRecursion P xs → AllByRecursion P (reverse xs)
all_reversed P [] all = tt
all_reversed P (x ∷ xs) all = rw (reverse-append (x ∷ []) xs) (all_both P (reverse xs) (x ∷ []) (all_reversed P xs all.1) (all.0, tt))

nulls : (p : PlainProgram) (n : ℕ) → AreEarly p (replicate n value.Null)
nulls p zero = tt
nulls p (suc n) = (refl, nulls p n)

-- the value at a place
pub early_at : (p : PlainProgram) (vs : List Value) (i : ℕ) → AreEarly p vs → IsEarlyMaybe p (slice_get vs i)
early_at p [] i all = tt
early_at p (v ∷ vs) zero all = all.0
early_at p (v ∷ vs) (suc i) all = early_at p vs i all.1

-- ---- frames

-- the frame after an instruction that leaves this stack
pub next_early : (p : PlainProgram) (f : Frame) (stack : List Value) → IsEarlyFrame p f → AreEarly p stack → IsEarlyFrame p (next f stack)
next_early p f stack early more = record { stack = more; locals = early.locals; lock = early.lock }

pub jump_early : (p : PlainProgram) (f : Frame) (to : ℕ) (stack : List Value) → IsEarlyFrame p f → AreEarly p stack → IsEarlyFrame p (jump f to stack)
jump_early p f to stack early more = record { stack = more; locals = early.locals; lock = early.lock }

pub branch_early : (p : PlainProgram) (holds : Bool) (f : Frame) (to : ℕ) (stack : List Value) → IsEarlyFrame p f → AreEarly p stack → IsEarlyFrame p (branch holds f to stack)
branch_early p true f to stack early more = jump_early p f to stack early more
branch_early p false f to stack early more = next_early p f stack early more

-- the first frame of a method, with these arguments
pub first_frame_early : (p : PlainProgram) (m : ℕ) (arguments : List Value) (l : Option Lock) → AreEarly p arguments → IsEarlyLock p l → IsEarlyFrame p (first_frame p m arguments l)
first_frame_early p m arguments l early kept =
    record { stack = tt; locals = all_both (IsEarly p) arguments (replicate (locals_at (method_at p m) - length arguments) value.Null) early (nulls p (locals_at (method_at p m) - length arguments)); lock = kept }

-- the callee's frame, and the caller's after the call
pub callee_early : (p : PlainProgram) (m : ℕ) (l : Option Lock) (f : Frame) → IsEarlyFrame p f → IsEarlyLock p l → IsEarlyFrame p (first_frame p m (reverse (take (arity_at (method_at p m)) f.stack)) l)
callee_early p m l f early kept =
    first_frame_early p m (reverse (take (arity_at (method_at p m)) f.stack)) l
    (all_reversed (IsEarly p) (take (arity_at (method_at p m)) f.stack) (all_taken (IsEarly p) (arity_at (method_at p m)) f.stack early.stack)) kept

pub caller_early : (p : PlainProgram) (n : ℕ) (f : Frame) → IsEarlyFrame p f → IsEarlyFrame p (jump f f.place (drop n f.stack))
caller_early p n f early = jump_early p f f.place (drop n f.stack) early (all_dropped (IsEarly p) n f.stack early.stack)

-- the caller's frame with what is given back
pub given_early : (p : PlainProgram) (given : Option Value) (g : Frame) → IsEarlyFrame p g → IsEarlyMaybe p given → IsEarlyFrame p (next g (with_given given g.stack))
given_early p None g early is = next_early p g g.stack early early.stack
given_early p (Some v) g early is = next_early p g (v ∷ g.stack) early (is, early.stack)
