-- What an instruction does to a frame before the first event: a frame that it leads to names no object either, and an
-- operation that it asks for can be done in the world with which the program starts.
use Rattle.std.proofs.Common.{◌≡◌, ℕ, zero, suc, ◌<◌, Bool, true, false, List, [], ◌∷◌, length, map, Option, Some, None, refl, sym, ◌∙◌, ap, subst, arith, ⊎_elim}
use Rattle.std.specs.Prelude.{ℤ, pos, negsuc, not, ◌&&◌, ◌==◌, int_lt, int_le, int_rem, nat_lt, nat_le, is_some, slice_get, if◌then◌else◌, IsTrue}
use Rattle.std.specs.Int.{w32, int_wrapping_add, int_wrapping_sub, int_wrapping_mul, int_wrapping_neg, int_wrapping_div, int_bit_and, int_bit_or, int_bit_xor, int_shl, int_shr}
use Rattle.std.specs.Ordering.{int_eq}
use Rattle.std.proofs.lemmas.Bool.{false≢true}
use Rattle.vm_model.specs.declared.value.Value.{Value}
use Rattle.vm_model.specs.declared.value.Value.TheVariants as value
use Rattle.vm_model.specs.declared.value.Lock.{Lock}
use Rattle.vm_model.specs.declared.value.Lock.TheVariants as lock
use Rattle.vm_model.specs.declared.value.ObjRef.{ObjRef}
use Rattle.vm_model.specs.declared.value.Kind.{Kind}
use Rattle.vm_model.specs.declared.ends.FaultKind.TheVariants as fault
use Rattle.vm_model.specs.declared.op.Op.{Op}
use Rattle.vm_model.specs.declared.op.Op.TheVariants as op
use Rattle.vm_model.specs.declared.op.Piece.{Piece}
use Rattle.vm_model.specs.declared.op.Piece.TheVariants as piece
use Rattle.vm_model.specs.declared.program.StaticSlot.{StaticSlot}
use Rattle.vm_model.specs.declared.instr.Instr.{Instr}
use Rattle.vm_model.specs.declared.instr.Instr.TheVariants as instr
use Rattle.vm_model.specs.Program.{PlainMethod, PlainProgram, class_at, code_at, method_at}
use Rattle.machine_model.specs.Declarations.{declarations_of}
use Rattle.machine_model.specs.Kinds.{fits, fits_declared, is_assignable, is_null, slot_kind, static_kind}
use Rattle.machine_model.specs.Frames.{Frame}
use Rattle.machine_model.specs.Operands.{Action, Goes, Calls, Gives, Asks, Fails, Undefined, top_of, top_int_of, on_any, on_int, on_number, on_local, on_two, on_ints, int_in, as_object, as_instance, as_array, as_lock, as_stream, as_text, as_length, next, branch, store}
use Rattle.machine_model.specs.Effect.{effect, effect_at, action, calls_static, calls_on, lock_if, run_method, is_zero, same_reference, shift_count, shift_right_unsigned}
use Rattle.machine_model.specs.Shared.{start, start_of_slot}
use Rattle.machine_model.specs.Operations.{is_enabled, is_piece, is_there}
use Rattle.machine_model.specs.Shapes.{Shape, Table, Flow, Next, Jump, Branch, Leaves, Refused, flow, flow_call, is_called_so, where_true, Follows, IsShapeTable}
use Rattle.shape_laws.specs.Fitting.{is_made, is_of, FitsShape}
use Rattle.shape_laws.specs.States.{FitsFrame}
use Rattle.shape_laws.specs.Linked.{names_what_is_there, MethodNamesWhatIsThere, NamesWhatIsThere, IsWellLinked}
use Rattle.shape_laws.proofs.Tests.{both, either, joined, below_true, all_set, all_there}
use Rattle.shape_laws.proofs.Taking.{of_assignable}
use Rattle.shape_laws.proofs.Operands.{declared_agrees, such_agrees, true_agrees}
use Rattle.shape_laws.proofs.Actions.{at_frame}
use Rattle.shape_laws.proofs.EarlyFrames.{IsEarly, AreEarly, IsEarlyMaybe, IsEarlyLock, IsEarlyFrame, early_at, next_early, jump_early, branch_early}

-- the main thread can do the operation in the world with which the program starts
abbrev pub CanBegin : PlainProgram → Op → Type 0
CanBegin p o = is_enabled (declarations_of p) (start (declarations_of p)) 0 o ≡ true

-- what the action leads to names no object, and an operation that it asks for can begin
abbrev pub IsEarlyAction : PlainProgram → Action → Type 0
IsEarlyAction p (Goes g) = IsEarlyFrame p g
IsEarlyAction p (Calls m l) = IsEarlyLock p l
IsEarlyAction p (Gives given) = IsEarlyMaybe p given
IsEarlyAction p (Asks o n) = CanBegin p o
IsEarlyAction p (Fails kind) = Unit {0}
IsEarlyAction p Undefined = Unit {0}

-- ---- operands

module _ (p : PlainProgram) where
  -- the value on top of a stack, with what is below it
  any_early : (vs : List Value) (go : Value → List Value → Action) → AreEarly p vs → ((v : Value) (rest : List Value) → IsEarly p v → AreEarly p rest → IsEarlyAction p (go v rest)) → IsEarlyAction p (on_any (top_of vs) go)
  any_early [] go early each = tt
  any_early (v ∷ vs) go early each = each v vs early.0 early.1

  -- the number on top of a stack; where there is none, the action is no step
  int_early : (vs : List Value) (go : ℤ → List Value → Action) → AreEarly p vs → ((n : ℤ) (rest : List Value) → AreEarly p rest → IsEarlyAction p (go n rest)) → IsEarlyAction p (on_int (top_int_of vs) go)
  int_early [] go early each = tt
  int_early (value.Int n ∷ vs) go early each = each n vs early.1
  int_early (value.Null ∷ vs) go early each = tt
  int_early (value.Obj id class ∷ vs) go early each = tt
  int_early (value.Arr id len ∷ vs) go early each = tt
  int_early (value.Text text ∷ vs) go early each = tt
  int_early (value.Stream ∷ vs) go early each = tt

  two_early : (vs : List Value) (go : Value → Value → List Value → Action) → AreEarly p vs → ((v w : Value) (rest : List Value) → IsEarly p v → IsEarly p w → AreEarly p rest → IsEarlyAction p (go v w rest)) → IsEarlyAction p (on_two vs go)
  two_early vs go early each =
      any_early vs (λ w rest. on_any (top_of rest) (λ v rest'. go v w rest')) early
      (λ w rest is more. any_early rest (λ v rest'. go v w rest') more (λ v rest' is' more'. each v w rest' is' is more'))

  ints_early : (vs : List Value) (go : ℤ → ℤ → List Value → Action) → AreEarly p vs → ((x y : ℤ) (rest : List Value) → AreEarly p rest → IsEarlyAction p (go x y rest)) → IsEarlyAction p (on_ints vs go)
  ints_early vs go early each =
      int_early vs (λ y rest. on_int (top_int_of rest) (λ x rest'. go x y rest')) early
      (λ y rest more. int_early rest (λ x rest'. go x y rest') more (λ x rest' more'. each x y rest' more'))

  -- a number in a local
  number_early : (o : Option Value) (go : ℤ → Action) → ((n : ℤ) → IsEarlyAction p (go n)) → IsEarlyAction p (on_number (int_in o) go)
  number_early None go each = tt
  number_early (Some (value.Int n)) go each = each n
  number_early (Some value.Null) go each = tt
  number_early (Some (value.Obj id class)) go each = tt
  number_early (Some (value.Arr id len)) go each = tt
  number_early (Some (value.Text text)) go each = tt
  number_early (Some value.Stream) go each = tt

  -- a value in a local
  local_early : (o : Option Value) (go : Value → Action) → IsEarlyMaybe p o → ((v : Value) → IsEarly p v → IsEarlyAction p (go v)) → IsEarlyAction p (on_local o go)
  local_early None go early each = tt
  local_early (Some v) go early each = each v early

  -- there is no object, no array and no lock of one
  object_early : (v : Value) (go : ObjRef → Action) → IsEarly p v → IsEarlyAction p (as_object v go)
  object_early (value.Int n) go early = tt
  object_early value.Null go early = tt
  object_early (value.Obj id class) go early = absurd (false≢true early)
  object_early (value.Arr id len) go early = tt
  object_early (value.Text text) go early = tt
  object_early value.Stream go early = tt

  instance_early : (v : Value) (go : Action) → IsEarly p v → IsEarlyAction p (as_instance v go)
  instance_early (value.Int n) go early = tt
  instance_early value.Null go early = tt
  instance_early (value.Obj id class) go early = absurd (false≢true early)
  instance_early (value.Arr id len) go early = absurd (false≢true early)
  instance_early (value.Text text) go early = tt
  instance_early value.Stream go early = tt

  array_early : (v : Value) (go : ℕ → ℕ → Action) → IsEarly p v → IsEarlyAction p (as_array v go)
  array_early (value.Int n) go early = tt
  array_early value.Null go early = tt
  array_early (value.Obj id class) go early = tt
  array_early (value.Arr id len) go early = absurd (false≢true early)
  array_early (value.Text text) go early = tt
  array_early value.Stream go early = tt

  lock_early : (v : Value) (go : Lock → Action) → IsEarly p v → IsEarlyAction p (as_lock v go)
  lock_early (value.Int n) go early = tt
  lock_early value.Null go early = tt
  lock_early (value.Obj id class) go early = absurd (false≢true early)
  lock_early (value.Arr id len) go early = absurd (false≢true early)
  lock_early (value.Text text) go early = tt
  lock_early value.Stream go early = tt

  -- the stream is there from the start
  stream_early : (v : Value) (go : Action) → IsEarlyAction p go → IsEarlyAction p (as_stream v go)
  stream_early (value.Int n) go early = tt
  stream_early value.Null go early = tt
  stream_early (value.Obj id class) go early = tt
  stream_early (value.Arr id len) go early = tt
  stream_early (value.Text text) go early = tt
  stream_early value.Stream go early = early

  -- a text that is printed is one of the program
  text_early : (v : Value) (go : Piece → Action) → IsEarly p v → ((what : Piece) → is_piece (declarations_of p) what ≡ true → IsEarlyAction p (go what)) → IsEarlyAction p (as_text v go)
  text_early (value.Int n) go early each = tt
  text_early value.Null go early each = each piece.Null refl
  text_early (value.Obj id class) go early each = tt
  text_early (value.Arr id len) go early each = tt
  text_early (value.Text text) go early each = each (piece.Text text) early
  text_early value.Stream go early each = tt

  -- the length of a new array
  length_early : (n : ℤ) (go : ℕ → Action) → ((len : ℕ) → IsEarlyAction p (go len)) → IsEarlyAction p (as_length n go)
  length_early (pos n) go each = each n
  length_early (negsuc n) go each = tt

  -- the frame after an instruction that writes a local
  store_early : (f : Frame) (i : ℕ) (v : Value) (rest : List Value) → IsEarlyFrame p f → IsEarly p v → AreEarly p rest → IsEarlyFrame p (store f i v rest)
  store_early f i v rest early is more = record { stack = more; locals = all_set (IsEarly p) f.locals i v early.locals is; lock = early.lock }

  -- ---- instructions of one form

  number : (f : Frame) (change : ℤ → ℤ) → IsEarlyFrame p f → IsEarlyAction p (on_int (top_int_of f.stack) (λ x rest. Goes (next f (value.Int (change x) ∷ rest))))
  number f change early = int_early f.stack (λ x rest. Goes (next f (value.Int (change x) ∷ rest))) early.stack (λ x rest more. next_early p f (value.Int (change x) ∷ rest) early (refl, more))

  numbers : (f : Frame) (change : ℤ → ℤ → ℤ) → IsEarlyFrame p f → IsEarlyAction p (on_ints f.stack (λ x y rest. Goes (next f (value.Int (change x y) ∷ rest))))
  numbers f change early = ints_early f.stack (λ x y rest. Goes (next f (value.Int (change x y) ∷ rest))) early.stack (λ x y rest more. next_early p f (value.Int (change x y) ∷ rest) early (refl, more))

  divided : (f : Frame) (change : ℤ → ℤ → ℤ) → IsEarlyFrame p f
      → IsEarlyAction p (on_ints f.stack (λ x y rest. if is_zero y then Fails fault.Arithmetic else Goes (next f (value.Int (change x y) ∷ rest))))
  divided f change early =
      ints_early f.stack (λ x y rest. if is_zero y then Fails fault.Arithmetic else Goes (next f (value.Int (change x y) ∷ rest))) early.stack
      (λ x y rest more. by (is_zero y) (next f (value.Int (change x y) ∷ rest)) (next_early p f (value.Int (change x y) ∷ rest) early (refl, more)))
    where
      by : (b : Bool) (g : Frame) → IsEarlyFrame p g → IsEarlyAction p (if b then Fails fault.Arithmetic else Goes g)
      by true g is = tt
      by false g is = is

  tested : (f : Frame) (to : ℕ) (test : ℤ → Bool) → IsEarlyFrame p f → IsEarlyAction p (on_int (top_int_of f.stack) (λ x rest. Goes (branch (test x) f to rest)))
  tested f to test early = int_early f.stack (λ x rest. Goes (branch (test x) f to rest)) early.stack (λ x rest more. branch_early p (test x) f to rest early more)

  compared : (f : Frame) (to : ℕ) (test : ℤ → ℤ → Bool) → IsEarlyFrame p f → IsEarlyAction p (on_ints f.stack (λ x y rest. Goes (branch (test x y) f to rest)))
  compared f to test early = ints_early f.stack (λ x y rest. Goes (branch (test x y) f to rest)) early.stack (λ x y rest more. branch_early p (test x y) f to rest early more)

  locked : (f : Frame) (asks : Lock → Op) → IsEarlyFrame p f → IsEarlyAction p (on_any (top_of f.stack) (λ v rest. as_lock v (λ l. Asks (asks l) 1)))
  locked f asks early = any_early f.stack (λ v rest. as_lock v (λ l. Asks (asks l) 1)) early.stack (λ v rest is more. lock_early v (λ l. Asks (asks l) 1) is)

  on_object : (f : Frame) (go : ObjRef → Action) → IsEarlyFrame p f → IsEarlyAction p (on_any (top_of f.stack) (λ v rest. as_object v go))
  on_object f go early = any_early f.stack (λ v rest. as_object v go) early.stack (λ v rest is more. object_early v go is)

  -- a method with a receiver is called on null alone, which fails
  calls_early : (f : Frame) (n : ℕ) (o : Option PlainMethod) → IsEarlyFrame p f → IsEarlyAction p (calls_on n o f.stack)
  calls_early f n None early = tt
  calls_early f n (Some m) early =
      local_early (slice_get f.stack (length m.params)) (λ v. as_object v (λ o. Calls n (lock_if m.is_synchronized (lock.Object o.id)))) (early_at p f.stack (length m.params) early.stack)
      (λ v is. object_early v (λ o. Calls n (lock_if m.is_synchronized (lock.Object o.id))) is)

-- ---- instructions whose action depends on what is declared

abbrev by_declaration : Instr → Bool
by_declaration (instr.GetStatic slot) = true
by_declaration (instr.PutStatic slot) = true
by_declaration (instr.InvokeStatic m) = true
by_declaration _ = false

-- where the shapes don't refuse the instruction
abbrev IsEarlyWhere : PlainProgram → Flow → Action → Type 0
IsEarlyWhere p Refused a = Unit {0}
IsEarlyWhere p (Next s) a = IsEarlyAction p a
IsEarlyWhere p (Jump to s) a = IsEarlyAction p a
IsEarlyWhere p (Branch to s) a = IsEarlyAction p a
IsEarlyWhere p Leaves a = IsEarlyAction p a

-- a closed table refuses none
not_refused : (p : PlainProgram) (table : Table) (m place : ℕ) (fl : Flow) (a : Action) → Follows p table m place fl → IsEarlyWhere p fl a → IsEarlyAction p a
not_refused p table m place Refused a follows early = absurd follows
not_refused p table m place (Next s) a follows early = early
not_refused p table m place (Jump to s) a follows early = early
not_refused p table m place (Branch to s) a follows early = early
not_refused p table m place Leaves a follows early = early

-- a declared static is there at the start
slot_below : (slots : List StaticSlot) (slot : ℕ) (k : Kind) → slot_kind (slice_get slots slot) ≡ Some k → slot < length (map start_of_slot slots)
slot_below [] slot k e = absurd (none_some e)
  where
    none_some : None ≡ Some k → ⊥
    none_some e' = cc
slot_below (s ∷ slots) zero k e = omega arith
slot_below (s ∷ slots) (suc slot) k e = let below : slot < length (map start_of_slot slots) = slot_below slots slot k e in omega arith

-- what the value names is there at the start
early_there : (p : PlainProgram) (v : Value) → IsEarly p v → is_there (declarations_of p) (start (declarations_of p)) v ≡ true
early_there p (value.Int n) early = refl
early_there p value.Null early = refl
early_there p (value.Obj id class) early = absurd (false≢true early)
early_there p (value.Arr id len) early = absurd (false≢true early)
early_there p (value.Text text) early = early
early_there p value.Stream early = refl

-- a declared static can be read
get_begins : (p : PlainProgram) (slot : ℕ) (k : Kind) → static_kind (declarations_of p) slot ≡ Some k → CanBegin p (op.GetStatic slot)
get_begins p slot k e = below_true slot (length (map start_of_slot p.statics)) (slot_below p.statics slot k e)

-- a value of the declared kind can be kept in it
put_begins : (p : PlainProgram) (slot : ℕ) (v : Value) (k : Kind) → static_kind (declarations_of p) slot ≡ Some k → IsEarly p v → is_of p v k ≡ true → CanBegin p (op.PutStatic slot v)
put_begins p slot v k e early fit =
    joined (nat_lt slot (length (map start_of_slot p.statics))) _ (below_true slot (length (map start_of_slot p.statics)) (slot_below p.statics slot k e))
    (joined (is_there (declarations_of p) (start (declarations_of p)) v) _ (early_there p v early)
    (subst (λ (o : Option Kind). fits_declared (declarations_of p) v o ≡ true) (sym e) (both (is_made v) (fits (declarations_of p) v k) fit).1))

-- the class lock of a static method is there
pub class_lock : (p : PlainProgram) (m : PlainMethod) → MethodNamesWhatIsThere p m → m.is_static ≡ true → IsEarlyLock p (lock_if m.is_synchronized (lock.Class m.class))
class_lock p m names static = by m.is_synchronized
  where
    there : is_some (class_at p m.class) ≡ true
    there =
        ⊎_elim (λ a. absurd (false≢true (sym (ap not static) ∙ (both (m.class == 1) (not m.is_static) a).1))) (λ a. a)
        (either (m.class == 1 && not m.is_static) (is_some (class_at p m.class)) names.class)

    by : (b : Bool) → IsEarlyLock p (lock_if b (lock.Class m.class))
    by true = there
    by false = tt

-- a method of the program, by its number
pub method_names : (p : PlainProgram) (n : ℕ) (m : PlainMethod) → NamesWhatIsThere p → method_at p n ≡ Some m → MethodNamesWhatIsThere p m
method_names p n m names e = all_there (MethodNamesWhatIsThere p) p.methods n m names.methods e

-- a call of a static method
static_call : (p : PlainProgram) (f : Frame) (s : Shape) (callee : ℕ) (o : Option PlainMethod) → NamesWhatIsThere p → method_at p callee ≡ o
    → IsEarlyWhere p (where_true (is_called_so true o) (flow_call p [] o s)) (calls_static callee o f.stack)
static_call p f s callee None names is = tt
static_call p f s callee (Some m) names is =
    true_agrees p (IsEarlyWhere p) (λ _. tt) m.is_static (flow_call p [] (Some m) s) (calls_static callee (Some m) f.stack)
    (λ static. anyway (flow_call p [] (Some m) s) (calls_static callee (Some m) f.stack) (by (nat_le (length m.params) (length f.stack)) (class_lock p m (method_names p callee m names is) static)))
  where
    by : (b : Bool) → IsEarlyLock p (lock_if m.is_synchronized (lock.Class m.class)) → IsEarlyAction p (if b then Calls callee (lock_if m.is_synchronized (lock.Class m.class)) else Undefined)
    by true kept = kept
    by false kept = tt

    anyway : (fl : Flow) (a : Action) → IsEarlyAction p a → IsEarlyWhere p fl a
    anyway Refused a early = tt
    anyway (Next t) a early = early
    anyway (Jump to t) a early = early
    anyway (Branch to t) a early = early
    anyway Leaves a early = early

-- those three instructions
declared_early : (p : PlainProgram) (i : Instr) (f : Frame) (s : Shape) → NamesWhatIsThere p → IsEarlyFrame p f → FitsShape p s f → by_declaration i ≡ true → IsEarlyWhere p (flow p f.method i s) (effect p i f)
declared_early p (instr.GetStatic slot) f s names early fit is =
    declared_agrees p (IsEarlyWhere p) (λ _. tt) (static_kind (declarations_of p) slot) _ _ (λ k e. get_begins p slot k e)
declared_early p (instr.PutStatic slot) f s names early fit is =
    declared_agrees p (IsEarlyWhere p) (λ _. tt) (static_kind (declarations_of p) slot) _ _
    (λ k e. such_agrees p (IsEarlyWhere p) (λ _. tt) (λ k'. is_assignable (declarations_of p) k' k) f.stack s.stack _ _ fit.stack
    (λ v rest k' krest at t g h. put_begins p slot v k e (subst (AreEarly p) at early.stack).0 (of_assignable p v k' k g t)))
declared_early p (instr.InvokeStatic callee) f s names early fit is = static_call p f s callee (method_at p callee) names refl
declared_early p _ f s names early fit is = absurd (false≢true is)

-- ---- one case for each instruction

-- other tells the action of the three instructions above
instr_early : (p : PlainProgram) (i : Instr) (f : Frame) → names_what_is_there p i ≡ true → IsEarlyFrame p f → (by_declaration i ≡ true → IsEarlyAction p (effect p i f)) → IsEarlyAction p (effect p i f)
instr_early p instr.Nop f is early other = next_early p f f.stack early early.stack
instr_early p (instr.Push n) f is early other = next_early p f (value.Int n ∷ f.stack) early (refl, early.stack)
instr_early p (instr.PushText text) f is early other = next_early p f (value.Text text ∷ f.stack) early (is, early.stack)
instr_early p instr.PushNull f is early other = next_early p f (value.Null ∷ f.stack) early (refl, early.stack)
instr_early p (instr.Iload i) f is early other = number_early p (slice_get f.locals i) _ (λ n. next_early p f (value.Int n ∷ f.stack) early (refl, early.stack))
instr_early p (instr.Istore i) f is early other =
    int_early p f.stack _ early.stack (λ n rest more. local_early p (slice_get f.locals i) _ (early_at p f.locals i early.locals) (λ w is'. store_early p f i (value.Int n) rest early refl more))
instr_early p (instr.Aload i) f is early other = local_early p (slice_get f.locals i) _ (early_at p f.locals i early.locals) (λ v is'. next_early p f (v ∷ f.stack) early (is', early.stack))
instr_early p (instr.Astore i) f is early other =
    any_early p f.stack _ early.stack (λ v rest is' more. local_early p (slice_get f.locals i) _ (early_at p f.locals i early.locals) (λ w is''. store_early p f i v rest early is' more))
instr_early p (instr.Iinc i by) f is early other = number_early p (slice_get f.locals i) _ (λ n. store_early p f i (value.Int (int_wrapping_add w32 n by)) f.stack early refl early.stack)
instr_early p instr.Pop f is early other = any_early p f.stack _ early.stack (λ v rest is' more. next_early p f rest early more)
instr_early p instr.Pop2 f is early other = two_early p f.stack _ early.stack (λ v w rest iv iw more. next_early p f rest early more)
instr_early p instr.Dup f is early other = any_early p f.stack _ early.stack (λ v rest is' more. next_early p f (v ∷ v ∷ rest) early (is', (is', more)))
instr_early p instr.DupX1 f is early other = two_early p f.stack _ early.stack (λ v w rest iv iw more. next_early p f (w ∷ v ∷ w ∷ rest) early (iw, (iv, (iw, more))))
instr_early p instr.DupX2 f is early other =
    two_early p f.stack _ early.stack (λ v w rest iv iw more. any_early p rest _ more (λ u rest' iu more'. next_early p f (w ∷ v ∷ u ∷ w ∷ rest') early (iw, (iv, (iu, (iw, more'))))))
instr_early p instr.Dup2 f is early other = two_early p f.stack _ early.stack (λ v w rest iv iw more. next_early p f (w ∷ v ∷ w ∷ v ∷ rest) early (iw, (iv, (iw, (iv, more)))))
instr_early p instr.Swap f is early other = two_early p f.stack _ early.stack (λ v w rest iv iw more. next_early p f (v ∷ w ∷ rest) early (iv, (iw, more)))
instr_early p instr.Iadd f is early other = numbers p f (int_wrapping_add w32) early
instr_early p instr.Isub f is early other = numbers p f (int_wrapping_sub w32) early
instr_early p instr.Imul f is early other = numbers p f (int_wrapping_mul w32) early
instr_early p instr.Ineg f is early other = number p f (int_wrapping_neg w32) early
instr_early p instr.Idiv f is early other = divided p f (int_wrapping_div w32) early
instr_early p instr.Irem f is early other = divided p f int_rem early
instr_early p instr.Ishl f is early other = numbers p f (λ x y. int_shl w32 x (shift_count y)) early
instr_early p instr.Ishr f is early other = numbers p f (λ x y. int_shr x (shift_count y)) early
instr_early p instr.Iushr f is early other = numbers p f (λ x y. shift_right_unsigned x y) early
instr_early p instr.Iand f is early other = numbers p f (int_bit_and w32) early
instr_early p instr.Ior f is early other = numbers p f (int_bit_or w32) early
instr_early p instr.Ixor f is early other = numbers p f (int_bit_xor w32) early
instr_early p (instr.Ifeq to) f is early other = tested p f to (λ x. int_eq x (pos 0)) early
instr_early p (instr.Ifne to) f is early other = tested p f to (λ x. not (int_eq x (pos 0))) early
instr_early p (instr.Iflt to) f is early other = tested p f to (λ x. int_lt x (pos 0)) early
instr_early p (instr.Ifge to) f is early other = tested p f to (λ x. int_le (pos 0) x) early
instr_early p (instr.Ifgt to) f is early other = tested p f to (λ x. int_lt (pos 0) x) early
instr_early p (instr.Ifle to) f is early other = tested p f to (λ x. int_le x (pos 0)) early
instr_early p (instr.IfIcmpeq to) f is early other = compared p f to (λ x y. int_eq x y) early
instr_early p (instr.IfIcmpne to) f is early other = compared p f to (λ x y. not (int_eq x y)) early
instr_early p (instr.IfIcmplt to) f is early other = compared p f to (λ x y. int_lt x y) early
instr_early p (instr.IfIcmpge to) f is early other = compared p f to (λ x y. int_le y x) early
instr_early p (instr.IfIcmpgt to) f is early other = compared p f to (λ x y. int_lt y x) early
instr_early p (instr.IfIcmple to) f is early other = compared p f to (λ x y. int_le x y) early
instr_early p (instr.IfAcmpeq to) f is early other = two_early p f.stack _ early.stack (λ v w rest iv iw more. branch_early p (same_reference v w) f to rest early more)
instr_early p (instr.IfAcmpne to) f is early other = two_early p f.stack _ early.stack (λ v w rest iv iw more. branch_early p (not (same_reference v w)) f to rest early more)
instr_early p (instr.Ifnull to) f is early other = any_early p f.stack _ early.stack (λ v rest is' more. branch_early p (is_null v) f to rest early more)
instr_early p (instr.Ifnonnull to) f is early other = any_early p f.stack _ early.stack (λ v rest is' more. branch_early p (not (is_null v)) f to rest early more)
instr_early p (instr.Goto to) f is early other = jump_early p f to f.stack early early.stack
instr_early p instr.ArrayLength f is early other = any_early p f.stack _ early.stack (λ v rest is' more. array_early p v _ is')
instr_early p instr.Out f is early other = next_early p f (value.Stream ∷ f.stack) early (refl, early.stack)
instr_early p (instr.GetStatic slot) f is early other = other refl
instr_early p (instr.PutStatic slot) f is early other = other refl
instr_early p (instr.GetField class place) f is early other = on_object p f (λ o. Asks (op.GetField o place) 1) early
instr_early p (instr.PutField class place) f is early other = two_early p f.stack _ early.stack (λ v w rest iv iw more. object_early p v _ iv)
instr_early p instr.Iaload f is early other = int_early p f.stack _ early.stack (λ i rest more. any_early p rest _ more (λ v rest' is' more'. array_early p v _ is'))
instr_early p instr.Iastore f is early other =
    int_early p f.stack _ early.stack (λ x rest more. int_early p rest _ more (λ i rest' more'. any_early p rest' _ more' (λ v rest'' is' more''. array_early p v _ is')))
instr_early p (instr.New class) f is early other = is
instr_early p instr.NewArray f is early other = int_early p f.stack _ early.stack (λ n rest more. length_early p n _ (λ len. refl))
instr_early p instr.MonitorEnter f is early other = locked p f (λ l. op.Enter l) early
instr_early p instr.MonitorExit f is early other = locked p f (λ l. op.Exit l) early
instr_early p instr.Athrow f is early other = on_object p f (λ o. Fails (fault.Thrown o.class)) early
instr_early p (instr.InvokeStatic m) f is early other = other refl
instr_early p (instr.InvokeVirtual m) f is early other = calls_early p f m (method_at p m) early
instr_early p (instr.InvokeSpecial m) f is early other = calls_early p f m (method_at p m) early
instr_early p (instr.RunOf class) f is early other = on_object p f (λ o. calls_on (run_method p o.class) (method_at p (run_method p o.class)) f.stack) early
instr_early p instr.Wait f is early other = locked p f (λ l. op.Wait l) early
instr_early p instr.Notify f is early other = locked p f (λ l. op.Notify l) early
instr_early p instr.NotifyAll f is early other = locked p f (λ l. op.NotifyAll l) early
instr_early p instr.Start f is early other = on_object p f (λ o. Asks (op.Start o) 1) early
instr_early p instr.Join f is early other = on_object p f (λ o. Asks (op.Join o.id) 1) early
instr_early p instr.Yield f is early other = refl
instr_early p (instr.Init class true) f is early other = two_early p f.stack _ early.stack (λ v w rest iv iw more. instance_early p v _ iv)
instr_early p (instr.Init class false) f is early other = any_early p f.stack _ early.stack (λ v rest is' more. instance_early p v _ is')
instr_early p instr.InitRunnable f is early other = two_early p f.stack _ early.stack (λ v w rest iv iw more. object_early p v _ iv)
instr_early p instr.Println f is early other = any_early p f.stack _ early.stack (λ v rest is' more. stream_early p v _ refl)
instr_early p (instr.PrintInt newline) f is early other = int_early p f.stack _ early.stack (λ n rest more. any_early p rest _ more (λ v rest' is' more'. stream_early p v _ refl))
instr_early p (instr.PrintText newline) f is early other = two_early p f.stack _ early.stack (λ v w rest iv iw more. text_early p w _ iw (λ text known. stream_early p v _ known))
instr_early p instr.Return f is early other = tt
instr_early p instr.Ireturn f is early other = int_early p f.stack _ early.stack (λ n rest more. refl)
instr_early p instr.Areturn f is early other = any_early p f.stack _ early.stack (λ v rest is' more. is')

-- the action of a frame that fits the table
pub action_early : (p : PlainProgram) (table : Table) (f : Frame) → IsWellLinked p → NamesWhatIsThere p → IsShapeTable p table → FitsFrame p table f → IsEarlyFrame p f → IsEarlyAction p (action p f)
action_early p table f linked names shapes fit early =
    let at = at_frame p table f linked shapes fit in
    let own = method_names p f.method fit.method names fit.is_method in
    let there : slice_get fit.method.code f.place ≡ Some at.instr = sym (ap (λ (o : Option PlainMethod). code_at o f.place) fit.is_method) ∙ at.is_there in
    subst (λ (o : Option Instr). IsEarlyAction p (effect_at p o f)) (sym at.is_there)
    (instr_early p at.instr f (all_there (λ (j : Instr). IsTrue (names_what_is_there p j)) fit.method.code f.place at.instr own.code there) early
    (λ is. not_refused p table f.method f.place (flow p f.method at.instr fit.at.shape) (effect p at.instr f) at.follows (declared_early p at.instr f fit.at.shape names early fit.at.fits_it is)))
