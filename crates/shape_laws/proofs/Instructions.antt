-- What each instruction does to a frame agrees with what it does to a shape that the frame fits.
use Rattle.std.proofs.Common.{◌≡◌, ℕ, ◌+◌, Bool, true, false, List, ◌∷◌, drop, Option, Some, None, refl, sym, ◌∙◌, ap, subst}
use Rattle.std.specs.Prelude.{ℤ, pos, negsuc, not, ◌||◌, ◌==◌, int_lt, int_le, int_rem, nat_lt, nat_le, slice_get, if◌then◌else◌}
use Rattle.std.specs.Int.{w32, int_wrapping_add, int_wrapping_sub, int_wrapping_mul, int_wrapping_neg, int_wrapping_div, int_bit_and, int_bit_or, int_bit_xor, int_shl, int_shr, cast_signed}
use Rattle.std.specs.Ordering.{int_eq}
use Rattle.std.proofs.lemmas.Bool.{false≢true}
use Rattle.vm_model.specs.declared.value.Value.{Value}
use Rattle.vm_model.specs.declared.value.Value.TheVariants as value
use Rattle.vm_model.specs.declared.value.Lock.{Lock}
use Rattle.vm_model.specs.declared.value.ObjRef.{ObjRef}
use Rattle.vm_model.specs.declared.value.Kind.{Kind}
use Rattle.vm_model.specs.declared.value.Kind.TheVariants as kind
use Rattle.vm_model.specs.declared.ends.FaultKind.TheVariants as fault
use Rattle.vm_model.specs.declared.op.Op.{Op}
use Rattle.vm_model.specs.declared.op.Op.TheVariants as op
use Rattle.vm_model.specs.declared.op.Piece.{Piece}
use Rattle.vm_model.specs.declared.op.Piece.TheVariants as piece
use Rattle.vm_model.specs.declared.instr.Instr.{Instr}
use Rattle.vm_model.specs.declared.instr.Instr.TheVariants as instr
use Rattle.vm_model.specs.Program.{PlainMethod, PlainProgram, method_at}
use Rattle.machine_model.specs.Declarations.{declarations_of}
use Rattle.machine_model.specs.Kinds.{extends, is_assignable, is_null, static_kind, field_kinds}
use Rattle.machine_model.specs.Frames.{Frame}
use Rattle.machine_model.specs.Operands.{Action, Goes, Gives, Asks, Fails, as_object, as_lock, as_stream, as_index, as_length, next, branch, store, top_of, top_int_of, on_any, on_two}
use Rattle.machine_model.specs.Operands.{on_int as on_one_number, on_ints as on_two_numbers}
use Rattle.machine_model.specs.Effect.{effect, is_zero, same_reference, shift_count, shift_right_unsigned}
use Rattle.machine_model.specs.LocalStep.{with_reply}
use Rattle.machine_model.specs.Operations.{gets, is_new_object, is_new_array}
use Rattle.machine_model.specs.Shapes.{Shape, Flow, Next, Branch, Leaves, flow, flow_return, given_kind, is_int, is_array, is_reference, with_stack, with_local, on_kind, on_such, on_assignable}
use Rattle.machine_model.specs.Shapes.{on_int as on_one_kind, on_ints as on_two_kinds}
use Rattle.shape_laws.specs.Fitting.{has_objects, is_made, is_of, FitsKinds, FitsShape}
use Rattle.shape_laws.specs.States.{GivenFits}
use Rattle.shape_laws.specs.Linked.{is_linked_instr, IsLinkedMethod, IsWellLinked}
use Rattle.shape_laws.proofs.Tests.{same, on_left, joined, all_there}
use Rattle.shape_laws.proofs.Supers.{extends_itself}
use Rattle.shape_laws.proofs.BuiltIns.{text_fits, stream_fits, field_class, own_class, field_inherited, object_agrees, instance_agrees, lock_agrees, stream_agrees, array_agrees, text_agrees}
use Rattle.shape_laws.proofs.Taking.{of_assignable}
use Rattle.shape_laws.proofs.Operands.{any_agrees, such_agrees, int_agrees, number_agrees, set_agrees, place_agrees, declared_agrees, true_agrees, store_fits}
use Rattle.shape_laws.proofs.Moving.{Moves}
use Rattle.shape_laws.proofs.Agreement.{Agrees, AskFits, asks_nothing, asks_value, asks_new, asks_wait, unit_only, unit_or_raise, begins_or_raise, goes, branches, replied}
use Rattle.shape_laws.proofs.Calls.{static_agrees, on_agrees, run_agrees}

-- ---- numbers

number : (p : PlainProgram) (f : Frame) (s : Shape) (change : ℤ → ℤ) → FitsShape p s f
    → Agrees p f (on_one_kind s.stack (λ rest. Next (with_stack s (kind.Int ∷ rest)))) (on_one_number (top_int_of f.stack) (λ x rest. Goes (next f (value.Int (change x) ∷ rest))))
number p f s change fit =
    int_agrees p (Agrees p f) (λ _. tt) f.stack s.stack _ _ fit.stack (λ x rest krest e h. goes p f s (value.Int (change x) ∷ rest) (kind.Int ∷ krest) fit (refl, h))

numbers : (p : PlainProgram) (f : Frame) (s : Shape) (change : ℤ → ℤ → ℤ) → FitsShape p s f
    → Agrees p f (on_two_kinds s.stack (λ rest. Next (with_stack s (kind.Int ∷ rest)))) (on_two_numbers f.stack (λ x y rest. Goes (next f (value.Int (change x y) ∷ rest))))
numbers p f s change fit =
    int_agrees p (Agrees p f) (λ _. tt) f.stack s.stack _ _ fit.stack
    (λ y rest krest e h. int_agrees p (Agrees p f) (λ _. tt) rest krest _ _ h (λ x rest' krest' e' h'. goes p f s (value.Int (change x y) ∷ rest') (kind.Int ∷ krest') fit (refl, h')))

divided : (p : PlainProgram) (f : Frame) (s : Shape) (change : ℤ → ℤ → ℤ) → FitsShape p s f
    → Agrees p f (on_two_kinds s.stack (λ rest. Next (with_stack s (kind.Int ∷ rest))))
    (on_two_numbers f.stack (λ x y rest. if is_zero y then Fails fault.Arithmetic else Goes (next f (value.Int (change x y) ∷ rest))))
divided p f s change fit =
    int_agrees p (Agrees p f) (λ _. tt) f.stack s.stack _ _ fit.stack
    (λ y rest krest e h. int_agrees p (Agrees p f) (λ _. tt) rest krest _ _ h
    (λ x rest' krest' e' h'. by (is_zero y) (next f (value.Int (change x y) ∷ rest')) (with_stack s (kind.Int ∷ krest')) (goes p f s (value.Int (change x y) ∷ rest') (kind.Int ∷ krest') fit (refl, h'))))
  where
    by : (b : Bool) (g : Frame) (t : Shape) → Moves p f g (f.place + 1) t → Agrees p f (Next t) (if b then Fails fault.Arithmetic else Goes g)
    by true g t m = tt
    by false g t m = m

tested : (p : PlainProgram) (f : Frame) (s : Shape) (to : ℕ) (test : ℤ → Bool) → FitsShape p s f
    → Agrees p f (on_one_kind s.stack (λ rest. Branch to (with_stack s rest))) (on_one_number (top_int_of f.stack) (λ x rest. Goes (branch (test x) f to rest)))
tested p f s to test fit =
    int_agrees p (Agrees p f) (λ _. tt) f.stack s.stack _ _ fit.stack (λ x rest krest e h. branches p (test x) f to s rest krest fit h)

compared : (p : PlainProgram) (f : Frame) (s : Shape) (to : ℕ) (test : ℤ → ℤ → Bool) → FitsShape p s f
    → Agrees p f (on_two_kinds s.stack (λ rest. Branch to (with_stack s rest))) (on_two_numbers f.stack (λ x y rest. Goes (branch (test x y) f to rest)))
compared p f s to test fit =
    int_agrees p (Agrees p f) (λ _. tt) f.stack s.stack _ _ fit.stack
    (λ y rest krest e h. int_agrees p (Agrees p f) (λ _. tt) rest krest _ _ h (λ x rest' krest' e' h'. branches p (test x y) f to s rest' krest' fit h'))

index_agrees : (p : PlainProgram) (f : Frame) (s : Shape) (i : ℤ) (len : ℕ) (go : ℕ → Action) → ((n : ℕ) → Agrees p f (Next s) (go n)) → Agrees p f (Next s) (as_index i len go)
index_agrees p f s (pos n) len go each = by (nat_lt n len)
  where
    by : (b : Bool) → Agrees p f (Next s) (if b then go n else Fails fault.ArrayIndex)
    by true = each n
    by false = tt
index_agrees p f s (negsuc n) len go each = tt

length_agrees : (p : PlainProgram) (f : Frame) (s : Shape) (n : ℤ) (go : ℕ → Action) → ((len : ℕ) → Agrees p f (Next s) (go len)) → Agrees p f (Next s) (as_length n go)
length_agrees p f s (pos n) go each = each n
length_agrees p f s (negsuc n) go each = tt

-- ---- values of any kind

two_any : (p : PlainProgram) (f : Frame) (s : Shape) (ga : Value → Value → List Value → Action) (gf : Kind → Kind → List Kind → Flow) → FitsShape p s f
    → ((v w : Value) (rest : List Value) (k l : Kind) (krest : List Kind) → is_of p v k ≡ true → is_of p w l ≡ true → FitsKinds p rest krest → Agrees p f (gf l k krest) (ga v w rest))
    → Agrees p f (on_kind s.stack (λ l rest. on_kind rest (λ k rest'. gf l k rest'))) (on_two f.stack ga)
two_any p f s ga gf fit each =
    any_agrees p (Agrees p f) (λ _. tt) f.stack s.stack _ _ fit.stack
    (λ w rest l krest e gw h. any_agrees p (Agrees p f) (λ _. tt) rest krest _ _ h (λ v rest' k krest' e' gv h'. each v w rest' k l krest' gv gw h'))

-- the second operand, below one on top
two_such : (p : PlainProgram) (f : Frame) (s : Shape) (top below : Kind → Bool) (ga : Value → Value → List Value → Action) (gf : List Kind → Flow) → FitsShape p s f
    → ((v w : Value) (rest : List Value) (k : Kind) (krest : List Kind) → drop 2 f.stack ≡ rest → below k ≡ true → is_of p v k ≡ true → FitsKinds p rest krest → Agrees p f (gf krest) (ga v w rest))
    → Agrees p f (on_such top s.stack (λ rest. on_such below rest gf)) (on_two f.stack ga)
two_such p f s top below ga gf fit each =
    such_agrees p (Agrees p f) (λ _. tt) top f.stack s.stack _ _ fit.stack
    (λ w rest l krest e t gw h. such_agrees p (Agrees p f) (λ _. tt) below rest krest _ _ h
    (λ v rest' k krest' e' t' gv h'. each v w rest' k krest' (ap (drop 2) e ∙ ap (drop 1) e') t' gv h'))

stored : (p : PlainProgram) (f : Frame) (s : Shape) (rest : List Value) (krest : List Kind) (i : ℕ) (v : Value) (k : Kind) → FitsShape p s f → FitsKinds p rest krest → is_of p v k ≡ true
    → Moves p f (store f i v rest) (f.place + 1) (with_local s krest i k)
stored p f s rest krest i v k fit h g = record { method = refl; lock = refl; place_is = refl; fit = record { stack = h; locals = store_fits p f.locals s.locals i v k fit.locals g } }

-- ---- operations on references

locked : (p : PlainProgram) (f : Frame) (s : Shape) (asks : Lock → Op) → FitsShape p s f → ((l : Lock) (krest : List Kind) → FitsShape p (with_stack s krest) (with_reply 1 None f) → AskFits p f (with_stack s krest) (asks l) 1)
    → Agrees p f (on_assignable p (kind.Ref 0) s.stack (λ rest. Next (with_stack s rest))) (on_any (top_of f.stack) (λ v rest. as_lock v (λ l. Asks (asks l) 1)))
locked p f s asks fit each =
    such_agrees p (Agrees p f) (λ _. tt) (λ k. is_assignable (declarations_of p) k (kind.Ref 0)) f.stack s.stack _ _ fit.stack
    (λ v rest k krest e t g h. lock_agrees p (Agrees p f) (Next (with_stack s krest)) tt v (λ l. Asks (asks l) 1) (of_assignable p v k (kind.Ref 0) g t) (λ l. each l krest (replied p f s 1 None rest krest fit (ap (drop 1) e) h)))

on_thread : (p : PlainProgram) (f : Frame) (s : Shape) (asks : ObjRef → Op) → FitsShape p s f → ((o : ObjRef) (krest : List Kind) → FitsShape p (with_stack s krest) (with_reply 1 None f) → AskFits p f (with_stack s krest) (asks o) 1)
    → Agrees p f (on_assignable p (kind.Ref 1) s.stack (λ rest. Next (with_stack s rest))) (on_any (top_of f.stack) (λ v rest. as_object v (λ o. Asks (asks o) 1)))
on_thread p f s asks fit each =
    such_agrees p (Agrees p f) (λ _. tt) (λ k. is_assignable (declarations_of p) k (kind.Ref 1)) f.stack s.stack _ _ fit.stack
    (λ v rest k krest e t g h. object_agrees p (Agrees p f) (Next (with_stack s krest)) tt 1 v (λ o. Asks (asks o) 1) refl (of_assignable p v k (kind.Ref 1) g t)
    (λ id c is of. each (record { id = id; class = c }) krest (replied p f s 1 None rest krest fit (ap (drop 1) e) h)))

printed : (p : PlainProgram) (f : Frame) (s : Shape) (what : Piece) (newline : Bool) (n : ℕ) (rest : List Value) (krest : List Kind) → FitsShape p s f → drop n f.stack ≡ rest → FitsKinds p rest krest
    → AskFits p f (with_stack s krest) (op.Print what newline) n
printed p f s what newline n rest krest fit gone h = asks_nothing p f (with_stack s krest) (op.Print what newline) n refl refl (λ r. unit_or_raise fault.OutputFull r) (replied p f s n None rest krest fit gone h)

new_fits : (p : PlainProgram) (class : ℕ) (v : Value) → has_objects class ≡ true → is_new_object class v ≡ true → is_of p v (kind.Ref class) ≡ true
new_fits p class (value.Obj id c) made e =
    subst (λ (x : ℕ). is_of p (value.Obj id x) (kind.Ref class) ≡ true) (sym (same c class e)) (joined (has_objects class) _ made (on_left (extends (declarations_of p) class class) false (extends_itself (declarations_of p) class)))
new_fits p class (value.Int n) made e = absurd (false≢true e)
new_fits p class value.Null made e = absurd (false≢true e)
new_fits p class (value.Arr id len) made e = absurd (false≢true e)
new_fits p class (value.Text text) made e = absurd (false≢true e)
new_fits p class value.Stream made e = absurd (false≢true e)

new_array_fits : (p : PlainProgram) (len : ℕ) (v : Value) → is_new_array len v ≡ true → is_of p v kind.Arr ≡ true
new_array_fits p len (value.Arr id l) e = refl
new_array_fits p len (value.Int n) e = absurd (false≢true e)
new_array_fits p len value.Null e = absurd (false≢true e)
new_array_fits p len (value.Obj id c) e = absurd (false≢true e)
new_array_fits p len (value.Text text) e = absurd (false≢true e)
new_array_fits p len value.Stream e = absurd (false≢true e)

-- ---- methods

pub method_linked : (p : PlainProgram) (n : ℕ) (m : PlainMethod) → IsWellLinked p → method_at p n ≡ Some m → IsLinkedMethod p m
method_linked p n m linked e = all_there (IsLinkedMethod p) p.methods n m linked.methods e

method_class : (p : PlainProgram) (callee : ℕ) → IsWellLinked p → (m : PlainMethod) → method_at p callee ≡ Some m → m.is_static ≡ false → (m.class == 1 || nat_le 32 m.class) ≡ true
method_class p callee linked m e own = (method_linked p callee m linked e).class own

-- ---- returns

leaves_nothing : (p : PlainProgram) (f : Frame) (o : Option Kind) → given_kind (method_at p f.method) ≡ o → Agrees p f (flow_return p o None) (Gives None)
leaves_nothing p f None e = subst (λ (x : Option Kind). GivenFits p None x) (sym e) tt
leaves_nothing p f (Some k) e = tt

leaves : (p : PlainProgram) (f : Frame) (v : Value) (k : Kind) (o : Option Kind) → given_kind (method_at p f.method) ≡ o → is_of p v k ≡ true → Agrees p f (flow_return p o (Some k)) (Gives (Some v))
leaves p f v k None e g = tt
leaves p f v k (Some wanted) e g =
    true_agrees p (Agrees p f) (λ _. tt) (is_assignable (declarations_of p) k wanted) Leaves (Gives (Some v)) (λ t. subst (λ (x : Option Kind). GivenFits p (Some v) x) (sym e) (of_assignable p v k wanted g t))

-- ---- one case for each instruction

pub agrees : (p : PlainProgram) (i : Instr) (f : Frame) (s : Shape) → IsWellLinked p → is_linked_instr p i ≡ true → FitsShape p s f → Agrees p f (flow p f.method i s) (effect p i f)
agrees p instr.Nop f s linked is fit = goes p f s f.stack s.stack fit fit.stack
agrees p (instr.Push n) f s linked is fit = goes p f s (value.Int n ∷ f.stack) (kind.Int ∷ s.stack) fit (refl, fit.stack)
agrees p (instr.PushText text) f s linked is fit = goes p f s (value.Text text ∷ f.stack) (kind.Ref 3 ∷ s.stack) fit (text_fits p text, fit.stack)
agrees p instr.PushNull f s linked is fit = goes p f s (value.Null ∷ f.stack) (kind.Null ∷ s.stack) fit (refl, fit.stack)
agrees p (instr.Iload i) f s linked is fit =
    number_agrees p (Agrees p f) (λ _. tt) f.locals s.locals i _ _ fit.locals (λ n keep. goes p f s (value.Int n ∷ f.stack) (kind.Int ∷ s.stack) fit (refl, fit.stack))
agrees p (instr.Istore i) f s linked is fit =
    int_agrees p (Agrees p f) (λ _. tt) f.stack s.stack _ _ fit.stack
    (λ n rest krest e h. place_agrees p (Agrees p f) (λ _. tt) f.locals s.locals i _ _ fit.locals (λ v. stored p f s rest krest i (value.Int n) kind.Int fit h refl))
agrees p (instr.Aload i) f s linked is fit =
    set_agrees p (Agrees p f) (λ _. tt) f.locals s.locals i _ _ fit.locals (λ v k g. true_agrees p (Agrees p f) (λ _. tt) (not (is_int k)) _ _ (λ t. goes p f s (v ∷ f.stack) (k ∷ s.stack) fit (g, fit.stack)))
agrees p (instr.Astore i) f s linked is fit =
    any_agrees p (Agrees p f) (λ _. tt) f.stack s.stack _ _ fit.stack
    (λ v rest k krest e g h. true_agrees p (Agrees p f) (λ _. tt) (not (is_int k)) _ _ (λ t. place_agrees p (Agrees p f) (λ _. tt) f.locals s.locals i _ _ fit.locals (λ w. stored p f s rest krest i v k fit h g)))
agrees p (instr.Iinc i by) f s linked is fit =
    number_agrees p (Agrees p f) (λ _. tt) f.locals s.locals i _ _ fit.locals
    (λ n keep. record { method = refl; lock = refl; place_is = refl; fit = record { stack = fit.stack; locals = keep (int_wrapping_add w32 n by) } })
agrees p instr.Pop f s linked is fit = any_agrees p (Agrees p f) (λ _. tt) f.stack s.stack _ _ fit.stack (λ v rest k krest e g h. goes p f s rest krest fit h)
agrees p instr.Pop2 f s linked is fit = two_any p f s _ _ fit (λ v w rest k l krest gv gw h. goes p f s rest krest fit h)
agrees p instr.Dup f s linked is fit = any_agrees p (Agrees p f) (λ _. tt) f.stack s.stack _ _ fit.stack (λ v rest k krest e g h. goes p f s (v ∷ v ∷ rest) (k ∷ k ∷ krest) fit (g, (g, h)))
agrees p instr.DupX1 f s linked is fit = two_any p f s _ _ fit (λ v w rest k l krest gv gw h. goes p f s (w ∷ v ∷ w ∷ rest) (l ∷ k ∷ l ∷ krest) fit (gw, (gv, (gw, h))))
agrees p instr.DupX2 f s linked is fit =
    two_any p f s _ _ fit
    (λ v w rest k l krest gv gw h. any_agrees p (Agrees p f) (λ _. tt) rest krest _ _ h (λ u rest' j krest' e' gu h'. goes p f s (w ∷ v ∷ u ∷ w ∷ rest') (l ∷ k ∷ j ∷ l ∷ krest') fit (gw, (gv, (gu, (gw, h'))))))
agrees p instr.Dup2 f s linked is fit = two_any p f s _ _ fit (λ v w rest k l krest gv gw h. goes p f s (w ∷ v ∷ w ∷ v ∷ rest) (l ∷ k ∷ l ∷ k ∷ krest) fit (gw, (gv, (gw, (gv, h)))))
agrees p instr.Swap f s linked is fit = two_any p f s _ _ fit (λ v w rest k l krest gv gw h. goes p f s (v ∷ w ∷ rest) (k ∷ l ∷ krest) fit (gv, (gw, h)))
agrees p instr.Iadd f s linked is fit = numbers p f s (int_wrapping_add w32) fit
agrees p instr.Isub f s linked is fit = numbers p f s (int_wrapping_sub w32) fit
agrees p instr.Imul f s linked is fit = numbers p f s (int_wrapping_mul w32) fit
agrees p instr.Ineg f s linked is fit = number p f s (int_wrapping_neg w32) fit
agrees p instr.Idiv f s linked is fit = divided p f s (int_wrapping_div w32) fit
agrees p instr.Irem f s linked is fit = divided p f s int_rem fit
agrees p instr.Ishl f s linked is fit = numbers p f s (λ x y. int_shl w32 x (shift_count y)) fit
agrees p instr.Ishr f s linked is fit = numbers p f s (λ x y. int_shr x (shift_count y)) fit
agrees p instr.Iushr f s linked is fit = numbers p f s (λ x y. shift_right_unsigned x y) fit
agrees p instr.Iand f s linked is fit = numbers p f s (int_bit_and w32) fit
agrees p instr.Ior f s linked is fit = numbers p f s (int_bit_or w32) fit
agrees p instr.Ixor f s linked is fit = numbers p f s (int_bit_xor w32) fit
agrees p (instr.Ifeq to) f s linked is fit = tested p f s to (λ x. int_eq x (pos 0)) fit
agrees p (instr.Ifne to) f s linked is fit = tested p f s to (λ x. not (int_eq x (pos 0))) fit
agrees p (instr.Iflt to) f s linked is fit = tested p f s to (λ x. int_lt x (pos 0)) fit
agrees p (instr.Ifge to) f s linked is fit = tested p f s to (λ x. int_le (pos 0) x) fit
agrees p (instr.Ifgt to) f s linked is fit = tested p f s to (λ x. int_lt (pos 0) x) fit
agrees p (instr.Ifle to) f s linked is fit = tested p f s to (λ x. int_le x (pos 0)) fit
agrees p (instr.IfIcmpeq to) f s linked is fit = compared p f s to (λ x y. int_eq x y) fit
agrees p (instr.IfIcmpne to) f s linked is fit = compared p f s to (λ x y. not (int_eq x y)) fit
agrees p (instr.IfIcmplt to) f s linked is fit = compared p f s to (λ x y. int_lt x y) fit
agrees p (instr.IfIcmpge to) f s linked is fit = compared p f s to (λ x y. int_le y x) fit
agrees p (instr.IfIcmpgt to) f s linked is fit = compared p f s to (λ x y. int_lt y x) fit
agrees p (instr.IfIcmple to) f s linked is fit = compared p f s to (λ x y. int_le x y) fit
agrees p (instr.IfAcmpeq to) f s linked is fit =
    such_agrees p (Agrees p f) (λ _. tt) is_reference f.stack s.stack _ _ fit.stack
    (λ w rest l krest e t g h. such_agrees p (Agrees p f) (λ _. tt) is_reference rest krest _ _ h (λ v rest' k krest' e' t' g' h'. branches p (same_reference v w) f to s rest' krest' fit h'))
agrees p (instr.IfAcmpne to) f s linked is fit =
    such_agrees p (Agrees p f) (λ _. tt) is_reference f.stack s.stack _ _ fit.stack
    (λ w rest l krest e t g h. such_agrees p (Agrees p f) (λ _. tt) is_reference rest krest _ _ h (λ v rest' k krest' e' t' g' h'. branches p (not (same_reference v w)) f to s rest' krest' fit h'))
agrees p (instr.Ifnull to) f s linked is fit = such_agrees p (Agrees p f) (λ _. tt) is_reference f.stack s.stack _ _ fit.stack (λ v rest k krest e t g h. branches p (is_null v) f to s rest krest fit h)
agrees p (instr.Ifnonnull to) f s linked is fit = such_agrees p (Agrees p f) (λ _. tt) is_reference f.stack s.stack _ _ fit.stack (λ v rest k krest e t g h. branches p (not (is_null v)) f to s rest krest fit h)
agrees p (instr.Goto to) f s linked is fit = record { method = refl; lock = refl; place_is = refl; fit = record { stack = fit.stack; locals = fit.locals } }
agrees p instr.ArrayLength f s linked is fit =
    such_agrees p (Agrees p f) (λ _. tt) is_array f.stack s.stack _ _ fit.stack
    (λ v rest k krest e t g h. array_agrees p (Agrees p f) (Next (with_stack s (kind.Int ∷ krest))) tt k v _ t g (λ id len. goes p f s (value.Int (cast_signed w32 len) ∷ rest) (kind.Int ∷ krest) fit (refl, h)))
agrees p instr.Out f s linked is fit = goes p f s (value.Stream ∷ f.stack) (kind.Ref 4 ∷ s.stack) fit (stream_fits p, fit.stack)
agrees p (instr.GetStatic slot) f s linked is fit =
    declared_agrees p (Agrees p f) (λ _. tt) (static_kind (declarations_of p) slot) _ _
    (λ k e. asks_value p f (with_stack s (k ∷ s.stack)) (op.GetStatic slot) 0 refl (Some k) (λ r h. subst (λ (o : Option Kind). gets (declarations_of p) o r ≡ true) e h)
    (λ v made h. replied p f s 0 (Some v) f.stack (k ∷ s.stack) fit refl (joined (is_made v) _ made h, fit.stack)))
agrees p (instr.PutStatic slot) f s linked is fit =
    declared_agrees p (Agrees p f) (λ _. tt) (static_kind (declarations_of p) slot) _ _
    (λ k e'. such_agrees p (Agrees p f) (λ _. tt) (λ k'. is_assignable (declarations_of p) k' k) f.stack s.stack _ _ fit.stack
    (λ v rest k' krest e t g h. asks_nothing p f (with_stack s krest) (op.PutStatic slot v) 1 refl refl (λ r. unit_only r) (replied p f s 1 None rest krest fit (ap (drop 1) e) h)))
agrees p (instr.GetField class place) f s linked is fit =
    declared_agrees p (Agrees p f) (λ _. tt) (slice_get (field_kinds (declarations_of p) class) place) _ _
    (λ k e'. such_agrees p (Agrees p f) (λ _. tt) (λ k'. is_assignable (declarations_of p) k' (kind.Ref class)) f.stack s.stack _ _ fit.stack
    (λ v rest k' krest e t g h. object_agrees p (Agrees p f) (Next (with_stack s (k ∷ krest))) tt class v (λ o. Asks (op.GetField o place) 1) (own_class class (field_class p class place k e')) (of_assignable p v k' (kind.Ref class) g t)
    (λ id c is' of. asks_value p f (with_stack s (k ∷ krest)) (op.GetField (record { id = id; class = c }) place) 1 refl (Some k)
    (λ r q. subst (λ (o : Option Kind). gets (declarations_of p) o r ≡ true) (field_inherited p c class place k of.under e') q)
    (λ w made q. replied p f s 1 (Some w) rest (k ∷ krest) fit (ap (drop 1) e) (joined (is_made w) _ made q, h)))))
agrees p (instr.PutField class place) f s linked is fit =
    declared_agrees p (Agrees p f) (λ _. tt) (slice_get (field_kinds (declarations_of p) class) place) _ _
    (λ k e'. two_such p f s (λ k'. is_assignable (declarations_of p) k' k) (λ k'. is_assignable (declarations_of p) k' (kind.Ref class)) _ _ fit
    (λ v w rest kv krest gone t gv h. object_agrees p (Agrees p f) (Next (with_stack s krest)) tt class v (λ o. Asks (op.PutField o place w) 2) (own_class class (field_class p class place k e')) (of_assignable p v kv (kind.Ref class) gv t)
    (λ id c is' of. asks_nothing p f (with_stack s krest) (op.PutField (record { id = id; class = c }) place w) 2 refl refl (λ r. unit_only r) (replied p f s 2 None rest krest fit gone h))))
agrees p instr.Iaload f s linked is fit =
    int_agrees p (Agrees p f) (λ _. tt) f.stack s.stack _ _ fit.stack
    (λ i rest krest e h. such_agrees p (Agrees p f) (λ _. tt) is_array rest krest _ _ h
    (λ v rest' k krest' e' t g h'. array_agrees p (Agrees p f) (Next (with_stack s (kind.Int ∷ krest'))) tt k v _ t g
    (λ id len. index_agrees p f (with_stack s (kind.Int ∷ krest')) i len (λ n. Asks (op.ArrayLoad id n) 2)
    (λ n. asks_value p f (with_stack s (kind.Int ∷ krest')) (op.ArrayLoad id n) 2 refl (Some kind.Int) (λ r q. q)
    (λ w made q. replied p f s 2 (Some w) rest' (kind.Int ∷ krest') fit (ap (drop 2) e ∙ ap (drop 1) e') (joined (is_made w) _ made q, h'))))))
agrees p instr.Iastore f s linked is fit =
    int_agrees p (Agrees p f) (λ _. tt) f.stack s.stack _ _ fit.stack
    (λ x rest krest e h. int_agrees p (Agrees p f) (λ _. tt) rest krest _ _ h
    (λ i rest' krest' e' h'. such_agrees p (Agrees p f) (λ _. tt) is_array rest' krest' _ _ h'
    (λ v rest'' k krest'' e'' t g h''. array_agrees p (Agrees p f) (Next (with_stack s krest'')) tt k v _ t g
    (λ id len. index_agrees p f (with_stack s krest'') i len (λ n. Asks (op.ArrayStore id n x) 3)
    (λ n. asks_nothing p f (with_stack s krest'') (op.ArrayStore id n x) 3 refl refl (λ r. unit_only r)
    (replied p f s 3 None rest'' krest'' fit (ap (drop 3) e ∙ ap (drop 2) e' ∙ ap (drop 1) e'') h''))))))
agrees p (instr.New class) f s linked is fit =
    asks_new p f (with_stack s (kind.Ref class ∷ s.stack)) (op.New class) 0 is (is_new_object class) (λ r q. q)
    (λ v made q. replied p f s 0 (Some v) f.stack (kind.Ref class ∷ s.stack) fit refl (new_fits p class v is q, fit.stack))
agrees p instr.NewArray f s linked is fit =
    int_agrees p (Agrees p f) (λ _. tt) f.stack s.stack _ _ fit.stack
    (λ n rest krest e h. length_agrees p f (with_stack s (kind.Arr ∷ krest)) n (λ len. Asks (op.NewArray len) 1)
    (λ len. asks_new p f (with_stack s (kind.Arr ∷ krest)) (op.NewArray len) 1 refl (is_new_array len) (λ r q. q)
    (λ v made q. replied p f s 1 (Some v) rest (kind.Arr ∷ krest) fit (ap (drop 1) e) (new_array_fits p len v q, h))))
agrees p instr.MonitorEnter f s linked is fit = locked p f s (λ l. op.Enter l) fit (λ l krest q. asks_nothing p f (with_stack s krest) (op.Enter l) 1 refl refl (λ r. unit_only r) q)
agrees p instr.MonitorExit f s linked is fit = locked p f s (λ l. op.Exit l) fit (λ l krest q. asks_nothing p f (with_stack s krest) (op.Exit l) 1 refl refl (λ r. unit_or_raise fault.MonitorState r) q)
agrees p instr.Athrow f s linked is fit =
    such_agrees p (Agrees p f) (λ _. tt) (λ k. is_assignable (declarations_of p) k (kind.Ref 5)) f.stack s.stack _ _ fit.stack
    (λ v rest k krest e t g h. object_agrees p (Agrees p f) Leaves tt 5 v (λ o. Fails (fault.Thrown o.class)) refl (of_assignable p v k (kind.Ref 5) g t) (λ id c is' of. tt))
agrees p (instr.InvokeStatic callee) f s linked is fit = static_agrees p f s callee (method_at p callee) refl fit
agrees p (instr.InvokeVirtual callee) f s linked is fit = on_agrees p f s callee (method_at p callee) refl (method_class p callee linked) fit
agrees p (instr.InvokeSpecial callee) f s linked is fit = on_agrees p f s callee (method_at p callee) refl (method_class p callee linked) fit
agrees p (instr.RunOf class) f s linked is fit = run_agrees p f s class linked is fit
agrees p instr.Wait f s linked is fit = locked p f s (λ l. op.Wait l) fit (λ l krest q. asks_wait p f (with_stack s krest) l q)
agrees p instr.Notify f s linked is fit = locked p f s (λ l. op.Notify l) fit (λ l krest q. asks_nothing p f (with_stack s krest) (op.Notify l) 1 refl refl (λ r. unit_or_raise fault.MonitorState r) q)
agrees p instr.NotifyAll f s linked is fit = locked p f s (λ l. op.NotifyAll l) fit (λ l krest q. asks_nothing p f (with_stack s krest) (op.NotifyAll l) 1 refl refl (λ r. unit_or_raise fault.MonitorState r) q)
agrees p instr.Start f s linked is fit = on_thread p f s (λ o. op.Start o) fit (λ o krest q. asks_nothing p f (with_stack s krest) (op.Start o) 1 is refl (λ r. begins_or_raise fault.ThreadState fault.ThreadsFull r) q)
agrees p instr.Join f s linked is fit = on_thread p f s (λ o. op.Join o.id) fit (λ o krest q. asks_nothing p f (with_stack s krest) (op.Join o.id) 1 refl refl (λ r. unit_only r) q)
agrees p instr.Yield f s linked is fit = asks_nothing p f s op.Yield 0 refl refl (λ r. unit_only r) (replied p f s 0 None f.stack s.stack fit refl fit.stack)
agrees p (instr.Init class true) f s linked is fit =
    two_such p f s (λ k'. is_assignable (declarations_of p) k' (kind.Ref 3)) (λ k'. is_assignable (declarations_of p) k' (kind.Ref class)) _ _ fit
    (λ v w rest kv krest gone t gv h. instance_agrees p (Agrees p f) (Next (with_stack s krest)) tt class v (Goes (next f rest)) is (of_assignable p v kv (kind.Ref class) gv t) (goes p f s rest krest fit h))
agrees p (instr.Init class false) f s linked is fit =
    such_agrees p (Agrees p f) (λ _. tt) (λ k. is_assignable (declarations_of p) k (kind.Ref class)) f.stack s.stack _ _ fit.stack
    (λ v rest k krest e t g h. instance_agrees p (Agrees p f) (Next (with_stack s krest)) tt class v (Goes (next f rest)) is (of_assignable p v k (kind.Ref class) g t) (goes p f s rest krest fit h))
agrees p instr.InitRunnable f s linked is fit =
    two_such p f s (λ k'. is_assignable (declarations_of p) k' (kind.Ref 2)) (λ k'. is_assignable (declarations_of p) k' (kind.Ref 1)) _ _ fit
    (λ v w rest kv krest gone t gv h. object_agrees p (Agrees p f) (Next (with_stack s krest)) tt 1 v (λ o. Asks (op.PutField o 0 w) 2) refl (of_assignable p v kv (kind.Ref 1) gv t)
    (λ id c is' of. asks_nothing p f (with_stack s krest) (op.PutField (record { id = id; class = c }) 0 w) 2 refl refl (λ r. unit_only r) (replied p f s 2 None rest krest fit gone h)))
agrees p instr.Println f s linked is fit =
    such_agrees p (Agrees p f) (λ _. tt) (λ k. is_assignable (declarations_of p) k (kind.Ref 4)) f.stack s.stack _ _ fit.stack
    (λ v rest k krest e t g h. stream_agrees p (Agrees p f) (Next (with_stack s krest)) tt v _ (of_assignable p v k (kind.Ref 4) g t)
    (printed p f s piece.Nothing true 1 rest krest fit (ap (drop 1) e) h))
agrees p (instr.PrintInt newline) f s linked is fit =
    int_agrees p (Agrees p f) (λ _. tt) f.stack s.stack _ _ fit.stack
    (λ n rest krest e h. such_agrees p (Agrees p f) (λ _. tt) (λ k. is_assignable (declarations_of p) k (kind.Ref 4)) rest krest _ _ h
    (λ v rest' k krest' e' t g h'. stream_agrees p (Agrees p f) (Next (with_stack s krest')) tt v _ (of_assignable p v k (kind.Ref 4) g t)
    (printed p f s (piece.Int n) newline 2 rest' krest' fit (ap (drop 2) e ∙ ap (drop 1) e') h')))
agrees p (instr.PrintText newline) f s linked is fit =
    such_agrees p (Agrees p f) (λ _. tt) (λ k. is_assignable (declarations_of p) k (kind.Ref 3)) f.stack s.stack _ _ fit.stack
    (λ w rest l krest e t g h. such_agrees p (Agrees p f) (λ _. tt) (λ k. is_assignable (declarations_of p) k (kind.Ref 4)) rest krest _ _ h
    (λ v rest' k krest' e' t' g' h'. text_agrees p (Agrees p f) (Next (with_stack s krest')) w (λ text. as_stream v (Asks (op.Print text newline) 2)) (of_assignable p w l (kind.Ref 3) g t)
    (λ text. stream_agrees p (Agrees p f) (Next (with_stack s krest')) tt v _ (of_assignable p v k (kind.Ref 4) g' t')
    (printed p f s text newline 2 rest' krest' fit (ap (drop 2) e ∙ ap (drop 1) e') h'))))
agrees p instr.Return f s linked is fit = leaves_nothing p f (given_kind (method_at p f.method)) refl
agrees p instr.Ireturn f s linked is fit = int_agrees p (Agrees p f) (λ _. tt) f.stack s.stack _ _ fit.stack (λ n rest krest e h. leaves p f (value.Int n) kind.Int (given_kind (method_at p f.method)) refl refl)
agrees p instr.Areturn f s linked is fit =
    any_agrees p (Agrees p f) (λ _. tt) f.stack s.stack _ _ fit.stack
    (λ v rest k krest e g h. true_agrees p (Agrees p f) (λ _. tt) (not (is_int k)) _ _ (λ t. leaves p f v k (given_kind (method_at p f.method)) refl g))
