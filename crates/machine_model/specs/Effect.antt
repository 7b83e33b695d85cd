-- What each instruction does to the frame that stands at it (JVMS SE 8, chapter 6). A stack has its top first.
use Rattle.std.specs.Prelude.{ℕ, ◌-◌, ◌==◌, ◌%◌, ◌/◌, ◌^◌, Bool, true, false, not, if◌then◌else◌, nat_le, ℤ, pos, int_lt, int_le, int_rem, List, ◌∷◌, length, Option, Some, None, slice_get, unwrap_or}
use Rattle.std.specs.Int.{w32, int_wrapping_add, int_wrapping_sub, int_wrapping_mul, int_wrapping_neg, int_wrapping_div, int_bit_and, int_bit_or, int_bit_xor, int_shl, int_shr, cast_signed, cast_unsigned}
use Rattle.std.specs.Ordering.{int_eq}
use Rattle.vm_model.specs.declared.value.Value.{Value}
use Rattle.vm_model.specs.declared.value.Value.TheVariants as value
use Rattle.vm_model.specs.declared.value.Lock.{Lock}
use Rattle.vm_model.specs.declared.value.Lock.TheVariants as lock
use Rattle.vm_model.specs.declared.ends.FaultKind.TheVariants as fault
use Rattle.vm_model.specs.declared.op.Piece.TheVariants as piece
use Rattle.vm_model.specs.declared.op.Op.TheVariants as op
use Rattle.vm_model.specs.declared.instr.Instr.{Instr}
use Rattle.vm_model.specs.declared.instr.Instr.TheVariants as instr
use Rattle.vm_model.specs.Program.{PlainClass, PlainMethod, PlainProgram, class_at, instr_at, method_at}
use Rattle.machine_model.specs.Frames.{Frame}
use Rattle.machine_model.specs.Kinds.{is_null}
use Rattle.machine_model.specs.Operands.{Action, Goes, Calls, Gives, Asks, Fails, Undefined, top_of, top_int_of, on_any, on_int, on_two, on_ints, on_number, on_local, int_in, as_object, as_instance, as_array, as_lock, as_stream, as_text, as_index, as_length, next, jump, branch, store}

-- ---- numbers

abbrev pub shift_count : ℤ → ℕ
shift_count n = cast_unsigned w32 n % 32

abbrev pub shift_right_unsigned : ℤ → ℤ → ℤ
shift_right_unsigned x n = cast_signed w32 (cast_unsigned w32 x / 2 ^ shift_count n)

abbrev pub is_zero : ℤ → Bool
is_zero n = int_eq n (pos 0)

-- ---- references

-- two references are equal where they are of one form and have equal numbers
abbrev pub same_reference : Value → Value → Bool
same_reference (value.Int n) w = false
same_reference value.Null w = is_null w
same_reference (value.Obj id class) (value.Obj id' class') = id == id'
same_reference (value.Obj id class) (value.Int n) = false
same_reference (value.Obj id class) value.Null = false
same_reference (value.Obj id class) (value.Arr id' len) = false
same_reference (value.Obj id class) (value.Text text) = false
same_reference (value.Obj id class) value.Stream = false
same_reference (value.Arr id len) (value.Arr id' len') = id == id'
same_reference (value.Arr id len) (value.Int n) = false
same_reference (value.Arr id len) value.Null = false
same_reference (value.Arr id len) (value.Obj id' class) = false
same_reference (value.Arr id len) (value.Text text) = false
same_reference (value.Arr id len) value.Stream = false
same_reference (value.Text text) (value.Text text') = text == text'
same_reference (value.Text text) (value.Int n) = false
same_reference (value.Text text) value.Null = false
same_reference (value.Text text) (value.Obj id class) = false
same_reference (value.Text text) (value.Arr id len) = false
same_reference (value.Text text) value.Stream = false
same_reference value.Stream value.Stream = true
same_reference value.Stream (value.Int n) = false
same_reference value.Stream value.Null = false
same_reference value.Stream (value.Obj id class) = false
same_reference value.Stream (value.Arr id len) = false
same_reference value.Stream (value.Text text) = false

-- ---- calls

-- the lock that a synchronized method enters
abbrev pub lock_if : Bool → Lock → Option Lock
lock_if is_synchronized l = if is_synchronized then Some l else None

-- a call of a static method
abbrev pub calls_static : ℕ → Option PlainMethod → List Value → Action
calls_static n None stack = Undefined
calls_static n (Some m) stack = if nat_le (length m.params) (length stack) then Calls n (lock_if m.is_synchronized (lock.Class m.class)) else Undefined

-- a call of a method on the object below the arguments
abbrev pub calls_on : ℕ → Option PlainMethod → List Value → Action
calls_on n None stack = Undefined
calls_on n (Some m) stack = on_local (slice_get stack (length m.params)) (λ v. as_object v (λ o. Calls n (lock_if m.is_synchronized (lock.Object o.id))))

abbrev pub own_run : Option PlainClass → Option ℕ
own_run None = None
own_run (Some class) = class.run

-- the method that a call of run by the object's class runs: the class's own, else Thread.run, the last one of the program
abbrev pub run_method : PlainProgram → ℕ → ℕ
run_method p class = unwrap_or (own_run (class_at p class)) (length p.methods - 1)

-- ---- the table

-- each instruction by itself
abbrev pub effect : PlainProgram → Instr → Frame → Action
effect p instr.Nop f = Goes (next f f.stack)
effect p (instr.Push n) f = Goes (next f (value.Int n ∷ f.stack))
effect p (instr.PushText text) f = Goes (next f (value.Text text ∷ f.stack))
effect p instr.PushNull f = Goes (next f (value.Null ∷ f.stack))
effect p (instr.Iload i) f = on_number (int_in (slice_get f.locals i)) (λ n. Goes (next f (value.Int n ∷ f.stack)))
effect p (instr.Istore i) f = on_int (top_int_of f.stack) (λ n rest. on_local (slice_get f.locals i) (λ _. Goes (store f i (value.Int n) rest)))
effect p (instr.Aload i) f = on_local (slice_get f.locals i) (λ v. Goes (next f (v ∷ f.stack)))
effect p (instr.Astore i) f = on_any (top_of f.stack) (λ v rest. on_local (slice_get f.locals i) (λ _. Goes (store f i v rest)))
effect p (instr.Iinc i by) f = on_number (int_in (slice_get f.locals i)) (λ n. Goes (store f i (value.Int (int_wrapping_add w32 n by)) f.stack))
effect p instr.Pop f = on_any (top_of f.stack) (λ v rest. Goes (next f rest))
effect p instr.Pop2 f = on_two f.stack (λ v w rest. Goes (next f rest))
effect p instr.Dup f = on_any (top_of f.stack) (λ v rest. Goes (next f (v ∷ v ∷ rest)))
effect p instr.DupX1 f = on_two f.stack (λ v w rest. Goes (next f (w ∷ v ∷ w ∷ rest)))
effect p instr.DupX2 f = on_two f.stack (λ v w rest. on_any (top_of rest) (λ u rest'. Goes (next f (w ∷ v ∷ u ∷ w ∷ rest'))))
effect p instr.Dup2 f = on_two f.stack (λ v w rest. Goes (next f (w ∷ v ∷ w ∷ v ∷ rest)))
effect p instr.Swap f = on_two f.stack (λ v w rest. Goes (next f (v ∷ w ∷ rest)))
effect p instr.Iadd f = on_ints f.stack (λ x y rest. Goes (next f (value.Int (int_wrapping_add w32 x y) ∷ rest)))
effect p instr.Isub f = on_ints f.stack (λ x y rest. Goes (next f (value.Int (int_wrapping_sub w32 x y) ∷ rest)))
effect p instr.Imul f = on_ints f.stack (λ x y rest. Goes (next f (value.Int (int_wrapping_mul w32 x y) ∷ rest)))
effect p instr.Ineg f = on_int (top_int_of f.stack) (λ x rest. Goes (next f (value.Int (int_wrapping_neg w32 x) ∷ rest)))
effect p instr.Idiv f = on_ints f.stack (λ x y rest. if is_zero y then Fails fault.Arithmetic else Goes (next f (value.Int (int_wrapping_div w32 x y) ∷ rest)))
effect p instr.Irem f = on_ints f.stack (λ x y rest. if is_zero y then Fails fault.Arithmetic else Goes (next f (value.Int (int_rem x y) ∷ rest)))
effect p instr.Ishl f = on_ints f.stack (λ x y rest. Goes (next f (value.Int (int_shl w32 x (shift_count y)) ∷ rest)))
effect p instr.Ishr f = on_ints f.stack (λ x y rest. Goes (next f (value.Int (int_shr x (shift_count y)) ∷ rest)))
effect p instr.Iushr f = on_ints f.stack (λ x y rest. Goes (next f (value.Int (shift_right_unsigned x y) ∷ rest)))
effect p instr.Iand f = on_ints f.stack (λ x y rest. Goes (next f (value.Int (int_bit_and w32 x y) ∷ rest)))
effect p instr.Ior f = on_ints f.stack (λ x y rest. Goes (next f (value.Int (int_bit_or w32 x y) ∷ rest)))
effect p instr.Ixor f = on_ints f.stack (λ x y rest. Goes (next f (value.Int (int_bit_xor w32 x y) ∷ rest)))
effect p (instr.Ifeq to) f = on_int (top_int_of f.stack) (λ x rest. Goes (branch (int_eq x (pos 0)) f to rest))
effect p (instr.Ifne to) f = on_int (top_int_of f.stack) (λ x rest. Goes (branch (not (int_eq x (pos 0))) f to rest))
effect p (instr.Iflt to) f = on_int (top_int_of f.stack) (λ x rest. Goes (branch (int_lt x (pos 0)) f to rest))
effect p (instr.Ifge to) f = on_int (top_int_of f.stack) (λ x rest. Goes (branch (int_le (pos 0) x) f to rest))
effect p (instr.Ifgt to) f = on_int (top_int_of f.stack) (λ x rest. Goes (branch (int_lt (pos 0) x) f to rest))
effect p (instr.Ifle to) f = on_int (top_int_of f.stack) (λ x rest. Goes (branch (int_le x (pos 0)) f to rest))
effect p (instr.IfIcmpeq to) f = on_ints f.stack (λ x y rest. Goes (branch (int_eq x y) f to rest))
effect p (instr.IfIcmpne to) f = on_ints f.stack (λ x y rest. Goes (branch (not (int_eq x y)) f to rest))
effect p (instr.IfIcmplt to) f = on_ints f.stack (λ x y rest. Goes (branch (int_lt x y) f to rest))
effect p (instr.IfIcmpge to) f = on_ints f.stack (λ x y rest. Goes (branch (int_le y x) f to rest))
effect p (instr.IfIcmpgt to) f = on_ints f.stack (λ x y rest. Goes (branch (int_lt y x) f to rest))
effect p (instr.IfIcmple to) f = on_ints f.stack (λ x y rest. Goes (branch (int_le x y) f to rest))
effect p (instr.IfAcmpeq to) f = on_two f.stack (λ v w rest. Goes (branch (same_reference v w) f to rest))
effect p (instr.IfAcmpne to) f = on_two f.stack (λ v w rest. Goes (branch (not (same_reference v w)) f to rest))
effect p (instr.Ifnull to) f = on_any (top_of f.stack) (λ v rest. Goes (branch (is_null v) f to rest))
effect p (instr.Ifnonnull to) f = on_any (top_of f.stack) (λ v rest. Goes (branch (not (is_null v)) f to rest))
effect p (instr.Goto to) f = Goes (jump f to f.stack)
effect p instr.ArrayLength f = on_any (top_of f.stack) (λ v rest. as_array v (λ id len. Goes (next f (value.Int (cast_signed w32 len) ∷ rest))))
effect p instr.Out f = Goes (next f (value.Stream ∷ f.stack))
effect p (instr.GetStatic slot) f = Asks (op.GetStatic slot) 0
effect p (instr.PutStatic slot) f = on_any (top_of f.stack) (λ v rest. Asks (op.PutStatic slot v) 1)
effect p (instr.GetField class place) f = on_any (top_of f.stack) (λ v rest. as_object v (λ o. Asks (op.GetField o place) 1))
effect p (instr.PutField class place) f = on_two f.stack (λ v w rest. as_object v (λ o. Asks (op.PutField o place w) 2))
effect p instr.Iaload f = on_int (top_int_of f.stack) (λ i rest. on_any (top_of rest) (λ v rest'. as_array v (λ id len. as_index i len (λ n. Asks (op.ArrayLoad id n) 2))))
effect p instr.Iastore f =
    on_int (top_int_of f.stack) (λ x rest. on_int (top_int_of rest) (λ i rest'. on_any (top_of rest') (λ v rest''. as_array v (λ id len. as_index i len (λ n. Asks (op.ArrayStore id n x) 3)))))
effect p (instr.New class) f = Asks (op.New class) 0
effect p instr.NewArray f = on_int (top_int_of f.stack) (λ n rest. as_length n (λ len. Asks (op.NewArray len) 1))
effect p instr.MonitorEnter f = on_any (top_of f.stack) (λ v rest. as_lock v (λ l. Asks (op.Enter l) 1))
effect p instr.MonitorExit f = on_any (top_of f.stack) (λ v rest. as_lock v (λ l. Asks (op.Exit l) 1))
effect p instr.Athrow f = on_any (top_of f.stack) (λ v rest. as_object v (λ o. Fails (fault.Thrown o.class)))
effect p (instr.InvokeStatic m) f = calls_static m (method_at p m) f.stack
effect p (instr.InvokeVirtual m) f = calls_on m (method_at p m) f.stack
effect p (instr.InvokeSpecial m) f = calls_on m (method_at p m) f.stack
effect p (instr.RunOf class) f = on_any (top_of f.stack) (λ v rest. as_object v (λ o. calls_on (run_method p o.class) (method_at p (run_method p o.class)) f.stack))
effect p instr.Wait f = on_any (top_of f.stack) (λ v rest. as_lock v (λ l. Asks (op.Wait l) 1))
effect p instr.Notify f = on_any (top_of f.stack) (λ v rest. as_lock v (λ l. Asks (op.Notify l) 1))
effect p instr.NotifyAll f = on_any (top_of f.stack) (λ v rest. as_lock v (λ l. Asks (op.NotifyAll l) 1))
effect p instr.Start f = on_any (top_of f.stack) (λ v rest. as_object v (λ o. Asks (op.Start o) 1))
effect p instr.Join f = on_any (top_of f.stack) (λ v rest. as_object v (λ o. Asks (op.Join o.id) 1))
effect p instr.Yield f = Asks op.Yield 0
effect p (instr.Init class true) f = on_two f.stack (λ v w rest. as_instance v (Goes (next f rest)))
effect p (instr.Init class false) f = on_any (top_of f.stack) (λ v rest. as_instance v (Goes (next f rest)))
effect p instr.InitRunnable f = on_two f.stack (λ v w rest. as_object v (λ o. Asks (op.PutField o 0 w) 2))
effect p instr.Println f = on_any (top_of f.stack) (λ v rest. as_stream v (Asks (op.Print piece.Nothing true) 1))
effect p (instr.PrintInt newline) f = on_int (top_int_of f.stack) (λ n rest. on_any (top_of rest) (λ v rest'. as_stream v (Asks (op.Print (piece.Int n) newline) 2)))
effect p (instr.PrintText newline) f = on_two f.stack (λ v w rest. as_text w (λ text. as_stream v (Asks (op.Print text newline) 2)))
effect p instr.Return f = Gives None
effect p instr.Ireturn f = on_int (top_int_of f.stack) (λ n rest. Gives (Some (value.Int n)))
effect p instr.Areturn f = on_any (top_of f.stack) (λ v rest. Gives (Some v))

abbrev pub effect_at : PlainProgram → Option Instr → Frame → Action
effect_at p None f = Undefined
effect_at p (Some i) f = effect p i f

-- what the instruction at the frame's place does
abbrev pub action : PlainProgram → Frame → Action
action p f = effect_at p (instr_at p f.method f.place) f
