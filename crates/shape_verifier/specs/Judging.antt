-- What is wrong at an instruction that meets a shape, and where control goes on if nothing is.
use Rattle.std.specs.Prelude.{ℕ, ◌+◌, Bool, true, false, ◌||◌, if◌then◌else◌, nat_le, nat_lt, List, ◌∷◌, length, Option, Some, None, slice_get, unwrap_or, Result, Ok, Err}
use Rattle.vm_model.specs.declared.limits.TheConstants.{MOST_OPERANDS}
use Rattle.vm_model.specs.declared.value.Kind.{Kind}
use Rattle.vm_model.specs.declared.instr.Instr.{Instr}
use Rattle.vm_model.specs.declared.instr.Instr.TheVariants as instr
use Rattle.vm_model.specs.Program.{PlainMethod, PlainProgram, arity_of, method_at}
use Rattle.machine_model.specs.Shapes.{Shape, Flow, Next, Jump, Branch, Leaves, Refused, flow, is_int}
use Rattle.shape_lattice.specs.declared.fault.ShapeKind.{ShapeKind}
use Rattle.shape_lattice.specs.declared.fault.ShapeKind.TheVariants as fault
use Rattle.shape_lattice.specs.Locals.{is_missing}

-- ---- operands

abbrev pub arguments_of : Option PlainMethod → ℕ
arguments_of None = 0
arguments_of (Some m) = arity_of m

-- how many operands an instruction takes (JVMS SE 8 §6.5)
abbrev pub operands_of : PlainProgram → Instr → ℕ
operands_of p instr.Nop = 0
operands_of p (instr.Push n) = 0
operands_of p (instr.PushText text) = 0
operands_of p instr.PushNull = 0
operands_of p (instr.Iload i) = 0
operands_of p (instr.Istore i) = 1
operands_of p (instr.Aload i) = 0
operands_of p (instr.Astore i) = 1
operands_of p (instr.Iinc i by) = 0
operands_of p instr.Pop = 1
operands_of p instr.Pop2 = 2
operands_of p instr.Dup = 1
operands_of p instr.DupX1 = 2
operands_of p instr.DupX2 = 3
operands_of p instr.Dup2 = 2
operands_of p instr.Swap = 2
operands_of p instr.Iadd = 2
operands_of p instr.Isub = 2
operands_of p instr.Imul = 2
operands_of p instr.Ineg = 1
operands_of p instr.Idiv = 2
operands_of p instr.Irem = 2
operands_of p instr.Ishl = 2
operands_of p instr.Ishr = 2
operands_of p instr.Iushr = 2
operands_of p instr.Iand = 2
operands_of p instr.Ior = 2
operands_of p instr.Ixor = 2
operands_of p (instr.Ifeq to) = 1
operands_of p (instr.Ifne to) = 1
operands_of p (instr.Iflt to) = 1
operands_of p (instr.Ifge to) = 1
operands_of p (instr.Ifgt to) = 1
operands_of p (instr.Ifle to) = 1
operands_of p (instr.IfIcmpeq to) = 2
operands_of p (instr.IfIcmpne to) = 2
operands_of p (instr.IfIcmplt to) = 2
operands_of p (instr.IfIcmpge to) = 2
operands_of p (instr.IfIcmpgt to) = 2
operands_of p (instr.IfIcmple to) = 2
operands_of p (instr.IfAcmpeq to) = 2
operands_of p (instr.IfAcmpne to) = 2
operands_of p (instr.Ifnull to) = 1
operands_of p (instr.Ifnonnull to) = 1
operands_of p (instr.Goto to) = 0
operands_of p instr.ArrayLength = 1
operands_of p instr.Out = 0
operands_of p (instr.GetStatic slot) = 0
operands_of p (instr.PutStatic slot) = 1
operands_of p (instr.GetField class place) = 1
operands_of p (instr.PutField class place) = 2
operands_of p instr.Iaload = 2
operands_of p instr.Iastore = 3
operands_of p (instr.New class) = 0
operands_of p instr.NewArray = 1
operands_of p instr.MonitorEnter = 1
operands_of p instr.MonitorExit = 1
operands_of p instr.Athrow = 1
operands_of p (instr.InvokeStatic callee) = arguments_of (method_at p callee)
operands_of p (instr.InvokeVirtual callee) = arguments_of (method_at p callee)
operands_of p (instr.InvokeSpecial callee) = arguments_of (method_at p callee)
operands_of p (instr.RunOf class) = 1
operands_of p instr.Wait = 1
operands_of p instr.Notify = 1
operands_of p instr.NotifyAll = 1
operands_of p instr.Start = 1
operands_of p instr.Join = 1
operands_of p instr.Yield = 0
operands_of p (instr.Init class true) = 2
operands_of p (instr.Init class false) = 1
operands_of p instr.InitRunnable = 2
operands_of p instr.Println = 1
operands_of p (instr.PrintInt newline) = 2
operands_of p (instr.PrintText newline) = 2
operands_of p instr.Return = 0
operands_of p instr.Ireturn = 1
operands_of p instr.Areturn = 1

-- ---- why an instruction is refused

-- the instruction reads a local that isn't set, or that the method doesn't have
abbrev pub is_unset : Instr → List (Option Kind) → Bool
is_unset (instr.Iload i) locals = is_missing (slice_get locals i)
is_unset (instr.Aload i) locals = is_missing (slice_get locals i)
is_unset (instr.Iinc i by) locals = is_missing (slice_get locals i)
is_unset _ locals = false

-- a store whose operand is of the right kind is refused since the method has no such local
abbrev pub refused_operand : Instr → List Kind → ShapeKind
refused_operand (instr.Istore i) (k ∷ rest) = if is_int k then fault.Limit else fault.Kind
refused_operand (instr.Astore i) (k ∷ rest) = if is_int k then fault.Kind else fault.Limit
refused_operand _ stack = fault.Kind

abbrev pub refusal : PlainProgram → Instr → Shape → ShapeKind
refusal p i s =
    if nat_lt (length s.stack) (operands_of p i) then fault.Depth
    else if is_unset i s.locals then fault.Unset
    else refused_operand i s.stack

-- ---- where control goes on

abbrev pub stack_limit : PlainMethod → ℕ
stack_limit m = unwrap_or m.max_stack MOST_OPERANDS

abbrev pub is_past : PlainMethod → ℕ → Bool
is_past m place = nat_le (length m.code) place

-- a stack that is too deep is Limit, and a follower that is no instruction of the method FallsOff
abbrev pub going : PlainMethod → Shape → Bool → Flow → Result Flow ShapeKind
going m s falls_off f =
    if nat_lt (stack_limit m) (length s.stack) then Err fault.Limit
    else if falls_off then Err fault.FallsOff
    else Ok f

abbrev pub bounded : PlainMethod → ℕ → ShapeKind → Flow → Result Flow ShapeKind
bounded m place why (Next s) = going m s (is_past m (place + 1)) (Next s)
bounded m place why (Jump to s) = going m s (is_past m to) (Jump to s)
bounded m place why (Branch to s) = going m s (is_past m (place + 1) || is_past m to) (Branch to s)
bounded m place why Leaves = Ok Leaves
bounded m place why Refused = Err why

-- What the instruction at a place of a method does to a shape, or its fault: Depth, Unset, Kind, Limit and FallsOff are
-- tested in this order.
abbrev pub judged : PlainProgram → ℕ → PlainMethod → ℕ → Instr → Shape → Result Flow ShapeKind
judged p n m place i s = bounded m place (refusal p i s) (flow p n i s)
