-- Families of instructions, of which each has its own function in the code. Each instruction is of one.
use Rattle.std.specs.Prelude.{Bool, true, false}
use Rattle.vm_model.specs.declared.instr.Instr.{Instr}
use Rattle.vm_model.specs.declared.instr.Instr.TheVariants as instr

-- a constant
abbrev pub is_constant : Instr → Bool
is_constant (instr.Push n) = true
is_constant (instr.PushText text) = true
is_constant instr.PushNull = true
is_constant instr.Out = true
is_constant _ = false

-- a local is read or written
abbrev pub is_of_local : Instr → Bool
is_of_local (instr.Iload i) = true
is_of_local (instr.Istore i) = true
is_of_local (instr.Aload i) = true
is_of_local (instr.Astore i) = true
is_of_local (instr.Iinc i by) = true
is_of_local _ = false

-- the order of operands, or nothing
abbrev pub is_order : Instr → Bool
is_order instr.Nop = true
is_order instr.Pop = true
is_order instr.Pop2 = true
is_order instr.Dup = true
is_order instr.DupX1 = true
is_order instr.DupX2 = true
is_order instr.Dup2 = true
is_order instr.Swap = true
is_order _ = false

-- a number made of two
abbrev pub is_of_two_numbers : Instr → Bool
is_of_two_numbers instr.Iadd = true
is_of_two_numbers instr.Isub = true
is_of_two_numbers instr.Imul = true
is_of_two_numbers instr.Idiv = true
is_of_two_numbers instr.Irem = true
is_of_two_numbers instr.Ishl = true
is_of_two_numbers instr.Ishr = true
is_of_two_numbers instr.Iushr = true
is_of_two_numbers instr.Iand = true
is_of_two_numbers instr.Ior = true
is_of_two_numbers instr.Ixor = true
is_of_two_numbers _ = false

-- a number made of one, or of an array
abbrev pub is_of_one : Instr → Bool
is_of_one instr.Ineg = true
is_of_one instr.ArrayLength = true
is_of_one _ = false

-- a jump by one number
abbrev pub is_jump_of_one : Instr → Bool
is_jump_of_one (instr.Ifeq to) = true
is_jump_of_one (instr.Ifne to) = true
is_jump_of_one (instr.Iflt to) = true
is_jump_of_one (instr.Ifge to) = true
is_jump_of_one (instr.Ifgt to) = true
is_jump_of_one (instr.Ifle to) = true
is_jump_of_one _ = false

-- a jump by two numbers
abbrev pub is_jump_of_two : Instr → Bool
is_jump_of_two (instr.IfIcmpeq to) = true
is_jump_of_two (instr.IfIcmpne to) = true
is_jump_of_two (instr.IfIcmplt to) = true
is_jump_of_two (instr.IfIcmpge to) = true
is_jump_of_two (instr.IfIcmpgt to) = true
is_jump_of_two (instr.IfIcmple to) = true
is_jump_of_two _ = false

-- a jump by references, or always
abbrev pub is_jump_of_references : Instr → Bool
is_jump_of_references (instr.IfAcmpeq to) = true
is_jump_of_references (instr.IfAcmpne to) = true
is_jump_of_references (instr.Ifnull to) = true
is_jump_of_references (instr.Ifnonnull to) = true
is_jump_of_references (instr.Goto to) = true
is_jump_of_references _ = false

-- a static, or a new object
abbrev pub is_of_static : Instr → Bool
is_of_static (instr.GetStatic slot) = true
is_of_static (instr.PutStatic slot) = true
is_of_static (instr.New class) = true
is_of_static _ = false

-- a field
abbrev pub is_of_field : Instr → Bool
is_of_field (instr.GetField class place) = true
is_of_field (instr.PutField class place) = true
is_of_field _ = false

-- an array
abbrev pub is_of_array : Instr → Bool
is_of_array instr.Iaload = true
is_of_array instr.Iastore = true
is_of_array instr.NewArray = true
is_of_array _ = false

-- a monitor
abbrev pub is_of_monitor : Instr → Bool
is_of_monitor instr.MonitorEnter = true
is_of_monitor instr.MonitorExit = true
is_of_monitor instr.Wait = true
is_of_monitor instr.Notify = true
is_of_monitor instr.NotifyAll = true
is_of_monitor _ = false

-- a call of a method
abbrev pub is_call : Instr → Bool
is_call (instr.InvokeStatic m) = true
is_call (instr.InvokeVirtual m) = true
is_call (instr.InvokeSpecial m) = true
is_call (instr.RunOf m) = true
is_call _ = false

-- a return or a throw
abbrev pub is_return : Instr → Bool
is_return instr.Return = true
is_return instr.Ireturn = true
is_return instr.Areturn = true
is_return instr.Athrow = true
is_return _ = false

-- a method of a thread
abbrev pub is_of_thread : Instr → Bool
is_of_thread instr.Start = true
is_of_thread instr.Join = true
is_of_thread instr.Yield = true
is_of_thread _ = false

-- a constructor of the class library
abbrev pub is_constructor : Instr → Bool
is_constructor (instr.Init class text) = true
is_constructor instr.InitRunnable = true
is_constructor _ = false

-- a print
abbrev pub is_print : Instr → Bool
is_print instr.Println = true
is_print (instr.PrintInt newline) = true
is_print (instr.PrintText newline) = true
is_print _ = false
