-- What each mnemonic becomes (JVMS SE 8 §6.5), and the members of built-in classes (Java SE 8 API).
use Rattle.std.specs.Prelude.{ℕ, ℤ, true, false, List, [], ◌∷◌, codes, bytes_eq, unsigned_abs, Option}
use Rattle.std.specs.Map.{lookup}
use Rattle.vm_model.specs.declared.instr.Instr.{Instr}
use Rattle.vm_model.specs.declared.instr.Instr.TheVariants as instr

-- what a table says of a word
abbrev pub said_of : {A : Type 0} → List ℕ → List (List ℕ × A) → Option A
said_of word table = lookup (bytes_eq word) table

-- ---- instructions

unfoldable pub without_operands : List (List ℕ × Instr)
without_operands =
    (codes "nop", instr.Nop) ∷
    (codes "aconst_null", instr.PushNull) ∷
    (codes "pop", instr.Pop) ∷
    (codes "pop2", instr.Pop2) ∷
    (codes "dup", instr.Dup) ∷
    (codes "dup_x1", instr.DupX1) ∷
    (codes "dup_x2", instr.DupX2) ∷
    (codes "dup2", instr.Dup2) ∷
    (codes "swap", instr.Swap) ∷
    (codes "iadd", instr.Iadd) ∷
    (codes "isub", instr.Isub) ∷
    (codes "imul", instr.Imul) ∷
    (codes "ineg", instr.Ineg) ∷
    (codes "idiv", instr.Idiv) ∷
    (codes "irem", instr.Irem) ∷
    (codes "ishl", instr.Ishl) ∷
    (codes "ishr", instr.Ishr) ∷
    (codes "iushr", instr.Iushr) ∷
    (codes "iand", instr.Iand) ∷
    (codes "ior", instr.Ior) ∷
    (codes "ixor", instr.Ixor) ∷
    (codes "arraylength", instr.ArrayLength) ∷
    (codes "iaload", instr.Iaload) ∷
    (codes "iastore", instr.Iastore) ∷
    (codes "monitorenter", instr.MonitorEnter) ∷
    (codes "monitorexit", instr.MonitorExit) ∷
    (codes "athrow", instr.Athrow) ∷
    (codes "return", instr.Return) ∷
    (codes "ireturn", instr.Ireturn) ∷
    (codes "areturn", instr.Areturn) ∷
    []

abbrev pub with_number : ℤ → List (List ℕ × Instr)
with_number n =
    (codes "ldc", instr.Push n) ∷
    (codes "iload", instr.Iload (unsigned_abs n)) ∷
    (codes "istore", instr.Istore (unsigned_abs n)) ∷
    (codes "aload", instr.Aload (unsigned_abs n)) ∷
    (codes "astore", instr.Astore (unsigned_abs n)) ∷
    []

-- to the instruction of this number
unfoldable pub jumps : ℕ → List (List ℕ × Instr)
jumps to =
    (codes "ifeq", instr.Ifeq to) ∷
    (codes "ifne", instr.Ifne to) ∷
    (codes "iflt", instr.Iflt to) ∷
    (codes "ifge", instr.Ifge to) ∷
    (codes "ifgt", instr.Ifgt to) ∷
    (codes "ifle", instr.Ifle to) ∷
    (codes "if_icmpeq", instr.IfIcmpeq to) ∷
    (codes "if_icmpne", instr.IfIcmpne to) ∷
    (codes "if_icmplt", instr.IfIcmplt to) ∷
    (codes "if_icmpge", instr.IfIcmpge to) ∷
    (codes "if_icmpgt", instr.IfIcmpgt to) ∷
    (codes "if_icmple", instr.IfIcmple to) ∷
    (codes "if_acmpeq", instr.IfAcmpeq to) ∷
    (codes "if_acmpne", instr.IfAcmpne to) ∷
    (codes "ifnull", instr.Ifnull to) ∷
    (codes "ifnonnull", instr.Ifnonnull to) ∷
    (codes "goto", instr.Goto to) ∷
    []

-- calls of the method of this number, which isn't static
abbrev pub instance_calls : ℕ → List (List ℕ × Instr)
instance_calls n = (codes "invokevirtual", instr.InvokeVirtual n) ∷ (codes "invokespecial", instr.InvokeSpecial n) ∷ []

-- accesses to the static of this number
abbrev pub static_accesses : ℕ → List (List ℕ × Instr)
static_accesses n = (codes "getstatic", instr.GetStatic n) ∷ (codes "putstatic", instr.PutStatic n) ∷ []

-- accesses to a place in an object of this class
abbrev pub field_accesses : ℕ → ℕ → List (List ℕ × Instr)
field_accesses class place = (codes "getfield", instr.GetField class place) ∷ (codes "putfield", instr.PutField class place) ∷ []

-- ---- members of built-in classes

-- of every class but String and PrintStream
abbrev pub lock_members : List (List ℕ × Instr)
lock_members = (codes "wait()V", instr.Wait) ∷ (codes "notify()V", instr.Notify) ∷ (codes "notifyAll()V", instr.NotifyAll) ∷ []

-- of Thread and the classes that extend it
abbrev pub thread_members : List (List ℕ × Instr)
thread_members = (codes "start()V", instr.Start) ∷ (codes "join()V", instr.Join) ∷ []

-- of PrintStream
abbrev pub stream_members : List (List ℕ × Instr)
stream_members =
    (codes "println()V", instr.Println) ∷
    (codes "println(I)V", instr.PrintInt true) ∷
    (codes "println(Ljava/lang/String;)V", instr.PrintText true) ∷
    (codes "print(I)V", instr.PrintInt false) ∷
    (codes "print(Ljava/lang/String;)V", instr.PrintText false) ∷
    []
