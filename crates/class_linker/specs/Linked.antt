-- Instructions with numbers in place of names.
use Rattle.std.specs.Prelude.{ℕ, Bool, ◌||◌, if◌then◌else◌, nat_lt, List, [], ◌∷◌, length, codes, bytes_eq, is_some, ℤ, unsigned_abs, Option, Some, None, Result, Ok, Err}
use Rattle.vm_model.specs.declared.limits.TheConstants.{MOST_TEXT_CONSTANT_BYTES}
use Rattle.vm_model.specs.declared.instr.Instr.{Instr}
use Rattle.vm_model.specs.declared.instr.Instr.TheVariants as instr
use Rattle.vm_model.specs.Failures.{◌>>=◌, or_fault}
use Rattle.jasmin_lines.specs.declared.class_text.Operand.{Operand}
use Rattle.jasmin_lines.specs.declared.class_text.Operand.TheVariants as operand
use Rattle.jasmin_lines.specs.Plain.{PlainLineText}
use Rattle.jasmin_lines.specs.Tables.{row_of}
use Rattle.name_resolver.specs.declared.fault.LinkKind.{LinkKind}
use Rattle.name_resolver.specs.declared.fault.LinkKind.TheVariants.{UnknownClass, UnknownLabel, TooMany, OutOfProfile}
use Rattle.name_resolver.specs.declared.names.Names.{Names}
use Rattle.name_resolver.specs.Index.{Rows, value_of}
use Rattle.built_in_classes.specs.Classes.{has_objects}
use Rattle.name_resolver.specs.Descriptors.{class_of}
use Rattle.name_resolver.specs.Calls.{call, field}

-- instructions without operands
unfoldable pub alone : List (List ℕ × Instr)
alone =
    (codes "nop", instr.Nop) ∷
    (codes "aconst_null", instr.PushNull) ∷
    (codes "pop", instr.Pop) ∷
    (codes "pop2", instr.Pop2) ∷
    (codes "dup", instr.Dup) ∷
    (codes "dup_x1", instr.DupX1) ∷
    (codes "dup_x2", instr.DupX2) ∷
    (codes "dup2", instr.Dup2) ∷
    (codes "swap", instr.Swap) ∷
    (codes "iadd", instr.Iadd) ∷
    (codes "isub", instr.Isub) ∷
    (codes "imul", instr.Imul) ∷
    (codes "ineg", instr.Ineg) ∷
    (codes "idiv", instr.Idiv) ∷
    (codes "irem", instr.Irem) ∷
    (codes "ishl", instr.Ishl) ∷
    (codes "ishr", instr.Ishr) ∷
    (codes "iushr", instr.Iushr) ∷
    (codes "iand", instr.Iand) ∷
    (codes "ior", instr.Ior) ∷
    (codes "ixor", instr.Ixor) ∷
    (codes "arraylength", instr.ArrayLength) ∷
    (codes "iaload", instr.Iaload) ∷
    (codes "iastore", instr.Iastore) ∷
    (codes "monitorenter", instr.MonitorEnter) ∷
    (codes "monitorexit", instr.MonitorExit) ∷
    (codes "athrow", instr.Athrow) ∷
    (codes "return", instr.Return) ∷
    (codes "ireturn", instr.Ireturn) ∷
    (codes "areturn", instr.Areturn) ∷
    []

-- jumps to a place
abbrev pub int_jump : List ℕ → ℕ → Option Instr
int_jump word to =
    if bytes_eq word (codes "ifeq") then Some (instr.Ifeq to) else
    if bytes_eq word (codes "ifne") then Some (instr.Ifne to) else
    if bytes_eq word (codes "iflt") then Some (instr.Iflt to) else
    if bytes_eq word (codes "ifge") then Some (instr.Ifge to) else
    if bytes_eq word (codes "ifgt") then Some (instr.Ifgt to) else
    if bytes_eq word (codes "ifle") then Some (instr.Ifle to) else None

abbrev pub pair_jump : List ℕ → ℕ → Option Instr
pair_jump word to =
    if bytes_eq word (codes "if_icmpeq") then Some (instr.IfIcmpeq to) else
    if bytes_eq word (codes "if_icmpne") then Some (instr.IfIcmpne to) else
    if bytes_eq word (codes "if_icmplt") then Some (instr.IfIcmplt to) else
    if bytes_eq word (codes "if_icmpge") then Some (instr.IfIcmpge to) else
    if bytes_eq word (codes "if_icmpgt") then Some (instr.IfIcmpgt to) else
    if bytes_eq word (codes "if_icmple") then Some (instr.IfIcmple to) else None

abbrev pub other_jump : List ℕ → ℕ → Option Instr
other_jump word to =
    if bytes_eq word (codes "if_acmpeq") then Some (instr.IfAcmpeq to) else
    if bytes_eq word (codes "if_acmpne") then Some (instr.IfAcmpne to) else
    if bytes_eq word (codes "ifnull") then Some (instr.Ifnull to) else
    if bytes_eq word (codes "ifnonnull") then Some (instr.Ifnonnull to) else
    if bytes_eq word (codes "goto") then Some (instr.Goto to) else None

abbrev pub or_else : Option Instr → Option Instr → Option Instr
or_else None rest = rest
or_else (Some i) rest = Some i

abbrev pub jump_to : List ℕ → ℕ → Option Instr
jump_to word to = or_else (int_jump word to) (or_else (pair_jump word to) (other_jump word to))

-- ---- by the operands

-- without operands an instruction is one of the table, or out of the profile
abbrev pub plain : List ℕ → Result Instr LinkKind
plain word = or_fault OutOfProfile (row_of word alone)

-- with a number
abbrev pub numbered : List ℕ → ℤ → Result Instr LinkKind
numbered word n =
    if bytes_eq word (codes "ldc") then Ok (instr.Push n) else
    if bytes_eq word (codes "iload") then Ok (instr.Iload (unsigned_abs n)) else
    if bytes_eq word (codes "istore") then Ok (instr.Istore (unsigned_abs n)) else
    if bytes_eq word (codes "aload") then Ok (instr.Aload (unsigned_abs n)) else
    if bytes_eq word (codes "astore") then Ok (instr.Astore (unsigned_abs n)) else Err OutOfProfile

-- a text constant has at most 200 bytes
unfoldable pub texted : Rows → List ℕ → Result Instr LinkKind
texted texts text = if nat_lt MOST_TEXT_CONSTANT_BYTES (length text) then Err TooMany else (or_fault OutOfProfile (value_of text texts) >>= λ n. Ok (instr.PushText n))

unfoldable pub made : Names → List ℕ → Result Instr LinkKind
made names class = or_fault UnknownClass (class_of names.classes class) >>= λ n. if has_objects n then Ok (instr.New n) else Err OutOfProfile

abbrev pub is_jump : List ℕ → Bool
is_jump word = is_some (jump_to word 0)

unfoldable pub jumped : Rows → List ℕ → List ℕ → Result Instr LinkKind
jumped labels word label = or_fault UnknownLabel (value_of label labels) >>= λ to. or_fault OutOfProfile (jump_to word to)

abbrev pub is_call : List ℕ → Bool
is_call word = bytes_eq word (codes "invokestatic") || bytes_eq word (codes "invokevirtual") || bytes_eq word (codes "invokespecial")

-- with a word
abbrev pub worded : Names → ℕ → Rows → List ℕ → List ℕ → Result Instr LinkKind
worded names thread_run labels word x =
    if bytes_eq word (codes "new") then made names x else
    if bytes_eq word (codes "newarray") then Ok instr.NewArray else
    if is_call word then call names thread_run word x else jumped labels word x

-- an instruction, or the least fault of its line
abbrev pub linked_by : Names → ℕ → Rows → Rows → List ℕ → List Operand → Result Instr LinkKind
linked_by names thread_run texts labels word [] = plain word
linked_by names thread_run texts labels word (operand.Number n ∷ []) = numbered word n
linked_by names thread_run texts labels word (operand.Text text ∷ []) = texted texts text
linked_by names thread_run texts labels word (operand.Word x ∷ []) = worded names thread_run labels word x
linked_by names thread_run texts labels word (operand.Number n ∷ operand.Number by ∷ []) = Ok (instr.Iinc (unsigned_abs n) by)
linked_by names thread_run texts labels word (operand.Word x ∷ operand.Word desc ∷ []) = field names word x desc
linked_by names thread_run texts labels word _ = Err OutOfProfile

abbrev pub linked : Names → ℕ → Rows → Rows → PlainLineText → Result Instr LinkKind
linked names thread_run texts labels l = linked_by names thread_run texts labels l.word l.operands
