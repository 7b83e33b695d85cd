-- Members of classes, as instructions name them.
use Rattle.std.specs.Prelude.{ℕ, Bool, not, ◌&&◌, ◌||◌, if◌then◌else◌, ◌==◌, List, ◌++◌, codes, bytes_eq, is_some, Option, Some, None, Result, Ok, Err}
use Rattle.vm_model.specs.declared.instr.Instr.{Instr}
use Rattle.vm_model.specs.declared.instr.Instr.TheVariants as instr
use Rattle.vm_model.specs.Failures.{◌>>=◌, or_fault}
use Rattle.built_in_classes.specs.declared.numbers.TheConstants.{THREAD}
use Rattle.name_resolver.specs.declared.calls.Target.{Target}
use Rattle.name_resolver.specs.declared.fault.LinkKind.{LinkKind}
use Rattle.name_resolver.specs.declared.fault.LinkKind.TheVariants.{UnknownClass, UnknownField, UnknownMethod}
use Rattle.name_resolver.specs.declared.names.Names.{Names}
use Rattle.name_resolver.specs.Index.{value_of}
use Rattle.name_resolver.specs.Words.{described, member, field_key, is_init}
use Rattle.name_resolver.specs.BuiltIn.{instance_member, constructor, first_some}
use Rattle.name_resolver.specs.Descriptors.{class_of, type_of, method_signature, in_signature, is_unknown}

-- ---- methods

-- Thread itself, and the classes of the text that extend it
abbrev pub is_thread_class : Names → List ℕ → Bool
is_thread_class names class = bytes_eq class (codes "java/lang/Thread") || is_some (value_of class names.threads)

abbrev pub static_member : Target → Option Instr
static_member t = if bytes_eq t.member (codes "yield()V") && t.is_thread then Some instr.Yield else None

-- `invokestatic`
abbrev pub static_call : Names → Target → Option ℕ → Option Instr
static_call names t (Some n) = Some (instr.InvokeStatic n)
static_call names t None = if is_some (value_of t.word names.instance_methods) then None else static_member t

abbrev pub is_run : Target → Bool
is_run t = bytes_eq t.member (codes "run()V") && t.is_thread

-- the method that Thread itself has, added after all others; through Thread the object's class decides
abbrev pub virtual_run : ℕ → Target → Instr
virtual_run thread_run t = if t.class == THREAD then instr.RunOf THREAD else instr.InvokeVirtual thread_run

abbrev pub virtual_member : ℕ → Target → Option Instr
virtual_member thread_run t = if is_run t then Some (virtual_run thread_run t) else instance_member t.class t.is_thread t.member

-- `invokevirtual`, which calls no constructor
abbrev pub virtual_call : Names → ℕ → Target → Option ℕ → Option Instr
virtual_call names thread_run t (Some n) = if t.is_init then None else Some (instr.InvokeVirtual n)
virtual_call names thread_run t None = if is_some (value_of t.word names.functions) then None else virtual_member thread_run t

abbrev pub special_member : ℕ → Target → Option Instr
special_member thread_run t =
    if is_run t then Some (instr.InvokeSpecial thread_run) else first_some (instance_member t.class t.is_thread t.member) (constructor t.class t.member)

-- `invokespecial`
abbrev pub special_call : Names → ℕ → Target → Option ℕ → Option Instr
special_call names thread_run t (Some n) = Some (instr.InvokeSpecial n)
special_call names thread_run t None = if is_some (value_of t.word names.functions) then None else special_member thread_run t

abbrev pub call_by : Names → ℕ → List ℕ → Target → Option Instr
call_by names thread_run mnemonic t =
    if bytes_eq mnemonic (codes "invokestatic") then static_call names t (value_of t.word names.functions) else
    if bytes_eq mnemonic (codes "invokevirtual") then virtual_call names thread_run t (value_of t.word names.instance_methods) else
    special_call names thread_run t (value_of t.word names.instance_methods)

abbrev pub known : Bool → Result (Unit {0}) LinkKind
known is_unknown = if is_unknown then Err UnknownClass else Ok tt

abbrev pub target : Names → List ℕ → List ℕ → List ℕ → List ℕ → ℕ → Target
target names word class name desc number = record {
  word = word;
  member = name ++ desc;
  class = number;
  is_thread = is_thread_class names class;
  is_init = is_init name;
}

abbrev pub class_part : List ℕ → List ℕ
class_part word = (member (described word).0).0

abbrev pub name_part : List ℕ → List ℕ
name_part word = (member (described word).0).1

abbrev pub desc_part : List ℕ → List ℕ
desc_part word = (described word).1

abbrev pub parts : List ℕ → List ℕ × List ℕ × List ℕ
parts word = (class_part word, name_part word, desc_part word)

-- the target of a call, whose class and classes in the descriptor are known
unfoldable pub target_of : Names → List ℕ → Result Target LinkKind
target_of names word = do
  number ← or_fault UnknownClass (class_of names.classes (class_part word))
  checked ← known (in_signature is_unknown (method_signature names.classes (name_part word) (desc_part word)))
  Ok (target names word (class_part word) (name_part word) (desc_part word) number)

unfoldable pub call : Names → ℕ → List ℕ → List ℕ → Result Instr LinkKind
call names thread_run mnemonic word = do
  t ← target_of names word
  or_fault UnknownMethod (call_by names thread_run mnemonic t)

-- ---- fields

abbrev pub is_out : List ℕ → List ℕ → Bool
is_out word desc = bytes_eq word (codes "java/lang/System/out") && bytes_eq desc (codes "Ljava/io/PrintStream;")

-- `getstatic`: a field of the text comes before the built-in one, also where it isn't static
abbrev pub read_static : Bool → Bool → Option ℕ → Option Instr
read_static is_out is_place (Some n) = Some (instr.GetStatic n)
read_static is_out is_place None = if is_out && not is_place then Some instr.Out else None

abbrev pub to_slot : (ℕ → Instr) → Option ℕ → Option Instr
to_slot make None = None
to_slot make (Some n) = Some (make n)

abbrev pub field_by : Names → List ℕ → List ℕ → List ℕ → ℕ → Option Instr
field_by names mnemonic word desc class =
    if bytes_eq mnemonic (codes "getstatic") then read_static (is_out word desc) (is_some (value_of (field_key word desc) names.places)) (value_of (field_key word desc) names.statics) else
    if bytes_eq mnemonic (codes "putstatic") then to_slot instr.PutStatic (value_of (field_key word desc) names.statics) else
    if bytes_eq mnemonic (codes "getfield") then to_slot (instr.GetField class) (value_of (field_key word desc) names.places) else
    to_slot (instr.PutField class) (value_of (field_key word desc) names.places)

-- the class of a field; where the text has no class System, that is one for its field out alone, and no number is asked for
abbrev pub class_or : Bool → Option ℕ → Result ℕ LinkKind
class_or is_out (Some n) = Ok n
class_or is_out None = if is_out then Ok 0 else Err UnknownClass

abbrev pub field_class : Names → List ℕ → List ℕ → Result ℕ LinkKind
field_class names word desc = class_or (is_out word desc) (class_of names.classes (member word).0)

unfoldable pub field : Names → List ℕ → List ℕ → List ℕ → Result Instr LinkKind
field names mnemonic word desc = do
  class ← field_class names word desc
  checked ← known (is_unknown (type_of names.classes desc))
  or_fault UnknownField (field_by names mnemonic word desc class)
