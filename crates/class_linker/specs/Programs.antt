-- The program of classes whose names are known.
use Rattle.std.specs.Prelude.{ℕ, Bool, false, not, if◌then◌else◌, ◌==◌, List, [], ◌∷◌, ◌++◌, length, map, codes, ℤ, pos, Option, None, unwrap_or, Result, Ok, Err}
use Rattle.vm_model.specs.Program.{PlainClass, PlainMethod}
use Rattle.vm_model.specs.declared.instr.Instr.{Instr}
use Rattle.vm_model.specs.declared.instr.Instr.TheVariants as instr
use Rattle.vm_model.specs.declared.program.Field.{Field}
use Rattle.vm_model.specs.declared.program.StaticSlot.{StaticSlot}
use Rattle.vm_model.specs.declared.value.Kind.{Kind}
use Rattle.vm_model.specs.declared.value.Kind.TheVariants as kind
use Rattle.vm_model.specs.declared.value.Value.{Value}
use Rattle.vm_model.specs.declared.value.Value.TheVariants as value
use Rattle.built_in_classes.specs.declared.numbers.TheConstants.{RUNNABLE, THREAD}
use Rattle.jasmin_lines.specs.Plain.{PlainClassText, PlainFieldText, PlainMethodText, PlainLineText}
use Rattle.name_resolver.specs.declared.fault.LinkKind.{LinkKind}
use Rattle.name_resolver.specs.declared.names.Names.{Names}
use Rattle.name_resolver.specs.Index.{Rows, value_of}
use Rattle.name_resolver.specs.Words.{has, method_key}
use Rattle.name_resolver.specs.Descriptors.{PlainSignature, type_of, method_signature, kind_of, kind_given}
use Rattle.name_resolver.specs.Names.{is_thread, is_static, next}
use Rattle.class_linker.specs.Linked.{linked}
use Rattle.class_linker.specs.Bodies.{labels_of}

-- ---- fields

abbrev pub field_kind : Names → PlainFieldText → Kind
field_kind names f = kind_of (type_of names.classes f.desc)

-- what a static holds at the beginning: the int that the text says, 0, or null
abbrev pub start_of : Kind → Option ℤ → Value
start_of kind.Int start = value.Int (unwrap_or start (pos 0))
start_of kind.Null start = value.Null
start_of (kind.Ref class) start = value.Null
start_of kind.Arr start = value.Null
start_of kind.Args start = value.Null

abbrev pub static_slot : Names → ℕ → PlainFieldText → StaticSlot
static_slot names class f = record { class = class; name = f.name; kind = field_kind names f; start = start_of (field_kind names f) f.value }

unfoldable pub slots_in : Names → ℕ → List PlainFieldText → List StaticSlot
slots_in names class [] = []
slots_in names class (f ∷ fs) = if is_static f.flags then static_slot names class f ∷ slots_in names class fs else slots_in names class fs

unfoldable pub slots_of : Names → ℕ → List PlainClassText → List StaticSlot
slots_of names n [] = []
slots_of names n (c ∷ cs) = slots_in names n c.fields ++ slots_of names (next n) cs

unfoldable pub fields_of : Names → List PlainFieldText → List Field
fields_of names [] = []
fields_of names (f ∷ fs) = if is_static f.flags then fields_of names fs else record { name = f.name; kind = field_kind names f } ∷ fields_of names fs

-- ---- classes

abbrev pub is_runnable : PlainClassText → Bool
is_runnable c = not (length c.implements == 0)

abbrev pub linked_class : Names → PlainClassText → PlainClass
linked_class names c = record {
  name = c.name;
  is_thread = is_thread c;
  is_runnable = is_runnable c;
  fields = fields_of names c.fields;
  run = value_of (method_key c.name (codes "run") (codes "()V")) names.instance_methods;
}

-- ---- methods

abbrev pub kept : Result Instr LinkKind → List Instr
kept (Ok i) = i ∷ []
kept (Err kind) = []

unfoldable pub code_of : Names → ℕ → Rows → Rows → List PlainLineText → List Instr
code_of names thread_run texts labels [] = []
code_of names thread_run texts labels (l ∷ ls) = kept (linked names thread_run texts labels l) ++ code_of names thread_run texts labels ls

abbrev pub is_synchronized : List (List ℕ) → Bool
is_synchronized flags = has (codes "synchronized") flags

abbrev pub signed : PlainMethodText → ℕ → PlainSignature → List Instr → PlainMethod
signed m class s code = record {
  class = class;
  name = m.name;
  params = map kind_of s.params;
  gives = kind_given s.gives;
  is_static = is_static m.flags;
  is_synchronized = is_synchronized m.flags;
  max_stack = m.stack;
  max_locals = m.locals;
  code = code;
}

abbrev pub linked_method : Names → ℕ → Rows → ℕ → PlainMethodText → PlainMethod
linked_method names thread_run texts class m =
    signed m class (method_signature names.classes m.name m.desc) (code_of names thread_run texts (labels_of m) m.lines)

unfoldable pub methods_in : Names → ℕ → Rows → ℕ → List PlainMethodText → List PlainMethod
methods_in names thread_run texts class [] = []
methods_in names thread_run texts class (m ∷ ms) = linked_method names thread_run texts class m ∷ methods_in names thread_run texts class ms

unfoldable pub methods_of : Names → ℕ → Rows → ℕ → List PlainClassText → List PlainMethod
methods_of names thread_run texts n [] = []
methods_of names thread_run texts n (c ∷ cs) = methods_in names thread_run texts n c.methods ++ methods_of names thread_run texts (next n) cs

-- Thread's own run calls that of its target, if it has one (class library, `Thread.run`)
abbrev pub thread_code : List Instr
thread_code =
    instr.Aload 0 ∷ instr.GetField THREAD 0 ∷ instr.Astore 1 ∷ instr.Aload 1 ∷ instr.Ifnull 7 ∷ instr.Aload 1 ∷ instr.RunOf RUNNABLE ∷ instr.Return ∷ []

abbrev pub thread_method : PlainMethod
thread_method = record {
  class = THREAD;
  name = codes "run";
  params = [];
  gives = None;
  is_static = false;
  is_synchronized = false;
  max_stack = None;
  max_locals = None;
  code = thread_code;
}
