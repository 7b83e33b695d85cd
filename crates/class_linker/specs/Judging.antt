-- What is wrong with declarations: of each line the least fault, and of all lines the first.
use Rattle.std.specs.Prelude.{ℕ, ◌+◌, Bool, true, false, not, ◌&&◌, ◌||◌, if◌then◌else◌, ◌==◌, nat_le, nat_lt, List, [], ◌∷◌, ◌++◌, length, codes, bytes_eq, is_some, Option, Some, None}
use Rattle.std.specs.List.{list_any}
use Rattle.vm_model.specs.declared.limits.TheConstants.{FIRST_USER_CLASS, MOST_CLASSES, MOST_FIELDS, MOST_LOCALS, MOST_METHODS, MOST_OPERANDS, MOST_PARAMETERS, MOST_STATICS}
use Rattle.vm_model.specs.declared.value.Kind.TheVariants as kind
use Rattle.jasmin_lines.specs.declared.class_text.NameAt.{NameAt}
use Rattle.jasmin_lines.specs.Plain.{PlainClassText, PlainFieldText, PlainMethodText}
use Rattle.name_resolver.specs.declared.descriptors.Typed.{Typed}
use Rattle.name_resolver.specs.declared.descriptors.Typed.TheVariants as typed
use Rattle.name_resolver.specs.declared.fault.LinkKind.{LinkKind}
use Rattle.name_resolver.specs.declared.fault.LinkKind.TheVariants.{UnknownClass, UnknownMethod, Twice, BadDescriptor, TooMany, OutOfProfile}
use Rattle.class_linker.specs.declared.fault.Refusal.{Refusal}
use Rattle.name_resolver.specs.declared.names.Counts.{Counts}
use Rattle.name_resolver.specs.declared.names.Names.{Names}
use Rattle.class_linker.specs.Faults.{noted, only_if}
use Rattle.name_resolver.specs.Index.{value_of}
use Rattle.name_resolver.specs.Words.{has_foreign_flag, field_word, method_key, is_init}
use Rattle.built_in_classes.specs.Classes.{built_in_number}
use Rattle.name_resolver.specs.BuiltIn.{is_reserved}
use Rattle.name_resolver.specs.Descriptors.{PlainSignature, type_of, method_signature, in_signature, is_unknown, is_bad, is_outside}
use Rattle.name_resolver.specs.Names.{is_named, is_thread, is_static, class_begun, field_counted, method_counted, counted_if}

abbrev pub is_this : ℕ → Option ℕ → Bool
is_this n None = false
is_this n (Some m) = m == n

-- ---- `.class`, `.super` and `.implements`

abbrev pub named_fault : Names → PlainClassText → Counts → Option LinkKind
named_fault names c n =
    only_if Twice (not (is_this n.classes (value_of c.name names.classes)) || is_some (built_in_number c.name))
    (only_if TooMany (nat_le (FIRST_USER_CLASS + MOST_CLASSES) n.classes)
    (only_if OutOfProfile (has_foreign_flag c.flags) None))

-- an interface is out of the profile
abbrev pub class_fault : Names → PlainClassText → Counts → Option LinkKind
class_fault names c n = if is_named c then named_fault names c n else Some OutOfProfile

abbrev pub is_super : List ℕ → Bool
is_super name = bytes_eq name (codes "java/lang/Object") || bytes_eq name (codes "java/lang/Thread")

abbrev pub super_fault : PlainClassText → Option LinkKind
super_fault c = only_if OutOfProfile (is_named c && not (is_super c.super_name)) None

-- whether a class has a `run()V` of its own that isn't static
abbrev pub is_own_run : PlainMethodText → Bool
is_own_run m = bytes_eq m.name (codes "run") && bytes_eq m.desc (codes "()V") && not (is_static m.flags)

abbrev pub has_run : PlainClassText → Bool
has_run c = list_any is_own_run c.methods

abbrev pub implements_fault : Bool → NameAt → Option LinkKind
implements_fault has_run name = only_if UnknownMethod (not has_run) (only_if OutOfProfile (not (bytes_eq name.name (codes "java/lang/Runnable"))) None)

-- ---- `.field`

abbrev pub is_int : Typed → Bool
is_int (typed.Of kind.Int) = true
is_int _ = false

abbrev pub has_strange_value : PlainFieldText → Typed → Bool
has_strange_value f t = is_some f.value && not (is_static f.flags && is_int t)

abbrev pub typed_field_fault : Names → List ℕ → PlainFieldText → Counts → Typed → Bool → Option LinkKind
typed_field_fault names class f n t is_full =
    only_if UnknownClass (is_unknown t)
    (only_if Twice (not (is_this n.fields (value_of (field_word class f.name) names.fields)))
    (only_if BadDescriptor (is_bad t)
    (only_if TooMany is_full
    (only_if OutOfProfile (has_foreign_flag f.flags || is_outside t || has_strange_value f t) None))))

-- ---- `.method`, with its limits

abbrev pub above : ℕ → Option ℕ → Bool
above limit None = false
above limit (Some n) = nat_lt limit n

abbrev pub gives_wrong : PlainMethodText → PlainSignature → Bool
gives_wrong m s = in_signature is_bad s || (is_init m.name && is_some s.gives)

abbrev pub has_too_many : PlainMethodText → PlainSignature → Counts → Bool
has_too_many m s n = nat_le MOST_METHODS n.methods || nat_lt MOST_PARAMETERS (length s.params) || above MOST_OPERANDS m.stack || above MOST_LOCALS m.locals

abbrev pub is_reserved_method : PlainMethodText → Bool
is_reserved_method m = is_reserved (m.name ++ m.desc)

abbrev pub is_foreign_method : PlainMethodText → PlainSignature → Bool → Bool
is_foreign_method m s is_reserved =
    has_foreign_flag m.flags || in_signature is_outside s || bytes_eq m.name (codes "<clinit>") || (is_init m.name && is_static m.flags) || is_reserved

abbrev pub method_fault : Names → List ℕ → PlainMethodText → Counts → PlainSignature → Option LinkKind
method_fault names class m n s =
    only_if UnknownClass (in_signature is_unknown s)
    (only_if Twice (not (is_this n.methods (value_of (method_key class m.name m.desc) names.methods)))
    (only_if BadDescriptor (gives_wrong m s)
    (only_if TooMany (has_too_many m s n)
    (only_if OutOfProfile (is_foreign_method m s (is_reserved_method m)) None))))

-- ---- all declarations

unfoldable pub implements_judged : Bool → List NameAt → Option Refusal → Option Refusal
implements_judged has_run [] found = found
implements_judged has_run (x ∷ xs) found = implements_judged has_run xs (noted found x.line (implements_fault has_run x))

abbrev pub field_fault : Names → List ℕ → PlainFieldText → Counts → Bool → Option LinkKind
field_fault names class f n is_full = typed_field_fault names class f n (type_of names.classes f.desc) is_full

-- the places that are taken before the first field of the class: by the target of a thread
abbrev pub taken : PlainClassText → ℕ
taken c = if is_thread c then 1 else 0

abbrev pub is_full : ℕ → PlainFieldText → Counts → Bool
is_full taken f n = if is_static f.flags then nat_le MOST_STATICS n.statics else nat_le (MOST_FIELDS + taken) n.places

unfoldable pub fields_judged : Names → List ℕ → ℕ → List PlainFieldText → Counts → Option Refusal → Counts × Option Refusal
fields_judged names class taken [] n found = (n, found)
fields_judged names class taken (f ∷ fs) n found =
    fields_judged names class taken fs (field_counted f n) (noted found f.line (field_fault names class f n (is_full taken f n)))

abbrev pub judged_method : Names → List ℕ → PlainMethodText → Counts → Option LinkKind
judged_method names class m n = method_fault names class m n (method_signature names.classes m.name m.desc)

unfoldable pub methods_judged : Names → List ℕ → List PlainMethodText → Counts → Option Refusal → Counts × Option Refusal
methods_judged names class [] n found = (n, found)
methods_judged names class (m ∷ ms) n found = methods_judged names class ms (method_counted n) (noted found m.line (judged_method names class m n))

abbrev pub lines_judged : Names → PlainClassText → Counts → Option Refusal → Option Refusal
lines_judged names c n found =
    implements_judged (has_run c) c.implements (noted (noted found c.line (class_fault names c n)) c.super_line (super_fault c))

abbrev pub members_judged : Names → PlainClassText → Counts × Option Refusal → Counts × Option Refusal
members_judged names c s = methods_judged names c.name c.methods s.0 s.1

abbrev pub class_judged : Names → PlainClassText → Counts → Option Refusal → Counts × Option Refusal
class_judged names c n found =
    members_judged names c (fields_judged names c.name (taken c) c.fields (class_begun c n) (lines_judged names c n found))

unfoldable pub classes_judged : Names → List PlainClassText → Counts → Option Refusal → Option Refusal
classes_judged names [] n found = found
classes_judged names (c ∷ cs) n found =
    classes_judged names cs (counted_if (is_named c) (class_judged names c n found).0) (class_judged names c n found).1
