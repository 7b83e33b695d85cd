-- Classes, their supers, and which kind may stand for which.
use Rattle.std.specs.Prelude.{ℕ, zero, suc, ◌==◌, Bool, true, false, ◌&&◌, ◌||◌, if◌then◌else◌, nat_lt, nat_le, List, [], ◌∷◌, ◌++◌, map, Option, Some, None, slice_get, is_some, pos}
use Rattle.std.specs.List.{list_any}
use Rattle.vm_model.specs.declared.limits.TheConstants.{FIRST_USER_CLASS}
use Rattle.vm_model.specs.declared.value.Value.{Value}
use Rattle.vm_model.specs.declared.value.Value.TheVariants as value
use Rattle.vm_model.specs.declared.value.Kind.{Kind}
use Rattle.vm_model.specs.declared.value.Kind.TheVariants as kind
use Rattle.vm_model.specs.declared.program.Field.{Field}
use Rattle.vm_model.specs.declared.program.StaticSlot.{StaticSlot}
use Rattle.vm_model.specs.Program.{PlainClass}
use Rattle.built_in_classes.specs.declared.numbers.TheConstants.{BUILT_IN_COUNT, LONGEST_CHAIN, OBJECT, PRINT_STREAM, RUNNABLE, STRING, THREAD}
use Rattle.built_in_classes.specs.Classes.{built_in_super}
use Rattle.machine_model.specs.Declarations.{Declarations, class_at, static_at}

abbrev pub user_super : Option PlainClass → Option ℕ
user_super None = None
user_super (Some class) = Some (if class.is_thread then THREAD else OBJECT)

-- the class that a class extends
abbrev pub super_of : Declarations → ℕ → Option ℕ
super_of d class = if nat_le FIRST_USER_CLASS class then user_super (class_at d class) else built_in_super class

-- a class and its supers, of which at most so many are looked at
abbrev pub supers_within : ℕ → Declarations → Option ℕ → List ℕ
supers_within zero d class = []
supers_within (suc n) d None = []
supers_within (suc n) d (Some class) = class ∷ supers_within n d (super_of d class)

-- a class and its supers: no chain is longer
unfoldable pub chain : Declarations → ℕ → List ℕ
chain d class = supers_within LONGEST_CHAIN d (Some class)

abbrev pub is_thread : Option PlainClass → Bool
is_thread None = false
is_thread (Some class) = class.is_thread

abbrev pub is_runnable : Option PlainClass → Bool
is_runnable None = false
is_runnable (Some class) = class.is_runnable || class.is_thread

-- Thread itself, and the classes that extend it
abbrev pub is_thread_class : Declarations → ℕ → Bool
is_thread_class d class = class == THREAD || is_thread (class_at d class)

-- the classes that may stand for Runnable
abbrev pub is_runnable_class : Declarations → ℕ → Bool
is_runnable_class d class = class == THREAD || is_runnable (class_at d class)

abbrev pub is_class : Declarations → ℕ → Bool
is_class d class = nat_lt class BUILT_IN_COUNT || is_some (class_at d class)

-- a reference to the first class may stand for one to the second
abbrev pub extends : Declarations → ℕ → ℕ → Bool
extends d class super = list_any (λ c. c == super) (chain d class) || (super == RUNNABLE && is_runnable_class d class)

-- a value of the first kind may stand where the second is wanted
abbrev pub is_assignable : Declarations → Kind → Kind → Bool
is_assignable d kind.Int kind.Int = true
is_assignable d kind.Int kind.Null = false
is_assignable d kind.Int (kind.Ref super) = false
is_assignable d kind.Int kind.Arr = false
is_assignable d kind.Int kind.Args = false
is_assignable d kind.Null kind.Int = false
is_assignable d kind.Null kind.Null = true
is_assignable d kind.Null (kind.Ref super) = true
is_assignable d kind.Null kind.Arr = true
is_assignable d kind.Null kind.Args = false
is_assignable d (kind.Ref c) kind.Int = false
is_assignable d (kind.Ref c) kind.Null = false
is_assignable d (kind.Ref c) (kind.Ref super) = extends d c super
is_assignable d (kind.Ref c) kind.Arr = false
is_assignable d (kind.Ref c) kind.Args = false
is_assignable d kind.Arr kind.Int = false
is_assignable d kind.Arr kind.Null = false
is_assignable d kind.Arr (kind.Ref super) = super == OBJECT
is_assignable d kind.Arr kind.Arr = true
is_assignable d kind.Arr kind.Args = false
is_assignable d kind.Args kind.Int = false
is_assignable d kind.Args kind.Null = false
is_assignable d kind.Args (kind.Ref super) = false
is_assignable d kind.Args kind.Arr = false
is_assignable d kind.Args kind.Args = true

-- the kind of a value by itself
abbrev pub own_kind : Value → Kind
own_kind (value.Int n) = kind.Int
own_kind value.Null = kind.Null
own_kind (value.Obj id class) = kind.Ref class
own_kind (value.Arr id len) = kind.Arr
own_kind (value.Text text) = kind.Ref STRING
own_kind value.Stream = kind.Ref PRINT_STREAM

abbrev pub is_null : Value → Bool
is_null (value.Int n) = false
is_null value.Null = true
is_null (value.Obj id class) = false
is_null (value.Arr id len) = false
is_null (value.Text text) = false
is_null value.Stream = false

abbrev pub is_args : Kind → Bool
is_args kind.Int = false
is_args kind.Null = false
is_args (kind.Ref c) = false
is_args kind.Arr = false
is_args kind.Args = true

-- the value may be kept where this kind is declared
abbrev pub fits : Declarations → Value → Kind → Bool
fits d v k = is_assignable d (own_kind v) k || (is_null v && is_args k)

abbrev pub fits_declared : Declarations → Value → Option Kind → Bool
fits_declared d v None = false
fits_declared d v (Some k) = fits d v k

abbrev pub slot_kind : Option StaticSlot → Option Kind
slot_kind None = None
slot_kind (Some slot) = Some slot.kind

-- the kind that a static is declared to hold
abbrev pub static_kind : Declarations → ℕ → Option Kind
static_kind d slot = slot_kind (static_at d slot)

abbrev pub kind_of_field : Field → Kind
kind_of_field field = field.kind

abbrev pub declared_kinds : Option PlainClass → List Kind
declared_kinds None = []
declared_kinds (Some class) = map kind_of_field class.fields

-- the fields of a class: threads have a hidden first one, their Runnable target
abbrev pub field_kinds : Declarations → ℕ → List Kind
field_kinds d class = (if is_thread_class d class then kind.Ref RUNNABLE ∷ [] else []) ++ declared_kinds (class_at d class)

-- what a field holds at first
abbrev pub first_value : Kind → Value
first_value kind.Int = value.Int (pos 0)
first_value kind.Null = value.Null
first_value (kind.Ref c) = value.Null
first_value kind.Arr = value.Null
first_value kind.Args = value.Null
