-- Descriptors (JVMS SE 8 §4.3), with the numbers of their classes.
use Rattle.std.specs.Prelude.{ℕ, zero, suc, ◌+◌, Bool, true, false, not, ◌&&◌, ◌||◌, if◌then◌else◌, ◌==◌, List, [], ◌∷◌, length, take, drop, position, codes, bytes_eq, Option, Some, None, unwrap_or}
use Rattle.std.specs.List.{list_any}
use Rattle.vm_model.specs.declared.value.Kind.{Kind}
use Rattle.vm_model.specs.declared.value.Kind.TheVariants as kind
use Rattle.name_resolver.specs.declared.descriptors.Typed.{Typed}
use Rattle.name_resolver.specs.declared.descriptors.Typed.TheVariants as typed
use Rattle.name_resolver.specs.Index.{Rows, value_of}
use Rattle.built_in_classes.specs.Classes.{built_in_number}
use Rattle.jasmin_lines.specs.Words.{is_class_name}

-- ---- classes

abbrev pub or_user : Rows → List ℕ → Option ℕ → Option ℕ
or_user classes name (Some n) = Some n
or_user classes name None = value_of name classes

-- the number of a class, built in or of the text
abbrev pub class_of : Rows → List ℕ → Option ℕ
class_of classes name = or_user classes name (built_in_number name)

-- ---- one type

abbrev pub by_class : Option ℕ → Typed
by_class (Some n) = typed.Of (kind.Ref n)
by_class None = typed.Unknown

abbrev pub by_name : Rows → List ℕ → Typed
by_name classes name = if is_class_name name then by_class (class_of classes name) else typed.Bad

-- a class's name up to a semicolon
abbrev pub class_type : Rows → List ℕ → Option ℕ → Typed × List ℕ
class_type classes bytes None = (typed.Bad, bytes)
class_type classes bytes (Some n) = (by_name classes (take n bytes), drop (n + 1) bytes)

-- an array of ints; of whatever else there is it is out of the profile
abbrev pub array_of : Typed → Typed
array_of (typed.Of kind.Int) = typed.Of kind.Arr
array_of typed.Bad = typed.Bad
array_of _ = typed.Outside

-- Z, B, C, S, J, F and D
abbrev pub is_foreign : ℕ → Bool
is_foreign b = b == 90 || b == 66 || b == 67 || b == 83 || b == 74 || b == 70 || b == 68

-- a type that is no array, at the front of these bytes, and the bytes after it
abbrev pub base_at : Rows → List ℕ → Typed × List ℕ
base_at classes [] = (typed.Bad, [])
base_at classes (b ∷ rest) =
    if b == 73 then (typed.Of kind.Int, rest) else
    if is_foreign b then (typed.Outside, rest) else
    if b == 76 then class_type classes rest (position (λ c. c == 59) rest) else (typed.Bad, rest)

-- an array of so many dimensions
abbrev pub nested : ℕ → Typed → Typed
nested n t = if n == 0 then t else if n == 1 then array_of t else array_of (array_of t)

abbrev pub dimensions : List ℕ → ℕ
dimensions bytes = unwrap_or (position (λ b. not (b == 91)) bytes) (length bytes)

-- the type at the front of these bytes, and the bytes after it
unfoldable pub type_at : Rows → List ℕ → Typed × List ℕ
type_at classes bytes =
    (nested (dimensions bytes) (base_at classes (drop (dimensions bytes) bytes)).0, (base_at classes (drop (dimensions bytes) bytes)).1)

abbrev pub is_bad : Typed → Bool
is_bad typed.Bad = true
is_bad _ = false

abbrev pub unless_bad : Typed → List ℕ → List ℕ
unless_bad t bytes = if is_bad t then [] else bytes

-- the types of parameters, of which at most so many are looked at; a bad spelling ends them
unfoldable pub types_within : ℕ → Rows → List ℕ → List Typed
types_within zero classes bytes = []
types_within (suc n) classes bytes =
    if length bytes == 0 then [] else (type_at classes bytes).0 ∷ types_within n classes (unless_bad (type_at classes bytes).0 (type_at classes bytes).1)

abbrev pub types_in : Rows → List ℕ → List Typed
types_in classes bytes = types_within (length bytes) classes bytes

abbrev pub whole : Typed × List ℕ → Typed
whole (t, []) = t
whole (t, b ∷ rest) = typed.Bad

-- one type and nothing after it
abbrev pub type_of : Rows → List ℕ → Typed
type_of classes bytes = whole (type_at classes bytes)

-- ---- methods

-- what a method takes and what it gives back, if it gives something
pub record PlainSignature : Type 0 where
  pub params : List Typed
  pub gives : Option Typed

abbrev pub given : Rows → List ℕ → Option Typed
given classes bytes = if bytes_eq bytes (codes "V") then None else Some (type_of classes bytes)

-- the bytes between the brackets, and those after
abbrev pub parts_at : List ℕ → Option ℕ → List ℕ × List ℕ
parts_at bytes None = (drop 1 bytes, [])
parts_at bytes (Some n) = (drop 1 (take n bytes), drop (n + 1) bytes)

abbrev pub parts_of : List ℕ → List ℕ × List ℕ
parts_of bytes = parts_at bytes (position (λ b. b == 41) bytes)

abbrev pub signature_of : Rows → List ℕ → PlainSignature
signature_of classes desc = record {
  params = types_in classes (parts_of desc).0;
  gives = given classes (parts_of desc).1;
}

-- the argument of main, which no other method takes
abbrev pub takes_args : List ℕ → List ℕ → Bool
takes_args name desc = bytes_eq name (codes "main") && bytes_eq desc (codes "([Ljava/lang/String;)V")

abbrev pub args_signature : PlainSignature
args_signature = record { params = typed.Of kind.Args ∷ []; gives = None }

abbrev pub method_signature : Rows → List ℕ → List ℕ → PlainSignature
method_signature classes name desc = if takes_args name desc then args_signature else signature_of classes desc

-- ---- what is wrong with types

abbrev pub is_unknown : Typed → Bool
is_unknown typed.Unknown = true
is_unknown _ = false

abbrev pub is_outside : Typed → Bool
is_outside typed.Outside = true
is_outside _ = false

abbrev pub in_given : (Typed → Bool) → Option Typed → Bool
in_given test None = false
in_given test (Some t) = test t

-- whether a type of a method passes a test
abbrev pub in_signature : (Typed → Bool) → PlainSignature → Bool
in_signature test s = list_any test s.params || in_given test s.gives

-- the kind of a type, an int where it has none
abbrev pub kind_of : Typed → Kind
kind_of (typed.Of k) = k
kind_of _ = kind.Int

abbrev pub kind_given : Option Typed → Option Kind
kind_given None = None
kind_given (Some t) = Some (kind_of t)
