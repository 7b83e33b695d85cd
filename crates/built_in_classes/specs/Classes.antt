-- The built-in classes (Java SE 8 API, `java.lang` and `java.io`). The number of a class is its place in the table.
use Rattle.std.specs.Prelude.{ℕ, ◌+◌, Bool, true, false, if◌then◌else◌, List, [], ◌∷◌, Option, Some, None, map, slice_get, bytes_eq, codes}
use Rattle.built_in_classes.specs.declared.numbers.TheConstants.{OBJECT, THROWABLE, EXCEPTION, RUNTIME_EXCEPTION, ERROR, INDEX_OUT_OF_BOUNDS_EXCEPTION, ILLEGAL_ARGUMENT_EXCEPTION, VIRTUAL_MACHINE_ERROR}
use Rattle.built_in_classes.specs.declared.table.Constructors.{Constructors}
use Rattle.built_in_classes.specs.declared.table.Constructors.TheVariants.{Absent, Plain, WithText}

-- the name of a class, the class that it extends, if it extends one, and its constructors
pub record BuiltInClass : Type 0 where
  pub name : List ℕ
  pub super : Option ℕ
  pub constructors : Constructors

abbrev pub class : List ℕ → Option ℕ → Constructors → BuiltInClass
class name super constructors = record { name = name; super = super; constructors = constructors }

abbrev pub built_in_classes : List BuiltInClass
built_in_classes =
    class (codes "java/lang/Object") None Plain ∷
    class (codes "java/lang/Thread") (Some OBJECT) Plain ∷
    class (codes "java/lang/Runnable") (Some OBJECT) Absent ∷
    class (codes "java/lang/String") None Absent ∷
    class (codes "java/io/PrintStream") None Absent ∷
    class (codes "java/lang/Throwable") (Some OBJECT) WithText ∷
    class (codes "java/lang/Exception") (Some THROWABLE) WithText ∷
    class (codes "java/lang/RuntimeException") (Some EXCEPTION) WithText ∷
    class (codes "java/lang/Error") (Some THROWABLE) WithText ∷
    class (codes "java/lang/ArithmeticException") (Some RUNTIME_EXCEPTION) WithText ∷
    class (codes "java/lang/NullPointerException") (Some RUNTIME_EXCEPTION) WithText ∷
    class (codes "java/lang/IndexOutOfBoundsException") (Some RUNTIME_EXCEPTION) WithText ∷
    class (codes "java/lang/ArrayIndexOutOfBoundsException") (Some INDEX_OUT_OF_BOUNDS_EXCEPTION) WithText ∷
    class (codes "java/lang/NegativeArraySizeException") (Some RUNTIME_EXCEPTION) WithText ∷
    class (codes "java/lang/IllegalArgumentException") (Some RUNTIME_EXCEPTION) WithText ∷
    class (codes "java/lang/IllegalMonitorStateException") (Some RUNTIME_EXCEPTION) WithText ∷
    class (codes "java/lang/IllegalThreadStateException") (Some ILLEGAL_ARGUMENT_EXCEPTION) WithText ∷
    class (codes "java/lang/IllegalStateException") (Some RUNTIME_EXCEPTION) WithText ∷
    class (codes "java/lang/InterruptedException") (Some EXCEPTION) WithText ∷
    class (codes "java/lang/VirtualMachineError") (Some ERROR) Absent ∷
    class (codes "java/lang/StackOverflowError") (Some VIRTUAL_MACHINE_ERROR) WithText ∷
    class (codes "java/lang/OutOfMemoryError") (Some VIRTUAL_MACHINE_ERROR) WithText ∷
    class (codes "java/lang/AssertionError") (Some ERROR) Plain ∷
    []

-- the columns of a table
abbrev pub names_of : List BuiltInClass → List (List ℕ)
names_of classes = map (λ (c : BuiltInClass). c.name) classes

abbrev pub supers_of : List BuiltInClass → List (Option ℕ)
supers_of classes = map (λ (c : BuiltInClass). c.super) classes

abbrev pub constructors_in : List BuiltInClass → List Constructors
constructors_in classes = map (λ (c : BuiltInClass). c.constructors) classes

-- the class that each built-in class extends
abbrev pub built_in_supers : List (Option ℕ)
built_in_supers = supers_of built_in_classes

-- ---- by number

abbrev pub listed_name : Option (List ℕ) → List ℕ
listed_name None = []
listed_name (Some name) = name

-- the name of a built-in class; no byte where there is none of this number
abbrev pub built_in_name : ℕ → List ℕ
built_in_name class = listed_name (slice_get (names_of built_in_classes) class)

abbrev pub listed_super : Option (Option ℕ) → Option ℕ
listed_super None = None
listed_super (Some super) = super

-- the class that a built-in class extends
abbrev pub built_in_super : ℕ → Option ℕ
built_in_super class = listed_super (slice_get built_in_supers class)

abbrev pub constructors_of : ℕ → Option Constructors
constructors_of class = slice_get (constructors_in built_in_classes) class

abbrev pub is_made : Option Constructors → Bool
is_made None = true
is_made (Some Absent) = false
is_made (Some Plain) = true
is_made (Some WithText) = true

-- `new` takes the class: each user class, and each built-in class with a constructor
abbrev pub has_objects : ℕ → Bool
has_objects class = is_made (constructors_of class)

abbrev pub is_plain : Option Constructors → Bool
is_plain None = false
is_plain (Some Absent) = false
is_plain (Some Plain) = true
is_plain (Some WithText) = true

-- a built-in class with a constructor without arguments
abbrev pub has_constructor : ℕ → Bool
has_constructor class = is_plain (constructors_of class)

abbrev pub takes_text : Option Constructors → Bool
takes_text None = false
takes_text (Some Absent) = false
takes_text (Some Plain) = false
takes_text (Some WithText) = true

-- a built-in class with a constructor that takes a text
abbrev pub has_text_constructor : ℕ → Bool
has_text_constructor class = takes_text (constructors_of class)

-- ---- by name

-- the place of the first class of this name, counted from a number on
abbrev pub number_from : ℕ → List BuiltInClass → List ℕ → Option ℕ
number_from n [] name = None
number_from n (c ∷ rest) name = if bytes_eq name c.name then Some n else number_from (n + 1) rest name

-- the number of the built-in class of this name, if there is one
unfoldable pub built_in_number : List ℕ → Option ℕ
built_in_number name = number_from 0 built_in_classes name
