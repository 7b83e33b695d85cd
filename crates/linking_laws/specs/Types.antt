-- Types as descriptors spell them (JVMS SE 8 §4.3), and what may be wrong with them.
use Rattle.std.specs.Prelude.{◌≡◌, ◌≢◌, ◌⊎◌, ℕ, Bool, true, not, ◌==◌, List, [], ◌∷◌, ◌++◌, length, flat_map, codes, Contains}
use Rattle.std.specs.List.{AllByRecursion}
use Rattle.built_in_classes.specs.Classes.{built_in_classes, names_of}
use Rattle.jasmin_lines.specs.Plain.{PlainClassText}
use Rattle.jasmin_lines.specs.Words.{is_class_name}

-- ---- classes

-- `.class`, and not `.interface`, which is kept without a name
abbrev pub is_class : PlainClassText → Bool
is_class c = not (length c.name == 0)

-- a class of the text has this name
abbrev pub IsDeclared : List PlainClassText → List ℕ → Type 0
IsDeclared classes name = (c : PlainClassText) × Contains classes c × (is_class c ≡ true) × (c.name ≡ name)

-- a class of the language has it
abbrev pub IsBuiltIn : List ℕ → Type 0
IsBuiltIn name = Contains (names_of built_in_classes) name

-- ---- types

-- an int is I
abbrev pub int_type : List ℕ
int_type = 73 ∷ []

-- a class is its name between L and a semicolon
abbrev pub class_type : List ℕ → List ℕ
class_type name = 76 ∷ name ++ 59 ∷ []

-- how a type is spelled: an int, a letter that the language leaves out, a class, or an array with a bracket before what it has
pub data IsType : List ℕ → Type 0 where
  Int : IsType int_type
  Other : (letter : ℕ) → Contains (codes "ZBCSJFD") letter → IsType (letter ∷ [])
  Class : (name : List ℕ) → is_class_name name ≡ true → IsType (class_type name)
  Array : (element : List ℕ) → IsType element → IsType (91 ∷ element)

-- a class that is neither of the text nor of the language
pub record IsUnknownType (classes : List PlainClassText) (type : List ℕ) : Type 0 where
  pub name : List ℕ
  pub spelled : type ≡ class_type name
  pub is_name : is_class_name name ≡ true
  pub not_declared : IsDeclared classes name → ⊥
  pub not_built_in : IsBuiltIn name → ⊥

-- what the language leaves out: the other letters, and arrays of anything but ints
pub data IsForeignType (type : List ℕ) : Type 0 where
  Letter : (letter : ℕ) → Contains (codes "ZBCSJFD") letter → type ≡ letter ∷ [] → IsForeignType type
  ArrayOf : (element : List ℕ) → IsType element → element ≢ int_type → type ≡ 91 ∷ element → IsForeignType type

-- ---- descriptors of methods

-- what stands between the brackets, of which the second is the first of its kind, and what stands after them
pub record IsParted (desc params gives : List ℕ) : Type 0 where
  pub whole : desc ≡ 40 ∷ params ++ 41 ∷ gives
  pub first : Contains params 41 → ⊥

-- a type that a descriptor names: a parameter, where those before it are spelled right, or what the method gives
pub data Says (desc type : List ℕ) : Type 0 where
  OfParameter : (before : List (List ℕ)) (rest : List ℕ) → AllByRecursion IsType before → desc ≡ 40 ∷ flat_map (λ t. t) before ++ (type ++ rest) → Says desc type
  OfResult : (params : List ℕ) → IsParted desc params type → Says desc type

-- the parameters are spelled right, and there are no others
pub record Takes (desc : List ℕ) (types : List (List ℕ)) (gives : List ℕ) : Type 0 where
  pub parted : IsParted desc (flat_map (λ t. t) types) gives
  pub spelled : AllByRecursion IsType types

-- V where a method gives nothing
abbrev pub nothing : List ℕ
nothing = codes "V"

-- a descriptor is spelled right
pub record IsMethodType (desc : List ℕ) : Type 0 where
  pub types : List (List ℕ)
  pub gives : List ℕ
  pub takes : Takes desc types gives
  pub given : (gives ≡ nothing) ⊎ IsType gives
