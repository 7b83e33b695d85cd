-- Which faults the declarations of a text have: the rules, a case for each. A line may have several.
use Rattle.std.specs.Prelude.{◌≡◌, ◌≢◌, ◌≤◌, ◌<◌, ◌+◌, ℕ, true, false, not, List, [], ◌∷◌, ◌++◌, length, map, filter, flat_map, codes, Contains, Some, None}
use Rattle.vm_model.specs.declared.limits.TheConstants.{MOST_CLASSES, MOST_FIELDS, MOST_LOCALS, MOST_METHODS, MOST_OPERANDS, MOST_PARAMETERS, MOST_STATICS}
use Rattle.jasmin_lines.specs.declared.class_text.NameAt.{NameAt}
use Rattle.jasmin_lines.specs.Plain.{PlainClassText, PlainFieldText, PlainMethodText}
use Rattle.name_resolver.specs.declared.fault.LinkKind.{LinkKind}
use Rattle.name_resolver.specs.declared.fault.LinkKind.TheVariants.{UnknownClass, UnknownMethod, Twice, BadDescriptor, TooMany, OutOfProfile}
use Rattle.name_resolver.specs.Names.{is_static}
use Rattle.linking_laws.specs.Types.{is_class, IsDeclared, IsBuiltIn, int_type, IsType, IsUnknownType, IsForeignType, IsParted, Says, Takes, nothing, IsMethodType}

-- ---- words

-- a flag that the language leaves out
abbrev pub HasForeignFlag : List (List ℕ) → Type 0
HasForeignFlag flags = (flag : List ℕ) × Contains (codes "abstract" ∷ codes "interface" ∷ codes "native" ∷ []) flag × Contains flags flag

-- a method of the class is `run()V`, and isn't static
abbrev pub HasRun : PlainClassText → Type 0
HasRun c = (m : PlainMethodText) × Contains c.methods m × (m.name ≡ codes "run") × (m.desc ≡ codes "()V") × (is_static m.flags ≡ false)

-- a field of a class, and a method of a class, as instructions name them
abbrev pub field_name : PlainClassText → PlainFieldText → List ℕ
field_name c f = c.name ++ 47 ∷ f.name

abbrev pub method_name : PlainClassText → PlainMethodText → List ℕ
method_name c m = c.name ++ 47 ∷ m.name ++ m.desc

abbrev pub field_names : List PlainClassText → List (List ℕ)
field_names classes = flat_map (λ c. map (field_name c) c.fields) classes

abbrev pub method_names : List PlainClassText → List (List ℕ)
method_names classes = flat_map (λ c. map (method_name c) c.methods) classes

-- the method whose parameter is an array of texts
abbrev pub IsMain : PlainMethodText → Type 0
IsMain m = (m.name ≡ codes "main") × (m.desc ≡ codes "([Ljava/lang/String;)V")

-- what every object has, or every thread, and no class may declare
abbrev pub reserved_methods : List (List ℕ)
reserved_methods = codes "start()V" ∷ codes "join()V" ∷ codes "wait()V" ∷ codes "notify()V" ∷ codes "notifyAll()V" ∷ codes "yield()V" ∷ []

-- ---- classes

-- of `.class` or `.interface`, by the classes before it
pub data ClassFault (before : List PlainClassText) (c : PlainClassText) : LinkKind → Type 0 where
  SecondClass : is_class c ≡ true → IsDeclared before c.name → ClassFault before c Twice
  NameOfBuiltIn : is_class c ≡ true → IsBuiltIn c.name → ClassFault before c Twice
  ManyClasses : is_class c ≡ true → MOST_CLASSES ≤ length (filter is_class before) → ClassFault before c TooMany
  ClassFlag : is_class c ≡ true → HasForeignFlag c.flags → ClassFault before c OutOfProfile
  Interface : is_class c ≡ false → ClassFault before c OutOfProfile

-- of `.super`
pub data SuperFault (c : PlainClassText) : LinkKind → Type 0 where
  OtherSuper : is_class c ≡ true → c.super_name ≢ codes "java/lang/Object" → c.super_name ≢ codes "java/lang/Thread" → SuperFault c OutOfProfile

-- of `.implements`
pub data ImplementsFault (c : PlainClassText) (interface : NameAt) : LinkKind → Type 0 where
  WithoutRun : (HasRun c → ⊥) → ImplementsFault c interface UnknownMethod
  OtherInterface : interface.name ≢ codes "java/lang/Runnable" → ImplementsFault c interface OutOfProfile

-- ---- members

-- of `.field`, by the classes before its own and the fields before it
pub data FieldFault (classes before : List PlainClassText) (c : PlainClassText) (fields : List PlainFieldText) (f : PlainFieldText) : LinkKind → Type 0 where
  FieldOfUnknown : IsUnknownType classes f.desc → FieldFault classes before c fields f UnknownClass
  SecondField : Contains (field_names before ++ map (field_name c) fields) (field_name c f) → FieldFault classes before c fields f Twice
  FieldMisspelled : (IsType f.desc → ⊥) → FieldFault classes before c fields f BadDescriptor
  ManyStatics : is_static f.flags ≡ true → MOST_STATICS ≤ length (filter (λ g. is_static g.flags) (flat_map (λ d. d.fields) before ++ fields)) → FieldFault classes before c fields f TooMany
  ManyFields : is_static f.flags ≡ false → MOST_FIELDS ≤ length (filter (λ g. not (is_static g.flags)) fields) → FieldFault classes before c fields f TooMany
  FieldFlag : HasForeignFlag f.flags → FieldFault classes before c fields f OutOfProfile
  FieldOfForeign : IsForeignType f.desc → FieldFault classes before c fields f OutOfProfile
  ValueNotStatic : f.value ≢ None → is_static f.flags ≡ false → FieldFault classes before c fields f OutOfProfile
  ValueNotInt : f.value ≢ None → f.desc ≢ int_type → FieldFault classes before c fields f OutOfProfile

-- of `.method`, by the classes before its own and the methods before it
pub data MethodFault (classes before : List PlainClassText) (c : PlainClassText) (methods : List PlainMethodText) (m : PlainMethodText) : LinkKind → Type 0 where
  MethodOfUnknown : (type : List ℕ) → Says m.desc type → IsUnknownType classes type → MethodFault classes before c methods m UnknownClass
  SecondMethod : Contains (method_names before ++ map (method_name c) methods) (method_name c m) → MethodFault classes before c methods m Twice
  MethodMisspelled : (IsMethodType m.desc → ⊥) → MethodFault classes before c methods m BadDescriptor
  ConstructorGives : (params gives : List ℕ) → m.name ≡ codes "<init>" → IsParted m.desc params gives → gives ≢ nothing → MethodFault classes before c methods m BadDescriptor
  ManyMethods : MOST_METHODS ≤ length (flat_map (λ d. d.methods) before ++ methods) → MethodFault classes before c methods m TooMany
  ManyParameters : (types : List (List ℕ)) (gives : List ℕ) → Takes m.desc types gives → MOST_PARAMETERS < length types → MethodFault classes before c methods m TooMany
  GreatStack : (limit : ℕ) → m.stack ≡ Some limit → MOST_OPERANDS < limit → MethodFault classes before c methods m TooMany
  GreatLocals : (limit : ℕ) → m.locals ≡ Some limit → MOST_LOCALS < limit → MethodFault classes before c methods m TooMany
  MethodFlag : HasForeignFlag m.flags → MethodFault classes before c methods m OutOfProfile
  MethodOfForeign : (type : List ℕ) → Says m.desc type → IsForeignType type → (IsMain m → ⊥) → MethodFault classes before c methods m OutOfProfile
  ClassInitialiser : m.name ≡ codes "<clinit>" → MethodFault classes before c methods m OutOfProfile
  StaticConstructor : m.name ≡ codes "<init>" → is_static m.flags ≡ true → MethodFault classes before c methods m OutOfProfile
  Reserved : Contains reserved_methods (m.name ++ m.desc) → MethodFault classes before c methods m OutOfProfile

-- ---- all declarations

-- a line of a class's declarations has a fault of this kind
pub data HasClassFault (classes before : List PlainClassText) (c : PlainClassText) (line : ℕ) (kind : LinkKind) : Type 0 where
  OfClass : line ≡ c.line → ClassFault before c kind → HasClassFault classes before c line kind
  OfSuper : line ≡ c.super_line → SuperFault c kind → HasClassFault classes before c line kind
  OfImplements : (interface : NameAt) → Contains c.implements interface → line ≡ interface.line → ImplementsFault c interface kind → HasClassFault classes before c line kind
  OfField : (earlier later : List PlainFieldText) (f : PlainFieldText) → c.fields ≡ earlier ++ f ∷ later → line ≡ f.line → FieldFault classes before c earlier f kind → HasClassFault classes before c line kind
  OfMethod : (earlier later : List PlainMethodText) (m : PlainMethodText) → c.methods ≡ earlier ++ m ∷ later → line ≡ m.line → MethodFault classes before c earlier m kind → HasClassFault classes before c line kind

-- a line of the text's declarations has one
pub record HasDeclarationFault (classes : List PlainClassText) (line : ℕ) (kind : LinkKind) : Type 0 where
  pub before : List PlainClassText
  pub class : PlainClassText
  pub after : List PlainClassText
  pub there : classes ≡ before ++ class ∷ after
  pub fault : HasClassFault classes before class line kind

-- ---- how many there are

-- what is counted of a text stays below 2^31
pub record IsCountable (text : List PlainClassText) : Type 0 where
  pub classes : 32 + length text < 2147483647
  pub fields : length (flat_map (λ c. c.fields) text) < 2147483647
  pub methods : length (flat_map (λ c. c.methods) text) < 2147483647
