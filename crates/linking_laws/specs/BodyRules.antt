-- Which faults the bodies of a text have: the rules, a case for each. They count where no declaration has a fault.
use Rattle.std.specs.Prelude.{◌≡◌, ◌≢◌, ◌≤◌, ◌<◌, ℕ, Bool, true, false, ℤ, List, [], ◌∷◌, ◌++◌, length, codes, Contains}
use Rattle.vm_model.specs.declared.limits.TheConstants.{MOST_INSTRUCTIONS, MOST_TEXT_CONSTANT_BYTES}
use Rattle.jasmin_lines.specs.declared.class_text.CatchText.{CatchText}
use Rattle.jasmin_lines.specs.declared.class_text.Operand.{Operand}
use Rattle.jasmin_lines.specs.declared.class_text.Operand.TheVariants.{Number, Text, Word}
use Rattle.jasmin_lines.specs.Plain.{PlainClassText, PlainFieldText, PlainMethodText, PlainLineText}
use Rattle.jasmin_lines.specs.Mnemonics.{alone, jumps}
use Rattle.name_resolver.specs.declared.fault.LinkKind.{LinkKind}
use Rattle.name_resolver.specs.declared.fault.LinkKind.TheVariants.{UnknownClass, UnknownField, UnknownMethod, UnknownLabel, TooMany, OutOfProfile}
use Rattle.name_resolver.specs.Names.{is_static}
use Rattle.name_resolver.specs.Words.{member}
use Rattle.name_resolver.specs.Calls.{class_part, name_part, desc_part}
use Rattle.linking_laws.specs.Types.{IsDeclared, IsBuiltIn, IsUnknownType, Says}
use Rattle.linking_laws.specs.Rules.{field_name, method_name}

-- ---- members of the text

-- a method of this full name, static or not
pub record HasMethod (text : List PlainClassText) (static : Bool) (word : List ℕ) : Type 0 where
  pub class : PlainClassText
  pub method : PlainMethodText
  pub declared : Contains text class
  pub there : Contains class.methods method
  pub static_so : is_static method.flags ≡ static
  pub named : method_name class method ≡ word

-- a field of this full name and this type, static or not
pub record HasField (text : List PlainClassText) (static : Bool) (word desc : List ℕ) : Type 0 where
  pub class : PlainClassText
  pub field : PlainFieldText
  pub declared : Contains text class
  pub there : Contains class.fields field
  pub static_so : is_static field.flags ≡ static
  pub named : field_name class field ++ 32 ∷ field.desc ≡ word ++ 32 ∷ desc

-- ---- members of the language

abbrev pub thread : List ℕ
thread = codes "java/lang/Thread"

-- Thread, and the classes that extend it
pub data IsThread (text : List PlainClassText) (class : List ℕ) : Type 0 where
  Itself : class ≡ thread → IsThread text class
  Extends : (c : PlainClassText) → Contains text c → c.super_name ≡ thread → c.name ≡ class → IsThread text class

abbrev pub string : List ℕ
string = codes "java/lang/String"

abbrev pub print_stream : List ℕ
print_stream = codes "java/io/PrintStream"

abbrev pub throwables : List (List ℕ)
throwables =
    codes "java/lang/Throwable" ∷ codes "java/lang/Exception" ∷ codes "java/lang/RuntimeException" ∷ codes "java/lang/Error" ∷ codes "java/lang/ArithmeticException" ∷
    codes "java/lang/NullPointerException" ∷ codes "java/lang/IndexOutOfBoundsException" ∷ codes "java/lang/ArrayIndexOutOfBoundsException" ∷ codes "java/lang/NegativeArraySizeException" ∷
    codes "java/lang/IllegalArgumentException" ∷ codes "java/lang/IllegalMonitorStateException" ∷ codes "java/lang/IllegalThreadStateException" ∷ codes "java/lang/IllegalStateException" ∷
    codes "java/lang/InterruptedException" ∷ codes "java/lang/StackOverflowError" ∷ codes "java/lang/OutOfMemoryError" ∷ []

-- classes with a constructor without arguments, and those without any
abbrev pub plain_constructors : List (List ℕ)
plain_constructors = codes "java/lang/Object" ∷ thread ∷ codes "java/lang/AssertionError" ∷ throwables

abbrev pub without_objects : List (List ℕ)
without_objects = codes "java/lang/Runnable" ∷ string ∷ print_stream ∷ codes "java/lang/VirtualMachineError" ∷ []

-- what a call finds that the text doesn't declare: the member is a name with its descriptor
pub data HasBuiltIn (text : List PlainClassText) (mnemonic class called : List ℕ) : Type 0 where
  OfThreads : mnemonic ≡ codes "invokestatic" → IsThread text class → called ≡ codes "yield()V" → HasBuiltIn text mnemonic class called
  OfThread : mnemonic ≢ codes "invokestatic" → IsThread text class → Contains (codes "start()V" ∷ codes "join()V" ∷ codes "run()V" ∷ []) called → HasBuiltIn text mnemonic class called
  OfObject : mnemonic ≢ codes "invokestatic" → class ≢ string → class ≢ print_stream → Contains (codes "wait()V" ∷ codes "notify()V" ∷ codes "notifyAll()V" ∷ []) called → HasBuiltIn text mnemonic class called
  OfStream : mnemonic ≢ codes "invokestatic" → class ≡ print_stream → Contains (codes "println()V" ∷ codes "println(I)V" ∷ codes "println(Ljava/lang/String;)V" ∷ codes "print(I)V" ∷ codes "print(Ljava/lang/String;)V" ∷ []) called → HasBuiltIn text mnemonic class called
  Plain : mnemonic ≡ codes "invokespecial" → Contains plain_constructors class → called ≡ codes "<init>()V" → HasBuiltIn text mnemonic class called
  OfRunnable : mnemonic ≡ codes "invokespecial" → class ≡ thread → called ≡ codes "<init>(Ljava/lang/Runnable;)V" → HasBuiltIn text mnemonic class called
  OfText : mnemonic ≡ codes "invokespecial" → Contains throwables class → called ≡ codes "<init>(Ljava/lang/String;)V" → HasBuiltIn text mnemonic class called

-- ---- what instructions name

-- a call finds a method that it may call: the text's own first, and a built-in one only where the text has none of that name
pub data FindsMethod (text : List PlainClassText) (mnemonic word : List ℕ) : Type 0 where
  Static : mnemonic ≡ codes "invokestatic" → HasMethod text true word → FindsMethod text mnemonic word
  Virtual : mnemonic ≡ codes "invokevirtual" → HasMethod text false word → name_part word ≢ codes "<init>" → FindsMethod text mnemonic word
  Special : mnemonic ≡ codes "invokespecial" → HasMethod text false word → FindsMethod text mnemonic word
  BuiltIn : ((static : Bool) → HasMethod text static word → ⊥) → HasBuiltIn text mnemonic (class_part word) (name_part word ++ desc_part word) → FindsMethod text mnemonic word

-- System.out
abbrev pub IsOut : List ℕ → List ℕ → Type 0
IsOut word desc = (word ≡ codes "java/lang/System/out") × (desc ≡ codes "Ljava/io/PrintStream;")

abbrev pub static_accesses : List (List ℕ)
static_accesses = codes "getstatic" ∷ codes "putstatic" ∷ []

-- an access finds a field that it may take
pub data FindsField (text : List PlainClassText) (mnemonic word desc : List ℕ) : Type 0 where
  StaticField : Contains static_accesses mnemonic → HasField text true word desc → FindsField text mnemonic word desc
  InstanceField : (Contains static_accesses mnemonic → ⊥) → HasField text false word desc → FindsField text mnemonic word desc
  Out : mnemonic ≡ codes "getstatic" → IsOut word desc → ((static : Bool) → HasField text static word desc → ⊥) → FindsField text mnemonic word desc

-- a label stands in a method
pub data HasLabel (m : PlainMethodText) (label : List ℕ) : Type 0 where
  Before : (l : PlainLineText) → Contains m.lines l → Contains l.labels label → HasLabel m label
  AtEnd : Contains m.end_labels label → HasLabel m label

-- ---- lines

abbrev pub calls : List (List ℕ)
calls = codes "invokestatic" ∷ codes "invokevirtual" ∷ codes "invokespecial" ∷ []

-- with a number
abbrev pub numbered : List (List ℕ)
numbered = codes "ldc" ∷ codes "iload" ∷ codes "istore" ∷ codes "aload" ∷ codes "astore" ∷ []

-- with a word that is no label
abbrev pub worded : List (List ℕ)
worded = codes "new" ∷ codes "newarray" ∷ calls

-- operands as an instruction may have them
pub data AreOperands : List Operand → Type 0 where
  Alone : AreOperands []
  OfNumber : (n : ℤ) → AreOperands (Number n ∷ [])
  OfConstant : (text : List ℕ) → AreOperands (Text text ∷ [])
  OfWord : (word : List ℕ) → AreOperands (Word word ∷ [])
  OfNumbers : (n by : ℤ) → AreOperands (Number n ∷ Number by ∷ [])
  OfWords : (word desc : List ℕ) → AreOperands (Word word ∷ Word desc ∷ [])

-- a class isn't there
abbrev pub IsUnknown : List PlainClassText → List ℕ → Type 0
IsUnknown text name = (IsDeclared text name → ⊥) × (IsBuiltIn name → ⊥)

-- of a line with an instruction
pub data LineFault (text : List PlainClassText) (m : PlainMethodText) (l : PlainLineText) : LinkKind → Type 0 where
  OtherOperands : (AreOperands l.operands → ⊥) → LineFault text m l OutOfProfile
  NotAlone : l.operands ≡ [] → (Contains alone l.word → ⊥) → LineFault text m l OutOfProfile
  NotNumbered : (n : ℤ) → l.operands ≡ Number n ∷ [] → (Contains numbered l.word → ⊥) → LineFault text m l OutOfProfile
  LongText : (constant : List ℕ) → l.operands ≡ Text constant ∷ [] → MOST_TEXT_CONSTANT_BYTES < length constant → LineFault text m l TooMany
  NewOfUnknown : (class : List ℕ) → l.word ≡ codes "new" → l.operands ≡ Word class ∷ [] → IsUnknown text class → LineFault text m l UnknownClass
  NewWithout : (class : List ℕ) → l.word ≡ codes "new" → l.operands ≡ Word class ∷ [] → Contains without_objects class → LineFault text m l OutOfProfile
  CallOfUnknown : (word : List ℕ) → Contains calls l.word → l.operands ≡ Word word ∷ [] → IsUnknown text (class_part word) → LineFault text m l UnknownClass
  CallWithUnknown : (word type : List ℕ) → Contains calls l.word → l.operands ≡ Word word ∷ [] → Says (desc_part word) type → IsUnknownType text type → LineFault text m l UnknownClass
  CallOfNone : (word : List ℕ) → Contains calls l.word → l.operands ≡ Word word ∷ [] → (FindsMethod text l.word word → ⊥) → LineFault text m l UnknownMethod
  JumpNowhere : (label : List ℕ) → (Contains worded l.word → ⊥) → l.operands ≡ Word label ∷ [] → (HasLabel m label → ⊥) → LineFault text m l UnknownLabel
  NoJump : (label : List ℕ) → (Contains worded l.word → ⊥) → l.operands ≡ Word label ∷ [] → (Contains jumps l.word → ⊥) → LineFault text m l OutOfProfile
  AccessOfUnknown : (word desc : List ℕ) → l.operands ≡ Word word ∷ Word desc ∷ [] → IsUnknown text (member word).0 → (IsOut word desc → ⊥) → LineFault text m l UnknownClass
  AccessWithUnknown : (word desc : List ℕ) → l.operands ≡ Word word ∷ Word desc ∷ [] → IsUnknownType text desc → LineFault text m l UnknownClass
  AccessOfNone : (word desc : List ℕ) → l.operands ≡ Word word ∷ Word desc ∷ [] → (FindsField text l.word word desc → ⊥) → LineFault text m l UnknownField

-- ---- all bodies

-- a line of a method's body has a fault of this kind
pub data HasMethodFault (text : List PlainClassText) (m : PlainMethodText) (line : ℕ) (kind : LinkKind) : Type 0 where
  OfLine : (l : PlainLineText) → Contains m.lines l → line ≡ l.line → LineFault text m l kind → HasMethodFault text m line kind
  ManyInstructions : (earlier later : List PlainLineText) (l : PlainLineText) → m.lines ≡ earlier ++ l ∷ later → MOST_INSTRUCTIONS ≤ length earlier → line ≡ l.line → kind ≡ TooMany → HasMethodFault text m line kind
  OfCatch : (c : CatchText) → Contains m.catches c → line ≡ c.line → kind ≡ OutOfProfile → HasMethodFault text m line kind

-- a line of the text's bodies has one
pub record HasBodyFault (text : List PlainClassText) (line : ℕ) (kind : LinkKind) : Type 0 where
  pub class : PlainClassText
  pub method : PlainMethodText
  pub declared : Contains text class
  pub there : Contains class.methods method
  pub fault : HasMethodFault text method line kind
