-- The program of classes: the classes with every name replaced by its number.
use Rattle.std.specs.Prelude.{◌⊎◌, ◌≡◌, ℕ, ℤ, Bool, true, false, not, ◌&&◌, ◌||◌, ◌==◌, pos, List, [], ◌∷◌, ◌++◌, length, flat_map, codes, bytes_eq, unsigned_abs, unwrap_or, Option, Some, None}
use Rattle.std.specs.List.{AllZip, list_all, position_from}
use Rattle.vm_model.specs.declared.instr.Instr.{Instr}
use Rattle.vm_model.specs.declared.instr.Instr.TheVariants as instr
use Rattle.vm_model.specs.declared.program.Field.{Field}
use Rattle.vm_model.specs.declared.program.StaticSlot.{StaticSlot}
use Rattle.vm_model.specs.declared.value.Kind.{Kind}
use Rattle.vm_model.specs.declared.value.Kind.TheVariants as kind
use Rattle.vm_model.specs.declared.value.Value.{Value}
use Rattle.vm_model.specs.declared.value.Value.TheVariants as value
use Rattle.vm_model.specs.Program.{PlainClass, PlainMethod, PlainProgram}
use Rattle.built_in_classes.specs.declared.numbers.TheConstants.{PRINT_STREAM, RUNNABLE, STRING, THREAD}
use Rattle.built_in_classes.specs.Classes.{has_constructor, has_text_constructor}
use Rattle.jasmin_lines.specs.declared.class_text.Operand.{Operand}
use Rattle.jasmin_lines.specs.declared.class_text.Operand.TheVariants as operand
use Rattle.jasmin_lines.specs.Plain.{PlainClassText, PlainFieldText, PlainLineText, PlainMethodText}
use Rattle.jasmin_lines.specs.Words.{is_class_name}
use Rattle.linking_laws.specs.Declared.{IsClass, is_among, extends_thread, is_thread_name, methods_declared, static_method, instance_method, is_static_method, is_main_method, own_fields, statics_declared, static_field, object_field, label_place, texts_used, each_once, text_place}
use Rattle.linking_laws.specs.Instructions.{said_of, without_operands, with_number, jumps, instance_calls, static_accesses, field_accesses, lock_members, thread_members, stream_members}

-- ---- descriptors (JVMS SE 8 §4.3)

-- a kind as a descriptor spells it
abbrev pub Spells : List PlainClassText → Kind → List ℕ → Type 0
Spells classes kind.Int desc = desc ≡ codes "I"
Spells classes kind.Arr desc = desc ≡ codes "[I"
Spells classes (kind.Ref n) desc = (name : List ℕ) × (is_class_name name ≡ true) × (desc ≡ 76 ∷ name ++ 59 ∷ []) × IsClass classes name n
Spells classes kind.Null desc = ⊥
Spells classes kind.Args desc = ⊥

-- what a method gives back
abbrev pub SpellsResult : List PlainClassText → Option Kind → List ℕ → Type 0
SpellsResult classes None text = text ≡ codes "V"
SpellsResult classes (Some k) text = Spells classes k text

-- what it takes stands in brackets, one after another
pub record SpellsMethod (classes : List PlainClassText) (desc : List ℕ) (params : List Kind) (gives : Option Kind) : Type 0 where
  pub parts : List (List ℕ)
  pub result : List ℕ
  pub is : desc ≡ 40 ∷ flat_map (λ part. part) parts ++ 41 ∷ result
  pub takes : AllZip (Spells classes) params parts
  pub gives_back : SpellsResult classes gives result

-- main's array of texts is a kind of its own, and no other method takes one
abbrev pub takes_texts : PlainMethodText → Bool
takes_texts m = bytes_eq m.name (codes "main") && bytes_eq m.desc (codes "([Ljava/lang/String;)V")

pub data IsSignature (classes : List PlainClassText) (m : PlainMethodText) (params : List Kind) (gives : Option Kind) : Type 0 where
  OfMain : takes_texts m ≡ true → params ≡ kind.Args ∷ [] → gives ≡ None → IsSignature classes m params gives
  Spelled : takes_texts m ≡ false → SpellsMethod classes m.desc params gives → IsSignature classes m params gives

-- ---- classes and fields

pub record LinksField (classes : List PlainClassText) (f : PlainFieldText) (g : Field) : Type 0 where
  pub name : g.name ≡ f.name
  pub kind : Spells classes g.kind f.desc

-- a class's run is its own method of that word, if it has one
pub record LinksClass (classes : List PlainClassText) (c : PlainClassText) (d : PlainClass) : Type 0 where
  pub name : d.name ≡ c.name
  pub is_thread : d.is_thread ≡ extends_thread c
  pub is_runnable : d.is_runnable ≡ not (length c.implements == 0)
  pub fields : AllZip (LinksField classes) (own_fields c) d.fields
  pub run : d.run ≡ instance_method classes (c.name ++ codes "/run()V")

-- what a static holds at first: the int that the text says or 0, and else null
abbrev pub first_value : Kind → Option ℤ → Value
first_value kind.Int said = value.Int (unwrap_or said (pos 0))
first_value kind.Null said = value.Null
first_value (kind.Ref class) said = value.Null
first_value kind.Arr said = value.Null
first_value kind.Args said = value.Null

pub record LinksStatic (classes : List PlainClassText) (d : List ℕ × PlainFieldText) (s : StaticSlot) : Type 0 where
  pub class : IsClass classes d.0 s.class
  pub name : s.name ≡ d.1.name
  pub kind : Spells classes s.kind d.1.desc
  pub start : s.start ≡ first_value s.kind d.1.value

-- ---- members of built-in classes

abbrev pub begins_with_bracket : List ℕ → Bool
begins_with_bracket [] = true
begins_with_bracket (b ∷ rest) = b == 40

-- a word is CLASS/MEMBER: the descriptor begins with the first bracket, and no slash is in the name before it
pub record IsMember (word class member : List ℕ) : Type 0 where
  pub name : List ℕ
  pub desc : List ℕ
  pub member_is : member ≡ name ++ desc
  pub word_is : word ≡ class ++ 47 ∷ member
  pub no_bracket : list_all (λ b. not (b == 40)) (class ++ 47 ∷ name) ≡ true
  pub no_slash : list_all (λ b. not (b == 47)) name ≡ true
  pub bracket : begins_with_bracket desc ≡ true

-- no method of the text has this word
abbrev pub IsNotDeclared : List PlainClassText → List ℕ → Type 0
IsNotDeclared classes word = (static_method classes word ≡ None) × (instance_method classes word ≡ None)

-- Thread's own run, after the methods of the text
abbrev pub thread_run : List PlainClassText → ℕ
thread_run classes = length (methods_declared classes)

-- a member of a built-in class that isn't static, called on an object of a class of this name and this number
pub data IsBuiltIn (classes : List PlainClassText) (class : List ℕ) (n : ℕ) (member : List ℕ) (i : Instr) : Type 0 where
  OfLock : (n == STRING || n == PRINT_STREAM) ≡ false → said_of member lock_members ≡ Some i → IsBuiltIn classes class n member i
  OfThread : is_thread_name classes class ≡ true → said_of member thread_members ≡ Some i → IsBuiltIn classes class n member i
  OfStream : n ≡ PRINT_STREAM → said_of member stream_members ≡ Some i → IsBuiltIn classes class n member i

-- a constructor of a built-in class
pub data IsConstructor (n : ℕ) (member : List ℕ) (i : Instr) : Type 0 where
  Plain : member ≡ codes "<init>()V" → has_constructor n ≡ true → i ≡ instr.Init n false → IsConstructor n member i
  WithTarget : member ≡ codes "<init>(Ljava/lang/Runnable;)V" → n ≡ THREAD → i ≡ instr.InitRunnable → IsConstructor n member i
  WithText : member ≡ codes "<init>(Ljava/lang/String;)V" → has_text_constructor n ≡ true → i ≡ instr.Init n true → IsConstructor n member i

-- Thread's own run: through Thread itself the object's class decides, and else it is called
pub data IsThreadRun (classes : List PlainClassText) (word class : List ℕ) (n : ℕ) (member : List ℕ) (i : Instr) : Type 0 where
  ByObject : word ≡ codes "invokevirtual" → n ≡ THREAD → i ≡ instr.RunOf THREAD → IsThreadRun classes word class n member i
  Inherited : word ≡ codes "invokevirtual" → (n == THREAD) ≡ false → i ≡ instr.InvokeVirtual (thread_run classes) → IsThreadRun classes word class n member i
  Special : word ≡ codes "invokespecial" → i ≡ instr.InvokeSpecial (thread_run classes) → IsThreadRun classes word class n member i

-- a call of what no method of the text is
pub data CallsBuiltIn (classes : List PlainClassText) (word class : List ℕ) (n : ℕ) (member : List ℕ) (i : Instr) : Type 0 where
  Yields : word ≡ codes "invokestatic" → member ≡ codes "yield()V" → is_thread_name classes class ≡ true → i ≡ instr.Yield → CallsBuiltIn classes word class n member i
  Runs : member ≡ codes "run()V" → is_thread_name classes class ≡ true → IsThreadRun classes word class n member i → CallsBuiltIn classes word class n member i
  OnObject : (word ≡ codes "invokevirtual") ⊎ (word ≡ codes "invokespecial") → IsBuiltIn classes class n member i → CallsBuiltIn classes word class n member i
  Constructs : word ≡ codes "invokespecial" → IsConstructor n member i → CallsBuiltIn classes word class n member i

-- ---- instructions

-- with one word: a label, a class, or a method
pub data LinksWord (classes : List PlainClassText) (m : PlainMethodText) (word x : List ℕ) (i : Instr) : Type 0 where
  Jumps : (to : ℕ) → label_place m x ≡ Some to → said_of word (jumps to) ≡ Some i → LinksWord classes m word x i
  Makes : (n : ℕ) → word ≡ codes "new" → IsClass classes x n → i ≡ instr.New n → LinksWord classes m word x i
  MakesArray : word ≡ codes "newarray" → i ≡ instr.NewArray → LinksWord classes m word x i
  CallsStatic : (n : ℕ) → word ≡ codes "invokestatic" → static_method classes x ≡ Some n → i ≡ instr.InvokeStatic n → LinksWord classes m word x i
  CallsMethod : (n : ℕ) → instance_method classes x ≡ Some n → said_of word (instance_calls n) ≡ Some i → LinksWord classes m word x i
  CallsOther : (class member : List ℕ) (n : ℕ) → IsNotDeclared classes x → IsMember x class member → IsClass classes class n → CallsBuiltIn classes word class n member i → LinksWord classes m word x i

-- the built-in static field
abbrev pub out_words : List ℕ
out_words = codes "java/lang/System/out Ljava/io/PrintStream;"

-- a field is CLASS/NAME, with no slash in the name
pub record IsFieldOf (word class : List ℕ) : Type 0 where
  pub name : List ℕ
  pub is : word ≡ class ++ 47 ∷ name
  pub no_slash : list_all (λ b. not (b == 47)) name ≡ true

-- with a field and its descriptor
pub data LinksFieldWord (classes : List PlainClassText) (word x desc : List ℕ) (i : Instr) : Type 0 where
  AtStatic : (n : ℕ) → static_field classes (x ++ 32 ∷ desc) ≡ Some n → said_of word (static_accesses n) ≡ Some i → LinksFieldWord classes word x desc i
  AtPlace : (class : List ℕ) (n place : ℕ) → IsFieldOf x class → IsClass classes class n → object_field classes (x ++ 32 ∷ desc) ≡ Some place → said_of word (field_accesses n place) ≡ Some i → LinksFieldWord classes word x desc i
  AtOut : word ≡ codes "getstatic" → x ++ 32 ∷ desc ≡ out_words → static_field classes out_words ≡ None → object_field classes out_words ≡ None → i ≡ instr.Out → LinksFieldWord classes word x desc i

-- an instruction, by the operands of its line
abbrev pub LinksOperands : List PlainClassText → PlainMethodText → List ℕ → List Operand → Instr → Type 0
LinksOperands classes m word [] i = said_of word without_operands ≡ Some i
LinksOperands classes m word (operand.Number n ∷ []) i = said_of word (with_number n) ≡ Some i
LinksOperands classes m word (operand.Text text ∷ []) i = (n : ℕ) × (text_place classes text ≡ Some n) × (i ≡ instr.PushText n)
LinksOperands classes m word (operand.Word x ∷ []) i = LinksWord classes m word x i
LinksOperands classes m word (operand.Number n ∷ operand.Number by ∷ []) i = i ≡ instr.Iinc (unsigned_abs n) by
LinksOperands classes m word (operand.Word x ∷ operand.Word desc ∷ []) i = LinksFieldWord classes word x desc i
LinksOperands classes m word _ i = ⊥

abbrev pub LinksLine : List PlainClassText → PlainMethodText → PlainLineText → Instr → Type 0
LinksLine classes m l i = LinksOperands classes m l.word l.operands i

-- ---- methods

pub record LinksMethod (classes : List PlainClassText) (d : List ℕ × PlainMethodText) (m : PlainMethod) : Type 0 where
  pub class : IsClass classes d.0 m.class
  pub name : m.name ≡ d.1.name
  pub signature : IsSignature classes d.1 m.params m.gives
  pub is_static : m.is_static ≡ is_static_method d
  pub is_synchronized : m.is_synchronized ≡ is_among (codes "synchronized") d.1.flags
  pub stack : m.max_stack ≡ d.1.stack
  pub locals : m.max_locals ≡ d.1.locals
  pub code : AllZip (LinksLine classes d.1) d.1.lines m.code

-- Thread's own run calls that of its target, if it has one (class library, `Thread.run`)
abbrev pub run_of_thread : PlainMethod
run_of_thread = record {
  class = THREAD;
  name = codes "run";
  params = [];
  gives = None;
  is_static = false;
  is_synchronized = false;
  max_stack = None;
  max_locals = None;
  code =
      instr.Aload 0 ∷ instr.GetField THREAD 0 ∷ instr.Astore 1 ∷ instr.Aload 1 ∷ instr.Ifnull 7 ∷ instr.Aload 1 ∷ instr.RunOf RUNNABLE ∷ instr.Return ∷ [];
}

-- the methods of the text in their order, and then Thread's own run
pub record LinksMethods (classes : List PlainClassText) (methods : List PlainMethod) : Type 0 where
  pub own : List PlainMethod
  pub is : methods ≡ own ++ run_of_thread ∷ []
  pub each : AllZip (LinksMethod classes) (methods_declared classes) own

-- ---- the program

pub record Links (classes : List PlainClassText) (p : PlainProgram) : Type 0 where
  pub classes_are : AllZip (LinksClass classes) classes p.classes
  pub methods_are : LinksMethods classes p.methods
  pub statics_are : AllZip (LinksStatic classes) (statics_declared classes) p.statics
  pub texts_are : p.texts ≡ each_once (texts_used classes)
  pub main_is : position_from is_main_method 0 (methods_declared classes) ≡ Some p.main
