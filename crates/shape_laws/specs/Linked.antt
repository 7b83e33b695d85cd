-- What linking gives, as far as the laws need it.
use Rattle.std.specs.Prelude.{◌≡◌, ℕ, ◌-◌, ◌==◌, Bool, true, false, not, ◌&&◌, ◌||◌, nat_lt, nat_le, IsTrue, IfSome, is_some, is_none, [], ◌∷◌, length, Option, Some, None}
use Rattle.std.specs.List.{AllByRecursion}
use Rattle.vm_model.specs.declared.limits.TheConstants.{FIRST_USER_CLASS}
use Rattle.vm_model.specs.declared.value.Kind.TheVariants as kind
use Rattle.vm_model.specs.declared.program.StaticSlot.{StaticSlot}
use Rattle.vm_model.specs.declared.instr.Instr.{Instr}
use Rattle.vm_model.specs.declared.instr.Instr.TheVariants as instr
use Rattle.vm_model.specs.Program.{PlainClass, PlainMethod, PlainProgram, class_at, method_at}
use Rattle.built_in_classes.specs.declared.numbers.TheConstants.{PRINT_STREAM, RUNNABLE, STRING, THREAD}
use Rattle.machine_model.specs.Declarations.{declarations_of}
use Rattle.machine_model.specs.Kinds.{is_class}
use Rattle.shape_laws.specs.Fitting.{has_objects, is_of}

-- `run()V` of this class
abbrev pub is_run_method : ℕ → Option PlainMethod → Bool
is_run_method class None = false
is_run_method class (Some m) = m.class == class && not m.is_static && length m.params == 0 && is_none m.gives

-- the last method is Thread's own run
abbrev pub has_thread_run : PlainProgram → Bool
has_thread_run p = is_run_method THREAD (method_at p (length p.methods - 1))

-- Objects are made of classes that have some; run is called through Thread or Runnable, and only where Thread's own is
-- there; texts and the stream have no constructor.
abbrev pub is_linked_instr : PlainProgram → Instr → Bool
is_linked_instr p (instr.New class) = has_objects class
is_linked_instr p (instr.RunOf class) = (class == THREAD || class == RUNNABLE) && has_thread_run p
is_linked_instr p instr.Start = has_thread_run p
is_linked_instr p (instr.Init class text) = not (class == STRING || class == PRINT_STREAM)
is_linked_instr p _ = true

-- a method that takes a receiver is one of Thread or of a user class
pub record IsLinkedMethod (p : PlainProgram) (m : PlainMethod) : Type 0 where
  pub code : AllByRecursion (λ (i : Instr). IsTrue (is_linked_instr p i)) m.code
  pub class : m.is_static ≡ false → (m.class == THREAD || nat_le FIRST_USER_CLASS m.class) ≡ true

-- a class that implements Runnable has a run of its own, unless it extends Thread
pub record IsLinkedClass (p : PlainProgram) (number : ℕ) (class : PlainClass) : Type 0 where
  pub run : IfSome class.run (λ method. IsTrue (is_run_method number (method_at p method)))
  pub runnable : class.is_runnable ≡ true → class.is_thread ≡ false → is_some class.run ≡ true

pub record IsLinkedMain (m : PlainMethod) : Type 0 where
  pub is_static : m.is_static ≡ true
  pub params : m.params ≡ kind.Args ∷ []

abbrev pub HasLinkedMain : Option PlainMethod → Type 0
HasLinkedMain None = ⊥
HasLinkedMain (Some m) = IsLinkedMain m

pub record IsWellLinked (p : PlainProgram) : Type 0 where
  pub methods : AllByRecursion (IsLinkedMethod p) p.methods
  pub classes : (number : ℕ) (class : PlainClass) → class_at p number ≡ Some class → IsLinkedClass p number class
  pub main : HasLinkedMain (method_at p p.main)
  -- a static begins with a value of its kind
  pub statics : AllByRecursion (λ (s : StaticSlot). IsTrue (is_of p s.start s.kind)) p.statics

-- the class of which an instruction makes an object is there, and the text that it pushes
abbrev pub names_what_is_there : PlainProgram → Instr → Bool
names_what_is_there p (instr.New class) = is_class (declarations_of p) class
names_what_is_there p (instr.PushText text) = nat_lt text (length p.texts)
names_what_is_there p _ = true

-- the class of a method is there too: Thread's own methods take a receiver, and all others are of classes of the program
pub record MethodNamesWhatIsThere (p : PlainProgram) (m : PlainMethod) : Type 0 where
  pub code : AllByRecursion (λ (i : Instr). IsTrue (names_what_is_there p i)) m.code
  pub class : ((m.class == THREAD && not m.is_static) || is_some (class_at p m.class)) ≡ true

pub record NamesWhatIsThere (p : PlainProgram) : Type 0 where
  pub methods : AllByRecursion (MethodNamesWhatIsThere p) p.methods
