-- What it says of classes that linking gives a program, and what holds of that program.
use Rattle.std.proofs.Common.{◌≡◌, ℕ, ◌≤◌, List, [], ◌∷◌, ◌++◌, Option, Some, None, Ok, Err, refl, subst, arith, length-append}
use Rattle.std.specs.Prelude.{length}
use Rattle.std.specs.List.{AllByRecursion}
use Rattle.vm_model.specs.Program.{PlainMethod, PlainProgram, method_at}
use Rattle.vm_model.specs.Plain.{IsWithinBounds}
use Rattle.vm_model.specs.Failures.{◌>>=◌}
use Rattle.jasmin_lines.specs.Plain.{PlainClassText, PlainMethodText}
use Rattle.class_linker.specs.declared.fault.Refusal.{Refusal}
use Rattle.name_resolver.specs.declared.names.Names.{Names}
use Rattle.name_resolver.specs.Names.{names_of, no_counts, no_names}
use Rattle.class_linker.specs.Judging.{classes_judged}
use Rattle.class_linker.specs.Bodies.{PlainTexts, texts_of, bodies_judged}
use Rattle.class_linker.specs.Programs.{methods_of, thread_method}
use Rattle.class_linker.specs.Linking.{unless_found, main_of, program_of, linked_with, linking}
use Rattle.shape_laws.proofs.Tests.{all_both, all_there}
use Rattle.linking_laws.specs.Limits.{KeepsLimits}
use Rattle.linking_laws.proofs.Lists.{weaker}
use Rattle.linking_laws.proofs.Numbered.{none_some, Known, AllKnown, IsLimited, Numbered, classes_numbered}
use Rattle.linking_laws.proofs.Bodies.{IsShortCode, bodies_short}

-- ---- a program that linking gives

-- what it says of classes that they give this program
pub record Gives (names : Names) (thread_run : ℕ) (texts : PlainTexts) (classes : List PlainClassText) (p : PlainProgram) : Type 0 where
  pub declared : classes_judged names classes no_counts None ≡ None
  pub bodies : bodies_judged names thread_run texts.rows classes None ≡ None
  pub main : ℕ
  pub has_main : names.main ≡ Some main
  pub is : program_of names thread_run texts main classes ≡ p

-- a fault is no program
refused : {A : Type 0} (f : Refusal) (x : A) → Err f ≡ Ok x → ⊥
refused f x e = cc

-- by the three questions, in their order
gives : (names : Names) (thread_run : ℕ) (texts : PlainTexts) (classes : List PlainClassText) (p : PlainProgram) → linked_with classes names thread_run texts ≡ Ok p → Gives names thread_run texts classes p
unfolding linked_with
gives names thread_run texts classes p e = by (classes_judged names classes no_counts None) refl (bodies_judged names thread_run texts.rows classes None) refl names.main refl e
  where
    by : (a : Option Refusal) → classes_judged names classes no_counts None ≡ a → (b : Option Refusal) → bodies_judged names thread_run texts.rows classes None ≡ b → (m : Option ℕ) → names.main ≡ m
        → ((unless_found a >>= λ declared. unless_found b) >>= λ right. main_of m >>= λ main. Ok (program_of names thread_run texts main classes)) ≡ Ok p → Gives names thread_run texts classes p
    by (Some f) is b is_b m is_m h = absurd (refused f p h)
    by None is (Some f) is_b m is_m h = absurd (refused f p h)
    by None is None is_b None is_m h = absurd (refused _ p h)
    by None is None is_b (Some main) is_m h = record { declared = is; bodies = is_b; main = main; has_main = is_m; is = cc }

-- the same with the names, the texts and the number of methods of these classes
abbrev pub GivesByLinking : List PlainClassText → PlainProgram → Type 0
GivesByLinking classes p = Gives (names_of classes).1 (names_of classes).0.methods (texts_of classes) classes p

-- linking gives this program
pub given : (classes : List PlainClassText) (p : PlainProgram) → linking classes ≡ Ok p → GivesByLinking classes p
unfolding linking
given classes p e = gives (names_of classes).1 (names_of classes).0.methods (texts_of classes) classes p e

-- the methods have the numbers of the names
pub numbered : (known : Known) (classes : List PlainClassText) (p : PlainProgram) → AllKnown known classes → GivesByLinking classes p
    → Numbered known (names_of classes).1 (methods_of (names_of classes).1 (names_of classes).0.methods (texts_of classes).rows 32 classes) (names_of classes).0 (names_of classes).1
unfolding names_of
numbered known classes p all g =
    classes_numbered known (names_of classes).1 (names_of classes).0.methods (texts_of classes).rows classes [] no_counts None no_names all g.declared
    (record { count = refl; few = omega arith; rows = λ key k e. absurd (none_some k e); main = λ k e. absurd (none_some k e); limits = tt })

-- ---- how large it is

-- nothing need be known of methods
abbrev pub Nothing : Known
Nothing class m = Unit {0}

-- that holds of the methods of a class
each_nothing : (class : List ℕ) (ms : List PlainMethodText) → AllByRecursion (Nothing class) ms
each_nothing class [] = tt
each_nothing class (m ∷ ms) = (tt, each_nothing class ms)

-- and of those of all classes
pub all_nothing : (cs : List PlainClassText) → AllKnown Nothing cs
all_nothing [] = tt
all_nothing (c ∷ cs) = (each_nothing c.name c.methods, all_nothing cs)

-- at most 1,024 methods and Thread's own run, each of at most 16,384 instructions
pub record IsFew (p : PlainProgram) : Type 0 where
  pub short : AllByRecursion IsShortCode p.methods
  pub few : length p.methods ≤ 1025

-- a linked program has few methods, which are short
pub linked_is_few : (classes : List PlainClassText) (p : PlainProgram) → linking classes ≡ Ok p → IsFew p
linked_is_few classes p e = subst IsFew g.is (record { short = all_both IsShortCode methods (thread_method ∷ []) (bodies_short names thread_run texts.rows 32 classes g.bodies) (omega arith, tt); few = few })
  where
    names : Names
    names = (names_of classes).1

    thread_run : ℕ
    thread_run = (names_of classes).0.methods

    texts : PlainTexts
    texts = texts_of classes

    methods : List PlainMethod
    methods = methods_of names thread_run texts.rows 32 classes

    g : GivesByLinking classes p
    g = given classes p e

    s : Numbered Nothing names methods (names_of classes).0 names
    s = numbered Nothing classes p (all_nothing classes) g

    few : length (methods ++ thread_method ∷ []) ≤ 1025
    few = omega (arith, length-append methods (thread_method ∷ []), s.count, s.few)

-- so it is within the bounds that a machine needs
pub linked_is_small : (classes : List PlainClassText) (p : PlainProgram) → linking classes ≡ Ok p → IsWithinBounds p
linked_is_small classes p e =
    let few : IsFew p = linked_is_few classes p e in
    record { small = weaker IsShortCode (λ (m : PlainMethod). length m.code ≤ 1048576) p.methods (λ m h. omega (arith, h)) few.short; few = omega (arith, few.few) }

-- each method keeps the limits
pub linked_keep_limits : (classes : List PlainClassText) (p : PlainProgram) (k : ℕ) (m : PlainMethod) → linking classes ≡ Ok p → method_at p k ≡ Some m → KeepsLimits m
linked_keep_limits classes p k m e there =
    record { params = limited.params; code = all_there IsShortCode p.methods k m (linked_is_few classes p e).short there; stack = limited.stack; locals = limited.locals }
  where
    names : Names
    names = (names_of classes).1

    thread_run : ℕ
    thread_run = (names_of classes).0.methods

    methods : List PlainMethod
    methods = methods_of names thread_run (texts_of classes).rows 32 classes

    g : GivesByLinking classes p
    g = given classes p e

    s : Numbered Nothing names methods (names_of classes).0 names
    s = numbered Nothing classes p (all_nothing classes) g

    thread : IsLimited thread_method
    thread = record { params = omega arith; stack = tt; locals = tt }

    all : AllByRecursion IsLimited p.methods
    all = subst (λ (whole : PlainProgram). AllByRecursion IsLimited whole.methods) g.is (all_both IsLimited methods (thread_method ∷ []) s.limits (thread, tt))

    limited : IsLimited m
    limited = all_there IsLimited p.methods k m all there
