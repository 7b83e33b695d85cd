-- A program that linking gives keeps what the laws of verified programs need.
use Rattle.std.proofs.Common.{◌≡◌, ℕ, zero, suc, ◌+◌, ◌-◌, ◌≤◌, Bool, true, false, List, [], ◌∷◌, ◌++◌, Option, Some, None, Ok, refl, sym, ap, ◌∙◌, subst, arith}
use Rattle.std.specs.Prelude.{length, map, not, ◌&&◌, ◌==◌, nat_le, if◌then◌else◌, is_none, IfSome, slice_get, codes}
use Rattle.std.specs.List.{AllByRecursion}
use Rattle.std.proofs.lemmas.Bool.Decides.{nat_tests}
use Rattle.vm_model.specs.declared.value.Kind.{Kind}
use Rattle.vm_model.specs.Program.{PlainClass, PlainMethod, PlainProgram, class_at}
use Rattle.jasmin_lines.specs.Plain.{PlainClassText, PlainMethodText}
use Rattle.class_linker.specs.declared.fault.Refusal.{Refusal}
use Rattle.name_resolver.specs.declared.names.Counts.{Counts}
use Rattle.name_resolver.specs.declared.names.Names.{Names}
use Rattle.name_resolver.specs.Index.{Rows, value_of}
use Rattle.name_resolver.specs.Words.{method_key}
use Rattle.name_resolver.specs.Descriptors.{types_within, method_signature, kind_of, kind_given}
use Rattle.name_resolver.specs.Names.{next, names_of, no_counts, no_names, with_classes, with_whole}
use Rattle.class_linker.specs.Judging.{classes_judged, class_judged, has_run}
use Rattle.class_linker.specs.Bodies.{PlainTexts, texts_of, labels_of}
use Rattle.class_linker.specs.Programs.{linked_class, methods_in, methods_of, thread_method}
use Rattle.class_linker.specs.Linking.{program_of, linking}
use Rattle.shape_laws.specs.Linked.{is_run_method, has_thread_run, IsLinkedMethod, IsLinkedClass, HasLinkedMain, IsWellLinked}
use Rattle.shape_laws.proofs.Tests.{all_both, on_right, joined, same_self}
use Rattle.linking_laws.specs.Named.{IsNamedMethod, IsNamedClass, AreNamed}
use Rattle.linking_laws.proofs.Codes.{Numbers, code_linked}
use Rattle.linking_laws.proofs.Statics.{statics_fit}
use Rattle.linking_laws.proofs.Judged.{FineClass, JudgedClasses, classes_first}
use Rattle.linking_laws.proofs.Keys.{Without, class_without_bracket, same_parts}
use Rattle.linking_laws.proofs.Numbered.{none_some, some_same, Known, AllKnown, Numbered, OwnedAt, MainAt, next_number, there_before, behind_class, number_behind}
use Rattle.linking_laws.proofs.Runs.{Has, run_added, names_behind}
use Rattle.linking_laws.proofs.Linkings.{GivesByLinking, given, numbered}
use Rattle.linking_laws.proofs.There.{at_least, next_above, numbers}

-- ---- methods

-- the methods of a class
methods_linked : (p : PlainProgram) (names : Names) (thread_run : ℕ) (texts : Rows) (class : ℕ) (ms : List PlainMethodText) → Numbers p names texts → 32 ≤ class → AllByRecursion (IsLinkedMethod p) (methods_in names thread_run texts class ms)
unfolding methods_in
methods_linked p names thread_run texts class [] there above = tt
methods_linked p names thread_run texts class (m ∷ ms) there above =
    (record { code = code_linked p names thread_run texts (labels_of m) m.lines there; class = λ h. on_right (class == 1) (nat_le 32 class) (at_least 32 class above) }, methods_linked p names thread_run texts class ms there above)

-- the methods of all classes
all_linked : (p : PlainProgram) (names : Names) (thread_run : ℕ) (texts : Rows) (n : ℕ) (cs : List PlainClassText) → Numbers p names texts → 32 ≤ n → AllByRecursion (IsLinkedMethod p) (methods_of names thread_run texts n cs)
unfolding methods_of
all_linked p names thread_run texts n [] there above = tt
all_linked p names thread_run texts n (c ∷ cs) there above =
    all_both (IsLinkedMethod p) (methods_in names thread_run texts n c.methods) (methods_of names thread_run texts (next n) cs) (methods_linked p names thread_run texts n c.methods there above) (all_linked p names thread_run texts (next n) cs there (next_above n above))

-- Thread's own run
thread_linked : (p : PlainProgram) → has_thread_run p ≡ true → IsLinkedMethod p thread_method
thread_linked p run = record { code = (refl, (refl, (refl, (refl, (refl, (refl, (run, (refl, tt)))))))); class = λ h. refl }

-- ---- main

-- main is among all methods
main_there : (methods : List PlainMethod) (k : ℕ) → MainAt methods k → HasLinkedMain (slice_get (methods ++ thread_method ∷ []) k)
main_there methods k main = subst HasLinkedMain (sym (there_before methods (thread_method ∷ []) k main.method main.there)) main.is_main

-- ---- classes

-- what is known of methods whose names the reader lets through
abbrev pub Named : Known
Named class m = Without 40 class × IsNamedMethod m

-- the methods of a class with a name
each_named : (class : List ℕ) (ms : List PlainMethodText) → Without 40 class → AllByRecursion IsNamedMethod ms → AllByRecursion (Named class) ms
each_named class [] h all = tt
each_named class (m ∷ ms) h all = ((h, all.0), each_named class ms h all.1)

-- the methods of all classes
all_named : (cs : List PlainClassText) → AreNamed cs → AllKnown Named cs
all_named [] all = tt
all_named (c ∷ cs) all = (each_named c.name c.methods (class_without_bracket c.name all.0.name) all.0.methods, all_named cs all.1)

-- the class of a number
record ClassOf (judging : Names) (number : ℕ) (class : PlainClass) : Type 0 where
  pub text : PlainClassText
  pub is : linked_class judging text ≡ class
  pub fine : FineClass judging number text
  pub named : IsNamedClass text
  pub own_run : has_run text ≡ true → Has (method_key text.name (codes "run") (codes "()V")) judging

-- all names are those of the classes, one after another
all_named_so : (classes : List PlainClassText) → with_classes classes no_counts no_names ≡ names_of classes
unfolding names_of
all_named_so classes = refl

-- each class that is let through has its own number
class_of : (judging : Names) (whole : Counts × Names) (names : Names) (cs : List PlainClassText) (n : Counts) (found : Option Refusal) (i : ℕ) (class : PlainClass) → AreNamed cs → classes_judged judging cs n found ≡ None → with_classes cs n names ≡ whole → whole.1 ≡ judging
    → slice_get (map (linked_class judging) cs) i ≡ Some class → ClassOf judging (n.classes + i) class
class_of judging whole names [] n found i class all e behind are is = absurd (none_some class is)
class_of judging whole names (c ∷ cs) n found zero class all e behind are is =
    let first : JudgedClasses judging names c cs n found = classes_first judging names c cs n found e in
    let same : n.classes ≡ n.classes + 0 = omega arith in
    subst (λ (k : ℕ). ClassOf judging k class) same (record { text = c; is = some_same (linked_class judging c) class is; fine = first.class; named = all.0; own_run = λ has. subst (Has (method_key c.name (codes "run") (codes "()V"))) (ap (λ (w : Counts × Names). w.1) behind ∙ are) (run_added c cs n names has) })
class_of judging whole names (c ∷ cs) n found (suc i) class all e behind are is =
    let first : JudgedClasses judging names c cs n found = classes_first judging names c cs n found e in
    let counted : (behind_class c n names).classes ≡ n.classes + 1 = number_behind judging names c n first.class ∙ next_number n.classes (omega (arith, first.class.few)) in
    let same : (behind_class c n names).classes + i ≡ n.classes + suc i = omega (arith, counted) in
    subst (λ (k : ℕ). ClassOf judging k class) same (class_of judging whole (with_whole c n names).1 cs (behind_class c n names) (class_judged judging c n found).1 i class all.1 first.rest (sym (names_behind c cs n names) ∙ behind) are is)

-- the descriptor of run takes nothing
run_params : (classes : Rows) → map kind_of (method_signature classes (codes "run") (codes "()V")).params ≡ []
unfolding types_within
run_params classes = refl

-- and gives nothing
run_gives : (classes : Rows) → kind_given (method_signature classes (codes "run") (codes "()V")).gives ≡ None
unfolding types_within
run_gives classes = refl

-- the method of the word of a class's run is that class's
run_there : (judging : Names) (methods : List PlainMethod) (number : ℕ) (c : PlainClassText) (k : ℕ) → FineClass judging number c → IsNamedClass c → OwnedAt Named judging methods (method_key c.name (codes "run") (codes "()V")) k
    → is_run_method number (slice_get (methods ++ thread_method ∷ []) k) ≡ true
run_there judging methods number c k fine named at =
    subst (λ (o : Option PlainMethod). is_run_method number o ≡ true) (sym (there_before methods (thread_method ∷ []) k at.method at.there)) is_run
  where
    key : method_key c.name (codes "run") (codes "()V") ≡ method_key at.owned.class at.owned.text.name (40 ∷ at.owned.is_known.1.rest)
    key = at.owned.is_key ∙ ap (λ (desc : List ℕ). method_key at.owned.class at.owned.text.name desc) at.owned.is_known.1.desc

    same : (c.name ≡ at.owned.class) × (codes "run" ≡ at.owned.text.name) × (codes ")V" ≡ at.owned.is_known.1.rest)
    same = same_parts c.name (codes "run") (codes ")V") at.owned.class at.owned.text.name at.owned.is_known.1.rest (class_without_bracket c.name named.name) at.owned.is_known.0 refl at.owned.is_known.1.name key

    same_desc : codes "()V" ≡ at.owned.text.desc
    same_desc = ap (λ (rest : List ℕ). 40 ∷ rest) same.2 ∙ sym at.owned.is_known.1.desc

    same_number : number ≡ at.method.class
    same_number = some_same number at.method.class (sym fine.has_number ∙ ap (λ (name : List ℕ). value_of name judging.classes) same.0 ∙ at.owned.number)

    no_params : at.method.params ≡ []
    no_params =
        at.owned.params ∙ sym (ap (λ (name : List ℕ). map kind_of (method_signature judging.classes name at.owned.text.desc).params) same.1)
        ∙ sym (ap (λ (desc : List ℕ). map kind_of (method_signature judging.classes (codes "run") desc).params) same_desc) ∙ run_params judging.classes

    no_result : at.method.gives ≡ None
    no_result =
        at.owned.gives ∙ sym (ap (λ (name : List ℕ). kind_given (method_signature judging.classes name at.owned.text.desc).gives) same.1)
        ∙ sym (ap (λ (desc : List ℕ). kind_given (method_signature judging.classes (codes "run") desc).gives) same_desc) ∙ run_gives judging.classes

    is_run : (at.method.class == number && not at.method.is_static && length at.method.params == 0 && is_none at.method.gives) ≡ true
    is_run =
        joined (at.method.class == number && not at.method.is_static && length at.method.params == 0) (is_none at.method.gives)
        (joined (at.method.class == number && not at.method.is_static) (length at.method.params == 0)
        (joined (at.method.class == number) (not at.method.is_static) (subst (λ (j : ℕ). (j == number) ≡ true) same_number (same_self number)) (ap not at.owned.instance)) (ap (λ (params : List Kind). length params == 0) no_params))
        (ap (λ (gives : Option Kind). is_none gives) no_result)

-- what holds of a number where it is found
if_found : (P : ℕ → Type 0) (o : Option ℕ) → ((k : ℕ) → o ≡ Some k → P k) → IfSome o P
if_found P None h = tt
if_found P (Some k) h = h k refl

-- ---- the whole program

-- a linked program keeps what the laws of verified programs need
pub linked_is_well_linked : (classes : List PlainClassText) (p : PlainProgram) → AreNamed classes → linking classes ≡ Ok p → IsWellLinked p
linked_is_well_linked classes p named e = subst IsWellLinked g.is (record {
  methods = all_both (IsLinkedMethod whole) methods (thread_method ∷ []) (all_linked whole names thread_run texts.rows 32 classes there (omega arith)) (thread_linked whole there.run, tt);
  classes = class_linked;
  main = main_there methods g.main (s.main g.main g.has_main);
  statics = statics_fit whole names 32 classes;
})
  where
    names : Names
    names = (names_of classes).1

    thread_run : ℕ
    thread_run = (names_of classes).0.methods

    texts : PlainTexts
    texts = texts_of classes

    methods : List PlainMethod
    methods = methods_of names thread_run texts.rows 32 classes

    g : GivesByLinking classes p
    g = given classes p e

    whole : PlainProgram
    whole = program_of names thread_run texts g.main classes

    there : Numbers whole names texts.rows
    there = numbers classes g.main

    s : Numbered Named names methods (names_of classes).0 names
    s = numbered Named classes p (all_named classes named) g

    class_linked_by : (number : ℕ) (class : PlainClass) → ClassOf names number class → IsLinkedClass whole number class
    class_linked_by number class at = subst (IsLinkedClass whole number) at.is (record {
      run = if_found (λ k. is_run_method number (slice_get (methods ++ thread_method ∷ []) k) ≡ true) (value_of (method_key at.text.name (codes "run") (codes "()V")) names.instance_methods)
          (λ k found. run_there names methods number at.text k at.fine at.named (s.rows (method_key at.text.name (codes "run") (codes "()V")) k found));
      runnable = λ runnable no_thread. at.own_run (at.fine.run runnable);
    })

    class_there : (number : ℕ) (class : PlainClass) (b : Bool) → nat_le 32 number ≡ b → (if b then slice_get (map (linked_class names) classes) (number - 32) else None) ≡ Some class → IsLinkedClass whole number class
    class_there number class false low is = absurd (none_some class is)
    class_there number class true low is =
        let same : 32 + (number - 32) ≡ number = grind (arith, nat_tests) in
        class_linked_by number class (subst (λ (k : ℕ). ClassOf names k class) same (class_of names (names_of classes) no_names classes no_counts None (number - 32) class named g.declared (all_named_so classes) refl is))

    class_linked : (number : ℕ) (class : PlainClass) → class_at whole number ≡ Some class → IsLinkedClass whole number class
    class_linked number class is = class_there number class (nat_le 32 number) refl is
