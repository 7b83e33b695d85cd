-- A program that linking gives names what is there.
use Rattle.std.proofs.Common.{◌≡◌, ℕ, ◌+◌, ◌≤◌, true, List, [], ◌∷◌, Ok, refl, subst, arith}
use Rattle.std.specs.Prelude.{length, not, ◌&&◌, ◌==◌, is_some}
use Rattle.std.specs.List.{AllByRecursion}
use Rattle.std.proofs.lemmas.List.{length-map}
use Rattle.vm_model.specs.Program.{PlainProgram, class_at}
use Rattle.jasmin_lines.specs.Plain.{PlainClassText, PlainMethodText}
use Rattle.name_resolver.specs.declared.names.Names.{Names}
use Rattle.name_resolver.specs.Index.{Rows}
use Rattle.name_resolver.specs.Names.{next, is_static, names_of}
use Rattle.class_linker.specs.Bodies.{PlainTexts, texts_of, labels_of}
use Rattle.class_linker.specs.Programs.{linked_class, methods_in, methods_of, thread_method}
use Rattle.class_linker.specs.Linking.{linking}
use Rattle.shape_laws.specs.Linked.{MethodNamesWhatIsThere, NamesWhatIsThere}
use Rattle.shape_laws.proofs.Tests.{all_both, on_right}
use Rattle.linking_laws.proofs.Codes.{Numbers, code_there}
use Rattle.linking_laws.proofs.Linkings.{GivesByLinking, given}
use Rattle.linking_laws.proofs.There.{next_above, next_within, user_there, whole_of, numbers}

-- the methods of a class
methods_there : (p : PlainProgram) (names : Names) (thread_run : ℕ) (texts : Rows) (class : ℕ) (ms : List PlainMethodText) → Numbers p names texts → is_some (class_at p class) ≡ true
    → AllByRecursion (MethodNamesWhatIsThere p) (methods_in names thread_run texts class ms)
unfolding methods_in
methods_there p names thread_run texts class [] there known = tt
methods_there p names thread_run texts class (m ∷ ms) there known =
    (record { code = code_there p names thread_run texts (labels_of m) m.lines there; class = on_right (class == 1 && not (is_static m.flags)) (is_some (class_at p class)) known }, methods_there p names thread_run texts class ms there known)

-- the methods of all classes
all_there : (p : PlainProgram) (names : Names) (thread_run : ℕ) (texts : Rows) (n : ℕ) (cs : List PlainClassText) → Numbers p names texts → 32 ≤ n → n + length cs ≤ 32 + length p.classes
    → AllByRecursion (MethodNamesWhatIsThere p) (methods_of names thread_run texts n cs)
unfolding methods_of
all_there p names thread_run texts n [] there above below = tt
all_there p names thread_run texts n (c ∷ cs) there above below =
    all_both (MethodNamesWhatIsThere p) (methods_in names thread_run texts n c.methods) (methods_of names thread_run texts (next n) cs)
    (methods_there p names thread_run texts n c.methods there (user_there p n above (omega (arith, below))))
    (all_there p names thread_run texts (next n) cs there (next_above n above) (omega (arith, next_within n, below)))

-- Thread's own run names no class and no text
thread_there : (p : PlainProgram) → MethodNamesWhatIsThere p thread_method
thread_there p = record { code = (refl, (refl, (refl, (refl, (refl, (refl, (refl, (refl, tt)))))))); class = refl }

-- a linked program names what is there
pub linked_names_there : (classes : List PlainClassText) (p : PlainProgram) → linking classes ≡ Ok p → NamesWhatIsThere p
linked_names_there classes p e = subst NamesWhatIsThere g.is (record {
  methods = all_both (MethodNamesWhatIsThere whole) (methods_of names thread_run texts.rows 32 classes) (thread_method ∷ []) (all_there whole names thread_run texts.rows 32 classes (numbers classes g.main) (omega arith) below) (thread_there whole, tt);
})
  where
    names : Names
    names = (names_of classes).1

    thread_run : ℕ
    thread_run = (names_of classes).0.methods

    texts : PlainTexts
    texts = texts_of classes

    g : GivesByLinking classes p
    g = given classes p e

    whole : PlainProgram
    whole = whole_of classes g.main

    below : 32 + length classes ≤ 32 + length whole.classes
    below = omega (arith, length-map classes (linked_class names))
