-- A linked program keeps the limits of a program as a whole.
use Rattle.std.proofs.Common.{◌≡◌, ℕ, suc, ◌≤◌, Bool, true, false, not, List, [], ◌∷◌, None, Ok, ap, subst, arith}
use Rattle.std.specs.Prelude.{length, map, filter, bytes_eq, if◌then◌else◌}
use Rattle.std.proofs.lemmas.List.{length-map}
use Rattle.vm_model.specs.Program.{PlainProgram}
use Rattle.jasmin_lines.specs.Plain.{PlainClassText}
use Rattle.name_resolver.specs.declared.names.Names.{Names}
use Rattle.name_resolver.specs.Names.{names_of, no_counts, no_names}
use Rattle.class_linker.specs.Bodies.{PlainTexts, texts_of}
use Rattle.class_linker.specs.Programs.{linked_class, slots_of}
use Rattle.class_linker.specs.Linking.{linking}
use Rattle.linking_laws.specs.Declared.{texts_used, each_once}
use Rattle.linking_laws.specs.Limits.{HasFewClasses, HasFewMethods, HasFewStatics, HasFewFields, HasShortTexts, HasFewTexts}
use Rattle.linking_laws.proofs.Counted.{statics_counted, classes_few, classes_counted}
use Rattle.linking_laws.proofs.LinkedLines.{bodies_given, texts_short}
use Rattle.linking_laws.proofs.Linkings.{GivesByLinking, given, linked_is_few}
use Rattle.linking_laws.proofs.LinkedProgram.{FewOf, few_of}
use Rattle.linking_laws.proofs.TextPlaces.{texts_are}

-- each text once is no more than all of them
kept_few : (q : List ℕ → Bool) (xs : List (List ℕ)) → length (filter q xs) ≤ length xs
kept_few q [] = omega arith
kept_few q (x ∷ xs) = by (q x) (kept_few q xs)
  where
    by : (b : Bool) → length (filter q xs) ≤ length xs → length (if b then x ∷ filter q xs else filter q xs) ≤ suc (length xs)
    by true h = omega (arith, h)
    by false h = omega (arith, h)

once_few : (xs : List (List ℕ)) → length (each_once xs) ≤ length xs
once_few [] = omega arith
once_few (x ∷ xs) = omega (arith, kept_few (λ other. not (bytes_eq other x)) (each_once xs), once_few xs)

-- all limits of a program as a whole
pub record KeepsAll (p : PlainProgram) : Type 0 where
  pub classes : HasFewClasses p
  pub methods : HasFewMethods p
  pub statics : HasFewStatics p
  pub fields : HasFewFields p
  pub texts : HasShortTexts p
  pub numbers : HasFewTexts p

pub linked_keeps_all : (classes : List PlainClassText) (p : PlainProgram) → linking classes ≡ Ok p → KeepsAll p
linked_keeps_all classes p e = record {
  classes = subst HasFewClasses g.is few_classes;
  methods = (linked_is_few classes p e).few;
  statics = subst HasFewStatics g.is few_statics;
  fields = subst HasFewFields g.is (classes_few names no_names classes no_counts None g.declared);
  texts = subst HasShortTexts g.is (texts_short names thread_run texts.rows classes (bodies_given names thread_run texts.rows classes g.bodies));
  numbers = subst HasFewTexts g.is few_texts;
}
  where
    names : Names
    names = (names_of classes).1

    thread_run : ℕ
    thread_run = (names_of classes).0.methods

    texts : PlainTexts
    texts = texts_of classes

    g : GivesByLinking classes p
    g = given classes p e

    used : FewOf classes
    used = few_of classes p g

    few_texts : length texts.names ≤ 16777216
    few_texts = omega (arith, ap (λ (xs : List (List ℕ)). length xs) (texts_are classes (omega (arith, used.texts))), once_few (texts_used classes), used.texts)

    few_classes : length (map (linked_class names) classes) ≤ 256
    few_classes = omega (arith, length-map classes (linked_class names), classes_counted names no_names classes no_counts None g.declared (omega arith))

    few_statics : length (slots_of names 32 classes) ≤ 1024
    few_statics = omega (arith, statics_counted names no_names classes no_counts None g.declared (omega arith))
