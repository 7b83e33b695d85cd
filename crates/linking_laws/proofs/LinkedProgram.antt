-- Linking gives the program of its classes.
use Rattle.std.proofs.Common.{◌≡◌, ℕ, suc, ◌+◌, ◌*◌, ◌≤◌, Bool, true, false, List, [], ◌∷◌, ◌++◌, Option, Some, None, Ok, refl, sym, ap, ◌∙◌, subst, arith, length-append, ⊎_elim}
use Rattle.std.specs.Prelude.{not, ◌||◌, ◌==◌, if◌then◌else◌, length, map, filter, flat_map, codes, bytes_eq}
use Rattle.std.specs.List.{AllByRecursion, list_all, position_from}
use Rattle.std.proofs.lemmas.Bool.{false≢true}
use Rattle.std.proofs.lemmas.List.{length-map}
use Rattle.std.proofs.lemmas.Slice.Eq.{bytes_eq-Decides}
use Rattle.vm_model.specs.Program.{PlainClass, PlainProgram}
use Rattle.built_in_classes.specs.Classes.{BuiltInClass, built_in_classes, built_in_number, number_from}
use Rattle.built_in_classes.specs.Classes as table
use Rattle.jasmin_lines.specs.Plain.{PlainClassText, PlainFieldText, PlainLineText, PlainMethodText}
use Rattle.jasmin_lines.specs.Words.{is_name, is_name_byte, is_class_byte, is_class_name, is_filled}
use Rattle.name_resolver.specs.declared.names.Names.{Names}
use Rattle.name_resolver.specs.Index.{Rows, value_of}
use Rattle.name_resolver.specs.Descriptors.{or_user, class_of}
use Rattle.name_resolver.specs.Names.{next, no_counts, no_names, names_of}
use Rattle.class_linker.specs.Bodies.{PlainTexts, texts_of}
use Rattle.class_linker.specs.Programs.{linked_class, methods_of}
use Rattle.class_linker.specs.Linking.{linking}
use Rattle.shape_laws.proofs.Tests.{both, either, same}
use Rattle.linking_laws.specs.Declared.{IsClass, BuiltIn, OfText, class_built_in, class_of_text, statics_declared, own_fields, is_static_field, field_words, or_later, object_field, methods_declared, texts_used, text_in}
use Rattle.linking_laws.specs.Links.{out_words, Links}
use Rattle.linking_laws.specs.Named.{AreNamed, AreWritten}
use Rattle.linking_laws.proofs.Keys.{Without, tested, without_both, parted_first, parted_last}
use Rattle.linking_laws.proofs.Numbered.{Numbered}
use Rattle.linking_laws.proofs.Linkings as linkings
use Rattle.linking_laws.proofs.Linkings.{given, numbered, Nothing, all_nothing}
use Rattle.linking_laws.proofs.Bodies.{IsShort, bodies_none}
use Rattle.linking_laws.proofs.Counted.{statics_counted, classes_few}
use Rattle.linking_laws.proofs.LinkedLines.{Given, IsGiven, AllGiven, bodies_given, operands_few}
use Rattle.linking_laws.proofs.NamePlaces.{methods_with, of_functions, of_instance_methods, classes_found, classes_many, main_place, class_numbers}
use Rattle.linking_laws.proofs.FieldPlaces.{statics_found, places_found, threads_found}
use Rattle.linking_laws.proofs.TextPlaces.{texts_are, text_found}
use Rattle.linking_laws.proofs.LinkedCode.{NamesSo}
use Rattle.linking_laws.proofs.LinkedParts.{TypedFrom, classes_typed, slots_long, fields_long, methods_long, classes_link, statics_link, methods_link}

-- ---- how many text constants are used

lines_few : (names : Names) (run : ℕ) (texts labels : Rows) (ls : List PlainLineText) → AllByRecursion (Given names run texts labels) ls → length (flat_map (λ l. flat_map text_in l.operands) ls) ≤ length ls
lines_few names run texts labels [] given = omega arith
lines_few names run texts labels (l ∷ ls) given =
    omega (arith, length-append (flat_map text_in l.operands) (flat_map (λ k. flat_map text_in k.operands) ls), operands_few names run texts labels l.word l.operands given.0.0 given.0.1, lines_few names run texts labels ls given.1)

methods_few : (names : Names) (run : ℕ) (texts : Rows) (ms : List PlainMethodText) → AllByRecursion (IsGiven names run texts) ms → AllByRecursion IsShort ms
    → length (flat_map (λ m. flat_map (λ l. flat_map text_in l.operands) m.lines) ms) ≤ 16384 * length ms
methods_few names run texts [] given short = omega arith
methods_few names run texts (m ∷ ms) given short =
    omega (arith, length-append (flat_map (λ l. flat_map text_in l.operands) m.lines) (flat_map (λ k. flat_map (λ l. flat_map text_in l.operands) k.lines) ms), lines_few names run texts _ m.lines given.0, short.0, methods_few names run texts ms given.1 short.1)

classes_few_texts : (names : Names) (run : ℕ) (texts : Rows) (cs : List PlainClassText) → AllGiven names run texts cs → AllByRecursion (λ (c : PlainClassText). AllByRecursion IsShort c.methods) cs
    → length (texts_used cs) ≤ 16384 * length (methods_declared cs)
classes_few_texts names run texts [] given short = omega arith
classes_few_texts names run texts (c ∷ cs) given short =
    let many : length (methods_with c.name c.methods) ≡ length c.methods = length-map c.methods (λ m. (c.name, m)) in
    omega (
      arith,
      length-append (flat_map (λ m. flat_map (λ l. flat_map text_in l.operands) m.lines) c.methods) (texts_used cs),
      length-append (methods_with c.name c.methods) (methods_declared cs),
      many,
      methods_few names run texts c.methods given.0 short.0,
      classes_few_texts names run texts cs given.1 short.1,
    )

-- ---- the numbers of classes

-- a built-in class has its place in the table
built_in_is : (name : List ℕ) → built_in_number name ≡ class_built_in name
unfolding built_in_number
built_in_is name = by 0 built_in_classes
  where
    by : (n : ℕ) (cs : List BuiltInClass) → number_from n cs name ≡ position_from (λ other. bytes_eq name other) n (table.names_of cs)
    by n [] = refl
    by n (c ∷ cs) = ap (λ (o : Option ℕ). if bytes_eq name c.name then Some n else o) (by (n + 1) cs)

-- a class of the text, its place in the text
text_class : (classes : List PlainClassText) (p : PlainProgram) (name : List ℕ) → linkings.GivesByLinking classes p → value_of name (names_of classes).1.classes ≡ class_of_text classes name
unfolding names_of
text_class classes p name g = class_numbers (names_of classes).1 name classes no_counts None no_names g.declared

-- a class's number
class_so : (classes : List PlainClassText) (p : PlainProgram) → linkings.GivesByLinking classes p → (name : List ℕ) (n : ℕ) → class_of (names_of classes).1.classes name ≡ Some n → IsClass classes name n
class_so classes p g name n e = by (built_in_number name) refl e
  where
    by : (o : Option ℕ) → built_in_number name ≡ o → or_user (names_of classes).1.classes name o ≡ Some n → IsClass classes name n
    by (Some k) is h = BuiltIn (sym (built_in_is name) ∙ is ∙ h)
    by None is h = OfText (sym (built_in_is name) ∙ is) (sym (text_class classes p name g) ∙ h)

-- no class without a name
no_class : (names : Names) (start n : ℕ) (cs : List PlainClassText) → TypedFrom names n cs → position_from (λ c. bytes_eq [] c.name) start cs ≡ None
no_class names start n [] types = refl
no_class names start n (c ∷ cs) types = by c.name types.0.named (no_class names (start + 1) (next n) cs types.1)
  where
    by : (name : List ℕ) → not (length name == 0) ≡ true → position_from (λ d. bytes_eq [] d.name) (start + 1) cs ≡ None → (if bytes_eq [] name then Some start else position_from (λ d. bytes_eq [] d.name) (start + 1) cs) ≡ None
    by [] h more = absurd (false≢true h)
    by (b ∷ name) h more = more

nothing_built_in : built_in_number [] ≡ None
unfolding built_in_number
nothing_built_in = refl

-- ---- the class System

-- a name of a class, without a space
class_plain : (name : List ℕ) → (is_class_name name || length name == 0) ≡ true → Without 32 name
class_plain [] h = tt
class_plain (b ∷ rest) h =
    ⊎_elim (λ (n : is_class_name (b ∷ rest) ≡ true). tested is_class_byte 32 (b ∷ rest) refl (both (is_filled (b ∷ rest)) (list_all is_class_byte (b ∷ rest)) n).1)
    (λ (n : (length (b ∷ rest) == 0) ≡ true). absurd (filled (length rest) n)) (either (is_class_name (b ∷ rest)) (length (b ∷ rest) == 0) h)
  where
    filled : (n : ℕ) → (suc n == 0) ≡ true → ⊥
    filled n e = absurd (omega (arith, same (suc n) 0 e))

-- a name of a field, without a space and without a slash
name_plain : (b : ℕ) (name : List ℕ) → is_name_byte b ≡ false → is_name name ≡ true → Without b name
name_plain b name refuses h = tested is_name_byte b name refuses (both (is_filled name) (list_all is_name_byte name) h).1

-- a field of these words is one of the class System
of_system : (class name desc : List ℕ) → Without 32 class → is_name name ≡ true → out_words ≡ (class ++ 47 ∷ name) ++ 32 ∷ desc → codes "java/lang/System" ≡ class
of_system class name desc plain form e =
    let first : (codes "java/lang/System/out" ≡ class ++ 47 ∷ name) × (codes "Ljava/io/PrintStream;" ≡ desc) =
    parted_first 32 (codes "java/lang/System/out") (class ++ 47 ∷ name) (codes "Ljava/io/PrintStream;") desc (tested (λ x. not (x == 32)) 32 (codes "java/lang/System/out") refl refl)
    (without_both 32 class (47 ∷ name) plain ((λ h. absurd (omega (arith, h))), name_plain 32 name refl form)) e in
    (parted_last 47 (codes "java/lang/System") class (codes "out") name (tested (λ x. not (x == 47)) 47 (codes "out") refl refl) (name_plain 47 name refl form) first.0).0

-- a text without that class has no such field
no_system : (start : ℕ) (cs : List PlainClassText) → AreNamed cs → AreWritten cs → position_from (λ c. bytes_eq (codes "java/lang/System") c.name) start cs ≡ None → object_field cs out_words ≡ None
no_system start [] named written none = refl
no_system start (c ∷ cs) named written none = by (bytes_eq (codes "java/lang/System") c.name) refl none (no_system (start + 1) cs named.1 written.1)
  where
    apart : (f : PlainFieldText) → bytes_eq (codes "java/lang/System") c.name ≡ false → is_name f.name ≡ true → bytes_eq out_words (field_words c.name f) ≡ false
    apart f other form = decide (bytes_eq out_words (field_words c.name f)) refl
      where
        decide : (b : Bool) → bytes_eq out_words (field_words c.name f) ≡ b → b ≡ false
        decide false is = refl
        decide true is =
            absurd (false≢true (sym other ∙ (bytes_eq-Decides (codes "java/lang/System") c.name).1 (of_system c.name f.name f.desc (class_plain c.name named.0.name) form ((bytes_eq-Decides out_words (field_words c.name f)).0 is))))

    none_here : (n : ℕ) (fs : List PlainFieldText) → bytes_eq (codes "java/lang/System") c.name ≡ false → AllByRecursion (λ (f : PlainFieldText). is_name f.name ≡ true) fs
        → position_from (λ f. bytes_eq out_words (field_words c.name f)) n (filter (λ f. not (is_static_field f)) fs) ≡ None
    none_here n [] other forms = refl
    none_here n (f ∷ fs) other forms = choose (is_static_field f) (λ k. none_here k fs other forms.1)
      where
        rest : List PlainFieldText
        rest = filter (λ g. not (is_static_field g)) fs

        choose : (b : Bool) → ((k : ℕ) → position_from (λ g. bytes_eq out_words (field_words c.name g)) k rest ≡ None) → position_from (λ g. bytes_eq out_words (field_words c.name g)) n (if not b then f ∷ rest else rest) ≡ None
        choose true more = more n
        choose false more = ap (λ (b : Bool). if b then Some n else position_from (λ g. bytes_eq out_words (field_words c.name g)) (n + 1) rest) (apart f other forms.0) ∙ more (n + 1)

    some_none : {A : Type 0} (x : A) → Some x ≡ None → ⊥
    some_none x h = cc

    by : (b : Bool) → bytes_eq (codes "java/lang/System") c.name ≡ b → (if b then Some start else position_from (λ d. bytes_eq (codes "java/lang/System") d.name) (start + 1) cs) ≡ None
        → (position_from (λ d. bytes_eq (codes "java/lang/System") d.name) (start + 1) cs ≡ None → object_field cs out_words ≡ None) → object_field (c ∷ cs) out_words ≡ None
    by true is h more = absurd (some_none start h)
    by false is h more = ap (λ (o : Option ℕ). or_later o (object_field cs out_words)) (none_here _ c.fields is written.0.fields) ∙ more h

system_built_in : built_in_number (codes "java/lang/System") ≡ None
unfolding built_in_number
system_built_in = refl

-- ---- all names

-- the fields of objects are few
all_few : (names : Names) (cs : List PlainClassText) → AllByRecursion (λ (c : PlainClass). length c.fields ≤ 64) (map (linked_class names) cs) → AllByRecursion (λ (c : PlainClassText). length (own_fields c) ≤ 64) cs
all_few names [] few = tt
all_few names (c ∷ cs) few = (omega (arith, fields_long names c.fields, few.0), all_few names cs few.1)

-- what is few
pub record FewOf (classes : List PlainClassText) : Type 0 where
  methods : length (methods_declared classes) ≤ 1024
  statics : length (statics_declared classes) ≤ 1024
  places : AllByRecursion (λ (c : PlainClassText). length (own_fields c) ≤ 64) classes
  pub texts : length (texts_used classes) ≤ 16777216

pub few_of : (classes : List PlainClassText) (p : PlainProgram) → linkings.GivesByLinking classes p → FewOf classes
few_of classes p g = record {
  methods = methods;
  statics = omega (arith, slots_long names 32 classes, statics_counted names no_names classes no_counts None g.declared (omega arith));
  places = all_few names classes (classes_few names no_names classes no_counts None g.declared);
  texts = omega (arith, methods, classes_few_texts names thread_run texts.rows classes (bodies_given names thread_run texts.rows classes g.bodies) (bodies_none names thread_run texts.rows classes None g.bodies).1);
}
  where
    names : Names
    names = (names_of classes).1

    thread_run : ℕ
    thread_run = (names_of classes).0.methods

    texts : PlainTexts
    texts = texts_of classes

    s : Numbered Nothing names (methods_of names thread_run texts.rows 32 classes) (names_of classes).0 names
    s = numbered Nothing classes p (all_nothing classes) g

    methods : length (methods_declared classes) ≤ 1024
    methods = omega (arith, methods_long names thread_run texts.rows 32 classes, s.count, s.few)

-- the number of each name is its place
names_so : (classes : List PlainClassText) (p : PlainProgram) → AreNamed classes → AreWritten classes → linkings.GivesByLinking classes p → NamesSo classes (names_of classes).1 (names_of classes).0.methods (texts_of classes).rows
unfolding names_of
names_so classes p named written g = record {
  class = class_so classes p g;
  nameless = ap (or_user names.classes []) nothing_built_in ∙ text_class classes p [] g ∙ no_class names 32 32 classes (classes_typed names no_names classes no_counts None g.declared);
  thread = λ name. ap (λ (b : Bool). bytes_eq name (codes "java/lang/Thread") || b) (threads_found name classes no_counts no_names);
  functions = λ word. classes_found of_functions word classes no_counts no_names (omega (arith, few.methods));
  methods = λ word. classes_found of_instance_methods word classes no_counts no_names (omega (arith, few.methods));
  run_is = classes_many classes no_counts no_names (omega (arith, few.methods)) ∙ zero_more;
  statics = λ words. statics_found words classes no_counts no_names (omega (arith, few.statics));
  places = λ words. places_found words classes no_counts no_names few.places;
  system = λ none. no_system 32 classes named written (sym (text_class classes p (codes "java/lang/System") g) ∙ sym (ap (or_user names.classes (codes "java/lang/System")) system_built_in) ∙ none);
  texts_are = λ text. text_found classes text (omega (arith, few.texts));
}
  where
    names : Names
    names = (names_of classes).1

    few : FewOf classes
    few = few_of classes p g

    zero_more : 0 + length (methods_declared classes) ≡ length (methods_declared classes)
    zero_more = omega arith

-- ---- the program

pub linked_links : (classes : List PlainClassText) (p : PlainProgram) → AreNamed classes → AreWritten classes → linking classes ≡ Ok p → Links classes p
unfolding names_of
linked_links classes p named written e = subst (Links classes) g.is (record {
  classes_are = classes_link classes names thread_run texts.rows 32 classes so types;
  methods_are = record { own = methods_of names thread_run texts.rows 32 classes; is = refl; each = methods_link classes names thread_run texts.rows 32 classes so named written types bodies (bodies_none names thread_run texts.rows classes None g.bodies).1 };
  statics_are = statics_link classes names thread_run texts.rows 32 classes so types;
  texts_are = texts_are classes (omega (arith, few.texts));
  main_is = sym (main_place classes no_counts no_names (omega (arith, few.methods))) ∙ g.has_main;
})
  where
    g : linkings.GivesByLinking classes p
    g = given classes p e

    names : Names
    names = (names_of classes).1

    thread_run : ℕ
    thread_run = (names_of classes).0.methods

    texts : PlainTexts
    texts = texts_of classes

    few : FewOf classes
    few = few_of classes p g

    so : NamesSo classes names thread_run texts.rows
    so = names_so classes p named written g

    types : TypedFrom names 32 classes
    types = classes_typed names no_names classes no_counts None g.declared

    bodies : AllGiven names thread_run texts.rows classes
    bodies = bodies_given names thread_run texts.rows classes g.bodies
