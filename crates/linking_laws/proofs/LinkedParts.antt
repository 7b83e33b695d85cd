-- The parts of a program whose names are known: its classes, its statics and its methods.
use Rattle.std.proofs.Common.{◌≡◌, ℕ, Bool, true, false, List, [], ◌∷◌, ◌++◌, Option, Some, None, refl, sym, ap, ◌∙◌, subst, arith, append_assoc, length-append}
use Rattle.std.specs.Prelude.{ℤ, not, ◌&&◌, ◌||◌, if◌then◌else◌, length, map, filter, is_some, codes, bytes_eq}
use Rattle.std.specs.List.{AllByRecursion, AllZip}
use Rattle.std.proofs.lemmas.Bool.{false≢true}
use Rattle.std.proofs.lemmas.List.{length-map}
use Rattle.vm_model.specs.declared.program.Field.{Field}
use Rattle.vm_model.specs.declared.value.Kind.{Kind}
use Rattle.vm_model.specs.declared.value.Kind.TheVariants as kind
use Rattle.built_in_classes.specs.Classes.{built_in_number}
use Rattle.jasmin_lines.specs.Plain.{PlainClassText, PlainFieldText, PlainMethodText}
use Rattle.name_resolver.specs.declared.descriptors.Typed.TheVariants as typed
use Rattle.name_resolver.specs.declared.fault.LinkKind.TheVariants as kinds
use Rattle.class_linker.specs.declared.fault.Refusal.{Refusal}
use Rattle.name_resolver.specs.declared.names.Counts.{Counts}
use Rattle.name_resolver.specs.declared.names.Names.{Names}
use Rattle.name_resolver.specs.Index.{Rows, value_of}
use Rattle.name_resolver.specs.Words.{has_foreign_flag, method_key, is_init}
use Rattle.name_resolver.specs.Descriptors.{PlainSignature, or_user, class_of, type_of, method_signature, in_signature, is_unknown, is_bad, is_outside}
use Rattle.name_resolver.specs.Names.{next, is_named, is_static, class_begun, field_counted, method_counted, with_whole}
use Rattle.class_linker.specs.Judging.{is_this, gives_wrong, has_too_many, is_foreign_method, is_reserved_method, fields_judged, judged_method, methods_judged, lines_judged, class_judged, classes_judged, taken}
use Rattle.class_linker.specs.Bodies.{labels_of}
use Rattle.class_linker.specs.Programs.{field_kind, start_of, static_slot, slots_in, slots_of, fields_of, linked_class, linked_method, methods_in, methods_of}
use Rattle.linking_laws.specs.Named.{IsNamedMethod, AreNamed, IsWrittenLine, AreWritten}
use Rattle.linking_laws.specs.Declared.{IsClass, is_static_field, statics_declared, methods_declared, instance_method}
use Rattle.linking_laws.specs.Links.{first_value, LinksField, LinksClass, LinksStatic, LinksMethod}
use Rattle.linking_laws.proofs.Judged.{noted_none, only_none, neither, methods_none, JudgedClasses, classes_first, behind_fields}
use Rattle.linking_laws.proofs.Numbered.{behind_class}
use Rattle.linking_laws.proofs.Bodies.{IsShort}
use Rattle.linking_laws.proofs.Counted.{field_first, fields_found, next_behind}
use Rattle.linking_laws.proofs.FieldPlaces.{paired, statics_with}
use Rattle.linking_laws.proofs.NamePlaces.{methods_with}
use Rattle.linking_laws.proofs.LinkedLines.{IsGiven, AllGiven}
use Rattle.linking_laws.proofs.LinkedCode.{NamesSo, code_links}
use Rattle.linking_laws.proofs.Places.{label_found}
use Rattle.linking_laws.proofs.SpelledKinds.{typed_so, whole_so, signature_so}

-- ---- what is let through

-- a field's type is one of the language
abbrev pub FieldTyped : Names → PlainFieldText → Type 0
FieldTyped names f = typed.Of (field_kind names f) ≡ type_of names.classes f.desc

fields_typed : (names : Names) (class : List ℕ) (before : ℕ) (fs : List PlainFieldText) (n : Counts) (found : Option Refusal) → (fields_judged names class before fs n found).1 ≡ None → AllByRecursion (FieldTyped names) fs
unfolding fields_judged
fields_typed names class before [] n found e = tt
fields_typed names class before (f ∷ fs) n found e =
    let first : _ = field_first names class before f fs n found e in
    (typed_so (type_of names.classes f.desc) first.known first.spelled first.inside, fields_typed names class before fs (field_counted f n) _ e)

-- so are those of a method
pub record MethodTyped (names : Names) (m : PlainMethodText) : Type 0 where
  pub known : in_signature is_unknown (method_signature names.classes m.name m.desc) ≡ false
  pub spelled : in_signature is_bad (method_signature names.classes m.name m.desc) ≡ false
  pub inside : in_signature is_outside (method_signature names.classes m.name m.desc) ≡ false

method_typed : (names : Names) (class : List ℕ) (m : PlainMethodText) (n : Counts) → judged_method names class m n ≡ None → MethodTyped names m
method_typed names class m n e =
    let known : _ = only_none kinds.UnknownClass (in_signature is_unknown s) _ e in
    let once : _ = only_none kinds.Twice (not (is_this n.methods (value_of (method_key class m.name m.desc) names.methods))) _ known.1 in
    let right : _ = only_none kinds.BadDescriptor (gives_wrong m s) _ once.1 in
    let room : _ = only_none kinds.TooMany (has_too_many m s n) _ right.1 in
    let inside : _ = only_none kinds.OutOfProfile (is_foreign_method m s (is_reserved_method m)) None room.1 in
    record { known = known.0; spelled = (neither (in_signature is_bad s) _ right.0).0; inside = outside inside.0 }
  where
    s : PlainSignature
    s = method_signature names.classes m.name m.desc

    outside : is_foreign_method m s (is_reserved_method m) ≡ false → in_signature is_outside s ≡ false
    outside h =
        let a : _ = neither (has_foreign_flag m.flags || in_signature is_outside s || bytes_eq m.name (codes "<clinit>") || (is_init m.name && is_static m.flags)) (is_reserved_method m) h in
        let b : _ = neither (has_foreign_flag m.flags || in_signature is_outside s || bytes_eq m.name (codes "<clinit>")) (is_init m.name && is_static m.flags) a.0 in
        let c : _ = neither (has_foreign_flag m.flags || in_signature is_outside s) (bytes_eq m.name (codes "<clinit>")) b.0 in
        (neither (has_foreign_flag m.flags) (in_signature is_outside s) c.0).1

methods_typed : (names : Names) (class : List ℕ) (ms : List PlainMethodText) (n : Counts) (found : Option Refusal) → (methods_judged names class ms n found).1 ≡ None → AllByRecursion (MethodTyped names) ms
unfolding methods_judged
methods_typed names class [] n found e = tt
methods_typed names class (m ∷ ms) n found e =
    (method_typed names class m n (noted_none found m.line (judged_method names class m n) (methods_none names class ms (method_counted n) _ e)).1, methods_typed names class ms (method_counted n) _ e)

-- a class has its own number, and types of the language
pub record ClassTyped (names : Names) (n : ℕ) (c : PlainClassText) : Type 0 where
  pub named : is_named c ≡ true
  pub number : class_of names.classes c.name ≡ Some n
  pub fields : AllByRecursion (FieldTyped names) c.fields
  pub methods : AllByRecursion (MethodTyped names) c.methods

-- classes from a number on
abbrev pub TypedFrom : Names → ℕ → List PlainClassText → Type 0
TypedFrom names n [] = Unit {0}
TypedFrom names n (c ∷ cs) = ClassTyped names n c × TypedFrom names (next n) cs

-- the class of a name that no built-in one has
user_class : (rows : Rows) (name : List ℕ) (n : ℕ) → is_some (built_in_number name) ≡ false → value_of name rows ≡ Some n → class_of rows name ≡ Some n
user_class rows name n none e = by (built_in_number name) none
  where
    by : (o : Option ℕ) → is_some o ≡ false → or_user rows name o ≡ Some n
    by None h = e
    by (Some k) h = absurd (false≢true (sym h))

pub classes_typed : (judging names : Names) (cs : List PlainClassText) (n : Counts) (found : Option Refusal) → classes_judged judging cs n found ≡ None → TypedFrom judging n.classes cs
classes_typed judging names [] n found e = tt
classes_typed judging names (c ∷ cs) n found e =
    let first : JudgedClasses judging names c cs n found = classes_first judging names c cs n found e in (
      record {
        named = first.class.named;
        number = user_class judging.classes c.name n.classes first.class.user first.class.has_number;
        fields = fields_typed judging c.name (taken c) c.fields (class_begun c n) (lines_judged judging c n found) (fields_found judging names c cs n found first);
        methods = methods_typed judging c.name c.methods (behind_fields judging c n found).0 (behind_fields judging c n found).1 first.methods;
      },
      subst (λ (k : ℕ). TypedFrom judging k cs) (sym (next_behind judging names c cs n found first)) (classes_typed judging (with_whole c n names).1 cs (behind_class c n names) (class_judged judging c n found).1 first.rest),
    )

-- ---- lengths

pub slots_long : (names : Names) (n : ℕ) (cs : List PlainClassText) → length (slots_of names n cs) ≡ length (statics_declared cs)
unfolding slots_of slots_in
slots_long names n [] = refl
slots_long names n (c ∷ cs) =
    let here : length (slots_in names n c.fields) ≡ length (statics_with c.name c.fields) = own c.fields in
    let rest : length (slots_of names (next n) cs) ≡ length (statics_declared cs) = slots_long names (next n) cs in
    omega (arith, length-append (slots_in names n c.fields) (slots_of names (next n) cs), length-append (statics_with c.name c.fields) (statics_declared cs), here, rest)
  where
    own : (fs : List PlainFieldText) → length (slots_in names n fs) ≡ length (statics_with c.name fs)
    own [] = refl
    own (f ∷ fs) = by (is_static f.flags) (own fs)
      where
        by : (b : Bool) → length (slots_in names n fs) ≡ length (statics_with c.name fs)
            → length (if b then static_slot names n f ∷ slots_in names n fs else slots_in names n fs) ≡ length (paired c.name (if b then f ∷ filter is_static_field fs else filter is_static_field fs))
        by true h = omega (arith, h)
        by false h = h

pub fields_long : (names : Names) (fs : List PlainFieldText) → length (fields_of names fs) ≡ length (filter (λ f. not (is_static_field f)) fs)
unfolding fields_of
fields_long names [] = refl
fields_long names (f ∷ fs) = by (is_static f.flags) (fields_long names fs)
  where
    rest : List PlainFieldText
    rest = filter (λ g. not (is_static_field g)) fs

    by : (b : Bool) → length (fields_of names fs) ≡ length rest → length (if b then fields_of names fs else record { name = f.name; kind = field_kind names f } ∷ fields_of names fs) ≡ length (if not b then f ∷ rest else rest)
    by true h = h
    by false h = omega (arith, h)

pub methods_long : (names : Names) (run : ℕ) (texts : Rows) (n : ℕ) (cs : List PlainClassText) → length (methods_of names run texts n cs) ≡ length (methods_declared cs)
unfolding methods_of methods_in
methods_long names run texts n [] = refl
methods_long names run texts n (c ∷ cs) =
    let many : length (methods_with c.name c.methods) ≡ length c.methods = length-map c.methods (λ m. (c.name, m)) in
    let rest : length (methods_of names run texts (next n) cs) ≡ length (methods_declared cs) = methods_long names run texts (next n) cs in
    omega (arith, length-append (methods_in names run texts n c.methods) (methods_of names run texts (next n) cs), length-append (methods_with c.name c.methods) (methods_declared cs), own c.methods, many, rest)
  where
    own : (ms : List PlainMethodText) → length (methods_in names run texts n ms) ≡ length ms
    own [] = refl
    own (m ∷ ms) = omega (arith, own ms)

-- ---- two lists side by side

zip_both : {A B : Type 0} (R : A → B → Type 0) (xs us : List A) (ys vs : List B) → AllZip R xs ys → AllZip R us vs → AllZip R (xs ++ us) (ys ++ vs)
zip_both R [] us [] vs h k = k
zip_both R [] us (y ∷ ys) vs h k = absurd h
zip_both R (x ∷ xs) us [] vs h k = absurd h
zip_both R (x ∷ xs) us (y ∷ ys) vs h k = (h.0, zip_both R xs us ys vs h.1 k)

-- ---- fields

fields_link : (classes : List PlainClassText) (names : Names) (run : ℕ) (texts : Rows) (fs : List PlainFieldText) → NamesSo classes names run texts → AllByRecursion (FieldTyped names) fs
    → AllZip (LinksField classes) (filter (λ f. not (is_static_field f)) fs) (fields_of names fs)
unfolding fields_of
fields_link classes names run texts [] so types = tt
fields_link classes names run texts (f ∷ fs) so types = by (is_static f.flags) (fields_link classes names run texts fs so types.1)
  where
    rest : List PlainFieldText
    rest = filter (λ g. not (is_static_field g)) fs

    new : Field
    new = record { name = f.name; kind = field_kind names f }

    by : (b : Bool) → AllZip (LinksField classes) rest (fields_of names fs) → AllZip (LinksField classes) (if not b then f ∷ rest else rest) (if b then fields_of names fs else new ∷ fields_of names fs)
    by true h = h
    by false h = (record { name = refl; kind = whole_so classes names.classes f.desc (field_kind names f) so.class (sym types.0) }, h)

-- statics begin with what the text says
start_is : (k : Kind) (said : Option ℤ) → start_of k said ≡ first_value k said
start_is kind.Int said = refl
start_is kind.Null said = refl
start_is (kind.Ref n) said = refl
start_is kind.Arr said = refl
start_is kind.Args said = refl

slots_link : (classes : List PlainClassText) (names : Names) (run : ℕ) (texts : Rows) (class : List ℕ) (n : ℕ) (fs : List PlainFieldText) → NamesSo classes names run texts → IsClass classes class n → AllByRecursion (FieldTyped names) fs
    → AllZip (LinksStatic classes) (statics_with class fs) (slots_in names n fs)
unfolding slots_in
slots_link classes names run texts class n [] so is types = tt
slots_link classes names run texts class n (f ∷ fs) so is types = by (is_static f.flags) (slots_link classes names run texts class n fs so is types.1)
  where
    by : (b : Bool) → AllZip (LinksStatic classes) (statics_with class fs) (slots_in names n fs)
        → AllZip (LinksStatic classes) (paired class (if b then f ∷ filter is_static_field fs else filter is_static_field fs)) (if b then static_slot names n f ∷ slots_in names n fs else slots_in names n fs)
    by true h = (record { class = is; name = refl; kind = whole_so classes names.classes f.desc (field_kind names f) so.class (sym types.0); start = start_is (field_kind names f) f.value }, h)
    by false h = h

pub statics_link : (classes : List PlainClassText) (names : Names) (run : ℕ) (texts : Rows) (n : ℕ) (cs : List PlainClassText) → NamesSo classes names run texts → TypedFrom names n cs → AllZip (LinksStatic classes) (statics_declared cs) (slots_of names n cs)
unfolding slots_of
statics_link classes names run texts n [] so types = tt
statics_link classes names run texts n (c ∷ cs) so types =
    zip_both (LinksStatic classes) (statics_with c.name c.fields) (statics_declared cs) (slots_in names n c.fields) (slots_of names (next n) cs)
    (slots_link classes names run texts c.name n c.fields so (so.class c.name n types.0.number) types.0.fields) (statics_link classes names run texts (next n) cs so types.1)

-- ---- classes

-- the word of a class's run
run_word : (class : List ℕ) → method_key class (codes "run") (codes "()V") ≡ class ++ codes "/run()V"
run_word class = append_assoc class (47 ∷ codes "run") (codes "()V") ∙ ap (λ (w : List ℕ). class ++ w) run_is
  where
    run_is : (47 ∷ codes "run") ++ codes "()V" ≡ codes "/run()V"
    run_is = refl

pub classes_link : (classes : List PlainClassText) (names : Names) (run : ℕ) (texts : Rows) (n : ℕ) (cs : List PlainClassText) → NamesSo classes names run texts → TypedFrom names n cs → AllZip (LinksClass classes) cs (map (linked_class names) cs)
classes_link classes names run texts n [] so types = tt
classes_link classes names run texts n (c ∷ cs) so types =
    (record { name = refl; is_thread = refl; is_runnable = refl; fields = fields_link classes names run texts c.fields so types.0.fields; run = so.methods (method_key c.name (codes "run") (codes "()V")) ∙ ap (instance_method classes) (run_word c.name) }, classes_link classes names run texts (next n) cs so types.1)

-- ---- methods

-- what is known of a method: its name and its types have their forms, and its lines are linked
record Right (classes : List PlainClassText) (names : Names) (run : ℕ) (texts : Rows) (m : PlainMethodText) : Type 0 where
  named : IsNamedMethod m
  types : MethodTyped names m
  written : AllByRecursion IsWrittenLine m.lines
  given : IsGiven names run texts m
  short : IsShort m

method_links : (classes : List PlainClassText) (names : Names) (run : ℕ) (texts : Rows) (class : List ℕ) (n : ℕ) (m : PlainMethodText) → NamesSo classes names run texts → IsClass classes class n → Right classes names run texts m
    → LinksMethod classes (class, m) (linked_method names run texts n m)
method_links classes names run texts class n m so is right = record {
  class = is;
  name = refl;
  signature = signature_so classes names.classes m right.named.rest so.class right.named.desc right.types.known right.types.spelled right.types.inside;
  is_static = refl;
  is_synchronized = refl;
  stack = refl;
  locals = refl;
  code = code_links classes names run texts (labels_of m) m m.lines so (λ label. label_found m label right.short) right.written right.given;
}

-- the methods of a class
own_link : (classes : List PlainClassText) (names : Names) (run : ℕ) (texts : Rows) (class : List ℕ) (n : ℕ) (ms : List PlainMethodText) → NamesSo classes names run texts → IsClass classes class n → AllByRecursion IsNamedMethod ms
    → AllByRecursion (MethodTyped names) ms → AllByRecursion (λ (m : PlainMethodText). AllByRecursion IsWrittenLine m.lines) ms → AllByRecursion (IsGiven names run texts) ms → AllByRecursion IsShort ms
    → AllZip (LinksMethod classes) (methods_with class ms) (methods_in names run texts n ms)
unfolding methods_in
own_link classes names run texts class n [] so is named types written given short = tt
own_link classes names run texts class n (m ∷ ms) so is named types written given short =
    (method_links classes names run texts class n m so is (record { named = named.0; types = types.0; written = written.0; given = given.0; short = short.0 }), own_link classes names run texts class n ms so is named.1 types.1 written.1 given.1 short.1)

pub methods_link : (classes : List PlainClassText) (names : Names) (run : ℕ) (texts : Rows) (n : ℕ) (cs : List PlainClassText) → NamesSo classes names run texts → AreNamed cs → AreWritten cs → TypedFrom names n cs → AllGiven names run texts cs
    → AllByRecursion (λ (c : PlainClassText). AllByRecursion IsShort c.methods) cs → AllZip (LinksMethod classes) (methods_declared cs) (methods_of names run texts n cs)
unfolding methods_of
methods_link classes names run texts n [] so named written types given short = tt
methods_link classes names run texts n (c ∷ cs) so named written types given short =
    zip_both (LinksMethod classes) (methods_with c.name c.methods) (methods_declared cs) (methods_in names run texts n c.methods) (methods_of names run texts (next n) cs)
    (own_link classes names run texts c.name n c.methods so (so.class c.name n types.0.number) named.0.methods types.0.methods written.0.lines given.0 short.0)
    (methods_link classes names run texts (next n) cs so named.1 written.1 types.1 given.1 short.1)
