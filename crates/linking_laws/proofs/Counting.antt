-- What is counted up to a place in a text: how many classes, fields and methods stand before it.
use Rattle.std.proofs.Common.{◌≡◌, ℕ, ◌+◌, ◌<◌, ◌≤◌, Bool, true, false, List, [], ◌∷◌, ◌++◌, refl, sym, ap, ◌∙◌, subst, arith, append_assoc, append-nil, length-append}
use Rattle.std.specs.Prelude.{not, if◌then◌else◌, length, map, filter, flat_map, bytes_eq}
use Rattle.std.specs.List.{list_any}
use Rattle.std.proofs.lemmas.List.{length-map}
use Rattle.jasmin_lines.specs.Plain.{PlainClassText, PlainFieldText, PlainMethodText}
use Rattle.name_resolver.specs.declared.names.Counts.{Counts}
use Rattle.name_resolver.specs.Index.{Rows, value_of}
use Rattle.name_resolver.specs.Names.{next, is_static, is_thread, class_begun, counted_if, field_counted, method_counted}
use Rattle.class_linker.specs.Judging.{is_this, taken}
use Rattle.linking_laws.specs.LinkFaults.{fields_counted, methods_counted, whole_counted}
use Rattle.linking_laws.specs.Types.{is_class}
use Rattle.linking_laws.specs.Rules.{field_name, method_name, field_names, method_names, IsCountable}
use Rattle.linking_laws.proofs.Numbered.{next_number}
use Rattle.linking_laws.proofs.Members.{filter_few}
use Rattle.linking_laws.proofs.Adding.{adding, numbered, found_in, own_number}
use Rattle.linking_laws.proofs.NameRows.{names_of_classes}

-- ---- lists

pub flat_both : {A B : Type 0} (f : A → List B) (xs ys : List A) → flat_map f (xs ++ ys) ≡ flat_map f xs ++ flat_map f ys
flat_both f [] ys = refl
flat_both f (x ∷ xs) ys = ap (λ zs. f x ++ zs) (flat_both f xs ys) ∙ sym (append_assoc (f x) (flat_map f xs) (flat_map f ys))

pub flat_end : {A B : Type 0} (f : A → List B) (xs : List A) (x : A) → flat_map f (xs ++ x ∷ []) ≡ flat_map f xs ++ f x
flat_end f xs x = flat_both f xs (x ∷ []) ∙ ap (λ zs. flat_map f xs ++ zs) (append-nil (f x))

pub map_both : {A B : Type 0} (f : A → B) (xs ys : List A) → map f (xs ++ ys) ≡ map f xs ++ map f ys
map_both f [] ys = refl
map_both f (x ∷ xs) ys = ap (λ zs. f x ∷ zs) (map_both f xs ys)

pub filter_both : {A : Type 0} (test : A → Bool) (xs ys : List A) → filter test (xs ++ ys) ≡ filter test xs ++ filter test ys
filter_both test [] ys = refl
filter_both test (x ∷ xs) ys = by (test x) (filter_both test xs ys)
  where
    by : (b : Bool) → filter test (xs ++ ys) ≡ filter test xs ++ filter test ys → (if b then x ∷ filter test (xs ++ ys) else filter test (xs ++ ys)) ≡ (if b then x ∷ filter test xs else filter test xs) ++ filter test ys
    by true e = ap (λ zs. x ∷ zs) e
    by false e = e

-- one more
pub filter_one : {A : Type 0} (test : A → Bool) (xs : List A) (x : A) → length (filter test (xs ++ x ∷ [])) ≡ length (filter test xs) + (if test x then 1 else 0)
filter_one test xs x = ap (λ zs. length zs) (filter_both test xs (x ∷ [])) ∙ length-append (filter test xs) (filter test (x ∷ [])) ∙ ap (λ (n : ℕ). length (filter test xs) + n) (by (test x))
  where
    by : (b : Bool) → length (if b then x ∷ [] else []) ≡ (if b then 1 else 0)
    by true = refl
    by false = refl

pub length_one : {A : Type 0} (xs : List A) (x : A) → length (xs ++ x ∷ []) ≡ length xs + 1
length_one xs x = length-append xs (x ∷ [])

-- names are as many as what they name
field_names_many : (classes : List PlainClassText) → length (field_names classes) ≡ length (flat_map (λ (d : PlainClassText). d.fields) classes)
field_names_many [] = refl
field_names_many (c ∷ cs) =
    let here : _ = length-map c.fields (field_name c) in
    let rest : _ = field_names_many cs in
    omega (arith, here, rest, length-append (map (field_name c) c.fields) (field_names cs), length-append c.fields (flat_map (λ (d : PlainClassText). d.fields) cs))

method_names_many : (classes : List PlainClassText) → length (method_names classes) ≡ length (flat_map (λ (d : PlainClassText). d.methods) classes)
method_names_many [] = refl
method_names_many (c ∷ cs) =
    let here : _ = length-map c.methods (method_name c) in
    let rest : _ = method_names_many cs in
    omega (arith, here, rest, length-append (map (method_name c) c.methods) (method_names cs), length-append c.methods (flat_map (λ (d : PlainClassText). d.methods) cs))

-- ---- a place

-- a class of a text, whose names are few enough to be counted
pub record Here (text before : List PlainClassText) (c : PlainClassText) (after : List PlainClassText) : Type 0 where
  pub there : text ≡ before ++ c ∷ after
  pub countable : IsCountable text

pub classes_few : (text before : List PlainClassText) (c : PlainClassText) (after : List PlainClassText) → Here text before c after → 32 + length (filter is_class before) < 2147483647
classes_few text before c after h =
    let all : length text ≡ length (before ++ c ∷ after) = ap (λ (xs : List PlainClassText). length xs) h.there in
    let few : 32 + length text < 2147483647 = h.countable.classes in
    omega (arith, all, few, length-append before (c ∷ after), filter_few is_class before)

pub fields_few : (text before : List PlainClassText) (c : PlainClassText) (after : List PlainClassText) → Here text before c after → length (flat_map (λ (d : PlainClassText). d.fields) before ++ c.fields) < 2147483647
fields_few text before c after h =
    let all : length (flat_map (λ (d : PlainClassText). d.fields) text) ≡ length (flat_map (λ (d : PlainClassText). d.fields) before ++ (c.fields ++ flat_map (λ (d : PlainClassText). d.fields) after)) =
    ap (λ (xs : List PlainClassText). length (flat_map (λ (d : PlainClassText). d.fields) xs)) h.there ∙ ap (λ (xs : List PlainFieldText). length xs) (flat_both (λ (d : PlainClassText). d.fields) before (c ∷ after)) in
    let few : length (flat_map (λ (d : PlainClassText). d.fields) text) < 2147483647 = h.countable.fields in
    omega (arith, all, few, length-append (flat_map (λ (d : PlainClassText). d.fields) before) (c.fields ++ flat_map (λ (d : PlainClassText). d.fields) after), length-append c.fields (flat_map (λ (d : PlainClassText). d.fields) after), length-append (flat_map (λ (d : PlainClassText). d.fields) before) c.fields)

pub methods_few : (text before : List PlainClassText) (c : PlainClassText) (after : List PlainClassText) → Here text before c after → length (flat_map (λ (d : PlainClassText). d.methods) before ++ c.methods) < 2147483647
methods_few text before c after h =
    let all : length (flat_map (λ (d : PlainClassText). d.methods) text) ≡ length (flat_map (λ (d : PlainClassText). d.methods) before ++ (c.methods ++ flat_map (λ (d : PlainClassText). d.methods) after)) =
    ap (λ (xs : List PlainClassText). length (flat_map (λ (d : PlainClassText). d.methods) xs)) h.there ∙ ap (λ (xs : List PlainMethodText). length xs) (flat_both (λ (d : PlainClassText). d.methods) before (c ∷ after)) in
    let few : length (flat_map (λ (d : PlainClassText). d.methods) text) < 2147483647 = h.countable.methods in
    omega (arith, all, few, length-append (flat_map (λ (d : PlainClassText). d.methods) before) (c.methods ++ flat_map (λ (d : PlainClassText). d.methods) after), length-append c.methods (flat_map (λ (d : PlainClassText). d.methods) after), length-append (flat_map (λ (d : PlainClassText). d.methods) before) c.methods)

-- ---- counts

abbrev pub is_static_field : PlainFieldText → Bool
is_static_field f = is_static f.flags

abbrev pub is_instance_field : PlainFieldText → Bool
is_instance_field f = not (is_static f.flags)

abbrev pub all_fields : List PlainClassText → List PlainFieldText
all_fields classes = flat_map (λ (d : PlainClassText). d.fields) classes

abbrev pub all_methods : List PlainClassText → List PlainMethodText
all_methods classes = flat_map (λ (d : PlainClassText). d.methods) classes

-- before a class
pub record Counted (before : List PlainClassText) (n : Counts) : Type 0 where
  pub classes : n.classes ≡ 32 + length (filter is_class before)
  pub fields : n.fields ≡ length (all_fields before)
  pub statics : n.statics ≡ length (filter is_static_field (all_fields before))
  pub methods : n.methods ≡ length (all_methods before)

-- before a field of a class
pub record CountedFields (before : List PlainClassText) (c : PlainClassText) (earlier : List PlainFieldText) (n : Counts) : Type 0 where
  pub classes : n.classes ≡ 32 + length (filter is_class before)
  pub fields : n.fields ≡ length (all_fields before ++ earlier)
  pub statics : n.statics ≡ length (filter is_static_field (all_fields before ++ earlier))
  pub places : n.places ≡ taken c + length (filter is_instance_field earlier)
  pub methods : n.methods ≡ length (all_methods before)

-- before a method of a class
pub record CountedMethods (before : List PlainClassText) (c : PlainClassText) (earlier : List PlainMethodText) (n : Counts) : Type 0 where
  pub classes : n.classes ≡ 32 + length (filter is_class before)
  pub fields : n.fields ≡ length (all_fields before ++ c.fields)
  pub statics : n.statics ≡ length (filter is_static_field (all_fields before ++ c.fields))
  pub methods : n.methods ≡ length (all_methods before ++ earlier)

pub begun : (before : List PlainClassText) (c : PlainClassText) (n : Counts) → Counted before n → CountedFields before c [] (class_begun c n)
begun before c n s = record {
  classes = s.classes;
  fields = s.fields ∙ ap (λ (xs : List PlainFieldText). length xs) (sym (append-nil (all_fields before)));
  statics = s.statics ∙ ap (λ (xs : List PlainFieldText). length (filter is_static_field xs)) (sym (append-nil (all_fields before)));
  places = zero_more (taken c);
  methods = s.methods;
}
  where
    zero_more : (k : ℕ) → k ≡ k + 0
    zero_more k = omega arith

-- counting where a test holds
next_if : (b : Bool) (n m : ℕ) → n ≡ m → n < 2147483647 → (if b then next n else n) ≡ m + (if b then 1 else 0)
next_if true n m e h = let one : next n ≡ n + 1 = next_number n h in omega (arith, one, e)
next_if false n m e h = omega (arith, e)

taken_few : (c : PlainClassText) → taken c ≤ 1
taken_few c = by (is_thread c)
  where
    by : (b : Bool) → (if b then 1 else 0) ≤ 1
    by true = omega arith
    by false = omega arith

-- counting where one doesn't
next_unless : (b : Bool) (n m : ℕ) → n ≡ m → n < 2147483647 → (if b then n else next n) ≡ m + (if not b then 1 else 0)
next_unless true n m e h = omega (arith, e)
next_unless false n m e h = let one : next n ≡ n + 1 = next_number n h in omega (arith, one, e)

pub field_more : (before : List PlainClassText) (c : PlainClassText) (earlier : List PlainFieldText) (f : PlainFieldText) (n : Counts) → length (all_fields before ++ (earlier ++ f ∷ [])) < 2147483647
    → CountedFields before c earlier n → CountedFields before c (earlier ++ f ∷ []) (field_counted f n)
field_more before c earlier f n few s = record { classes = s.classes; fields = fields; statics = statics; places = places; methods = s.methods }
  where
    grouped : all_fields before ++ (earlier ++ f ∷ []) ≡ (all_fields before ++ earlier) ++ f ∷ []
    grouped = sym (append_assoc (all_fields before) earlier (f ∷ []))

    more : length (all_fields before ++ (earlier ++ f ∷ [])) ≡ length (all_fields before ++ earlier) + 1
    more = ap (λ (xs : List PlainFieldText). length xs) grouped ∙ length_one (all_fields before ++ earlier) f

    fields : next n.fields ≡ length (all_fields before ++ (earlier ++ f ∷ []))
    fields = let one : next n.fields ≡ n.fields + 1 = next_number n.fields (omega (arith, few, more, s.fields)) in omega (arith, one, more, s.fields)

    statics : (if is_static f.flags then next n.statics else n.statics) ≡ length (filter is_static_field (all_fields before ++ (earlier ++ f ∷ [])))
    statics =
        next_if (is_static f.flags) n.statics (length (filter is_static_field (all_fields before ++ earlier))) s.statics (omega (arith, few, more, s.statics, filter_few is_static_field (all_fields before ++ earlier)))
        ∙ sym (ap (λ (xs : List PlainFieldText). length (filter is_static_field xs)) grouped ∙ filter_one is_static_field (all_fields before ++ earlier) f)

    places : (if is_static f.flags then n.places else next n.places) ≡ taken c + length (filter is_instance_field (earlier ++ f ∷ []))
    places =
        let same : _ = next_unless (is_static f.flags) n.places (taken c + length (filter is_instance_field earlier)) s.places (omega (arith, few, more, s.places, taken_few c, filter_few is_instance_field earlier, length-append (all_fields before) earlier)) in
        same ∙ add_assoc (taken c) (length (filter is_instance_field earlier)) (if not (is_static f.flags) then 1 else 0) ∙ ap (λ (k : ℕ). taken c + k) (sym (filter_one is_instance_field earlier f))
      where
        add_assoc : (a b d : ℕ) → (a + b) + d ≡ a + (b + d)
        add_assoc a b d = omega arith

-- a front of the fields of a class isn't more than all
pub front_few : (before : List PlainClassText) (c : PlainClassText) (earlier later : List PlainFieldText) → c.fields ≡ earlier ++ later → length (all_fields before ++ c.fields) < 2147483647 → length (all_fields before ++ earlier) < 2147483647
front_few before c earlier later e few =
    let all : length c.fields ≡ length (earlier ++ later) = ap (λ (xs : List PlainFieldText). length xs) e in
    omega (arith, all, few, length-append earlier later, length-append (all_fields before) earlier, length-append (all_fields before) c.fields)

pub front_methods_few : (before : List PlainClassText) (c : PlainClassText) (earlier later : List PlainMethodText) → c.methods ≡ earlier ++ later → length (all_methods before ++ c.methods) < 2147483647 → length (all_methods before ++ earlier) < 2147483647
front_methods_few before c earlier later e few =
    let all : length c.methods ≡ length (earlier ++ later) = ap (λ (xs : List PlainMethodText). length xs) e in
    omega (arith, all, few, length-append earlier later, length-append (all_methods before) earlier, length-append (all_methods before) c.methods)

-- the next of a list, after others
pub next_split : {A : Type 0} (xs earlier : List A) (x : A) (later : List A) → xs ≡ earlier ++ x ∷ later → xs ≡ (earlier ++ x ∷ []) ++ later
next_split xs earlier x later e = e ∙ sym (append_assoc earlier (x ∷ []) later)

-- all fields of a class
pub fields_end : (before : List PlainClassText) (c : PlainClassText) (earlier rest : List PlainFieldText) (n : Counts) → c.fields ≡ earlier ++ rest → length (all_fields before ++ c.fields) < 2147483647
    → CountedFields before c earlier n → CountedFields before c c.fields (fields_counted rest n)
fields_end before c earlier [] n e few s = subst (λ (xs : List PlainFieldText). CountedFields before c xs n) (sym (e ∙ append-nil earlier)) s
fields_end before c earlier (f ∷ rest) n e few s =
    fields_end before c (earlier ++ f ∷ []) rest (field_counted f n) (next_split c.fields earlier f rest e) few
    (field_more before c earlier f n (front_few before c (earlier ++ f ∷ []) rest (next_split c.fields earlier f rest e) few) s)

pub methods_begun : (before : List PlainClassText) (c : PlainClassText) (n : Counts) → CountedFields before c c.fields n → CountedMethods before c [] n
methods_begun before c n s = record { classes = s.classes; fields = s.fields; statics = s.statics; methods = s.methods ∙ ap (λ (xs : List PlainMethodText). length xs) (sym (append-nil (all_methods before))) }

pub method_more : (before : List PlainClassText) (c : PlainClassText) (earlier : List PlainMethodText) (m : PlainMethodText) (n : Counts) → length (all_methods before ++ (earlier ++ m ∷ [])) < 2147483647
    → CountedMethods before c earlier n → CountedMethods before c (earlier ++ m ∷ []) (method_counted n)
method_more before c earlier m n few s = record { classes = s.classes; fields = s.fields; statics = s.statics; methods = methods }
  where
    more : length (all_methods before ++ (earlier ++ m ∷ [])) ≡ length (all_methods before ++ earlier) + 1
    more = ap (λ (xs : List PlainMethodText). length xs) (sym (append_assoc (all_methods before) earlier (m ∷ []))) ∙ length_one (all_methods before ++ earlier) m

    methods : next n.methods ≡ length (all_methods before ++ (earlier ++ m ∷ []))
    methods = let one : next n.methods ≡ n.methods + 1 = next_number n.methods (omega (arith, few, more, s.methods)) in omega (arith, one, more, s.methods)

pub methods_end : (before : List PlainClassText) (c : PlainClassText) (earlier rest : List PlainMethodText) (n : Counts) → c.methods ≡ earlier ++ rest → length (all_methods before ++ c.methods) < 2147483647
    → CountedMethods before c earlier n → CountedMethods before c c.methods (methods_counted rest n)
methods_end before c earlier [] n e few s = subst (λ (xs : List PlainMethodText). CountedMethods before c xs n) (sym (e ∙ append-nil earlier)) s
methods_end before c earlier (m ∷ rest) n e few s =
    methods_end before c (earlier ++ m ∷ []) rest (method_counted n) (next_split c.methods earlier m rest e) few
    (method_more before c earlier m n (front_methods_few before c (earlier ++ m ∷ []) rest (next_split c.methods earlier m rest e) few) s)

-- after a class
pub class_more : (text before : List PlainClassText) (c : PlainClassText) (after : List PlainClassText) (n : Counts) → Here text before c after → Counted before n → Counted (before ++ c ∷ []) (whole_counted c n)
class_more text before c after n h s = by (is_class c) refl
  where
    behind : Counts
    behind = methods_counted c.methods (fields_counted c.fields (class_begun c n))

    t : CountedMethods before c c.methods behind
    t =
        methods_end before c [] c.methods (fields_counted c.fields (class_begun c n)) refl (methods_few text before c after h)
        (methods_begun before c (fields_counted c.fields (class_begun c n)) (fields_end before c [] c.fields (class_begun c n) refl (fields_few text before c after h) (begun before c n s)))

    more : length (filter is_class (before ++ c ∷ [])) ≡ length (filter is_class before) + (if is_class c then 1 else 0)
    more = filter_one is_class before c

    fields : length (all_fields before ++ c.fields) ≡ length (all_fields (before ++ c ∷ []))
    fields = ap (λ (xs : List PlainFieldText). length xs) (sym (flat_end (λ (d : PlainClassText). d.fields) before c))

    statics : length (filter is_static_field (all_fields before ++ c.fields)) ≡ length (filter is_static_field (all_fields (before ++ c ∷ [])))
    statics = ap (λ (xs : List PlainFieldText). length (filter is_static_field xs)) (sym (flat_end (λ (d : PlainClassText). d.fields) before c))

    methods : length (all_methods before ++ c.methods) ≡ length (all_methods (before ++ c ∷ []))
    methods = ap (λ (xs : List PlainMethodText). length xs) (sym (flat_end (λ (d : PlainClassText). d.methods) before c))

    by : (b : Bool) → is_class c ≡ b → Counted (before ++ c ∷ []) (counted_if b behind)
    by true is = record {
      classes =
          let one : next behind.classes ≡ behind.classes + 1 = next_number behind.classes (omega (arith, t.classes, classes_few text before c after h)) in
          let last : length (filter is_class (before ++ c ∷ [])) ≡ length (filter is_class before) + 1 = more ∙ ap (λ (b : Bool). length (filter is_class before) + (if b then 1 else 0)) is in
          omega (arith, one, last, t.classes);
      fields = t.fields ∙ fields;
      statics = t.statics ∙ statics;
      methods = t.methods ∙ methods;
    }
    by false is = record {
      classes = let last : length (filter is_class (before ++ c ∷ [])) ≡ length (filter is_class before) + 0 = more ∙ ap (λ (b : Bool). length (filter is_class before) + (if b then 1 else 0)) is in omega (arith, last, t.classes);
      fields = t.fields ∙ fields;
      statics = t.statics ∙ statics;
      methods = t.methods ∙ methods;
    }

-- ---- whether a name was there before

not_not : (a b : Bool) → a ≡ not b → not a ≡ b
not_not true true e = sym e
not_not true false e = refl
not_not false true e = refl
not_not false false e = sym e

pub own_place : (rows : Rows) (names before : List (List ℕ)) (key : List ℕ) (after : List (List ℕ)) (n base : ℕ) → rows ≡ adding (numbered names base) [] → names ≡ before ++ key ∷ after → n ≡ base + length before → base + length before < 2147483647
    → not (is_this n (value_of key rows)) ≡ list_any (bytes_eq key) before
own_place rows names before key after n base e split is few =
    not_not (is_this n (value_of key rows)) (list_any (bytes_eq key) before)
    (ap (λ (k : ℕ). is_this k (value_of key rows)) is
    ∙ ap (is_this (base + length before)) (found_in key (numbered names base) rows e ∙ ap (λ (xs : List (List ℕ)). value_of key (numbered xs base)) split)
    ∙ own_number before key after base few)

-- a field's name among those of the text
pub field_names_split : (text before : List PlainClassText) (c : PlainClassText) (after : List PlainClassText) (earlier later : List PlainFieldText) (f : PlainFieldText) → text ≡ before ++ c ∷ after → c.fields ≡ earlier ++ f ∷ later
    → field_names text ≡ (field_names before ++ map (field_name c) earlier) ++ field_name c f ∷ (map (field_name c) later ++ field_names after)
field_names_split text before c after earlier later f there split =
    ap field_names there ∙ flat_both (λ (d : PlainClassText). map (field_name d) d.fields) before (c ∷ after)
    ∙ ap (λ (xs : List PlainFieldText). field_names before ++ (map (field_name c) xs ++ field_names after)) split
    ∙ ap (λ (xs : List (List ℕ)). field_names before ++ (xs ++ field_names after)) (map_both (field_name c) earlier (f ∷ later))
    ∙ regroup (field_names before) (map (field_name c) earlier) (field_name c f) (map (field_name c) later) (field_names after)
  where
    regroup : {A : Type 0} (xs ys : List A) (k : A) (us vs : List A) → xs ++ ((ys ++ k ∷ us) ++ vs) ≡ (xs ++ ys) ++ k ∷ (us ++ vs)
    regroup xs ys k us vs = ap (λ zs. xs ++ zs) (append_assoc ys (k ∷ us) vs) ∙ sym (append_assoc xs ys (k ∷ (us ++ vs)))

pub method_names_split : (text before : List PlainClassText) (c : PlainClassText) (after : List PlainClassText) (earlier later : List PlainMethodText) (m : PlainMethodText) → text ≡ before ++ c ∷ after → c.methods ≡ earlier ++ m ∷ later
    → method_names text ≡ (method_names before ++ map (method_name c) earlier) ++ method_name c m ∷ (map (method_name c) later ++ method_names after)
method_names_split text before c after earlier later m there split =
    ap method_names there ∙ flat_both (λ (d : PlainClassText). map (method_name d) d.methods) before (c ∷ after)
    ∙ ap (λ (xs : List PlainMethodText). method_names before ++ (map (method_name c) xs ++ method_names after)) split
    ∙ ap (λ (xs : List (List ℕ)). method_names before ++ (xs ++ method_names after)) (map_both (method_name c) earlier (m ∷ later))
    ∙ regroup (method_names before) (map (method_name c) earlier) (method_name c m) (map (method_name c) later) (method_names after)
  where
    regroup : {A : Type 0} (xs ys : List A) (k : A) (us vs : List A) → xs ++ ((ys ++ k ∷ us) ++ vs) ≡ (xs ++ ys) ++ k ∷ (us ++ vs)
    regroup xs ys k us vs = ap (λ zs. xs ++ zs) (append_assoc ys (k ∷ us) vs) ∙ sym (append_assoc xs ys (k ∷ (us ++ vs)))

-- a class's name among those of the text
pub class_names_split : (text before : List PlainClassText) (c : PlainClassText) (after : List PlainClassText) → text ≡ before ++ c ∷ after → is_class c ≡ true → names_of_classes text ≡ names_of_classes before ++ c.name ∷ names_of_classes after
class_names_split text before c after there is =
    ap names_of_classes there ∙ ap (map (λ (d : PlainClassText). d.name)) (filter_both is_class before (c ∷ after))
    ∙ map_both (λ (d : PlainClassText). d.name) (filter is_class before) (filter is_class (c ∷ after))
    ∙ ap (λ (b : Bool). names_of_classes before ++ map (λ (d : PlainClassText). d.name) (if b then c ∷ filter is_class after else filter is_class after)) is

-- how many names stand before
pub fields_before : (before : List PlainClassText) (c : PlainClassText) (earlier : List PlainFieldText) → length (all_fields before ++ earlier) ≡ length (field_names before ++ map (field_name c) earlier)
fields_before before c earlier = omega (arith, field_names_many before, length-map earlier (field_name c), length-append (all_fields before) earlier, length-append (field_names before) (map (field_name c) earlier))

pub methods_before : (before : List PlainClassText) (c : PlainClassText) (earlier : List PlainMethodText) → length (all_methods before ++ earlier) ≡ length (method_names before ++ map (method_name c) earlier)
methods_before before c earlier = omega (arith, method_names_many before, length-map earlier (method_name c), length-append (all_methods before) earlier, length-append (method_names before) (map (method_name c) earlier))

pub classes_before : (before : List PlainClassText) → length (filter is_class before) ≡ length (names_of_classes before)
classes_before before = sym (length-map (filter is_class before) (λ (d : PlainClassText). d.name))
