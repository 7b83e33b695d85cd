-- The names of a text: what is declared, in the order of the text, with the numbers of their places.
use Rattle.std.proofs.Common.{◌≡◌, ℕ, Bool, true, false, List, [], ◌∷◌, ◌++◌, refl, sym, ap, ◌∙◌}
use Rattle.std.specs.Prelude.{if◌then◌else◌, map, filter}
use Rattle.jasmin_lines.specs.Plain.{PlainClassText, PlainFieldText, PlainMethodText}
use Rattle.name_resolver.specs.declared.names.Counts.{Counts}
use Rattle.name_resolver.specs.declared.names.Names.{Names}
use Rattle.name_resolver.specs.Index.{Rows}
use Rattle.name_resolver.specs.Names.{next, is_named, row_if, no_counts, no_names, class_begun, counted_if, field_counted, method_counted, with_class, with_field, with_method, with_fields, with_methods, with_whole, with_classes, names_of}
use Rattle.linking_laws.specs.Types.{is_class}
use Rattle.linking_laws.specs.Rules.{field_name, method_name, field_names, method_names}
use Rattle.linking_laws.proofs.Adding.{adding, numbered, past, adding_both, numbered_both}

-- ---- the members of a class

fields_keep_methods : (class : List ℕ) (fs : List PlainFieldText) (n : Counts) (names : Names) → (with_fields class fs n names).1.methods ≡ names.methods
unfolding with_fields
fields_keep_methods class [] n names = refl
fields_keep_methods class (f ∷ fs) n names = fields_keep_methods class fs (field_counted f n) (with_field class f n names)

fields_keep_method_count : (class : List ℕ) (fs : List PlainFieldText) (n : Counts) (names : Names) → (with_fields class fs n names).0.methods ≡ n.methods
unfolding with_fields
fields_keep_method_count class [] n names = refl
fields_keep_method_count class (f ∷ fs) n names = fields_keep_method_count class fs (field_counted f n) (with_field class f n names)

fields_keep_classes : (class : List ℕ) (fs : List PlainFieldText) (n : Counts) (names : Names) → (with_fields class fs n names).1.classes ≡ names.classes
unfolding with_fields
fields_keep_classes class [] n names = refl
fields_keep_classes class (f ∷ fs) n names = fields_keep_classes class fs (field_counted f n) (with_field class f n names)

fields_keep_class_count : (class : List ℕ) (fs : List PlainFieldText) (n : Counts) (names : Names) → (with_fields class fs n names).0.classes ≡ n.classes
unfolding with_fields
fields_keep_class_count class [] n names = refl
fields_keep_class_count class (f ∷ fs) n names = fields_keep_class_count class fs (field_counted f n) (with_field class f n names)

methods_keep_fields : (class : List ℕ) (ms : List PlainMethodText) (n : Counts) (names : Names) → (with_methods class ms n names).1.fields ≡ names.fields
unfolding with_methods
methods_keep_fields class [] n names = refl
methods_keep_fields class (m ∷ ms) n names = methods_keep_fields class ms (method_counted n) (with_method class m n names)

methods_keep_field_count : (class : List ℕ) (ms : List PlainMethodText) (n : Counts) (names : Names) → (with_methods class ms n names).0.fields ≡ n.fields
unfolding with_methods
methods_keep_field_count class [] n names = refl
methods_keep_field_count class (m ∷ ms) n names = methods_keep_field_count class ms (method_counted n) (with_method class m n names)

methods_keep_classes : (class : List ℕ) (ms : List PlainMethodText) (n : Counts) (names : Names) → (with_methods class ms n names).1.classes ≡ names.classes
unfolding with_methods
methods_keep_classes class [] n names = refl
methods_keep_classes class (m ∷ ms) n names = methods_keep_classes class ms (method_counted n) (with_method class m n names)

methods_keep_class_count : (class : List ℕ) (ms : List PlainMethodText) (n : Counts) (names : Names) → (with_methods class ms n names).0.classes ≡ n.classes
unfolding with_methods
methods_keep_class_count class [] n names = refl
methods_keep_class_count class (m ∷ ms) n names = methods_keep_class_count class ms (method_counted n) (with_method class m n names)

-- the fields of a class
fields_rows : (c : PlainClassText) (fs : List PlainFieldText) (n : Counts) (names : Names) → (with_fields c.name fs n names).1.fields ≡ adding (numbered (map (field_name c) fs) n.fields) names.fields
unfolding with_fields
fields_rows c [] n names = refl
fields_rows c (f ∷ fs) n names = fields_rows c fs (field_counted f n) (with_field c.name f n names)

fields_past : (c : PlainClassText) (fs : List PlainFieldText) (n : Counts) (names : Names) → (with_fields c.name fs n names).0.fields ≡ past (map (field_name c) fs) n.fields
unfolding with_fields
fields_past c [] n names = refl
fields_past c (f ∷ fs) n names = fields_past c fs (field_counted f n) (with_field c.name f n names)

-- its methods
methods_rows : (c : PlainClassText) (ms : List PlainMethodText) (n : Counts) (names : Names) → (with_methods c.name ms n names).1.methods ≡ adding (numbered (map (method_name c) ms) n.methods) names.methods
unfolding with_methods
methods_rows c [] n names = refl
methods_rows c (m ∷ ms) n names = methods_rows c ms (method_counted n) (with_method c.name m n names)

methods_past : (c : PlainClassText) (ms : List PlainMethodText) (n : Counts) (names : Names) → (with_methods c.name ms n names).0.methods ≡ past (map (method_name c) ms) n.methods
unfolding with_methods
methods_past c [] n names = refl
methods_past c (m ∷ ms) n names = methods_past c ms (method_counted n) (with_method c.name m n names)

-- ---- a class

-- its name, where it has one
abbrev pub names_of_classes : List PlainClassText → List (List ℕ)
names_of_classes classes = map (λ (c : PlainClassText). c.name) (filter is_class classes)

whole_fields : (c : PlainClassText) (n : Counts) (names : Names) → (with_whole c n names).1.fields ≡ adding (numbered (map (field_name c) c.fields) n.fields) names.fields
whole_fields c n names =
    methods_keep_fields c.name c.methods (with_fields c.name c.fields (class_begun c n) (with_class c n names)).0 (with_fields c.name c.fields (class_begun c n) (with_class c n names)).1
    ∙ fields_rows c c.fields (class_begun c n) (with_class c n names)

whole_fields_past : (c : PlainClassText) (n : Counts) (names : Names) → (with_whole c n names).0.fields ≡ past (map (field_name c) c.fields) n.fields
whole_fields_past c n names =
    methods_keep_field_count c.name c.methods (with_fields c.name c.fields (class_begun c n) (with_class c n names)).0 (with_fields c.name c.fields (class_begun c n) (with_class c n names)).1
    ∙ fields_past c c.fields (class_begun c n) (with_class c n names)

whole_methods : (c : PlainClassText) (n : Counts) (names : Names) → (with_whole c n names).1.methods ≡ adding (numbered (map (method_name c) c.methods) n.methods) names.methods
whole_methods c n names =
    methods_rows c c.methods (with_fields c.name c.fields (class_begun c n) (with_class c n names)).0 (with_fields c.name c.fields (class_begun c n) (with_class c n names)).1
    ∙ ap (λ (k : ℕ). adding (numbered (map (method_name c) c.methods) k) (with_fields c.name c.fields (class_begun c n) (with_class c n names)).1.methods) (fields_keep_method_count c.name c.fields (class_begun c n) (with_class c n names))
    ∙ ap (adding (numbered (map (method_name c) c.methods) n.methods)) (fields_keep_methods c.name c.fields (class_begun c n) (with_class c n names))

whole_methods_past : (c : PlainClassText) (n : Counts) (names : Names) → (with_whole c n names).0.methods ≡ past (map (method_name c) c.methods) n.methods
whole_methods_past c n names =
    methods_past c c.methods (with_fields c.name c.fields (class_begun c n) (with_class c n names)).0 (with_fields c.name c.fields (class_begun c n) (with_class c n names)).1
    ∙ ap (past (map (method_name c) c.methods)) (fields_keep_method_count c.name c.fields (class_begun c n) (with_class c n names))

whole_classes : (c : PlainClassText) (n : Counts) (names : Names) → (with_whole c n names).1.classes ≡ row_if (is_named c) c.name n.classes names.classes
whole_classes c n names =
    methods_keep_classes c.name c.methods (with_fields c.name c.fields (class_begun c n) (with_class c n names)).0 (with_fields c.name c.fields (class_begun c n) (with_class c n names)).1
    ∙ fields_keep_classes c.name c.fields (class_begun c n) (with_class c n names)

whole_classes_past : (c : PlainClassText) (n : Counts) (names : Names) → (with_whole c n names).0.classes ≡ n.classes
whole_classes_past c n names =
    methods_keep_class_count c.name c.methods (with_fields c.name c.fields (class_begun c n) (with_class c n names)).0 (with_fields c.name c.fields (class_begun c n) (with_class c n names)).1
    ∙ fields_keep_class_count c.name c.fields (class_begun c n) (with_class c n names)

-- ---- all classes

-- a class is counted where it has a name
counted_fields : (b : Bool) (n : Counts) → (counted_if b n).fields ≡ n.fields
counted_fields true n = refl
counted_fields false n = refl

counted_methods : (b : Bool) (n : Counts) → (counted_if b n).methods ≡ n.methods
counted_methods true n = refl
counted_methods false n = refl

-- names before others
two_parts : (xs ys : List (List ℕ)) (n k : ℕ) (rows with : Rows) → k ≡ past xs n → with ≡ adding (numbered xs n) rows → adding (numbered ys k) with ≡ adding (numbered (xs ++ ys) n) rows
two_parts xs ys n k rows with e h =
    ap (λ (j : ℕ). adding (numbered ys j) with) e ∙ ap (adding (numbered ys (past xs n))) h ∙ sym (adding_both (numbered xs n) (numbered ys (past xs n)) rows) ∙ sym (ap (λ (all : Rows). adding all rows) (numbered_both xs ys n))

classes_fields : (cs : List PlainClassText) (n : Counts) (names : Names) → (with_classes cs n names).1.fields ≡ adding (numbered (field_names cs) n.fields) names.fields
unfolding with_classes
classes_fields [] n names = refl
classes_fields (c ∷ cs) n names =
    classes_fields cs (counted_if (is_named c) (with_whole c n names).0) (with_whole c n names).1
    ∙ two_parts (map (field_name c) c.fields) (field_names cs) n.fields (counted_if (is_named c) (with_whole c n names).0).fields names.fields (with_whole c n names).1.fields
    (counted_fields (is_named c) (with_whole c n names).0 ∙ whole_fields_past c n names) (whole_fields c n names)

classes_methods : (cs : List PlainClassText) (n : Counts) (names : Names) → (with_classes cs n names).1.methods ≡ adding (numbered (method_names cs) n.methods) names.methods
unfolding with_classes
classes_methods [] n names = refl
classes_methods (c ∷ cs) n names =
    classes_methods cs (counted_if (is_named c) (with_whole c n names).0) (with_whole c n names).1
    ∙ two_parts (map (method_name c) c.methods) (method_names cs) n.methods (counted_if (is_named c) (with_whole c n names).0).methods names.methods (with_whole c n names).1.methods
    (counted_methods (is_named c) (with_whole c n names).0 ∙ whole_methods_past c n names) (whole_methods c n names)

classes_rows : (cs : List PlainClassText) (n : Counts) (names : Names) → (with_classes cs n names).1.classes ≡ adding (numbered (names_of_classes cs) n.classes) names.classes
unfolding with_classes
classes_rows [] n names = refl
classes_rows (c ∷ cs) n names =
    classes_rows cs (counted_if (is_named c) (with_whole c n names).0) (with_whole c n names).1
    ∙ ap (adding (numbered (names_of_classes cs) (counted_if (is_named c) (with_whole c n names).0).classes)) (whole_classes c n names)
    ∙ by (is_named c)
  where
    by : (b : Bool) → adding (numbered (names_of_classes cs) (counted_if b (with_whole c n names).0).classes) (row_if b c.name n.classes names.classes)
        ≡ adding (numbered (map (λ (d : PlainClassText). d.name) (if b then c ∷ filter is_class cs else filter is_class cs)) n.classes) names.classes
    by true = ap (λ (k : ℕ). adding (numbered (names_of_classes cs) (next k)) (row_if true c.name n.classes names.classes)) (whole_classes_past c n names)
    by false = ap (λ (k : ℕ). adding (numbered (names_of_classes cs) k) names.classes) (whole_classes_past c n names)

-- ---- the text

pub text_fields : (classes : List PlainClassText) → (names_of classes).1.fields ≡ adding (numbered (field_names classes) 0) []
unfolding names_of
text_fields classes = classes_fields classes no_counts no_names

pub text_methods : (classes : List PlainClassText) → (names_of classes).1.methods ≡ adding (numbered (method_names classes) 0) []
unfolding names_of
text_methods classes = classes_methods classes no_counts no_names

pub text_classes : (classes : List PlainClassText) → (names_of classes).1.classes ≡ adding (numbered (names_of_classes classes) 32) []
unfolding names_of
text_classes classes = classes_rows classes no_counts no_names
