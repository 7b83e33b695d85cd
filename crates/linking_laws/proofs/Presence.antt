-- A name is found where it was added: members by their full names, threads, labels and texts.
use Rattle.std.proofs.Common.{◌≡◌, ℕ, Bool, true, false, List, [], ◌∷◌, Option, Some, None, refl, ap, ◌∙◌}
use Rattle.std.specs.Prelude.{not, ◌||◌, ◌&&◌, if◌then◌else◌, bytes_eq, is_some}
use Rattle.std.specs.List.{list_any}
use Rattle.jasmin_lines.specs.Plain.{PlainClassText, PlainFieldText, PlainMethodText, PlainLineText}
use Rattle.name_resolver.specs.declared.names.Counts.{Counts}
use Rattle.name_resolver.specs.declared.names.Names.{Names}
use Rattle.name_resolver.specs.Index.{Rows, value_of, with_row}
use Rattle.name_resolver.specs.Words.{method_key, field_word, field_key}
use Rattle.name_resolver.specs.Names.{next, is_named, is_static, is_thread, row_if, no_counts, no_names, class_begun, counted_if, field_counted, method_counted, with_class, with_field, with_method, with_fields, with_methods, with_whole, with_classes, names_of}
use Rattle.class_linker.specs.Bodies.{with_labels, labelled, labels_of}
use Rattle.linking_laws.proofs.Adding.{found_with, first_of}

-- ---- one row

some_first : (a b : Option ℕ) → is_some (first_of a b) ≡ (is_some a || is_some b)
some_first None b = refl
some_first (Some n) b = refl

-- a name more
pub there_with : (key word : List ℕ) (n : ℕ) (rows : Rows) → is_some (value_of key (with_row word n rows)) ≡ (is_some (value_of key rows) || bytes_eq key word)
there_with key word n rows = ap (λ (o : Option ℕ). is_some o) (found_with key word n rows) ∙ some_first (value_of key rows) (if bytes_eq key word then Some n else None) ∙ ap (λ (b : Bool). is_some (value_of key rows) || b) (by (bytes_eq key word))
  where
    by : (b : Bool) → is_some (if b then Some n else None) ≡ b
    by true = refl
    by false = refl

or_none : (a : Bool) → a ≡ (a || false)
or_none true = refl
or_none false = refl

pub or_grouped : (a b c : Bool) → ((a || b) || c) ≡ (a || (b || c))
or_grouped true b c = refl
or_grouped false b c = refl

-- or none
there_if : (wanted : Bool) (key word : List ℕ) (n : ℕ) (rows : Rows) → is_some (value_of key (row_if wanted word n rows)) ≡ (is_some (value_of key rows) || (wanted && bytes_eq key word))
there_if true key word n rows = there_with key word n rows
there_if false key word n rows = or_none (is_some (value_of key rows))

-- two steps one after another
chained : (a b c d : Bool) → a ≡ (b || d) → b ≡ c → a ≡ (c || d)
chained a b c d e h = e ∙ ap (λ (x : Bool). x || d) h

-- ---- methods

abbrev pub is_method : Bool → List ℕ → List ℕ → PlainMethodText → Bool
is_method static key class m = (if static then is_static m.flags else not (is_static m.flags)) && bytes_eq key (method_key class m.name m.desc)

abbrev pub is_field : Bool → List ℕ → List ℕ → PlainFieldText → Bool
is_field static key class f = (if static then is_static f.flags else not (is_static f.flags)) && bytes_eq key (field_key (field_word class f.name) f.desc)

abbrev pub methods_by : Bool → Names → Rows
methods_by static names = if static then names.functions else names.instance_methods

abbrev pub fields_by : Bool → Names → Rows
fields_by static names = if static then names.statics else names.places

fields_keep : (static : Bool) (class : List ℕ) (fs : List PlainFieldText) (n : Counts) (names : Names) → methods_by static (with_fields class fs n names).1 ≡ methods_by static names
unfolding with_fields
fields_keep static class [] n names = refl
fields_keep true class (f ∷ fs) n names = fields_keep true class fs (field_counted f n) (with_field class f n names)
fields_keep false class (f ∷ fs) n names = fields_keep false class fs (field_counted f n) (with_field class f n names)

methods_keep : (static : Bool) (class : List ℕ) (ms : List PlainMethodText) (n : Counts) (names : Names) → fields_by static (with_methods class ms n names).1 ≡ fields_by static names
unfolding with_methods
methods_keep static class [] n names = refl
methods_keep true class (m ∷ ms) n names = methods_keep true class ms (method_counted n) (with_method class m n names)
methods_keep false class (m ∷ ms) n names = methods_keep false class ms (method_counted n) (with_method class m n names)

method_there : (static : Bool) (key class : List ℕ) (m : PlainMethodText) (n : Counts) (names : Names) → is_some (value_of key (methods_by static (with_method class m n names))) ≡ (is_some (value_of key (methods_by static names)) || is_method static key class m)
method_there true key class m n names = there_if (is_static m.flags) key (method_key class m.name m.desc) n.methods names.functions
method_there false key class m n names = there_if (not (is_static m.flags)) key (method_key class m.name m.desc) n.methods names.instance_methods

field_there : (static : Bool) (key class : List ℕ) (f : PlainFieldText) (n : Counts) (names : Names) → is_some (value_of key (fields_by static (with_field class f n names))) ≡ (is_some (value_of key (fields_by static names)) || is_field static key class f)
field_there true key class f n names = there_if (is_static f.flags) key (field_key (field_word class f.name) f.desc) n.statics names.statics
field_there false key class f n names = there_if (not (is_static f.flags)) key (field_key (field_word class f.name) f.desc) n.places names.places

methods_there : (static : Bool) (key class : List ℕ) (ms : List PlainMethodText) (n : Counts) (names : Names)
    → is_some (value_of key (methods_by static (with_methods class ms n names).1)) ≡ (is_some (value_of key (methods_by static names)) || list_any (is_method static key class) ms)
unfolding with_methods
methods_there static key class [] n names = or_none (is_some (value_of key (methods_by static names)))
methods_there static key class (m ∷ ms) n names =
    chained _ _ _ (list_any (is_method static key class) ms) (methods_there static key class ms (method_counted n) (with_method class m n names)) (method_there static key class m n names)
    ∙ or_grouped (is_some (value_of key (methods_by static names))) (is_method static key class m) (list_any (is_method static key class) ms)

fields_there : (static : Bool) (key class : List ℕ) (fs : List PlainFieldText) (n : Counts) (names : Names)
    → is_some (value_of key (fields_by static (with_fields class fs n names).1)) ≡ (is_some (value_of key (fields_by static names)) || list_any (is_field static key class) fs)
unfolding with_fields
fields_there static key class [] n names = or_none (is_some (value_of key (fields_by static names)))
fields_there static key class (f ∷ fs) n names =
    chained _ _ _ (list_any (is_field static key class) fs) (fields_there static key class fs (field_counted f n) (with_field class f n names)) (field_there static key class f n names)
    ∙ or_grouped (is_some (value_of key (fields_by static names))) (is_field static key class f) (list_any (is_field static key class) fs)

class_keeps_methods : (static : Bool) (c : PlainClassText) (n : Counts) (names : Names) → methods_by static (with_class c n names) ≡ methods_by static names
class_keeps_methods true c n names = refl
class_keeps_methods false c n names = refl

class_keeps_fields : (static : Bool) (c : PlainClassText) (n : Counts) (names : Names) → fields_by static (with_class c n names) ≡ fields_by static names
class_keeps_fields true c n names = refl
class_keeps_fields false c n names = refl

classes_methods : (static : Bool) (key : List ℕ) (cs : List PlainClassText) (n : Counts) (names : Names)
    → is_some (value_of key (methods_by static (with_classes cs n names).1)) ≡ (is_some (value_of key (methods_by static names)) || list_any (λ c. list_any (is_method static key c.name) c.methods) cs)
unfolding with_classes
classes_methods static key [] n names = or_none (is_some (value_of key (methods_by static names)))
classes_methods static key (c ∷ cs) n names =
    chained _ _ _ rest (classes_methods static key cs (counted_if (is_named c) (with_whole c n names).0) (with_whole c n names).1)
    (methods_there static key c.name c.methods behind.0 behind.1 ∙ ap (λ (rows : Rows). is_some (value_of key rows) || own) (fields_keep static c.name c.fields (class_begun c n) (with_class c n names) ∙ class_keeps_methods static c n names))
    ∙ or_grouped (is_some (value_of key (methods_by static names))) own rest
  where
    behind : Counts × Names
    behind = with_fields c.name c.fields (class_begun c n) (with_class c n names)

    own : Bool
    own = list_any (is_method static key c.name) c.methods

    rest : Bool
    rest = list_any (λ (d : PlainClassText). list_any (is_method static key d.name) d.methods) cs

classes_fields : (static : Bool) (key : List ℕ) (cs : List PlainClassText) (n : Counts) (names : Names)
    → is_some (value_of key (fields_by static (with_classes cs n names).1)) ≡ (is_some (value_of key (fields_by static names)) || list_any (λ c. list_any (is_field static key c.name) c.fields) cs)
unfolding with_classes
classes_fields static key [] n names = or_none (is_some (value_of key (fields_by static names)))
classes_fields static key (c ∷ cs) n names =
    chained _ _ _ rest (classes_fields static key cs (counted_if (is_named c) (with_whole c n names).0) (with_whole c n names).1)
    (ap (λ (rows : Rows). is_some (value_of key rows)) (methods_keep static c.name c.methods behind.0 behind.1) ∙ fields_there static key c.name c.fields (class_begun c n) (with_class c n names) ∙ ap (λ (rows : Rows). is_some (value_of key rows) || own) (class_keeps_fields static c n names))
    ∙ or_grouped (is_some (value_of key (fields_by static names))) own rest
  where
    behind : Counts × Names
    behind = with_fields c.name c.fields (class_begun c n) (with_class c n names)

    own : Bool
    own = list_any (is_field static key c.name) c.fields

    rest : Bool
    rest = list_any (λ (d : PlainClassText). list_any (is_field static key d.name) d.fields) cs

-- of the text
pub text_method : (static : Bool) (key : List ℕ) (classes : List PlainClassText) → is_some (value_of key (methods_by static (names_of classes).1)) ≡ list_any (λ c. list_any (is_method static key c.name) c.methods) classes
unfolding names_of
text_method true key classes = classes_methods true key classes no_counts no_names
text_method false key classes = classes_methods false key classes no_counts no_names

pub text_field : (static : Bool) (key : List ℕ) (classes : List PlainClassText) → is_some (value_of key (fields_by static (names_of classes).1)) ≡ list_any (λ c. list_any (is_field static key c.name) c.fields) classes
unfolding names_of
text_field true key classes = classes_fields true key classes no_counts no_names
text_field false key classes = classes_fields false key classes no_counts no_names

-- ---- threads

abbrev pub is_thread_of : List ℕ → PlainClassText → Bool
is_thread_of key c = is_thread c && bytes_eq key c.name

fields_keep_threads : (class : List ℕ) (fs : List PlainFieldText) (n : Counts) (names : Names) → (with_fields class fs n names).1.threads ≡ names.threads
unfolding with_fields
fields_keep_threads class [] n names = refl
fields_keep_threads class (f ∷ fs) n names = fields_keep_threads class fs (field_counted f n) (with_field class f n names)

methods_keep_threads : (class : List ℕ) (ms : List PlainMethodText) (n : Counts) (names : Names) → (with_methods class ms n names).1.threads ≡ names.threads
unfolding with_methods
methods_keep_threads class [] n names = refl
methods_keep_threads class (m ∷ ms) n names = methods_keep_threads class ms (method_counted n) (with_method class m n names)

classes_threads : (key : List ℕ) (cs : List PlainClassText) (n : Counts) (names : Names) → is_some (value_of key (with_classes cs n names).1.threads) ≡ (is_some (value_of key names.threads) || list_any (is_thread_of key) cs)
unfolding with_classes
classes_threads key [] n names = or_none (is_some (value_of key names.threads))
classes_threads key (c ∷ cs) n names =
    chained _ _ _ (list_any (is_thread_of key) cs) (classes_threads key cs (counted_if (is_named c) (with_whole c n names).0) (with_whole c n names).1)
    (ap (λ (rows : Rows). is_some (value_of key rows)) (methods_keep_threads c.name c.methods behind.0 behind.1 ∙ fields_keep_threads c.name c.fields (class_begun c n) (with_class c n names)) ∙ there_if (is_thread c) key c.name 1 names.threads)
    ∙ or_grouped (is_some (value_of key names.threads)) (is_thread_of key c) (list_any (is_thread_of key) cs)
  where
    behind : Counts × Names
    behind = with_fields c.name c.fields (class_begun c n) (with_class c n names)

pub text_thread : (key : List ℕ) (classes : List PlainClassText) → is_some (value_of key (names_of classes).1.threads) ≡ list_any (is_thread_of key) classes
unfolding names_of
text_thread key classes = classes_threads key classes no_counts no_names

-- ---- labels

labels_there : (key : List ℕ) (labels : List (List ℕ)) (n : ℕ) (rows : Rows) → is_some (value_of key (with_labels labels n rows)) ≡ (is_some (value_of key rows) || list_any (bytes_eq key) labels)
unfolding with_labels
labels_there key [] n rows = or_none (is_some (value_of key rows))
labels_there key (label ∷ labels) n rows =
    chained _ _ _ (list_any (bytes_eq key) labels) (labels_there key labels n (with_row label n rows)) (there_with key label n rows) ∙ or_grouped (is_some (value_of key rows)) (bytes_eq key label) (list_any (bytes_eq key) labels)

lines_there : (key : List ℕ) (ls : List PlainLineText) (n : ℕ) (rows : Rows) → is_some (value_of key (labelled ls n rows).1) ≡ (is_some (value_of key rows) || list_any (λ l. list_any (bytes_eq key) l.labels) ls)
unfolding labelled
lines_there key [] n rows = or_none (is_some (value_of key rows))
lines_there key (l ∷ ls) n rows =
    chained _ _ _ (list_any (λ (k : PlainLineText). list_any (bytes_eq key) k.labels) ls) (lines_there key ls (next n) (with_labels l.labels n rows)) (labels_there key l.labels n rows)
    ∙ or_grouped (is_some (value_of key rows)) (list_any (bytes_eq key) l.labels) (list_any (λ (k : PlainLineText). list_any (bytes_eq key) k.labels) ls)

pub method_label : (key : List ℕ) (m : PlainMethodText) → is_some (value_of key (labels_of m)) ≡ (list_any (λ l. list_any (bytes_eq key) l.labels) m.lines || list_any (bytes_eq key) m.end_labels)
method_label key m = chained _ _ _ (list_any (bytes_eq key) m.end_labels) (labels_there key m.end_labels (labelled m.lines 0 []).0 (labelled m.lines 0 []).1) (lines_there key m.lines 0 [])
