-- A class's own run is among the names.
use Rattle.std.proofs.Common.{◌≡◌, ℕ, Bool, true, false, List, [], ◌∷◌, ◌++◌, Some, None, refl, ap, ◌∙◌, subst}
use Rattle.std.specs.Prelude.{not, ◌&&◌, ◌||◌, if◌then◌else◌, bytes_eq, codes, is_some}
use Rattle.std.specs.List.{list_any}
use Rattle.std.proofs.lemmas.Bool.{false≢true}
use Rattle.std.proofs.lemmas.Slice.Eq.{bytes_eq-Decides}
use Rattle.jasmin_lines.specs.Plain.{PlainClassText, PlainFieldText, PlainMethodText}
use Rattle.name_resolver.specs.declared.names.Counts.{Counts}
use Rattle.name_resolver.specs.declared.names.Names.{Names}
use Rattle.name_resolver.specs.Index.{Rows, value_of}
use Rattle.name_resolver.specs.Words.{method_key}
use Rattle.name_resolver.specs.Names.{row_if, is_static, class_begun, field_counted, method_counted, with_class, with_field, with_method, with_fields, with_methods, with_whole, with_classes, counted_if, is_named}
use Rattle.class_linker.specs.Judging.{is_own_run, has_run}
use Rattle.shape_laws.proofs.Tests.{both}

-- ---- rows

in_front : (key word : List ℕ) (n : ℕ) (rows : Rows) → is_some (value_of key rows) ≡ true → is_some (value_of key (rows ++ (word, n) ∷ [])) ≡ true
in_front key word n [] e = absurd (false≢true e)
in_front key word n (row ∷ rows) e = first (in_front key word n rows) (bytes_eq key row.0) e
  where
    first : (is_some (value_of key rows) ≡ true → is_some (value_of key (rows ++ (word, n) ∷ [])) ≡ true) → (b : Bool)
        → is_some (if b then Some row.1 else value_of key rows) ≡ true → is_some (if b then Some row.1 else value_of key (rows ++ (word, n) ∷ [])) ≡ true
    first more true h = refl
    first more false h = more h

-- a key that is there stays there
stays : (key word : List ℕ) (n : ℕ) (rows : Rows) (wanted : Bool) → is_some (value_of key rows) ≡ true → is_some (value_of key (row_if wanted word n rows)) ≡ true
stays key word n rows false e = e
stays key word n rows true e = by (is_some (value_of word rows))
  where
    by : (b : Bool) → is_some (value_of key (if b then rows else rows ++ (word, n) ∷ [])) ≡ true
    by true = e
    by false = in_front key word n rows e

last : (key : List ℕ) (n : ℕ) (rows : Rows) → is_some (value_of key (rows ++ (key, n) ∷ [])) ≡ true
last key n [] = let same : bytes_eq key key ≡ true = (bytes_eq-Decides key key).1 refl in ap (λ (b : Bool). is_some (if b then Some n else None)) same
last key n (row ∷ rows) = first (last key n rows) (bytes_eq key row.0)
  where
    first : is_some (value_of key (rows ++ (key, n) ∷ [])) ≡ true → (b : Bool) → is_some (if b then Some row.1 else value_of key (rows ++ (key, n) ∷ [])) ≡ true
    first more true = refl
    first more false = more

-- a key that is added is there
added : (key : List ℕ) (n : ℕ) (rows : Rows) (wanted : Bool) → wanted ≡ true → is_some (value_of key (row_if wanted key n rows)) ≡ true
added key n rows false e = absurd (false≢true e)
added key n rows true e = by (is_some (value_of key rows)) refl
  where
    by : (b : Bool) → is_some (value_of key rows) ≡ b → is_some (value_of key (if b then rows else rows ++ (key, n) ∷ [])) ≡ true
    by true h = h
    by false h = last key n rows

-- ---- names

-- an instance method of this key is among the names
abbrev pub Has : List ℕ → Names → Type 0
Has key names = is_some (value_of key names.instance_methods) ≡ true

methods_keep : (key class : List ℕ) (ms : List PlainMethodText) (n : Counts) (names : Names) → Has key names → Has key (with_methods class ms n names).1
unfolding with_methods
methods_keep key class [] n names h = h
methods_keep key class (m ∷ ms) n names h =
    methods_keep key class ms (method_counted n) (with_method class m n names) (stays key (method_key class m.name m.desc) n.methods names.instance_methods (not (is_static m.flags)) h)

fields_keep : (key class : List ℕ) (fs : List PlainFieldText) (n : Counts) (names : Names) → Has key names → Has key (with_fields class fs n names).1
unfolding with_fields
fields_keep key class [] n names h = h
fields_keep key class (f ∷ fs) n names h = fields_keep key class fs (field_counted f n) (with_field class f n names) h

classes_keep : (key : List ℕ) (cs : List PlainClassText) (n : Counts) (names : Names) → Has key names → Has key (with_classes cs n names).1
unfolding with_classes
classes_keep key [] n names h = h
classes_keep key (c ∷ cs) n names h =
    let begun : Counts × Names = with_fields c.name c.fields (class_begun c n) (with_class c n names) in
    classes_keep key cs (counted_if (is_named c) (with_whole c n names).0) (with_whole c n names).1
    (methods_keep key c.name c.methods begun.0 begun.1 (fields_keep key c.name c.fields (class_begun c n) (with_class c n names) h))

-- ---- a class's own run

abbrev run_key : List ℕ → List ℕ
run_key class = method_key class (codes "run") (codes "()V")

own_added : (class : List ℕ) (m : PlainMethodText) (n : Counts) (names : Names) → is_own_run m ≡ true → Has (run_key class) (with_method class m n names)
own_added class m n names e =
    let parts : _ = both (bytes_eq m.name (codes "run") && bytes_eq m.desc (codes "()V")) (not (is_static m.flags)) e in
    let words : _ = both (bytes_eq m.name (codes "run")) (bytes_eq m.desc (codes "()V")) parts.0 in
    let name : m.name ≡ codes "run" = (bytes_eq-Decides m.name (codes "run")).0 words.0 in
    let desc : m.desc ≡ codes "()V" = (bytes_eq-Decides m.desc (codes "()V")).0 words.1 in
    let key : method_key class m.name m.desc ≡ run_key class = ap (λ (x : List ℕ). method_key class x m.desc) name ∙ ap (λ (x : List ℕ). method_key class (codes "run") x) desc in
    subst (λ (x : List ℕ). is_some (value_of x (row_if (not (is_static m.flags)) (method_key class m.name m.desc) n.methods names.instance_methods)) ≡ true) key
    (added (method_key class m.name m.desc) n.methods names.instance_methods (not (is_static m.flags)) parts.1)

methods_add : (class : List ℕ) (ms : List PlainMethodText) (n : Counts) (names : Names) → list_any is_own_run ms ≡ true → Has (run_key class) (with_methods class ms n names).1
unfolding with_methods
methods_add class [] n names e = absurd (false≢true e)
methods_add class (m ∷ ms) n names e = by (methods_add class ms (method_counted n) (with_method class m n names)) (is_own_run m) refl e
  where
    by : (list_any is_own_run ms ≡ true → Has (run_key class) (with_methods class ms (method_counted n) (with_method class m n names)).1) → (b : Bool)
        → is_own_run m ≡ b → (b || list_any is_own_run ms) ≡ true → Has (run_key class) (with_methods class ms (method_counted n) (with_method class m n names)).1
    by more true is h = methods_keep (run_key class) class ms (method_counted n) (with_method class m n names) (own_added class m n names is)
    by more false is h = more h

-- the run of the first class of some, among the names of them all
pub run_added : (c : PlainClassText) (cs : List PlainClassText) (n : Counts) (names : Names) → has_run c ≡ true → Has (method_key c.name (codes "run") (codes "()V")) (with_classes (c ∷ cs) n names).1
unfolding with_classes
run_added c cs n names e =
    let begun : Counts × Names = with_fields c.name c.fields (class_begun c n) (with_class c n names) in
    classes_keep (run_key c.name) cs (counted_if (is_named c) (with_whole c n names).0) (with_whole c n names).1 (methods_add c.name c.methods begun.0 begun.1 e)

-- the names of the classes after it are those of all
pub names_behind : (c : PlainClassText) (cs : List PlainClassText) (n : Counts) (names : Names) → with_classes (c ∷ cs) n names ≡ with_classes cs (counted_if (is_named c) (with_whole c n names).0) (with_whole c n names).1
unfolding with_classes
names_behind c cs n names = refl
