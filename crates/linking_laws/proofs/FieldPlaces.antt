-- The number of each static of a text is its place among the statics, and that of another field its place in an object.
use Rattle.std.proofs.Common.{◌≡◌, ℕ, ◌+◌, ◌≤◌, Bool, true, false, List, [], ◌∷◌, ◌++◌, Option, Some, None, refl, sym, ap, ◌∙◌, arith, length-append}
use Rattle.std.specs.Prelude.{not, ◌&&◌, ◌||◌, if◌then◌else◌, length, map, filter, is_some, bytes_eq}
use Rattle.std.specs.List.{AllByRecursion, list_any, position_from}
use Rattle.jasmin_lines.specs.Plain.{PlainClassText, PlainFieldText, PlainMethodText}
use Rattle.name_resolver.specs.declared.names.Counts.{Counts}
use Rattle.name_resolver.specs.declared.names.Names.{Names}
use Rattle.name_resolver.specs.Index.{Rows, value_of}
use Rattle.name_resolver.specs.Names.{next, is_named, is_static, is_thread, row_if, class_begun, counted_if, field_counted, method_counted, with_class, with_field, with_method, with_fields, with_methods, with_whole, with_classes}
use Rattle.linking_laws.specs.Declared.{or_later, extends_thread, is_static_field, field_words, statics_declared, own_fields, place_in, object_field}
use Rattle.linking_laws.proofs.Numbered.{next_number, behind_class}
use Rattle.linking_laws.proofs.Places.{later_none, later_three, value_if, place_both, place_step}

-- ---- statics of a class

-- these words name this static
abbrev pub is_static_of : List ℕ → List ℕ × PlainFieldText → Bool
is_static_of words d = bytes_eq words (field_words d.0 d.1)

-- fields, each with the name of its class
abbrev pub paired : List ℕ → List PlainFieldText → List (List ℕ × PlainFieldText)
paired class fs = map (λ f. (class, f)) fs

-- the statics of a class, each with its name
abbrev pub statics_with : List ℕ → List PlainFieldText → List (List ℕ × PlainFieldText)
statics_with class fs = paired class (filter is_static_field fs)

-- how many are counted, and where one stands
record StaticsSo (words class : List ℕ) (fs : List PlainFieldText) (n : Counts) (names : Names) : Type 0 where
  many : (with_fields class fs n names).0.statics ≡ n.statics + length (statics_with class fs)
  found : value_of words (with_fields class fs n names).1.statics ≡ or_later (value_of words names.statics) (position_from (is_static_of words) n.statics (statics_with class fs))

statics_so : (words class : List ℕ) (fs : List PlainFieldText) (n : Counts) (names : Names) → n.statics + length (statics_with class fs) ≤ 2147483647 → StaticsSo words class fs n names
unfolding with_fields
statics_so words class [] n names few = record { many = omega arith; found = sym (later_none (value_of words names.statics)) }
statics_so words class (f ∷ fs) n names few =
    let both : _ = by (is_static f.flags) few (λ h. let more : StaticsSo words class fs (field_counted f n) (with_field class f n names) = statics_so words class fs (field_counted f n) (with_field class f n names) h in (more.many, more.found)) in
    record { many = both.0; found = both.1 }
  where
    key : List ℕ
    key = field_words class f

    rest : List (List ℕ × PlainFieldText)
    rest = statics_with class fs

    by : {after : ℕ} {value : Option ℕ} (b : Bool) → n.statics + length (paired class (if b then f ∷ filter is_static_field fs else filter is_static_field fs)) ≤ 2147483647
        → ((if b then next n.statics else n.statics) + length rest ≤ 2147483647
        → (after ≡ (if b then next n.statics else n.statics) + length rest)
        × (value ≡ or_later (value_of words (row_if b key n.statics names.statics)) (position_from (is_static_of words) (if b then next n.statics else n.statics) rest)))
        → (after ≡ n.statics + length (paired class (if b then f ∷ filter is_static_field fs else filter is_static_field fs)))
        × (value ≡ or_later (value_of words names.statics) (position_from (is_static_of words) n.statics (paired class (if b then f ∷ filter is_static_field fs else filter is_static_field fs))))
    by {after = after} {value = value} true small more =
        let one : next n.statics ≡ n.statics + 1 = next_number n.statics (omega (arith, small)) in
        let is : (after ≡ next n.statics + length rest) × (value ≡ or_later (value_of words (row_if true key n.statics names.statics)) (position_from (is_static_of words) (next n.statics) rest)) = more (omega (arith, one, small)) in (
          omega (arith, is.0, one),
          is.1 ∙ ap (λ (o : Option ℕ). or_later o (position_from (is_static_of words) (next n.statics) rest)) (value_if true words key n.statics names.statics)
              ∙ place_step (value_of words names.statics) (bytes_eq words key) n.statics (next n.statics) (λ k. position_from (is_static_of words) k rest) one,
        )
    by false small more = more small

-- methods leave statics
methods_leave : (class : List ℕ) (ms : List PlainMethodText) (n : Counts) (names : Names) → (with_methods class ms n names).1.statics ≡ names.statics
unfolding with_methods
methods_leave class [] n names = refl
methods_leave class (m ∷ ms) n names = methods_leave class ms (method_counted n) (with_method class m n names)

methods_leave_count : (class : List ℕ) (ms : List PlainMethodText) (n : Counts) (names : Names) → (with_methods class ms n names).0.statics ≡ n.statics
unfolding with_methods
methods_leave_count class [] n names = refl
methods_leave_count class (m ∷ ms) n names = methods_leave_count class ms (method_counted n) (with_method class m n names)

-- a class counts no static
counted_leave : (b : Bool) (n : Counts) → (counted_if b n).statics ≡ n.statics
counted_leave true n = refl
counted_leave false n = refl

-- what is counted behind a class, and the rows of the class
record WholeSo (words : List ℕ) (c : PlainClassText) (n : Counts) (names : Names) : Type 0 where
  many : (behind_class c n names).statics ≡ n.statics + length (statics_with c.name c.fields)
  found : value_of words (with_whole c n names).1.statics ≡ or_later (value_of words names.statics) (position_from (is_static_of words) n.statics (statics_with c.name c.fields))

whole_so : (words : List ℕ) (c : PlainClassText) (n : Counts) (names : Names) → n.statics + length (statics_with c.name c.fields) ≤ 2147483647 → WholeSo words c n names
whole_so words c n names few =
    let s : Counts × Names = with_fields c.name c.fields (class_begun c n) (with_class c n names) in
    let own : StaticsSo words c.name c.fields (class_begun c n) (with_class c n names) = statics_so words c.name c.fields (class_begun c n) (with_class c n names) few in
    record {
      many = counted_leave (is_named c) (with_whole c n names).0 ∙ methods_leave_count c.name c.methods s.0 s.1 ∙ own.many;
      found = ap (value_of words) (methods_leave c.name c.methods s.0 s.1) ∙ own.found;
    }

-- the statics of all classes
pub statics_found : (words : List ℕ) (cs : List PlainClassText) (n : Counts) (names : Names) → n.statics + length (statics_declared cs) ≤ 2147483647
    → value_of words (with_classes cs n names).1.statics ≡ or_later (value_of words names.statics) (position_from (is_static_of words) n.statics (statics_declared cs))
unfolding with_classes
statics_found words [] n names few = sym (later_none (value_of words names.statics))
statics_found words (c ∷ cs) n names few =
    let own : List (List ℕ × PlainFieldText) = statics_with c.name c.fields in
    let all : length (own ++ statics_declared cs) ≡ length own + length (statics_declared cs) = length-append own (statics_declared cs) in
    let here : WholeSo words c n names = whole_so words c n names (omega (arith, all, few)) in
    statics_found words cs (behind_class c n names) (with_whole c n names).1 (omega (arith, here.many, all, few))
    ∙ ap (λ (o : Option ℕ). or_later o (position_from (is_static_of words) (behind_class c n names).statics (statics_declared cs))) here.found
    ∙ later_three (value_of words names.statics) (position_from (is_static_of words) n.statics own) (position_from (is_static_of words) (behind_class c n names).statics (statics_declared cs))
    ∙ ap (λ (k : ℕ). or_later (value_of words names.statics) (or_later (position_from (is_static_of words) n.statics own) (position_from (is_static_of words) k (statics_declared cs)))) here.many
    ∙ ap (or_later (value_of words names.statics)) (sym (place_both (is_static_of words) n.statics own (statics_declared cs)))

-- ---- fields of objects

-- these words name this field of a class
abbrev pub is_field_of : List ℕ → List ℕ → PlainFieldText → Bool
is_field_of words class f = bytes_eq words (field_words class f)

-- the fields of objects
abbrev not_static : List PlainFieldText → List PlainFieldText
not_static fs = filter (λ f. not (is_static_field f)) fs

-- the fields of a class
places_so : (words class : List ℕ) (fs : List PlainFieldText) (n : Counts) (names : Names) → n.places + length (not_static fs) ≤ 2147483647
    → value_of words (with_fields class fs n names).1.places ≡ or_later (value_of words names.places) (position_from (is_field_of words class) n.places (not_static fs))
unfolding with_fields
places_so words class [] n names few = sym (later_none (value_of words names.places))
places_so words class (f ∷ fs) n names few = by (is_static f.flags) few (places_so words class fs (field_counted f n) (with_field class f n names))
  where
    key : List ℕ
    key = field_words class f

    rest : List PlainFieldText
    rest = not_static fs

    by : {value : Option ℕ} (b : Bool) → n.places + length (if not b then f ∷ rest else rest) ≤ 2147483647
        → ((if b then n.places else next n.places) + length rest ≤ 2147483647
        → value ≡ or_later (value_of words (row_if (not b) key n.places names.places)) (position_from (is_field_of words class) (if b then n.places else next n.places) rest))
        → value ≡ or_later (value_of words names.places) (position_from (is_field_of words class) n.places (if not b then f ∷ rest else rest))
    by true small more = more small
    by false small more =
        let one : next n.places ≡ n.places + 1 = next_number n.places (omega (arith, small)) in
        more (omega (arith, one, small)) ∙ ap (λ (o : Option ℕ). or_later o (position_from (is_field_of words class) (next n.places) rest)) (value_if true words key n.places names.places)
        ∙ place_step (value_of words names.places) (bytes_eq words key) n.places (next n.places) (λ k. position_from (is_field_of words class) k rest) one

-- methods leave places
methods_leave_places : (class : List ℕ) (ms : List PlainMethodText) (n : Counts) (names : Names) → (with_methods class ms n names).1.places ≡ names.places
unfolding with_methods
methods_leave_places class [] n names = refl
methods_leave_places class (m ∷ ms) n names = methods_leave_places class ms (method_counted n) (with_method class m n names)

-- a thread's target comes first
first_small : (b : Bool) (many : ℕ) → many ≤ 64 → (if b then 1 else 0) + many ≤ 2147483647
first_small true many h = omega (arith, h)
first_small false many h = omega (arith, h)

-- the fields of all classes
pub places_found : (words : List ℕ) (cs : List PlainClassText) (n : Counts) (names : Names) → AllByRecursion (λ (c : PlainClassText). length (own_fields c) ≤ 64) cs
    → value_of words (with_classes cs n names).1.places ≡ or_later (value_of words names.places) (object_field cs words)
unfolding with_classes
places_found words [] n names few = sym (later_none (value_of words names.places))
places_found words (c ∷ cs) n names few =
    let s : Counts × Names = with_fields c.name c.fields (class_begun c n) (with_class c n names) in
    places_found words cs (behind_class c n names) (with_whole c n names).1 few.1
    ∙ ap (λ (o : Option ℕ). or_later o (object_field cs words))
    (ap (value_of words) (methods_leave_places c.name c.methods s.0 s.1) ∙ places_so words c.name c.fields (class_begun c n) (with_class c n names) (first_small (is_thread c) (length (own_fields c)) few.0))
    ∙ later_three (value_of words names.places) (place_in c words) (object_field cs words)

-- ---- classes of threads

-- members leave them
methods_leave_threads : (class : List ℕ) (ms : List PlainMethodText) (n : Counts) (names : Names) → (with_methods class ms n names).1.threads ≡ names.threads
unfolding with_methods
methods_leave_threads class [] n names = refl
methods_leave_threads class (m ∷ ms) n names = methods_leave_threads class ms (method_counted n) (with_method class m n names)

fields_leave_threads : (class : List ℕ) (fs : List PlainFieldText) (n : Counts) (names : Names) → (with_fields class fs n names).1.threads ≡ names.threads
unfolding with_fields
fields_leave_threads class [] n names = refl
fields_leave_threads class (f ∷ fs) n names = fields_leave_threads class fs (field_counted f n) (with_field class f n names)

-- a row is there by itself or before
either_there : (found : Option ℕ) (b : Bool) → is_some (or_later found (if b then Some 1 else None)) ≡ (is_some found || b)
either_there (Some n) b = refl
either_there None true = refl
either_there None false = refl

-- one of three
of_three : (a b c : Bool) → ((a || b) || c) ≡ (a || (b || c))
of_three true b c = refl
of_three false b c = refl

-- nothing more
or_false : (b : Bool) → b ≡ (b || false)
or_false true = refl
or_false false = refl

-- the classes of threads of a text
pub threads_found : (name : List ℕ) (cs : List PlainClassText) (n : Counts) (names : Names)
    → is_some (value_of name (with_classes cs n names).1.threads) ≡ (is_some (value_of name names.threads) || list_any (λ c. extends_thread c && bytes_eq name c.name) cs)
unfolding with_classes
threads_found name [] n names = or_false (is_some (value_of name names.threads))
threads_found name (c ∷ cs) n names =
    let s : Counts × Names = with_fields c.name c.fields (class_begun c n) (with_class c n names) in
    threads_found name cs (behind_class c n names) (with_whole c n names).1
    ∙ ap (λ (rows : Rows). is_some (value_of name rows) || more) (methods_leave_threads c.name c.methods s.0 s.1 ∙ fields_leave_threads c.name c.fields (class_begun c n) (with_class c n names))
    ∙ ap (λ (o : Option ℕ). is_some o || more) (value_if (is_thread c) name c.name 1 names.threads)
    ∙ ap (λ (b : Bool). b || more) (either_there (value_of name names.threads) (is_thread c && bytes_eq name c.name))
    ∙ of_three (is_some (value_of name names.threads)) (is_thread c && bytes_eq name c.name) more
  where
    more : Bool
    more = list_any (λ d. extends_thread d && bytes_eq name d.name) cs
