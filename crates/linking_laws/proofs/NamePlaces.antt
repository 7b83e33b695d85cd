-- The number of each name of a text is the place of what it names among what the text declares.
use Rattle.std.proofs.Common.{◌≡◌, ℕ, ◌+◌, ◌≤◌, Bool, true, false, List, [], ◌∷◌, ◌++◌, Option, Some, None, refl, sym, ap, ◌∙◌, arith, length-append}
use Rattle.std.specs.Prelude.{not, ◌&&◌, if◌then◌else◌, length, map, bytes_eq}
use Rattle.std.specs.List.{position_from}
use Rattle.std.proofs.lemmas.List.{length-map}
use Rattle.jasmin_lines.specs.Plain.{PlainClassText, PlainFieldText, PlainMethodText}
use Rattle.class_linker.specs.declared.fault.Refusal.{Refusal}
use Rattle.name_resolver.specs.declared.names.Counts.{Counts}
use Rattle.name_resolver.specs.declared.names.Names.{Names}
use Rattle.name_resolver.specs.Index.{Rows, value_of}
use Rattle.name_resolver.specs.Words.{method_key}
use Rattle.name_resolver.specs.Names.{next, is_named, is_static, row_if, is_main, first_main, class_begun, counted_if, field_counted, method_counted, with_class, with_field, with_method, with_fields, with_methods, with_whole, with_classes}
use Rattle.class_linker.specs.Judging.{class_judged, classes_judged}
use Rattle.linking_laws.specs.Declared.{or_later, method_word, methods_declared, is_main_method}
use Rattle.linking_laws.proofs.Judged.{JudgedClasses, classes_first}
use Rattle.linking_laws.proofs.Numbered.{next_number, behind_class}
use Rattle.linking_laws.proofs.Counted.{class_behind}
use Rattle.linking_laws.proofs.There.{whole_classes}
use Rattle.linking_laws.proofs.Places.{later_none, later_three, value_if, place_both, place_step}

-- ---- methods

-- rows that methods add, and nothing else
pub record RowsOfMethods : Type 0 where
  pub get : Names → Rows
  pub wanted : PlainMethodText → Bool
  pub method : (class : List ℕ) (m : PlainMethodText) (n : Counts) (names : Names) → get (with_method class m n names) ≡ row_if (wanted m) (method_key class m.name m.desc) n.methods (get names)
  pub field : (class : List ℕ) (f : PlainFieldText) (n : Counts) (names : Names) → get (with_field class f n names) ≡ get names
  pub class : (c : PlainClassText) (n : Counts) (names : Names) → get (with_class c n names) ≡ get names

abbrev pub of_functions : RowsOfMethods
of_functions = record { get = λ names. names.functions; wanted = λ m. is_static m.flags; method = λ class m n names. refl; field = λ class f n names. refl; class = λ c n names. refl }

abbrev pub of_instance_methods : RowsOfMethods
of_instance_methods = record { get = λ names. names.instance_methods; wanted = λ m. not (is_static m.flags); method = λ class m n names. refl; field = λ class f n names. refl; class = λ c n names. refl }

-- one of these methods has this word
abbrev pub is_method : RowsOfMethods → List ℕ → List ℕ × PlainMethodText → Bool
is_method r key d = r.wanted d.1 && bytes_eq key (method_word d)

-- the methods of a class, each with its name
abbrev pub methods_with : List ℕ → List PlainMethodText → List (List ℕ × PlainMethodText)
methods_with class ms = map (λ m. (class, m)) ms

-- fields leave the rows of methods
fields_leave : (r : RowsOfMethods) (class : List ℕ) (fs : List PlainFieldText) (n : Counts) (names : Names) → r.get (with_fields class fs n names).1 ≡ r.get names
unfolding with_fields
fields_leave r class [] n names = refl
fields_leave r class (f ∷ fs) n names = fields_leave r class fs (field_counted f n) (with_field class f n names) ∙ r.field class f n names

-- and their count
fields_leave_count : (class : List ℕ) (fs : List PlainFieldText) (n : Counts) (names : Names) → (with_fields class fs n names).0.methods ≡ n.methods
unfolding with_fields
fields_leave_count class [] n names = refl
fields_leave_count class (f ∷ fs) n names = fields_leave_count class fs (field_counted f n) (with_field class f n names)

-- the rows of a class's methods
methods_found : (r : RowsOfMethods) (key class : List ℕ) (ms : List PlainMethodText) (n : Counts) (names : Names) → n.methods + length ms ≤ 2147483647
    → value_of key (r.get (with_methods class ms n names).1) ≡ or_later (value_of key (r.get names)) (position_from (is_method r key) n.methods (methods_with class ms))
unfolding with_methods
methods_found r key class [] n names few = sym (later_none (value_of key (r.get names)))
methods_found r key class (m ∷ ms) n names few =
    let one : next n.methods ≡ n.methods + 1 = next_number n.methods (omega (arith, few)) in
    methods_found r key class ms (method_counted n) (with_method class m n names) (omega (arith, one, few))
    ∙ ap (λ (o : Option ℕ). or_later o (position_from (is_method r key) (next n.methods) (methods_with class ms))) (ap (value_of key) (r.method class m n names) ∙ value_if (r.wanted m) key (method_key class m.name m.desc) n.methods (r.get names))
    ∙ place_step (value_of key (r.get names)) (r.wanted m && bytes_eq key (method_key class m.name m.desc)) n.methods (next n.methods) (λ k. position_from (is_method r key) k (methods_with class ms)) one

-- how many they are
methods_many : (class : List ℕ) (ms : List PlainMethodText) (n : Counts) (names : Names) → n.methods + length ms ≤ 2147483647 → (with_methods class ms n names).0.methods ≡ n.methods + length ms
unfolding with_methods
methods_many class [] n names few = omega arith
methods_many class (m ∷ ms) n names few =
    let one : next n.methods ≡ n.methods + 1 = next_number n.methods (omega (arith, few)) in
    omega (arith, methods_many class ms (method_counted n) (with_method class m n names) (omega (arith, one, few)), one)

-- a class counts no method
counted_methods : (b : Bool) (n : Counts) → (counted_if b n).methods ≡ n.methods
counted_methods true n = refl
counted_methods false n = refl

-- what is counted behind a class
whole_many : (c : PlainClassText) (n : Counts) (names : Names) → n.methods + length c.methods ≤ 2147483647 → (behind_class c n names).methods ≡ n.methods + length c.methods
whole_many c n names few =
    let s : Counts × Names = with_fields c.name c.fields (class_begun c n) (with_class c n names) in
    let begun : s.0.methods ≡ n.methods = fields_leave_count c.name c.fields (class_begun c n) (with_class c n names) in
    omega (arith, counted_methods (is_named c) (with_whole c n names).0, methods_many c.name c.methods s.0 s.1 (omega (arith, begun, few)), begun)

-- the rows of a class
whole_found : (r : RowsOfMethods) (key : List ℕ) (c : PlainClassText) (n : Counts) (names : Names) → n.methods + length c.methods ≤ 2147483647
    → value_of key (r.get (with_whole c n names).1) ≡ or_later (value_of key (r.get names)) (position_from (is_method r key) n.methods (methods_with c.name c.methods))
whole_found r key c n names few =
    let s : Counts × Names = with_fields c.name c.fields (class_begun c n) (with_class c n names) in
    let begun : s.0.methods ≡ n.methods = fields_leave_count c.name c.fields (class_begun c n) (with_class c n names) in
    methods_found r key c.name c.methods s.0 s.1 (omega (arith, begun, few))
    ∙ ap (λ (k : ℕ). or_later (value_of key (r.get s.1)) (position_from (is_method r key) k (methods_with c.name c.methods))) begun
    ∙ ap (λ (rows : Rows). or_later (value_of key rows) (position_from (is_method r key) n.methods (methods_with c.name c.methods))) (fields_leave r c.name c.fields (class_begun c n) (with_class c n names) ∙ r.class c n names)

-- the rows of all classes
pub classes_found : (r : RowsOfMethods) (key : List ℕ) (cs : List PlainClassText) (n : Counts) (names : Names) → n.methods + length (methods_declared cs) ≤ 2147483647
    → value_of key (r.get (with_classes cs n names).1) ≡ or_later (value_of key (r.get names)) (position_from (is_method r key) n.methods (methods_declared cs))
unfolding with_classes
classes_found r key [] n names few = sym (later_none (value_of key (r.get names)))
classes_found r key (c ∷ cs) n names few =
    let own : List (List ℕ × PlainMethodText) = methods_with c.name c.methods in
    let many : length own ≡ length c.methods = length-map c.methods (λ m. (c.name, m)) in
    let all : length (own ++ methods_declared cs) ≡ length own + length (methods_declared cs) = length-append own (methods_declared cs) in
    let behind : (behind_class c n names).methods ≡ n.methods + length c.methods = whole_many c n names (omega (arith, many, all, few)) in
    classes_found r key cs (behind_class c n names) (with_whole c n names).1 (omega (arith, behind, many, all, few))
    ∙ ap (λ (o : Option ℕ). or_later o (position_from (is_method r key) (behind_class c n names).methods (methods_declared cs))) (whole_found r key c n names (omega (arith, many, all, few)))
    ∙ later_three (value_of key (r.get names)) (position_from (is_method r key) n.methods own) (position_from (is_method r key) (behind_class c n names).methods (methods_declared cs))
    ∙ ap (λ (k : ℕ). or_later (value_of key (r.get names)) (or_later (position_from (is_method r key) n.methods own) (position_from (is_method r key) k (methods_declared cs)))) (behind ∙ ap (λ (k : ℕ). n.methods + k) (sym many))
    ∙ ap (or_later (value_of key (r.get names))) (sym (place_both (is_method r key) n.methods own (methods_declared cs)))

-- the number of all methods
pub classes_many : (cs : List PlainClassText) (n : Counts) (names : Names) → n.methods + length (methods_declared cs) ≤ 2147483647 → (with_classes cs n names).0.methods ≡ n.methods + length (methods_declared cs)
unfolding with_classes
classes_many [] n names few = omega arith
classes_many (c ∷ cs) n names few =
    let own : List (List ℕ × PlainMethodText) = methods_with c.name c.methods in
    let many : length own ≡ length c.methods = length-map c.methods (λ m. (c.name, m)) in
    let all : length (own ++ methods_declared cs) ≡ length own + length (methods_declared cs) = length-append own (methods_declared cs) in
    let behind : (behind_class c n names).methods ≡ n.methods + length c.methods = whole_many c n names (omega (arith, many, all, few)) in
    omega (arith, classes_many cs (behind_class c n names) (with_whole c n names).1 (omega (arith, behind, many, all, few)), behind, many, all)

-- ---- main

-- the first main
main_step : (found : Option ℕ) (b : Bool) (n : ℕ) → first_main found b n ≡ or_later found (if b then Some n else None)
main_step None true n = refl
main_step None false n = refl
main_step (Some k) b n = refl

-- among the methods of a class
mains_found : (class : List ℕ) (ms : List PlainMethodText) (n : Counts) (names : Names) → n.methods + length ms ≤ 2147483647
    → (with_methods class ms n names).1.main ≡ or_later names.main (position_from is_main_method n.methods (methods_with class ms))
unfolding with_methods
mains_found class [] n names few = sym (later_none names.main)
mains_found class (m ∷ ms) n names few =
    let one : next n.methods ≡ n.methods + 1 = next_number n.methods (omega (arith, few)) in
    mains_found class ms (method_counted n) (with_method class m n names) (omega (arith, one, few))
    ∙ ap (λ (o : Option ℕ). or_later o (position_from is_main_method (next n.methods) (methods_with class ms))) (main_step names.main (is_main m) n.methods)
    ∙ place_step names.main (is_main m) n.methods (next n.methods) (λ k. position_from is_main_method k (methods_with class ms)) one

-- fields leave main
fields_leave_main : (class : List ℕ) (fs : List PlainFieldText) (n : Counts) (names : Names) → (with_fields class fs n names).1.main ≡ names.main
unfolding with_fields
fields_leave_main class [] n names = refl
fields_leave_main class (f ∷ fs) n names = fields_leave_main class fs (field_counted f n) (with_field class f n names)

-- in a class
whole_main : (c : PlainClassText) (n : Counts) (names : Names) → n.methods + length c.methods ≤ 2147483647 → (with_whole c n names).1.main ≡ or_later names.main (position_from is_main_method n.methods (methods_with c.name c.methods))
whole_main c n names few =
    let s : Counts × Names = with_fields c.name c.fields (class_begun c n) (with_class c n names) in
    let begun : s.0.methods ≡ n.methods = fields_leave_count c.name c.fields (class_begun c n) (with_class c n names) in
    mains_found c.name c.methods s.0 s.1 (omega (arith, begun, few))
    ∙ ap (λ (k : ℕ). or_later s.1.main (position_from is_main_method k (methods_with c.name c.methods))) begun
    ∙ ap (λ (o : Option ℕ). or_later o (position_from is_main_method n.methods (methods_with c.name c.methods))) (fields_leave_main c.name c.fields (class_begun c n) (with_class c n names))

-- of all classes
pub main_place : (cs : List PlainClassText) (n : Counts) (names : Names) → n.methods + length (methods_declared cs) ≤ 2147483647
    → (with_classes cs n names).1.main ≡ or_later names.main (position_from is_main_method n.methods (methods_declared cs))
unfolding with_classes
main_place [] n names few = sym (later_none names.main)
main_place (c ∷ cs) n names few =
    let own : List (List ℕ × PlainMethodText) = methods_with c.name c.methods in
    let many : length own ≡ length c.methods = length-map c.methods (λ m. (c.name, m)) in
    let all : length (own ++ methods_declared cs) ≡ length own + length (methods_declared cs) = length-append own (methods_declared cs) in
    let behind : (behind_class c n names).methods ≡ n.methods + length c.methods = whole_many c n names (omega (arith, many, all, few)) in
    main_place cs (behind_class c n names) (with_whole c n names).1 (omega (arith, behind, many, all, few))
    ∙ ap (λ (o : Option ℕ). or_later o (position_from is_main_method (behind_class c n names).methods (methods_declared cs))) (whole_main c n names (omega (arith, many, all, few)))
    ∙ later_three names.main (position_from is_main_method n.methods own) (position_from is_main_method (behind_class c n names).methods (methods_declared cs))
    ∙ ap (λ (k : ℕ). or_later names.main (or_later (position_from is_main_method n.methods own) (position_from is_main_method k (methods_declared cs)))) (behind ∙ ap (λ (k : ℕ). n.methods + k) (sym many))
    ∙ ap (or_later names.main) (sym (place_both is_main_method n.methods own (methods_declared cs)))

-- ---- classes

-- their numbers, where nothing is found wrong with them
pub class_numbers : (judging : Names) (name : List ℕ) (cs : List PlainClassText) (n : Counts) (found : Option Refusal) (names : Names) → classes_judged judging cs n found ≡ None
    → value_of name (with_classes cs n names).1.classes ≡ or_later (value_of name names.classes) (position_from (λ c. bytes_eq name c.name) n.classes cs)
unfolding with_classes
class_numbers judging name [] n found names e = sym (later_none (value_of name names.classes))
class_numbers judging name (c ∷ cs) n found names e =
    let first : JudgedClasses judging names c cs n found = classes_first judging names c cs n found e in
    class_numbers judging name cs (behind_class c n names) (class_judged judging c n found).1 (with_whole c n names).1 first.rest
    ∙ ap (λ (o : Option ℕ). or_later o (place (behind_class c n names).classes))
    (ap (value_of name) (whole_classes c n names) ∙ value_if (is_named c) name c.name n.classes names.classes ∙ ap (λ (b : Bool). or_later (value_of name names.classes) (if b && bytes_eq name c.name then Some n.classes else None)) first.class.named)
    ∙ place_step (value_of name names.classes) (bytes_eq name c.name) n.classes (behind_class c n names).classes place (class_behind judging names c cs n found first)
  where
    place : ℕ → Option ℕ
    place k = position_from (λ d. bytes_eq name d.name) k cs
