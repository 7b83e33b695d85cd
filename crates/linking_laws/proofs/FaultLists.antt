-- What judging finds is the first of all faults, and main is found where there is one.
use Rattle.std.proofs.Common.{◌≡◌, ℕ, Bool, true, false, List, [], ◌∷◌, ◌++◌, Option, Some, None, refl, sym, ap, ◌∙◌}
use Rattle.std.specs.Prelude.{◌||◌, nat_le, flat_map, is_some}
use Rattle.std.specs.List.{list_any}
use Rattle.jasmin_lines.specs.declared.class_text.CatchText.{CatchText}
use Rattle.jasmin_lines.specs.declared.class_text.NameAt.{NameAt}
use Rattle.jasmin_lines.specs.Plain.{PlainClassText, PlainFieldText, PlainMethodText, PlainLineText}
use Rattle.name_resolver.specs.declared.fault.LinkKind.{LinkKind}
use Rattle.name_resolver.specs.declared.fault.LinkKind.TheVariants as kinds
use Rattle.class_linker.specs.declared.fault.Refusal.{Refusal}
use Rattle.name_resolver.specs.declared.names.Counts.{Counts}
use Rattle.name_resolver.specs.declared.names.Names.{Names}
use Rattle.class_linker.specs.Faults.{noted, only_if}
use Rattle.name_resolver.specs.Index.{Rows}
use Rattle.class_linker.specs.Linked.{linked}
use Rattle.name_resolver.specs.Names.{next, is_named, is_main, first_main, no_counts, no_names, class_begun, field_counted, method_counted, counted_if, with_class, with_field, with_method, with_fields, with_methods, with_whole, with_classes, names_of}
use Rattle.class_linker.specs.Judging as judging
use Rattle.class_linker.specs.Judging.{class_fault, super_fault, has_run, implements_fault, field_fault, is_full, taken, judged_method, implements_judged, fields_judged, lines_judged, class_judged, classes_judged}
use Rattle.class_linker.specs.Bodies as bodies
use Rattle.class_linker.specs.Bodies.{labels_of, fault_in, line_judged, code_judged, catches_judged, body_judged, bodies_judged}
use Rattle.linking_laws.specs.LinkFaults.{of_line, implements_faults, head_faults, fields_counted, methods_counted, whole_counted, fields_faults, methods_faults, class_faults, classes_faults, line_faults, code_faults, catches_faults, method_faults, bodies_faults, has_main}
use Rattle.linking_laws.proofs.First.{all_noted, noted_both, noted_line, noted_before}

-- the faults of two lines
two_noted : (found : Option Refusal) (line : ℕ) (fault : Option LinkKind) (other : ℕ) (also : Option LinkKind) → noted (noted found line fault) other also ≡ all_noted found (of_line line fault ++ of_line other also)
two_noted found line fault other also = noted_line (noted found line fault) other also ∙ noted_before found line fault (of_line other also)

-- ---- declarations

-- `.implements`
implements_noted : (has_run : Bool) (xs : List NameAt) (found : Option Refusal) → implements_judged has_run xs found ≡ all_noted found (implements_faults has_run xs)
unfolding implements_judged
implements_noted has_run [] found = refl
implements_noted has_run (x ∷ xs) found =
    implements_noted has_run xs (noted found x.line (implements_fault has_run x)) ∙ noted_before found x.line (implements_fault has_run x) (implements_faults has_run xs)

-- with `.class` and `.super`
head_noted : (names : Names) (c : PlainClassText) (n : Counts) (found : Option Refusal) → lines_judged names c n found ≡ all_noted found (head_faults names c n)
head_noted names c n found =
    implements_noted (has_run c) c.implements (noted (noted found c.line (class_fault names c n)) c.super_line (super_fault c))
    ∙ ap (λ (o : Option Refusal). all_noted o (implements_faults (has_run c) c.implements)) (two_noted found c.line (class_fault names c n) c.super_line (super_fault c))
    ∙ sym (noted_both found (of_line c.line (class_fault names c n) ++ of_line c.super_line (super_fault c)) (implements_faults (has_run c) c.implements))

-- `.field`
fields_noted : (names : Names) (class : List ℕ) (taken : ℕ) (fs : List PlainFieldText) (n : Counts) (found : Option Refusal) → (fields_judged names class taken fs n found).1 ≡ all_noted found (fields_faults names class taken fs n)
unfolding fields_judged fields_faults
fields_noted names class taken [] n found = refl
fields_noted names class taken (f ∷ fs) n found =
    fields_noted names class taken fs (field_counted f n) (noted found f.line (field_fault names class f n (is_full taken f n)))
    ∙ noted_before found f.line (field_fault names class f n (is_full taken f n)) (fields_faults names class taken fs (field_counted f n))

-- what is counted after fields
fields_count : (names : Names) (class : List ℕ) (taken : ℕ) (fs : List PlainFieldText) (n : Counts) (found : Option Refusal) → (fields_judged names class taken fs n found).0 ≡ fields_counted fs n
unfolding fields_judged
fields_count names class taken [] n found = refl
fields_count names class taken (f ∷ fs) n found = fields_count names class taken fs (field_counted f n) (noted found f.line (field_fault names class f n (is_full taken f n)))

-- `.method`
methods_noted : (names : Names) (class : List ℕ) (ms : List PlainMethodText) (n : Counts) (found : Option Refusal) → (judging.methods_judged names class ms n found).1 ≡ all_noted found (methods_faults names class ms n)
unfolding judging.methods_judged methods_faults
methods_noted names class [] n found = refl
methods_noted names class (m ∷ ms) n found =
    methods_noted names class ms (method_counted n) (noted found m.line (judged_method names class m n))
    ∙ noted_before found m.line (judged_method names class m n) (methods_faults names class ms (method_counted n))

-- what is counted after methods
methods_count : (names : Names) (class : List ℕ) (ms : List PlainMethodText) (n : Counts) (found : Option Refusal) → (judging.methods_judged names class ms n found).0 ≡ methods_counted ms n
unfolding judging.methods_judged
methods_count names class [] n found = refl
methods_count names class (m ∷ ms) n found = methods_count names class ms (method_counted n) (noted found m.line (judged_method names class m n))

-- a class with its members
class_noted : (names : Names) (c : PlainClassText) (n : Counts) (found : Option Refusal) → (class_judged names c n found).1 ≡ all_noted found (class_faults names c n)
class_noted names c n found =
    methods_noted names c.name c.methods behind.0 behind.1
    ∙ ap (λ (k : Counts). all_noted behind.1 (methods_faults names c.name c.methods k)) count
    ∙ ap (λ (o : Option Refusal). all_noted o methods) (fields_noted names c.name (taken c) c.fields (class_begun c n) head)
    ∙ ap (λ (o : Option Refusal). all_noted (all_noted o fields) methods) (head_noted names c n found)
    ∙ ap (λ (o : Option Refusal). all_noted o methods) (sym (noted_both found (head_faults names c n) fields))
    ∙ sym (noted_both found (head_faults names c n ++ fields) methods)
  where
    head : Option Refusal
    head = lines_judged names c n found

    behind : Counts × Option Refusal
    behind = fields_judged names c.name (taken c) c.fields (class_begun c n) head

    count : behind.0 ≡ fields_counted c.fields (class_begun c n)
    count = fields_count names c.name (taken c) c.fields (class_begun c n) head

    fields : List Refusal
    fields = fields_faults names c.name (taken c) c.fields (class_begun c n)

    methods : List Refusal
    methods = methods_faults names c.name c.methods (fields_counted c.fields (class_begun c n))

-- what is counted after it
class_count : (names : Names) (c : PlainClassText) (n : Counts) (found : Option Refusal) → (class_judged names c n found).0 ≡ methods_counted c.methods (fields_counted c.fields (class_begun c n))
class_count names c n found =
    methods_count names c.name c.methods behind.0 behind.1 ∙ ap (methods_counted c.methods) (fields_count names c.name (taken c) c.fields (class_begun c n) (lines_judged names c n found))
  where
    behind : Counts × Option Refusal
    behind = fields_judged names c.name (taken c) c.fields (class_begun c n) (lines_judged names c n found)

-- all classes
pub classes_noted : (names : Names) (cs : List PlainClassText) (n : Counts) (found : Option Refusal) → classes_judged names cs n found ≡ all_noted found (classes_faults names cs n)
unfolding classes_judged classes_faults
classes_noted names [] n found = refl
classes_noted names (c ∷ cs) n found =
    classes_noted names cs (counted_if (is_named c) (class_judged names c n found).0) (class_judged names c n found).1
    ∙ ap (λ (k : Counts). all_noted (class_judged names c n found).1 (classes_faults names cs (counted_if (is_named c) k))) (class_count names c n found)
    ∙ ap (λ (o : Option Refusal). all_noted o (classes_faults names cs (whole_counted c n))) (class_noted names c n found)
    ∙ sym (noted_both found (class_faults names c n) (classes_faults names cs (whole_counted c n)))

-- ---- bodies

-- a line
line_noted : (names : Names) (thread_run : ℕ) (texts labels : Rows) (l : PlainLineText) (n : ℕ) (found : Option Refusal) → line_judged names thread_run texts labels l n found ≡ all_noted found (line_faults names thread_run texts labels l n)
line_noted names thread_run texts labels l n found =
    two_noted found l.line (fault_in (linked names thread_run texts labels l)) l.line (only_if kinds.TooMany (nat_le 16384 n) None)

-- the lines of a method
code_noted : (names : Names) (thread_run : ℕ) (texts labels : Rows) (ls : List PlainLineText) (n : ℕ) (found : Option Refusal) → code_judged names thread_run texts labels ls n found ≡ all_noted found (code_faults names thread_run texts labels ls n)
unfolding code_judged code_faults
code_noted names thread_run texts labels [] n found = refl
code_noted names thread_run texts labels (l ∷ ls) n found =
    code_noted names thread_run texts labels ls (next n) (line_judged names thread_run texts labels l n found)
    ∙ ap (λ (o : Option Refusal). all_noted o (code_faults names thread_run texts labels ls (next n))) (line_noted names thread_run texts labels l n found)
    ∙ sym (noted_both found (line_faults names thread_run texts labels l n) (code_faults names thread_run texts labels ls (next n)))

-- its exception table
catches_noted : (cs : List CatchText) (found : Option Refusal) → catches_judged cs found ≡ all_noted found (catches_faults cs)
unfolding catches_judged
catches_noted [] found = refl
catches_noted (c ∷ cs) found = catches_noted cs (noted found c.line (Some kinds.OutOfProfile))

-- a method
body_noted : (names : Names) (thread_run : ℕ) (texts : Rows) (m : PlainMethodText) (found : Option Refusal) → body_judged names thread_run texts m found ≡ all_noted found (method_faults names thread_run texts m)
body_noted names thread_run texts m found =
    catches_noted m.catches (code_judged names thread_run texts (labels_of m) m.lines 0 found)
    ∙ ap (λ (o : Option Refusal). all_noted o (catches_faults m.catches)) (code_noted names thread_run texts (labels_of m) m.lines 0 found)
    ∙ sym (noted_both found (code_faults names thread_run texts (labels_of m) m.lines 0) (catches_faults m.catches))

-- the methods of a class
methods_bodies_noted : (names : Names) (thread_run : ℕ) (texts : Rows) (ms : List PlainMethodText) (found : Option Refusal) → bodies.methods_judged names thread_run texts ms found ≡ all_noted found (flat_map (method_faults names thread_run texts) ms)
unfolding bodies.methods_judged
methods_bodies_noted names thread_run texts [] found = refl
methods_bodies_noted names thread_run texts (m ∷ ms) found =
    methods_bodies_noted names thread_run texts ms (body_judged names thread_run texts m found)
    ∙ ap (λ (o : Option Refusal). all_noted o (flat_map (method_faults names thread_run texts) ms)) (body_noted names thread_run texts m found)
    ∙ sym (noted_both found (method_faults names thread_run texts m) (flat_map (method_faults names thread_run texts) ms))

-- all classes
pub bodies_noted : (names : Names) (thread_run : ℕ) (texts : Rows) (cs : List PlainClassText) (found : Option Refusal) → bodies_judged names thread_run texts cs found ≡ all_noted found (bodies_faults names thread_run texts cs)
unfolding bodies_judged
bodies_noted names thread_run texts [] found = refl
bodies_noted names thread_run texts (c ∷ cs) found =
    bodies_noted names thread_run texts cs (bodies.methods_judged names thread_run texts c.methods found)
    ∙ ap (λ (o : Option Refusal). all_noted o (bodies_faults names thread_run texts cs)) (methods_bodies_noted names thread_run texts c.methods found)
    ∙ sym (noted_both found (flat_map (method_faults names thread_run texts) c.methods) (bodies_faults names thread_run texts cs))

-- ---- main

-- one of three, however they are grouped
or_grouped : (a b c : Bool) → ((a || b) || c) ≡ (a || (b || c))
or_grouped true b c = refl
or_grouped false b c = refl

-- or none
or_none : (a : Bool) → a ≡ (a || false)
or_none true = refl
or_none false = refl

-- a method is main, or one was found before it
first_found_main : (o : Option ℕ) (b : Bool) (n : ℕ) → is_some (first_main o b n) ≡ (is_some o || b)
first_found_main (Some k) b n = refl
first_found_main None true n = refl
first_found_main None false n = refl

-- no field is main
fields_main : (class : List ℕ) (fs : List PlainFieldText) (n : Counts) (names : Names) → (with_fields class fs n names).1.main ≡ names.main
unfolding with_fields
fields_main class [] n names = refl
fields_main class (f ∷ fs) n names = fields_main class fs (field_counted f n) (with_field class f n names)

-- one of the methods of a class is
methods_main : (class : List ℕ) (ms : List PlainMethodText) (n : Counts) (names : Names) → is_some (with_methods class ms n names).1.main ≡ (is_some names.main || list_any is_main ms)
unfolding with_methods
methods_main class [] n names = or_none (is_some names.main)
methods_main class (m ∷ ms) n names =
    methods_main class ms (method_counted n) (with_method class m n names) ∙ ap (λ (b : Bool). b || list_any is_main ms) (first_found_main names.main (is_main m) n.methods)
    ∙ or_grouped (is_some names.main) (is_main m) (list_any is_main ms)

-- one of the methods of all classes
classes_main : (cs : List PlainClassText) (n : Counts) (names : Names) → is_some (with_classes cs n names).1.main ≡ (is_some names.main || has_main cs)
unfolding with_classes
classes_main [] n names = or_none (is_some names.main)
classes_main (c ∷ cs) n names =
    classes_main cs (counted_if (is_named c) (with_whole c n names).0) (with_whole c n names).1 ∙ ap (λ (b : Bool). b || has_main cs) here ∙ or_grouped (is_some names.main) (list_any is_main c.methods) (has_main cs)
  where
    behind : Counts × Names
    behind = with_fields c.name c.fields (class_begun c n) (with_class c n names)

    here : is_some (with_whole c n names).1.main ≡ (is_some names.main || list_any is_main c.methods)
    here =
        methods_main c.name c.methods behind.0 behind.1
        ∙ ap (λ (o : Option ℕ). is_some o || list_any is_main c.methods) (fields_main c.name c.fields (class_begun c n) (with_class c n names))

-- main has a number where there is one
pub main_found : (classes : List PlainClassText) → is_some (names_of classes).1.main ≡ has_main classes
unfolding names_of
main_found classes = classes_main classes no_counts no_names
