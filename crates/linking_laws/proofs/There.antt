-- What has a number is there: classes, text constants, and Thread's own run.
use Rattle.std.proofs.Common.{◌≡◌, ℕ, ◌+◌, ◌-◌, ◌<◌, ◌≤◌, Bool, true, false, List, [], ◌∷◌, ◌++◌, Option, Some, None, refl, sym, ap, ◌∙◌, subst, arith, ⊎_elim, length-append}
use Rattle.std.specs.Prelude.{length, nat_le, nat_lt, if◌then◌else◌, is_some, bytes_eq, slice_get}
use Rattle.std.proofs.lemmas.Bool.Decides.{nat_tests}
use Rattle.std.proofs.lemmas.List.{length-map}
use Rattle.vm_model.specs.Program.{PlainMethod, PlainProgram, class_at}
use Rattle.machine_model.specs.Declarations.{declarations_of}
use Rattle.machine_model.specs.Kinds.{is_class}
use Rattle.jasmin_lines.specs.declared.class_text.Operand.{Operand}
use Rattle.jasmin_lines.specs.declared.class_text.Operand.TheVariants as operand
use Rattle.jasmin_lines.specs.Plain.{PlainClassText, PlainFieldText, PlainMethodText, PlainLineText}
use Rattle.name_resolver.specs.declared.names.Counts.{Counts}
use Rattle.name_resolver.specs.declared.names.Names.{Names}
use Rattle.name_resolver.specs.Index.{Rows, value_of}
use Rattle.built_in_classes.specs.Classes.{BuiltInClass, built_in_classes, built_in_number, number_from}
use Rattle.name_resolver.specs.Descriptors.{or_user, class_of}
use Rattle.name_resolver.specs.Names.{next, is_named, row_if, no_counts, no_names, class_begun, counted_if, field_counted, method_counted, with_class, with_field, with_method, with_fields, with_methods, with_whole, with_classes, names_of}
use Rattle.class_linker.specs.Bodies.{PlainTexts, no_texts, added_text, with_text, with_operand, with_operands, with_lines, with_bodies, with_all, texts_of}
use Rattle.class_linker.specs.Programs.{linked_class, methods_of, thread_method}
use Rattle.class_linker.specs.Linking.{program_of}
use Rattle.shape_laws.specs.Linked.{is_run_method, has_thread_run}
use Rattle.shape_laws.proofs.Tests.{on_left, on_right, below_true, some_there}
use Rattle.linking_laws.proofs.Codes.{Numbers}
use Rattle.linking_laws.proofs.Judged.{class_keeps_number}
use Rattle.linking_laws.proofs.Numbered.{none_some, some_same, found_row, there_last, behind_class}

-- ---- Thread's own run

-- it is the last method
last_run : (p : PlainProgram) (ms : List PlainMethod) → p.methods ≡ ms ++ thread_method ∷ [] → has_thread_run p ≡ true
last_run p ms e = subst (λ (all : List PlainMethod). is_run_method 1 (slice_get all (length all - 1)) ≡ true) (sym e) (subst (λ (k : ℕ). is_run_method 1 (slice_get (ms ++ thread_method ∷ []) k) ≡ true) (sym place) found)
  where
    place : length (ms ++ thread_method ∷ []) - 1 ≡ length ms
    place = omega (arith, length-append ms (thread_method ∷ []))

    found : is_run_method 1 (slice_get (ms ++ thread_method ∷ []) (length ms)) ≡ true
    found = subst (λ (o : Option PlainMethod). is_run_method 1 o ≡ true) (sym (there_last ms thread_method)) refl

-- ---- counting

-- a number that reaches a limit
pub at_least : (a b : ℕ) → a ≤ b → nat_le a b ≡ true
at_least a b h = grind (arith, nat_tests)

-- the next class is a user class too
pub next_above : (n : ℕ) → 32 ≤ n → 32 ≤ next n
next_above n h = by (nat_lt n 2147483647)
  where
    by : (b : Bool) → 32 ≤ (if b then n + 1 else n)
    by true = omega (arith, h)
    by false = h

-- counting adds at most one
pub next_within : (n : ℕ) → next n ≤ n + 1
next_within n = by (nat_lt n 2147483647)
  where
    by : (b : Bool) → (if b then n + 1 else n) ≤ n + 1
    by true = omega arith
    by false = omega arith

-- ---- the numbers of classes

-- what these rows say is a number of a user class below this one
abbrev pub ClassesWithin : ℕ → Rows → Type 0
ClassesWithin high rows = (key : List ℕ) (k : ℕ) → value_of key rows ≡ Some k → (32 ≤ k) × (k < high)

-- one class more
row_within : (high : ℕ) (wanted : Bool) (word : List ℕ) (n : ℕ) (rows : Rows) → 32 ≤ n → n < high → ClassesWithin high rows → ClassesWithin high (row_if wanted word n rows)
row_within high wanted word n rows above below all key k e =
    ⊎_elim (all key k) (λ (h : (wanted ≡ true) × (key ≡ word) × (k ≡ n)). (omega (arith, above, h.2), omega (arith, below, h.2))) (found_row wanted key word n k rows e)

-- fields add no class
fields_keep_classes : (class : List ℕ) (fs : List PlainFieldText) (n : Counts) (names : Names) → (with_fields class fs n names).1.classes ≡ names.classes
unfolding with_fields
fields_keep_classes class [] n names = refl
fields_keep_classes class (f ∷ fs) n names = fields_keep_classes class fs (field_counted f n) (with_field class f n names)

-- nor do methods
methods_keep_classes : (class : List ℕ) (ms : List PlainMethodText) (n : Counts) (names : Names) → (with_methods class ms n names).1.classes ≡ names.classes
unfolding with_methods
methods_keep_classes class [] n names = refl
methods_keep_classes class (m ∷ ms) n names = methods_keep_classes class ms (method_counted n) (with_method class m n names)

-- so a class adds its own name at most
pub whole_classes : (c : PlainClassText) (n : Counts) (names : Names) → (with_whole c n names).1.classes ≡ row_if (is_named c) c.name n.classes names.classes
whole_classes c n names =
    methods_keep_classes c.name c.methods (with_fields c.name c.fields (class_begun c n) (with_class c n names)).0 (with_fields c.name c.fields (class_begun c n) (with_class c n names)).1
    ∙ fields_keep_classes c.name c.fields (class_begun c n) (with_class c n names)

-- a class is counted once at most
counted_above : (b : Bool) (n : Counts) → 32 ≤ n.classes → 32 ≤ (counted_if b n).classes
counted_above true n h = next_above n.classes h
counted_above false n h = h

-- and isn't counted twice
counted_within : (b : Bool) (n : Counts) → (counted_if b n).classes ≤ n.classes + 1
counted_within true n = next_within n.classes
counted_within false n = omega arith

-- all classes
classes_within : (high : ℕ) (cs : List PlainClassText) (n : Counts) (names : Names) → 32 ≤ n.classes → n.classes + length cs ≤ high → ClassesWithin high names.classes → ClassesWithin high (with_classes cs n names).1.classes
unfolding with_classes
classes_within high [] n names above below all = all
classes_within high (c ∷ cs) n names above below all = classes_within high cs (behind_class c n names) (with_whole c n names).1 above_behind below_behind behind
  where
    same : (with_whole c n names).0.classes ≡ n.classes
    same = class_keeps_number names c n

    above_behind : 32 ≤ (behind_class c n names).classes
    above_behind = counted_above (is_named c) (with_whole c n names).0 (omega (arith, same, above))

    below_behind : (behind_class c n names).classes + length cs ≤ high
    below_behind = omega (arith, counted_within (is_named c) (with_whole c n names).0, same, below)

    behind : ClassesWithin high (with_whole c n names).1.classes
    behind = subst (ClassesWithin high) (sym (whole_classes c n names)) (row_within high (is_named c) c.name n.classes names.classes above (omega (arith, below)) all)

-- the classes of a text
pub names_within : (classes : List PlainClassText) → ClassesWithin (32 + length classes) (names_of classes).1.classes
unfolding names_of
names_within classes = classes_within (32 + length classes) classes no_counts no_names (omega arith) (omega arith) (λ key k e. absurd (none_some k e))

-- what all rows pass, the one that is found passes
-- the number that is found is below the size of the table, counted from where the search begins
number_below : (first n : ℕ) (classes : List BuiltInClass) (name : List ℕ) → number_from first classes name ≡ Some n → n < first + length classes
number_below first n [] name e = absurd (none_some n e)
number_below first n (c ∷ classes) name e = by (bytes_eq name c.name) e (number_below (first + 1) n classes name)
  where
    by : (b : Bool) → (if b then Some first else number_from (first + 1) classes name) ≡ Some n → (number_from (first + 1) classes name ≡ Some n → n < first + 1 + length classes) → n < first + length (c ∷ classes)
    by true h more = let same : first ≡ n = some_same first n h in omega (arith, same)
    by false h more = omega (arith, more h)

-- built-in classes have numbers below 23
built_in_below : (name : List ℕ) (n : ℕ) → built_in_number name ≡ Some n → nat_lt n 23 ≡ true
unfolding built_in_number
built_in_below name n e = let low : n < 23 = number_below 0 n built_in_classes name e in grind (arith, nat_tests)

-- a user class is there
pub user_there : (p : PlainProgram) (n : ℕ) → 32 ≤ n → n < 32 + length p.classes → is_some (class_at p n) ≡ true
user_there p n above below = by (nat_le 32 n) (at_least 32 n above)
  where
    found : is_some (slice_get p.classes (n - 32)) ≡ true
    found = ap is_some (some_there p.classes (n - 32) (omega (arith, above, below))).1

    by : (b : Bool) → b ≡ true → is_some (if b then slice_get p.classes (n - 32) else None) ≡ true
    by true is = found
    by false is = cc

-- a class with a number is there
class_found : (p : PlainProgram) (classes : Rows) (name : List ℕ) (n : ℕ) → ClassesWithin (32 + length p.classes) classes → class_of classes name ≡ Some n → is_class (declarations_of p) n ≡ true
class_found p classes name n within e = by (built_in_number name) refl e
  where
    by : (o : Option ℕ) → built_in_number name ≡ o → or_user classes name o ≡ Some n → is_class (declarations_of p) n ≡ true
    by (Some k) is h = on_left (nat_lt n 23) (is_some (class_at p n)) (built_in_below name n (is ∙ h))
    by None is h = let inside : (32 ≤ n) × (n < 32 + length p.classes) = within name n h in on_right (nat_lt n 23) (is_some (class_at p n)) (user_there p n inside.0 inside.1)

-- ---- text constants

-- each number is one of a text constant, and the next one is at most one more
record TextsWithin (t : PlainTexts) : Type 0 where
  pub count : t.count ≤ length t.names
  pub rows : (key : List ℕ) (k : ℕ) → value_of key t.rows ≡ Some k → k < length t.names

-- a text constant more
added_within : (text : List ℕ) (t : PlainTexts) → TextsWithin t → TextsWithin (added_text text t)
added_within text t s = record {
  count = omega (arith, longer, next_within t.count, s.count);
  rows = λ key k e. ⊎_elim (λ (h : value_of key t.rows ≡ Some k). omega (arith, longer, s.rows key k h)) (λ (h : (true ≡ true) × (key ≡ text) × (k ≡ t.count)). omega (arith, longer, s.count, h.2)) (found_row true key text t.count k t.rows e);
}
  where
    longer : length (t.names ++ text ∷ []) ≡ length t.names + 1
    longer = length-append t.names (text ∷ [])

-- or none, where it is there
text_within : (text : List ℕ) (t : PlainTexts) → TextsWithin t → TextsWithin (with_text text t)
text_within text t s = by (is_some (value_of text t.rows))
  where
    by : (b : Bool) → TextsWithin (if b then t else added_text text t)
    by true = s
    by false = added_within text t s

-- an operand
operand_within : (x : Operand) (t : PlainTexts) → TextsWithin t → TextsWithin (with_operand x t)
operand_within (operand.Text text) t s = text_within text t s
operand_within (operand.Number n) t s = s
operand_within (operand.Word word) t s = s

-- the operands of a line
operands_within : (xs : List Operand) (t : PlainTexts) → TextsWithin t → TextsWithin (with_operands xs t)
unfolding with_operands
operands_within [] t s = s
operands_within (x ∷ xs) t s = operands_within xs (with_operand x t) (operand_within x t s)

-- the lines of a method
lines_within : (ls : List PlainLineText) (t : PlainTexts) → TextsWithin t → TextsWithin (with_lines ls t)
unfolding with_lines
lines_within [] t s = s
lines_within (l ∷ ls) t s = lines_within ls (with_operands l.operands t) (operands_within l.operands t s)

-- the methods of a class
bodies_within : (ms : List PlainMethodText) (t : PlainTexts) → TextsWithin t → TextsWithin (with_bodies ms t)
unfolding with_bodies
bodies_within [] t s = s
bodies_within (m ∷ ms) t s = bodies_within ms (with_lines m.lines t) (lines_within m.lines t s)

-- all classes
all_within : (cs : List PlainClassText) (t : PlainTexts) → TextsWithin t → TextsWithin (with_all cs t)
unfolding with_all
all_within [] t s = s
all_within (c ∷ cs) t s = all_within cs (with_bodies c.methods t) (bodies_within c.methods t s)

-- the text constants of a text
texts_within : (classes : List PlainClassText) → TextsWithin (texts_of classes)
texts_within classes = all_within classes no_texts (record { count = omega arith; rows = λ key k e. absurd (none_some k e) })

-- ---- the whole program

-- the program of these classes, with this main
abbrev pub whole_of : List PlainClassText → ℕ → PlainProgram
whole_of classes main = program_of (names_of classes).1 (names_of classes).0.methods (texts_of classes) main classes

-- what has a number is there
pub numbers : (classes : List PlainClassText) (main : ℕ) → Numbers (whole_of classes main) (names_of classes).1 (texts_of classes).rows
numbers classes main = record {
  run = last_run whole (methods_of names (names_of classes).0.methods (texts_of classes).rows 32 classes) refl;
  class_there = λ name n e. class_found whole names.classes name n within e;
  text_there = λ text n e. below_true n (length whole.texts) ((texts_within classes).rows text n e);
}
  where
    names : Names
    names = (names_of classes).1

    whole : PlainProgram
    whole = whole_of classes main

    within : ClassesWithin (32 + length whole.classes) names.classes
    within = subst (λ (count : ℕ). ClassesWithin (32 + count) names.classes) (sym (length-map classes (linked_class names))) (names_within classes)
