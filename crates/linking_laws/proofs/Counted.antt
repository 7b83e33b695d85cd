-- How many classes, statics and fields a text has, of which nothing is found wrong.
use Rattle.std.proofs.Common.{◌≡◌, ℕ, suc, ◌+◌, ◌<◌, ◌≤◌, Bool, true, false, List, [], ◌∷◌, Option, Some, None, refl, sym, ap, ◌∙◌, subst, arith, length-append}
use Rattle.std.specs.Prelude.{not, ◌||◌, if◌then◌else◌, nat_le, length, map}
use Rattle.std.specs.List.{AllByRecursion}
use Rattle.vm_model.specs.Program.{PlainClass}
use Rattle.vm_model.specs.declared.program.Field.{Field}
use Rattle.vm_model.specs.declared.program.StaticSlot.{StaticSlot}
use Rattle.jasmin_lines.specs.Plain.{PlainClassText, PlainFieldText, PlainMethodText}
use Rattle.name_resolver.specs.declared.descriptors.Typed.{Typed}
use Rattle.name_resolver.specs.declared.fault.LinkKind.TheVariants as kinds
use Rattle.class_linker.specs.declared.fault.Refusal.{Refusal}
use Rattle.name_resolver.specs.declared.names.Counts.{Counts}
use Rattle.name_resolver.specs.declared.names.Names.{Names}
use Rattle.name_resolver.specs.Index.{value_of}
use Rattle.name_resolver.specs.Words.{has_foreign_flag, field_word}
use Rattle.name_resolver.specs.Descriptors.{type_of, is_unknown, is_bad, is_outside}
use Rattle.name_resolver.specs.Names.{next, is_named, is_static, is_thread, class_begun, counted_if, field_counted, method_counted, with_class, with_fields, with_method, with_methods, with_whole}
use Rattle.class_linker.specs.Judging.{is_this, has_strange_value, field_fault, is_full, taken, fields_judged, lines_judged, class_judged, classes_judged}
use Rattle.class_linker.specs.Programs.{static_slot, field_kind, slots_in, slots_of, fields_of, linked_class}
use Rattle.linking_laws.proofs.Judged.{noted_none, only_none, neither, not_false, fewer_than, this_one, fields_none, fields_count, methods_none, JudgedClasses, classes_first, behind_fields}
use Rattle.linking_laws.proofs.Numbered.{next_number, behind_class, number_behind}

-- ---- fields

-- a field that is let through has its own number, there is room for it, and its type is one of the language
pub record FineField (names : Names) (class : List ℕ) (n : Counts) (before : ℕ) (f : PlainFieldText) : Type 0 where
  pub own : value_of (field_word class f.name) names.fields ≡ Some n.fields
  pub room : is_full before f n ≡ false
  pub known : is_unknown (type_of names.classes f.desc) ≡ false
  pub spelled : is_bad (type_of names.classes f.desc) ≡ false
  pub inside : is_outside (type_of names.classes f.desc) ≡ false

-- a field without a fault
pub field_fine : (names : Names) (class : List ℕ) (n : Counts) (before : ℕ) (f : PlainFieldText) → field_fault names class f n (is_full before f n) ≡ None → FineField names class n before f
field_fine names class n before f e =
    let known : _ = only_none kinds.UnknownClass (is_unknown t) _ e in
    let once : _ = only_none kinds.Twice (not (is_this n.fields (value_of (field_word class f.name) names.fields))) _ known.1 in
    let spelled : _ = only_none kinds.BadDescriptor (is_bad t) _ once.1 in
    let room : _ = only_none kinds.TooMany (is_full before f n) _ spelled.1 in
    let inside : _ = only_none kinds.OutOfProfile (has_foreign_flag f.flags || is_outside t || has_strange_value f t) None room.1 in
    record {
      own = this_one n.fields (value_of (field_word class f.name) names.fields) (not_false (is_this n.fields (value_of (field_word class f.name) names.fields)) once.0);
      room = room.0;
      known = known.0;
      spelled = spelled.0;
      inside = (neither (has_foreign_flag f.flags) (is_outside t) (neither (has_foreign_flag f.flags || is_outside t) (has_strange_value f t) inside.0).0).1;
    }
  where
    t : Typed
    t = type_of names.classes f.desc

-- the first field of those that are let through
pub field_first : (names : Names) (class : List ℕ) (before : ℕ) (f : PlainFieldText) (fs : List PlainFieldText) (n : Counts) (found : Option Refusal) → (fields_judged names class before (f ∷ fs) n found).1 ≡ None → FineField names class n before f
unfolding fields_judged
field_first names class before f fs n found e =
    field_fine names class n before f (noted_none found f.line (field_fault names class f n (is_full before f n)) (fields_none names class before fs (field_counted f n) _ e)).1

-- ---- statics

-- so many are counted, up to a limit
pub record CountedTo (limit before many after : ℕ) : Type 0 where
  pub is : after ≡ before + many
  pub few : before + many ≤ limit

-- one more
counted_more : (limit before many after : ℕ) → before < limit → before < 2147483647 → (next before ≤ limit → CountedTo limit (next before) many after) → CountedTo limit before (suc many) after
counted_more limit before many after room low rest =
    let one : next before ≡ before + 1 = next_number before low in
    let more : CountedTo limit (next before) many after = rest (omega (arith, one, room)) in
    record { is = omega (arith, more.is, one); few = omega (arith, more.few, one) }

-- the statics of a class
pub slots_counted : (names : Names) (class : List ℕ) (number before : ℕ) (fs : List PlainFieldText) (n : Counts) (found : Option Refusal) → (fields_judged names class before fs n found).1 ≡ None → n.statics ≤ 1024
    → CountedTo 1024 n.statics (length (slots_in names number fs)) (fields_judged names class before fs n found).0.statics
unfolding fields_judged slots_in
slots_counted names class number before [] n found e few = record { is = omega arith; few = omega (arith, few) }
slots_counted names class number before (f ∷ fs) n found e few = by (is_static f.flags) (field_first names class before f fs n found e).room (slots_counted names class number before fs (field_counted f n) _ e)
  where
    slots : List StaticSlot
    slots = slots_in names number fs

    by : {after : ℕ} (b : Bool) → (if b then nat_le 1024 n.statics else nat_le (64 + before) n.places) ≡ false
        → ((if b then next n.statics else n.statics) ≤ 1024 → CountedTo 1024 (if b then next n.statics else n.statics) (length slots) after)
        → CountedTo 1024 n.statics (length (if b then static_slot names number f ∷ slots else slots)) after
    by {after = after} true room rest = let low : n.statics < 1024 = fewer_than 1024 n.statics room in counted_more 1024 n.statics (length slots) after low (omega (arith, low)) rest
    by false room rest = rest few

-- methods add no static
methods_keep_statics : (names : Names) (class : List ℕ) (ms : List PlainMethodText) (n : Counts) → (with_methods class ms n names).0.statics ≡ n.statics
unfolding with_methods
methods_keep_statics names class [] n = refl
methods_keep_statics names class (m ∷ ms) n = methods_keep_statics (with_method class m n names) class ms (method_counted n)

-- nor does the class itself
counted_statics : (b : Bool) (n : Counts) → (counted_if b n).statics ≡ n.statics
counted_statics true n = refl
counted_statics false n = refl

-- what is counted behind a class
statics_behind : (judging names : Names) (c : PlainClassText) (n : Counts) (found : Option Refusal) → (behind_class c n names).statics ≡ (behind_fields judging c n found).0.statics
statics_behind judging names c n found =
    counted_statics (is_named c) (with_whole c n names).0
    ∙ methods_keep_statics (with_fields c.name c.fields (class_begun c n) (with_class c n names)).1 c.name c.methods (with_fields c.name c.fields (class_begun c n) (with_class c n names)).0
    ∙ ap (λ (k : Counts). k.statics) (sym (fields_count judging (with_class c n names) c.name (taken c) c.fields (class_begun c n) (lines_judged judging c n found)))

-- nothing is found among a class's fields
pub fields_found : (judging names : Names) (c : PlainClassText) (cs : List PlainClassText) (n : Counts) (found : Option Refusal) → JudgedClasses judging names c cs n found → (behind_fields judging c n found).1 ≡ None
fields_found judging names c cs n found first = methods_none judging c.name c.methods (behind_fields judging c n found).0 (behind_fields judging c n found).1 first.methods

-- the number of the class behind one that is let through
pub class_behind : (judging names : Names) (c : PlainClassText) (cs : List PlainClassText) (n : Counts) (found : Option Refusal) → JudgedClasses judging names c cs n found → (behind_class c n names).classes ≡ n.classes + 1
class_behind judging names c cs n found first = number_behind judging names c n first.class ∙ next_number n.classes (omega (arith, first.class.few))

-- the number of the class behind one, as slots and methods count
pub next_behind : (judging names : Names) (c : PlainClassText) (cs : List PlainClassText) (n : Counts) (found : Option Refusal) → JudgedClasses judging names c cs n found → next n.classes ≡ (behind_class c n names).classes
next_behind judging names c cs n found first = sym (number_behind judging names c n first.class)

-- the statics of all classes
pub statics_counted : (judging names : Names) (cs : List PlainClassText) (n : Counts) (found : Option Refusal) → classes_judged judging cs n found ≡ None → n.statics ≤ 1024 → n.statics + length (slots_of judging n.classes cs) ≤ 1024
unfolding slots_of
statics_counted judging names [] n found e few = omega (arith, few)
statics_counted judging names (c ∷ cs) n found e few =
    let own : List StaticSlot = slots_in judging n.classes c.fields in
    let here : CountedTo 1024 n.statics (length own) (behind_fields judging c n found).0.statics = slots_counted judging c.name n.classes (taken c) c.fields (class_begun c n) (lines_judged judging c n found) (fields_found judging names c cs n found first) few in
    let behind : (behind_class c n names).statics ≡ n.statics + length own = statics_behind judging names c n found ∙ here.is in
    let more : (behind_class c n names).statics + length (slots_of judging (behind_class c n names).classes cs) ≤ 1024 =
    statics_counted judging (with_whole c n names).1 cs (behind_class c n names) (class_judged judging c n found).1 first.rest (omega (arith, behind, here.few)) in
    let rest : (behind_class c n names).statics + length (slots_of judging (next n.classes) cs) ≤ 1024 =
    subst (λ (k : ℕ). (behind_class c n names).statics + length (slots_of judging k cs) ≤ 1024) (sym (next_behind judging names c cs n found first)) more in
    omega (arith, length-append own (slots_of judging (next n.classes) cs), behind, rest)
  where
    first : JudgedClasses judging names c cs n found
    first = classes_first judging names c cs n found e

-- ---- fields of objects

-- the fields of a class, after its target if it is one of threads
pub fields_counted_to : (names : Names) (class : List ℕ) (before : ℕ) (fs : List PlainFieldText) (n : Counts) (found : Option Refusal) → (fields_judged names class before fs n found).1 ≡ None → before ≤ 1 → n.places ≤ 64 + before
    → CountedTo (64 + before) n.places (length (fields_of names fs)) (fields_judged names class before fs n found).0.places
unfolding fields_judged fields_of
fields_counted_to names class before [] n found e small few = record { is = omega arith; few = omega (arith, few) }
fields_counted_to names class before (f ∷ fs) n found e small few = by (is_static f.flags) (field_first names class before f fs n found e).room (fields_counted_to names class before fs (field_counted f n) _ e small)
  where
    own : List Field
    own = fields_of names fs

    by : {after : ℕ} (b : Bool) → (if b then nat_le 1024 n.statics else nat_le (64 + before) n.places) ≡ false
        → ((if b then n.places else next n.places) ≤ 64 + before → CountedTo (64 + before) (if b then n.places else next n.places) (length own) after)
        → CountedTo (64 + before) n.places (length (if b then own else record { name = f.name; kind = field_kind names f } ∷ own)) after
    by true room rest = rest few
    by {after = after} false room rest = let low : n.places < 64 + before = fewer_than (64 + before) n.places room in counted_more (64 + before) n.places (length own) after low (omega (arith, low, small)) rest

-- at most 64 for each class
class_few : (names : Names) (c : PlainClassText) (n : Counts) (found : Option Refusal) → (behind_fields names c n found).1 ≡ None → length (fields_of names c.fields) ≤ 64
class_few names c n found e = by (is_thread c) (fields_counted_to names c.name (taken c) c.fields (class_begun c n) (lines_judged names c n found) e)
  where
    many : ℕ
    many = length (fields_of names c.fields)

    by : {after : ℕ} (b : Bool) → ((if b then 1 else 0) ≤ 1 → (if b then 1 else 0) ≤ 64 + (if b then 1 else 0) → CountedTo (64 + (if b then 1 else 0)) (if b then 1 else 0) many after) → many ≤ 64
    by {after = after} true h = let t : CountedTo 65 1 many after = h (omega arith) (omega arith) in omega (arith, t.few)
    by {after = after} false h = let t : CountedTo 64 0 many after = h (omega arith) (omega arith) in omega (arith, t.few)

-- the same of all classes
pub classes_few : (judging names : Names) (cs : List PlainClassText) (n : Counts) (found : Option Refusal) → classes_judged judging cs n found ≡ None → AllByRecursion (λ (c : PlainClass). length c.fields ≤ 64) (map (linked_class judging) cs)
classes_few judging names [] n found e = tt
classes_few judging names (c ∷ cs) n found e =
    let first : JudgedClasses judging names c cs n found = classes_first judging names c cs n found e in
    (class_few judging c n found (fields_found judging names c cs n found first), classes_few judging (with_whole c n names).1 cs (behind_class c n names) (class_judged judging c n found).1 first.rest)

-- ---- classes

-- at most 256 of them
pub classes_counted : (judging names : Names) (cs : List PlainClassText) (n : Counts) (found : Option Refusal) → classes_judged judging cs n found ≡ None → n.classes ≤ 288 → n.classes + length cs ≤ 288
classes_counted judging names [] n found e few = omega (arith, few)
classes_counted judging names (c ∷ cs) n found e few =
    let first : JudgedClasses judging names c cs n found = classes_first judging names c cs n found e in
    let behind : (behind_class c n names).classes ≡ n.classes + 1 = class_behind judging names c cs n found first in
    let more : (behind_class c n names).classes + length cs ≤ 288 = classes_counted judging (with_whole c n names).1 cs (behind_class c n names) (class_judged judging c n found).1 first.rest (omega (arith, behind, first.class.few)) in
    omega (arith, behind, more)
