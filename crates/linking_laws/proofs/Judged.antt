-- What it says of declarations that nothing is found wrong with them.
use Rattle.std.proofs.Common.{◌≡◌, ℕ, ◌<◌, ◌≤◌, Bool, true, false, List, [], ◌∷◌, Option, Some, None, refl, sym, ap, ◌∙◌, subst, arith}
use Rattle.std.specs.Prelude.{IfSome, is_some, not, ◌||◌, if◌then◌else◌, ◌==◌, nat_le, nat_lt, length}
use Rattle.std.proofs.lemmas.Bool.{false≢true}
use Rattle.std.proofs.lemmas.Bool.Decides.{nat_tests}
use Rattle.jasmin_lines.specs.declared.class_text.NameAt.{NameAt}
use Rattle.jasmin_lines.specs.Plain.{PlainClassText, PlainFieldText, PlainMethodText}
use Rattle.name_resolver.specs.declared.fault.LinkKind.{LinkKind}
use Rattle.name_resolver.specs.declared.fault.LinkKind.TheVariants as kinds
use Rattle.class_linker.specs.declared.fault.Refusal.{Refusal}
use Rattle.name_resolver.specs.declared.names.Counts.{Counts}
use Rattle.name_resolver.specs.declared.names.Names.{Names}
use Rattle.built_in_classes.specs.Classes.{built_in_number}
use Rattle.class_linker.specs.Faults.{is_before, noted, only_if}
use Rattle.name_resolver.specs.Index.{value_of}
use Rattle.name_resolver.specs.Descriptors.{PlainSignature, method_signature, in_signature, is_unknown}
use Rattle.name_resolver.specs.Words.{method_key}
use Rattle.name_resolver.specs.Names.{is_named, class_begun, counted_if, field_counted, method_counted, with_field, with_fields, with_method, with_methods, with_class, with_whole}
use Rattle.class_linker.specs.Programs.{is_runnable}
use Rattle.class_linker.specs.Judging.{is_this, named_fault, class_fault, super_fault, has_run, implements_fault, above, gives_wrong, has_too_many, implements_judged, field_fault, is_full, taken, fields_judged, judged_method, methods_judged, lines_judged, class_judged, classes_judged}

-- ---- one fault

-- something isn't nothing
nothing : {A : Type 0} (x : A) → Some x ≡ None → ⊥
nothing x e = cc

-- one of two faults is a fault
one_of_two : (b : Bool) (new found : Refusal) → (if b then Some new else Some found) ≡ None → ⊥
one_of_two true new found e = nothing new e
one_of_two false new found e = nothing found e

-- nothing is noted only where there was nothing, and the line has no fault
pub noted_none : (found : Option Refusal) (line : ℕ) (fault : Option LinkKind) → noted found line fault ≡ None → (found ≡ None) × (fault ≡ None)
noted_none found line None e = (e, refl)
noted_none None line (Some kind) e = absurd (nothing _ e)
noted_none (Some f) line (Some kind) e = absurd (one_of_two (is_before (record { kind = kind; line = line }) f) (record { kind = kind; line = line }) f e)

-- there is no fault only where the test fails, and the rest has none
pub only_none : (kind : LinkKind) (b : Bool) (rest : Option LinkKind) → only_if kind b rest ≡ None → (b ≡ false) × (rest ≡ None)
only_none kind true rest e = absurd (nothing kind e)
only_none kind false rest e = (refl, e)

-- neither of two tests holds
pub neither : (a b : Bool) → (a || b) ≡ false → (a ≡ false) × (b ≡ false)
neither true b e = absurd (false≢true (sym e))
neither false b e = (refl, e)

-- what isn't false
pub not_false : (b : Bool) → not b ≡ false → b ≡ true
not_false true e = refl
not_false false e = absurd (false≢true (sym e))

-- a number that doesn't reach a limit
pub fewer_than : (a b : ℕ) → nat_le a b ≡ false → b < a
fewer_than a b e = grind (arith, nat_tests)

-- a number that isn't above a limit
pub at_most : (a b : ℕ) → nat_lt a b ≡ false → b ≤ a
at_most a b e = grind (arith, nat_tests)

-- the number that is there is this one
pub this_one : (n : ℕ) (o : Option ℕ) → is_this n o ≡ true → o ≡ Some n
this_one n None e = absurd (false≢true e)
this_one n (Some m) e = let same : m ≡ n = grind (arith, nat_tests) in ap Some same

-- ---- methods

-- a method that is let through is one of at most 1,024, and keeps the limits
pub record FineMethod (names : Names) (number : ℕ) (m : PlainMethodText) : Type 0 where
  pub few : number < 1024
  pub params : length (method_signature names.classes m.name m.desc).params ≤ 16
  pub stack : IfSome m.stack (λ n. n ≤ 1024)
  pub locals : IfSome m.locals (λ n. n ≤ 256)

-- a limit that is said isn't above what is allowed
within : (limit : ℕ) (o : Option ℕ) → above limit o ≡ false → IfSome o (λ n. n ≤ limit)
within limit None e = tt
within limit (Some n) e = at_most limit n e

-- a method without a fault
pub method_fine : (names : Names) (class : List ℕ) (m : PlainMethodText) (n : Counts) → judged_method names class m n ≡ None → FineMethod names n.methods m
method_fine names class m n e = record { few = fewer_than 1024 n.methods third.0; params = at_most 16 (length s.params) third.1; stack = within 1024 m.stack second.1; locals = within 256 m.locals first.1 }
  where
    s : PlainSignature
    s = method_signature names.classes m.name m.desc

    full : has_too_many m s n ≡ false
    full =
        let known : _ = only_none kinds.UnknownClass (in_signature is_unknown s) _ e in
        let once : _ = only_none kinds.Twice (not (is_this n.methods (value_of (method_key class m.name m.desc) names.methods))) _ known.1 in
        let right : _ = only_none kinds.BadDescriptor (gives_wrong m s) _ once.1 in
        (only_none kinds.TooMany (has_too_many m s n) _ right.1).0

    first : ((nat_le 1024 n.methods || nat_lt 16 (length s.params) || above 1024 m.stack) ≡ false) × (above 256 m.locals ≡ false)
    first = neither (nat_le 1024 n.methods || nat_lt 16 (length s.params) || above 1024 m.stack) (above 256 m.locals) full

    second : ((nat_le 1024 n.methods || nat_lt 16 (length s.params)) ≡ false) × (above 1024 m.stack ≡ false)
    second = neither (nat_le 1024 n.methods || nat_lt 16 (length s.params)) (above 1024 m.stack) first.0

    third : (nat_le 1024 n.methods ≡ false) × (nat_lt 16 (length s.params) ≡ false)
    third = neither (nat_le 1024 n.methods) (nat_lt 16 (length s.params)) second.0

-- methods are let through only where nothing was found before them
pub methods_none : (names : Names) (class : List ℕ) (ms : List PlainMethodText) (n : Counts) (found : Option Refusal) → (methods_judged names class ms n found).1 ≡ None → found ≡ None
unfolding methods_judged
methods_none names class [] n found e = e
methods_none names class (m ∷ ms) n found e = (noted_none found m.line (judged_method names class m n) (methods_none names class ms (method_counted n) _ e)).0

-- the first method of those that are let through
pub method_first : (names : Names) (class : List ℕ) (m : PlainMethodText) (ms : List PlainMethodText) (n : Counts) (found : Option Refusal) → (methods_judged names class (m ∷ ms) n found).1 ≡ None → FineMethod names n.methods m
unfolding methods_judged
method_first names class m ms n found e = method_fine names class m n (noted_none found m.line (judged_method names class m n) (methods_none names class ms (method_counted n) _ e)).1

-- judging counts as naming does
pub methods_count : (judging names : Names) (class : List ℕ) (ms : List PlainMethodText) (n : Counts) (found : Option Refusal) → (methods_judged judging class ms n found).0 ≡ (with_methods class ms n names).0
unfolding methods_judged with_methods
methods_count judging names class [] n found = refl
methods_count judging names class (m ∷ ms) n found = methods_count judging (with_method class m n names) class ms (method_counted n) _

-- methods don't count classes
pub methods_keep_class : (names : Names) (class : List ℕ) (ms : List PlainMethodText) (n : Counts) → (with_methods class ms n names).0.classes ≡ n.classes
unfolding with_methods
methods_keep_class names class [] n = refl
methods_keep_class names class (m ∷ ms) n = methods_keep_class (with_method class m n names) class ms (method_counted n)

-- ---- fields

-- fields are let through only where nothing was found before them
pub fields_none : (names : Names) (class : List ℕ) (taken : ℕ) (fs : List PlainFieldText) (n : Counts) (found : Option Refusal) → (fields_judged names class taken fs n found).1 ≡ None → found ≡ None
unfolding fields_judged
fields_none names class taken [] n found e = e
fields_none names class taken (f ∷ fs) n found e = (noted_none found f.line (field_fault names class f n (is_full taken f n)) (fields_none names class taken fs (field_counted f n) _ e)).0

-- judging counts as naming does
pub fields_count : (judging names : Names) (class : List ℕ) (taken : ℕ) (fs : List PlainFieldText) (n : Counts) (found : Option Refusal) → (fields_judged judging class taken fs n found).0 ≡ (with_fields class fs n names).0
unfolding fields_judged with_fields
fields_count judging names class taken [] n found = refl
fields_count judging names class taken (f ∷ fs) n found = fields_count judging (with_field class f n names) class taken fs (field_counted f n) _

-- fields don't count classes
pub fields_keep_class : (names : Names) (class : List ℕ) (fs : List PlainFieldText) (n : Counts) → (with_fields class fs n names).0.classes ≡ n.classes
unfolding with_fields
fields_keep_class names class [] n = refl
fields_keep_class names class (f ∷ fs) n = fields_keep_class (with_field class f n names) class fs (field_counted f n)

-- ---- classes

-- a class that is let through is one of at most 256, has its own number, and a run if it implements Runnable
pub record FineClass (names : Names) (number : ℕ) (c : PlainClassText) : Type 0 where
  pub named : is_named c ≡ true
  pub few : number < 288
  pub has_number : value_of c.name names.classes ≡ Some number
  pub user : is_some (built_in_number c.name) ≡ false
  pub run : is_runnable c ≡ true → has_run c ≡ true

-- a class with `.implements` that is let through has a run
implements_fine : (runs : Bool) (xs : List NameAt) (found : Option Refusal) → implements_judged runs xs found ≡ None → (found ≡ None) × (not (length xs == 0) ≡ true → runs ≡ true)
unfolding implements_judged
implements_fine runs [] found e = (e, λ h. absurd (false≢true h))
implements_fine runs (x ∷ xs) found e =
    let rest : (noted found x.line (implements_fault runs x) ≡ None) × (not (length xs == 0) ≡ true → runs ≡ true) = implements_fine runs xs _ e in
    let here : (found ≡ None) × (implements_fault runs x ≡ None) = noted_none _ _ _ rest.0 in
    (here.0, λ h. not_false runs (only_none _ _ _ here.1).0)

-- a class with a name that is let through has its own number
named_fine : (names : Names) (c : PlainClassText) (n : Counts) (b : Bool) → is_named c ≡ b → (if b then named_fault names c n else Some kinds.OutOfProfile) ≡ None → (is_named c ≡ true) × (n.classes < 288) × (value_of c.name names.classes ≡ Some n.classes) × (is_some (built_in_number c.name) ≡ false)
named_fine names c n false is e = absurd (nothing _ e)
named_fine names c n true is e =
    let twice : _ = only_none _ _ _ e in
    let many : _ = only_none _ _ _ twice.1 in
    (is, fewer_than 288 n.classes many.0, this_one n.classes (value_of c.name names.classes) (not_false (is_this n.classes (value_of c.name names.classes)) (neither _ _ twice.0).0), (neither _ _ twice.0).1)

-- what is let through of a class, before its members
lines_fine : (names : Names) (c : PlainClassText) (n : Counts) (found : Option Refusal) → lines_judged names c n found ≡ None → (found ≡ None) × FineClass names n.classes c
lines_fine names c n found e =
    let implemented : _ = implements_fine (has_run c) c.implements _ e in
    let super : _ = noted_none (noted found c.line (class_fault names c n)) c.super_line (super_fault c) implemented.0 in
    let first : _ = noted_none found c.line (class_fault names c n) super.0 in
    let named : _ = named_fine names c n (is_named c) refl first.1 in
    (first.0, record { named = named.0; few = named.1; has_number = named.2; user = named.3; run = implemented.1 })

-- the counts and the first fault after a class's fields
abbrev pub behind_fields : Names → PlainClassText → Counts → Option Refusal → Counts × Option Refusal
behind_fields names c n found = fields_judged names c.name (taken c) c.fields (class_begun c n) (lines_judged names c n found)

-- a class that is let through
pub class_fine : (names : Names) (c : PlainClassText) (n : Counts) (found : Option Refusal) → (class_judged names c n found).1 ≡ None → (found ≡ None) × FineClass names n.classes c
class_fine names c n found e =
    lines_fine names c n found (fields_none names c.name (taken c) c.fields (class_begun c n) _ (methods_none names c.name c.methods (behind_fields names c n found).0 (behind_fields names c n found).1 e))

-- judging counts as naming does
pub class_count : (judging names : Names) (c : PlainClassText) (n : Counts) (found : Option Refusal) → (class_judged judging c n found).0 ≡ (with_whole c n names).0
class_count judging names c n found =
    methods_count judging (with_fields c.name c.fields (class_begun c n) (with_class c n names)).1 c.name c.methods (behind_fields judging c n found).0 (behind_fields judging c n found).1
    ∙ ap (λ (k : Counts). (with_methods c.name c.methods k (with_fields c.name c.fields (class_begun c n) (with_class c n names)).1).0) (fields_count judging (with_class c n names) c.name (taken c) c.fields (class_begun c n) (lines_judged judging c n found))

-- members don't count classes
pub class_keeps_number : (names : Names) (c : PlainClassText) (n : Counts) → (with_whole c n names).0.classes ≡ n.classes
class_keeps_number names c n =
    methods_keep_class (with_fields c.name c.fields (class_begun c n) (with_class c n names)).1 c.name c.methods (with_fields c.name c.fields (class_begun c n) (with_class c n names)).0
    ∙ fields_keep_class (with_class c n names) c.name c.fields (class_begun c n)

-- classes are let through only where nothing was found before them
pub classes_none : (names : Names) (cs : List PlainClassText) (n : Counts) (found : Option Refusal) → classes_judged names cs n found ≡ None → found ≡ None
unfolding classes_judged
classes_none names [] n found e = e
classes_none names (c ∷ cs) n found e = (class_fine names c n found (classes_none names cs (counted_if (is_named c) (class_judged names c n found).0) (class_judged names c n found).1 e)).0

-- what is let through of classes, of which there is a first
pub record JudgedClasses (judging names : Names) (c : PlainClassText) (cs : List PlainClassText) (n : Counts) (found : Option Refusal) : Type 0 where
  pub class : FineClass judging n.classes c
  pub methods : (methods_judged judging c.name c.methods (behind_fields judging c n found).0 (behind_fields judging c n found).1).1 ≡ None
  pub rest : classes_judged judging cs (counted_if (is_named c) (with_whole c n names).0) (class_judged judging c n found).1 ≡ None

-- the first class of those that are let through, and the rest
pub classes_first : (judging names : Names) (c : PlainClassText) (cs : List PlainClassText) (n : Counts) (found : Option Refusal) → classes_judged judging (c ∷ cs) n found ≡ None → JudgedClasses judging names c cs n found
unfolding classes_judged
classes_first judging names c cs n found e =
    let here : (class_judged judging c n found).1 ≡ None = classes_none judging cs (counted_if (is_named c) (class_judged judging c n found).0) (class_judged judging c n found).1 e in
    record {
      class = (class_fine judging c n found here).1;
      methods = here;
      rest = subst (λ (k : Counts). classes_judged judging cs (counted_if (is_named c) k) (class_judged judging c n found).1 ≡ None) (class_count judging names c n found) e;
    }
