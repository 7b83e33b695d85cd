-- A name's number is the place of what it names: a word's number is that of its method, and main is the method of its number.
use Rattle.std.proofs.Common.{◌≡◌, ℕ, zero, suc, ◌+◌, ◌<◌, ◌≤◌, Bool, true, false, List, [], ◌∷◌, ◌++◌, Option, Some, None, refl, sym, ap, ◌∙◌, subst, arith, append_assoc, append-nil, length-append, ⊎_elim, ◌⊎◌, inl, inr}
use Rattle.std.specs.Prelude.{not, IfSome, ◌&&◌, if◌then◌else◌, nat_lt, length, map, is_some, bytes_eq, codes, slice_get}
use Rattle.std.specs.List.{AllByRecursion}
use Rattle.std.proofs.lemmas.Bool.{false≢true}
use Rattle.std.proofs.lemmas.List.{length-map}
use Rattle.std.proofs.lemmas.Slice.Eq.{bytes_eq-Decides}
use Rattle.vm_model.specs.declared.value.Kind.TheVariants as kind
use Rattle.vm_model.specs.Program.{PlainMethod}
use Rattle.jasmin_lines.specs.Plain.{PlainClassText, PlainFieldText, PlainMethodText}
use Rattle.class_linker.specs.declared.fault.Refusal.{Refusal}
use Rattle.name_resolver.specs.declared.names.Counts.{Counts}
use Rattle.name_resolver.specs.declared.names.Names.{Names}
use Rattle.name_resolver.specs.Index.{Rows, value_of}
use Rattle.name_resolver.specs.Words.{has, method_key}
use Rattle.name_resolver.specs.Descriptors.{PlainSignature, method_signature, takes_args, args_signature, kind_of, kind_given}
use Rattle.name_resolver.specs.Names.{next, is_named, is_static, row_if, is_main, first_main, class_begun, class_counted, counted_if, field_counted, method_counted, with_class, with_field, with_method, with_fields, with_methods, with_whole, with_classes}
use Rattle.class_linker.specs.Judging.{methods_judged, class_judged, classes_judged}
use Rattle.class_linker.specs.Programs.{linked_method, methods_in, methods_of}
use Rattle.shape_laws.specs.Linked.{IsLinkedMain}
use Rattle.shape_laws.proofs.Tests.{both, all_both}
use Rattle.linking_laws.proofs.Judged.{FineMethod, FineClass, method_first, classes_first, class_keeps_number, behind_fields, JudgedClasses, fields_count}

-- ---- counting

-- counting is adding one, up to where no text comes to
pub next_number : (n : ℕ) → n < 2147483647 → next n ≡ n + 1
next_number n h = rw (below n h) refl
  where
    below : (k : ℕ) → k < 2147483647 → nat_lt k 2147483647 ≡ true
    below k h = grind arith

-- ---- rows

-- nothing isn't something
pub none_some : {A : Type 0} (x : A) → None ≡ Some x → ⊥
none_some x e = cc

-- what is the same where it is there
pub some_same : {A : Type 0} (x y : A) → Some x ≡ Some y → x ≡ y
some_same x y e = cc

-- what is found in a row at the end, or before it
found_last : (key word : List ℕ) (n k : ℕ) (rows : Rows) → value_of key (rows ++ (word, n) ∷ []) ≡ Some k → (value_of key rows ≡ Some k) ⊎ ((key ≡ word) × (k ≡ n))
found_last key word n k [] e = last (bytes_eq key word) refl e
  where
    last : (b : Bool) → bytes_eq key word ≡ b → (if b then Some n else None) ≡ Some k → (value_of key [] ≡ Some k) ⊎ ((key ≡ word) × (k ≡ n))
    last true is h = inr ((bytes_eq-Decides key word).0 is, sym (some_same n k h))
    last false is h = absurd (none_some k h)
found_last key word n k (row ∷ rows) e = first (bytes_eq key row.0) e (found_last key word n k rows)
  where
    first : (b : Bool) → (if b then Some row.1 else value_of key (rows ++ (word, n) ∷ [])) ≡ Some k → (value_of key (rows ++ (word, n) ∷ []) ≡ Some k → (value_of key rows ≡ Some k) ⊎ ((key ≡ word) × (k ≡ n)))
        → ((if b then Some row.1 else value_of key rows) ≡ Some k) ⊎ ((key ≡ word) × (k ≡ n))
    first true h more = inl h
    first false h more = more h

-- the same where the word may be there already
found_added : (key word : List ℕ) (n k : ℕ) (rows : Rows) (b : Bool) → value_of key (if b then rows else rows ++ (word, n) ∷ []) ≡ Some k → (value_of key rows ≡ Some k) ⊎ ((key ≡ word) × (k ≡ n))
found_added key word n k rows true e = inl e
found_added key word n k rows false e = found_last key word n k rows e

-- a number that is found is an earlier one, or that of the new row
pub found_row : (wanted : Bool) (key word : List ℕ) (n k : ℕ) (rows : Rows) → value_of key (row_if wanted word n rows) ≡ Some k → (value_of key rows ≡ Some k) ⊎ ((wanted ≡ true) × (key ≡ word) × (k ≡ n))
found_row false key word n k rows e = inl e
found_row true key word n k rows e =
    ⊎_elim (λ (h : value_of key rows ≡ Some k). inl h) (λ (h : (key ≡ word) × (k ≡ n)). inr (refl, h.0, h.1)) (found_added key word n k rows (is_some (value_of word rows)) e)

-- ---- places

-- an element keeps its place where others come after
pub there_before : {A : Type 0} (xs ys : List A) (k : ℕ) (x : A) → slice_get xs k ≡ Some x → slice_get (xs ++ ys) k ≡ Some x
there_before [] ys k x e = absurd (none_some x e)
there_before (y ∷ xs) ys zero x e = e
there_before (y ∷ xs) ys (suc k) x e = there_before xs ys k x e

-- the place of the last element
pub there_last : {A : Type 0} (xs : List A) (x : A) → slice_get (xs ++ x ∷ []) (length xs) ≡ Some x
there_last [] x = refl
there_last (y ∷ xs) x = there_last xs x

-- ---- what a number says

-- what is known of each method's text and its class's name
abbrev pub Known : Type 1
Known = List ℕ → PlainMethodText → Type 0

-- the method that a word names, which isn't static
pub record Owned (known : Known) (names : Names) (key : List ℕ) (method : PlainMethod) : Type 0 where
  pub class : List ℕ
  pub text : PlainMethodText
  pub is_key : key ≡ method_key class text.name text.desc
  pub number : value_of class names.classes ≡ Some method.class
  pub instance : method.is_static ≡ false
  pub params : method.params ≡ map kind_of (method_signature names.classes text.name text.desc).params
  pub gives : method.gives ≡ kind_given (method_signature names.classes text.name text.desc).gives
  pub is_known : known class text

-- the method of this number
pub record OwnedAt (known : Known) (names : Names) (methods : List PlainMethod) (key : List ℕ) (k : ℕ) : Type 0 where
  pub method : PlainMethod
  pub there : slice_get methods k ≡ Some method
  pub owned : Owned known names key method

-- the method of this number begins a program
pub record MainAt (methods : List PlainMethod) (k : ℕ) : Type 0 where
  pub method : PlainMethod
  pub there : slice_get methods k ≡ Some method
  pub is_main : IsLinkedMain method

-- the limits that are judged with a method's line
pub record IsLimited (m : PlainMethod) : Type 0 where
  pub params : length m.params ≤ 16
  pub stack : IfSome m.max_stack (λ n. n ≤ 1024)
  pub locals : IfSome m.max_locals (λ n. n ≤ 256)

-- names so far, and the methods so far: judged by the names of the whole text
pub record Numbered (known : Known) (judging : Names) (methods : List PlainMethod) (n : Counts) (names : Names) : Type 0 where
  pub count : length methods ≡ n.methods
  pub few : n.methods ≤ 1024
  pub rows : (key : List ℕ) (k : ℕ) → value_of key names.instance_methods ≡ Some k → OwnedAt known judging methods key k
  pub main : (k : ℕ) → names.main ≡ Some k → MainAt methods k
  pub limits : AllByRecursion IsLimited methods

-- ---- one method more

-- what isn't true
not_true : (b : Bool) → not b ≡ true → b ≡ false
not_true true e = absurd (false≢true e)
not_true false e = refl

-- main's parameters
with_args : (names : Names) (b : Bool) (s : PlainSignature) → b ≡ true → map kind_of (if b then args_signature else s).params ≡ kind.Args ∷ []
with_args names true s e = refl
with_args names false s e = absurd (false≢true e)

-- the method that begins a program
main_linked : (judging : Names) (thread_run : ℕ) (texts : Rows) (number : ℕ) (m : PlainMethodText) → is_main m ≡ true → IsLinkedMain (linked_method judging thread_run texts number m)
main_linked judging thread_run texts number m e =
    let last : _ = both (bytes_eq m.name (codes "main") && bytes_eq m.desc (codes "([Ljava/lang/String;)V") && has (codes "public") m.flags) (has (codes "static") m.flags) e in
    let named : _ = both (bytes_eq m.name (codes "main") && bytes_eq m.desc (codes "([Ljava/lang/String;)V")) (has (codes "public") m.flags) last.0 in
    record { is_static = last.1; params = with_args judging (takes_args m.name m.desc) _ named.0 }

-- main is the first one
found_main : (o : Option ℕ) (b : Bool) (n k : ℕ) → first_main o b n ≡ Some k → (o ≡ Some k) ⊎ ((b ≡ true) × (k ≡ n))
found_main (Some j) b n k e = inl e
found_main None true n k e = inr (refl, sym (some_same n k e))
found_main None false n k e = absurd (none_some k e)

-- a method more gets the next number
method_numbered : (known : Known) (judging : Names) (thread_run : ℕ) (texts : Rows) (class : List ℕ) (number : ℕ) (m : PlainMethodText) (before : List PlainMethod) (n : Counts) (names : Names)
    → value_of class judging.classes ≡ Some number → known class m → FineMethod judging n.methods m → Numbered known judging before n names
    → Numbered known judging (before ++ linked_method judging thread_run texts number m ∷ []) (method_counted n) (with_method class m n names)
method_numbered known judging thread_run texts class number m before n names is_number is_known fine s = record {
  count = length-append before (new ∷ []) ∙ ap (λ (k : ℕ). k + 1) s.count ∙ sym counted;
  few = subst (λ (k : ℕ). k ≤ 1024) (sym counted) (omega (arith, fine.few));
  rows = λ key k e. ⊎_elim (earlier key k) (newest key k) (found_row (not (is_static m.flags)) key (method_key class m.name m.desc) n.methods k names.instance_methods e);
  main = λ k e. ⊎_elim (earlier_main k) (newest_main k) (found_main names.main (is_main m) n.methods k e);
  limits = all_both IsLimited before (new ∷ []) s.limits (record { params = few_params; stack = fine.stack; locals = fine.locals }, tt);
}
  where
    new : PlainMethod
    new = linked_method judging thread_run texts number m

    counted : next n.methods ≡ n.methods + 1
    counted = next_number n.methods (omega (arith, fine.few))

    few_params : length new.params ≤ 16
    few_params = omega (arith, fine.params, length-map (method_signature judging.classes m.name m.desc).params kind_of)

    at_end : (k : ℕ) → k ≡ n.methods → slice_get (before ++ new ∷ []) k ≡ Some new
    at_end k e = subst (λ (j : ℕ). slice_get (before ++ new ∷ []) j ≡ Some new) (s.count ∙ sym e) (there_last before new)

    earlier : (key : List ℕ) (k : ℕ) → value_of key names.instance_methods ≡ Some k → OwnedAt known judging (before ++ new ∷ []) key k
    earlier key k e =
        let found : OwnedAt known judging before key k = s.rows key k e in
        record { method = found.method; there = there_before before (new ∷ []) k found.method found.there; owned = found.owned }

    newest : (key : List ℕ) (k : ℕ) → (not (is_static m.flags) ≡ true) × (key ≡ method_key class m.name m.desc) × (k ≡ n.methods) → OwnedAt known judging (before ++ new ∷ []) key k
    newest key k h = record {
      method = new;
      there = at_end k h.2;
      owned = record {
        class = class;
        text = m;
        is_key = h.1;
        number = is_number;
        instance = not_true (is_static m.flags) h.0;
        params = refl;
        gives = refl;
        is_known = is_known;
      };
    }

    earlier_main : (k : ℕ) → names.main ≡ Some k → MainAt (before ++ new ∷ []) k
    earlier_main k e =
        let found : MainAt before k = s.main k e in
        record { method = found.method; there = there_before before (new ∷ []) k found.method found.there; is_main = found.is_main }

    newest_main : (k : ℕ) → (is_main m ≡ true) × (k ≡ n.methods) → MainAt (before ++ new ∷ []) k
    newest_main k h = record { method = new; there = at_end k h.1; is_main = main_linked judging thread_run texts number m h.0 }

-- ---- the members of a class

-- fields leave the methods' numbers
fields_numbered : (known : Known) (judging : Names) (class : List ℕ) (fs : List PlainFieldText) (before : List PlainMethod) (n : Counts) (names : Names)
    → Numbered known judging before n names → Numbered known judging before (with_fields class fs n names).0 (with_fields class fs n names).1
unfolding with_fields
fields_numbered known judging class [] before n names s = s
fields_numbered known judging class (f ∷ fs) before n names s =
    fields_numbered known judging class fs before (field_counted f n) (with_field class f n names) (record { count = s.count; few = s.few; rows = s.rows; main = s.main; limits = s.limits })

-- the methods of a class
methods_numbered : (known : Known) (judging : Names) (thread_run : ℕ) (texts : Rows) (class : List ℕ) (number : ℕ) (ms : List PlainMethodText) (before : List PlainMethod) (n : Counts) (found : Option Refusal) (names : Names)
    → value_of class judging.classes ≡ Some number → AllByRecursion (known class) ms → (methods_judged judging class ms n found).1 ≡ None → Numbered known judging before n names
    → Numbered known judging (before ++ methods_in judging thread_run texts number ms) (with_methods class ms n names).0 (with_methods class ms n names).1
unfolding methods_in with_methods methods_judged
methods_numbered known judging thread_run texts class number [] before n found names is_number all e s =
    subst (λ (methods : List PlainMethod). Numbered known judging methods n names) (sym (append-nil before)) s
methods_numbered known judging thread_run texts class number (m ∷ ms) before n found names is_number all e s =
    let new : PlainMethod = linked_method judging thread_run texts number m in
    let one : Numbered known judging (before ++ new ∷ []) (method_counted n) (with_method class m n names) =
    method_numbered known judging thread_run texts class number m before n names is_number all.0 (method_first judging class m ms n found e) s in
    subst (λ (methods : List PlainMethod). Numbered known judging methods (with_methods class ms (method_counted n) (with_method class m n names)).0 (with_methods class ms (method_counted n) (with_method class m n names)).1)
    (append_assoc before (new ∷ []) (methods_in judging thread_run texts number ms))
    (methods_numbered known judging thread_run texts class number ms (before ++ new ∷ []) (method_counted n) _ (with_method class m n names) is_number all.1 e one)

-- ---- classes

-- what is known of all methods of these classes
abbrev pub AllKnown : Known → List PlainClassText → Type 0
AllKnown known cs = AllByRecursion (λ (c : PlainClassText). AllByRecursion (known c.name) c.methods) cs

-- a class with its members
whole_numbered : (known : Known) (judging : Names) (thread_run : ℕ) (texts : Rows) (c : PlainClassText) (before : List PlainMethod) (n : Counts) (found : Option Refusal) (names : Names)
    → value_of c.name judging.classes ≡ Some n.classes → AllByRecursion (known c.name) c.methods
    → (methods_judged judging c.name c.methods (behind_fields judging c n found).0 (behind_fields judging c n found).1).1 ≡ None → Numbered known judging before n names
    → Numbered known judging (before ++ methods_in judging thread_run texts n.classes c.methods) (with_whole c n names).0 (with_whole c n names).1
whole_numbered known judging thread_run texts c before n found names is_number all e s =
    let begun : Numbered known judging before (class_begun c n) (with_class c n names) = record { count = s.count; few = s.few; rows = s.rows; main = s.main; limits = s.limits } in
    let counts : Counts × Names = with_fields c.name c.fields (class_begun c n) (with_class c n names) in
    methods_numbered known judging thread_run texts c.name n.classes c.methods before counts.0 (behind_fields judging c n found).1 counts.1 is_number all
    (subst (λ (k : Counts). (methods_judged judging c.name c.methods k (behind_fields judging c n found).1).1 ≡ None) (fields_count judging (with_class c n names) c.name _ c.fields (class_begun c n) _) e)
    (fields_numbered known judging c.name c.fields before (class_begun c n) (with_class c n names) begun)

-- the counts after a class
abbrev pub behind_class : PlainClassText → Counts → Names → Counts
behind_class c n names = counted_if (is_named c) (with_whole c n names).0

-- a class with a name is counted
counted_named : (b : Bool) (n : Counts) → b ≡ true → counted_if b n ≡ class_counted n
counted_named true n e = refl
counted_named false n e = absurd (false≢true e)

-- the number of the class after one that is let through
pub number_behind : (judging names : Names) (c : PlainClassText) (n : Counts) → FineClass judging n.classes c → (behind_class c n names).classes ≡ next n.classes
number_behind judging names c n fine = ap (λ (k : Counts). k.classes) (counted_named (is_named c) (with_whole c n names).0 fine.named) ∙ ap next (class_keeps_number names c n)

-- counting a class leaves the methods' numbers
counted_numbered : (known : Known) (judging : Names) (methods : List PlainMethod) (b : Bool) (n : Counts) (names : Names) → Numbered known judging methods n names → Numbered known judging methods (counted_if b n) names
counted_numbered known judging methods false n names s = s
counted_numbered known judging methods true n names s = record { count = s.count; few = s.few; rows = s.rows; main = s.main; limits = s.limits }

-- all classes
pub classes_numbered : (known : Known) (judging : Names) (thread_run : ℕ) (texts : Rows) (cs : List PlainClassText) (before : List PlainMethod) (n : Counts) (found : Option Refusal) (names : Names)
    → AllKnown known cs → classes_judged judging cs n found ≡ None → Numbered known judging before n names
    → Numbered known judging (before ++ methods_of judging thread_run texts n.classes cs) (with_classes cs n names).0 (with_classes cs n names).1
unfolding methods_of with_classes
classes_numbered known judging thread_run texts [] before n found names all e s =
    subst (λ (methods : List PlainMethod). Numbered known judging methods n names) (sym (append-nil before)) s
classes_numbered known judging thread_run texts (c ∷ cs) before n found names all e s =
    let first : JudgedClasses judging names c cs n found = classes_first judging names c cs n found e in
    let own : List PlainMethod = methods_in judging thread_run texts n.classes c.methods in
    let one : Numbered known judging (before ++ own) (behind_class c n names) (with_whole c n names).1 =
    counted_numbered known judging (before ++ own) (is_named c) (with_whole c n names).0 (with_whole c n names).1
    (whole_numbered known judging thread_run texts c before n found names first.class.has_number all.0 first.methods s) in
    let more : Numbered known judging ((before ++ own) ++ methods_of judging thread_run texts (behind_class c n names).classes cs) (with_classes cs (behind_class c n names) (with_whole c n names).1).0 (with_classes cs (behind_class c n names) (with_whole c n names).1).1 =
    classes_numbered known judging thread_run texts cs (before ++ own) (behind_class c n names) (class_judged judging c n found).1 (with_whole c n names).1 all.1 first.rest one in
    subst (λ (methods : List PlainMethod). Numbered known judging methods (with_classes cs (behind_class c n names) (with_whole c n names).1).0 (with_classes cs (behind_class c n names) (with_whole c n names).1).1)
    (append_assoc before own (methods_of judging thread_run texts (behind_class c n names).classes cs) ∙ ap (λ (k : ℕ). before ++ (own ++ methods_of judging thread_run texts k cs)) (number_behind judging names c n first.class))
    more
