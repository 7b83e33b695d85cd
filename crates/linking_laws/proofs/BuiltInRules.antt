-- What the numbers of built-in classes and the built-in members say is what the rules say by their names.
use Rattle.std.proofs.Common.{◌≡◌, ℕ, zero, suc, ◌+◌, ◌<◌, ◌≤◌, Bool, true, false, List, [], ◌∷◌, Option, Some, None, refl, sym, ap, ◌∙◌, arith, ⊎_elim}
use Rattle.std.specs.Prelude.{◌≢◌, not, ◌||◌, ◌&&◌, ◌==◌, if◌then◌else◌, length, codes, bytes_eq, is_some, slice_get, Contains}
use Rattle.std.specs.List.{AllByRecursion, list_any}
use Rattle.std.proofs.lemmas.Bool.{false≢true}
use Rattle.std.proofs.lemmas.Bool.Decides.{nat_tests}
use Rattle.std.proofs.lemmas.List.Elements.{Contains-append_left, Contains-append_cases}
use Rattle.vm_model.specs.declared.instr.Instr.{Instr}
use Rattle.vm_model.specs.declared.instr.Instr.TheVariants as instr
use Rattle.jasmin_lines.specs.Plain.{PlainClassText}
use Rattle.name_resolver.specs.declared.calls.Target.{Target}
use Rattle.name_resolver.specs.Index.{Rows, value_of}
use Rattle.name_resolver.specs.Names.{is_thread, names_of}
use Rattle.name_resolver.specs.Descriptors.{or_user, class_of}
use Rattle.name_resolver.specs.BuiltIn.{has_lock, lock_member, thread_member, stream_member, constructor, first_some, of_lock, of_thread, of_stream, instance_member}
use Rattle.name_resolver.specs.Calls.{is_thread_class, static_member, is_run, virtual_run, virtual_member, special_member}
use Rattle.built_in_classes.specs.Classes.{BuiltInClass, built_in_classes, built_in_number, number_from, has_objects, has_constructor, has_text_constructor, constructors_of, constructors_in, is_made, is_plain, takes_text}
use Rattle.shape_laws.proofs.Tests.{both, joined, either, on_left, on_right}
use Rattle.linking_laws.specs.BodyRules.{thread, IsThread, Itself, Extends, string, print_stream, throwables, plain_constructors, without_objects, HasBuiltIn, OfThreads, OfThread, OfObject, OfStream, Plain, OfRunnable, OfText}
use Rattle.linking_laws.proofs.Numbered.{none_some, some_same}
use Rattle.linking_laws.proofs.There.{ClassesWithin}
use Rattle.linking_laws.proofs.Members.{any_one, any_there, same_bytes, bytes_same, bytes_other, other_bytes, word_there, there_word}
use Rattle.linking_laws.proofs.ClassRules.{not_true, false_not, true_false}
use Rattle.linking_laws.proofs.Presence.{is_thread_of, text_thread}

-- ---- tests of numbers, by names

-- a test of a number says whether the class's name is among these
abbrev Agree : (ℕ → Bool) → List (List ℕ) → ℕ → List BuiltInClass → Type 0
Agree test names n [] = Unit {0}
Agree test names n (c ∷ classes) = (test n ≡ list_any (bytes_eq c.name) names) × Agree test names (n + 1) classes

agreed : (test : ℕ → Bool) (names : List (List ℕ)) (n : ℕ) (classes : List BuiltInClass) (name : List ℕ) (k : ℕ) → Agree test names n classes → number_from n classes name ≡ Some k → test k ≡ list_any (bytes_eq name) names
agreed test names n [] name k all e = absurd (none_some k e)
agreed test names n (c ∷ classes) name k all e = by (bytes_eq name c.name) refl e (λ h. agreed test names (n + 1) classes name k all.1 h)
  where
    by : (b : Bool) → bytes_eq name c.name ≡ b → (if b then Some n else number_from (n + 1) classes name) ≡ Some k → (number_from (n + 1) classes name ≡ Some k → test k ≡ list_any (bytes_eq name) names) → test k ≡ list_any (bytes_eq name) names
    by true is h more = ap test (sym (some_same n k h)) ∙ all.0 ∙ ap (λ (w : List ℕ). list_any (bytes_eq w) names) (sym (same_bytes name c.name is))
    by false is h more = more h

-- a test that says so of all built-in classes, and fails of all others
pub record Tells (test : ℕ → Bool) (names : List (List ℕ)) : Type 0 where
  pub agree : (name : List ℕ) (k : ℕ) → built_in_number name ≡ Some k → test k ≡ list_any (bytes_eq name) names
  pub built_in : AllByRecursion (λ (name : List ℕ). is_some (built_in_number name) ≡ true) names
  pub fails : (k : ℕ) → 32 ≤ k → test k ≡ false

no_name : (names : List (List ℕ)) (name : List ℕ) → AllByRecursion (λ (name : List ℕ). is_some (built_in_number name) ≡ true) names → built_in_number name ≡ None → list_any (bytes_eq name) names ≡ false
no_name [] name all e = refl
no_name (x ∷ names) name all e = by (bytes_eq name x) refl (no_name names name all.1 e)
  where
    by : (b : Bool) → bytes_eq name x ≡ b → list_any (bytes_eq name) names ≡ false → (b || list_any (bytes_eq name) names) ≡ false
    by false is more = more
    by true is more = absurd (false≢true (ap is_some (sym e) ∙ ap (λ (w : List ℕ). is_some (built_in_number w)) (same_bytes name x is) ∙ all.0))

-- so it says whether a class has one of these names
pub told : (high : ℕ) (rows : Rows) (test : ℕ → Bool) (names : List (List ℕ)) (name : List ℕ) (n : ℕ) → Tells test names → ClassesWithin high rows → class_of rows name ≡ Some n → test n ≡ list_any (bytes_eq name) names
told high rows test names name n tells within e = by (built_in_number name) refl e
  where
    by : (o : Option ℕ) → built_in_number name ≡ o → or_user rows name o ≡ Some n → test n ≡ list_any (bytes_eq name) names
    by (Some k) is h = ap test (sym (some_same k n h)) ∙ tells.agree name k is
    by None is h = tells.fails n (within name n h).0 ∙ sym (no_name names name tells.built_in is)

-- ---- the tests

past_end : {A : Type 0} (xs : List A) (k : ℕ) → length xs ≤ k → slice_get xs k ≡ None
past_end [] k h = refl
past_end (x ∷ xs) zero h = absurd (omega (arith, h))
past_end (x ∷ xs) (suc k) h = past_end xs k (omega (arith, h))

no_constructors : (k : ℕ) → 32 ≤ k → constructors_of k ≡ None
no_constructors k h = let few : 23 ≤ k = omega (arith, h) in past_end (constructors_in built_in_classes) k few

other_number : (k n : ℕ) → 32 ≤ k → n < 32 → (k == n) ≡ false
other_number k n h g = grind (arith, nat_tests)

abbrev is_one : ℕ → ℕ → Bool
is_one n k = k == n

pub tells_objects : Tells (λ (k : ℕ). not (has_objects k)) without_objects
unfolding built_in_number
tells_objects = record {
  agree = λ name k e. agreed (λ (k : ℕ). not (has_objects k)) without_objects 0 built_in_classes name k
      (refl, (refl, (refl, (refl, (refl, (refl, (refl, (refl, (refl, (refl, (refl, (refl, (refl, (refl, (refl, (refl, (refl, (refl, (refl, (refl, (refl, (refl, (refl, tt))))))))))))))))))))))) e;
  built_in = (refl, (refl, (refl, (refl, tt))));
  fails = λ k h. ap (λ o. not (is_made o)) (no_constructors k h);
}

pub tells_plain : Tells has_constructor plain_constructors
unfolding built_in_number
tells_plain = record {
  agree = λ name k e. agreed has_constructor plain_constructors 0 built_in_classes name k
      (refl, (refl, (refl, (refl, (refl, (refl, (refl, (refl, (refl, (refl, (refl, (refl, (refl, (refl, (refl, (refl, (refl, (refl, (refl, (refl, (refl, (refl, (refl, tt))))))))))))))))))))))) e;
  built_in = (refl, (refl, (refl, (refl, (refl, (refl, (refl, (refl, (refl, (refl, (refl, (refl, (refl, (refl, (refl, (refl, (refl, (refl, (refl, tt)))))))))))))))))));
  fails = λ k h. ap (λ o. is_plain o) (no_constructors k h);
}

pub tells_text : Tells has_text_constructor throwables
unfolding built_in_number
tells_text = record {
  agree = λ name k e. agreed has_text_constructor throwables 0 built_in_classes name k
      (refl, (refl, (refl, (refl, (refl, (refl, (refl, (refl, (refl, (refl, (refl, (refl, (refl, (refl, (refl, (refl, (refl, (refl, (refl, (refl, (refl, (refl, (refl, tt))))))))))))))))))))))) e;
  built_in = (refl, (refl, (refl, (refl, (refl, (refl, (refl, (refl, (refl, (refl, (refl, (refl, (refl, (refl, (refl, (refl, tt))))))))))))))));
  fails = λ k h. ap (λ o. takes_text o) (no_constructors k h);
}

pub tells_lock : Tells (λ (k : ℕ). k == 3 || k == 4) (string ∷ print_stream ∷ [])
unfolding built_in_number
tells_lock = record {
  agree = λ name k e. agreed (λ (k : ℕ). k == 3 || k == 4) (string ∷ print_stream ∷ []) 0 built_in_classes name k
      (refl, (refl, (refl, (refl, (refl, (refl, (refl, (refl, (refl, (refl, (refl, (refl, (refl, (refl, (refl, (refl, (refl, (refl, (refl, (refl, (refl, (refl, (refl, tt))))))))))))))))))))))) e;
  built_in = (refl, (refl, tt));
  fails = λ k h. ap (λ (b : Bool). b || k == 4) (other_number k 3 h (omega arith)) ∙ other_number k 4 h (omega arith);
}

pub tells_stream : Tells (is_one 4) (print_stream ∷ [])
unfolding built_in_number
tells_stream = record {
  agree = λ name k e. agreed (is_one 4) (print_stream ∷ []) 0 built_in_classes name k
      (refl, (refl, (refl, (refl, (refl, (refl, (refl, (refl, (refl, (refl, (refl, (refl, (refl, (refl, (refl, (refl, (refl, (refl, (refl, (refl, (refl, (refl, (refl, tt))))))))))))))))))))))) e;
  built_in = (refl, tt);
  fails = λ k h. other_number k 4 h (omega arith);
}

pub tells_thread : Tells (is_one 1) (thread ∷ [])
unfolding built_in_number
tells_thread = record {
  agree = λ name k e. agreed (is_one 1) (thread ∷ []) 0 built_in_classes name k
      (refl, (refl, (refl, (refl, (refl, (refl, (refl, (refl, (refl, (refl, (refl, (refl, (refl, (refl, (refl, (refl, (refl, (refl, (refl, (refl, (refl, (refl, (refl, tt))))))))))))))))))))))) e;
  built_in = (refl, tt);
  fails = λ k h. other_number k 1 h (omega arith);
}

-- ---- threads

pub thread_rule : (text : List PlainClassText) (class : List ℕ) → is_thread_class (names_of text).1 class ≡ true → IsThread text class
thread_rule text class e =
    ⊎_elim (λ (h : bytes_eq class thread ≡ true). Itself (same_bytes class thread h)) (λ (h : is_some (value_of class (names_of text).1.threads) ≡ true).
    let c : _ = any_one (is_thread_of class) text (sym (text_thread class text) ∙ h) in
    let parts : _ = both (is_thread c.0) (bytes_eq class c.0.name) c.2 in
    Extends c.0 c.1 (same_bytes c.0.super_name thread parts.0) (sym (same_bytes class c.0.name parts.1)))
    (either (bytes_eq class thread) (is_some (value_of class (names_of text).1.threads)) e)

pub rule_thread : (text : List PlainClassText) (class : List ℕ) → IsThread text class → is_thread_class (names_of text).1 class ≡ true
rule_thread text class (Itself e) = on_left (bytes_eq class thread) (is_some (value_of class (names_of text).1.threads)) (bytes_same class thread e)
rule_thread text class (Extends c there super name) =
    on_right (bytes_eq class thread) (is_some (value_of class (names_of text).1.threads))
    (text_thread class text ∙ any_there (is_thread_of class) text c there (joined (is_thread c) (bytes_eq class c.name) (bytes_same c.super_name thread super) (bytes_same class c.name (sym name))))

-- ---- members

pub some_or : {A : Type 0} (b : Bool) (x : A) (rest : Option A) → is_some (if b then Some x else rest) ≡ (b || is_some rest)
some_or true x rest = refl
some_or false x rest = refl

pub some_first : (a b : Option Instr) → is_some (first_some a b) ≡ (is_some a || is_some b)
some_first None b = refl
some_first (Some x) b = refl

some_if : (b : Bool) (o : Option Instr) → is_some (if b then o else None) ≡ (b && is_some o)
some_if true o = refl
some_if false o = refl

-- one of several
pub several : {A : Type 0} (b c : Bool) (x : A) (rest : Option A) → is_some rest ≡ c → is_some (if b then Some x else rest) ≡ (b || c)
several b c x rest e = some_or b x rest ∙ ap (λ (d : Bool). b || d) e

abbrev lock_members : List (List ℕ)
lock_members = codes "wait()V" ∷ codes "notify()V" ∷ codes "notifyAll()V" ∷ []

abbrev stream_members : List (List ℕ)
stream_members = codes "println()V" ∷ codes "println(I)V" ∷ codes "println(Ljava/lang/String;)V" ∷ codes "print(I)V" ∷ codes "print(Ljava/lang/String;)V" ∷ []

abbrev thread_members : List (List ℕ)
thread_members = codes "start()V" ∷ codes "join()V" ∷ []

lock_is : (m : List ℕ) → is_some (lock_member m) ≡ list_any (bytes_eq m) lock_members
lock_is m =
    several (bytes_eq m (codes "wait()V")) _ instr.Wait _ (several (bytes_eq m (codes "notify()V")) _ instr.Notify _ (several (bytes_eq m (codes "notifyAll()V")) false instr.NotifyAll None refl))

thread_is : (m : List ℕ) → is_some (thread_member m) ≡ list_any (bytes_eq m) thread_members
thread_is m = several (bytes_eq m (codes "start()V")) _ instr.Start _ (several (bytes_eq m (codes "join()V")) false instr.Join None refl)

stream_is : (m : List ℕ) → is_some (stream_member m) ≡ list_any (bytes_eq m) stream_members
stream_is m =
    several (bytes_eq m (codes "println()V")) _ instr.Println _ (several (bytes_eq m (codes "println(I)V")) _ (instr.PrintInt true) _ (several (bytes_eq m (codes "println(Ljava/lang/String;)V")) _ (instr.PrintText true) _
    (several (bytes_eq m (codes "print(I)V")) _ (instr.PrintInt false) _ (several (bytes_eq m (codes "print(Ljava/lang/String;)V")) false (instr.PrintText false) None refl))))

instance_is : (n : ℕ) (is_thread : Bool) (m : List ℕ)
    → is_some (instance_member n is_thread m) ≡ ((has_lock n && list_any (bytes_eq m) lock_members) || ((is_thread && list_any (bytes_eq m) thread_members) || ((n == 4) && list_any (bytes_eq m) stream_members)))
instance_is n is_thread m =
    some_first (of_lock n m) (first_some (of_thread is_thread m) (of_stream n m)) ∙ ap (λ (b : Bool). b || is_some (first_some (of_thread is_thread m) (of_stream n m))) (some_if (has_lock n) (lock_member m) ∙ ap (λ (b : Bool). has_lock n && b) (lock_is m))
    ∙ ap (λ (b : Bool). (has_lock n && list_any (bytes_eq m) lock_members) || b)
    (some_first (of_thread is_thread m) (of_stream n m) ∙ ap (λ (b : Bool). b || is_some (of_stream n m)) (some_if is_thread (thread_member m) ∙ ap (λ (b : Bool). is_thread && b) (thread_is m))
    ∙ ap (λ (b : Bool). (is_thread && list_any (bytes_eq m) thread_members) || b) (some_if (n == 4) (stream_member m) ∙ ap (λ (b : Bool). (n == 4) && b) (stream_is m)))

constructor_is : (n : ℕ) (m : List ℕ)
    → is_some (constructor n m) ≡ ((bytes_eq m (codes "<init>()V") && has_constructor n) || ((bytes_eq m (codes "<init>(Ljava/lang/Runnable;)V") && (n == 1)) || ((bytes_eq m (codes "<init>(Ljava/lang/String;)V") && has_text_constructor n) || false)))
constructor_is n m =
    several (bytes_eq m (codes "<init>()V") && has_constructor n) _ (instr.Init n false) _ (several (bytes_eq m (codes "<init>(Ljava/lang/Runnable;)V") && (n == 1)) _ instr.InitRunnable _
    (several (bytes_eq m (codes "<init>(Ljava/lang/String;)V") && has_text_constructor n) false (instr.Init n true) None refl))

-- ---- what a call finds

-- the class that a call names has a number
pub record Numbers (text : List PlainClassText) (class : List ℕ) (n : ℕ) : Type 0 where
  pub high : ℕ
  pub within : ClassesWithin high (names_of text).1.classes
  pub is : class_of (names_of text).1.classes class ≡ Some n

says : (text : List PlainClassText) (class : List ℕ) (n : ℕ) (test : ℕ → Bool) (names : List (List ℕ)) → Numbers text class n → Tells test names → test n ≡ list_any (bytes_eq class) names
says text class n test names at tells = told at.high (names_of text).1.classes test names class n tells at.within at.is

-- among two names
neither_name : (class : List ℕ) (n : ℕ) (text : List PlainClassText) → Numbers text class n → has_lock n ≡ true → (class ≢ string) × (class ≢ print_stream)
neither_name class n text at e =
    let none : list_any (bytes_eq class) (string ∷ print_stream ∷ []) ≡ false = sym (says text class n (λ (k : ℕ). k == 3 || k == 4) (string ∷ print_stream ∷ []) at tells_lock) ∙ not_true (n == 3 || n == 4) e in
    (λ h. true_false (list_any (bytes_eq class) (string ∷ print_stream ∷ [])) (there_word class (string ∷ print_stream ∷ []) (0, omega arith, sym h)) none, λ h. true_false (list_any (bytes_eq class) (string ∷ print_stream ∷ [])) (there_word class (string ∷ print_stream ∷ []) (1, omega arith, sym h)) none)

name_neither : (class : List ℕ) (n : ℕ) (text : List PlainClassText) → Numbers text class n → class ≢ string → class ≢ print_stream → has_lock n ≡ true
name_neither class n text at h g =
    false_not (n == 3 || n == 4) (says text class n (λ (k : ℕ). k == 3 || k == 4) (string ∷ print_stream ∷ []) at tells_lock ∙ ap (λ (b : Bool). b || (bytes_eq class print_stream || false)) (bytes_other class string h) ∙ ap (λ (b : Bool). b || false) (bytes_other class print_stream g))

-- one name
one_name : (class name : List ℕ) → list_any (bytes_eq class) (name ∷ []) ≡ true → class ≡ name
one_name class name e = ⊎_elim (λ (h : bytes_eq class name ≡ true). same_bytes class name h) (λ (h : false ≡ true). absurd (false≢true h)) (either (bytes_eq class name) false e)

name_one : (class name : List ℕ) → class ≡ name → list_any (bytes_eq class) (name ∷ []) ≡ true
name_one class name e = on_left (bytes_eq class name) false (bytes_same class name e)

-- a member of an object
pub instance_rule : (text : List PlainClassText) (mnemonic class called : List ℕ) (n : ℕ) → Numbers text class n → mnemonic ≢ codes "invokestatic" → is_some (instance_member n (is_thread_class (names_of text).1 class) called) ≡ true → HasBuiltIn text mnemonic class called
instance_rule text mnemonic class called n at other e =
    ⊎_elim (λ (h : (has_lock n && list_any (bytes_eq called) lock_members) ≡ true).
    let parts : _ = both (has_lock n) (list_any (bytes_eq called) lock_members) h in
    let names : _ = neither_name class n text at parts.0 in
    OfObject other names.0 names.1 (word_there called lock_members parts.1))
    (λ (h : ((threaded && list_any (bytes_eq called) thread_members) || ((n == 4) && list_any (bytes_eq called) stream_members)) ≡ true).
    ⊎_elim (λ (g : (threaded && list_any (bytes_eq called) thread_members) ≡ true).
    let parts : _ = both threaded (list_any (bytes_eq called) thread_members) g in
    OfThread other (thread_rule text class parts.0) (more called (word_there called thread_members parts.1)))
    (λ (g : ((n == 4) && list_any (bytes_eq called) stream_members) ≡ true).
    let parts : _ = both (n == 4) (list_any (bytes_eq called) stream_members) g in
    OfStream other (one_name class print_stream (sym (says text class n (is_one 4) (print_stream ∷ []) at tells_stream) ∙ parts.0)) (word_there called stream_members parts.1))
    (either (threaded && list_any (bytes_eq called) thread_members) ((n == 4) && list_any (bytes_eq called) stream_members) h))
    (either (has_lock n && list_any (bytes_eq called) lock_members) ((threaded && list_any (bytes_eq called) thread_members) || ((n == 4) && list_any (bytes_eq called) stream_members)) (sym (instance_is n threaded called) ∙ e))
  where
    threaded : Bool
    threaded = is_thread_class (names_of text).1 class

    more : (called : List ℕ) → Contains thread_members called → Contains (codes "start()V" ∷ codes "join()V" ∷ codes "run()V" ∷ []) called
    more called h = Contains-append_left thread_members (codes "run()V" ∷ []) called h

run_rule : (text : List PlainClassText) (mnemonic class called : List ℕ) → mnemonic ≢ codes "invokestatic" → (bytes_eq called (codes "run()V") && is_thread_class (names_of text).1 class) ≡ true → HasBuiltIn text mnemonic class called
run_rule text mnemonic class called other e =
    let parts : _ = both (bytes_eq called (codes "run()V")) (is_thread_class (names_of text).1 class) e in
    OfThread other (thread_rule text class parts.1) (2, omega arith, sym (same_bytes called (codes "run()V") parts.0))

constructor_rule : (text : List PlainClassText) (mnemonic class called : List ℕ) (n : ℕ) → Numbers text class n → mnemonic ≡ codes "invokespecial" → is_some (constructor n called) ≡ true → HasBuiltIn text mnemonic class called
constructor_rule text mnemonic class called n at special e =
    ⊎_elim (λ (h : a ≡ true).
    let parts : _ = both (bytes_eq called (codes "<init>()V")) (has_constructor n) h in
    Plain special (word_there class plain_constructors (sym (says text class n has_constructor plain_constructors at tells_plain) ∙ parts.1)) (same_bytes called (codes "<init>()V") parts.0))
    (λ (h : (b || (d || false)) ≡ true). ⊎_elim (λ (g : b ≡ true).
    let parts : _ = both (bytes_eq called (codes "<init>(Ljava/lang/Runnable;)V")) (n == 1) g in
    OfRunnable special (one_name class thread (sym (says text class n (is_one 1) (thread ∷ []) at tells_thread) ∙ parts.1)) (same_bytes called (codes "<init>(Ljava/lang/Runnable;)V") parts.0))
    (λ (g : (d || false) ≡ true). ⊎_elim (λ (k : d ≡ true).
    let parts : _ = both (bytes_eq called (codes "<init>(Ljava/lang/String;)V")) (has_text_constructor n) k in
    OfText special (word_there class throwables (sym (says text class n has_text_constructor throwables at tells_text) ∙ parts.1)) (same_bytes called (codes "<init>(Ljava/lang/String;)V") parts.0))
    (λ (k : false ≡ true). absurd (false≢true k)) (either d false g)) (either b (d || false) h))
    (either a (b || (d || false)) (sym (constructor_is n called) ∙ e))
  where
    a : Bool
    a = bytes_eq called (codes "<init>()V") && has_constructor n

    b : Bool
    b = bytes_eq called (codes "<init>(Ljava/lang/Runnable;)V") && (n == 1)

    d : Bool
    d = bytes_eq called (codes "<init>(Ljava/lang/String;)V") && has_text_constructor n

-- by each mnemonic
pub static_rule : (text : List PlainClassText) (mnemonic class : List ℕ) (t : Target) → mnemonic ≡ codes "invokestatic" → t.is_thread ≡ is_thread_class (names_of text).1 class → is_some (static_member t) ≡ true → HasBuiltIn text mnemonic class t.member
static_rule text mnemonic class t static threads e =
    let parts : _ = both (bytes_eq t.member (codes "yield()V")) t.is_thread (by (bytes_eq t.member (codes "yield()V") && t.is_thread) e) in
    OfThreads static (thread_rule text class (sym threads ∙ parts.1)) (same_bytes t.member (codes "yield()V") parts.0)
  where
    by : (b : Bool) → is_some (if b then Some instr.Yield else None) ≡ true → b ≡ true
    by true h = refl
    by false h = absurd (false≢true h)

pub virtual_rule : (text : List PlainClassText) (mnemonic class called : List ℕ) (n thread_run : ℕ) (t : Target) → Numbers text class n → mnemonic ≢ codes "invokestatic" → t.class ≡ n → t.member ≡ called → t.is_thread ≡ is_thread_class (names_of text).1 class
    → is_some (virtual_member thread_run t) ≡ true → HasBuiltIn text mnemonic class called
virtual_rule text mnemonic class called n thread_run t at other number named threads e =
    ⊎_elim (λ (h : is_run t ≡ true). run_rule text mnemonic class called other (sym (ap (λ (m : List ℕ). bytes_eq m (codes "run()V") && t.is_thread) named ∙ ap (λ (b : Bool). bytes_eq called (codes "run()V") && b) threads) ∙ h))
    (λ (h : is_some (instance_member t.class t.is_thread t.member) ≡ true). instance_rule text mnemonic class called n at other (sym (moved t) ∙ h))
    (either (is_run t) (is_some (instance_member t.class t.is_thread t.member)) (sym (some_or (is_run t) (virtual_run thread_run t) (instance_member t.class t.is_thread t.member)) ∙ e))
  where
    moved : (t' : Target) → is_some (instance_member t.class t.is_thread t.member) ≡ is_some (instance_member n (is_thread_class (names_of text).1 class) called)
    moved t' = ap (λ (k : ℕ). is_some (instance_member k t.is_thread t.member)) number ∙ ap (λ (b : Bool). is_some (instance_member n b t.member)) threads ∙ ap (λ (m : List ℕ). is_some (instance_member n (is_thread_class (names_of text).1 class) m)) named

pub special_rule : (text : List PlainClassText) (mnemonic class called : List ℕ) (n thread_run : ℕ) (t : Target) → Numbers text class n → mnemonic ≡ codes "invokespecial" → mnemonic ≢ codes "invokestatic" → t.class ≡ n → t.member ≡ called
    → t.is_thread ≡ is_thread_class (names_of text).1 class → is_some (special_member thread_run t) ≡ true → HasBuiltIn text mnemonic class called
special_rule text mnemonic class called n thread_run t at special other number named threads e =
    ⊎_elim (λ (h : is_run t ≡ true). run_rule text mnemonic class called other (sym (ap (λ (m : List ℕ). bytes_eq m (codes "run()V") && t.is_thread) named ∙ ap (λ (b : Bool). bytes_eq called (codes "run()V") && b) threads) ∙ h))
    (λ (h : is_some (first_some (instance_member t.class t.is_thread t.member) (constructor t.class t.member)) ≡ true).
    ⊎_elim (λ (g : is_some (instance_member t.class t.is_thread t.member) ≡ true).
    instance_rule text mnemonic class called n at other (sym (ap (λ (k : ℕ). is_some (instance_member k t.is_thread t.member)) number ∙ ap (λ (b : Bool). is_some (instance_member n b t.member)) threads ∙ ap (λ (m : List ℕ). is_some (instance_member n (is_thread_class (names_of text).1 class) m)) named) ∙ g))
    (λ (g : is_some (constructor t.class t.member) ≡ true). constructor_rule text mnemonic class called n at special (sym (ap (λ (k : ℕ). is_some (constructor k t.member)) number ∙ ap (λ (m : List ℕ). is_some (constructor n m)) named) ∙ g))
    (either (is_some (instance_member t.class t.is_thread t.member)) (is_some (constructor t.class t.member)) (sym (some_first (instance_member t.class t.is_thread t.member) (constructor t.class t.member)) ∙ h)))
    (either (is_run t) (is_some (first_some (instance_member t.class t.is_thread t.member) (constructor t.class t.member))) (sym (some_or (is_run t) (instr.InvokeSpecial thread_run) (first_some (instance_member t.class t.is_thread t.member) (constructor t.class t.member))) ∙ e))

-- ---- and the other way round

-- what a built-in member of objects says
pub rule_virtual : (text : List PlainClassText) (mnemonic class called : List ℕ) (n : ℕ) → Numbers text class n → HasBuiltIn text mnemonic class called → mnemonic ≢ codes "invokestatic" → mnemonic ≢ codes "invokespecial"
    → ((bytes_eq called (codes "run()V") && is_thread_class (names_of text).1 class) || is_some (instance_member n (is_thread_class (names_of text).1 class) called)) ≡ true
rule_virtual text mnemonic class called n at h other plain = by h
  where
    threaded : Bool
    threaded = is_thread_class (names_of text).1 class

    run : Bool
    run = bytes_eq called (codes "run()V") && threaded

    lock : Bool
    lock = has_lock n && list_any (bytes_eq called) lock_members

    ofthread : Bool
    ofthread = threaded && list_any (bytes_eq called) thread_members

    stream : Bool
    stream = (n == 4) && list_any (bytes_eq called) stream_members

    found : (lock || (ofthread || stream)) ≡ true → (run || is_some (instance_member n threaded called)) ≡ true
    found e = on_right run (is_some (instance_member n threaded called)) (instance_is n threaded called ∙ e)

    by : HasBuiltIn text mnemonic class called → (run || is_some (instance_member n threaded called)) ≡ true
    by (OfThreads e t c) = absurd (other e)
    by (OfThread e t c) =
        ⊎_elim (λ (g : Contains thread_members called). found (on_right lock (ofthread || stream) (on_left ofthread stream (joined threaded (list_any (bytes_eq called) thread_members) (rule_thread text class t) (there_word called thread_members g)))))
        (λ (g : Contains (codes "run()V" ∷ []) called).
        on_left run (is_some (instance_member n threaded called)) (joined (bytes_eq called (codes "run()V")) threaded (bytes_same called (codes "run()V") (one_name called (codes "run()V") (there_word called (codes "run()V" ∷ []) g))) (rule_thread text class t)))
        (Contains-append_cases thread_members (codes "run()V" ∷ []) called c)
    by (OfObject e s p c) = found (on_left lock (ofthread || stream) (joined (has_lock n) (list_any (bytes_eq called) lock_members) (name_neither class n text at s p) (there_word called lock_members c)))
    by (OfStream e p c) =
        found (on_right lock (ofthread || stream) (on_right ofthread stream (joined (n == 4) (list_any (bytes_eq called) stream_members) (says text class n (is_one 4) (print_stream ∷ []) at tells_stream ∙ name_one class print_stream p) (there_word called stream_members c))))
    by (Plain e p c) = absurd (plain e)
    by (OfRunnable e p c) = absurd (plain e)
    by (OfText e p c) = absurd (plain e)

-- the same of a call that may be one of a constructor
pub rule_special : (text : List PlainClassText) (mnemonic class called : List ℕ) (n : ℕ) → Numbers text class n → HasBuiltIn text mnemonic class called → mnemonic ≢ codes "invokestatic"
    → ((bytes_eq called (codes "run()V") && is_thread_class (names_of text).1 class) || (is_some (instance_member n (is_thread_class (names_of text).1 class) called) || is_some (constructor n called))) ≡ true
rule_special text mnemonic class called n at h other = by h
  where
    threaded : Bool
    threaded = is_thread_class (names_of text).1 class

    run : Bool
    run = bytes_eq called (codes "run()V") && threaded

    inst : Bool
    inst = is_some (instance_member n threaded called)

    made : Bool
    made = is_some (constructor n called)

    same_members : (run || inst) ≡ true → (run || (inst || made)) ≡ true
    same_members e = ⊎_elim (λ (g : run ≡ true). on_left run (inst || made) g) (λ (g : inst ≡ true). on_right run (inst || made) (on_left inst made g)) (either run inst e)

    object : HasBuiltIn text (codes "invokevirtual") class called → (run || (inst || made)) ≡ true
    object k = same_members (rule_virtual text (codes "invokevirtual") class called n at k (λ e. words_differ (codes "invokevirtual") (codes "invokestatic") refl e) (λ e. words_differ (codes "invokevirtual") (codes "invokespecial") refl e))
      where
        words_differ : (a b : List ℕ) → bytes_eq a b ≡ false → a ≡ b → ⊥
        words_differ a b apart e = other_bytes a b apart e

    made_so : made ≡ true → (run || (inst || made)) ≡ true
    made_so e = on_right run (inst || made) (on_right inst made e)

    first : Bool
    first = bytes_eq called (codes "<init>()V") && has_constructor n

    second : Bool
    second = bytes_eq called (codes "<init>(Ljava/lang/Runnable;)V") && (n == 1)

    third : Bool
    third = bytes_eq called (codes "<init>(Ljava/lang/String;)V") && has_text_constructor n

    by : HasBuiltIn text mnemonic class called → (run || (inst || made)) ≡ true
    by (OfThreads e t c) = absurd (other e)
    by (OfThread e t c) = object (OfThread (other_bytes (codes "invokevirtual") (codes "invokestatic") refl) t c)
    by (OfObject e s p c) = object (OfObject (other_bytes (codes "invokevirtual") (codes "invokestatic") refl) s p c)
    by (OfStream e p c) = object (OfStream (other_bytes (codes "invokevirtual") (codes "invokestatic") refl) p c)
    by (Plain e p c) =
        made_so (constructor_is n called ∙ on_left first (second || (third || false)) (joined (bytes_eq called (codes "<init>()V")) (has_constructor n) (bytes_same called (codes "<init>()V") c) (says text class n has_constructor plain_constructors at tells_plain ∙ there_word class plain_constructors p)))
    by (OfRunnable e p c) =
        made_so (constructor_is n called ∙ on_right first (second || (third || false)) (on_left second (third || false)
        (joined (bytes_eq called (codes "<init>(Ljava/lang/Runnable;)V")) (n == 1) (bytes_same called (codes "<init>(Ljava/lang/Runnable;)V") c) (says text class n (is_one 1) (thread ∷ []) at tells_thread ∙ name_one class thread p))))
    by (OfText e p c) =
        made_so (constructor_is n called ∙ on_right first (second || (third || false)) (on_right second (third || false) (on_left third false
        (joined (bytes_eq called (codes "<init>(Ljava/lang/String;)V")) (has_text_constructor n) (bytes_same called (codes "<init>(Ljava/lang/String;)V") c) (says text class n has_text_constructor throwables at tells_text ∙ there_word class throwables p)))))
