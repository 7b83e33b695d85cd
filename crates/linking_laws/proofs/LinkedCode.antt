-- A line that is linked is the instruction with the numbers of what the line names.
use Rattle.std.proofs.Common.{◌≡◌, ℕ, Bool, true, false, List, [], ◌∷◌, ◌++◌, Option, Some, None, Result, Ok, Err, refl, sym, ap, ◌∙◌, subst, ◌⊎◌, inl, inr, ⊎_elim}
use Rattle.std.specs.Prelude.{not, ◌&&◌, ◌||◌, ◌==◌, if◌then◌else◌, nat_lt, length, codes, bytes_eq, is_some, ℤ, unsigned_abs}
use Rattle.std.specs.List.{AllByRecursion, AllZip}
use Rattle.std.proofs.lemmas.Bool.{false≢true}
use Rattle.std.proofs.lemmas.Slice.Eq.{bytes_eq-Decides}
use Rattle.vm_model.specs.declared.instr.Instr.{Instr}
use Rattle.vm_model.specs.declared.instr.Instr.TheVariants as instr
use Rattle.vm_model.specs.Failures.{◌>>=◌, or_fault}
use Rattle.built_in_classes.specs.Classes.{has_objects, has_constructor, has_text_constructor}
use Rattle.jasmin_lines.specs.declared.class_text.Operand.{Operand}
use Rattle.jasmin_lines.specs.declared.class_text.Operand.TheVariants as operand
use Rattle.jasmin_lines.specs.Plain.{PlainClassText, PlainLineText, PlainMethodText}
use Rattle.name_resolver.specs.declared.calls.Target.{Target}
use Rattle.name_resolver.specs.declared.fault.LinkKind.{LinkKind}
use Rattle.name_resolver.specs.declared.fault.LinkKind.TheVariants as kinds
use Rattle.name_resolver.specs.declared.names.Names.{Names}
use Rattle.name_resolver.specs.Index.{Rows, value_of}
use Rattle.name_resolver.specs.Words.{field_key, member}
use Rattle.name_resolver.specs.BuiltIn.{has_lock, first_some, of_lock, of_thread, of_stream, instance_member, constructor}
use Rattle.name_resolver.specs.Descriptors.{class_of, type_of, method_signature, in_signature, is_unknown}
use Rattle.name_resolver.specs.Calls.{is_thread_class, static_member, static_call, is_run, virtual_run, virtual_member, virtual_call, special_member, special_call, call_by, known, target, class_part, name_part, desc_part, target_of, call, is_out, read_static, to_slot, field_by, class_or, field_class, field}
use Rattle.class_linker.specs.Linked as linker
use Rattle.jasmin_lines.specs.Tables.{row_of}
use Rattle.class_linker.specs.Linked.{or_else, int_jump, pair_jump, other_jump, jump_to, plain, numbered, texted, made, jumped, is_call, worded, linked_by, linked}
use Rattle.class_linker.specs.Programs.{kept, code_of}
use Rattle.linking_laws.specs.Declared.{IsClass, is_thread_name, static_method, instance_method, static_field, object_field, label_place, text_place}
use Rattle.linking_laws.specs.Instructions.{said_of, without_operands, with_number, jumps, instance_calls, static_accesses, field_accesses, lock_members, thread_members, stream_members}
use Rattle.linking_laws.specs.Links.{IsMember, thread_run, IsBuiltIn, IsConstructor, IsThreadRun, CallsBuiltIn, LinksWord, LinksFieldWord, LinksOperands, LinksLine, out_words}
use Rattle.linking_laws.specs.Links.{OfLock, OfThread, OfStream, Plain, WithTarget, WithText, ByObject, Inherited, Special, Yields, Runs, OnObject, Constructs, Jumps, Makes, MakesArray, CallsStatic, CallsMethod, CallsOther, AtStatic, AtPlace, AtOut}
use Rattle.linking_laws.specs.Named.{IsWrittenBy, IsWrittenLine}
use Rattle.shape_laws.proofs.Tests.{both, same}
use Rattle.linking_laws.proofs.LinkedLines.{Given}
use Rattle.linking_laws.proofs.MemberParts.{word_split, field_split}

-- ---- answers

-- a fault is no answer
err_ok : {A : Type 0} (kind : LinkKind) (x : A) → Err kind ≡ Ok x → ⊥
err_ok kind x e = cc

abbrev done : {A : Type 0} → A → Result A LinkKind
done x = Ok x

ok_same : {A : Type 0} (x y : A) → done x ≡ done y → x ≡ y
ok_same x y e = cc

none_some : {A : Type 0} (x : A) → None ≡ Some x → ⊥
none_some x e = cc

some_same : {A : Type 0} (x y : A) → Some x ≡ Some y → x ≡ y
some_same x y e = cc

-- what is found where that is no fault
found_ok : {A : Type 0} (kind : LinkKind) (o : Option A) (x : A) → or_fault kind o ≡ Ok x → o ≡ Some x
found_ok kind (Some y) x e = ap Some (ok_same y x e)
found_ok kind None x e = absurd (err_ok kind x e)

-- two answers, one after the other
record Both (A B : Type 0) (r : Result A LinkKind) (f : A → Result B LinkKind) (y : B) : Type 0 where
  first : A
  is : r ≡ Ok first
  follows : f first ≡ Ok y

both_ok : {A B : Type 0} (r : Result A LinkKind) (f : A → Result B LinkKind) (y : B) → (r >>= f) ≡ Ok y → Both A B r f y
both_ok (Ok x) f y e = record { first = x; is = refl; follows = e }
both_ok (Err kind) f y e = absurd (err_ok kind y e)

-- ---- words

same_word : (a b : List ℕ) → bytes_eq a b ≡ true → a ≡ b
same_word a b e = (bytes_eq-Decides a b).0 e

-- in either order
eq_turned : (a b : List ℕ) → bytes_eq a b ≡ bytes_eq b a
eq_turned a b = by (bytes_eq a b) refl (bytes_eq b a) refl
  where
    by : (c : Bool) → bytes_eq a b ≡ c → (d : Bool) → bytes_eq b a ≡ d → c ≡ d
    by true is true also = refl
    by false is false also = refl
    by true is false also = absurd (false≢true (sym also ∙ (bytes_eq-Decides b a).1 (sym (same_word a b is))))
    by false is true also = absurd (false≢true (sym is ∙ (bytes_eq-Decides a b).1 (sym (same_word b a also))))

-- a row of a table
row_said : {A : Type 0} (word : List ℕ) (rows : List (List ℕ × A)) → row_of word rows ≡ said_of word rows
row_said word [] = refl
row_said word (row ∷ rows) = ap (λ (b : Bool). if b then Some row.1 else row_of word rows) (eq_turned row.0 word) ∙ ap (λ (o : _). if bytes_eq word row.0 then Some row.1 else o) (row_said word rows)

-- ---- what is known of names

-- each number is the place of what it names
pub record NamesSo (classes : List PlainClassText) (names : Names) (run : ℕ) (texts : Rows) : Type 0 where
  pub class : (name : List ℕ) (n : ℕ) → class_of names.classes name ≡ Some n → IsClass classes name n
  pub nameless : class_of names.classes [] ≡ None
  pub thread : (name : List ℕ) → is_thread_class names name ≡ is_thread_name classes name
  pub functions : (word : List ℕ) → value_of word names.functions ≡ static_method classes word
  pub methods : (word : List ℕ) → value_of word names.instance_methods ≡ instance_method classes word
  pub run_is : run ≡ thread_run classes
  pub statics : (words : List ℕ) → value_of words names.statics ≡ static_field classes words
  pub places : (words : List ℕ) → value_of words names.places ≡ object_field classes words
  pub system : class_of names.classes (codes "java/lang/System") ≡ None → object_field classes out_words ≡ None
  pub texts_are : (text : List ℕ) → value_of text texts ≡ text_place classes text

-- ---- lines without names

plain_links : (word : List ℕ) (i : Instr) → plain word ≡ Ok i → said_of word without_operands ≡ Some i
unfolding linker.alone without_operands
plain_links word i e = sym (row_said word without_operands) ∙ found_ok kinds.OutOfProfile (row_of word linker.alone) i e

-- one row of a table with faults
number_row : (b : Bool) (i : Instr) (r : Result Instr LinkKind) (rest : Option Instr) → r ≡ or_fault kinds.OutOfProfile rest → (if b then Ok i else r) ≡ or_fault kinds.OutOfProfile (if b then Some i else rest)
number_row true i r rest h = refl
number_row false i r rest h = h

numbers_said : (word : List ℕ) (n : ℤ) → numbered word n ≡ or_fault kinds.OutOfProfile (said_of word (with_number n))
numbers_said word n =
    number_row (bytes_eq word (codes "ldc")) (instr.Push n) _ _
    (number_row (bytes_eq word (codes "iload")) (instr.Iload (unsigned_abs n)) _ _
    (number_row (bytes_eq word (codes "istore")) (instr.Istore (unsigned_abs n)) _ _
    (number_row (bytes_eq word (codes "aload")) (instr.Aload (unsigned_abs n)) _ _
    (number_row (bytes_eq word (codes "astore")) (instr.Astore (unsigned_abs n)) _ _ refl))))

text_links : (classes : List PlainClassText) (names : Names) (run : ℕ) (texts : Rows) (text : List ℕ) (i : Instr) → NamesSo classes names run texts → texted texts text ≡ Ok i → (n : ℕ) × (text_place classes text ≡ Some n) × (i ≡ instr.PushText n)
unfolding texted
text_links classes names run texts text i so e = by (nat_lt 200 (length text)) e
  where
    by : (b : Bool) → (if b then Err kinds.TooMany else (or_fault kinds.OutOfProfile (value_of text texts) >>= λ n. Ok (instr.PushText n))) ≡ Ok i → (n : ℕ) × (text_place classes text ≡ Some n) × (i ≡ instr.PushText n)
    by true h = absurd (err_ok kinds.TooMany i h)
    by false h =
        let b : Both ℕ Instr (or_fault kinds.OutOfProfile (value_of text texts)) (λ n. Ok (instr.PushText n)) i = both_ok (or_fault kinds.OutOfProfile (value_of text texts)) (λ n. Ok (instr.PushText n)) i h in
        (b.first, sym (so.texts_are text) ∙ found_ok kinds.OutOfProfile (value_of text texts) b.first b.is, sym (ok_same (instr.PushText b.first) i b.follows))

-- ---- jumps

-- one row of three tables
jump_row : (b : Bool) (i : Instr) (front rest all : Option Instr) → or_else front rest ≡ all → or_else (if b then Some i else front) rest ≡ (if b then Some i else all)
jump_row true i front rest all h = refl
jump_row false i front rest all h = h

pub jumps_said : (word : List ℕ) (to : ℕ) → jump_to word to ≡ said_of word (jumps to)
unfolding jumps
jumps_said word to =
    jump_row (bytes_eq word (codes "ifeq")) (instr.Ifeq to) _ _ _
    (jump_row (bytes_eq word (codes "ifne")) (instr.Ifne to) _ _ _
    (jump_row (bytes_eq word (codes "iflt")) (instr.Iflt to) _ _ _
    (jump_row (bytes_eq word (codes "ifge")) (instr.Ifge to) _ _ _
    (jump_row (bytes_eq word (codes "ifgt")) (instr.Ifgt to) _ _ _
    (jump_row (bytes_eq word (codes "ifle")) (instr.Ifle to) _ _ _
    (jump_row (bytes_eq word (codes "if_icmpeq")) (instr.IfIcmpeq to) _ _ _
    (jump_row (bytes_eq word (codes "if_icmpne")) (instr.IfIcmpne to) _ _ _
    (jump_row (bytes_eq word (codes "if_icmplt")) (instr.IfIcmplt to) _ _ _
    (jump_row (bytes_eq word (codes "if_icmpge")) (instr.IfIcmpge to) _ _ _
    (jump_row (bytes_eq word (codes "if_icmpgt")) (instr.IfIcmpgt to) _ _ _
    (jump_row (bytes_eq word (codes "if_icmple")) (instr.IfIcmple to) _ _ _ refl)))))))))))

jump_links : (classes : List PlainClassText) (m : PlainMethodText) (labels : Rows) (word x : List ℕ) (i : Instr) → ((label : List ℕ) → value_of label labels ≡ label_place m label) → jumped labels word x ≡ Ok i → LinksWord classes m word x i
unfolding jumped
jump_links classes m labels word x i so e =
    let b : Both ℕ Instr (or_fault kinds.UnknownLabel (value_of x labels)) (λ to. or_fault kinds.OutOfProfile (jump_to word to)) i = both_ok (or_fault kinds.UnknownLabel (value_of x labels)) (λ to. or_fault kinds.OutOfProfile (jump_to word to)) i e in
    Jumps b.first (sym (so x) ∙ found_ok kinds.UnknownLabel (value_of x labels) b.first b.is) (sym (jumps_said word b.first) ∙ found_ok kinds.OutOfProfile (jump_to word b.first) i b.follows)

-- ---- new

new_links : (classes : List PlainClassText) (names : Names) (run : ℕ) (texts : Rows) (m : PlainMethodText) (word x : List ℕ) (i : Instr) → NamesSo classes names run texts → word ≡ codes "new" → made names x ≡ Ok i → LinksWord classes m word x i
unfolding made
new_links classes names run texts m word x i so is e =
    let b : Both ℕ Instr (or_fault kinds.UnknownClass (class_of names.classes x)) make i = both_ok (or_fault kinds.UnknownClass (class_of names.classes x)) make i e in
    Makes b.first is (so.class x b.first (found_ok kinds.UnknownClass (class_of names.classes x) b.first b.is)) (made_one (has_objects b.first) b.first b.follows)
  where
    make : ℕ → Result Instr LinkKind
    make n = if has_objects n then Ok (instr.New n) else Err kinds.OutOfProfile

    made_one : (b : Bool) (n : ℕ) → (if b then Ok (instr.New n) else Err kinds.OutOfProfile) ≡ Ok i → i ≡ instr.New n
    made_one true n h = sym (ok_same (instr.New n) i h)
    made_one false n h = absurd (err_ok kinds.OutOfProfile i h)

-- ---- members of built-in classes

-- the first of two
first_one : (a b : Option Instr) (i : Instr) → first_some a b ≡ Some i → (a ≡ Some i) ⊎ (b ≡ Some i)
first_one (Some j) b i e = inl e
first_one None b i e = inr e

-- what a test lets through
tested : (b : Bool) (o : Option Instr) (i : Instr) → (if b then o else None) ≡ Some i → (b ≡ true) × (o ≡ Some i)
tested true o i e = (refl, e)
tested false o i e = absurd (none_some i e)

-- what isn't true
not_true : (b : Bool) → not b ≡ true → b ≡ false
not_true true e = absurd (false≢true e)
not_true false e = refl

built_in_links : (classes : List PlainClassText) (class : List ℕ) (n : ℕ) (is_thread : Bool) (m : List ℕ) (i : Instr) → is_thread ≡ is_thread_name classes class → instance_member n is_thread m ≡ Some i → IsBuiltIn classes class n m i
built_in_links classes class n is_thread m i thread e = ⊎_elim lock rest (first_one (of_lock n m) (first_some (of_thread is_thread m) (of_stream n m)) i e)
  where
    lock : of_lock n m ≡ Some i → IsBuiltIn classes class n m i
    lock h = let t : (has_lock n ≡ true) × (said_of m lock_members ≡ Some i) = tested (has_lock n) (said_of m lock_members) i h in OfLock (not_true (n == 3 || n == 4) t.0) t.1

    of_a_thread : of_thread is_thread m ≡ Some i → IsBuiltIn classes class n m i
    of_a_thread h = let t : (is_thread ≡ true) × (said_of m thread_members ≡ Some i) = tested is_thread (said_of m thread_members) i h in OfThread (sym thread ∙ t.0) t.1

    of_the_stream : of_stream n m ≡ Some i → IsBuiltIn classes class n m i
    of_the_stream h = let t : ((n == 4) ≡ true) × (said_of m stream_members ≡ Some i) = tested (n == 4) (said_of m stream_members) i h in OfStream (same n 4 t.0) t.1

    rest : first_some (of_thread is_thread m) (of_stream n m) ≡ Some i → IsBuiltIn classes class n m i
    rest h = ⊎_elim of_a_thread of_the_stream (first_one (of_thread is_thread m) (of_stream n m) i h)

constructor_links : (n : ℕ) (m : List ℕ) (i : Instr) → constructor n m ≡ Some i → IsConstructor n m i
constructor_links n m i e =
    by (bytes_eq m (codes "<init>()V") && has_constructor n) refl (bytes_eq m (codes "<init>(Ljava/lang/Runnable;)V") && n == 1) refl (bytes_eq m (codes "<init>(Ljava/lang/String;)V") && has_text_constructor n) refl e
  where
    by : (a : Bool) → (bytes_eq m (codes "<init>()V") && has_constructor n) ≡ a → (b : Bool) → (bytes_eq m (codes "<init>(Ljava/lang/Runnable;)V") && n == 1) ≡ b
        → (c : Bool) → (bytes_eq m (codes "<init>(Ljava/lang/String;)V") && has_text_constructor n) ≡ c
        → (if a then Some (instr.Init n false) else if b then Some instr.InitRunnable else if c then Some (instr.Init n true) else None) ≡ Some i → IsConstructor n m i
    by true is b is_b c is_c h =
        let t : (bytes_eq m (codes "<init>()V") ≡ true) × (has_constructor n ≡ true) = both (bytes_eq m (codes "<init>()V")) (has_constructor n) is in
        Plain (same_word m (codes "<init>()V") t.0) t.1 (sym (some_same (instr.Init n false) i h))
    by false is true is_b c is_c h =
        let t : (bytes_eq m (codes "<init>(Ljava/lang/Runnable;)V") ≡ true) × ((n == 1) ≡ true) = both (bytes_eq m (codes "<init>(Ljava/lang/Runnable;)V")) (n == 1) is_b in
        WithTarget (same_word m (codes "<init>(Ljava/lang/Runnable;)V") t.0) (same n 1 t.1) (sym (some_same instr.InitRunnable i h))
    by false is false is_b true is_c h =
        let t : (bytes_eq m (codes "<init>(Ljava/lang/String;)V") ≡ true) × (has_text_constructor n ≡ true) = both (bytes_eq m (codes "<init>(Ljava/lang/String;)V")) (has_text_constructor n) is_c in
        WithText (same_word m (codes "<init>(Ljava/lang/String;)V") t.0) t.1 (sym (some_same (instr.Init n true) i h))
    by false is false is_b false is_c h = absurd (none_some i h)

-- ---- calls

-- what is known of a call's word: its class has a number
record CallSo (classes : List PlainClassText) (names : Names) (x : List ℕ) (t : Target) : Type 0 where
  number : ℕ
  class : IsClass classes (class_part x) number
  split : IsMember x (class_part x) (name_part x ++ desc_part x)
  is : target names x (class_part x) (name_part x) (desc_part x) number ≡ t

target_so : (classes : List PlainClassText) (names : Names) (run : ℕ) (texts : Rows) (x : List ℕ) (t : Target) → NamesSo classes names run texts → target_of names x ≡ Ok t → CallSo classes names x t
unfolding target_of
target_so classes names run texts x t so e = record {
  number = a.first;
  class = so.class (class_part x) a.first there;
  split = word_split x (λ none. none_some a.first (sym so.nameless ∙ sym (ap (class_of names.classes) none) ∙ there));
  is = ok_same (target names x (class_part x) (name_part x) (desc_part x) a.first) t b.follows;
}
  where
    rest : ℕ → Result Target LinkKind
    rest n = known (in_signature is_unknown (method_signature names.classes (name_part x) (desc_part x))) >>= λ checked. Ok (target names x (class_part x) (name_part x) (desc_part x) n)

    a : Both ℕ Target (or_fault kinds.UnknownClass (class_of names.classes (class_part x))) rest t
    a = both_ok (or_fault kinds.UnknownClass (class_of names.classes (class_part x))) rest t e

    b : Both (Unit {0}) Target (known (in_signature is_unknown (method_signature names.classes (name_part x) (desc_part x)))) (λ checked. Ok (target names x (class_part x) (name_part x) (desc_part x) a.first)) t
    b = both_ok (known (in_signature is_unknown (method_signature names.classes (name_part x) (desc_part x)))) (λ checked. Ok (target names x (class_part x) (name_part x) (desc_part x) a.first)) t a.follows

    there : class_of names.classes (class_part x) ≡ Some a.first
    there = found_ok kinds.UnknownClass (class_of names.classes (class_part x)) a.first a.is

-- a row that isn't there
is_none : (o : Option ℕ) (rest : Option Instr) (i : Instr) → (if is_some o then None else rest) ≡ Some i → (o ≡ None) × (rest ≡ Some i)
is_none (Some n) rest i e = absurd (none_some i e)
is_none None rest i e = (refl, e)

-- the member of a call
abbrev member_of : List ℕ → List ℕ
member_of x = name_part x ++ desc_part x

-- the target of a call of a class of this number
abbrev target_at : Names → List ℕ → ℕ → Target
target_at names x n = target names x (class_part x) (name_part x) (desc_part x) n

-- a call of what no method of the text is
other_links : (classes : List PlainClassText) (names : Names) (run : ℕ) (texts : Rows) (m : PlainMethodText) (word x : List ℕ) (i : Instr) (n : ℕ) → NamesSo classes names run texts
    → IsClass classes (class_part x) n → IsMember x (class_part x) (member_of x) → value_of x names.functions ≡ None → value_of x names.instance_methods ≡ None
    → CallsBuiltIn classes word (class_part x) n (member_of x) i → LinksWord classes m word x i
other_links classes names run texts m word x i n so class split none also calls = CallsOther (class_part x) (member_of x) n (sym (so.functions x) ∙ none, sym (so.methods x) ∙ also) split class calls

-- `invokestatic`
static_links : (classes : List PlainClassText) (names : Names) (run : ℕ) (texts : Rows) (m : PlainMethodText) (word x : List ℕ) (i : Instr) (n : ℕ) → NamesSo classes names run texts
    → IsClass classes (class_part x) n → IsMember x (class_part x) (member_of x) → word ≡ codes "invokestatic" → static_call names (target_at names x n) (value_of x names.functions) ≡ Some i → LinksWord classes m word x i
static_links classes names run texts m word x i n so class split is e = by (value_of x names.functions) refl e
  where
    by : (o : Option ℕ) → value_of x names.functions ≡ o → static_call names (target_at names x n) o ≡ Some i → LinksWord classes m word x i
    by (Some k) found h = CallsStatic k is (sym (so.functions x) ∙ found) (sym (some_same (instr.InvokeStatic k) i h))
    by None found h =
        let none : (value_of x names.instance_methods ≡ None) × (static_member (target_at names x n) ≡ Some i) = is_none (value_of x names.instance_methods) (static_member (target_at names x n)) i h in
        let t : ((bytes_eq (member_of x) (codes "yield()V") && is_thread_class names (class_part x)) ≡ true) × (Some instr.Yield ≡ Some i) = tested (bytes_eq (member_of x) (codes "yield()V") && is_thread_class names (class_part x)) (Some instr.Yield) i none.1 in
        let parts : (bytes_eq (member_of x) (codes "yield()V") ≡ true) × (is_thread_class names (class_part x) ≡ true) = both (bytes_eq (member_of x) (codes "yield()V")) (is_thread_class names (class_part x)) t.0 in
        other_links classes names run texts m word x i n so class split found none.0 (Yields is (same_word (member_of x) (codes "yield()V") parts.0) (sym (so.thread (class_part x)) ∙ parts.1) (sym (some_same instr.Yield i t.1)))

-- Thread's own run
run_links : (classes : List PlainClassText) (names : Names) (run : ℕ) (texts : Rows) (word x : List ℕ) (i : Instr) (n : ℕ) → NamesSo classes names run texts → is_run (target_at names x n) ≡ true
    → IsThreadRun classes word (class_part x) n (member_of x) i → CallsBuiltIn classes word (class_part x) n (member_of x) i
run_links classes names run texts word x i n so is how =
    let parts : (bytes_eq (member_of x) (codes "run()V") ≡ true) × (is_thread_class names (class_part x) ≡ true) = both (bytes_eq (member_of x) (codes "run()V")) (is_thread_class names (class_part x)) is in
    Runs (same_word (member_of x) (codes "run()V") parts.0) (sym (so.thread (class_part x)) ∙ parts.1) how

-- `invokevirtual`
virtual_links : (classes : List PlainClassText) (names : Names) (run : ℕ) (texts : Rows) (m : PlainMethodText) (word x : List ℕ) (i : Instr) (n : ℕ) → NamesSo classes names run texts
    → IsClass classes (class_part x) n → IsMember x (class_part x) (member_of x) → word ≡ codes "invokevirtual" → virtual_call names run (target_at names x n) (value_of x names.instance_methods) ≡ Some i → LinksWord classes m word x i
virtual_links classes names run texts m word x i n so class split is e = by (value_of x names.instance_methods) refl e
  where
    own : (b : Bool) (k : ℕ) → (if b then None else Some (instr.InvokeVirtual k)) ≡ Some i → instr.InvokeVirtual k ≡ i
    own true k h = absurd (none_some i h)
    own false k h = some_same (instr.InvokeVirtual k) i h

    by_thread : (b : Bool) → (n == 1) ≡ b → (if b then instr.RunOf 1 else instr.InvokeVirtual run) ≡ i → IsThreadRun classes word (class_part x) n (member_of x) i
    by_thread true that h = ByObject is (same n 1 that) (sym h)
    by_thread false that h = Inherited is that (sym h ∙ ap instr.InvokeVirtual so.run_is)

    others : (b : Bool) → is_run (target_at names x n) ≡ b → (if b then Some (virtual_run run (target_at names x n)) else instance_member n (is_thread_class names (class_part x)) (member_of x)) ≡ Some i
        → CallsBuiltIn classes word (class_part x) n (member_of x) i
    others true that h = run_links classes names run texts word x i n so that (by_thread (n == 1) refl (some_same (virtual_run run (target_at names x n)) i h))
    others false that h = OnObject (inl is) (built_in_links classes (class_part x) n (is_thread_class names (class_part x)) (member_of x) i (so.thread (class_part x)) h)

    by : (o : Option ℕ) → value_of x names.instance_methods ≡ o → virtual_call names run (target_at names x n) o ≡ Some i → LinksWord classes m word x i
    by (Some k) found h =
        CallsMethod k (sym (so.methods x) ∙ found) (ap (λ (w : List ℕ). said_of w (instance_calls k)) is ∙ ap Some (own (target_at names x n).is_init k h))
    by None found h =
        let none : (value_of x names.functions ≡ None) × (virtual_member run (target_at names x n) ≡ Some i) = is_none (value_of x names.functions) (virtual_member run (target_at names x n)) i h in
        other_links classes names run texts m word x i n so class split none.0 found (others (is_run (target_at names x n)) refl none.1)

-- `invokespecial`
special_links : (classes : List PlainClassText) (names : Names) (run : ℕ) (texts : Rows) (m : PlainMethodText) (word x : List ℕ) (i : Instr) (n : ℕ) → NamesSo classes names run texts
    → IsClass classes (class_part x) n → IsMember x (class_part x) (member_of x) → word ≡ codes "invokespecial" → special_call names run (target_at names x n) (value_of x names.instance_methods) ≡ Some i → LinksWord classes m word x i
special_links classes names run texts m word x i n so class split is e = by (value_of x names.instance_methods) refl e
  where
    others : (b : Bool) → is_run (target_at names x n) ≡ b
        → (if b then Some (instr.InvokeSpecial run) else first_some (instance_member n (is_thread_class names (class_part x)) (member_of x)) (constructor n (member_of x))) ≡ Some i
        → CallsBuiltIn classes word (class_part x) n (member_of x) i
    others true that h = run_links classes names run texts word x i n so that (Special is (sym (some_same (instr.InvokeSpecial run) i h) ∙ ap instr.InvokeSpecial so.run_is))
    others false that h =
        ⊎_elim (λ (k : instance_member n (is_thread_class names (class_part x)) (member_of x) ≡ Some i). OnObject (inr is) (built_in_links classes (class_part x) n (is_thread_class names (class_part x)) (member_of x) i (so.thread (class_part x)) k))
        (λ (k : constructor n (member_of x) ≡ Some i). Constructs is (constructor_links n (member_of x) i k))
        (first_one (instance_member n (is_thread_class names (class_part x)) (member_of x)) (constructor n (member_of x)) i h)

    by : (o : Option ℕ) → value_of x names.instance_methods ≡ o → special_call names run (target_at names x n) o ≡ Some i → LinksWord classes m word x i
    by (Some k) found h = CallsMethod k (sym (so.methods x) ∙ found) (ap (λ (w : List ℕ). said_of w (instance_calls k)) is ∙ h)
    by None found h =
        let none : (value_of x names.functions ≡ None) × (special_member run (target_at names x n) ≡ Some i) = is_none (value_of x names.functions) (special_member run (target_at names x n)) i h in
        other_links classes names run texts m word x i n so class split none.0 found (others (is_run (target_at names x n)) refl none.1)

-- a call, by its mnemonic
call_links : (classes : List PlainClassText) (names : Names) (run : ℕ) (texts : Rows) (m : PlainMethodText) (word x : List ℕ) (i : Instr) → NamesSo classes names run texts → is_call word ≡ true → call names run word x ≡ Ok i → LinksWord classes m word x i
unfolding call
call_links classes names run texts m word x i so is e = by (bytes_eq word (codes "invokestatic")) refl (bytes_eq word (codes "invokevirtual")) refl is called
  where
    b : Both Target Instr (target_of names x) (λ t. or_fault kinds.UnknownMethod (call_by names run word t)) i
    b = both_ok (target_of names x) (λ t. or_fault kinds.UnknownMethod (call_by names run word t)) i e

    c : CallSo classes names x b.first
    c = target_so classes names run texts x b.first so b.is

    called : call_by names run word (target_at names x c.number) ≡ Some i
    called = ap (call_by names run word) c.is ∙ found_ok kinds.UnknownMethod (call_by names run word b.first) i b.follows

    by : (s : Bool) → bytes_eq word (codes "invokestatic") ≡ s → (v : Bool) → bytes_eq word (codes "invokevirtual") ≡ v → ((s || v) || bytes_eq word (codes "invokespecial")) ≡ true
        → (if s then static_call names (target_at names x c.number) (value_of x names.functions) else
        if v then virtual_call names run (target_at names x c.number) (value_of x names.instance_methods) else
        special_call names run (target_at names x c.number) (value_of x names.instance_methods)) ≡ Some i → LinksWord classes m word x i
    by true that v also all h = static_links classes names run texts m word x i c.number so c.class c.split (same_word word (codes "invokestatic") that) h
    by false that true also all h = virtual_links classes names run texts m word x i c.number so c.class c.split (same_word word (codes "invokevirtual") also) h
    by false that false also all h = special_links classes names run texts m word x i c.number so c.class c.split (same_word word (codes "invokespecial") all) h

-- ---- with one word

word_links : (classes : List PlainClassText) (names : Names) (run : ℕ) (texts labels : Rows) (m : PlainMethodText) (word x : List ℕ) (i : Instr) → NamesSo classes names run texts
    → ((label : List ℕ) → value_of label labels ≡ label_place m label) → worded names run labels word x ≡ Ok i → LinksWord classes m word x i
word_links classes names run texts labels m word x i so labels_so e = by (bytes_eq word (codes "new")) refl (bytes_eq word (codes "newarray")) refl (is_call word) refl e
  where
    by : (a : Bool) → bytes_eq word (codes "new") ≡ a → (b : Bool) → bytes_eq word (codes "newarray") ≡ b → (c : Bool) → is_call word ≡ c
        → (if a then made names x else if b then Ok instr.NewArray else if c then call names run word x else jumped labels word x) ≡ Ok i → LinksWord classes m word x i
    by true is b is_b c is_c h = new_links classes names run texts m word x i so (same_word word (codes "new") is) h
    by false is true is_b c is_c h = MakesArray (same_word word (codes "newarray") is_b) (sym (ok_same instr.NewArray i h))
    by false is false is_b true is_c h = call_links classes names run texts m word x i so is_c h
    by false is false is_b false is_c h = jump_links classes m labels word x i labels_so h

-- ---- fields

-- an access to a slot
slot_made : (make : ℕ → Instr) (o : Option ℕ) (i : Instr) → to_slot make o ≡ Some i → (n : ℕ) × (o ≡ Some n) × (make n ≡ i)
slot_made make (Some n) i e = (n, refl, some_same (make n) i e)
slot_made make None i e = absurd (none_some i e)

-- the class of a field that an object has
class_made : (classes : List PlainClassText) (names : Names) (run : ℕ) (texts : Rows) (x desc : List ℕ) (n place : ℕ) → NamesSo classes names run texts → field_class names x desc ≡ Ok n → value_of (field_key x desc) names.places ≡ Some place
    → class_of names.classes (member x).0 ≡ Some n
class_made classes names run texts x desc n place so e there = by (class_of names.classes (member x).0) refl (is_out x desc) refl e
  where
    by : (o : Option ℕ) → class_of names.classes (member x).0 ≡ o → (b : Bool) → is_out x desc ≡ b → class_or b o ≡ Ok n → o ≡ Some n
    by (Some k) is b is_b h = ap Some (ok_same k n h)
    by None is false is_b h = absurd (err_ok kinds.UnknownClass n h)
    by None is true is_b h =
        let parts : (bytes_eq x (codes "java/lang/System/out") ≡ true) × (bytes_eq desc (codes "Ljava/io/PrintStream;") ≡ true) = both (bytes_eq x (codes "java/lang/System/out")) (bytes_eq desc (codes "Ljava/io/PrintStream;")) is_b in
        let word : x ≡ codes "java/lang/System/out" = same_word x (codes "java/lang/System/out") parts.0 in
        let type : desc ≡ codes "Ljava/io/PrintStream;" = same_word desc (codes "Ljava/io/PrintStream;") parts.1 in
        let none : object_field classes out_words ≡ None = so.system (sym (ap (λ (w : List ℕ). class_of names.classes (member w).0) word) ∙ is) in
        let key : field_key x desc ≡ out_words = ap (λ (w : List ℕ). field_key w desc) word ∙ ap (field_key (codes "java/lang/System/out")) type in
        absurd (none_some place (sym none ∙ ap (object_field classes) (sym key) ∙ sym (so.places (field_key x desc)) ∙ there))

place_links : (classes : List PlainClassText) (names : Names) (run : ℕ) (texts : Rows) (word x desc : List ℕ) (i : Instr) (n : ℕ) (make : ℕ → Instr) → NamesSo classes names run texts → field_class names x desc ≡ Ok n
    → to_slot make (value_of (field_key x desc) names.places) ≡ Some i → ((place : ℕ) → said_of word (field_accesses n place) ≡ Some (make place)) → LinksFieldWord classes word x desc i
place_links classes names run texts word x desc i n make so e h says =
    let slot : (k : ℕ) × (value_of (field_key x desc) names.places ≡ Some k) × (make k ≡ i) = slot_made make (value_of (field_key x desc) names.places) i h in
    let there : class_of names.classes (member x).0 ≡ Some n = class_made classes names run texts x desc n slot.0 so e slot.1 in
    AtPlace (member x).0 n slot.0 (field_split x (λ none. none_some n (sym so.nameless ∙ sym (ap (class_of names.classes) none) ∙ there))) (so.class (member x).0 n there) (sym (so.places (field_key x desc)) ∙ slot.1) (says slot.0 ∙ ap Some slot.2)

static_access_links : (classes : List PlainClassText) (names : Names) (run : ℕ) (texts : Rows) (word x desc : List ℕ) (i : Instr) (n : ℕ) → NamesSo classes names run texts → value_of (field_key x desc) names.statics ≡ Some n
    → said_of word (static_accesses n) ≡ Some i → LinksFieldWord classes word x desc i
static_access_links classes names run texts word x desc i n so there says = AtStatic n (sym (so.statics (field_key x desc)) ∙ there) says

-- `getstatic` of a field of the text, or of the built-in one
read_links : (classes : List PlainClassText) (names : Names) (run : ℕ) (texts : Rows) (word x desc : List ℕ) (i : Instr) → NamesSo classes names run texts → word ≡ codes "getstatic"
    → read_static (is_out x desc) (is_some (value_of (field_key x desc) names.places)) (value_of (field_key x desc) names.statics) ≡ Some i → LinksFieldWord classes word x desc i
read_links classes names run texts word x desc i so is e = by (value_of (field_key x desc) names.statics) refl e
  where
    nothing : (o : Option ℕ) → not (is_some o) ≡ true → o ≡ None
    nothing None h = refl
    nothing (Some n) h = absurd (false≢true h)

    by : (o : Option ℕ) → value_of (field_key x desc) names.statics ≡ o → read_static (is_out x desc) (is_some (value_of (field_key x desc) names.places)) o ≡ Some i → LinksFieldWord classes word x desc i
    by (Some n) found h = static_access_links classes names run texts word x desc i n so found (ap (λ (w : List ℕ). said_of w (static_accesses n)) is ∙ h)
    by None found h =
        let t : ((is_out x desc && not (is_some (value_of (field_key x desc) names.places))) ≡ true) × (Some instr.Out ≡ Some i) = tested (is_out x desc && not (is_some (value_of (field_key x desc) names.places))) (Some instr.Out) i h in
        let out : (is_out x desc ≡ true) × (not (is_some (value_of (field_key x desc) names.places)) ≡ true) = both (is_out x desc) (not (is_some (value_of (field_key x desc) names.places))) t.0 in
        let parts : (bytes_eq x (codes "java/lang/System/out") ≡ true) × (bytes_eq desc (codes "Ljava/io/PrintStream;") ≡ true) = both (bytes_eq x (codes "java/lang/System/out")) (bytes_eq desc (codes "Ljava/io/PrintStream;")) out.0 in
        let key : field_key x desc ≡ out_words =
        ap (λ (w : List ℕ). field_key w desc) (same_word x (codes "java/lang/System/out") parts.0) ∙ ap (field_key (codes "java/lang/System/out")) (same_word desc (codes "Ljava/io/PrintStream;") parts.1) in
        AtOut is key (ap (static_field classes) (sym key) ∙ sym (so.statics (field_key x desc)) ∙ found) (ap (object_field classes) (sym key) ∙ sym (so.places (field_key x desc)) ∙ nothing (value_of (field_key x desc) names.places) out.1) (sym (some_same instr.Out i t.1))

field_links : (classes : List PlainClassText) (names : Names) (run : ℕ) (texts : Rows) (word x desc : List ℕ) (i : Instr) → NamesSo classes names run texts → IsWrittenBy word (operand.Word x ∷ operand.Word desc ∷ []) → field names word x desc ≡ Ok i
    → LinksFieldWord classes word x desc i
unfolding field
field_links classes names run texts word x desc i so written e =
    by (bytes_eq word (codes "getstatic")) refl (bytes_eq word (codes "putstatic")) refl (bytes_eq word (codes "getfield")) refl written (found_ok kinds.UnknownField (field_by names word x desc a.first) i b.follows)
  where
    a : Both ℕ Instr (field_class names x desc) (λ class. known (is_unknown (type_of names.classes desc)) >>= λ checked. or_fault kinds.UnknownField (field_by names word x desc class)) i
    a = both_ok (field_class names x desc) (λ class. known (is_unknown (type_of names.classes desc)) >>= λ checked. or_fault kinds.UnknownField (field_by names word x desc class)) i e

    b : Both (Unit {0}) Instr (known (is_unknown (type_of names.classes desc))) (λ checked. or_fault kinds.UnknownField (field_by names word x desc a.first)) i
    b = both_ok (known (is_unknown (type_of names.classes desc))) (λ checked. or_fault kinds.UnknownField (field_by names word x desc a.first)) i a.follows

    of_last : (c : Bool) → (c || false) ≡ true → c ≡ true
    of_last true h = refl
    of_last false h = h

    by : (g : Bool) → bytes_eq word (codes "getstatic") ≡ g → (p : Bool) → bytes_eq word (codes "putstatic") ≡ p → (f : Bool) → bytes_eq word (codes "getfield") ≡ f
        → (g || (p || (f || (bytes_eq word (codes "putfield") || false)))) ≡ true
        → (if g then read_static (is_out x desc) (is_some (value_of (field_key x desc) names.places)) (value_of (field_key x desc) names.statics) else
        if p then to_slot instr.PutStatic (value_of (field_key x desc) names.statics) else
        if f then to_slot (instr.GetField a.first) (value_of (field_key x desc) names.places) else
        to_slot (instr.PutField a.first) (value_of (field_key x desc) names.places)) ≡ Some i → LinksFieldWord classes word x desc i
    by true is p is_p f is_f all h = read_links classes names run texts word x desc i so (same_word word (codes "getstatic") is) h
    by false is true is_p f is_f all h =
        let slot : (k : ℕ) × (value_of (field_key x desc) names.statics ≡ Some k) × (instr.PutStatic k ≡ i) = slot_made instr.PutStatic (value_of (field_key x desc) names.statics) i h in
        static_access_links classes names run texts word x desc i slot.0 so slot.1 (ap (λ (w : List ℕ). said_of w (static_accesses slot.0)) (same_word word (codes "putstatic") is_p) ∙ ap Some slot.2)
    by false is false is_p true is_f all h =
        place_links classes names run texts word x desc i a.first (instr.GetField a.first) so a.is h (λ place. ap (λ (w : List ℕ). said_of w (field_accesses a.first place)) (same_word word (codes "getfield") is_f))
    by false is false is_p false is_f all h =
        place_links classes names run texts word x desc i a.first (instr.PutField a.first) so a.is h (λ place. ap (λ (w : List ℕ). said_of w (field_accesses a.first place)) (same_word word (codes "putfield") (of_last (bytes_eq word (codes "putfield")) all)))

-- ---- lines

operands_link : (classes : List PlainClassText) (names : Names) (run : ℕ) (texts labels : Rows) (m : PlainMethodText) (word : List ℕ) (operands : List Operand) (i : Instr) → NamesSo classes names run texts
    → ((label : List ℕ) → value_of label labels ≡ label_place m label) → IsWrittenBy word operands → linked_by names run texts labels word operands ≡ Ok i → LinksOperands classes m word operands i
operands_link classes names run texts labels m word [] i so at written e = plain_links word i e
operands_link classes names run texts labels m word (operand.Number n ∷ []) i so at written e = found_ok kinds.OutOfProfile (said_of word (with_number n)) i (sym (numbers_said word n) ∙ e)
operands_link classes names run texts labels m word (operand.Text text ∷ []) i so at written e = text_links classes names run texts text i so e
operands_link classes names run texts labels m word (operand.Word x ∷ []) i so at written e = word_links classes names run texts labels m word x i so at e
operands_link classes names run texts labels m word (operand.Number n ∷ operand.Number by ∷ []) i so at written e = sym (ok_same (instr.Iinc (unsigned_abs n) by) i e)
operands_link classes names run texts labels m word (operand.Number n ∷ operand.Number by ∷ x ∷ xs) i so at written e = absurd (err_ok kinds.OutOfProfile i e)
operands_link classes names run texts labels m word (operand.Number n ∷ operand.Text text ∷ xs) i so at written e = absurd (err_ok kinds.OutOfProfile i e)
operands_link classes names run texts labels m word (operand.Number n ∷ operand.Word x ∷ xs) i so at written e = absurd (err_ok kinds.OutOfProfile i e)
operands_link classes names run texts labels m word (operand.Word x ∷ operand.Word desc ∷ []) i so at written e = field_links classes names run texts word x desc i so written e
operands_link classes names run texts labels m word (operand.Word x ∷ operand.Word desc ∷ y ∷ ys) i so at written e = absurd (err_ok kinds.OutOfProfile i e)
operands_link classes names run texts labels m word (operand.Word x ∷ operand.Text text ∷ ys) i so at written e = absurd (err_ok kinds.OutOfProfile i e)
operands_link classes names run texts labels m word (operand.Word x ∷ operand.Number n ∷ ys) i so at written e = absurd (err_ok kinds.OutOfProfile i e)
operands_link classes names run texts labels m word (operand.Text text ∷ x ∷ xs) i so at written e = absurd (err_ok kinds.OutOfProfile i e)

-- the lines of a method
pub code_links : (classes : List PlainClassText) (names : Names) (run : ℕ) (texts labels : Rows) (m : PlainMethodText) (ls : List PlainLineText) → NamesSo classes names run texts → ((label : List ℕ) → value_of label labels ≡ label_place m label)
    → AllByRecursion IsWrittenLine ls → AllByRecursion (Given names run texts labels) ls → AllZip (LinksLine classes m) ls (code_of names run texts labels ls)
unfolding code_of
code_links classes names run texts labels m [] so at written given = tt
code_links classes names run texts labels m (l ∷ ls) so at written given =
    subst (λ (r : Result Instr LinkKind). AllZip (LinksLine classes m) (l ∷ ls) (kept r ++ code_of names run texts labels ls)) (sym given.0.1)
    (operands_link classes names run texts labels m l.word l.operands given.0.0 so at written.0 given.0.1, code_links classes names run texts labels m ls so at written.1 given.1)
