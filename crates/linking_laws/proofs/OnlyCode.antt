-- A line is linked to one instruction.
use Rattle.std.proofs.Common.{◌≡◌, ℕ, Bool, true, false, List, [], ◌∷◌, ◌++◌, Option, Some, None, refl, sym, ap, ◌∙◌, subst, arith, append_assoc, ◌⊎◌, inl, inr}
use Rattle.std.specs.Prelude.{not, ◌||◌, ◌==◌, if◌then◌else◌, codes, bytes_eq, is_some}
use Rattle.std.specs.List.{list_all}
use Rattle.std.proofs.lemmas.Bool.{false≢true}
use Rattle.std.proofs.lemmas.Slice.Eq.{bytes_eq-Decides}
use Rattle.vm_model.specs.declared.instr.Instr.{Instr}
use Rattle.vm_model.specs.declared.instr.Instr.TheVariants as instr
use Rattle.jasmin_lines.specs.declared.class_text.Operand.{Operand}
use Rattle.jasmin_lines.specs.declared.class_text.Operand.TheVariants as operand
use Rattle.jasmin_lines.specs.Plain.{PlainClassText, PlainLineText, PlainMethodText}
use Rattle.shape_laws.proofs.Tests.{both, same}
use Rattle.linking_laws.specs.Declared.{IsClass, static_field}
use Rattle.linking_laws.specs.Instructions.{said_of, jumps, instance_calls, static_accesses, field_accesses, lock_members, thread_members, stream_members}
use Rattle.linking_laws.specs.Links.{begins_with_bracket, IsMember, IsFieldOf, IsBuiltIn, OfLock, OfThread, OfStream, IsConstructor, Plain, WithTarget, WithText, IsThreadRun, ByObject, Inherited, Special, CallsBuiltIn, Yields, Runs, OnObject, Constructs, LinksWord, Jumps, Makes, MakesArray, CallsStatic, CallsMethod, CallsOther, LinksFieldWord, AtStatic, AtPlace, AtOut, LinksOperands, LinksLine}
use Rattle.linking_laws.proofs.Keys.{Without, tested, parted_last}
use Rattle.linking_laws.proofs.Numbered.{none_some, some_same}
use Rattle.linking_laws.proofs.OnlyTypes.{same_class}

-- ---- tables

same_word : (a b : List ℕ) → bytes_eq a b ≡ true → a ≡ b
same_word a b e = (bytes_eq-Decides a b).0 e

-- two words that aren't spelled alike
apart_words : (word a b : List ℕ) → bytes_eq a b ≡ false → word ≡ a → word ≡ b → ⊥
apart_words word a b other is also = false≢true (sym other ∙ (bytes_eq-Decides a b).1 (sym is ∙ also))

-- no row of one table is a row of the other
abbrev none_of : List (List ℕ × Instr) → List (List ℕ × Instr) → Bool
none_of rows others = list_all (λ row. not (is_some (said_of row.0 others))) rows

apart_tables : (word : List ℕ) (rows others : List (List ℕ × Instr)) (i j : Instr) → none_of rows others ≡ true → said_of word rows ≡ Some i → said_of word others ≡ Some j → ⊥
apart_tables word [] others i j none e f = none_some i e
apart_tables word (row ∷ rows) others i j none e f = by (bytes_eq word row.0) refl e (λ h. apart_tables word rows others i j parts.1 h f)
  where
    parts : (not (is_some (said_of row.0 others)) ≡ true) × (none_of rows others ≡ true)
    parts = both (not (is_some (said_of row.0 others))) (none_of rows others) none

    by : (b : Bool) → bytes_eq word row.0 ≡ b → (if b then Some row.1 else said_of word rows) ≡ Some i → (said_of word rows ≡ Some i → ⊥) → ⊥
    by true is h more =
        false≢true (ap (λ (o : Option Instr). not (is_some o)) (sym (sym (ap (λ (w : List ℕ). said_of w others) (same_word word row.0 is)) ∙ f)) ∙ parts.0)
    by false is h more = more h

-- ---- how a member is split

-- the byte at the front of a descriptor
split_same : (xs ys us vs : List ℕ) → list_all (λ b. not (b == 40)) xs ≡ true → list_all (λ b. not (b == 40)) ys ≡ true → begins_with_bracket us ≡ true → begins_with_bracket vs ≡ true → xs ++ us ≡ ys ++ vs → (xs ≡ ys) × (us ≡ vs)
split_same [] [] us vs h k p q e = (refl, e)
split_same [] (y ∷ ys) [] vs h k p q e = absurd (empty y (ys ++ vs) e)
  where
    empty : (b : ℕ) (bs : List ℕ) → [] ≡ b ∷ bs → ⊥
    empty b bs e = cc
split_same [] (y ∷ ys) (u ∷ us) vs h k p q e = absurd (clash u y (heads u y us (ys ++ vs) e) p (both (not (y == 40)) (list_all (λ b. not (b == 40)) ys) k).0)
  where
    heads : (a b : ℕ) (cs ds : List ℕ) → a ∷ cs ≡ b ∷ ds → a ≡ b
    heads a b cs ds e = cc

    clash : (a b : ℕ) → a ≡ b → (a == 40) ≡ true → not (b == 40) ≡ true → ⊥
    clash a b e p r = false≢true (sym (ap not (sym (ap (λ (c : ℕ). c == 40) e) ∙ p)) ∙ r)
split_same (x ∷ xs) [] us [] h k p q e = absurd (empty x (xs ++ us) (sym e))
  where
    empty : (b : ℕ) (bs : List ℕ) → [] ≡ b ∷ bs → ⊥
    empty b bs e = cc
split_same (x ∷ xs) [] us (v ∷ vs) h k p q e = absurd (clash v x (heads v x vs (xs ++ us) (sym e)) q (both (not (x == 40)) (list_all (λ b. not (b == 40)) xs) h).0)
  where
    heads : (a b : ℕ) (cs ds : List ℕ) → a ∷ cs ≡ b ∷ ds → a ≡ b
    heads a b cs ds e = cc

    clash : (a b : ℕ) → a ≡ b → (a == 40) ≡ true → not (b == 40) ≡ true → ⊥
    clash a b e p r = false≢true (sym (ap not (sym (ap (λ (c : ℕ). c == 40) e) ∙ p)) ∙ r)
split_same (x ∷ xs) (y ∷ ys) us vs h k p q e =
    let rest : (xs ≡ ys) × (us ≡ vs) =
    split_same xs ys us vs (both (not (x == 40)) (list_all (λ b. not (b == 40)) xs) h).1 (both (not (y == 40)) (list_all (λ b. not (b == 40)) ys) k).1 p q (tails x y (xs ++ us) (ys ++ vs) e) in
    (ap (λ (b : ℕ). b ∷ xs) (heads x y (xs ++ us) (ys ++ vs) e) ∙ ap (λ (bs : List ℕ). y ∷ bs) rest.0, rest.1)
  where
    heads : (a b : ℕ) (cs ds : List ℕ) → a ∷ cs ≡ b ∷ ds → a ≡ b
    heads a b cs ds e = cc

    tails : (a b : ℕ) (cs ds : List ℕ) → a ∷ cs ≡ b ∷ ds → cs ≡ ds
    tails a b cs ds e = cc

-- a name without slashes
without_slash : (name : List ℕ) → list_all (λ b. not (b == 47)) name ≡ true → Without 47 name
without_slash name h = tested (λ b. not (b == 47)) 47 name refl h

same_member : (word class member other text : List ℕ) → IsMember word class member → IsMember word other text → (class ≡ other) × (member ≡ text)
same_member word class member other text a b =
    let first : (class ++ 47 ∷ a.name ≡ other ++ 47 ∷ b.name) × (a.desc ≡ b.desc) = split_same (class ++ 47 ∷ a.name) (other ++ 47 ∷ b.name) a.desc b.desc a.no_bracket b.no_bracket a.bracket b.bracket (sym (whole class member a) ∙ whole other text b) in
    let last : (class ≡ other) × (a.name ≡ b.name) = parted_last 47 class other a.name b.name (without_slash a.name a.no_slash) (without_slash b.name b.no_slash) first.0 in
    (last.0, a.member_is ∙ ap (λ (n : List ℕ). n ++ a.desc) last.1 ∙ ap (λ (d : List ℕ). b.name ++ d) first.1 ∙ sym b.member_is)
  where
    whole : (c m : List ℕ) (s : IsMember word c m) → word ≡ (c ++ 47 ∷ s.name) ++ s.desc
    whole c m s = s.word_is ∙ ap (λ (w : List ℕ). c ++ 47 ∷ w) s.member_is ∙ sym (append_assoc c (47 ∷ s.name) s.desc)

same_owner : (word class other : List ℕ) → IsFieldOf word class → IsFieldOf word other → class ≡ other
same_owner word class other a b = (parted_last 47 class other a.name b.name (without_slash a.name a.no_slash) (without_slash b.name b.no_slash) (sym a.is ∙ b.is)).0

-- ---- members of built-in classes

same_built_in : (classes : List PlainClassText) (class : List ℕ) (n : ℕ) (member : List ℕ) (i j : Instr) → IsBuiltIn classes class n member i → IsBuiltIn classes class n member j → i ≡ j
same_built_in classes class n member i j (OfLock a e) (OfLock b f) = some_same i j (sym e ∙ f)
same_built_in classes class n member i j (OfLock a e) (OfThread b f) = absurd (apart_tables member lock_members thread_members i j refl e f)
same_built_in classes class n member i j (OfLock a e) (OfStream b f) = absurd (apart_tables member lock_members stream_members i j refl e f)
same_built_in classes class n member i j (OfThread a e) (OfLock b f) = absurd (apart_tables member thread_members lock_members i j refl e f)
same_built_in classes class n member i j (OfThread a e) (OfThread b f) = some_same i j (sym e ∙ f)
same_built_in classes class n member i j (OfThread a e) (OfStream b f) = absurd (apart_tables member thread_members stream_members i j refl e f)
same_built_in classes class n member i j (OfStream a e) (OfLock b f) = absurd (apart_tables member stream_members lock_members i j refl e f)
same_built_in classes class n member i j (OfStream a e) (OfThread b f) = absurd (apart_tables member stream_members thread_members i j refl e f)
same_built_in classes class n member i j (OfStream a e) (OfStream b f) = some_same i j (sym e ∙ f)

-- a word that is none of these members
not_built_in : (classes : List PlainClassText) (class : List ℕ) (n : ℕ) (member word : List ℕ) (i : Instr) → said_of word lock_members ≡ None → said_of word thread_members ≡ None → said_of word stream_members ≡ None → member ≡ word → IsBuiltIn classes class n member i → ⊥
not_built_in classes class n member word i l t s is (OfLock a e) = none_some i (sym l ∙ sym (ap (λ (w : List ℕ). said_of w lock_members) is) ∙ e)
not_built_in classes class n member word i l t s is (OfThread a e) = none_some i (sym t ∙ sym (ap (λ (w : List ℕ). said_of w thread_members) is) ∙ e)
not_built_in classes class n member word i l t s is (OfStream a e) = none_some i (sym s ∙ sym (ap (λ (w : List ℕ). said_of w stream_members) is) ∙ e)

constructor_apart : (classes : List PlainClassText) (class : List ℕ) (n : ℕ) (member : List ℕ) (i j : Instr) → IsBuiltIn classes class n member i → IsConstructor n member j → ⊥
constructor_apart classes class n member i j a (Plain is h e) = not_built_in classes class n member (codes "<init>()V") i refl refl refl is a
constructor_apart classes class n member i j a (WithTarget is h e) = not_built_in classes class n member (codes "<init>(Ljava/lang/Runnable;)V") i refl refl refl is a
constructor_apart classes class n member i j a (WithText is h e) = not_built_in classes class n member (codes "<init>(Ljava/lang/String;)V") i refl refl refl is a

same_constructor : (n : ℕ) (member : List ℕ) (i j : Instr) → IsConstructor n member i → IsConstructor n member j → i ≡ j
same_constructor n member i j (Plain a p e) (Plain b q f) = e ∙ sym f
same_constructor n member i j (Plain a p e) (WithTarget b q f) = absurd (apart_words member (codes "<init>()V") (codes "<init>(Ljava/lang/Runnable;)V") refl a b)
same_constructor n member i j (Plain a p e) (WithText b q f) = absurd (apart_words member (codes "<init>()V") (codes "<init>(Ljava/lang/String;)V") refl a b)
same_constructor n member i j (WithTarget a p e) (Plain b q f) = absurd (apart_words member (codes "<init>(Ljava/lang/Runnable;)V") (codes "<init>()V") refl a b)
same_constructor n member i j (WithTarget a p e) (WithTarget b q f) = e ∙ sym f
same_constructor n member i j (WithTarget a p e) (WithText b q f) = absurd (apart_words member (codes "<init>(Ljava/lang/Runnable;)V") (codes "<init>(Ljava/lang/String;)V") refl a b)
same_constructor n member i j (WithText a p e) (Plain b q f) = absurd (apart_words member (codes "<init>(Ljava/lang/String;)V") (codes "<init>()V") refl a b)
same_constructor n member i j (WithText a p e) (WithTarget b q f) = absurd (apart_words member (codes "<init>(Ljava/lang/String;)V") (codes "<init>(Ljava/lang/Runnable;)V") refl a b)
same_constructor n member i j (WithText a p e) (WithText b q f) = e ∙ sym f

-- Thread's own run
same_run : (classes : List PlainClassText) (word class : List ℕ) (n : ℕ) (member : List ℕ) (i j : Instr) → IsThreadRun classes word class n member i → IsThreadRun classes word class n member j → i ≡ j
same_run classes word class n member i j (ByObject a p e) (ByObject b q f) = e ∙ sym f
same_run classes word class n member i j (ByObject a p e) (Inherited b q f) = absurd (false≢true (sym q ∙ ap (λ (k : ℕ). k == 1) p))
same_run classes word class n member i j (ByObject a p e) (Special b f) = absurd (apart_words word (codes "invokevirtual") (codes "invokespecial") refl a b)
same_run classes word class n member i j (Inherited a p e) (ByObject b q f) = absurd (false≢true (sym p ∙ ap (λ (k : ℕ). k == 1) q))
same_run classes word class n member i j (Inherited a p e) (Inherited b q f) = e ∙ sym f
same_run classes word class n member i j (Inherited a p e) (Special b f) = absurd (apart_words word (codes "invokevirtual") (codes "invokespecial") refl a b)
same_run classes word class n member i j (Special a e) (ByObject b q f) = absurd (apart_words word (codes "invokespecial") (codes "invokevirtual") refl a b)
same_run classes word class n member i j (Special a e) (Inherited b q f) = absurd (apart_words word (codes "invokespecial") (codes "invokevirtual") refl a b)
same_run classes word class n member i j (Special a e) (Special b f) = e ∙ sym f

run_apart : (classes : List PlainClassText) (word class : List ℕ) (n : ℕ) (member : List ℕ) (i : Instr) → word ≡ codes "invokestatic" → IsThreadRun classes word class n member i → ⊥
run_apart classes word class n member i is (ByObject a p e) = apart_words word (codes "invokestatic") (codes "invokevirtual") refl is a
run_apart classes word class n member i is (Inherited a p e) = apart_words word (codes "invokestatic") (codes "invokevirtual") refl is a
run_apart classes word class n member i is (Special a e) = apart_words word (codes "invokestatic") (codes "invokespecial") refl is a

-- calls of objects, by one of two words
object_apart : (word : List ℕ) → word ≡ codes "invokestatic" → (word ≡ codes "invokevirtual") ⊎ (word ≡ codes "invokespecial") → ⊥
object_apart word is (inl a) = apart_words word (codes "invokestatic") (codes "invokevirtual") refl is a
object_apart word is (inr a) = apart_words word (codes "invokestatic") (codes "invokespecial") refl is a

-- run is no constructor
run_constructs : (n : ℕ) (member : List ℕ) (i : Instr) → member ≡ codes "run()V" → IsConstructor n member i → ⊥
run_constructs n member i is (Plain a p e) = apart_words member (codes "run()V") (codes "<init>()V") refl is a
run_constructs n member i is (WithTarget a p e) = apart_words member (codes "run()V") (codes "<init>(Ljava/lang/Runnable;)V") refl is a
run_constructs n member i is (WithText a p e) = apart_words member (codes "run()V") (codes "<init>(Ljava/lang/String;)V") refl is a

same_other : (classes : List PlainClassText) (word class : List ℕ) (n : ℕ) (member : List ℕ) (i j : Instr) → CallsBuiltIn classes word class n member i → CallsBuiltIn classes word class n member j → i ≡ j
same_other classes word class n member i j (Yields a m t e) (Yields b k u f) = e ∙ sym f
same_other classes word class n member i j (Yields a m t e) (Runs k u r) = absurd (run_apart classes word class n member j a r)
same_other classes word class n member i j (Yields a m t e) (OnObject b o) = absurd (object_apart word a b)
same_other classes word class n member i j (Yields a m t e) (Constructs b o) = absurd (apart_words word (codes "invokestatic") (codes "invokespecial") refl a b)
same_other classes word class n member i j (Runs m t r) (Yields b k u f) = absurd (run_apart classes word class n member i b r)
same_other classes word class n member i j (Runs m t r) (Runs k u s) = same_run classes word class n member i j r s
same_other classes word class n member i j (Runs m t r) (OnObject b o) = absurd (not_built_in classes class n member (codes "run()V") j refl refl refl m o)
same_other classes word class n member i j (Runs m t r) (Constructs b o) = absurd (run_constructs n member j m o)
same_other classes word class n member i j (OnObject a o) (Yields b k u f) = absurd (object_apart word b a)
same_other classes word class n member i j (OnObject a o) (Runs k u s) = absurd (not_built_in classes class n member (codes "run()V") i refl refl refl k o)
same_other classes word class n member i j (OnObject a o) (OnObject b p) = same_built_in classes class n member i j o p
same_other classes word class n member i j (OnObject a o) (Constructs b p) = absurd (constructor_apart classes class n member i j o p)
same_other classes word class n member i j (Constructs a o) (Yields b k u f) = absurd (apart_words word (codes "invokestatic") (codes "invokespecial") refl b a)
same_other classes word class n member i j (Constructs a o) (Runs k u s) = absurd (run_constructs n member i k o)
same_other classes word class n member i j (Constructs a o) (OnObject b p) = absurd (constructor_apart classes class n member j i p o)
same_other classes word class n member i j (Constructs a o) (Constructs b p) = same_constructor n member i j o p

-- ---- with one word

-- the group of a mnemonic: a jump, `new`, `newarray`, or a call
abbrev group : List ℕ → ℕ
group word =
    if bytes_eq word (codes "new") then 1 else if bytes_eq word (codes "newarray") then 2 else
    if bytes_eq word (codes "invokestatic") || (bytes_eq word (codes "invokevirtual") || bytes_eq word (codes "invokespecial")) then 3 else 0

-- a call
group_static : (word : List ℕ) → word ≡ codes "invokestatic" → group word ≡ 3
group_static word is = ap group is

group_virtual : (word : List ℕ) → word ≡ codes "invokevirtual" → group word ≡ 3
group_virtual word is = ap group is

group_special : (word : List ℕ) → word ≡ codes "invokespecial" → group word ≡ 3
group_special word is = ap group is

-- each row of a table is of this group
abbrev all_of : ℕ → List (List ℕ × Instr) → Bool
all_of g rows = list_all (λ row. group row.0 == g) rows

group_row : (g : ℕ) (word : List ℕ) (rows : List (List ℕ × Instr)) (i : Instr) → all_of g rows ≡ true → said_of word rows ≡ Some i → group word ≡ g
group_row g word [] i all e = absurd (none_some i e)
group_row g word (row ∷ rows) i all e = by (bytes_eq word row.0) refl e (λ h. group_row g word rows i parts.1 h)
  where
    parts : ((group row.0 == g) ≡ true) × (all_of g rows ≡ true)
    parts = both (group row.0 == g) (all_of g rows) all

    by : (b : Bool) → bytes_eq word row.0 ≡ b → (if b then Some row.1 else said_of word rows) ≡ Some i → (said_of word rows ≡ Some i → group word ≡ g) → group word ≡ g
    by true is h more = ap group (same_word word row.0 is) ∙ same (group row.0) g parts.0
    by false is h more = more h

jumps_group : (to : ℕ) → all_of 0 (jumps to) ≡ true
unfolding jumps
jumps_group to = refl

group_run : (classes : List PlainClassText) (word class : List ℕ) (n : ℕ) (member : List ℕ) (i : Instr) → IsThreadRun classes word class n member i → group word ≡ 3
group_run classes word class n member i (ByObject a p e) = group_virtual word a
group_run classes word class n member i (Inherited a p e) = group_virtual word a
group_run classes word class n member i (Special a e) = group_special word a

group_other : (classes : List PlainClassText) (word class : List ℕ) (n : ℕ) (member : List ℕ) (i : Instr) → CallsBuiltIn classes word class n member i → group word ≡ 3
group_other classes word class n member i (Yields a m t e) = group_static word a
group_other classes word class n member i (Runs m t r) = group_run classes word class n member i r
group_other classes word class n member i (OnObject (inl a) o) = group_virtual word a
group_other classes word class n member i (OnObject (inr a) o) = group_special word a
group_other classes word class n member i (Constructs a o) = group_special word a

-- the group of each case
abbrev case_of : {classes : List PlainClassText} {m : PlainMethodText} {word x : List ℕ} {i : Instr} → LinksWord classes m word x i → ℕ
case_of (Jumps to l e) = 0
case_of (Makes n w c e) = 1
case_of (MakesArray w e) = 2
case_of (CallsStatic n w s e) = 3
case_of (CallsMethod n s e) = 3
case_of (CallsOther class member n none s c o) = 3

group_is : (classes : List PlainClassText) (m : PlainMethodText) (word x : List ℕ) (i : Instr) (l : LinksWord classes m word x i) → group word ≡ case_of l
group_is classes m word x i (Jumps to l e) = group_row 0 word (jumps to) i (jumps_group to) e
group_is classes m word x i (Makes n w c e) = ap group w
group_is classes m word x i (MakesArray w e) = ap group w
group_is classes m word x i (CallsStatic n w s e) = ap group w
group_is classes m word x i (CallsMethod n s e) = group_row 3 word (instance_calls n) i refl e
group_is classes m word x i (CallsOther class member n none s c o) = group_other classes word class n member i o

-- no static call is of a method that isn't static
static_apart : (word : List ℕ) (n : ℕ) (i : Instr) → word ≡ codes "invokestatic" → said_of word (instance_calls n) ≡ Some i → ⊥
static_apart word n i is e = none_some i (sym (ap (λ (w : List ℕ). said_of w (instance_calls n)) is) ∙ e)

same_line_word : (classes : List PlainClassText) (m : PlainMethodText) (word x : List ℕ) (i j : Instr) (a : LinksWord classes m word x i) (b : LinksWord classes m word x j) → case_of a ≡ case_of b → i ≡ j
same_line_word classes m word x i j (Jumps to l e) (Jumps of k f) s =
    let to_same : to ≡ of = some_same to of (sym l ∙ k) in some_same i j (sym e ∙ ap (λ (t : ℕ). said_of word (jumps t)) to_same ∙ f)
same_line_word classes m word x i j (Makes n w c e) (Makes k v d f) s = e ∙ ap instr.New (same_class classes x n k c d) ∙ sym f
same_line_word classes m word x i j (MakesArray w e) (MakesArray v f) s = e ∙ sym f
same_line_word classes m word x i j (CallsStatic n w c e) (CallsStatic k v d f) s = e ∙ ap instr.InvokeStatic (some_same n k (sym c ∙ d)) ∙ sym f
same_line_word classes m word x i j (CallsStatic n w c e) (CallsMethod k d f) s = absurd (static_apart word k j w f)
same_line_word classes m word x i j (CallsStatic n w c e) (CallsOther class member k none p d o) s = absurd (none_some n (sym none.0 ∙ c))
same_line_word classes m word x i j (CallsMethod n c e) (CallsStatic k v d f) s = absurd (static_apart word n i v e)
same_line_word classes m word x i j (CallsMethod n c e) (CallsMethod k d f) s = some_same i j (sym e ∙ ap (λ (t : ℕ). said_of word (instance_calls t)) (some_same n k (sym c ∙ d)) ∙ f)
same_line_word classes m word x i j (CallsMethod n c e) (CallsOther class member k none p d o) s = absurd (none_some n (sym none.1 ∙ c))
same_line_word classes m word x i j (CallsOther class member n none p c o) (CallsStatic k v d f) s = absurd (none_some k (sym none.0 ∙ d))
same_line_word classes m word x i j (CallsOther class member n none p c o) (CallsMethod k d f) s = absurd (none_some k (sym none.1 ∙ d))
same_line_word classes m word x i j (CallsOther class member n none p c o) (CallsOther other text k nothing q d r) s =
    let parts : (class ≡ other) × (member ≡ text) = same_member x class member other text p q in
    let number : n ≡ k = same_class classes other n k (subst (λ (w : List ℕ). IsClass classes w n) parts.0 c) d in
    let moved : CallsBuiltIn classes word other k text i = subst (λ (w : List ℕ). CallsBuiltIn classes word other k w i) parts.1 (subst (λ (t : ℕ). CallsBuiltIn classes word other t member i) number (subst (λ (w : List ℕ). CallsBuiltIn classes word w n member i) parts.0 o)) in
    same_other classes word other k text i j moved r
same_line_word classes m word x i j (Jumps to l e) (Makes n w c f) s = absurd (omega (arith, s))
same_line_word classes m word x i j (Jumps to l e) (MakesArray w f) s = absurd (omega (arith, s))
same_line_word classes m word x i j (Jumps to l e) (CallsStatic n w c f) s = absurd (omega (arith, s))
same_line_word classes m word x i j (Jumps to l e) (CallsMethod n c f) s = absurd (omega (arith, s))
same_line_word classes m word x i j (Jumps to l e) (CallsOther class member n none p c o) s = absurd (omega (arith, s))
same_line_word classes m word x i j (Makes n w c e) (Jumps to l f) s = absurd (omega (arith, s))
same_line_word classes m word x i j (Makes n w c e) (MakesArray v f) s = absurd (omega (arith, s))
same_line_word classes m word x i j (Makes n w c e) (CallsStatic k v d f) s = absurd (omega (arith, s))
same_line_word classes m word x i j (Makes n w c e) (CallsMethod k d f) s = absurd (omega (arith, s))
same_line_word classes m word x i j (Makes n w c e) (CallsOther class member k none p d o) s = absurd (omega (arith, s))
same_line_word classes m word x i j (MakesArray w e) (Jumps to l f) s = absurd (omega (arith, s))
same_line_word classes m word x i j (MakesArray w e) (Makes n v c f) s = absurd (omega (arith, s))
same_line_word classes m word x i j (MakesArray w e) (CallsStatic k v d f) s = absurd (omega (arith, s))
same_line_word classes m word x i j (MakesArray w e) (CallsMethod k d f) s = absurd (omega (arith, s))
same_line_word classes m word x i j (MakesArray w e) (CallsOther class member k none p d o) s = absurd (omega (arith, s))
same_line_word classes m word x i j (CallsStatic n w c e) (Jumps to l f) s = absurd (omega (arith, s))
same_line_word classes m word x i j (CallsStatic n w c e) (Makes k v d f) s = absurd (omega (arith, s))
same_line_word classes m word x i j (CallsStatic n w c e) (MakesArray v f) s = absurd (omega (arith, s))
same_line_word classes m word x i j (CallsMethod n c e) (Jumps to l f) s = absurd (omega (arith, s))
same_line_word classes m word x i j (CallsMethod n c e) (Makes k v d f) s = absurd (omega (arith, s))
same_line_word classes m word x i j (CallsMethod n c e) (MakesArray v f) s = absurd (omega (arith, s))
same_line_word classes m word x i j (CallsOther class member n none p c o) (Jumps to l f) s = absurd (omega (arith, s))
same_line_word classes m word x i j (CallsOther class member n none p c o) (Makes k v d f) s = absurd (omega (arith, s))
same_line_word classes m word x i j (CallsOther class member n none p c o) (MakesArray v f) s = absurd (omega (arith, s))

-- ---- with a field

same_field : (classes : List PlainClassText) (word x desc : List ℕ) (i j : Instr) → LinksFieldWord classes word x desc i → LinksFieldWord classes word x desc j → i ≡ j
same_field classes word x desc i j (AtStatic n c e) (AtStatic k d f) = some_same i j (sym e ∙ ap (λ (t : ℕ). said_of word (static_accesses t)) (some_same n k (sym c ∙ d)) ∙ f)
same_field classes word x desc i j (AtStatic n c e) (AtPlace class k place o d p f) = absurd (apart_tables word (static_accesses n) (field_accesses k place) i j refl e f)
same_field classes word x desc i j (AtStatic n c e) (AtOut w k none also f) = absurd (none_some n (sym none ∙ ap (static_field classes) (sym k) ∙ c))
same_field classes word x desc i j (AtPlace class n place o c p e) (AtStatic k d f) = absurd (apart_tables word (static_accesses k) (field_accesses n place) j i refl f e)
same_field classes word x desc i j (AtPlace class n place o c p e) (AtPlace other k spot q d r f) =
    let owner : class ≡ other = same_owner x class other o q in
    let number : n ≡ k = same_class classes other n k (subst (λ (w : List ℕ). IsClass classes w n) owner c) d in
    let place_same : place ≡ spot = some_same place spot (sym p ∙ r) in
    some_same i j (sym e ∙ ap (λ (t : ℕ). said_of word (field_accesses t place)) number ∙ ap (λ (t : ℕ). said_of word (field_accesses k t)) place_same ∙ f)
same_field classes word x desc i j (AtPlace class n place o c p e) (AtOut w k none also f) = absurd (none_some i (sym (ap (λ (v : List ℕ). said_of v (field_accesses n place)) w) ∙ e))
same_field classes word x desc i j (AtOut w k none also e) (AtStatic n d f) = absurd (none_some n (sym none ∙ ap (static_field classes) (sym k) ∙ d))
same_field classes word x desc i j (AtOut w k none also e) (AtPlace class n place o c p f) = absurd (none_some j (sym (ap (λ (v : List ℕ). said_of v (field_accesses n place)) w) ∙ f))
same_field classes word x desc i j (AtOut w k none also e) (AtOut v l nothing no_place f) = e ∙ sym f

-- ---- lines

same_operands : (classes : List PlainClassText) (m : PlainMethodText) (word : List ℕ) (operands : List Operand) (i j : Instr) → LinksOperands classes m word operands i → LinksOperands classes m word operands j → i ≡ j
same_operands classes m word [] i j a b = some_same i j (sym a ∙ b)
same_operands classes m word (operand.Number n ∷ []) i j a b = some_same i j (sym a ∙ b)
same_operands classes m word (operand.Text text ∷ []) i j a b = a.2 ∙ ap instr.PushText (some_same a.0 b.0 (sym a.1 ∙ b.1)) ∙ sym b.2
same_operands classes m word (operand.Word x ∷ []) i j a b = same_line_word classes m word x i j a b (sym (group_is classes m word x i a) ∙ group_is classes m word x j b)
same_operands classes m word (operand.Number n ∷ operand.Number by ∷ []) i j a b = a ∙ sym b
same_operands classes m word (operand.Number n ∷ operand.Number by ∷ x ∷ xs) i j a b = absurd a
same_operands classes m word (operand.Number n ∷ operand.Text text ∷ xs) i j a b = absurd a
same_operands classes m word (operand.Number n ∷ operand.Word x ∷ xs) i j a b = absurd a
same_operands classes m word (operand.Word x ∷ operand.Word desc ∷ []) i j a b = same_field classes word x desc i j a b
same_operands classes m word (operand.Word x ∷ operand.Word desc ∷ y ∷ ys) i j a b = absurd a
same_operands classes m word (operand.Word x ∷ operand.Text text ∷ ys) i j a b = absurd a
same_operands classes m word (operand.Word x ∷ operand.Number n ∷ ys) i j a b = absurd a
same_operands classes m word (operand.Text text ∷ x ∷ xs) i j a b = absurd a

pub same_line : (classes : List PlainClassText) (m : PlainMethodText) (l : PlainLineText) (i j : Instr) → LinksLine classes m l i → LinksLine classes m l j → i ≡ j
same_line classes m l i j a b = same_operands classes m l.word l.operands i j a b
