-- Which lines the linker finds out of the profile, by what their mnemonics ask for.
use Rattle.std.proofs.Common.{◌≡◌, ℕ, zero, suc, ◌+◌, ◌≤◌, Bool, true, false, List, [], ◌∷◌, Option, Some, None, Result, Ok, Err, refl, sym, ap, ◌∙◌, subst, arith}
use Rattle.std.specs.Prelude.{◌↔◌, not, ◌&&◌, ◌||◌, if◌then◌else◌, nat_lt, length, slice_get, codes, bytes_eq, is_some, ℤ}
use Rattle.std.specs.List.{list_all}
use Rattle.std.proofs.lemmas.Bool.{false≢true}
use Rattle.std.proofs.lemmas.Slice.Eq.{bytes_eq-Decides}
use Rattle.vm_model.specs.declared.instr.Instr.{Instr}
use Rattle.vm_model.specs.declared.instr.Instr.TheVariants as instr
use Rattle.vm_model.specs.Failures.{◌>>=◌, or_fault}
use Rattle.built_in_classes.specs.Classes.{BuiltInClass, built_in_classes, built_in_number, number_from, constructors_in, is_made, has_objects}
use Rattle.jasmin_lines.specs.declared.class_text.Operand.{Operand}
use Rattle.jasmin_lines.specs.declared.class_text.Operand.TheVariants as operand
use Rattle.jasmin_lines.specs.declared.mnemonic.Access.{Access}
use Rattle.jasmin_lines.specs.declared.mnemonic.Access.TheVariants as access
use Rattle.jasmin_lines.specs.declared.mnemonic.Mnemonic.{Mnemonic}
use Rattle.jasmin_lines.specs.declared.mnemonic.Mnemonic.TheVariants as mnemonic
use Rattle.jasmin_lines.specs.Mnemonics.{table, mnemonic_of, out_of_profile}
use Rattle.jasmin_lines.specs.Instructions.{access_word}
use Rattle.name_resolver.specs.declared.fault.LinkKind.{LinkKind}
use Rattle.name_resolver.specs.declared.fault.LinkKind.TheVariants as kinds
use Rattle.name_resolver.specs.declared.names.Names.{Names}
use Rattle.name_resolver.specs.Index.{Rows, value_of}
use Rattle.name_resolver.specs.Descriptors.{or_user, class_of, type_of, method_signature, in_signature, is_unknown}
use Rattle.name_resolver.specs.Calls.{known, target, class_part, name_part, desc_part, target_of, call_by, call, is_out, class_or, field_class, field_by, field}
use Rattle.class_linker.specs.Linked as linker
use Rattle.jasmin_lines.specs.Tables.{row_of}
use Rattle.class_linker.specs.Linked.{jump_to, texted, made, jumped, is_call, linked_by}
use Rattle.shape_laws.proofs.Tests.{both}
use Rattle.linking_laws.specs.Declared.{is_among}
use Rattle.linking_laws.specs.Instructions.{said_of, jumps}
use Rattle.linking_laws.specs.Outside.{without_objects, is_out_of_profile, IsKnownText}
use Rattle.linking_laws.proofs.Numbered.{none_some, some_same}
use Rattle.linking_laws.proofs.LinkedCode.{jumps_said}

-- ---- other answers

abbrev done : {A : Type 0} → A → Result A LinkKind
done x = Ok x

abbrev failed : {A : Type 0} → LinkKind → Result A LinkKind
failed kind = Err kind

-- an answer that isn't this fault
abbrev Inside : {A : Type 0} → Result A LinkKind → Type 0
Inside r = r ≡ failed kinds.OutOfProfile → ⊥

ok_inside : {A : Type 0} (x : A) → Inside (done x)
ok_inside x e = cc

abbrev is_this : LinkKind → Bool
is_this kinds.OutOfProfile = true
is_this _ = false

kind_same : {A : Type 0} (k j : LinkKind) → failed {A = A} k ≡ failed j → k ≡ j
kind_same k j e = cc

-- a fault of another kind
other_inside : {A : Type 0} (kind : LinkKind) → is_this kind ≡ false → Inside (failed {A = A} kind)
other_inside kind other e = false≢true (sym other ∙ ap is_this (kind_same kind kinds.OutOfProfile e))

found_inside : {A : Type 0} (kind : LinkKind) (o : Option A) → is_this kind ≡ false → Inside (or_fault kind o)
found_inside kind (Some x) other e = ok_inside x e
found_inside kind None other e = other_inside kind other e

then_inside : {A B : Type 0} (r : Result A LinkKind) (f : A → Result B LinkKind) → Inside r → ((x : A) → Inside (f x)) → Inside (r >>= f)
then_inside (Ok x) f h k e = k x e
then_inside (Err kind) f h k e = h (ap (λ (j : LinkKind). failed j) (kind_same kind kinds.OutOfProfile e))

known_inside : (b : Bool) → Inside (known b)
known_inside true e = other_inside kinds.UnknownClass refl e
known_inside false e = ok_inside tt e

-- ---- what is said of a line

-- a line is out of the profile exactly where its words say so
abbrev pub Says : Names → ℕ → Rows → Rows → List ℕ → List Operand → Type 0
Says names run texts labels word operands = (linked_by names run texts labels word operands ≡ failed kinds.OutOfProfile) ↔ (is_out_of_profile word operands ≡ true)

-- neither is so
inside_both : (names : Names) (run : ℕ) (texts labels : Rows) (word : List ℕ) (operands : List Operand) → Inside (linked_by names run texts labels word operands) → is_out_of_profile word operands ≡ false → Says names run texts labels word operands
inside_both names run texts labels word operands h f = (λ e. absurd (h e), λ t. absurd (false≢true (sym f ∙ t)))

-- ---- the table of mnemonics

abbrev outside_words : List (List ℕ)
outside_words = codes "newarray" ∷ out_of_profile

-- what each row keeps
abbrev right : ℕ → List ℕ → Mnemonic → Bool
right to w mnemonic.Alone = is_some (row_of w linker.alone) && not (is_among w outside_words)
right to w mnemonic.Jump = is_some (said_of w (jumps to)) && not (bytes_eq w (codes "new") || (bytes_eq w (codes "newarray") || is_call w))
right to w mnemonic.Call = is_call w && not (bytes_eq w (codes "new") || bytes_eq w (codes "newarray"))
right to w mnemonic.Class = bytes_eq w (codes "new")
right to w mnemonic.Array = bytes_eq w (codes "newarray")
right to w mnemonic.Outside = not (is_some (row_of w linker.alone)) && is_among w outside_words
right to w _ = true

table_right : (to : ℕ) → list_all (λ row. right to row.0 row.1) table ≡ true
unfolding table linker.alone jumps
table_right to = refl

-- the row that is found
row_right : (P : List ℕ → Mnemonic → Bool) (word : List ℕ) (rows : List (List ℕ × Mnemonic)) (m : Mnemonic) → list_all (λ row. P row.0 row.1) rows ≡ true → row_of word rows ≡ Some m → P word m ≡ true
row_right P word [] m all e = absurd (none_some m e)
row_right P word (row ∷ rows) m all e = by (bytes_eq row.0 word) refl e (row_right P word rows m parts.1)
  where
    parts : (P row.0 row.1 ≡ true) × (list_all (λ other. P other.0 other.1) rows ≡ true)
    parts = both (P row.0 row.1) (list_all (λ other. P other.0 other.1) rows) all

    by : (b : Bool) → bytes_eq row.0 word ≡ b → (if b then Some row.1 else row_of word rows) ≡ Some m → (row_of word rows ≡ Some m → P word m ≡ true) → P word m ≡ true
    by true is h more = subst (λ (k : Mnemonic). P word k ≡ true) (some_same row.1 m h) (subst (λ (w : List ℕ). P w row.1 ≡ true) ((bytes_eq-Decides row.0 word).0 is) parts.0)
    by false is h more = more h

mnemonic_right : (to : ℕ) (word : List ℕ) (m : Mnemonic) → mnemonic_of word ≡ Some m → right to word m ≡ true
unfolding mnemonic_of
mnemonic_right to word m e = row_right (right to) word table m (table_right to) e

-- tests
not_true : (b : Bool) → not b ≡ true → b ≡ false
not_true true e = absurd (false≢true e)
not_true false e = refl

neither : (a b : Bool) → not (a || b) ≡ true → (a ≡ false) × (b ≡ false)
neither true b e = absurd (false≢true e)
neither false b e = (refl, not_true b e)

-- ---- lines without operands

-- what is found in a table
found_inside_some : (kind : LinkKind) (o : Option Instr) → is_some o ≡ true → Inside (or_fault kind o)
found_inside_some kind (Some i) h e = ok_inside i e
found_inside_some kind None h e = false≢true h

-- and what isn't
found_none : (o : Option Instr) → not (is_some o) ≡ true → or_fault kinds.OutOfProfile o ≡ failed kinds.OutOfProfile
found_none (Some i) h = absurd (false≢true h)
found_none None h = refl

pub alone_says : (names : Names) (run : ℕ) (texts labels : Rows) (word : List ℕ) → mnemonic_of word ≡ Some mnemonic.Alone → Says names run texts labels word []
alone_says names run texts labels word e =
    let t : (is_some (row_of word linker.alone) ≡ true) × (not (is_among word outside_words) ≡ true) = both (is_some (row_of word linker.alone)) (not (is_among word outside_words)) (mnemonic_right 0 word mnemonic.Alone e) in
    inside_both names run texts labels word [] (found_inside_some kinds.OutOfProfile (row_of word linker.alone) t.0) (not_true (is_among word outside_words) t.1)

pub outside_says : (names : Names) (run : ℕ) (texts labels : Rows) (word : List ℕ) → mnemonic_of word ≡ Some mnemonic.Outside → Says names run texts labels word []
outside_says names run texts labels word e =
    let t : (not (is_some (row_of word linker.alone)) ≡ true) × (is_among word outside_words ≡ true) = both (not (is_some (row_of word linker.alone))) (is_among word outside_words) (mnemonic_right 0 word mnemonic.Outside e) in
    (λ h. t.1, λ h. found_none (row_of word linker.alone) t.0)

-- ---- numbers and texts

pub push_says : (names : Names) (run : ℕ) (texts labels : Rows) (n : ℤ) → Says names run texts labels (codes "ldc") (operand.Number n ∷ [])
push_says names run texts labels n = inside_both names run texts labels (codes "ldc") (operand.Number n ∷ []) (λ e. ok_inside _ e) refl

pub local_says : (names : Names) (run : ℕ) (texts labels : Rows) (a : Access) (n : ℤ) → Says names run texts labels (access_word a) (operand.Number n ∷ [])
local_says names run texts labels access.Iload n = inside_both names run texts labels (codes "iload") (operand.Number n ∷ []) (λ e. ok_inside _ e) refl
local_says names run texts labels access.Istore n = inside_both names run texts labels (codes "istore") (operand.Number n ∷ []) (λ e. ok_inside _ e) refl
local_says names run texts labels access.Aload n = inside_both names run texts labels (codes "aload") (operand.Number n ∷ []) (λ e. ok_inside _ e) refl
local_says names run texts labels access.Astore n = inside_both names run texts labels (codes "astore") (operand.Number n ∷ []) (λ e. ok_inside _ e) refl

pub increment_says : (names : Names) (run : ℕ) (texts labels : Rows) (word : List ℕ) (n by : ℤ) → Says names run texts labels word (operand.Number n ∷ operand.Number by ∷ [])
increment_says names run texts labels word n by = inside_both names run texts labels word (operand.Number n ∷ operand.Number by ∷ []) (λ e. ok_inside _ e) refl

pub text_says : (names : Names) (run : ℕ) (texts labels : Rows) (word text : List ℕ) → IsKnownText texts (operand.Text text ∷ []) → Says names run texts labels word (operand.Text text ∷ [])
unfolding texted
text_says names run texts labels word text there = inside_both names run texts labels word (operand.Text text ∷ []) (by (nat_lt 200 (length text)) (value_of text texts) there) refl
  where
    by : (b : Bool) (o : Option ℕ) → is_some o ≡ true → Inside (if b then failed kinds.TooMany else (or_fault kinds.OutOfProfile o >>= λ n. done (instr.PushText n)))
    by true o h e = other_inside kinds.TooMany refl e
    by false (Some n) h e = ok_inside (instr.PushText n) e
    by false None h e = false≢true h

-- ---- one word

-- a word that is none of two, or a call
worded_inside : (names : Names) (run : ℕ) (texts labels : Rows) (word x : List ℕ) → bytes_eq word (codes "new") ≡ false → bytes_eq word (codes "newarray") ≡ false → Inside (if is_call word then call names run word x else jumped labels word x) → is_out_of_profile word (operand.Word x ∷ []) ≡ false
    → Says names run texts labels word (operand.Word x ∷ [])
worded_inside names run texts labels word x other also h f =
    inside_both names run texts labels word (operand.Word x ∷ []) (λ e. h (sym (chosen (bytes_eq word (codes "new")) (bytes_eq word (codes "newarray")) other also) ∙ e)) f
  where
    chosen : (a b : Bool) → a ≡ false → b ≡ false → (if a then made names x else if b then done instr.NewArray else if is_call word then call names run word x else jumped labels word x) ≡ (if is_call word then call names run word x else jumped labels word x)
    chosen true b p q = absurd (false≢true (sym p))
    chosen false true p q = absurd (false≢true (sym q))
    chosen false false p q = refl

-- `new` alone makes an object
not_new : (word x : List ℕ) → bytes_eq word (codes "new") ≡ false → is_out_of_profile word (operand.Word x ∷ []) ≡ false
not_new word x other = ap (λ (b : Bool). b && is_among x without_objects) other

call_inside : (names : Names) (run : ℕ) (word x : List ℕ) → Inside (call names run word x)
unfolding call target_of
call_inside names run word x =
    then_inside (target_of names x) (λ t. or_fault kinds.UnknownMethod (call_by names run word t))
    (then_inside (or_fault kinds.UnknownClass (class_of names.classes (class_part x))) (λ n. known (in_signature is_unknown (method_signature names.classes (name_part x) (desc_part x))) >>= λ checked. done (target names x (class_part x) (name_part x) (desc_part x) n))
    (found_inside kinds.UnknownClass (class_of names.classes (class_part x)) refl)
    (λ n. then_inside (known (in_signature is_unknown (method_signature names.classes (name_part x) (desc_part x)))) (λ checked. done (target names x (class_part x) (name_part x) (desc_part x) n))
    (known_inside (in_signature is_unknown (method_signature names.classes (name_part x) (desc_part x)))) (λ checked. ok_inside (target names x (class_part x) (name_part x) (desc_part x) n))))
    (λ t. found_inside kinds.UnknownMethod (call_by names run word t) refl)

pub call_says : (names : Names) (run : ℕ) (texts labels : Rows) (word x : List ℕ) → mnemonic_of word ≡ Some mnemonic.Call → Says names run texts labels word (operand.Word x ∷ [])
call_says names run texts labels word x e =
    let t : (is_call word ≡ true) × (not (bytes_eq word (codes "new") || bytes_eq word (codes "newarray")) ≡ true) = both (is_call word) (not (bytes_eq word (codes "new") || bytes_eq word (codes "newarray"))) (mnemonic_right 0 word mnemonic.Call e) in
    let other : (bytes_eq word (codes "new") ≡ false) × (bytes_eq word (codes "newarray") ≡ false) = neither (bytes_eq word (codes "new")) (bytes_eq word (codes "newarray")) t.1 in
    worded_inside names run texts labels word x other.0 other.1 (by (is_call word) t.0) (not_new word x other.0)
  where
    by : (b : Bool) → b ≡ true → Inside (if b then call names run word x else jumped labels word x)
    by true h = call_inside names run word x
    by false h = absurd (false≢true h)

jumped_inside : (labels : Rows) (word x : List ℕ) → ((to : ℕ) → is_some (said_of word (jumps to)) ≡ true) → Inside (jumped labels word x)
unfolding jumped
jumped_inside labels word x h =
    then_inside (or_fault kinds.UnknownLabel (value_of x labels)) (λ to. or_fault kinds.OutOfProfile (jump_to word to)) (found_inside kinds.UnknownLabel (value_of x labels) refl)
    (λ to. found_inside_some kinds.OutOfProfile (jump_to word to) (ap is_some (jumps_said word to) ∙ h to))

pub jump_says : (names : Names) (run : ℕ) (texts labels : Rows) (word x : List ℕ) → mnemonic_of word ≡ Some mnemonic.Jump → Says names run texts labels word (operand.Word x ∷ [])
jump_says names run texts labels word x e = worded_inside names run texts labels word x first.0 rest.0 (by (is_call word) rest.1) (not_new word x first.0)
  where
    at : (to : ℕ) → (is_some (said_of word (jumps to)) ≡ true) × (not (bytes_eq word (codes "new") || (bytes_eq word (codes "newarray") || is_call word)) ≡ true)
    at to = both (is_some (said_of word (jumps to))) (not (bytes_eq word (codes "new") || (bytes_eq word (codes "newarray") || is_call word))) (mnemonic_right to word mnemonic.Jump e)

    first : (bytes_eq word (codes "new") ≡ false) × ((bytes_eq word (codes "newarray") || is_call word) ≡ false)
    first = neither (bytes_eq word (codes "new")) (bytes_eq word (codes "newarray") || is_call word) (at 0).1

    rest : (bytes_eq word (codes "newarray") ≡ false) × (is_call word ≡ false)
    rest = neither (bytes_eq word (codes "newarray")) (is_call word) (ap not first.1)

    by : (b : Bool) → b ≡ false → Inside (if b then call names run word x else jumped labels word x)
    by true h = absurd (false≢true (sym h))
    by false h = jumped_inside labels word x (λ to. (at to).0)

-- ---- arrays

pub ints_say : (names : Names) (run : ℕ) (texts labels : Rows) (word : List ℕ) → mnemonic_of word ≡ Some mnemonic.Array → Says names run texts labels word (operand.Word (codes "int") ∷ [])
ints_say names run texts labels word e =
    subst (λ (w : List ℕ). Says names run texts labels w (operand.Word (codes "int") ∷ [])) (sym ((bytes_eq-Decides word (codes "newarray")).0 (mnemonic_right 0 word mnemonic.Array e)))
    (inside_both names run texts labels (codes "newarray") (operand.Word (codes "int") ∷ []) (λ h. ok_inside instr.NewArray h) refl)

pub others_say : (names : Names) (run : ℕ) (texts labels : Rows) (word : List ℕ) → mnemonic_of word ≡ Some mnemonic.Array → Says names run texts labels word []
unfolding linker.alone
others_say names run texts labels word e =
    subst (λ (w : List ℕ). Says names run texts labels w []) (sym ((bytes_eq-Decides word (codes "newarray")).0 (mnemonic_right 0 word mnemonic.Array e))) (λ h. refl, λ h. refl)

-- ---- fields

pub field_says : (names : Names) (run : ℕ) (texts labels : Rows) (word x desc : List ℕ) → Says names run texts labels word (operand.Word x ∷ operand.Word desc ∷ [])
unfolding field
field_says names run texts labels word x desc =
    inside_both names run texts labels word (operand.Word x ∷ operand.Word desc ∷ [])
    (then_inside (field_class names x desc) (λ class. known (is_unknown (type_of names.classes desc)) >>= λ checked. or_fault kinds.UnknownField (field_by names word x desc class)) (class_inside (is_out x desc) (class_of names.classes _))
    (λ class. then_inside (known (is_unknown (type_of names.classes desc))) (λ checked. or_fault kinds.UnknownField (field_by names word x desc class)) (known_inside (is_unknown (type_of names.classes desc))) (λ checked. found_inside kinds.UnknownField (field_by names word x desc class) refl)))
    refl
  where
    class_inside : (b : Bool) (o : Option ℕ) → Inside (class_or b o)
    class_inside b (Some n) e = ok_inside n e
    class_inside true None e = ok_inside 0 e
    class_inside false None e = other_inside kinds.UnknownClass refl e

-- ---- new

-- one of two is so
abbrev differ : Bool → Bool → Bool
differ true b = not b
differ false b = b

-- each class of the table has objects, or is one of those without
abbrev all_differ : ℕ → List BuiltInClass → Bool
all_differ n [] = true
all_differ n (c ∷ cs) = differ (has_objects n) (is_among c.name without_objects) && all_differ (n + 1) cs

table_differs : all_differ 0 built_in_classes ≡ true
table_differs = refl

number_differs : (k n : ℕ) (cs : List BuiltInClass) (x : List ℕ) → all_differ k cs ≡ true → number_from k cs x ≡ Some n → differ (has_objects n) (is_among x without_objects) ≡ true
number_differs k n [] x all e = absurd (none_some n e)
number_differs k n (c ∷ cs) x all e = by (bytes_eq x c.name) refl e (number_differs (k + 1) n cs x parts.1)
  where
    parts : (differ (has_objects k) (is_among c.name without_objects) ≡ true) × (all_differ (k + 1) cs ≡ true)
    parts = both (differ (has_objects k) (is_among c.name without_objects)) (all_differ (k + 1) cs) all

    by : (b : Bool) → bytes_eq x c.name ≡ b → (if b then Some k else number_from (k + 1) cs x) ≡ Some n → (number_from (k + 1) cs x ≡ Some n → differ (has_objects n) (is_among x without_objects) ≡ true)
        → differ (has_objects n) (is_among x without_objects) ≡ true
    by true is h more = subst (λ (j : ℕ). differ (has_objects j) (is_among x without_objects) ≡ true) (some_same k n h) (subst (λ (w : List ℕ). differ (has_objects k) (is_among w without_objects) ≡ true) (sym ((bytes_eq-Decides x c.name).0 is)) parts.0)
    by false is h more = more h

-- a class past the table has objects
past : {A : Type 0} (xs : List A) (n : ℕ) → length xs ≤ n → slice_get xs n ≡ None
past [] n h = refl
past (x ∷ xs) zero h = absurd (omega (arith, h))
past (x ∷ xs) (suc n) h = past xs n (omega (arith, h))

user_objects : (n : ℕ) → 32 ≤ n → has_objects n ≡ true
user_objects n h = ap is_made (past (constructors_in built_in_classes) n (omega (arith, h)))

-- those without objects are built in
among_all : (P : List ℕ → Bool) (x : List ℕ) (ws : List (List ℕ)) → list_all P ws ≡ true → is_among x ws ≡ true → P x ≡ true
among_all P x [] all e = absurd (false≢true e)
among_all P x (w ∷ ws) all e = by (bytes_eq w x) refl e (among_all P x ws (both (P w) (list_all P ws) all).1)
  where
    by : (b : Bool) → bytes_eq w x ≡ b → (b || is_among x ws) ≡ true → (is_among x ws ≡ true → P x ≡ true) → P x ≡ true
    by true is h more = subst (λ (v : List ℕ). P v ≡ true) ((bytes_eq-Decides w x).0 is) (both (P w) (list_all P ws) all).0
    by false is h more = more h

all_built_in : list_all (λ w. is_some (built_in_number w)) without_objects ≡ true
unfolding built_in_number
all_built_in = refl

-- a number of a class of the text
abbrev pub AreUsers : Rows → Type 0
AreUsers rows = (key : List ℕ) (n : ℕ) → value_of key rows ≡ Some n → 32 ≤ n

class_differs : (rows : Rows) (x : List ℕ) (n : ℕ) → AreUsers rows → class_of rows x ≡ Some n → differ (has_objects n) (is_among x without_objects) ≡ true
unfolding built_in_number
class_differs rows x n users e = by (built_in_number x) refl e
  where
    none_among : built_in_number x ≡ None → is_among x without_objects ≡ false
    none_among is = decide (is_among x without_objects) refl
      where
        decide : (b : Bool) → is_among x without_objects ≡ b → b ≡ false
        decide false h = refl
        decide true h = absurd (false≢true (sym (ap is_some is) ∙ among_all (λ w. is_some (built_in_number w)) x without_objects all_built_in h))

    by : (o : Option ℕ) → built_in_number x ≡ o → or_user rows x o ≡ Some n → differ (has_objects n) (is_among x without_objects) ≡ true
    by (Some k) is h = number_differs 0 n built_in_classes x table_differs (is ∙ h)
    by None is h = ap (λ (b : Bool). differ b (is_among x without_objects)) (user_objects n (users x n h)) ∙ ap not (none_among is)

-- no class has no number and no objects
class_there : (rows : Rows) (x : List ℕ) → class_of rows x ≡ None → is_among x without_objects ≡ false
class_there rows x e = decide (is_among x without_objects) refl
  where
    number : (o : Option ℕ) → is_some o ≡ true → or_user rows x o ≡ None → ⊥
    number (Some k) h n = false≢true (ap is_some (sym n))
    number None h n = false≢true h

    decide : (b : Bool) → is_among x without_objects ≡ b → b ≡ false
    decide false h = refl
    decide true h = absurd (number (built_in_number x) (among_all (λ w. is_some (built_in_number w)) x without_objects all_built_in h) e)

-- `new` of a class
made_says : (names : Names) (x : List ℕ) → AreUsers names.classes → (made names x ≡ failed kinds.OutOfProfile) ↔ (is_among x without_objects ≡ true)
unfolding made
made_says names x users = by (class_of names.classes x) refl
  where
    make : ℕ → Result Instr LinkKind
    make n = if has_objects n then Ok (instr.New n) else Err kinds.OutOfProfile

    chosen : (a b : Bool) (n : ℕ) → differ a b ≡ true → ((if a then done (instr.New n) else failed kinds.OutOfProfile) ≡ failed kinds.OutOfProfile) ↔ (b ≡ true)
    chosen true true n d = absurd (false≢true d)
    chosen true false n d = (λ e. absurd (ok_inside (instr.New n) e), λ t. absurd (false≢true t))
    chosen false true n d = (λ e. refl, λ t. refl)
    chosen false false n d = absurd (false≢true d)

    by : (o : Option ℕ) → class_of names.classes x ≡ o → ((or_fault kinds.UnknownClass o >>= make) ≡ failed kinds.OutOfProfile) ↔ (is_among x without_objects ≡ true)
    by (Some n) is = chosen (has_objects n) (is_among x without_objects) n (class_differs names.classes x n users is)
    by None is = (λ e. absurd (other_inside kinds.UnknownClass refl e), λ t. absurd (false≢true (sym (class_there names.classes x is) ∙ t)))

pub new_says : (names : Names) (run : ℕ) (texts labels : Rows) (word x : List ℕ) → AreUsers names.classes → mnemonic_of word ≡ Some mnemonic.Class → Says names run texts labels word (operand.Word x ∷ [])
new_says names run texts labels word x users e =
    subst (λ (w : List ℕ). Says names run texts labels w (operand.Word x ∷ [])) (sym ((bytes_eq-Decides word (codes "new")).0 (mnemonic_right 0 word mnemonic.Class e))) (made_says names x users)
