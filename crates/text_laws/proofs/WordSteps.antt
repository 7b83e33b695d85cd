-- Steps of reading a line's words: what was found, or what is wrong.
use Rattle.std.proofs.Common.{◌≡◌, ℕ, ◌-◌, Bool, true, false, ◌&&◌, List, [], ◌∷◌, Option, Some, None, Result, Ok, Err, length, take, drop, refl, ap, sym, ◌∙◌, subst, cond, nat_eq, position, ℤ, inl, inr, ◌⊎◌}
use Rattle.std.specs.Prelude.{Contains, slice_get, int_le}
use Rattle.std.specs.List.{list_any, list_all, filter}
use Rattle.vm_model.specs.Failures.{◌>>=◌}
use Rattle.jasmin_lines.specs.declared.fault.ReadKind.{ReadKind}
use Rattle.jasmin_lines.specs.declared.fault.ReadKind.TheVariants.{BadOperand, BadName}
use Rattle.jasmin_lines.specs.declared.lexeme.Lexeme.{Lexeme}
use Rattle.jasmin_lines.specs.declared.lexeme.Lexeme.TheVariants as lexeme
use Rattle.jasmin_lines.specs.Words.{none, one, two, word_of, in_range, number_of, is_word, named, last_slash, is_member_at, is_member, split_at, described, flags_of}
use Rattle.jasmin_lines.specs.Directives.{with_last, split_last}
use Rattle.text_laws.specs.WordRules.{AreFlags, AreKept, HasFlags, IsFrom}
use Rattle.text_laws.proofs.FaultTests.{any-found, any-there}
use Rattle.text_laws.proofs.Successes.{is-word, same-bytes}
use Rattle.text_laws.proofs.Tests.{and-first, and-second}

-- ---- judging what was read: with good names, with others, or with wrong operands

abbrev pub JudgedSo : {A : Type 0} → (A → Bool → Type 0) → Result A ReadKind → Type 0
JudgedSo P (Ok x) = P x true
JudgedSo {A = A} P (Err kind) = (kind ≡ BadOperand) ⊎ ((kind ≡ BadName) × ((x : A) × P x false))

abbrev pub Lacks : {A : Type 0} → Result A ReadKind → Type 0
Lacks (Ok x) = Unit {0}
Lacks (Err kind) = kind ≡ BadOperand

pub passes : {A B : Type 0} (P : B → Bool → Type 0) (r : Result A ReadKind) (g : A → Result B ReadKind) → Lacks r → ((x : A) → r ≡ Ok x → JudgedSo P (g x)) → JudgedSo P (r >>= g)
passes P (Ok x) g l h = h x refl
passes P (Err kind) g l h = inl l

pub names : {B : Type 0} (P : B → Bool → Type 0) (good : Bool) (bytes : List ℕ) (g : List ℕ → Result B ReadKind) → (good ≡ true → JudgedSo P (g bytes)) → (good ≡ false → (x : B) × P x false) → JudgedSo P (named good bytes >>= g)
names P true bytes g h k = h refl
names P false bytes g h k = inr (refl, k refl)

pub name-word : {B : Type 0} (P : B → Bool → Type 0) (is_good : List ℕ → Bool) (w : Lexeme) (g : List ℕ → Result B ReadKind) → ((bytes : List ℕ) → w ≡ lexeme.Word bytes → is_good bytes ≡ true → JudgedSo P (g bytes)) → ((bytes : List ℕ) → w ≡ lexeme.Word bytes → is_good bytes ≡ false → (x : B) × P x false) → JudgedSo P ((word_of w >>= λ bytes. named (is_good bytes) bytes) >>= g)
name-word P is_good (lexeme.Word bytes) g h k = names P (is_good bytes) bytes g (h bytes refl) (k bytes refl)
name-word P is_good (lexeme.Number n) g h k = inl refl
name-word P is_good (lexeme.Text text) g h k = inl refl

-- ---- the answer to words that fit

-- this where the names are good, and else a bad name
abbrev pub AnswersSo : {A : Type 0} → A → Bool → Result A ReadKind → Type 0
AnswersSo x true (Ok y) = y ≡ x
AnswersSo x true (Err kind) = ⊥
AnswersSo x false (Ok y) = ⊥
AnswersSo x false (Err kind) = kind ≡ BadName

pub known : {A B : Type 0} (y : B) (good : Bool) (r : Result A ReadKind) (g : A → Result B ReadKind) (x : A) → r ≡ Ok x → AnswersSo y good (g x) → AnswersSo y good (r >>= g)
known {A = A} y good r g x e h = subst (λ (s : Result A ReadKind). AnswersSo y good (s >>= g)) (sym e) h

pub last-name : {A : Type 0} (good : Bool) (bytes : List ℕ) (f : List ℕ → A) → AnswersSo (f bytes) good (named good bytes >>= λ name. Ok (f name))
last-name true bytes f = refl
last-name false bytes f = refl

pub more-names : {A : Type 0} (y : A) (good more : Bool) (bytes : List ℕ) (g : List ℕ → Result A ReadKind) → AnswersSo y more (g bytes) → AnswersSo y (good && more) (named good bytes >>= g)
more-names y true more bytes g h = h
more-names y false more bytes g h = refl

-- ---- what lacks nothing but operands

pub none-lacks : (words : List Lexeme) → Lacks (none words)
none-lacks [] = tt
none-lacks (w ∷ ws) = refl

pub one-lacks : (words : List Lexeme) → Lacks (one words)
one-lacks [] = refl
one-lacks (a ∷ []) = tt
one-lacks (a ∷ b ∷ ws) = refl

pub two-lacks : (words : List Lexeme) → Lacks (two words)
two-lacks [] = refl
two-lacks (a ∷ []) = refl
two-lacks (a ∷ b ∷ []) = tt
two-lacks (a ∷ b ∷ c ∷ ws) = refl

pub word-lacks : (w : Lexeme) → Lacks (word_of w)
word-lacks (lexeme.Word bytes) = tt
word-lacks (lexeme.Number n) = refl
word-lacks (lexeme.Text text) = refl

either-lacks : {A : Type 0} (c : Bool) (x : A) → Lacks (cond {A = Result A ReadKind} c (Ok x) (Err BadOperand))
either-lacks true x = tt
either-lacks false x = refl

pub number-lacks : (low high : ℤ) (w : Lexeme) → Lacks (number_of low high w)
number-lacks low high (lexeme.Word bytes) = refl
number-lacks low high (lexeme.Number n) = either-lacks (int_le low n && int_le n high) n
number-lacks low high (lexeme.Text text) = refl

last-lacks : (front : List Lexeme) (o : Option Lexeme) → Lacks (with_last front o)
last-lacks front None = refl
last-lacks front (Some w) = tt

pub split-lacks : (words : List Lexeme) → Lacks (split_last words)
split-lacks words = last-lacks (take (length words - 1) words) (slice_get words (length words - 1))

pub flags-lack : (kept : List (List ℕ)) (words : List Lexeme) → Lacks (flags_of kept words)
flags-lack kept words = either-lacks (list_all (λ word. list_any (λ flag. is_word flag word) kept) words) _

described-by : (bytes : List ℕ) (o : Option ℕ) → Lacks (split_at bytes o)
described-by bytes None = refl
described-by bytes (Some n) = either-lacks (list_any (λ b. nat_eq b 41) (drop n bytes)) _

pub described-lacks : (bytes : List ℕ) → Lacks (described bytes)
described-lacks bytes = described-by bytes (position (λ b. nat_eq b 40) bytes)

member-by : (is_good : List ℕ → Bool) (bytes : List ℕ) (o : Option ℕ) → Lacks (is_member_at is_good bytes o)
member-by is_good bytes None = refl
member-by is_good bytes (Some n) = tt

pub member-lacks : (is_good : List ℕ → Bool) (bytes : List ℕ) → Lacks (is_member is_good bytes)
member-lacks is_good bytes = member-by is_good bytes (last_slash bytes)

-- ---- numbers

pub from-range : (low high : ℤ) (n : ℤ) → in_range low high n ≡ Ok n → IsFrom low high n
from-range low high n e = by_test (int_le low n && int_le n high) refl e
  where
    by_test : (c : Bool) → (int_le low n && int_le n high) ≡ c → cond {A = Result ℤ ReadKind} c (Ok n) (Err BadOperand) ≡ Ok n → IsFrom low high n
    by_test true h e' = (and-first (int_le low n) (int_le n high) h, and-second (int_le low n) (int_le n high) h)
    by_test false h e' = absurd (cc)

pub in-range : (low high : ℤ) (n : ℤ) → IsFrom low high n → in_range low high n ≡ Ok n
in-range low high n h = rw (h.0, h.1) refl

-- ---- flags

abbrev IsFlag : List (List ℕ) → Lexeme → Type 0
IsFlag kept w = (flag : List ℕ) × Contains kept flag × (w ≡ lexeme.Word flag)

all-flags : (kept : List (List ℕ)) (words : List Lexeme) → list_all (λ word. list_any (λ flag. is_word flag word) kept) words ≡ true → AreFlags kept words
all-flags kept [] h = tt
all-flags kept (w ∷ ws) h =
    let f = any-found (λ (flag : List ℕ). is_word flag w) kept (and-first (list_any (λ flag. is_word flag w) kept) (list_all (λ word. list_any (λ flag. is_word flag word) kept) ws) h) in
    ((f.0, f.1, is-word f.0 w f.2), all-flags kept ws (and-second (list_any (λ flag. is_word flag w) kept) (list_all (λ word. list_any (λ flag. is_word flag word) kept) ws) h))

flags-test : (kept : List (List ℕ)) (words : List Lexeme) → AreFlags kept words → list_all (λ word. list_any (λ flag. is_word flag word) kept) words ≡ true
flags-test kept [] h = refl
flags-test kept (w ∷ ws) h =
    let flag : List ℕ = h.0.0 in
    let is_so : is_word flag w ≡ true = ap (is_word flag) h.0.2 ∙ same-bytes flag in
    let first : list_any (λ x. is_word x w) kept ≡ true = any-there (λ (x : List ℕ). is_word x w) kept flag h.0.1 is_so in
    rw first (flags-test kept ws h.1)

abbrev pub among : List (List ℕ) → List Lexeme → List (List ℕ)
among kept words = filter (λ flag. list_any (is_word flag) words) kept

-- a flag that is said
word-there : (words : List Lexeme) (flag : List ℕ) → list_any (is_word flag) words ≡ true → Contains words (lexeme.Word flag)
word-there words flag e =
    let f = any-found (is_word flag) words e in
    subst (Contains words) (is-word flag f.0 f.2) f.1

there-word : (words : List Lexeme) (flag : List ℕ) → Contains words (lexeme.Word flag) → list_any (is_word flag) words ≡ true
there-word words flag c = any-there (is_word flag) words (lexeme.Word flag) c (same-bytes flag)

no-word : (words : List Lexeme) (flag : List ℕ) → (Contains words (lexeme.Word flag) → ⊥) → list_any (is_word flag) words ≡ false
no-word words flag n = by (list_any (is_word flag) words) refl
  where
    by : (c : Bool) → list_any (is_word flag) words ≡ c → list_any (is_word flag) words ≡ false
    by true e = absurd (n (word-there words flag e))
    by false e = e

kept-so : (words : List Lexeme) (others : List (List ℕ)) → AreKept words others (among others words)
unfolding AreKept
kept-so words [] = refl
kept-so words (flag ∷ others) = by (list_any (is_word flag) words) refl (kept-so words others)
  where
    by : (c : Bool) → list_any (is_word flag) words ≡ c → AreKept words others (among others words) → AreKept words (flag ∷ others) (cond c (flag ∷ among others words) (among others words))
    by true e more = inl (word-there words flag e, among others words, refl, more)
    by false e more = inr ((λ (c : Contains words (lexeme.Word flag)). let t : list_any (is_word flag) words ≡ true = there-word words flag c in absurd (cc)), more)

kept-is : (words : List Lexeme) (others kept : List (List ℕ)) → AreKept words others kept → kept ≡ among others words
unfolding AreKept
kept-is words [] kept h = h
kept-is words (flag ∷ others) kept (inl h) =
    let rest : List (List ℕ) = h.1 in
    let first : cond (list_any (is_word flag) words) (flag ∷ among others words) (among others words) ≡ flag ∷ among others words = rw (there-word words flag h.0) refl in
    h.2 ∙ ap (λ (x : List (List ℕ)). flag ∷ x) (kept-is words others rest h.3) ∙ sym first
kept-is words (flag ∷ others) kept (inr h) =
    let first : cond (list_any (is_word flag) words) (flag ∷ among others words) (among others words) ≡ among others words = rw (no-word words flag h.0) refl in
    kept-is words others kept h.1 ∙ sym first

pub flags-found : (kept : List (List ℕ)) (words : List Lexeme) (flags : List (List ℕ)) → flags_of kept words ≡ Ok flags → HasFlags kept words flags
flags-found kept words flags e = by_test (list_all (λ word. list_any (λ flag. is_word flag word) kept) words) refl e
  where
    by_test : (c : Bool) → list_all (λ word. list_any (λ flag. is_word flag word) kept) words ≡ c → cond {A = Result (List (List ℕ)) ReadKind} c (Ok (among kept words)) (Err BadOperand) ≡ Ok flags → HasFlags kept words flags
    by_test true h e' = let same : among kept words ≡ flags = cc in (all-flags kept words h, subst (AreKept words kept) same (kept-so words kept))
    by_test false h e' = absurd (cc)

pub flags-read : (known : List (List ℕ)) (words : List Lexeme) (kept : List (List ℕ)) → HasFlags known words kept → flags_of known words ≡ Ok kept
flags-read known words kept h = let are : flags_of known words ≡ Ok (among known words) = rw (flags-test known words h.0) refl in are ∙ ap Ok (sym (kept-is words known kept h.1))
