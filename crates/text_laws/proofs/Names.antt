-- Words that can be spelled: those of the grammar, and names.
use Rattle.std.proofs.Common.{◌≡◌, ◌≢◌, ℕ, Bool, true, false, not, ◌&&◌, ◌||◌, nat_eq, List, [], ◌∷◌, ◌++◌, refl, sym, ◌∙◌, subst, arith}
use Rattle.std.specs.Prelude.{codes, bytes_eq}
use Rattle.std.specs.List.{list_any, list_all, AllByRecursion}
use Rattle.std.proofs.lemmas.Bool.Decides.{nat_tests}
use Rattle.std.proofs.lemmas.Slice.Eq.{bytes_eq-Decides}
use Rattle.jasmin_text.specs.Numbers.{is_number}
use Rattle.jasmin_text.specs.Pieces.{is_white, is_high}
use Rattle.jasmin_lines.specs.declared.lexeme.Lexeme.TheVariants as lexeme
use Rattle.jasmin_lines.specs.Words.{is_name_byte, is_class_byte, is_filled, is_name, is_class_name, is_method_name}
use Rattle.text_laws.specs.Spelled.{IsSpellable, IsPlainWord, BeginsNoString, BeginsNoComment}
use Rattle.text_laws.specs.OfText.{IsFound}
use Rattle.text_laws.proofs.Tests.{and-first, and-second, not-true, either}
use Rattle.text_laws.proofs.Numbers.{kind-is}

-- ---- words of the grammar

abbrev pub begins_well : List ℕ → Bool
begins_well [] = false
begins_well (b ∷ rest) = not (nat_eq b 34) && not (nat_eq b 59)

abbrev pub is_good_word : List ℕ → Bool
is_good_word word = not (list_any is_white word) && (not (list_any is_high word) && (not (is_number word) && begins_well word))

not-same : (b n : ℕ) → not (nat_eq b n) ≡ true → b ≢ n
not-same b n h e = grind (arith, nat_tests)

no-string : (word : List ℕ) → begins_well word ≡ true → BeginsNoString word
no-string [] h = absurd (cc)
no-string (b ∷ rest) h = not-same b 34 (and-first (not (nat_eq b 34)) (not (nat_eq b 59)) h)

no-comment : (word : List ℕ) → begins_well word ≡ true → BeginsNoComment word
no-comment [] h = absurd (cc)
no-comment (b ∷ rest) h = not-same b 59 (and-second (not (nat_eq b 34)) (not (nat_eq b 59)) h)

pub good-word : (word : List ℕ) → is_good_word word ≡ true → IsSpellable (lexeme.Word word)
good-word word h =
    let dark : list_any is_white word ≡ false = not-true _ (and-first _ _ h) in
    let more : (not (list_any is_high word) && (not (is_number word) && begins_well word)) ≡ true = and-second (not (list_any is_white word)) _ h in
    let low : list_any is_high word ≡ false = not-true _ (and-first _ _ more) in
    let last : (not (is_number word) && begins_well word) ≡ true = and-second (not (list_any is_high word)) _ more in
    let unnumbered : is_number word ≡ false = not-true _ (and-first _ _ last) in
    let starts : begins_well word ≡ true = and-second (not (is_number word)) _ last in
    (record { dark = dark; kind = kind-is word low ∙ rw unnumbered refl; begins = no-string word starts }, no-comment word starts)

abbrev pub IsSpellableWord : List ℕ → Type 0
IsSpellableWord word = IsSpellable (lexeme.Word word)

pub good-words : (words : List (List ℕ)) → list_all is_good_word words ≡ true → AllByRecursion IsSpellableWord words
good-words [] h = tt
good-words (w ∷ ws) h = (good-word w (and-first (is_good_word w) (list_all is_good_word ws) h), good-words ws (and-second (is_good_word w) (list_all is_good_word ws) h))

-- ---- names

pub plain-found : (f : Bool) (word : List ℕ) → IsFound f (lexeme.Word word) → IsPlainWord word
plain-found true word h = h
plain-found false word h = h.0

-- the first byte is one of a class's name
abbrev pub BeginsClass : List ℕ → Type 0
BeginsClass [] = ⊥
BeginsClass (b ∷ rest) = is_class_byte b ≡ true

pub class-begins : (name : List ℕ) → is_class_name name ≡ true → BeginsClass name
class-begins [] h = absurd (cc)
class-begins (b ∷ rest) h = and-first (is_class_byte b) (list_all is_class_byte rest) (and-second (is_filled (b ∷ rest)) (list_all is_class_byte (b ∷ rest)) h)

or-left : (a b : Bool) → a ≡ true → (a || b) ≡ true
or-left a b e = rw e refl

pub name-begins : (name : List ℕ) → is_name name ≡ true → BeginsClass name
name-begins [] h = absurd (cc)
name-begins (b ∷ rest) h = or-left (is_name_byte b) (nat_eq b 47) (and-first (is_name_byte b) (list_all is_name_byte rest) (and-second (is_filled (b ∷ rest)) (list_all is_name_byte (b ∷ rest)) h))

class-byte : (b : ℕ) → is_class_byte b ≡ true → b ≢ 59
class-byte b h e = grind (arith, nat_tests)

pub begins-no-comment : (name : List ℕ) → BeginsClass name → BeginsNoComment name
begins-no-comment [] h = absurd h
begins-no-comment (b ∷ rest) h = class-byte b h

pub class-spellable : (f : Bool) (name : List ℕ) → IsFound f (lexeme.Word name) → is_class_name name ≡ true → IsSpellable (lexeme.Word name)
class-spellable f name h good = (plain-found f name h, begins-no-comment name (class-begins name good))

pub name-spellable : (f : Bool) (name : List ℕ) → IsFound f (lexeme.Word name) → is_name name ≡ true → IsSpellable (lexeme.Word name)
name-spellable f name h good = (plain-found f name h, begins-no-comment name (name-begins name good))

-- what stands before more bytes begins them
pub more-no-comment : (front rest : List ℕ) → BeginsNoComment front → BeginsNoComment (front ++ rest)
more-no-comment [] rest h = absurd h
more-no-comment (b ∷ front) rest h = h

pub method-no-comment : (name : List ℕ) → is_method_name name ≡ true → BeginsNoComment name
method-no-comment name h =
    either (is_name name || bytes_eq name (codes "<init>")) (bytes_eq name (codes "<clinit>")) h
    (λ (e : (is_name name || bytes_eq name (codes "<init>")) ≡ true). either (is_name name) (bytes_eq name (codes "<init>")) e
    (λ (n : is_name name ≡ true). begins-no-comment name (name-begins name n))
    (λ (n : bytes_eq name (codes "<init>") ≡ true). subst BeginsNoComment (sym ((bytes_eq-Decides name (codes "<init>")).0 n)) (λ z. omega arith)))
    (λ (e : bytes_eq name (codes "<clinit>") ≡ true). subst BeginsNoComment (sym ((bytes_eq-Decides name (codes "<clinit>")).0 e)) (λ z. omega arith))
