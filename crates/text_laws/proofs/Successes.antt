-- What a reading of words that succeeds says of them.
use Rattle.std.proofs.Common.{◌≡◌, ℕ, ◌-◌, Bool, true, false, List, [], ◌∷◌, ◌++◌, Some, Result, Ok, Err, ℤ, length, take, cond, refl, ap, ◌∙◌, subst, arith}
use Rattle.std.specs.Prelude.{◌&&◌, slice_get, bytes_eq, int_le}
use Rattle.std.proofs.Math.Seq.{take-append_seam}
use Rattle.std.proofs.lemmas.List.{length-append}
use Rattle.std.proofs.lemmas.Slice.Eq.{bytes_eq-Decides}
use Rattle.vm_model.specs.Failures.{◌>>=◌}
use Rattle.jasmin_lines.specs.declared.fault.ReadKind.{ReadKind}
use Rattle.jasmin_lines.specs.declared.fault.ReadKind.TheVariants.{BadOperand}
use Rattle.jasmin_lines.specs.declared.lexeme.Lexeme.{Lexeme}
use Rattle.jasmin_lines.specs.declared.lexeme.Lexeme.TheVariants as lexeme
use Rattle.jasmin_lines.specs.Words.{one, two, none, word_of, in_range, number_of, is_word, named, is_class_name, is_name, name_of, class_name_of}
use Rattle.jasmin_lines.specs.Directives.{with_last, split_last}
use Rattle.text_laws.specs.OfText.{is_text, IsFound, AreFound}

-- what holds of what is read
abbrev pub Holds : {E A : Type 0} → (A → Type 0) → Result A E → Type 0
Holds P (Ok x) = P x
Holds P (Err kind) = Unit {0}

pub behind : {E A B : Type 0} (P : B → Type 0) (r : Result A E) (g : A → Result B E) → ((x : A) → r ≡ Ok x → Holds P (g x)) → Holds P (r >>= g)
behind P (Ok x) g h = h x refl
behind P (Err kind) g h = tt

-- a step of a reading that is known
pub step : {E A B : Type 0} (r : Result A E) (g : A → Result B E) (x : A) → r ≡ Ok x → (r >>= g) ≡ g x
step {E = E} r g x e = ap (λ (s : Result _ E). s >>= g) e

-- ---- words

pub none-is : (words : List Lexeme) (u : Unit {0}) → none words ≡ Ok u → words ≡ []
none-is [] u e = refl
none-is (w ∷ ws) u e = absurd (cc)

pub one-is : (words : List Lexeme) (w : Lexeme) → one words ≡ Ok w → words ≡ w ∷ []
one-is [] w e = absurd (cc)
one-is (x ∷ []) w e = let same : x ≡ w = cc in ap (λ (y : Lexeme). y ∷ []) same
one-is (x ∷ y ∷ ws) w e = absurd (cc)

abbrev both : Lexeme × Lexeme → List Lexeme
both p = p.0 ∷ p.1 ∷ []

pub two-is : (words : List Lexeme) (p : Lexeme × Lexeme) → two words ≡ Ok p → words ≡ p.0 ∷ p.1 ∷ []
two-is [] p e = absurd (cc)
two-is (x ∷ []) p e = absurd (cc)
two-is (x ∷ y ∷ []) p e = let same : (x, y) ≡ p = cc in ap both same
two-is (x ∷ y ∷ z ∷ ws) p e = absurd (cc)

pub word-is : (w : Lexeme) (bytes : List ℕ) → word_of w ≡ Ok bytes → w ≡ lexeme.Word bytes
word-is (lexeme.Word b) bytes e = let same : b ≡ bytes = cc in ap (λ (x : List ℕ). lexeme.Word x) same
word-is (lexeme.Number n) bytes e = absurd (cc)
word-is (lexeme.Text t) bytes e = absurd (cc)

pub named-is : (good : Bool) (bytes x : List ℕ) → named good bytes ≡ Ok x → (good ≡ true) × (bytes ≡ x)
named-is true bytes x e = (refl, cc)
named-is false bytes x e = absurd (cc)

pub named-again : (good : Bool) (bytes : List ℕ) → good ≡ true → named good bytes ≡ Ok bytes
named-again good bytes e = rw e refl

in_by : (b : Bool) (n m : ℤ) → cond {A = Result ℤ ReadKind} b (Ok n) (Err BadOperand) ≡ Ok m → n ≡ m
in_by true n m e = cc
in_by false n m e = absurd (cc)

range-is : (low high n m : ℤ) → in_range low high n ≡ Ok m → n ≡ m
range-is low high n m e = in_by (int_le low n && int_le n high) n m e

pub number-is : (low high : ℤ) (w : Lexeme) (n : ℤ) → number_of low high w ≡ Ok n → (w ≡ lexeme.Number n) × (in_range low high n ≡ Ok n)
number-is low high (lexeme.Word b) n e = absurd (cc)
number-is low high (lexeme.Text t) n e = absurd (cc)
number-is low high (lexeme.Number m) n e =
    let same : m ≡ n = range-is low high m n e in
    (ap (λ (x : ℤ). lexeme.Number x) same, subst (λ (x : ℤ). in_range low high x ≡ Ok n) same e)

pub is-word : (bytes : List ℕ) (w : Lexeme) → is_word bytes w ≡ true → w ≡ lexeme.Word bytes
is-word bytes (lexeme.Word word) e = ap (λ (x : List ℕ). lexeme.Word x) ((bytes_eq-Decides word bytes).0 e)
is-word bytes (lexeme.Number n) e = absurd (cc)
is-word bytes (lexeme.Text t) e = absurd (cc)

pub same-bytes : (xs : List ℕ) → bytes_eq xs xs ≡ true
same-bytes xs = (bytes_eq-Decides xs xs).1 refl

-- a class's name, and that of another thing
abbrev pub IsNamed : (List ℕ → Bool) → Lexeme → List ℕ → Type 0
IsNamed good w name = (w ≡ lexeme.Word name) × (good name ≡ true)

named-word : (good : List ℕ → Bool) (w : Lexeme) (name : List ℕ) → (word_of w >>= λ bytes. named (good bytes) bytes) ≡ Ok name → IsNamed good w name
named-word good (lexeme.Word b) name e =
    let h : (good b ≡ true) × (b ≡ name) = named-is (good b) b name e in
    (ap (λ (x : List ℕ). lexeme.Word x) h.1, subst (λ (x : List ℕ). good x ≡ true) h.1 h.0)
named-word good (lexeme.Number n) name e = absurd (cc)
named-word good (lexeme.Text t) name e = absurd (cc)

pub class-name-is : (w : Lexeme) (name : List ℕ) → class_name_of w ≡ Ok name → IsNamed is_class_name w name
class-name-is w name e = named-word is_class_name w name e

pub name-is : (w : Lexeme) (name : List ℕ) → name_of w ≡ Ok name → IsNamed is_name w name
name-is w name e = named-word is_name w name e

-- ---- the last word

get-last : (xs : List Lexeme) (x : Lexeme) → slice_get (xs ++ x ∷ []) (length xs) ≡ Some x
get-last [] x = refl
get-last (y ∷ xs) x = get-last xs x

pub split-again : (xs : List Lexeme) (x : Lexeme) → split_last (xs ++ x ∷ []) ≡ Ok (xs, x)
split-again xs x =
    let size : length (xs ++ x ∷ []) - 1 ≡ length xs = omega (arith, length-append xs (x ∷ [])) in
    ap (λ (n : ℕ). with_last (take n (xs ++ x ∷ [])) (slice_get (xs ++ x ∷ []) n)) size
    ∙ ap (λ (ys : List Lexeme). with_last ys (slice_get (xs ++ x ∷ []) (length xs))) (take-append_seam xs (x ∷ []))
    ∙ ap (with_last xs) (get-last xs x)

fronts : Lexeme → List Lexeme → List Lexeme
fronts w [] = []
fronts w (x ∷ xs) = w ∷ fronts x xs

lasts : Lexeme → List Lexeme → Lexeme
lasts w [] = w
lasts w (x ∷ xs) = lasts x xs

parted : (w : Lexeme) (ws : List Lexeme) → w ∷ ws ≡ fronts w ws ++ lasts w ws ∷ []
unfolding fronts lasts
parted w [] = refl
parted w (x ∷ xs) = ap (λ (ys : List Lexeme). w ∷ ys) (parted x xs)

abbrev joined : List Lexeme × Lexeme → List Lexeme
joined p = p.0 ++ p.1 ∷ []

pub split-is : (words : List Lexeme) (p : List Lexeme × Lexeme) → split_last words ≡ Ok p → words ≡ p.0 ++ p.1 ∷ []
split-is [] p e = absurd (cc)
split-is (w ∷ ws) p e =
    let known : split_last (w ∷ ws) ≡ Ok (fronts w ws, lasts w ws) = ap split_last (parted w ws) ∙ split-again (fronts w ws) (lasts w ws) in
    let same : (fronts w ws, lasts w ws) ≡ p = cc in
    parted w ws ∙ ap joined same

-- ---- what the parts of a line are like

abbrev pub last_text : Bool → List Lexeme → Bool
last_text behind_text [] = behind_text
last_text behind_text (w ∷ ws) = last_text (is_text w) ws

pub last-more : (f : Bool) (ws : List Lexeme) (w : Lexeme) → last_text f (ws ++ w ∷ []) ≡ is_text w
last-more f [] w = refl
last-more f (x ∷ ws) w = last-more (is_text x) ws w

pub front-found : (f : Bool) (ws : List Lexeme) (w : Lexeme) → AreFound f (ws ++ w ∷ []) → AreFound f ws
front-found f [] w h = tt
front-found f (x ∷ ws) w h = (h.0, front-found (is_text x) ws w h.1)

pub last-found : (f : Bool) (ws : List Lexeme) (w : Lexeme) → AreFound f (ws ++ w ∷ []) → IsFound (last_text f ws) w
last-found f [] w h = h.0
last-found f (x ∷ ws) w h = last-found (is_text x) ws w h.1
