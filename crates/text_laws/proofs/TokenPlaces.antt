-- Where the bytes of a text stand, by the bytes before them.
use Rattle.std.proofs.Common.{◌≡◌, ◌≢◌, ℕ, ◌+◌, Bool, true, false, ◌&&◌, List, [], ◌∷◌, ◌++◌, length, take, reverse, refl, arith, ap, sym, ◌∙◌}
use Rattle.std.specs.List.{position_or_len, list_all, list_any, filter}
use Rattle.std.proofs.lemmas.Bool.Decides.{nat_tests}
use Rattle.std.proofs.lemmas.List.{append-nil, append_assoc, length-append, reverse-append}
use Rattle.std.proofs.lemmas.List.Elements.{filter-append}
use Rattle.jasmin_text.specs.declared.place.Place.{Place}
use Rattle.jasmin_text.specs.Pieces.{is_white}
use Rattle.jasmin_text.specs.Places.{along, next_line, first_place}
use Rattle.text_laws.specs.Tokens.{is_feed, is_blank, lines_ended, line_length, is_open_after}
use Rattle.text_laws.proofs.Tests.{or-first, or-second}

-- the place right after these bytes
abbrev pub place_after : List ℕ → Place
place_after front = record { offset = length front; line = lines_ended front + 1; column = line_length front + 1 }

last-first : (front : List ℕ) (b : ℕ) → reverse (front ++ b ∷ []) ≡ b ∷ reverse front
last-first front b = reverse-append front (b ∷ [])

-- ---- a byte more

pub line-longer : (front : List ℕ) (b : ℕ) → is_feed b ≡ false → line_length (front ++ b ∷ []) ≡ line_length front + 1
line-longer front b h =
    let longer : position_or_len is_feed (b ∷ reverse front) ≡ 1 + position_or_len is_feed (reverse front) = rw h refl in
    let same : line_length (front ++ b ∷ []) ≡ position_or_len is_feed (b ∷ reverse front) = ap (position_or_len is_feed) (last-first front b) in
    omega (arith, longer, same)

pub line-begun : (front : List ℕ) → line_length (front ++ 10 ∷ []) ≡ 0
line-begun front = ap (position_or_len is_feed) (last-first front 10)

pub none-ended : (front : List ℕ) (b : ℕ) → is_feed b ≡ false → lines_ended (front ++ b ∷ []) ≡ lines_ended front
none-ended front b h = ap length (filter-append is_feed front (b ∷ []) ∙ rw h (append-nil (filter is_feed front)))

pub one-ended : (front : List ℕ) → lines_ended (front ++ 10 ∷ []) ≡ lines_ended front + 1
one-ended front = ap length (filter-append is_feed front (10 ∷ [])) ∙ length-append (filter is_feed front) (10 ∷ [])

and-true : (b : Bool) → (b && true) ≡ b
and-true true = refl
and-true false = refl

pub open-after : (front : List ℕ) (b : ℕ) → is_open_after (front ++ b ∷ []) ≡ is_white b
open-after front b = ap (λ (x : List ℕ). list_all is_white (take 1 x)) (last-first front b) ∙ and-true (is_white b)

-- ---- places

abbrev placed : ℕ → ℕ → ℕ → Place
placed o l c = record { offset = o; line = l; column = c }

same-parts : (a b c d e f : ℕ) → a ≡ b → c ≡ d → e ≡ f → placed a c e ≡ placed b d f
same-parts a b c d e f x y z = rw (x, y, z) refl

pub same-place : (p q : Place) → p.offset ≡ q.offset → p.line ≡ q.line → p.column ≡ q.column → p ≡ q
same-place p q o l c = same-parts p.offset q.offset p.line q.line p.column q.column o l c

pub first-after : first_place ≡ place_after []
first-after = refl

pub place-along : (front : List ℕ) (b : ℕ) → is_feed b ≡ false → place_after (front ++ b ∷ []) ≡ along 1 (place_after front)
place-along front b h =
    same-place (place_after (front ++ b ∷ [])) (along 1 (place_after front))
    (length-append front (b ∷ []))
    (omega (arith, none-ended front b h))
    (omega (arith, line-longer front b h))

pub place-fed : (front : List ℕ) → place_after (front ++ 10 ∷ []) ≡ next_line (place_after front)
place-fed front =
    same-place (place_after (front ++ 10 ∷ [])) (next_line (place_after front))
    (length-append front (10 ∷ []))
    (omega (arith, one-ended front))
    (omega (arith, line-begun front))

pub along-along : (n m : ℕ) (p : Place) → along n (along m p) ≡ along (m + n) p
along-along n m p = same-place (along n (along m p)) (along (m + n) p) (omega arith) refl (omega arith)

pub along-none : (p : Place) → along 0 p ≡ p
along-none p = same-place (along 0 p) p (omega arith) refl (omega arith)

pub shift : (front : List ℕ) (x : ℕ) (xs : List ℕ) → (front ++ x ∷ []) ++ xs ≡ front ++ (x ∷ xs)
shift front x xs = append_assoc front (x ∷ []) xs

pub places-along : (front xs : List ℕ) → list_any is_feed xs ≡ false → place_after (front ++ xs) ≡ along (length xs) (place_after front)
places-along front [] h = ap place_after (append-nil front) ∙ sym (along-none (place_after front))
places-along front (x ∷ xs) h =
    let size : 1 + length xs ≡ length (x ∷ xs) = omega arith in
    ap place_after (sym (shift front x xs)) ∙ places-along (front ++ x ∷ []) xs (or-second (is_feed x) (list_any is_feed xs) h)
    ∙ ap (along (length xs)) (place-along front x (or-first (is_feed x) (list_any is_feed xs) h))
    ∙ along-along (length xs) 1 (place_after front) ∙ ap (λ (n : ℕ). along n (place_after front)) size

-- ---- bytes within a line

pub blank-white : (b : ℕ) → is_blank b ≡ true → is_white b ≡ true
blank-white b h = grind (arith, nat_tests)

pub blank-unfed : (b : ℕ) → is_blank b ≡ true → is_feed b ≡ false
blank-unfed b h = grind (arith, nat_tests)

pub is-blank : (b : ℕ) → is_feed b ≡ false → is_white b ≡ true → is_blank b ≡ true
is-blank b f w = rw (f, w) refl

pub dark-unfed : (b : ℕ) → is_white b ≡ false → is_feed b ≡ false
dark-unfed b h = grind (arith, nat_tests)

-- a line of which some bytes stand is not at its start
pub line-some : (front : List ℕ) (x : ℕ) (xs : List ℕ) → list_any is_feed (x ∷ xs) ≡ false → line_length (front ++ (x ∷ xs)) ≢ 0
line-some front x xs h e =
    let same : place_after (front ++ (x ∷ xs)) ≡ along (length (x ∷ xs)) (place_after front) = places-along front (x ∷ xs) h in
    let column : line_length (front ++ (x ∷ xs)) + 1 ≡ line_length front + 1 + length (x ∷ xs) = ap (λ (p : Place). p.column) same in
    omega (arith, column, e)
