-- A text that is cut piece by piece.
use Rattle.std.proofs.Common.{◌≡◌, ℕ, suc, zero, ◌+◌, ◌-◌, ◌≤◌, ◌<◌, Bool, true, false, ◌&&◌, List, [], ◌∷◌, ◌++◌, Result, Ok, Err, length, get_or, drop, refl, arith, ap, sym, ◌∙◌, cond, nat_eq, subst}
use Rattle.std.proofs.lemmas.Bool.Decides.{nat_tests}
use Rattle.std.proofs.lemmas.List.{append-nil, append_assoc}
use Rattle.jasmin_text.specs.declared.fault.Broken.{Broken}
use Rattle.jasmin_text.specs.declared.fault.TextFault.{TextFault}
use Rattle.jasmin_text.specs.declared.fault.TextFault.TheVariants as fault
use Rattle.jasmin_text.specs.declared.piece.Piece.{Piece}
use Rattle.jasmin_text.specs.declared.place.Place.{Place}
use Rattle.jasmin_text.specs.declared.token.Token.{Token}
use Rattle.jasmin_text.specs.Pieces.{is_white, piece_at}
use Rattle.jasmin_text.specs.Places.{along, next_line}
use Rattle.jasmin_text.specs.Cutting.{FailsAt}
use Rattle.jasmin_text.specs.Texts.{Spoiled, spoiled, with_front, with_piece, token_at, line_end, end_of_text, left_of_line, tokens_after, Refuses}
use Rattle.jasmin_text.proofs.Quoted.{behind, behind-cons}

place-is : (p : Place) (o c : ℕ) → o ≡ p.offset → c ≡ p.column → record { offset = o; line = p.line; column = c } ≡ p
place-is p o c ho hc = rw (ho, hc) refl

along-none : (p : Place) → along 0 p ≡ p
along-none p = place-is p (p.offset + 0) (p.column + 0) (omega arith) (omega arith)

along-along : (n m : ℕ) (p : Place) → along n (along m p) ≡ along (m + n) p
along-along n m p = place-is (along (m + n) p) (p.offset + m + n) (p.column + m + n) (omega arith) (omega arith)

one-more : (n : ℕ) → 1 + n ≡ suc n
one-more n = omega arith

pub skipped : (n : ℕ) (is_open : Bool) (p : Place) (bytes : List ℕ) → n ≤ length bytes → tokens_after n is_open p bytes ≡ tokens_after 0 is_open (along n p) (drop n bytes)
unfolding tokens_after
skipped zero is_open p bytes h = rw (along-none p) refl
skipped (suc n) is_open p [] h = absurd (omega arith)
skipped (suc n) is_open p (b ∷ rest) h = skipped n is_open (along 1 p) rest (omega (arith, h)) ∙ ap (λ (q : Place). tokens_after 0 is_open q (drop n rest)) (along-along n 1 p ∙ ap (λ (m : ℕ). along m p) (one-more n))

pub front-front : (xs ys : List Token) (r : Result (List Token) Spoiled) → with_front (xs ++ ys) r ≡ with_front xs (with_front ys r)
front-front xs ys (Ok tokens) = ap Ok (append_assoc xs ys tokens)
front-front xs ys (Err f) = refl

pub front-none : (r : Result (List Token) Spoiled) → with_front [] r ≡ r
front-none (Ok tokens) = refl
front-none (Err f) = refl

-- how the tokens go on, by the first byte
abbrev go_on : Bool → Place → ℕ → List ℕ → Bool → Bool → Bool → Result (List Token) Spoiled
go_on is_open p b rest is_feed is_blank is_comment =
    cond is_feed (with_front (line_end p 1 ∷ []) (tokens_after 0 true (next_line p) rest))
    (cond is_blank (tokens_after 0 true (along 1 p) rest)
    (cond is_comment (tokens_after (left_of_line rest) true (along 1 p) rest)
    (with_piece p (λ n. tokens_after (n - 1) false (along 1 p) rest) (piece_at (b ∷ rest)))))

goes_on : (is_open : Bool) (p : Place) (b : ℕ) (rest : List ℕ) → tokens_after 0 is_open p (b ∷ rest) ≡ go_on is_open p b rest (nat_eq b 10) (is_white b) (is_open && nat_eq b 59)
unfolding tokens_after
goes_on is_open p b rest = refl

is_not : (b n : ℕ) → (b ≡ n → ⊥) → nat_eq b n ≡ false
is_not b n h = grind (arith, nat_tests, h)

pub line-ended : (found : List Token) (is_open : Bool) (p : Place) (rest : List ℕ) → 1 ≤ length rest → get_or rest 0 0 ≡ 10 → with_front (found ++ line_end p 1 ∷ []) (tokens_after 0 true (next_line p) (behind rest)) ≡ with_front found (tokens_after 0 is_open p rest)
line-ended found is_open p [] h e = absurd (omega arith)
line-ended found is_open p (b ∷ rest) h e =
    let is : nat_eq b 10 ≡ true = rw e refl in
    let on : tokens_after 0 is_open p (b ∷ rest) ≡ with_front (line_end p 1 ∷ []) (tokens_after 0 true (next_line p) rest) =
    goes_on is_open p b rest ∙ ap (λ (x : Bool). go_on is_open p b rest x (is_white b) (is_open && nat_eq b 59)) is in
    rw (on, behind-cons b rest) (front-front found (line_end p 1 ∷ []) (tokens_after 0 true (next_line p) rest))

pub blank-passed : (found : List Token) (is_open : Bool) (p : Place) (rest : List ℕ) → 1 ≤ length rest → (get_or rest 0 0 ≡ 10 → ⊥) → is_white (get_or rest 0 0) ≡ true → with_front found (tokens_after 0 true (along 1 p) (behind rest)) ≡ with_front found (tokens_after 0 is_open p rest)
blank-passed found is_open p [] h n w = absurd (omega arith)
blank-passed found is_open p (b ∷ rest) h n w =
    let on : tokens_after 0 is_open p (b ∷ rest) ≡ tokens_after 0 true (along 1 p) rest =
    goes_on is_open p b rest ∙ ap (λ (x : Bool). go_on is_open p b rest x (is_white b) (is_open && nat_eq b 59)) (is_not b 10 n)
    ∙ ap (λ (x : Bool). go_on is_open p b rest false x (is_open && nat_eq b 59)) w in
    rw (on, behind-cons b rest) refl

pub comment-passed : (found : List Token) (is_open : Bool) (p : Place) (rest : List ℕ) → 1 ≤ length rest → (get_or rest 0 0 ≡ 10 → ⊥) → is_white (get_or rest 0 0) ≡ false → (is_open && nat_eq (get_or rest 0 0) 59) ≡ true → left_of_line (behind rest) ≤ length (behind rest) → with_front found (tokens_after 0 true (along (1 + left_of_line (behind rest)) p) (drop (left_of_line (behind rest)) (behind rest))) ≡ with_front found (tokens_after 0 is_open p rest)
comment-passed found is_open p [] h n w k l = absurd (omega arith)
comment-passed found is_open p (b ∷ rest) h n w k l =
    let left : left_of_line rest ≤ length rest = subst (λ (x : List ℕ). left_of_line x ≤ length x) (behind-cons b rest) l in
    let on : tokens_after 0 is_open p (b ∷ rest) ≡ tokens_after 0 true (along (1 + left_of_line rest) p) (drop (left_of_line rest) rest) =
    goes_on is_open p b rest ∙ ap (λ (x : Bool). go_on is_open p b rest x (is_white b) (is_open && nat_eq b 59)) (is_not b 10 n)
    ∙ ap (λ (x : Bool). go_on is_open p b rest false x (is_open && nat_eq b 59)) w ∙ ap (λ (x : Bool). go_on is_open p b rest false false x) k
    ∙ skipped (left_of_line rest) true (along 1 p) rest left ∙ ap (λ (q : Place). tokens_after 0 true q (drop (left_of_line rest) rest)) (along-along (left_of_line rest) 1 p) in
    rw (on, behind-cons b rest) refl

on_piece : (is_open : Bool) (p : Place) (b : ℕ) (rest : List ℕ) (r : Result Piece Broken) → (b ≡ 10 → ⊥) → is_white b ≡ false → (is_open && nat_eq b 59) ≡ false → piece_at (b ∷ rest) ≡ r → tokens_after 0 is_open p (b ∷ rest) ≡ with_piece p (λ n. tokens_after (n - 1) false (along 1 p) rest) r
on_piece is_open p b rest r n w k e =
    goes_on is_open p b rest ∙ ap (λ (x : Bool). go_on is_open p b rest x (is_white b) (is_open && nat_eq b 59)) (is_not b 10 n)
    ∙ ap (λ (x : Bool). go_on is_open p b rest false x (is_open && nat_eq b 59)) w ∙ ap (λ (x : Bool). go_on is_open p b rest false false x) k
    ∙ ap (with_piece p (λ n. tokens_after (n - 1) false (along 1 p) rest)) e

drop-suc : (n b : ℕ) (rest : List ℕ) → 1 ≤ n → drop (n - 1) rest ≡ drop n (b ∷ rest)
drop-suc zero b rest h = absurd (omega arith)
drop-suc (suc n) b rest h = let same : suc n - 1 ≡ n = omega arith in rw same refl

pub piece-cut : (found : List Token) (is_open : Bool) (p : Place) (rest : List ℕ) (piece : Piece) → 1 ≤ length rest → (get_or rest 0 0 ≡ 10 → ⊥) → is_white (get_or rest 0 0) ≡ false → (is_open && nat_eq (get_or rest 0 0) 59) ≡ false → piece_at rest ≡ Ok piece → 1 ≤ piece.length → piece.length ≤ length rest → with_front (found ++ token_at p piece ∷ []) (tokens_after 0 false (along piece.length p) (drop piece.length rest)) ≡ with_front found (tokens_after 0 is_open p rest)
piece-cut found is_open p [] piece h n w k e low high = absurd (omega arith)
piece-cut found is_open p (b ∷ rest) piece h n w k e low high =
    let one : 1 + (piece.length - 1) ≡ piece.length = omega (arith, low) in
    let on : tokens_after (piece.length - 1) false (along 1 p) rest ≡ tokens_after 0 false (along piece.length p) (drop piece.length (b ∷ rest)) =
    skipped (piece.length - 1) false (along 1 p) rest (omega (arith, low, high))
    ∙ ap (λ (q : Place). tokens_after 0 false q (drop (piece.length - 1) rest)) (along-along (piece.length - 1) 1 p ∙ ap (λ (m : ℕ). along m p) one)
    ∙ ap (tokens_after 0 false (along piece.length p)) (drop-suc piece.length b rest low) in
    front-front found (token_at p piece ∷ []) (tokens_after 0 false (along piece.length p) (drop piece.length (b ∷ rest)))
    ∙ ap (λ (x : Result (List Token) Spoiled). with_front found (with_front (token_at p piece ∷ []) x)) (sym on)
    ∙ ap (with_front found) (sym (on_piece is_open p b rest (Ok piece) n w k e))

pub piece-broken : (found : List Token) (is_open : Bool) (p : Place) (rest : List ℕ) (f : Broken) → 1 ≤ length rest → (get_or rest 0 0 ≡ 10 → ⊥) → is_white (get_or rest 0 0) ≡ false → (is_open && nat_eq (get_or rest 0 0) 59) ≡ false → piece_at rest ≡ Err f → with_front found (tokens_after 0 is_open p rest) ≡ Err (spoiled p f)
piece-broken found is_open p [] f h n w k e = absurd (omega arith)
piece-broken found is_open p (b ∷ rest) f h n w k e = ap (with_front found) (on_piece is_open p b rest (Err f) n w k e)

pub all-cut : (found : List Token) (is_open : Bool) (p : Place) (rest : List ℕ) → length rest < 1 → with_front found (tokens_after 0 is_open p rest) ≡ Ok (found ++ end_of_text p)
unfolding tokens_after
all-cut found is_open p [] h = refl
all-cut found is_open p (b ∷ rest) h = absurd (omega arith)

pub refused : (found : List Token) (is_open : Bool) (p : Place) (rest : List ℕ) (f : TextFault) → 1 ≤ length rest → (get_or rest 0 0 ≡ 10 → ⊥) → is_white (get_or rest 0 0) ≡ false → (is_open && nat_eq (get_or rest 0 0) 59) ≡ false → FailsAt p f (piece_at rest) → Refuses (with_front found (tokens_after 0 is_open p rest)) f
refused found is_open p rest fault.NoMemory h n w k e = tt
refused found is_open p rest (fault.At kind line column) h n w k e = piece-broken found is_open p rest e.0 h n w k e.1 ∙ ap Err (sym e.2)

pub ended : (found : List Token) (is_open : Bool) (p : Place) (rest : List ℕ) → length rest < 1 → p.column ≡ 1 → with_front found (tokens_after 0 is_open p rest) ≡ Ok found
ended found is_open p rest h e =
    let is : nat_eq p.column 1 ≡ true = rw e refl in
    all-cut found is_open p rest h ∙ ap Ok (rw is (append-nil found))

pub broken-off : (found : List Token) (is_open : Bool) (p : Place) (rest : List ℕ) → length rest < 1 → (p.column ≡ 1 → ⊥) → with_front found (tokens_after 0 is_open p rest) ≡ Ok (found ++ line_end p 0 ∷ [])
broken-off found is_open p rest h n =
    let is : nat_eq p.column 1 ≡ false = is_not p.column 1 n in
    all-cut found is_open p rest h ∙ ap Ok (rw is refl)
