-- The tokens of a text stand in order.
use Rattle.std.proofs.Common.{◌≡◌, ℕ, zero, suc, ◌+◌, ◌-◌, ◌≤◌, Bool, true, false, ◌&&◌, List, [], ◌∷◌, Result, Ok, Err, length, arith, nat_eq, subst}
use Rattle.jasmin_text.specs.declared.piece.Piece.{Piece}
use Rattle.jasmin_text.specs.declared.place.Place.{Place}
use Rattle.jasmin_text.specs.declared.token.Token.{Token}
use Rattle.jasmin_text.specs.declared.fault.Broken.{Broken}
use Rattle.jasmin_text.specs.Pieces.{is_white, piece_at}
use Rattle.jasmin_text.specs.Places.{along, next_line, first_place}
use Rattle.jasmin_text.specs.Spans.{AreInOrder}
use Rattle.jasmin_text.specs.Texts.{Spoiled, with_front, with_piece, token_at, line_end, left_of_line, tokens_after, tokens_of}
use Rattle.jasmin_text.proofs.Skipping.{left-le}
use Rattle.jasmin_text.proofs.Within.{chosen, PieceWithin, piece-within}

-- what holds of the tokens that are read, if any are
abbrev pub OfTokens : (List Token → Type 0) → Result (List Token) Spoiled → Type 0
OfTokens P (Ok ts) = P ts
OfTokens P (Err f) = Unit {0}

in-front : (from end : ℕ) (t : Token) (r : Result (List Token) Spoiled) → from ≤ t.from → t.from ≤ t.to → OfTokens (AreInOrder t.to end) r → OfTokens (AreInOrder from end) (with_front (t ∷ []) r)
in-front from end t (Ok ts) low up h = (low, up, h)
in-front from end t (Err f) low up h = tt

piece-in-order : (from end left : ℕ) (p : Place) (behind : ℕ → Result (List Token) Spoiled) (r : Result Piece Broken) → from ≤ p.offset → PieceWithin left r → ((n : ℕ) → n ≤ left → OfTokens (AreInOrder (p.offset + n) end) (behind n)) → OfTokens (AreInOrder from end) (with_piece p behind r)
piece-in-order from end left p behind (Ok piece) low w h = in-front from end (token_at p piece) (behind piece.length) low (omega arith) (h piece.length w)
piece-in-order from end left p behind (Err f) low w h = tt

in-order : (n : ℕ) (is_open : Bool) (p : Place) (rest : List ℕ) (from end : ℕ) → n ≤ length rest → from ≤ p.offset + n → p.offset + length rest ≡ end → OfTokens (AreInOrder from end) (tokens_after n is_open p rest)
unfolding tokens_after
in-order n is_open p [] from end h low e =
    chosen (AreInOrder from end) (nat_eq p.column 1) _ _
    (omega arith)
    (omega arith, omega arith, omega arith)
in-order (suc n) is_open p (b ∷ rest) from end h low e = in-order n is_open (along 1 p) rest from end (omega (arith, h)) (omega (arith, low)) (omega (arith, e))
in-order zero is_open p (b ∷ rest) from end h low e =
    chosen (OfTokens (AreInOrder from end)) (nat_eq b 10) _ _
    (in-front from end (line_end p 1) (tokens_after 0 true (next_line p) rest) (omega (arith, low)) (omega arith) (in-order 0 true (next_line p) rest (p.offset + 1) end (omega arith) (omega arith) (omega (arith, e))))
    (chosen (OfTokens (AreInOrder from end)) (is_white b) _ _
    (in-order 0 true (along 1 p) rest from end (omega arith) (omega (arith, low)) (omega (arith, e)))
    (chosen (OfTokens (AreInOrder from end)) (is_open && nat_eq b 59) _ _
    (in-order (left_of_line rest) true (along 1 p) rest from end (left-le (λ b. nat_eq b 10) rest) (omega (arith, low)) (omega (arith, e)))
    (piece-in-order from end (length (b ∷ rest)) p (λ n. tokens_after (n - 1) false (along 1 p) rest) (piece_at (b ∷ rest)) (omega (arith, low)) (piece-within (b ∷ rest))
    (λ (m : ℕ) (within : m ≤ length (b ∷ rest)). in-order (m - 1) false (along 1 p) rest (p.offset + m) end (omega (arith, within)) (omega arith) (omega (arith, e))))))

pub spans : (text : List ℕ) (ts : List Token) → tokens_of text ≡ Ok ts → AreInOrder 0 (length text) ts
unfolding tokens_of
spans text ts h = subst (OfTokens (AreInOrder 0 (length text))) h (in-order 0 true first_place text 0 (length text) (omega arith) (omega arith) (omega arith))
