-- No piece reaches beyond the bytes that it is cut from, and no fault of a piece stands after them.
use Rattle.std.proofs.Common.{◌≡◌, ℕ, suc, ◌+◌, ◌≤◌, Bool, true, false, List, [], ◌∷◌, Result, Ok, Err, Option, Some, None, length, get_or, refl, arith, cond, nat_eq, position, ℤ, subst}
use Rattle.std.proofs.lemmas.List.{length-take}
use Rattle.std.specs.List.{position_or_len}
use Rattle.jasmin_text.specs.declared.fault.Broken.{Broken}
use Rattle.jasmin_text.specs.declared.fault.TextKind.TheVariants.{NotAscii}
use Rattle.jasmin_text.specs.declared.piece.Piece.{Piece}
use Rattle.jasmin_text.specs.declared.strings.Turn.{Turn}
use Rattle.jasmin_text.specs.declared.strings.Turn.TheVariants as turn
use Rattle.jasmin_text.specs.declared.token.TokenKind.{TokenKind}
use Rattle.jasmin_text.specs.declared.token.TokenKind.TheVariants as token
use Rattle.jasmin_text.specs.Numbers.{is_number, number_of}
use Rattle.jasmin_text.specs.Pieces.{is_white, is_high, is_plain, escaped, turn_of, turned, with_byte, string_after, after_backslash, word_at, kind_of_word, numbered, word_piece, string_piece, piece_at}
use Rattle.jasmin_text.proofs.Skipping.{position-found}

-- what holds of both sides holds of the one that a test chooses
pub chosen : {A : Type 0} (P : A → Type 0) (c : Bool) (x y : A) → P x → P y → P (cond c x y)
chosen P true x y px py = px
chosen P false x y px py = py

abbrev TurnWithin : ℕ → Result Turn Broken → Type 0
TurnWithin n (Ok t) = Unit {0}
TurnWithin n (Err f) = f.before ≤ n

turn-within : (e : Bool) (n b : ℕ) → TurnWithin n (turn_of e n b)
turn-within true n b = by_escape (escaped b)
  where
    by_escape : (o : Option ℕ) → TurnWithin n (after_backslash n o)
    by_escape (Some x) = tt
    by_escape None = omega arith
turn-within false n b =
    chosen (TurnWithin n) (nat_eq b 34) _ _ tt
    (chosen (TurnWithin n) (nat_eq b 92) _ _ tt
    (chosen (TurnWithin n) (is_plain b) _ _ tt
    (chosen (TurnWithin n) (nat_eq b 10) _ _ (omega arith) (omega arith))))

-- a string's rest of so many bytes, after n bytes
abbrev pub StringWithin : ℕ → ℕ → Result (List ℕ × ℕ) Broken → Type 0
StringWithin n left (Ok s) = (n + 1 ≤ s.1) × (s.1 ≤ n + left)
StringWithin n left (Err f) = f.before ≤ n + left

grown : (n left b : ℕ) (r : Result (List ℕ × ℕ) Broken) → StringWithin (n + 1) left r → StringWithin n (suc left) (with_byte b r)
grown n left b (Ok s) h = (omega (arith, h.0), omega (arith, h.1))
grown n left b (Err f) h = omega (arith, h)

same : (n left : ℕ) (r : Result (List ℕ × ℕ) Broken) → StringWithin (n + 1) left r → StringWithin n (suc left) r
same n left (Ok s) h = (omega (arith, h.0), omega (arith, h.1))
same n left (Err f) h = omega (arith, h)

by_turn : (n left : ℕ) (x y : Result (List ℕ × ℕ) Broken) (t : Result Turn Broken) → TurnWithin n t → StringWithin (n + 1) left x → StringWithin (n + 1) left y → StringWithin n (suc left) (turned n x y t)
by_turn n left x y (Ok turn.End) w hx hy = (omega arith, omega arith)
by_turn n left x y (Ok turn.Backslash) w hx hy = same n left x hx
by_turn n left x y (Ok (turn.Byte b)) w hx hy = grown n left b y hy
by_turn n left x y (Err f) w hx hy = omega (arith, w)

pub string-within : (e : Bool) (n : ℕ) (rest : List ℕ) → StringWithin n (length rest) (string_after e n rest)
unfolding string_after
string-within e n [] = omega arith
string-within e n (b ∷ rest) = by_turn n (length rest) (string_after true (n + 1) rest) (string_after false (n + 1) rest) (turn_of e n b) (turn-within e n b) (string-within true (n + 1) rest) (string-within false (n + 1) rest)

-- ---- words

abbrev WordWithin : ℕ → Result TokenKind Broken → Type 0
WordWithin n (Ok kind) = Unit {0}
WordWithin n (Err f) = f.before ≤ n

word-within : (word : List ℕ) → WordWithin (length word) (kind_of_word word)
word-within word = by_high (position is_high word) refl
  where
    by_range : (o : Option ℤ) → WordWithin (length word) (numbered o)
    by_range (Some n) = tt
    by_range None = omega arith

    by_high : (o : Option ℕ) → position is_high word ≡ o → WordWithin (length word) (elim o [ Some n ↦ Err (record { kind = NotAscii; before = n }) | None ↦ cond (is_number word) (numbered (number_of word)) (Ok token.Word) ])
    by_high (Some n) h = let f = position-found is_high word n h in omega (arith, f.0, f.1)
    by_high None h = chosen (WordWithin (length word)) (is_number word) _ _ (by_range (number_of word)) tt

word-length : (bytes : List ℕ) → length (word_at bytes) ≤ length bytes
word-length bytes = omega (arith, length-take (position_or_len is_white bytes) bytes)

word-some : (b : ℕ) (rest : List ℕ) → is_white b ≡ false → 1 ≤ length (word_at (b ∷ rest))
word-some b rest h =
    let longer : position_or_len is_white (b ∷ rest) ≡ 1 + position_or_len is_white rest = rw h refl in
    omega (arith, longer, length-take (position_or_len is_white (b ∷ rest)) (b ∷ rest))

-- ---- pieces

-- a piece of some of so many bytes
abbrev pub PieceWithin : ℕ → Result Piece Broken → Type 0
PieceWithin left (Ok piece) = piece.length ≤ left
PieceWithin left (Err f) = f.before ≤ left

of_word : (n left : ℕ) (r : Result TokenKind Broken) → n ≤ left → WordWithin n r → PieceWithin left (word_piece n r)
of_word n left (Ok kind) high w = high
of_word n left (Err f) high w = omega (arith, w, high)

of_string : (left : ℕ) (r : Result (List ℕ × ℕ) Broken) → StringWithin 1 left r → PieceWithin (suc left) (string_piece r)
of_string left (Ok s) h = omega (arith, h.1)
of_string left (Err f) h = omega (arith, h)

pub piece-within : (bytes : List ℕ) → PieceWithin (length bytes) (piece_at bytes)
piece-within [] = omega arith
piece-within (b ∷ rest) =
    chosen (PieceWithin (length (b ∷ rest))) (nat_eq b 34) _ _
    (of_string (length rest) (string_after false 1 rest) (string-within false 1 rest))
    (of_word (length (word_at (b ∷ rest))) (length (b ∷ rest)) (kind_of_word (word_at (b ∷ rest))) (word-length (b ∷ rest)) (word-within (word_at (b ∷ rest))))

-- a piece has a byte, where its first one is no white space
abbrev pub PieceSome : Result Piece Broken → Type 0
PieceSome (Ok piece) = 1 ≤ piece.length
PieceSome (Err f) = Unit {0}

some_word : (n : ℕ) (r : Result TokenKind Broken) → 1 ≤ n → PieceSome (word_piece n r)
some_word n (Ok kind) h = h
some_word n (Err f) h = tt

some_string : (left : ℕ) (r : Result (List ℕ × ℕ) Broken) → StringWithin 1 left r → PieceSome (string_piece r)
some_string left (Ok s) h = omega (arith, h.0)
some_string left (Err f) h = tt

pub piece-some : (bytes : List ℕ) → 1 ≤ length bytes → is_white (get_or bytes 0 0) ≡ false → PieceSome (piece_at bytes)
piece-some [] h dark = absurd (omega arith)
piece-some (b ∷ rest) h dark =
    chosen PieceSome (nat_eq b 34) _ _
    (some_string (length rest) (string_after false 1 rest) (string-within false 1 rest))
    (some_word (length (word_at (b ∷ rest))) (kind_of_word (word_at (b ∷ rest))) (word-some b rest dark))

-- the same of what a piece is read as
pub piece-length : (bytes : List ℕ) (piece : Piece) → piece_at bytes ≡ Ok piece → piece.length ≤ length bytes
piece-length bytes piece h = subst (PieceWithin (length bytes)) h (piece-within bytes)

pub broken-before : (bytes : List ℕ) (f : Broken) → piece_at bytes ≡ Err f → f.before ≤ length bytes
broken-before bytes f h = subst (PieceWithin (length bytes)) h (piece-within bytes)

pub piece-positive : (bytes : List ℕ) (piece : Piece) → 1 ≤ length bytes → is_white (get_or bytes 0 0) ≡ false → piece_at bytes ≡ Ok piece → 1 ≤ piece.length
piece-positive bytes piece some dark h = subst PieceSome h (piece-some bytes some dark)
