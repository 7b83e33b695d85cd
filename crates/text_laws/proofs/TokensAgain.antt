-- Tokens that a text has are read from it.
use Rattle.std.proofs.Common.{◌≡◌, ◌≢◌, ℕ, ◌+◌, ◌-◌, ◌≤◌, Bool, true, false, ◌&&◌, List, [], ◌∷◌, ◌++◌, Result, Ok, length, get_or, refl, arith, ap, sym, ◌∙◌, subst, nat_eq, cond, inl, inr, ◌⊎◌}
use Rattle.std.specs.List.{list_all, list_any}
use Rattle.std.proofs.lemmas.Bool.Decides.{nat_tests}
use Rattle.std.proofs.lemmas.List.{append-nil, append_assoc, length-append}
use Rattle.std.proofs.Math.Seq.{drop-append_seam}
use Rattle.jasmin_text.specs.declared.piece.Piece.{Piece}
use Rattle.jasmin_text.specs.declared.place.Place.{Place}
use Rattle.jasmin_text.specs.declared.token.Token.{Token}
use Rattle.jasmin_text.specs.declared.token.TokenKind.{TokenKind}
use Rattle.jasmin_text.specs.declared.token.TokenKind.TheVariants as token
use Rattle.jasmin_text.specs.Pieces.{is_white, piece_at}
use Rattle.jasmin_text.specs.Places.{along, next_line}
use Rattle.jasmin_text.specs.Spans.{IsLineEnd, Says}
use Rattle.jasmin_text.specs.Texts.{Spoiled, with_front, with_piece, token_at, line_end, left_of_line, tokens_after}
use Rattle.jasmin_text.proofs.Turns.{skipped, piece-cut, front-none}
use Rattle.text_laws.specs.Spelled.{BeginsNoComment}
use Rattle.text_laws.specs.Tokens.{is_feed, is_blank, is_open_after, StandsAfter, EndsLine, IsComment, IsCommentIfAny, IsGap, IsNext, IsLast, AreTokensAfter}
use Rattle.text_laws.proofs.Tests.{and-first, and-second, or-first, or-second}
use Rattle.text_laws.proofs.TokenPlaces.{place_after, place-along, place-fed, places-along, along-along, shift, open-after, blank-white, blank-unfed}
use Rattle.text_laws.proofs.TokenBytes.{IsCut, piece-cut-again}

-- how the tokens go on, by the first byte
abbrev pub go_on : Bool → Place → ℕ → List ℕ → Bool → Bool → Bool → Result (List Token) Spoiled
go_on is_open p b rest is_fed is_light is_comment =
    cond is_fed (with_front (line_end p 1 ∷ []) (tokens_after 0 true (next_line p) rest))
    (cond is_light (tokens_after 0 true (along 1 p) rest)
    (cond is_comment (tokens_after (left_of_line rest) true (along 1 p) rest)
    (with_piece p (λ n. tokens_after (n - 1) false (along 1 p) rest) (piece_at (b ∷ rest)))))

pub goes-on : (o : Bool) (p : Place) (b : ℕ) (rest : List ℕ) → tokens_after 0 o p (b ∷ rest) ≡ go_on o p b rest (is_feed b) (is_white b) (o && nat_eq b 59)
unfolding tokens_after
goes-on o p b rest = refl

-- ---- gaps

blank-passed : (o : Bool) (p : Place) (b : ℕ) (rest : List ℕ) → is_blank b ≡ true → tokens_after 0 o p (b ∷ rest) ≡ tokens_after 0 true (along 1 p) rest
blank-passed o p b rest h =
    goes-on o p b rest ∙ ap (λ (x : Bool). go_on o p b rest x (is_white b) (o && nat_eq b 59)) (blank-unfed b h)
    ∙ ap (λ (x : Bool). go_on o p b rest false x (o && nat_eq b 59)) (blank-white b h)

-- the tokens of what comes after these bytes
abbrev pub tokens_behind : List ℕ → List ℕ → Result (List Token) Spoiled
tokens_behind front rest = tokens_after 0 (is_open_after front) (place_after front) rest

blanks-passed : (front blanks more : List ℕ) → list_all is_blank blanks ≡ true → tokens_behind front (blanks ++ more) ≡ tokens_behind (front ++ blanks) more
blanks-passed front [] more h = ap (λ (x : List ℕ). tokens_behind x more) (sym (append-nil front))
blanks-passed front (b ∷ blanks) more h =
    let first : is_blank b ≡ true = and-first (is_blank b) (list_all is_blank blanks) h in
    let opened : is_open_after (front ++ b ∷ []) ≡ true = open-after front b ∙ blank-white b first in
    blank-passed (is_open_after front) (place_after front) b (blanks ++ more) first
    ∙ ap (λ (o : Bool). tokens_after 0 o (along 1 (place_after front)) (blanks ++ more)) (sym opened)
    ∙ ap (λ (p : Place). tokens_after 0 (is_open_after (front ++ b ∷ [])) p (blanks ++ more)) (sym (place-along front b (blank-unfed b first)))
    ∙ blanks-passed (front ++ b ∷ []) blanks more (and-second (is_blank b) (list_all is_blank blanks) h)
    ∙ ap (λ (x : List ℕ). tokens_behind x more) (shift front b blanks)

pub fed-first : (b : ℕ) (rest : List ℕ) → EndsLine (b ∷ rest) → is_feed b ≡ true
fed-first b rest h = and-first (is_feed b) true h

left-line : (xs behind : List ℕ) → list_any is_feed xs ≡ false → EndsLine behind → left_of_line (xs ++ behind) ≡ length xs
left-line [] [] h e = refl
left-line [] (b ∷ rest) h e = rw (fed-first b rest e) refl
left-line (x ∷ xs) behind h e =
    let first : is_feed x ≡ false = or-first (is_feed x) (list_any is_feed xs) h in
    let longer : left_of_line (x ∷ xs ++ behind) ≡ 1 + left_of_line (xs ++ behind) = rw first refl in
    omega (arith, longer, left-line xs behind (or-second (is_feed x) (list_any is_feed xs) h) e)

comment-begun : (p : Place) (rest : List ℕ) → tokens_after 0 true p (59 ∷ rest) ≡ tokens_after (left_of_line rest) true (along 1 p) rest
unfolding tokens_after
comment-begun p rest = refl

semicolon-passed : (front rest behind : List ℕ) → list_any is_feed rest ≡ false → EndsLine behind → tokens_after 0 true (place_after front) (59 ∷ rest ++ behind) ≡ tokens_after 0 true (place_after (front ++ (59 ∷ rest))) behind
semicolon-passed front rest behind h e =
    let p : Place = place_after front in
    let within : length rest ≤ length (rest ++ behind) = omega (arith, length-append rest behind) in
    let size : 1 + length rest ≡ length (59 ∷ rest) = omega arith in
    let there : along (length rest) (along 1 p) ≡ place_after (front ++ (59 ∷ rest)) = along-along (length rest) 1 p ∙ ap (λ (n : ℕ). along n p) size ∙ sym (places-along front (59 ∷ rest) h) in
    comment-begun p (rest ++ behind)
    ∙ ap (λ (n : ℕ). tokens_after n true (along 1 p) (rest ++ behind)) (left-line rest behind h e)
    ∙ skipped (length rest) true (along 1 p) (rest ++ behind) within
    ∙ ap (tokens_after 0 true (along (length rest) (along 1 p))) (drop-append_seam rest behind)
    ∙ ap (λ (q : Place). tokens_after 0 true q behind) there

comment-passed : (front comment behind : List ℕ) → is_open_after front ≡ true → IsComment comment behind → tokens_behind front (comment ++ behind) ≡ tokens_after 0 true (place_after (front ++ comment)) behind
comment-passed front [] behind o c = absurd c
comment-passed front (b ∷ rest) behind o c =
    ap (λ (x : Bool). tokens_after 0 x (place_after front) (b ∷ rest ++ behind)) o
    ∙ subst (λ (x : ℕ). tokens_after 0 true (place_after front) (x ∷ rest ++ behind) ≡ tokens_after 0 true (place_after (front ++ (x ∷ rest))) behind) (sym c.0) (semicolon-passed front rest behind c.1 c.2)

-- where the tokens go on after a gap
record IsPassed (front gap behind : List ℕ) : Type 0 where
  is_open : Bool
  known : (is_open ≡ is_open_after (front ++ gap)) ⊎ EndsLine behind
  passed : tokens_behind front (gap ++ behind) ≡ tokens_after 0 is_open (place_after (front ++ gap)) behind

passed-by : (front blanks comment behind : List ℕ) → list_all is_blank blanks ≡ true → IsCommentIfAny (front ++ blanks) comment behind → IsPassed front (blanks ++ comment) behind
passed-by front blanks comment behind w (inl e) =
    let none : blanks ++ comment ≡ blanks = ap (λ (x : List ℕ). blanks ++ x) e ∙ append-nil blanks in
    subst (λ (x : List ℕ). IsPassed front x behind) (sym none) (record { is_open = is_open_after (front ++ blanks); known = inl refl; passed = blanks-passed front blanks behind w })
passed-by front blanks comment behind w (inr c) = record {
  is_open = true;
  known = inr (ends comment c.1);
  passed = ap (tokens_behind front) (append_assoc blanks comment behind) ∙ blanks-passed front blanks (comment ++ behind) w ∙ comment-passed (front ++ blanks) comment behind c.0 c.1
      ∙ ap (λ (x : List ℕ). tokens_after 0 true (place_after x) behind) (append_assoc front blanks comment);
}
  where
    ends : (xs : List ℕ) → IsComment xs behind → EndsLine behind
    ends [] i = absurd i
    ends (x ∷ xs) i = i.2

gap-passed : (front gap behind : List ℕ) → IsGap front gap behind → IsPassed front gap behind
gap-passed front gap behind g = subst (λ (x : List ℕ). IsPassed front x behind) (sym g.both) (passed-by front g.blanks g.comment behind g.white g.commented)

-- ---- one token

abbrev standing : TokenKind → ℕ → ℕ → ℕ → ℕ → Token
standing k f o l c = record { kind = k; from = f; to = o; line = l; column = c }

same-parts : (k k' : TokenKind) (f f' o o' l l' c c' : ℕ) → k ≡ k' → f ≡ f' → o ≡ o' → l ≡ l' → c ≡ c' → standing k f o l c ≡ standing k' f' o' l' c'
same-parts k k' f f' o o' l l' c c' a b d e g = rw (a, b, d, e, g) refl

same-token : (t u : Token) → t.kind ≡ u.kind → t.from ≡ u.from → t.to ≡ u.to → t.line ≡ u.line → t.column ≡ u.column → t ≡ u
same-token t u k f o l c = same-parts t.kind u.kind t.from u.from t.to u.to t.line u.line t.column u.column k f o l c

-- what a token and those behind it are read from
abbrev IsRead : Bool → List ℕ → List ℕ → List ℕ → Token → Type 0
IsRead o front bytes behind t = tokens_after 0 o (place_after front) (bytes ++ behind) ≡ with_front (t ∷ []) (tokens_behind (front ++ bytes) behind)

feed-read : (o : Bool) (front behind : List ℕ) (t : Token) → t.kind ≡ token.LineEnd → StandsAfter front (10 ∷ []) t → IsRead o front (10 ∷ []) behind t
feed-read o front behind t k s =
    let p : Place = place_after front in
    let same : line_end p 1 ≡ t = same-token (line_end p 1) t (sym k) (sym s.from) (sym s.to) (sym s.line) (sym s.column) in
    let opened : is_open_after (front ++ 10 ∷ []) ≡ true = open-after front 10 in
    goes-on o p 10 behind
    ∙ ap (λ (x : Token). with_front (x ∷ []) (tokens_after 0 true (next_line p) behind)) same
    ∙ ap (λ (q : Place). with_front (t ∷ []) (tokens_after 0 true q behind)) (sym (place-fed front))
    ∙ ap (λ (x : Bool). with_front (t ∷ []) (tokens_after 0 x (place_after (front ++ 10 ∷ [])) behind)) (sym opened)

line-end-read : (o : Bool) (front bytes behind : List ℕ) (t : Token) → bytes ≢ [] → t.kind ≡ token.LineEnd → IsLineEnd bytes behind → StandsAfter front bytes t → IsRead o front bytes behind t
line-end-read o front [] behind t n k h s = absurd (n refl)
line-end-read o front (b ∷ rest) behind t n k h s =
    let same : b ∷ rest ≡ 10 ∷ [] = ap (λ (x : ℕ). x ∷ rest) h.0 ∙ ap (λ (xs : List ℕ). 10 ∷ xs) h.1 in
    subst (λ (xs : List ℕ). IsRead o front xs behind t) (sym same) (feed-read o front behind t k (subst (λ (xs : List ℕ). StandsAfter front xs t) same s))

unended : (bytes behind : List ℕ) → 1 ≤ length bytes → list_any is_feed bytes ≡ false → EndsLine (bytes ++ behind) → ⊥
unended [] behind some unfed e = omega arith
unended (b ∷ rest) behind some unfed e = let fed : is_feed b ≡ true = fed-first b (rest ++ behind) e in let not_fed : is_feed b ≡ false = or-first (is_feed b) (list_any is_feed rest) unfed in absurd (cc)

uncommented : (o : Bool) (bytes behind : List ℕ) → (o ≡ true → BeginsNoComment bytes) → (o && nat_eq (get_or (bytes ++ behind) 0 0) 59) ≡ false ⊎ (bytes ≡ [])
uncommented false bytes behind h = inl refl
uncommented true [] behind h = inr refl
uncommented true (b ∷ rest) behind h = inl (let n : b ≢ 59 = h refl in grind (arith, nat_tests))

first-of-both : (bytes behind : List ℕ) → 1 ≤ length bytes → get_or (bytes ++ behind) 0 0 ≡ get_or bytes 0 0
first-of-both [] behind h = absurd (omega arith)
first-of-both (b ∷ rest) behind h = refl

no-feed-white : (b : ℕ) → is_white b ≡ false → b ≡ 10 → ⊥
no-feed-white b h e = grind (arith, nat_tests)

piece-read : (o : Bool) (front bytes behind : List ℕ) (t : Token) → IsCut front bytes behind t.kind → (o && nat_eq (get_or (bytes ++ behind) 0 0) 59) ≡ false → StandsAfter front bytes t → IsRead o front bytes behind t
piece-read o front bytes behind t c quiet s =
    let p : Place = place_after front in
    let piece : Piece = record { kind = t.kind; length = length bytes } in
    let dark : is_white (get_or (bytes ++ behind) 0 0) ≡ false = rw (first-of-both bytes behind c.some) c.dark in
    let size : length (bytes ++ behind) ≡ length bytes + length behind = length-append bytes behind in
    let same : token_at p piece ≡ t = same-token (token_at p piece) t refl (sym s.from) (sym s.to) (sym s.line) (sym s.column) in
    sym (front-none (tokens_after 0 o p (bytes ++ behind)))
    ∙ sym (piece-cut [] o p (bytes ++ behind) piece (omega (arith, c.some, size)) (no-feed-white _ dark) dark quiet c.read c.some (omega (arith, size)))
    ∙ ap (λ (x : List ℕ). with_front (token_at p piece ∷ []) (tokens_after 0 false (along (length bytes) p) x)) (drop-append_seam bytes behind)
    ∙ ap (λ (x : Token). with_front (x ∷ []) (tokens_after 0 false (along (length bytes) p) behind)) same
    ∙ ap (λ (q : Place). with_front (t ∷ []) (tokens_after 0 false q behind)) (sym (places-along front bytes c.unfed))
    ∙ ap (λ (x : Bool). with_front (t ∷ []) (tokens_after 0 x (place_after (front ++ bytes)) behind)) (sym c.closed)

other-read : (o : Bool) (front bytes behind : List ℕ) (t : Token) → IsCut front bytes behind t.kind → (o ≡ is_open_after front) ⊎ EndsLine (bytes ++ behind) → (is_open_after front ≡ true → BeginsNoComment bytes) → StandsAfter front bytes t → IsRead o front bytes behind t
other-read o front bytes behind t c (inr e) begins s = absurd (unended bytes behind c.some c.unfed e)
other-read o front bytes behind t c (inl e) begins s = by_comment (uncommented o bytes behind (λ (i : o ≡ true). begins (sym e ∙ i)))
  where
    by_comment : (o && nat_eq (get_or (bytes ++ behind) 0 0) 59) ≡ false ⊎ (bytes ≡ []) → IsRead o front bytes behind t
    by_comment (inl quiet) = piece-read o front bytes behind t c quiet s
    by_comment (inr none) = absurd (let some : 1 ≤ length bytes = c.some in let zero_long : length bytes ≡ 0 = ap length none in omega (arith, some, zero_long))

token-read : (o : Bool) (front bytes behind : List ℕ) (t : Token) (kind : TokenKind) → t.kind ≡ kind → bytes ≢ [] → Says kind bytes behind → (o ≡ is_open_after front) ⊎ EndsLine (bytes ++ behind) → (is_open_after front ≡ true → BeginsNoComment bytes) → StandsAfter front bytes t → IsRead o front bytes behind t
token-read o front bytes behind t token.LineEnd e some says known begins s = line-end-read o front bytes behind t some e says s
token-read o front bytes behind t token.Word e some says known begins s = other-read o front bytes behind t (subst (IsCut front bytes behind) (sym e) (piece-cut-again front bytes behind token.Word says (λ i. absurd (cc)))) known begins s
token-read o front bytes behind t (token.Number n) e some says known begins s = other-read o front bytes behind t (subst (IsCut front bytes behind) (sym e) (piece-cut-again front bytes behind (token.Number n) says (λ i. absurd (cc)))) known begins s
token-read o front bytes behind t (token.Str x) e some says known begins s = other-read o front bytes behind t (subst (IsCut front bytes behind) (sym e) (piece-cut-again front bytes behind (token.Str x) says (λ i. absurd (cc)))) known begins s

-- ---- all tokens

none-left : (o : Bool) (p : Place) → p.column ≡ 1 → tokens_after 0 o p [] ≡ Ok []
unfolding tokens_after
none-left o p e = let is_one : nat_eq p.column 1 ≡ true = rw e refl in rw is_one refl

line-left : (o : Bool) (p : Place) → p.column ≢ 1 → tokens_after 0 o p [] ≡ Ok (line_end p 0 ∷ [])
unfolding tokens_after
line-left o p n = let is_more : nat_eq p.column 1 ≡ false = grind (arith, nat_tests) in rw is_more refl

last-read : (front rest : List ℕ) (t : Token) → IsLast front rest t → tokens_behind front rest ≡ Ok (t ∷ [])
last-read front rest t h =
    let p : Place = place_after (front ++ rest) in
    let g : IsPassed front rest [] = gap-passed front rest [] h.between in
    let more : p.column ≢ 1 = λ (e : p.column ≡ 1). h.unended (omega (arith, e)) in
    let same : line_end p 0 ≡ t = same-token (line_end p 0) t (sym h.kind) (sym h.stands.from) (sym h.stands.to) (sym h.stands.line) (sym h.stands.column) in
    ap (tokens_behind front) (sym (append-nil rest)) ∙ g.passed ∙ line-left g.is_open p more ∙ ap (λ (x : Token). Ok (x ∷ [])) same

pub read-again : (front rest : List ℕ) (ts : List Token) → AreTokensAfter front rest ts → tokens_behind front rest ≡ Ok ts
read-again front rest [] h = ap (tokens_behind front) h.0 ∙ none-left (is_open_after front) (place_after front) (omega (arith, h.1))
read-again front rest (t ∷ ts) (inl h) = last-read front rest t h.0 ∙ ap (λ (xs : List Token). Ok (t ∷ xs)) (sym h.1)
read-again front rest (t ∷ ts) (inr h) =
    let gap : List ℕ = h.0 in
    let bytes : List ℕ = h.1 in
    let behind : List ℕ = h.2 in
    let n : IsNext front gap bytes behind t = h.4 in
    let g : IsPassed front gap (bytes ++ behind) = gap-passed front gap (bytes ++ behind) n.between in
    ap (tokens_behind front) h.3 ∙ g.passed
    ∙ token-read g.is_open (front ++ gap) bytes behind t t.kind refl n.some n.says g.known n.begins n.stands
    ∙ ap (with_front (t ∷ [])) (read-again (front ++ gap ++ bytes) behind ts h.5)
