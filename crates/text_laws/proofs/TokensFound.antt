-- What is read from a text are the tokens that it has.
use Rattle.std.proofs.Common.{◌≡◌, ◌≢◌, ℕ, zero, suc, ◌+◌, ◌≤◌, Bool, true, false, ◌&&◌, List, [], ◌∷◌, ◌++◌, Result, Ok, Err, length, get_or, take, drop, refl, arith, ap, sym, ◌∙◌, subst, nat_eq, cond, inl, inr}
use Rattle.std.specs.List.{list_any, AllByRecursion}
use Rattle.std.proofs.lemmas.Bool.Decides.{nat_tests}
use Rattle.std.proofs.lemmas.List.{append-nil, append_assoc, length-drop, length-take-le, take-append-drop}
use Rattle.std.proofs.Math.Seq.{drop-append_seam}
use Rattle.jasmin_text.specs.declared.fault.Broken.{Broken}
use Rattle.jasmin_text.specs.declared.piece.Piece.{Piece}
use Rattle.jasmin_text.specs.declared.place.Place.{Place}
use Rattle.jasmin_text.specs.declared.token.Token.{Token}
use Rattle.jasmin_text.specs.declared.token.TokenKind.{TokenKind}
use Rattle.jasmin_text.specs.declared.token.TokenKind.TheVariants as token
use Rattle.jasmin_text.specs.Pieces.{is_white, piece_at}
use Rattle.jasmin_text.specs.Places.{along, next_line}
use Rattle.jasmin_text.specs.Spans.{IsLineEnd, Says, slice_of, IsOf}
use Rattle.jasmin_text.specs.Texts.{Spoiled, spoiled, with_front, token_at, line_end, end_of_text, left_of_line, tokens_after}
use Rattle.jasmin_text.proofs.Skipping.{left-le}
use Rattle.jasmin_text.proofs.Turns.{skipped, piece-cut, piece-broken, front-none}
use Rattle.jasmin_text.proofs.Within.{piece-length, piece-positive}
use Rattle.text_laws.specs.Spelled.{BeginsNoComment}
use Rattle.text_laws.specs.Tokens.{is_feed, is_blank, line_length, is_open_after, StandsAfter, EndsLine, IsCommentIfAny, IsGap, IsNext, IsLast, AreTokensAfter}
use Rattle.text_laws.proofs.Tests.{is, and-first, and-second}
use Rattle.text_laws.proofs.Lines.{token-bytes, token-behind}
use Rattle.text_laws.proofs.TokenPlaces.{place_after, place-along, place-fed, places-along, along-along, shift, open-after, blank-white, blank-unfed, is-blank, line-longer, line-some}
use Rattle.text_laws.proofs.TokenBytes.{IsCut, piece-cut-again}
use Rattle.text_laws.proofs.TokensAgain.{go_on, goes-on, fed-first}

-- what is to be shown of each rest that is no longer than this
abbrev Finds : ℕ → List ℕ → Type 0
Finds m text = (front rest : List ℕ) (o : Bool) (ts : List Token) → length rest ≤ m → front ++ rest ≡ text → is_open_after front ≡ o → tokens_after 0 o (place_after front) rest ≡ Ok ts → AllByRecursion (IsOf text) ts → AreTokensAfter front rest ts

front-ok : (t : Token) (r : Result (List Token) Spoiled) (ts : List Token) → with_front (t ∷ []) r ≡ Ok ts → (more : List Token) × (r ≡ Ok more) × (t ∷ more ≡ ts)
front-ok t (Ok more) ts e = (more, refl, cc)
front-ok t (Err f) ts e = absurd (cc)

-- ---- a token after a gap

gap-token : (front gap bytes behind : List ℕ) (t : Token) (ts : List Token) → IsNext front gap bytes behind t → AreTokensAfter (front ++ gap ++ bytes) behind ts → AreTokensAfter front (gap ++ (bytes ++ behind)) (t ∷ ts)
gap-token front gap bytes behind t ts n more = inr (gap, bytes, behind, refl, n, more)

no-gap : (front behind : List ℕ) → IsGap front [] behind
no-gap front behind = record { blanks = []; comment = []; both = refl; white = refl; commented = inl refl }

comment-gap : (front : List ℕ) (b : ℕ) (rest behind : List ℕ) → b ≡ 59 → is_open_after front ≡ true → list_any is_feed rest ≡ false → EndsLine behind → IsGap front (b ∷ rest) behind
comment-gap front b rest behind e o h ends = record {
  blanks = [];
  comment = b ∷ rest;
  both = refl;
  white = refl;
  commented = inr (subst (λ (x : List ℕ). is_open_after x ≡ true) (sym (append-nil front)) o, (e, h, ends));
}

cons-some : (x : ℕ) (xs : List ℕ) → x ∷ xs ≢ []
cons-some x xs e = let long : length (x ∷ xs) ≡ 0 = ap length e in omega (arith, long)

feed-found : (m : ℕ) (text front gap rest : List ℕ) (ts : List Token) → Finds m text → length rest ≤ m → front ++ gap ++ (10 ∷ rest) ≡ text → IsGap front gap (10 ∷ rest) → with_front (line_end (place_after (front ++ gap)) 1 ∷ []) (tokens_after 0 true (next_line (place_after (front ++ gap))) rest) ≡ Ok ts → AllByRecursion (IsOf text) ts → AreTokensAfter front (gap ++ (10 ∷ rest)) ts
feed-found m text front gap rest ts finds le whole g e says =
    let there : List ℕ = front ++ gap in
    let t : Token = line_end (place_after there) 1 in
    let f = front-ok t (tokens_after 0 true (next_line (place_after there)) rest) ts e in
    let own : AllByRecursion (IsOf text) (t ∷ f.0) = subst (AllByRecursion (IsOf text)) (sym f.2) says in
    let on : tokens_after 0 true (place_after (there ++ 10 ∷ [])) rest ≡ Ok f.0 = ap (λ (p : Place). tokens_after 0 true p rest) (place-fed there) ∙ f.1 in
    let more : AreTokensAfter (there ++ 10 ∷ []) rest f.0 = finds (there ++ 10 ∷ []) rest true f.0 le (shift there 10 rest ∙ whole) (open-after there 10) on own.1 in
    let n : IsNext front gap (10 ∷ []) rest t = record {
      between = g;
      some = cons-some 10 [];
      says = (refl, refl);
      begins = λ _ (i : 10 ≡ 59). omega (arith, i);
      stands = record { from = refl; to = refl; line = refl; column = refl };
    } in
    subst (AreTokensAfter front (gap ++ (10 ∷ rest))) f.2 (gap-token front gap (10 ∷ []) rest t f.0 n more)

-- ---- white space

gap-longer : (front : List ℕ) (b : ℕ) (gap behind : List ℕ) → is_blank b ≡ true → IsGap (front ++ b ∷ []) gap behind → IsGap front (b ∷ gap) behind
gap-longer front b gap behind w g = record {
  blanks = b ∷ g.blanks;
  comment = g.comment;
  both = ap (λ (x : List ℕ). b ∷ x) g.both;
  white = rw w g.white;
  commented = subst (λ (x : List ℕ). IsCommentIfAny x g.comment behind) (shift front b g.blanks) g.commented;
}

last-longer : (front : List ℕ) (b : ℕ) (rest : List ℕ) (t : Token) → is_blank b ≡ true → IsLast (front ++ b ∷ []) rest t → IsLast front (b ∷ rest) t
last-longer front b rest t w h = record {
  between = gap-longer front b rest [] w h.between;
  unended = subst (λ (x : List ℕ). line_length x ≢ 0) (shift front b rest) h.unended;
  kind = h.kind;
  stands = subst (λ (x : List ℕ). StandsAfter x [] t) (shift front b rest) h.stands;
}

next-longer : (front : List ℕ) (b : ℕ) (gap bytes behind : List ℕ) (t : Token) → is_blank b ≡ true → IsNext (front ++ b ∷ []) gap bytes behind t → IsNext front (b ∷ gap) bytes behind t
next-longer front b gap bytes behind t w h = record {
  between = gap-longer front b gap (bytes ++ behind) w h.between;
  some = h.some;
  says = h.says;
  begins = subst (λ (x : List ℕ). is_open_after x ≡ true → BeginsNoComment bytes) (shift front b gap) h.begins;
  stands = subst (λ (x : List ℕ). StandsAfter x bytes t) (shift front b gap) h.stands;
}

blank-first : (front : List ℕ) (b : ℕ) (rest : List ℕ) (ts : List Token) → is_blank b ≡ true → AreTokensAfter (front ++ b ∷ []) rest ts → AreTokensAfter front (b ∷ rest) ts
blank-first front b rest [] w h = absurd (let longer : line_length (front ++ b ∷ []) ≡ line_length front + 1 = line-longer front b (blank-unfed b w) in omega (arith, longer, h.1))
blank-first front b rest (t ∷ ts) w (inl h) = inl (last-longer front b rest t w h.0, h.1)
blank-first front b rest (t ∷ ts) w (inr h) =
    inr (b ∷ h.0, h.1, h.2, ap (λ (x : List ℕ). b ∷ x) h.3, next-longer front b h.0 h.1 h.2 t w h.4, subst (λ (x : List ℕ). AreTokensAfter (x ++ h.1) h.2 ts) (shift front b h.0) h.5)

blank-found : (m : ℕ) (text front : List ℕ) (b : ℕ) (rest : List ℕ) (ts : List Token) → Finds m text → length rest ≤ m → front ++ (b ∷ rest) ≡ text → is_blank b ≡ true → tokens_after 0 true (along 1 (place_after front)) rest ≡ Ok ts → AllByRecursion (IsOf text) ts → AreTokensAfter front (b ∷ rest) ts
blank-found m text front b rest ts finds le whole w e says =
    let on : tokens_after 0 true (place_after (front ++ b ∷ [])) rest ≡ Ok ts = ap (λ (p : Place). tokens_after 0 true p rest) (place-along front b (blank-unfed b w)) ∙ e in
    blank-first front b rest ts w (finds (front ++ b ∷ []) rest true ts le (shift front b rest ∙ whole) (open-after front b ∙ blank-white b w) on says)

-- ---- the text's end

last-found : (front rest : List ℕ) (ts : List Token) → IsGap front rest [] → line_length (front ++ rest) ≢ 0 → end_of_text (place_after (front ++ rest)) ≡ ts → AreTokensAfter front rest ts
last-found front rest ts g n e =
    let p : Place = place_after (front ++ rest) in
    let more : nat_eq p.column 1 ≡ false = grind (arith, nat_tests) in
    let same : line_end p 0 ∷ [] ≡ ts = ap (λ (c : Bool). cond c [] (line_end p 0 ∷ [])) (sym more) ∙ e in
    let stands : StandsAfter (front ++ rest) [] (line_end p 0) = record { from = refl; to = refl; line = refl; column = refl } in
    subst (AreTokensAfter front rest) same (inl (record { between = g; unended = n; kind = refl; stands = stands }, refl))

end-found : (front : List ℕ) (ts : List Token) → end_of_text (place_after front) ≡ ts → AreTokensAfter front [] ts
end-found front ts e = by_length (line_length front) refl
  where
    by_length : (n : ℕ) → line_length front ≡ n → AreTokensAfter front [] ts
    by_length zero z =
        let is_one : nat_eq (line_length front + 1) 1 ≡ true = rw z refl in
        let none : [] ≡ ts = ap (λ (c : Bool). cond c [] (line_end (place_after front) 0 ∷ [])) (sym is_one) ∙ e in
        subst (AreTokensAfter front []) none (refl, z)
    by_length (suc n) z =
        last-found front [] ts (no-gap front [])
        (subst (λ (x : List ℕ). line_length x ≢ 0) (sym (append-nil front)) (λ (i : line_length front ≡ 0). omega (arith, z, i)))
        (subst (λ (x : List ℕ). end_of_text (place_after x) ≡ ts) (sym (append-nil front)) e)

end-read : (o : Bool) (p : Place) (ts : List Token) → tokens_after 0 o p [] ≡ Ok ts → end_of_text p ≡ ts
unfolding tokens_after
end-read o p ts e = cc

-- ---- comments

line-behind : (xs : List ℕ) → EndsLine (drop (left_of_line xs) xs)
line-behind [] = refl
line-behind (x ∷ xs) = by_first (line-behind xs) (is_feed x) refl
  where
    by_first : EndsLine (drop (left_of_line xs) xs) → (c : Bool) → is_feed x ≡ c → EndsLine (drop (left_of_line (x ∷ xs)) (x ∷ xs))
    by_first h true e = let none : left_of_line (x ∷ xs) ≡ 0 = rw e refl in subst (λ (n : ℕ). EndsLine (drop n (x ∷ xs))) (sym none) (rw e refl)
    by_first h false e =
        let longer : left_of_line (x ∷ xs) ≡ 1 + left_of_line xs = rw e refl in
        let more : left_of_line (x ∷ xs) ≡ suc (left_of_line xs) = omega (arith, longer) in
        subst (λ (n : ℕ). EndsLine (drop n (x ∷ xs))) (sym more) h

line-unfed : (xs : List ℕ) → list_any is_feed (take (left_of_line xs) xs) ≡ false
line-unfed [] = refl
line-unfed (x ∷ xs) = by_first (line-unfed xs) (is_feed x) refl
  where
    by_first : list_any is_feed (take (left_of_line xs) xs) ≡ false → (c : Bool) → is_feed x ≡ c → list_any is_feed (take (left_of_line (x ∷ xs)) (x ∷ xs)) ≡ false
    by_first h true e = let none : left_of_line (x ∷ xs) ≡ 0 = rw e refl in subst (λ (n : ℕ). list_any is_feed (take n (x ∷ xs)) ≡ false) (sym none) refl
    by_first h false e =
        let longer : left_of_line (x ∷ xs) ≡ 1 + left_of_line xs = rw e refl in
        let more : left_of_line (x ∷ xs) ≡ suc (left_of_line xs) = omega (arith, longer) in
        subst (λ (n : ℕ). list_any is_feed (take n (x ∷ xs)) ≡ false) (sym more) (rw e h)

fed-read : (p : Place) (rest : List ℕ) → tokens_after 0 true p (10 ∷ rest) ≡ with_front (line_end p 1 ∷ []) (tokens_after 0 true (next_line p) rest)
unfolding tokens_after
fed-read p rest = refl

behind-comment : (m : ℕ) (text front comment behind : List ℕ) (ts : List Token) → Finds m text → length behind ≤ m → front ++ comment ++ behind ≡ text → IsGap front comment behind → line_length (front ++ comment) ≢ 0 → EndsLine behind → tokens_after 0 true (place_after (front ++ comment)) behind ≡ Ok ts → AllByRecursion (IsOf text) ts → AreTokensAfter front (comment ++ behind) ts
behind-comment m text front comment [] ts finds le whole g n ends e says =
    subst (λ (x : List ℕ). AreTokensAfter front x ts) (sym (append-nil comment)) (last-found front comment ts g n (end-read true (place_after (front ++ comment)) ts e))
behind-comment m text front comment (b ∷ rest) ts finds le whole g n ends e says =
    at_feed b (is b 10 (fed-first b rest ends)) (omega (arith, le)) whole g e
  where
    at_feed : (x : ℕ) → x ≡ 10 → length rest ≤ m → front ++ comment ++ (x ∷ rest) ≡ text → IsGap front comment (x ∷ rest) → tokens_after 0 true (place_after (front ++ comment)) (x ∷ rest) ≡ Ok ts → AreTokensAfter front (comment ++ (x ∷ rest)) ts
    at_feed x i le' whole' g' e' =
        subst (λ (y : ℕ). AreTokensAfter front (comment ++ (y ∷ rest)) ts) (sym i)
        (feed-found m text front comment rest ts finds le'
        (subst (λ (y : ℕ). front ++ comment ++ (y ∷ rest) ≡ text) i whole')
        (subst (λ (y : ℕ). IsGap front comment (y ∷ rest)) i g')
        (sym (fed-read (place_after (front ++ comment)) rest) ∙ subst (λ (y : ℕ). tokens_after 0 true (place_after (front ++ comment)) (y ∷ rest) ≡ Ok ts) i e')
        says)

comment-found : (m : ℕ) (text front : List ℕ) (b : ℕ) (rest : List ℕ) (ts : List Token) → Finds m text → length rest ≤ m → front ++ (b ∷ rest) ≡ text → b ≡ 59 → is_open_after front ≡ true → tokens_after (left_of_line rest) true (along 1 (place_after front)) rest ≡ Ok ts → AllByRecursion (IsOf text) ts → AreTokensAfter front (b ∷ rest) ts
comment-found m text front b rest ts finds le whole i o e says =
    let n : ℕ = left_of_line rest in
    let p : Place = place_after front in
    let own : List ℕ = take n rest in
    let behind : List ℕ = drop n rest in
    let both : own ++ behind ≡ rest = take-append-drop n rest in
    let within : n ≤ length rest = left-le is_feed rest in
    let unfed : list_any is_feed (b ∷ own) ≡ false = let dark : is_feed b ≡ false = rw i refl in rw dark (line-unfed rest) in
    let size : 1 + n ≡ length (b ∷ own) = omega (arith, length-take-le n rest within) in
    let there : along n (along 1 p) ≡ place_after (front ++ (b ∷ own)) = along-along n 1 p ∙ ap (λ (k : ℕ). along k p) size ∙ sym (places-along front (b ∷ own) unfed) in
    let on : tokens_after 0 true (place_after (front ++ (b ∷ own))) behind ≡ Ok ts = ap (λ (q : Place). tokens_after 0 true q behind) (sym there) ∙ sym (skipped n true (along 1 p) rest within) ∙ e in
    let whole' : front ++ (b ∷ own) ++ behind ≡ text = append_assoc front (b ∷ own) behind ∙ ap (λ (x : List ℕ). front ++ (b ∷ x)) both ∙ whole in
    subst (λ (x : List ℕ). AreTokensAfter front (b ∷ x) ts) both
    (behind-comment m text front (b ∷ own) behind ts finds (omega (arith, length-drop n rest, le)) whole' (comment-gap front b own behind i o (line-unfed rest) (line-behind rest)) (line-some front b own unfed) (line-behind rest) on says)

-- ---- words and strings

front-piece : (n b : ℕ) (rest : List ℕ) → 1 ≤ n → get_or (take n (b ∷ rest)) 0 0 ≡ b
front-piece zero b rest h = absurd (omega arith)
front-piece (suc n) b rest h = refl

line-end-first : (bytes behind : List ℕ) → 1 ≤ length bytes → IsLineEnd bytes behind → get_or bytes 0 0 ≡ 10
line-end-first [] behind some h = absurd (omega arith)
line-end-first (b ∷ rest) behind some h = h.0

no-line-end : (kind : TokenKind) (bytes behind : List ℕ) → 1 ≤ length bytes → is_feed (get_or bytes 0 0) ≡ false → Says kind bytes behind → kind ≢ token.LineEnd
no-line-end kind bytes behind some dark says e =
    let first : get_or bytes 0 0 ≡ 10 = line-end-first bytes behind some (subst (λ (k : TokenKind). Says k bytes behind) e says) in
    let fed : is_feed (get_or bytes 0 0) ≡ true = rw first refl in
    absurd (cc)

no-comment : (o : Bool) (bytes : List ℕ) → 1 ≤ length bytes → (o && nat_eq (get_or bytes 0 0) 59) ≡ false → o ≡ true → BeginsNoComment bytes
no-comment o [] some h e = absurd (omega arith)
no-comment o (b ∷ rest) some h e = λ (i : b ≡ 59). let fed : (o && nat_eq b 59) ≡ true = rw (e, i) refl in absurd (cc)

piece-found : (m : ℕ) (text front bytes behind : List ℕ) (piece : Piece) (o : Bool) (ts : List Token) → Finds m text → 1 ≤ length bytes → length behind ≤ m → front ++ (bytes ++ behind) ≡ text → is_open_after front ≡ o → is_feed (get_or bytes 0 0) ≡ false → (o && nat_eq (get_or bytes 0 0) 59) ≡ false → piece.length ≡ length bytes → with_front (token_at (place_after front) piece ∷ []) (tokens_after 0 false (along piece.length (place_after front)) behind) ≡ Ok ts → AllByRecursion (IsOf text) ts → AreTokensAfter front (bytes ++ behind) ts
piece-found m text front bytes behind piece o ts finds some le whole opened dark quiet size e says =
    let p : Place = place_after front in
    let t : Token = token_at p piece in
    let f = front-ok t (tokens_after 0 false (along piece.length p) behind) ts e in
    let own : AllByRecursion (IsOf text) (t ∷ f.0) = subst (AllByRecursion (IsOf text)) (sym f.2) says in
    let there : drop (length front) text ≡ bytes ++ behind = ap (drop (length front)) (sym whole) ∙ drop-append_seam front (bytes ++ behind) in
    let said : Says piece.kind (slice_of text (length front) (length front + length bytes)) (drop (length front + length bytes) text) = subst (λ (n : ℕ). Says piece.kind (slice_of text (length front) (length front + n)) (drop (length front + n) text)) size own.0 in
    let said' : Says piece.kind bytes (drop (length front + length bytes) text) = subst (λ (x : List ℕ). Says piece.kind x (drop (length front + length bytes) text)) (token-bytes text (length front) bytes behind there) said in
    let says' : Says piece.kind bytes behind = subst (Says piece.kind bytes) (token-behind text (length front) bytes behind there) said' in
    let c : IsCut front bytes behind piece.kind = piece-cut-again front bytes behind piece.kind says' (no-line-end piece.kind bytes behind some dark says') in
    let along_bytes : place_after (front ++ bytes) ≡ along piece.length p = places-along front bytes c.unfed ∙ ap (λ (n : ℕ). along n p) (sym size) in
    let on : tokens_after 0 false (place_after (front ++ bytes)) behind ≡ Ok f.0 = ap (λ (q : Place). tokens_after 0 false q behind) along_bytes ∙ f.1 in
    let more : AreTokensAfter (front ++ bytes) behind f.0 = finds (front ++ bytes) behind false f.0 le (append_assoc front bytes behind ∙ whole) c.closed on own.1 in
    let stands : StandsAfter front bytes t = record { from = refl; to = ap (λ (n : ℕ). length front + n) size; line = refl; column = refl } in
    let same : front ++ [] ≡ front = append-nil front in
    let n : IsNext front [] bytes behind t = record {
      between = no-gap front (bytes ++ behind);
      some = λ (i : bytes ≡ []). let none : length bytes ≡ 0 = ap length i in omega (arith, some, none);
      says = says';
      begins = subst (λ (x : List ℕ). is_open_after x ≡ true → BeginsNoComment bytes) (sym same) (λ (i : is_open_after front ≡ true). no-comment o bytes some quiet (sym opened ∙ i));
      stands = subst (λ (x : List ℕ). StandsAfter x bytes t) (sym same) stands;
    } in
    subst (AreTokensAfter front (bytes ++ behind)) f.2 (gap-token front [] bytes behind t f.0 n (subst (λ (x : List ℕ). AreTokensAfter (x ++ bytes) behind f.0) (sym same) more))

no-feed : (b : ℕ) → is_feed b ≡ false → b ≡ 10 → ⊥
no-feed b h e = grind (arith, nat_tests)

some-piece : (m : ℕ) (text front : List ℕ) (b : ℕ) (rest : List ℕ) (o : Bool) (ts : List Token) → Finds m text → length rest ≤ m → front ++ (b ∷ rest) ≡ text → is_open_after front ≡ o → is_feed b ≡ false → is_white b ≡ false → (o && nat_eq b 59) ≡ false → tokens_after 0 o (place_after front) (b ∷ rest) ≡ Ok ts → AllByRecursion (IsOf text) ts → (r : Result Piece Broken) → piece_at (b ∷ rest) ≡ r → AreTokensAfter front (b ∷ rest) ts
some-piece m text front b rest o ts finds le whole opened unfed dark quiet e says (Err f) at =
    let refused : with_front [] (tokens_after 0 o (place_after front) (b ∷ rest)) ≡ Err (spoiled (place_after front) f) = piece-broken [] o (place_after front) (b ∷ rest) f (omega arith) (no-feed b unfed) dark quiet at in
    let read : Ok ts ≡ Err (spoiled (place_after front) f) = sym e ∙ sym (front-none (tokens_after 0 o (place_after front) (b ∷ rest))) ∙ refused in
    absurd (cc)
some-piece m text front b rest o ts finds le whole opened unfed dark quiet e says (Ok piece) at =
    let p : Place = place_after front in
    let n : ℕ = piece.length in
    let low : 1 ≤ n = piece-positive (b ∷ rest) piece (omega arith) dark at in
    let high : n ≤ length (b ∷ rest) = piece-length (b ∷ rest) piece at in
    let both : take n (b ∷ rest) ++ drop n (b ∷ rest) ≡ b ∷ rest = take-append-drop n (b ∷ rest) in
    let size : length (take n (b ∷ rest)) ≡ n = length-take-le n (b ∷ rest) high in
    let first : get_or (take n (b ∷ rest)) 0 0 ≡ b = front-piece n b rest low in
    let cut : with_front (token_at p piece ∷ []) (tokens_after 0 false (along n p) (drop n (b ∷ rest))) ≡ Ok ts =
    piece-cut [] o p (b ∷ rest) piece (omega arith) (no-feed b unfed) dark quiet at low high ∙ front-none (tokens_after 0 o p (b ∷ rest)) ∙ e in
    subst (λ (x : List ℕ). AreTokensAfter front x ts) both
    (piece-found m text front (take n (b ∷ rest)) (drop n (b ∷ rest)) piece o ts finds (omega (arith, low, size))
    (omega (arith, length-drop n (b ∷ rest), low, le))
    (ap (λ (x : List ℕ). front ++ x) both ∙ whole) opened (rw first unfed) (rw first quiet) (sym size) cut says)

-- ---- all tokens

by-first : (m : ℕ) (text front : List ℕ) (b : ℕ) (rest : List ℕ) (o : Bool) (ts : List Token) → Finds m text → length rest ≤ m → front ++ (b ∷ rest) ≡ text → is_open_after front ≡ o → tokens_after 0 o (place_after front) (b ∷ rest) ≡ Ok ts → AllByRecursion (IsOf text) ts → (x y z : Bool) → is_feed b ≡ x → is_white b ≡ y → (o && nat_eq b 59) ≡ z → go_on o (place_after front) b rest x y z ≡ Ok ts → AreTokensAfter front (b ∷ rest) ts
by-first m text front b rest o ts finds le whole opened e says true y z f w k on =
    let is_feed_byte : b ≡ 10 = is b 10 f in
    let same : front ++ [] ≡ front = append-nil front in
    subst (λ (x : ℕ). AreTokensAfter front (x ∷ rest) ts) (sym is_feed_byte)
    (feed-found m text front [] rest ts finds le (ap (λ (x : List ℕ). x ++ (10 ∷ rest)) same ∙ ap (λ (x : ℕ). front ++ (x ∷ rest)) (sym is_feed_byte) ∙ whole) (no-gap front (10 ∷ rest))
    (subst (λ (x : List ℕ). with_front (line_end (place_after x) 1 ∷ []) (tokens_after 0 true (next_line (place_after x)) rest) ≡ Ok ts) (sym same) on) says)
by-first m text front b rest o ts finds le whole opened e says false true z f w k on = blank-found m text front b rest ts finds le whole (is-blank b f w) on says
by-first m text front b rest o ts finds le whole opened e says false false true f w k on =
    comment-found m text front b rest ts finds le whole (is b 59 (and-second o (nat_eq b 59) k)) (opened ∙ and-first o (nat_eq b 59) k) on says
by-first m text front b rest o ts finds le whole opened e says false false false f w k on = some-piece m text front b rest o ts finds le whole opened f w k e says (piece_at (b ∷ rest)) refl

pub finds-all : (m : ℕ) (text front rest : List ℕ) (o : Bool) (ts : List Token) → length rest ≤ m → front ++ rest ≡ text → is_open_after front ≡ o → tokens_after 0 o (place_after front) rest ≡ Ok ts → AllByRecursion (IsOf text) ts → AreTokensAfter front rest ts
finds-all m text front [] o ts le whole opened e says = end-found front ts (end-read o (place_after front) ts e)
finds-all zero text front (b ∷ rest) o ts le whole opened e says = absurd (omega (arith, le))
finds-all (suc m) text front (b ∷ rest) o ts le whole opened e says =
    by-first m text front b rest o ts (finds-all m text) (omega (arith, le)) whole opened e says (is_feed b) (is_white b) (o && nat_eq b 59) refl refl refl (sym (goes-on o (place_after front) b rest) ∙ e)
