-- The bytes of a word and of a string, and that they are cut so again.
use Rattle.std.proofs.Common.{◌≡◌, ◌≢◌, ℕ, ◌+◌, ◌≤◌, Bool, true, false, List, [], ◌∷◌, ◌++◌, Option, Some, None, Result, Ok, Err, length, get_or, refl, arith, ap, sym, ◌∙◌, subst, nat_eq, cond}
use Rattle.std.specs.List.{list_any}
use Rattle.jasmin_text.specs.declared.fault.Broken.{Broken}
use Rattle.jasmin_text.specs.declared.strings.Turn.{Turn}
use Rattle.jasmin_text.specs.declared.strings.Turn.TheVariants as turn
use Rattle.jasmin_text.specs.declared.token.TokenKind.{TokenKind}
use Rattle.jasmin_text.specs.declared.token.TokenKind.TheVariants as token
use Rattle.jasmin_text.specs.Pieces.{is_white, is_plain, escaped, after_backslash, turn_of, turned, with_byte, string_after, string_piece, kind_of_word, piece_at}
use Rattle.jasmin_text.specs.Spans.{IsWord, IsString, Says}
use Rattle.text_laws.specs.Tokens.{is_feed, is_open_after}
use Rattle.text_laws.proofs.Tests.{is, or-first, or-second}
use Rattle.text_laws.proofs.Pieces.{word-piece}
use Rattle.text_laws.proofs.TokenPlaces.{dark-unfed, open-after, shift}

-- ---- words

dark-none-fed : (bytes : List ℕ) → list_any is_white bytes ≡ false → list_any is_feed bytes ≡ false
dark-none-fed [] h = refl
dark-none-fed (b ∷ rest) h = rw (dark-unfed b (or-first (is_white b) (list_any is_white rest) h)) (dark-none-fed rest (or-second (is_white b) (list_any is_white rest) h))

dark-closed : (front : List ℕ) (b : ℕ) (rest : List ℕ) → list_any is_white (b ∷ rest) ≡ false → is_open_after (front ++ (b ∷ rest)) ≡ false
dark-closed front b [] h = open-after front b ∙ or-first (is_white b) false h
dark-closed front b (c ∷ rest) h = ap is_open_after (sym (shift front b (c ∷ rest))) ∙ dark-closed (front ++ b ∷ []) c rest (or-second (is_white b) (list_any is_white (c ∷ rest)) h)

-- ---- a byte of a string

either-side : {A : Type 0} (P : A → Type 0) (c : Bool) (x y : A) → (c ≡ true → P x) → P y → P (cond c x y)
either-side P true x y px py = px refl
either-side P false x y px py = py

abbrev EndsByQuote : ℕ → Result Turn Broken → Type 0
EndsByQuote b (Ok turn.End) = b ≡ 34
EndsByQuote b (Ok turn.Backslash) = Unit {0}
EndsByQuote b (Ok (turn.Byte c)) = Unit {0}
EndsByQuote b (Err f) = Unit {0}

end-quote : (e : Bool) (n b : ℕ) → EndsByQuote b (turn_of e n b)
end-quote true n b = by_escape (escaped b)
  where
    by_escape : (o : Option ℕ) → EndsByQuote b (after_backslash n o)
    by_escape (Some x) = tt
    by_escape None = tt
end-quote false n b =
    either-side (EndsByQuote b) (nat_eq b 34) _ _ (is b 34)
    (either-side (EndsByQuote b) (nat_eq b 92) _ _ (λ _. tt)
    (either-side (EndsByQuote b) (is_plain b) _ _ (λ _. tt)
    (either-side (EndsByQuote b) (nat_eq b 10) _ _ (λ _. tt) tt)))

-- no line feed goes on with a string
abbrev IsRefused : Result Turn Broken → Type 0
IsRefused (Ok t) = ⊥
IsRefused (Err f) = Unit {0}

feed-refused : (e : Bool) (n : ℕ) → IsRefused (turn_of e n 10)
feed-refused true n = tt
feed-refused false n = tt

turn-unfed : (e : Bool) (n b : ℕ) (t : Turn) → turn_of e n b ≡ Ok t → is_feed b ≡ false
turn-unfed e n b t h = by_feed (is_feed b) refl
  where
    by_feed : (c : Bool) → is_feed b ≡ c → is_feed b ≡ false
    by_feed false i = i
    by_feed true i = absurd (subst IsRefused h (subst (λ (x : ℕ). IsRefused (turn_of e n x)) (sym (is b 10 i)) (feed-refused e n)))

-- ---- strings

on-turn : (e : Bool) (n b : ℕ) (rest : List ℕ) (t : Result Turn Broken) → turn_of e n b ≡ t → string_after e n (b ∷ rest) ≡ turned n (string_after true (n + 1) rest) (string_after false (n + 1) rest) t
unfolding string_after
on-turn e n b rest t h = ap (turned n (string_after true (n + 1) rest) (string_after false (n + 1) rest)) h

abbrev OnString : (List ℕ × ℕ → Type 0) → Result (List ℕ × ℕ) Broken → Type 0
OnString P (Ok s) = P s
OnString P (Err f) = Unit {0}

under-byte : (P : List ℕ × ℕ → Type 0) (b : ℕ) (r : Result (List ℕ × ℕ) Broken) → OnString (λ (s : List ℕ × ℕ). P (b ∷ s.0, s.1)) r → OnString P (with_byte b r)
under-byte P b (Ok s) h = h
under-byte P b (Err f) h = tt

-- what is read of a string is read of it with more bytes behind it
abbrev ReadsOn : Bool → ℕ → List ℕ → Result (List ℕ × ℕ) Broken → Type 0
ReadsOn e n bytes r = OnString (λ (s : List ℕ × ℕ). string_after e n bytes ≡ Ok s) r

byte-on : (e : Bool) (n b c : ℕ) (rest : List ℕ) (r : Result (List ℕ × ℕ) Broken) → turn_of e n b ≡ Ok (turn.Byte c) → ReadsOn false (n + 1) rest r → ReadsOn e n (b ∷ rest) (with_byte c r)
byte-on e n b c rest (Ok s) h a = on-turn e n b rest (Ok (turn.Byte c)) h ∙ ap (with_byte c) a
byte-on e n b c rest (Err f) h a = tt

escape-on : (e : Bool) (n b : ℕ) (rest : List ℕ) (r : Result (List ℕ × ℕ) Broken) → turn_of e n b ≡ Ok turn.Backslash → ReadsOn true (n + 1) rest r → ReadsOn e n (b ∷ rest) r
escape-on e n b rest (Ok s) h a = on-turn e n b rest (Ok turn.Backslash) h ∙ a
escape-on e n b rest (Err f) h a = tt

turn-on : (e : Bool) (n b : ℕ) (rest : List ℕ) (x y : Result (List ℕ × ℕ) Broken) (t : Result Turn Broken) → turn_of e n b ≡ t → ReadsOn true (n + 1) rest x → ReadsOn false (n + 1) rest y → ReadsOn e n (b ∷ rest) (turned n x y t)
turn-on e n b rest x y (Ok turn.End) h hx hy = on-turn e n b rest (Ok turn.End) h
turn-on e n b rest x y (Ok turn.Backslash) h hx hy = escape-on e n b rest x h hx
turn-on e n b rest x y (Ok (turn.Byte c)) h hx hy = byte-on e n b c rest y h hy
turn-on e n b rest x y (Err f) h hx hy = tt

reads-on : (e : Bool) (n : ℕ) (bytes behind : List ℕ) → ReadsOn e n (bytes ++ behind) (string_after e n bytes)
unfolding string_after
reads-on e n [] behind = tt
reads-on e n (b ∷ rest) behind = turn-on e n b (rest ++ behind) (string_after true (n + 1) rest) (string_after false (n + 1) rest) (turn_of e n b) refl (reads-on true (n + 1) rest behind) (reads-on false (n + 1) rest behind)

-- a string of all these bytes has no line feed, and no comment can begin behind it
record IsClosed (front bytes : List ℕ) : Type 0 where
  unfed : list_any is_feed bytes ≡ false
  closed : is_open_after (front ++ bytes) ≡ false

closed-more : (front : List ℕ) (b : ℕ) (rest : List ℕ) → is_feed b ≡ false → IsClosed (front ++ b ∷ []) rest → IsClosed front (b ∷ rest)
closed-more front b rest f c = record { unfed = rw f c.unfed; closed = ap is_open_after (sym (shift front b rest)) ∙ c.closed }

abbrev ClosesAt : List ℕ → ℕ → List ℕ → Result (List ℕ × ℕ) Broken → Type 0
ClosesAt front n bytes r = OnString (λ (s : List ℕ × ℕ). s.1 ≡ n + length bytes → IsClosed front bytes) r

end-closes : (front : List ℕ) (n b : ℕ) (rest : List ℕ) → b ≡ 34 → n + 1 ≡ n + length (b ∷ rest) → IsClosed front (b ∷ rest)
end-closes front n b [] q h = record { unfed = rw q refl; closed = open-after front b ∙ ap is_white q }
end-closes front n b (c ∷ rest) q h = absurd (omega (arith, h))

step-closes : (front : List ℕ) (n b : ℕ) (rest : List ℕ) (r : Result (List ℕ × ℕ) Broken) → is_feed b ≡ false → ClosesAt (front ++ b ∷ []) (n + 1) rest r → ClosesAt front n (b ∷ rest) r
step-closes front n b rest (Ok s) f h = λ (e : s.1 ≡ n + length (b ∷ rest)). let less : s.1 ≡ n + 1 + length rest = omega (arith, e) in closed-more front b rest f (h less)
step-closes front n b rest (Err x) f h = tt

byte-closes : (front : List ℕ) (n b c : ℕ) (rest : List ℕ) (r : Result (List ℕ × ℕ) Broken) → is_feed b ≡ false → ClosesAt (front ++ b ∷ []) (n + 1) rest r → ClosesAt front n (b ∷ rest) (with_byte c r)
byte-closes front n b c rest (Ok s) f h = λ (e : s.1 ≡ n + length (b ∷ rest)). let less : s.1 ≡ n + 1 + length rest = omega (arith, e) in closed-more front b rest f (h less)
byte-closes front n b c rest (Err x) f h = tt

turn-closes : (front : List ℕ) (e : Bool) (n b : ℕ) (rest : List ℕ) (x y : Result (List ℕ × ℕ) Broken) (t : Result Turn Broken) → turn_of e n b ≡ t → EndsByQuote b t → ClosesAt (front ++ b ∷ []) (n + 1) rest x → ClosesAt (front ++ b ∷ []) (n + 1) rest y → ClosesAt front n (b ∷ rest) (turned n x y t)
turn-closes front e n b rest x y (Ok turn.End) h q hx hy = end-closes front n b rest q
turn-closes front e n b rest x y (Ok turn.Backslash) h q hx hy = step-closes front n b rest x (turn-unfed e n b turn.Backslash h) hx
turn-closes front e n b rest x y (Ok (turn.Byte c)) h q hx hy = byte-closes front n b c rest y (turn-unfed e n b (turn.Byte c) h) hy
turn-closes front e n b rest x y (Err f) h q hx hy = tt

closes : (front : List ℕ) (e : Bool) (n : ℕ) (bytes : List ℕ) → ClosesAt front n bytes (string_after e n bytes)
unfolding string_after
closes front e n [] = tt
closes front e n (b ∷ rest) = turn-closes front e n b rest (string_after true (n + 1) rest) (string_after false (n + 1) rest) (turn_of e n b) refl (end-quote e n b) (closes (front ++ b ∷ []) true (n + 1) rest) (closes (front ++ b ∷ []) false (n + 1) rest)

-- ---- pieces

-- a piece of these bytes, cut where more bytes stand behind it
pub record IsCut (front bytes behind : List ℕ) (kind : TokenKind) : Type 0 where
  pub read : piece_at (bytes ++ behind) ≡ Ok (record { kind = kind; length = length bytes })
  pub some : 1 ≤ length bytes
  pub dark : is_white (get_or bytes 0 0) ≡ false
  pub unfed : list_any is_feed bytes ≡ false
  pub closed : is_open_after (front ++ bytes) ≡ false

word-cut : (front bytes behind : List ℕ) (kind : TokenKind) → IsWord bytes behind → kind_of_word bytes ≡ Ok kind → IsCut front bytes behind kind
word-cut front [] behind kind h k = absurd h
word-cut front (b ∷ rest) behind kind h k = record {
  read = word-piece (b ∷ rest) behind kind h.1 k h.0 h.2;
  some = omega arith;
  dark = or-first (is_white b) (list_any is_white rest) h.1;
  unfed = dark-none-fed (b ∷ rest) h.1;
  closed = dark-closed front b rest h.1;
}

string-cut : (front bytes behind text : List ℕ) → IsString text bytes → IsCut front bytes behind (token.Str text)
string-cut front [] behind text h = absurd h
string-cut front (b ∷ rest) behind text h =
    let on : string_after false 1 (rest ++ behind) ≡ Ok (text, length rest + 1) = subst (ReadsOn false 1 (rest ++ behind)) h.1 (reads-on false 1 rest behind) in
    let size : length rest + 1 ≡ 1 + length rest = omega arith in
    let long : length rest + 1 ≡ length (b ∷ rest) = omega arith in
    let c : IsClosed (front ++ b ∷ []) rest = subst (ClosesAt (front ++ b ∷ []) 1 rest) h.1 (closes (front ++ b ∷ []) false 1 rest) size in
    let unquoted : is_feed b ≡ false = rw h.0 refl in
    let whole : IsClosed front (b ∷ rest) = closed-more front b rest unquoted c in
    let quote : nat_eq b 34 ≡ true = rw h.0 refl in
    record {
      read = rw quote (ap string_piece on ∙ ap (λ (n : ℕ). Ok (record { kind = token.Str text; length = n })) long);
      some = omega arith;
      dark = rw h.0 refl;
      unfed = whole.unfed;
      closed = whole.closed;
    }

pub piece-cut-again : (front bytes behind : List ℕ) (kind : TokenKind) → Says kind bytes behind → kind ≢ token.LineEnd → IsCut front bytes behind kind
piece-cut-again front bytes behind token.LineEnd h n = absurd (n refl)
piece-cut-again front bytes behind token.Word h n = word-cut front bytes behind token.Word h.0 h.1
piece-cut-again front bytes behind (token.Number x) h n = word-cut front bytes behind (token.Number x) h.0 h.1
piece-cut-again front bytes behind (token.Str text) h n = string-cut front bytes behind text h
