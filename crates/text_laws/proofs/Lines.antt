-- Lines of words that are spelled are read again.
use Rattle.std.proofs.Common.{◌≡◌, ◌≢◌, ℕ, ◌+◌, ◌-◌, ◌≤◌, Bool, true, false, ◌&&◌, List, [], ◌∷◌, ◌++◌, Option, Some, None, Result, Ok, Err, length, get_or, take, drop, refl, arith, ap, ◌∙◌, sym, nat_eq}
use Rattle.std.specs.List.{flat_map, AllByRecursion}
use Rattle.std.proofs.lemmas.Bool.Decides.{nat_tests}
use Rattle.std.proofs.lemmas.List.{append_assoc, append-nil, length-append, drop-drop}
use Rattle.std.proofs.Math.Seq.{take-append_seam, drop-append_seam}
use Rattle.jasmin_text.specs.declared.piece.Piece.{Piece}
use Rattle.jasmin_text.specs.declared.place.Place.{Place}
use Rattle.jasmin_text.specs.declared.token.Token.{Token}
use Rattle.jasmin_text.specs.Pieces.{is_white}
use Rattle.jasmin_text.specs.Places.{along, next_line}
use Rattle.jasmin_text.specs.Spans.{BeginsWhite, slice_of}
use Rattle.jasmin_text.specs.Texts.{Spoiled, with_front, token_at, line_end, tokens_after, tokens_of}
use Rattle.jasmin_text.proofs.Turns.{piece-cut, front-none}
use Rattle.jasmin_lines.specs.declared.lexeme.Lexeme.{Lexeme}
use Rattle.jasmin_lines.specs.Lexemes.{PlainLine, lexeme_of, filled, lines_after}
use Rattle.text_laws.specs.Alike.{HasLines}
use Rattle.text_laws.specs.Spelled.{text_of, spaced, spelled_line, spelled, IsSpellable, IsSpellableLine, numbered}
use Rattle.text_laws.proofs.Pieces.{kind_by, piece-read, begins, Begins, said-again}

-- the lines of tokens, where the first line has these words already
abbrev pub seen : List ℕ → List Lexeme → Result (List Token) Spoiled → Result (List PlainLine) Spoiled
seen text words (Ok ts) = Ok (lines_after text words ts)
seen text words (Err f) = Err f

abbrev with_lines : List PlainLine → Result (List PlainLine) Spoiled → Result (List PlainLine) Spoiled
with_lines front (Ok lines) = Ok (front ++ lines)
with_lines front (Err f) = Err f

abbrev pub goes_on : List ℕ → List Lexeme → Token → List Token → Option Lexeme → List PlainLine
goes_on text words t ts (Some word) = lines_after text (words ++ word ∷ []) ts
goes_on text words t ts None = filled t.line words ++ lines_after text [] ts

lines-on : (text : List ℕ) (words : List Lexeme) (t : Token) (ts : List Token) → lines_after text words (t ∷ ts) ≡ goes_on text words t ts (lexeme_of text t)
unfolding lines_after
lines-on text words t ts = refl

word-seen : (text : List ℕ) (words : List Lexeme) (t : Token) (w : Lexeme) (r : Result (List Token) Spoiled) → lexeme_of text t ≡ Some w → seen text words (with_front (t ∷ []) r) ≡ seen text (words ++ w ∷ []) r
word-seen text words t w (Ok ts) e = ap Ok (lines-on text words t ts ∙ ap (goes_on text words t ts) e)
word-seen text words t w (Err f) e = refl

end-seen : (text : List ℕ) (words : List Lexeme) (p : Place) (r : Result (List Token) Spoiled) → seen text words (with_front (line_end p 1 ∷ []) r) ≡ with_lines (filled p.line words) (seen text [] r)
end-seen text words p (Ok ts) = ap Ok (lines-on text words (line_end p 1) ts)
end-seen text words p (Err f) = refl

-- ---- one word

not-comment : (o : Bool) (b : ℕ) → b ≢ 59 → (o && nat_eq b 59) ≡ false
not-comment true b h = grind (arith, nat_tests)
not-comment false b h = refl

front-first : (xs ys : List ℕ) → 1 ≤ length xs → get_or (xs ++ ys) 0 0 ≡ get_or xs 0 0
front-first [] ys h = absurd (omega arith)
front-first (x ∷ xs) ys h = refl

dark-feed : (b : ℕ) → is_white b ≡ false → b ≡ 10 → ⊥
dark-feed b h e = grind (arith, nat_tests)

pub token-bytes : (text : List ℕ) (o : ℕ) (word behind : List ℕ) → drop o text ≡ word ++ behind → slice_of text o (o + length word) ≡ word
token-bytes text o word behind e =
    let size : o + length word - o ≡ length word = omega arith in
    ap (λ (n : ℕ). take n (drop o text)) size ∙ ap (take (length word)) e ∙ take-append_seam word behind

pub token-behind : (text : List ℕ) (o : ℕ) (word behind : List ℕ) → drop o text ≡ word ++ behind → drop (o + length word) text ≡ behind
token-behind text o word behind e = sym (drop-drop (length word) o text) ∙ ap (drop (length word)) e ∙ drop-append_seam word behind

abbrev piece : Lexeme → Piece
piece w = record { kind = kind_by w; length = length (text_of w) }

word-cut : (w : Lexeme) (o : Bool) (p : Place) (behind : List ℕ) → IsSpellable w → BeginsWhite behind → tokens_after 0 o p (text_of w ++ behind) ≡ with_front (token_at p (piece w) ∷ []) (tokens_after 0 false (along (length (text_of w)) p) behind)
word-cut w o p behind h white =
    let b : Begins (text_of w) = begins w h in
    let first : get_or (text_of w ++ behind) 0 0 ≡ get_or (text_of w) 0 0 = front-first (text_of w) behind b.some in
    let dark : is_white (get_or (text_of w ++ behind) 0 0) ≡ false = rw first b.dark in
    let no_comment : get_or (text_of w ++ behind) 0 0 ≢ 59 = rw first b.no_comment in
    let size : length (text_of w ++ behind) ≡ length (text_of w) + length behind = length-append (text_of w) behind in
    sym (front-none (tokens_after 0 o p (text_of w ++ behind)))
    ∙ sym (piece-cut [] o p (text_of w ++ behind) (piece w) (omega (arith, b.some, size)) (λ e. dark-feed _ dark e) dark (not-comment o _ no_comment) (piece-read w behind h white) b.some (omega (arith, size)))
    ∙ ap (λ (x : List ℕ). with_front (token_at p (piece w) ∷ []) (tokens_after 0 false (along (length (text_of w)) p) x)) (drop-append_seam (text_of w) behind)

one-word : (text : List ℕ) (done : List Lexeme) (w : Lexeme) (o : Bool) (p : Place) (behind : List ℕ) → IsSpellable w → BeginsWhite behind → drop p.offset text ≡ text_of w ++ behind → seen text done (tokens_after 0 o p (text_of w ++ behind)) ≡ seen text (done ++ w ∷ []) (tokens_after 0 false (along (length (text_of w)) p) behind)
one-word text done w o p behind h white e =
    ap (seen text done) (word-cut w o p behind h white)
    ∙ word-seen text done (token_at p (piece w)) w (tokens_after 0 false (along (length (text_of w)) p) behind) (said-again w (slice_of text p.offset (p.offset + length (text_of w))) (token-bytes text p.offset (text_of w) behind e))

-- ---- one line

abbrev start : ℕ → ℕ → Place
start o line = record { offset = o; line = line; column = 1 }

-- what is seen of a line's rest, and where the next line begins
abbrev LineRead : List ℕ → List Lexeme → Bool → Place → List ℕ → List Lexeme → List ℕ → Type 0
LineRead text done is_open p bytes words after = (o : ℕ) × (drop o text ≡ after) × (seen text done (tokens_after 0 is_open p bytes) ≡ with_lines (filled p.line words) (seen text [] (tokens_after 0 true (start o (p.line + 1)) after)))

feed-cut : (p : Place) (after : List ℕ) → tokens_after 0 false p (10 ∷ after) ≡ with_front (line_end p 1 ∷ []) (tokens_after 0 true (next_line p) after)
unfolding tokens_after
feed-cut p after = refl

space-cut : (p : Place) (more : List ℕ) → tokens_after 0 false p (32 ∷ more) ≡ tokens_after 0 true (along 1 p) more
unfolding tokens_after
space-cut p more = refl

white-behind : (ws : List Lexeme) (after : List ℕ) → BeginsWhite (flat_map spaced ws ++ 10 ∷ after)
white-behind [] after = refl
white-behind (w ∷ ws) after = refl

rest-read : (text : List ℕ) (done ws : List Lexeme) (p : Place) (after : List ℕ) → AllByRecursion IsSpellable ws → drop p.offset text ≡ flat_map spaced ws ++ 10 ∷ after → LineRead text done false p (flat_map spaced ws ++ 10 ∷ after) (done ++ ws) after
rest-read text done [] p after h e =
    let next : drop (p.offset + 1) text ≡ after = sym (drop-drop 1 p.offset text) ∙ ap (drop 1) e in
    (p.offset + 1, next, ap (seen text done) (feed-cut p after) ∙ end-seen text done p (tokens_after 0 true (next_line p) after) ∙ ap (λ (x : List Lexeme). with_lines (filled p.line x) (seen text [] (tokens_after 0 true (next_line p) after))) (sym (append-nil done)))
rest-read text done (w ∷ ws) p after h e =
    let grouped : flat_map spaced (w ∷ ws) ++ 10 ∷ after ≡ 32 ∷ (text_of w ++ (flat_map spaced ws ++ 10 ∷ after)) = ap (λ (x : List ℕ). 32 ∷ x) (append_assoc (text_of w) (flat_map spaced ws) (10 ∷ after)) in
    let here : drop (p.offset + 1) text ≡ text_of w ++ (flat_map spaced ws ++ 10 ∷ after) = sym (drop-drop 1 p.offset text) ∙ ap (drop 1) (e ∙ grouped) in
    let there : drop (p.offset + 1 + length (text_of w)) text ≡ flat_map spaced ws ++ 10 ∷ after = token-behind text (p.offset + 1) (text_of w) (flat_map spaced ws ++ 10 ∷ after) here in
    let more : LineRead text (done ++ w ∷ []) false (along (length (text_of w)) (along 1 p)) (flat_map spaced ws ++ 10 ∷ after) ((done ++ w ∷ []) ++ ws) after = rest-read text (done ++ w ∷ []) ws (along (length (text_of w)) (along 1 p)) after h.1 there in (
      more.0,
      more.1,
      ap (λ (x : List ℕ). seen text done (tokens_after 0 false p x)) grouped ∙ ap (seen text done) (space-cut p (text_of w ++ (flat_map spaced ws ++ 10 ∷ after)))
          ∙ one-word text done w true (along 1 p) (flat_map spaced ws ++ 10 ∷ after) h.0 (white-behind ws after) here ∙ more.2
          ∙ ap (λ (x : List Lexeme). with_lines (filled p.line x) (seen text [] (tokens_after 0 true (start more.0 (p.line + 1)) after))) (append_assoc done (w ∷ []) ws),
    )

line-read : (text : List ℕ) (w : Lexeme) (ws : List Lexeme) (p : Place) (after : List ℕ) → IsSpellable w → AllByRecursion IsSpellable ws → drop p.offset text ≡ spelled_line (w ∷ ws) ++ after → LineRead text [] true p (spelled_line (w ∷ ws) ++ after) (w ∷ ws) after
line-read text w ws p after first rest e =
    let grouped : spelled_line (w ∷ ws) ++ after ≡ text_of w ++ (flat_map spaced ws ++ 10 ∷ after) = append_assoc (text_of w ++ flat_map spaced ws) (10 ∷ []) after ∙ append_assoc (text_of w) (flat_map spaced ws) (10 ∷ after) in
    let there : drop (p.offset + length (text_of w)) text ≡ flat_map spaced ws ++ 10 ∷ after = token-behind text p.offset (text_of w) (flat_map spaced ws ++ 10 ∷ after) (e ∙ grouped) in
    let more : LineRead text (w ∷ []) false (along (length (text_of w)) p) (flat_map spaced ws ++ 10 ∷ after) (w ∷ ws) after = rest-read text (w ∷ []) ws (along (length (text_of w)) p) after rest there in
    (more.0, more.1, ap (λ (x : List ℕ). seen text [] (tokens_after 0 true p x)) grouped ∙ one-word text [] w true p (flat_map spaced ws ++ 10 ∷ after) first (white-behind ws after) (e ∙ grouped) ∙ more.2)

-- ---- all lines

none-left : (o n : ℕ) → tokens_after 0 true (start o n) [] ≡ Ok []
unfolding tokens_after
none-left o n = refl

none-seen : (text : List ℕ) → lines_after text [] [] ≡ []
unfolding lines_after
none-seen text = refl

lines-read : (text : List ℕ) (o n : ℕ) (lines : List (List Lexeme)) → AllByRecursion IsSpellableLine lines → drop o text ≡ spelled lines → seen text [] (tokens_after 0 true (start o n) (spelled lines)) ≡ Ok (numbered n lines)
lines-read text o n [] h e = ap (seen text []) (none-left o n) ∙ ap Ok (none-seen text)
lines-read text o n ([] ∷ lines) h e = absurd h.0
lines-read text o n ((w ∷ ws) ∷ lines) h e =
    let line : LineRead text [] true (start o n) (spelled_line (w ∷ ws) ++ spelled lines) (w ∷ ws) (spelled lines) = line-read text w ws (start o n) (spelled lines) h.0.0 h.0.1 e in
    line.2 ∙ ap (with_lines (filled n (w ∷ ws))) (lines-read text line.0 (n + 1) lines h.1 line.1)

-- the tokens of lines that are seen
seen-is : (text : List ℕ) (r : Result (List Token) Spoiled) (lines : List PlainLine) → seen text [] r ≡ Ok lines → (tokens : List Token) × (r ≡ Ok tokens) × (lines_after text [] tokens ≡ lines)
seen-is text (Ok ts) lines e = (ts, refl, cc)
seen-is text (Err f) lines e = absurd (cc)

pub has-lines : (lines : List (List Lexeme)) → AllByRecursion IsSpellableLine lines → HasLines (spelled lines) lines
unfolding tokens_of
has-lines lines h = seen-is (spelled lines) (tokens_after 0 true (start 0 1) (spelled lines)) (numbered 1 lines) (lines-read (spelled lines) 0 1 lines h refl)
