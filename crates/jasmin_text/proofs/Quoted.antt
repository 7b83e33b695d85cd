-- A string that is read byte by byte.
use Rattle.std.proofs.Common.{◌≡◌, ℕ, ◌+◌, ◌-◌, ◌≤◌, ◌<◌, Bool, true, false, List, [], ◌∷◌, ◌++◌, Result, Ok, Err, length, get_or, take, drop, refl, arith, ap, sym, ◌∙◌}
use Rattle.std.proofs.lemmas.List.{append-nil, append_assoc, take_all}
use Rattle.jasmin_text.specs.declared.fault.Broken.{Broken}
use Rattle.jasmin_text.specs.declared.fault.TextKind.TheVariants.{OpenString}
use Rattle.jasmin_text.specs.declared.strings.Turn.{Turn}
use Rattle.jasmin_text.specs.declared.strings.Turn.TheVariants as turn
use Rattle.jasmin_text.specs.Pieces.{string_after, turn_of, turned, with_byte}

-- a string of which the bytes at the front stand for this text
abbrev pub with_text : List ℕ → Result (List ℕ × ℕ) Broken → Result (List ℕ × ℕ) Broken
with_text text (Err fault) = Err fault
with_text text (Ok string) = Ok (text ++ string.0, string.1)

-- what follows a list's first item
abbrev pub behind : List ℕ → List ℕ
behind xs = take (length xs - 1) (drop 1 xs)

pub behind-cons : (b : ℕ) (rest : List ℕ) → behind (b ∷ rest) ≡ rest
behind-cons b rest = take_all (length (b ∷ rest) - 1) rest (omega arith)

text-byte : (text : List ℕ) (b : ℕ) (r : Result (List ℕ × ℕ) Broken) → with_text text (with_byte b r) ≡ with_text (text ++ b ∷ []) r
text-byte text b (Err fault) = refl
text-byte text b (Ok string) = ap (λ (x : List ℕ). Ok (x, string.1)) (sym (append_assoc text (b ∷ []) string.0))

along_turn : (text : List ℕ) (e : Bool) (n b : ℕ) (rest : List ℕ) (t : Result Turn Broken) → turn_of e n b ≡ t → with_text text (string_after e n (b ∷ rest)) ≡ with_text text (turned n (string_after true (n + 1) rest) (string_after false (n + 1) rest) t)
unfolding string_after
along_turn text e n b rest t h = ap (λ (x : Result Turn Broken). with_text text (turned n (string_after true (n + 1) rest) (string_after false (n + 1) rest) x)) h

pub closed : (text : List ℕ) (e : Bool) (n : ℕ) (rest : List ℕ) → 1 ≤ length rest → turn_of e n (get_or rest 0 0) ≡ Ok turn.End → with_text text (string_after e n rest) ≡ Ok (text, n + 1)
closed text e n [] h t = absurd (omega arith)
closed text e n (b ∷ rest) h t = along_turn text e n b rest (Ok turn.End) t ∙ ap (λ (x : List ℕ). Ok (x, n + 1)) (append-nil text)

pub opened : (text : List ℕ) (e : Bool) (n : ℕ) (rest : List ℕ) → 1 ≤ length rest → turn_of e n (get_or rest 0 0) ≡ Ok turn.Backslash → with_text text (string_after true (n + 1) (behind rest)) ≡ with_text text (string_after e n rest)
opened text e n [] h t = absurd (omega arith)
opened text e n (b ∷ rest) h t = rw (behind-cons b rest) (sym (along_turn text e n b rest (Ok turn.Backslash) t))

pub extended : (text : List ℕ) (e : Bool) (n x : ℕ) (rest : List ℕ) → 1 ≤ length rest → turn_of e n (get_or rest 0 0) ≡ Ok (turn.Byte x) → with_text (text ++ x ∷ []) (string_after false (n + 1) (behind rest)) ≡ with_text text (string_after e n rest)
extended text e n x [] h t = absurd (omega arith)
extended text e n x (b ∷ rest) h t = rw (behind-cons b rest) (sym (along_turn text e n b rest (Ok (turn.Byte x)) t ∙ text-byte text x (string_after false (n + 1) rest)))

pub spoilt : (text : List ℕ) (e : Bool) (n : ℕ) (rest : List ℕ) (f : Broken) → 1 ≤ length rest → turn_of e n (get_or rest 0 0) ≡ Err f → with_text text (string_after e n rest) ≡ Err f
spoilt text e n [] f h t = absurd (omega arith)
spoilt text e n (b ∷ rest) f h t = along_turn text e n b rest (Err f) t

pub left_open : (text : List ℕ) (e : Bool) (n : ℕ) (rest : List ℕ) → length rest < 1 → with_text text (string_after e n rest) ≡ Err (record { kind = OpenString; before = 0 })
unfolding string_after
left_open text e n [] h = refl
left_open text e n (b ∷ rest) h = absurd (omega arith)

-- what is read from an empty text on is what is read
pub from_none : (r : Result (List ℕ × ℕ) Broken) → with_text [] r ≡ r
from_none (Err fault) = refl
from_none (Ok string) = refl
