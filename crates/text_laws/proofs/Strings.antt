-- A text between quotes is read from what is written of it.
use Rattle.std.proofs.Common.{◌≡◌, ℕ, ◌+◌, true, false, nat_eq, List, [], ◌∷◌, ◌++◌, Some, Ok, length, drop, refl, arith, ap, ◌∙◌, sym}
use Rattle.std.specs.List.{list_all, flat_map}
use Rattle.std.proofs.lemmas.Bool.Decides.{nat_tests}
use Rattle.std.proofs.lemmas.List.{append_assoc, length-append}
use Rattle.jasmin_text.specs.declared.strings.Turn.TheVariants as turn
use Rattle.jasmin_text.specs.Pieces.{is_plain, escaped, turn_of, with_byte, string_after}
use Rattle.jasmin_writer.specs.Canonical.{quoted_byte, quoted}
use Rattle.text_laws.specs.Sizes.{is_held, is_quotable}
use Rattle.text_laws.proofs.Tests.{tested, is, and-first, and-second}

-- a byte after a backslash
escape-read : (n e c : ℕ) (rest : List ℕ) → escaped e ≡ Some c → string_after false n (92 ∷ e ∷ rest) ≡ with_byte c (string_after false (n + 1 + 1) rest)
unfolding string_after
escape-read n e c rest h = rw h refl

byte-read : (n b : ℕ) (rest : List ℕ) → turn_of false n b ≡ Ok (turn.Byte b) → string_after false n (b ∷ rest) ≡ with_byte b (string_after false (n + 1) rest)
unfolding string_after
byte-read n b rest h = rw h refl

plain-turn : (n b : ℕ) → is_held b ≡ true → nat_eq b 10 ≡ false → nat_eq b 9 ≡ false → nat_eq b 13 ≡ false → nat_eq b 34 ≡ false → nat_eq b 92 ≡ false → turn_of false n b ≡ Ok (turn.Byte b)
plain-turn n b held feed tab back quote slash =
    let plain : is_plain b ≡ true = grind (arith, nat_tests) in
    rw (quote, slash, plain) refl

abbrev IsRead : ℕ → ℕ → List ℕ → List ℕ → Type 0
IsRead n b rest written = string_after false n (written ++ rest) ≡ with_byte b (string_after false (n + length written) rest)

two-read : (n e b : ℕ) (rest : List ℕ) → escaped e ≡ Some b → IsRead n b rest (92 ∷ e ∷ [])
two-read n e b rest h =
    let place : n + 1 + 1 ≡ n + length (92 ∷ e ∷ []) = omega arith in
    escape-read n e b rest h ∙ ap (λ (m : ℕ). with_byte b (string_after false m rest)) place

held-read : (n b : ℕ) (rest : List ℕ) → is_held b ≡ true → IsRead n b rest (quoted_byte b)
held-read n b rest held =
    tested (IsRead n b rest) (nat_eq b 10) _ _ (λ (e : nat_eq b 10 ≡ true). two-read n 110 b rest (ap Some (sym (is b 10 e))))
    (λ (feed : nat_eq b 10 ≡ false). tested (IsRead n b rest) (nat_eq b 9) _ _ (λ (e : nat_eq b 9 ≡ true). two-read n 116 b rest (ap Some (sym (is b 9 e))))
    (λ (tab : nat_eq b 9 ≡ false). tested (IsRead n b rest) (nat_eq b 13) _ _ (λ (e : nat_eq b 13 ≡ true). two-read n 114 b rest (ap Some (sym (is b 13 e))))
    (λ (back : nat_eq b 13 ≡ false). tested (IsRead n b rest) (nat_eq b 34) _ _ (λ (e : nat_eq b 34 ≡ true). two-read n 34 b rest (ap Some (sym (is b 34 e))))
    (λ (quote : nat_eq b 34 ≡ false). tested (IsRead n b rest) (nat_eq b 92) _ _ (λ (e : nat_eq b 92 ≡ true). two-read n 92 b rest (ap Some (sym (is b 92 e))))
    (λ (slash : nat_eq b 92 ≡ false). byte-read n b rest (plain-turn n b held feed tab back quote slash))))))

end-read : (n : ℕ) (behind : List ℕ) → string_after false n (34 ∷ behind) ≡ Ok ([], n + 1)
unfolding string_after
end-read n behind = refl

text-read : (n : ℕ) (text behind : List ℕ) → is_quotable text ≡ true → string_after false n (flat_map quoted_byte text ++ 34 ∷ behind) ≡ Ok (text, n + length (flat_map quoted_byte text) + 1)
text-read n [] behind h = end-read n behind ∙ ap (λ (m : ℕ). Ok ([], m)) (omega arith)
text-read n (b ∷ text) behind h =
    let size : n + length (quoted_byte b) + length (flat_map quoted_byte text) + 1 ≡ n + length (quoted_byte b ++ flat_map quoted_byte text) + 1 = omega (arith, length-append (quoted_byte b) (flat_map quoted_byte text)) in
    ap (string_after false n) (append_assoc (quoted_byte b) (flat_map quoted_byte text) (34 ∷ behind))
    ∙ held-read n b (flat_map quoted_byte text ++ 34 ∷ behind) (and-first (is_held b) (list_all is_held text) h)
    ∙ ap (with_byte b) (text-read (n + length (quoted_byte b)) text behind (and-second (is_held b) (list_all is_held text) h))
    ∙ ap (λ (m : ℕ). Ok (b ∷ text, m)) size

pub string-read : (text behind : List ℕ) → is_quotable text ≡ true → string_after false 1 (drop 1 (quoted text) ++ behind) ≡ Ok (text, length (quoted text))
string-read text behind h =
    let size : 1 + length (flat_map quoted_byte text) + 1 ≡ length (quoted text) = omega (arith, length-append (flat_map quoted_byte text) (34 ∷ [])) in
    ap (string_after false 1) (append_assoc (flat_map quoted_byte text) (34 ∷ []) behind) ∙ text-read 1 text behind h
    ∙ ap (λ (m : ℕ). Ok (text, m)) size
