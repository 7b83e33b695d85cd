-- A word that is parted at a bracket or at its last slash.
use Rattle.std.proofs.Common.{◌≡◌, ℕ, suc, ◌+◌, ◌≤◌, ◌<◌, Bool, true, false, ◌&&◌, List, [], ◌∷◌, ◌++◌, Option, Some, None, Result, Ok, Err, length, take, drop, refl, arith, ap, sym, ◌∙◌, subst, cond, nat_eq, nat_lt, position, inl, inr, ◌⊎◌}
use Rattle.std.specs.List.{list_any, position_or_len}
use Rattle.std.proofs.lemmas.Bool.Decides.{nat_tests}
use Rattle.std.proofs.lemmas.List.{drop-drop, take-append-drop, length-append, length-drop}
use Rattle.std.proofs.Math.Seq.{take-append_seam, drop-append_seam}
use Rattle.jasmin_text.proofs.Skipping.{position-found}
use Rattle.jasmin_lines.specs.declared.fault.ReadKind.{ReadKind}
use Rattle.jasmin_lines.specs.declared.fault.ReadKind.TheVariants.{BadOperand}
use Rattle.jasmin_lines.specs.Words.{slash_from, last_slash, is_member_at, is_member, split_at, described, is_class_name}
use Rattle.text_laws.specs.WordRules.{is_among, IsDescribed, IsMemberOf}
use Rattle.text_laws.proofs.Tests.{is, or-first, or-second}

-- ---- the first byte of a kind

before-first : (p : ℕ → Bool) (bytes : List ℕ) → list_any p (take (position_or_len p bytes) bytes) ≡ false
before-first p [] = refl
before-first p (b ∷ rest) = by_first (before-first p rest) (p b) refl
  where
    by_first : list_any p (take (position_or_len p rest) rest) ≡ false → (c : Bool) → p b ≡ c → list_any p (take (position_or_len p (b ∷ rest)) (b ∷ rest)) ≡ false
    by_first h true e = let at : position_or_len p (b ∷ rest) ≡ 0 = rw e refl in subst (λ (n : ℕ). list_any p (take n (b ∷ rest)) ≡ false) (sym at) refl
    by_first h false e =
        let longer : position_or_len p (b ∷ rest) ≡ 1 + position_or_len p rest = rw e refl in
        let at : position_or_len p (b ∷ rest) ≡ suc (position_or_len p rest) = omega (arith, longer) in
        subst (λ (n : ℕ). list_any p (take n (b ∷ rest)) ≡ false) (sym at) (rw e h)

-- what stands at the first place that a test finds
abbrev BeginsBy : (ℕ → Bool) → List ℕ → Type 0
BeginsBy p [] = Unit {0}
BeginsBy p (b ∷ rest) = p b ≡ true

at-first : (p : ℕ → Bool) (bytes : List ℕ) → BeginsBy p (drop (position_or_len p bytes) bytes)
at-first p [] = tt
at-first p (b ∷ rest) = by_first (at-first p rest) (p b) refl
  where
    by_first : BeginsBy p (drop (position_or_len p rest) rest) → (c : Bool) → p b ≡ c → BeginsBy p (drop (position_or_len p (b ∷ rest)) (b ∷ rest))
    by_first h true e = let at : position_or_len p (b ∷ rest) ≡ 0 = rw e refl in subst (λ (n : ℕ). BeginsBy p (drop n (b ∷ rest))) (sym at) e
    by_first h false e =
        let longer : position_or_len p (b ∷ rest) ≡ 1 + position_or_len p rest = rw e refl in
        let at : position_or_len p (b ∷ rest) ≡ suc (position_or_len p rest) = omega (arith, longer) in
        subst (λ (n : ℕ). BeginsBy p (drop n (b ∷ rest))) (sym at) h

first-at : (p : ℕ → Bool) (front : List ℕ) (b : ℕ) (behind : List ℕ) → list_any p front ≡ false → p b ≡ true → position_or_len p (front ++ b ∷ behind) ≡ length front
first-at p [] b behind h e = rw e refl
first-at p (x ∷ front) b behind h e =
    let first : p x ≡ false = or-first (p x) (list_any p front) h in
    let longer : position_or_len p (x ∷ front ++ b ∷ behind) ≡ 1 + position_or_len p (front ++ b ∷ behind) = rw first refl in
    omega (arith, longer, first-at p front b behind (or-second (p x) (list_any p front) h) e)

position-is : (p : ℕ → Bool) (front : List ℕ) (b : ℕ) (behind : List ℕ) → list_any p front ≡ false → p b ≡ true → position p (front ++ b ∷ behind) ≡ Some (length front)
position-is p front b behind h e =
    let at : position_or_len p (front ++ b ∷ behind) ≡ length front = first-at p front b behind h e in
    let longer : length (front ++ b ∷ behind) ≡ length front + length (b ∷ behind) = length-append front (b ∷ behind) in
    let below : nat_lt (length front) (length (front ++ b ∷ behind)) ≡ true = grind (arith, nat_tests, longer) in
    rw (at, below) refl

-- ---- brackets

opening : (xs : List ℕ) → BeginsBy (λ b. nat_eq b 40) xs → 1 ≤ length xs → is_among 41 xs ≡ true → (behind : List ℕ) × (xs ≡ 40 ∷ behind) × (is_among 41 behind ≡ true)
opening [] h some e = absurd (omega arith)
opening (b ∷ rest) h some e =
    let bracket : b ≡ 40 = is b 40 h in
    (rest, ap (λ (x : ℕ). x ∷ rest) bracket, subst (λ (x : ℕ). is_among 41 (x ∷ rest) ≡ true) bracket e)

parts-at : (bytes : List ℕ) (parts : List ℕ × List ℕ) (n : ℕ) → n ≡ position_or_len (λ b. nat_eq b 40) bytes → n < length bytes → split_at bytes (Some n) ≡ Ok parts → IsDescribed bytes parts.0 parts.1
parts-at bytes parts n at below e = by_test (list_any (λ b. nat_eq b 41) (drop n bytes)) refl e
  where
    by_test : (c : Bool) → list_any (λ b. nat_eq b 41) (drop n bytes) ≡ c → cond {A = Result (List ℕ × List ℕ) ReadKind} c (Ok (take n bytes, drop n bytes)) (Err BadOperand) ≡ Ok parts → IsDescribed bytes parts.0 parts.1
    by_test true h e' =
        let same : (take n bytes, drop n bytes) ≡ parts = cc in
        let some : 1 ≤ length (drop n bytes) = omega (arith, length-drop n bytes, below) in
        let begins : BeginsBy (λ b. nat_eq b 40) (drop n bytes) = subst (λ (k : ℕ). BeginsBy (λ b. nat_eq b 40) (drop k bytes)) (sym at) (at-first (λ b. nat_eq b 40) bytes) in
        let none : is_among 40 (take n bytes) ≡ false = subst (λ (k : ℕ). is_among 40 (take k bytes) ≡ false) (sym at) (before-first (λ b. nat_eq b 40) bytes) in
        let o = opening (drop n bytes) begins some h in
        subst (λ (p : List ℕ × List ℕ). IsDescribed bytes p.0 p.1) same (o.0, sym (take-append-drop n bytes) ∙ ap (λ (x : List ℕ). take n bytes ++ x) o.1, none, o.1, o.2)
    by_test false h e' = absurd (cc)

pub described-is : (bytes : List ℕ) (parts : List ℕ × List ℕ) → described bytes ≡ Ok parts → IsDescribed bytes parts.0 parts.1
described-is bytes parts e = by_place (position (λ b. nat_eq b 40) bytes) refl e
  where
    by_place : (o : Option ℕ) → position (λ b. nat_eq b 40) bytes ≡ o → split_at bytes o ≡ Ok parts → IsDescribed bytes parts.0 parts.1
    by_place None h e' = absurd (cc)
    by_place (Some n) h e' = let f = position-found (λ b. nat_eq b 40) bytes n h in parts-at bytes parts n f.0 (omega (arith, f.0, f.1)) e'

pub described-again : (bytes name desc : List ℕ) → IsDescribed bytes name desc → described bytes ≡ Ok (name, desc)
described-again bytes name desc h =
    let behind : List ℕ = h.0 in
    let at : position (λ b. nat_eq b 40) (name ++ 40 ∷ behind) ≡ Some (length name) = position-is (λ b. nat_eq b 40) name 40 behind h.2 refl in
    let rest : drop (length name) (name ++ 40 ∷ behind) ≡ 40 ∷ behind = drop-append_seam name (40 ∷ behind) in
    let front : take (length name) (name ++ 40 ∷ behind) ≡ name = take-append_seam name (40 ∷ behind) in
    let closes : is_among 41 (40 ∷ behind) ≡ true = h.4 in
    let read : described (name ++ 40 ∷ behind) ≡ Ok (name, 40 ∷ behind) =
    ap (split_at (name ++ 40 ∷ behind)) at
    ∙ ap (λ (x : List ℕ). cond {A = Result (List ℕ × List ℕ) ReadKind} (is_among 41 x) (Ok (take (length name) (name ++ 40 ∷ behind), x)) (Err BadOperand)) rest
    ∙ ap (λ (c : Bool). cond {A = Result (List ℕ × List ℕ) ReadKind} c (Ok (take (length name) (name ++ 40 ∷ behind), 40 ∷ behind)) (Err BadOperand)) closes
    ∙ ap (λ (x : List ℕ). Ok (x, 40 ∷ behind)) front in
    ap described h.1 ∙ read ∙ ap (λ (x : List ℕ). Ok (name, x)) (sym h.3)

-- ---- slashes

slash-none : (n : ℕ) (xs : List ℕ) (found : Option ℕ) → is_among 47 xs ≡ false → slash_from n xs found ≡ found
slash-none n [] found h = refl
slash-none n (b ∷ rest) found h =
    ap (λ (c : Bool). slash_from (n + 1) rest (cond c (Some n) found)) (or-first (nat_eq b 47) (is_among 47 rest) h) ∙ slash-none (n + 1) rest found (or-second (nat_eq b 47) (is_among 47 rest) h)

slash-at : (n : ℕ) (class name : List ℕ) (found : Option ℕ) → is_among 47 name ≡ false → slash_from n (class ++ 47 ∷ name) found ≡ Some (n + length class)
slash-at n [] name found h = slash-none (n + 1) name (Some n) h ∙ ap (λ (k : ℕ). Some k) (omega arith)
slash-at n (c ∷ class) name found h = slash-at (n + 1) class name (cond (nat_eq c 47) (Some n) found) h ∙ ap (λ (k : ℕ). Some k) (omega arith)

-- the last slash among these bytes, or none, and then what was found before
abbrev SlashAt : ℕ → List ℕ → Option ℕ → ℕ → Type 0
SlashAt n xs found k = ((found ≡ Some k) × (is_among 47 xs ≡ false)) ⊎ ((class : List ℕ) × (name : List ℕ) × (xs ≡ class ++ 47 ∷ name) × (is_among 47 name ≡ false) × (k ≡ n + length class))

slash-more : (n b : ℕ) (rest : List ℕ) (found : Option ℕ) (k : ℕ) (c : Bool) → nat_eq b 47 ≡ c → SlashAt (n + 1) rest (cond c (Some n) found) k → SlashAt n (b ∷ rest) found k
slash-more n b rest found k c e (inr h) = inr (b ∷ h.0, h.1, ap (λ (x : List ℕ). b ∷ x) h.2, h.3, omega (arith, h.4))
slash-more n b rest found k true e (inl h) = let same : n ≡ k = cc in inr ([], rest, ap (λ (x : ℕ). x ∷ rest) (is b 47 e), h.1, omega (arith, same))
slash-more n b rest found k false e (inl h) = inl (h.0, rw e h.1)

slash-found : (n : ℕ) (xs : List ℕ) (found : Option ℕ) (k : ℕ) → slash_from n xs found ≡ Some k → SlashAt n xs found k
slash-found n [] found k e = inl (e, refl)
slash-found n (b ∷ rest) found k e = slash-more n b rest found k (nat_eq b 47) refl (slash-found (n + 1) rest (cond (nat_eq b 47) (Some n) found) k e)

name-behind : (class name : List ℕ) → drop (length class + 1) (class ++ 47 ∷ name) ≡ name
name-behind class name = sym (drop-drop 1 (length class) (class ++ 47 ∷ name)) ∙ ap (drop 1) (drop-append_seam class (47 ∷ name))

abbrev judged_at : (List ℕ → Bool) → List ℕ → ℕ → Bool
judged_at is_good bytes n = is_class_name (take n bytes) && is_good (drop (n + 1) bytes)

parted-so : (is_good : List ℕ → Bool) (class name : List ℕ) → judged_at is_good (class ++ 47 ∷ name) (length class) ≡ (is_class_name class && is_good name)
parted-so is_good class name =
    ap (λ (x : List ℕ). is_class_name x && is_good (drop (length class + 1) (class ++ 47 ∷ name))) (take-append_seam class (47 ∷ name))
    ∙ ap (λ (x : List ℕ). is_class_name class && is_good x) (name-behind class name)

abbrev IsPartedAs : (List ℕ → Bool) → List ℕ → Bool → Type 0
IsPartedAs is_good bytes good = (class : List ℕ) × (name : List ℕ) × IsMemberOf bytes class name × (good ≡ (is_class_name class && is_good name))

member-at : (is_good : List ℕ → Bool) (bytes : List ℕ) (good : Bool) (n : ℕ) → SlashAt 0 bytes None n → judged_at is_good bytes n ≡ good → IsPartedAs is_good bytes good
member-at is_good bytes good n (inl h) e = absurd (cc)
member-at is_good bytes good n (inr h) e =
    let at : n ≡ length h.0 = omega (arith, h.4) in
    let same : judged_at is_good bytes n ≡ judged_at is_good (h.0 ++ 47 ∷ h.1) (length h.0) = ap (λ (x : List ℕ). judged_at is_good x n) h.2 ∙ ap (judged_at is_good (h.0 ++ 47 ∷ h.1)) at in
    (h.0, h.1, (h.2, h.3), sym e ∙ same ∙ parted-so is_good h.0 h.1)

pub member-is : (is_good : List ℕ → Bool) (bytes : List ℕ) (good : Bool) → is_member is_good bytes ≡ Ok good → IsPartedAs is_good bytes good
member-is is_good bytes good e = by_place (last_slash bytes) refl e
  where
    by_place : (o : Option ℕ) → last_slash bytes ≡ o → is_member_at is_good bytes o ≡ Ok good → IsPartedAs is_good bytes good
    by_place None h e' = absurd (cc)
    by_place (Some n) h e' = let judged : judged_at is_good bytes n ≡ good = cc in member-at is_good bytes good n (slash-found 0 bytes None n h) judged

pub member-again : (is_good : List ℕ → Bool) (bytes class name : List ℕ) → IsMemberOf bytes class name → is_member is_good bytes ≡ Ok (is_class_name class && is_good name)
member-again is_good bytes class name h =
    ap (is_member is_good) h.0 ∙ ap (is_member_at is_good (class ++ 47 ∷ name)) (slash-at 0 class name None h.1 ∙ ap (λ (k : ℕ). Some k) (omega arith)) ∙ ap Ok (parted-so is_good class name)
