-- How the word of a member is split: at the first bracket, and at the last slash before it.
use Rattle.std.proofs.Common.{◌≡◌, ℕ, zero, suc, ◌+◌, ◌≤◌, Bool, true, false, List, [], ◌∷◌, ◌++◌, Option, Some, None, refl, ap, ◌∙◌, subst, arith, append_assoc, ◌⊎◌, inl, inr, ⊎_elim}
use Rattle.std.specs.Prelude.{not, ◌==◌, if◌then◌else◌, length, take, drop, nat_lt}
use Rattle.std.specs.List.{list_all, position_or_len}
use Rattle.std.proofs.lemmas.Bool.Decides.{nat_tests}
use Rattle.name_resolver.specs.Words.{split_at, described, parted, member}
use Rattle.jasmin_lines.specs.Words.{slash_from, last_slash}
use Rattle.name_resolver.specs.Calls.{class_part, name_part, desc_part}
use Rattle.shape_laws.proofs.Tests.{same, joined}
use Rattle.linking_laws.specs.Links.{IsMember, IsFieldOf, begins_with_bracket}
use Rattle.linking_laws.proofs.Numbered.{none_some, some_same}

abbrev pub without : ℕ → List ℕ → Bool
without b bytes = list_all (λ x. not (x == b)) bytes

-- ---- the first bracket

-- a front without brackets, and what begins with one
pub record Split (word : List ℕ) (parts : List ℕ × List ℕ) : Type 0 where
  pub is : word ≡ parts.0 ++ parts.1
  pub plain : without 40 parts.0 ≡ true
  pub begins : begins_with_bracket parts.1 ≡ true

-- a byte more before the bracket
split_more : (b : ℕ) (word : List ℕ) (parts : List ℕ × List ℕ) → (b == 40) ≡ false → Split word parts → Split (b ∷ word) (b ∷ parts.0, parts.1)
split_more b word parts other s = record { is = ap (λ (xs : List ℕ). b ∷ xs) s.is; plain = joined (not (b == 40)) (without 40 parts.0) (ap not other) s.plain; begins = s.begins }

-- the place of the first bracket, or the length where there is none
split_here : (word : List ℕ) → Split word (take (position_or_len (λ b. b == 40) word) word, drop (position_or_len (λ b. b == 40) word) word)
split_here [] = record { is = refl; plain = refl; begins = refl }
split_here (b ∷ word) = by (b == 40) refl (split_here word)
  where
    place : ℕ
    place = position_or_len (λ x. x == 40) word

    by : (c : Bool) → (b == 40) ≡ c → Split word (take place word, drop place word) → Split (b ∷ word) (take (if not c then 1 + place else 0) (b ∷ word), drop (if not c then 1 + place else 0) (b ∷ word))
    by true is s = record { is = refl; plain = refl; begins = is }
    by false is s =
        let next : suc place ≡ 1 + place = omega arith in
        subst (λ (n : ℕ). Split (b ∷ word) (take n (b ∷ word), drop n (b ∷ word))) next (split_more b word (take place word, drop place word) is s)

-- past the end
take_all : (n : ℕ) (xs : List ℕ) → length xs ≤ n → (take n xs ≡ xs) × (drop n xs ≡ [])
take_all zero [] h = (refl, refl)
take_all (suc n) [] h = (refl, refl)
take_all zero (x ∷ xs) h = absurd (omega (arith, h))
take_all (suc n) (x ∷ xs) h = let rest : (take n xs ≡ xs) × (drop n xs ≡ []) = take_all n xs (omega (arith, h)) in (ap (λ (ys : List ℕ). x ∷ ys) rest.0, rest.1)

-- a word up to its descriptor
pub described_split : (word : List ℕ) → Split word (described word)
described_split word = by (nat_lt place (length word)) refl
  where
    place : ℕ
    place = position_or_len (λ b. b == 40) word

    least : (n m : ℕ) → nat_lt n m ≡ false → m ≤ n
    least n m e = grind (arith, nat_tests)

    by : (c : Bool) → nat_lt place (length word) ≡ c → Split word (split_at word (if c then Some place else None))
    by true is = split_here word
    by false is =
        let all : (take place word ≡ word) × (drop place word ≡ []) = take_all place word (least place (length word) is) in
        subst (λ (parts : List ℕ × List ℕ). Split word parts) (ap (λ (xs : List ℕ). (xs, drop place word)) all.0 ∙ ap (λ (xs : List ℕ). (word, xs)) all.1) (split_here word)

-- ---- the last slash

-- it is an earlier one, with none in these bytes, or stands among them
record SlashAt (bytes : List ℕ) (j : ℕ) : Type 0 where
  is : bytes ≡ take j bytes ++ 47 ∷ drop (j + 1) bytes
  plain : without 47 (drop (j + 1) bytes) ≡ true

-- one place further
slash_more : (b : ℕ) (bytes : List ℕ) (j : ℕ) → SlashAt bytes j → SlashAt (b ∷ bytes) (j + 1)
slash_more b bytes j s =
    let next : suc j ≡ j + 1 = omega arith in
    let after : suc (j + 1) ≡ suc j + 1 = omega arith in
    subst (SlashAt (b ∷ bytes)) next (record {
      is = subst (λ (n : ℕ). b ∷ bytes ≡ take (suc j) (b ∷ bytes) ++ 47 ∷ drop n (b ∷ bytes)) after (ap (λ (xs : List ℕ). b ∷ xs) s.is);
      plain = subst (λ (n : ℕ). without 47 (drop n (b ∷ bytes)) ≡ true) after s.plain;
    })

slash_so : (n : ℕ) (bytes : List ℕ) (found : Option ℕ) (k : ℕ) → slash_from n bytes found ≡ Some k → ((found ≡ Some k) × (without 47 bytes ≡ true)) ⊎ ((j : ℕ) × (k ≡ n + j) × SlashAt bytes j)
slash_so n [] found k e = inl (e, refl)
slash_so n (b ∷ bytes) found k e = by (b == 47) refl e (λ o h. slash_so (n + 1) bytes o k h)
  where
    by : (c : Bool) → (b == 47) ≡ c → slash_from (n + 1) bytes (if c then Some n else found) ≡ Some k
        → ((o : Option ℕ) → slash_from (n + 1) bytes o ≡ Some k → ((o ≡ Some k) × (without 47 bytes ≡ true)) ⊎ ((j : ℕ) × (k ≡ n + 1 + j) × SlashAt bytes j)) → ((found ≡ Some k) × (without 47 (b ∷ bytes) ≡ true)) ⊎ ((j : ℕ) × (k ≡ n + j) × SlashAt (b ∷ bytes) j)
    by true is h again = ⊎_elim here further (again (Some n) h)
      where
        here : (Some n ≡ Some k) × (without 47 bytes ≡ true) → ((found ≡ Some k) × (without 47 (b ∷ bytes) ≡ true)) ⊎ ((j : ℕ) × (k ≡ n + j) × SlashAt (b ∷ bytes) j)
        here at =
            let slash : b ≡ 47 = same b 47 is in
            let place : n ≡ k = some_same n k at.0 in
            inr (0, omega (arith, place), record { is = ap (λ (x : ℕ). x ∷ bytes) slash; plain = at.1 })

        further : (j : ℕ) × (k ≡ n + 1 + j) × SlashAt bytes j → ((found ≡ Some k) × (without 47 (b ∷ bytes) ≡ true)) ⊎ ((j : ℕ) × (k ≡ n + j) × SlashAt (b ∷ bytes) j)
        further at = let place : k ≡ n + 1 + at.0 = at.1 in inr (at.0 + 1, omega (arith, place), slash_more b bytes at.0 at.2)
    by false is h again = ⊎_elim before further (again found h)
      where
        before : (found ≡ Some k) × (without 47 bytes ≡ true) → ((found ≡ Some k) × (without 47 (b ∷ bytes) ≡ true)) ⊎ ((j : ℕ) × (k ≡ n + j) × SlashAt (b ∷ bytes) j)
        before at = inl (at.0, joined (not (b == 47)) (without 47 bytes) (ap not is) at.1)

        further : (j : ℕ) × (k ≡ n + 1 + j) × SlashAt bytes j → ((found ≡ Some k) × (without 47 (b ∷ bytes) ≡ true)) ⊎ ((j : ℕ) × (k ≡ n + j) × SlashAt (b ∷ bytes) j)
        further at = let place : k ≡ n + 1 + at.0 = at.1 in inr (at.0 + 1, omega (arith, place), slash_more b bytes at.0 at.2)

-- a word with a slash, which has a class
pub record SlashIn (word : List ℕ) (parts : List ℕ × List ℕ) : Type 0 where
  pub is : word ≡ parts.0 ++ 47 ∷ parts.1
  pub plain : without 47 parts.1 ≡ true

-- the class is something, so there is a slash
pub member_split : (word : List ℕ) → ((member word).0 ≡ [] → ⊥) → SlashIn word (member word)
member_split word some = by (last_slash word) refl some
  where
    by : (o : Option ℕ) → last_slash word ≡ o → ((parted word o).0 ≡ [] → ⊥) → SlashIn word (parted word o)
    by None is none = absurd (none refl)
    by (Some k) is none = ⊎_elim (λ (h : (None ≡ Some k) × (without 47 word ≡ true)). absurd (none_some k h.0)) at (slash_so 0 word None k is)
      where
        at : (j : ℕ) × (k ≡ 0 + j) × SlashAt word j → SlashIn word (take k word, drop (k + 1) word)
        at h =
            let place : h.0 ≡ k = omega (arith, h.1) in
            let s : SlashAt word k = subst (SlashAt word) place h.2 in
            record { is = s.is; plain = s.plain }

-- a call's word
pub word_split : (word : List ℕ) → (class_part word ≡ [] → ⊥) → IsMember word (class_part word) (name_part word ++ desc_part word)
word_split word some = record {
  name = name_part word;
  desc = desc_part word;
  member_is = refl;
  word_is = first.is ∙ ap (λ (xs : List ℕ). xs ++ desc_part word) last.is ∙ append_assoc (class_part word) (47 ∷ name_part word) (desc_part word);
  no_bracket = subst (λ (xs : List ℕ). without 40 xs ≡ true) last.is first.plain;
  no_slash = last.plain;
  bracket = first.begins;
}
  where
    first : Split word (described word)
    first = described_split word

    last : SlashIn (described word).0 (member (described word).0)
    last = member_split (described word).0 some

-- a field's word
pub field_split : (word : List ℕ) → ((member word).0 ≡ [] → ⊥) → IsFieldOf word (member word).0
field_split word some = let s : SlashIn word (member word) = member_split word some in record { name = (member word).1; is = s.is; no_slash = s.plain }
