-- The kinds of a descriptor that is let through are those that it spells.
use Rattle.std.proofs.Common.{◌≡◌, ℕ, zero, suc, ◌+◌, ◌<◌, ◌≤◌, Bool, true, false, List, [], ◌∷◌, ◌++◌, Option, Some, None, refl, sym, ap, ◌∙◌, subst, arith, append_assoc, append-nil}
use Rattle.std.specs.Prelude.{not, ◌||◌, ◌==◌, if◌then◌else◌, nat_lt, length, take, drop, position, codes, bytes_eq, map, flat_map, unwrap_or}
use Rattle.std.specs.List.{AllZip, list_any, position_or_len}
use Rattle.std.proofs.lemmas.Bool.{false≢true}
use Rattle.std.proofs.lemmas.Bool.Decides.{nat_tests}
use Rattle.std.proofs.lemmas.Slice.Eq.{bytes_eq-Decides}
use Rattle.vm_model.specs.declared.value.Kind.{Kind}
use Rattle.vm_model.specs.declared.value.Kind.TheVariants as kind
use Rattle.jasmin_lines.specs.Plain.{PlainClassText, PlainMethodText}
use Rattle.jasmin_lines.specs.Words.{is_class_name}
use Rattle.name_resolver.specs.declared.descriptors.Typed.{Typed}
use Rattle.name_resolver.specs.declared.descriptors.Typed.TheVariants as typed
use Rattle.name_resolver.specs.Index.{Rows}
use Rattle.name_resolver.specs.Descriptors.{class_of, by_class, by_name, class_type, array_of, is_foreign, base_at, dimensions, type_at, is_bad, unless_bad, types_within, whole, type_of, PlainSignature, given, parts_at, signature_of, args_signature, method_signature, is_unknown, is_outside, in_given, in_signature, kind_of, kind_given}
use Rattle.shape_laws.proofs.Tests.{same}
use Rattle.linking_laws.specs.Declared.{IsClass}
use Rattle.linking_laws.specs.Links.{Spells, SpellsResult, SpellsMethod, takes_texts, IsSignature, OfMain, Spelled}
use Rattle.linking_laws.proofs.Judged.{neither}

-- ---- where a byte stands

-- at the place where it stands first
record Parted (b : ℕ) (bytes : List ℕ) (n : ℕ) : Type 0 where
  is : bytes ≡ take n bytes ++ b ∷ drop (n + 1) bytes

here_parted : (b : ℕ) (bytes : List ℕ) → position_or_len (λ x. x == b) bytes < length bytes → Parted b bytes (position_or_len (λ x. x == b) bytes)
here_parted b [] h = absurd (omega (arith, h))
here_parted b (x ∷ bytes) h = by (x == b) refl h (here_parted b bytes)
  where
    place : ℕ
    place = position_or_len (λ y. y == b) bytes

    by : (c : Bool) → (x == b) ≡ c → (if not c then 1 + place else 0) < length (x ∷ bytes) → (place < length bytes → Parted b bytes place) → Parted b (x ∷ bytes) (if not c then 1 + place else 0)
    by true is k more = record { is = ap (λ (y : ℕ). y ∷ bytes) (same x b is) }
    by false is k more =
        let s : Parted b bytes place = more (omega (arith, k)) in
        let first : suc place ≡ 1 + place = omega arith in
        let next : suc (place + 1) ≡ suc place + 1 = omega arith in
        subst (Parted b (x ∷ bytes)) first (record { is = subst (λ (n : ℕ). x ∷ bytes ≡ take (suc place) (x ∷ bytes) ++ b ∷ drop n (x ∷ bytes)) next (ap (λ (xs : List ℕ). x ∷ xs) s.is) })

-- an option that is there
none_some : {A : Type 0} (x : A) → None ≡ Some x → ⊥
none_some x e = cc

some_same : {A : Type 0} (x y : A) → Some x ≡ Some y → x ≡ y
some_same x y e = cc

pub parted : (b : ℕ) (bytes : List ℕ) (n : ℕ) → position (λ x. x == b) bytes ≡ Some n → bytes ≡ take n bytes ++ b ∷ drop (n + 1) bytes
parted b bytes n e = by (nat_lt place (length bytes)) refl e
  where
    place : ℕ
    place = position_or_len (λ x. x == b) bytes

    low : (k m : ℕ) → nat_lt k m ≡ true → k < m
    low k m is = grind (arith, nat_tests)

    by : (c : Bool) → nat_lt place (length bytes) ≡ c → (if c then Some place else None) ≡ Some n → bytes ≡ take n bytes ++ b ∷ drop (n + 1) bytes
    by true is h = (subst (Parted b bytes) (some_same place n h) (here_parted b bytes (low place (length bytes) is))).is
    by false is h = absurd (none_some n h)

-- ---- one type

-- what these rows give is a class's number
abbrev pub ClassesSo : List PlainClassText → Rows → Type 0
ClassesSo classes rows = (name : List ℕ) (n : ℕ) → class_of rows name ≡ Some n → IsClass classes name n

-- a type at the front of bytes
pub record Front (classes : List PlainClassText) (k : Kind) (bytes rest : List ℕ) : Type 0 where
  pub part : List ℕ
  pub is : bytes ≡ part ++ rest
  pub spells : Spells classes k part
  pub filled : length rest < length bytes

-- what isn't this kind
bad_of : (k : Kind) → typed.Bad ≡ typed.Of k → ⊥
bad_of k e = cc

outside_of : (k : Kind) → typed.Outside ≡ typed.Of k → ⊥
outside_of k e = cc

unknown_of : (k : Kind) → typed.Unknown ≡ typed.Of k → ⊥
unknown_of k e = cc

of_same : (j k : Kind) → typed.Of j ≡ typed.Of k → j ≡ k
of_same j k e = cc

-- a class by its name
record Named (classes : List PlainClassText) (name : List ℕ) (k : Kind) : Type 0 where
  number : ℕ
  is : kind.Ref number ≡ k
  form : is_class_name name ≡ true
  class : IsClass classes name number

by_name_so : (classes : List PlainClassText) (rows : Rows) (name : List ℕ) (k : Kind) → ClassesSo classes rows → by_name rows name ≡ typed.Of k → Named classes name k
by_name_so classes rows name k so e = by (is_class_name name) refl (class_of rows name) refl e
  where
    by : (b : Bool) → is_class_name name ≡ b → (o : Option ℕ) → class_of rows name ≡ o → (if b then by_class o else typed.Bad) ≡ typed.Of k → Named classes name k
    by true is (Some n) found h = record { number = n; is = of_same (kind.Ref n) k h; form = is; class = so name n found }
    by true is None found h = absurd (unknown_of k h)
    by false is o found h = absurd (bad_of k h)

-- a type that is no array
base_so : (classes : List PlainClassText) (rows : Rows) (bytes : List ℕ) (k : Kind) → ClassesSo classes rows → (base_at rows bytes).0 ≡ typed.Of k → Front classes k bytes (base_at rows bytes).1
base_so classes rows [] k so e = absurd (bad_of k e)
base_so classes rows (b ∷ rest) k so e = by (b == 73) refl (is_foreign b) (b == 76) refl e
  where
    shorter : (n : ℕ) (xs : List ℕ) → length (drop n xs) ≤ length xs
    shorter zero xs = omega arith
    shorter (suc n) [] = omega arith
    shorter (suc n) (x ∷ xs) = omega (arith, shorter n xs)

    of_class : (o : Option ℕ) → position (λ c. c == 59) rest ≡ o → b ≡ 76 → (class_type rows rest o).0 ≡ typed.Of k → Front classes k (b ∷ rest) (class_type rows rest o).1
    of_class None found is h = absurd (bad_of k h)
    of_class (Some n) found is h =
        let name : Named classes (take n rest) k = by_name_so classes rows (take n rest) k so h in
        record {
          part = 76 ∷ take n rest ++ 59 ∷ [];
          is = ap (λ (x : ℕ). x ∷ rest) is ∙ ap (λ (xs : List ℕ). 76 ∷ xs) (parted 59 rest n found ∙ sym (append_assoc (take n rest) (59 ∷ []) (drop (n + 1) rest)));
          spells = subst (λ (j : Kind). Spells classes j (76 ∷ take n rest ++ 59 ∷ [])) name.is (take n rest, name.form, refl, name.class);
          filled = omega (arith, shorter (n + 1) rest);
        }

    by : (i : Bool) → (b == 73) ≡ i → (f : Bool) (l : Bool) → (b == 76) ≡ l
        → (if i then (typed.Of kind.Int, rest) else if f then (typed.Outside, rest) else if l then class_type rows rest (position (λ c. c == 59) rest) else (typed.Bad, rest)).0 ≡ typed.Of k
        → Front classes k (b ∷ rest) (if i then (typed.Of kind.Int, rest) else if f then (typed.Outside, rest) else if l then class_type rows rest (position (λ c. c == 59) rest) else (typed.Bad, rest)).1
    by true is f l is_l h = record { part = 73 ∷ []; is = ap (λ (x : ℕ). x ∷ rest) (same b 73 is); spells = subst (λ (j : Kind). Spells classes j (73 ∷ [])) (of_same kind.Int k h) refl; filled = omega arith }
    by false is true l is_l h = absurd (outside_of k h)
    by false is false true is_l h = of_class (position (λ c. c == 59) rest) refl (same b 76 is_l) h
    by false is false false is_l h = absurd (bad_of k h)

-- an array is one of ints
array_so : (t : Typed) (k : Kind) → array_of t ≡ typed.Of k → (t ≡ typed.Of kind.Int) × (kind.Arr ≡ k)
array_so (typed.Of kind.Int) k e = (refl, of_same kind.Arr k e)
array_so (typed.Of kind.Null) k e = absurd (outside_of k e)
array_so (typed.Of (kind.Ref n)) k e = absurd (outside_of k e)
array_so (typed.Of kind.Arr) k e = absurd (outside_of k e)
array_so (typed.Of kind.Args) k e = absurd (outside_of k e)
array_so typed.Bad k e = absurd (bad_of k e)
array_so typed.Unknown k e = absurd (outside_of k e)
array_so typed.Outside k e = absurd (outside_of k e)

-- no array has two dimensions
two_so : (t : Typed) (k : Kind) → array_of (array_of t) ≡ typed.Of k → ⊥
two_so t k e =
    let outer : (array_of t ≡ typed.Of kind.Int) × (kind.Arr ≡ k) = array_so (array_of t) k e in
    let inner : (t ≡ typed.Of kind.Int) × (kind.Arr ≡ kind.Int) = array_so t kind.Int outer.0 in
    apart inner.1
  where
    apart : kind.Arr ≡ kind.Int → ⊥
    apart h = cc

-- one bracket at the front
one_bracket : (bytes : List ℕ) → dimensions bytes ≡ 1 → bytes ≡ 91 ∷ drop 1 bytes
one_bracket [] e = absurd (omega (arith, e))
one_bracket (b ∷ bytes) e = by (b == 91) refl e
  where
    place : ℕ
    place = position_or_len (λ x. not (x == 91)) bytes

    zero_one : zero ≡ suc zero → ⊥
    zero_one h = absurd (omega (arith, h))

    by : (c : Bool) → (b == 91) ≡ c → unwrap_or (if nat_lt (if not (not c) then 1 + place else 0) (length (b ∷ bytes)) then Some (if not (not c) then 1 + place else 0) else None) (length (b ∷ bytes)) ≡ 1 → b ∷ bytes ≡ 91 ∷ bytes
    by true is h = ap (λ (x : ℕ). x ∷ bytes) (same b 91 is)
    by false is h = absurd (zero_one (sym (ap (λ (c : Bool). unwrap_or (if c then Some 0 else None) (length (b ∷ bytes))) (low (length bytes))) ∙ h))
      where
        low : (n : ℕ) → nat_lt 0 (suc n) ≡ true
        low n = grind (arith, nat_tests)

-- the type at the front
pub type_so : (classes : List PlainClassText) (rows : Rows) (bytes : List ℕ) (k : Kind) → ClassesSo classes rows → (type_at rows bytes).0 ≡ typed.Of k → Front classes k bytes (type_at rows bytes).1
unfolding type_at
type_so classes rows bytes k so e = by (dimensions bytes) refl (dimensions bytes == 0) refl (dimensions bytes == 1) refl e
  where
    by : (n : ℕ) → dimensions bytes ≡ n → (z : Bool) → (dimensions bytes == 0) ≡ z → (o : Bool) → (dimensions bytes == 1) ≡ o
        → (if z then (base_at rows (drop (dimensions bytes) bytes)).0 else if o then array_of (base_at rows (drop (dimensions bytes) bytes)).0 else array_of (array_of (base_at rows (drop (dimensions bytes) bytes)).0)) ≡ typed.Of k
        → Front classes k bytes (base_at rows (drop (dimensions bytes) bytes)).1
    by n is true is_z o is_o h =
        let none : dimensions bytes ≡ 0 = same (dimensions bytes) 0 is_z in
        subst (λ (j : ℕ). Front classes k bytes (base_at rows (drop j bytes)).1) (sym none) (base_so classes rows bytes k so (subst (λ (j : ℕ). (base_at rows (drop j bytes)).0 ≡ typed.Of k) none h))
    by n is false is_z true is_o h =
        let one : dimensions bytes ≡ 1 = same (dimensions bytes) 1 is_o in
        let ints : ((base_at rows (drop (dimensions bytes) bytes)).0 ≡ typed.Of kind.Int) × (kind.Arr ≡ k) = array_so (base_at rows (drop (dimensions bytes) bytes)).0 k h in
        let s : Front classes kind.Int (drop 1 bytes) (base_at rows (drop 1 bytes)).1 = base_so classes rows (drop 1 bytes) kind.Int so (subst (λ (j : ℕ). (base_at rows (drop j bytes)).0 ≡ typed.Of kind.Int) one ints.0) in
        let bracket : bytes ≡ 91 ∷ drop 1 bytes = one_bracket bytes one in
        let longer : length bytes ≡ length (91 ∷ drop 1 bytes) = ap length bracket in
        subst (λ (j : ℕ). Front classes k bytes (base_at rows (drop j bytes)).1) (sym one) (record {
          part = 91 ∷ 73 ∷ [];
          is = bracket ∙ ap (λ (xs : List ℕ). 91 ∷ xs) (s.is ∙ ap (λ (xs : List ℕ). xs ++ (base_at rows (drop 1 bytes)).1) s.spells);
          spells = subst (λ (j : Kind). Spells classes j (91 ∷ 73 ∷ [])) ints.1 refl;
          filled = omega (arith, longer, s.filled);
        })
    by n is false is_z false is_o h = absurd (two_so (base_at rows (drop (dimensions bytes) bytes)).0 k h)

-- a type that is let through is one of the language
pub typed_so : (t : Typed) → is_unknown t ≡ false → is_bad t ≡ false → is_outside t ≡ false → typed.Of (kind_of t) ≡ t
typed_so (typed.Of k) a b c = refl
typed_so typed.Bad a b c = absurd (false≢true (sym b))
typed_so typed.Unknown a b c = absurd (false≢true (sym a))
typed_so typed.Outside a b c = absurd (false≢true (sym c))

-- a whole descriptor of one type
pub whole_so : (classes : List PlainClassText) (rows : Rows) (desc : List ℕ) (k : Kind) → ClassesSo classes rows → type_of rows desc ≡ typed.Of k → Spells classes k desc
whole_so classes rows desc k so e = by (type_at rows desc).1 refl e
  where
    by : (rest : List ℕ) → (type_at rows desc).1 ≡ rest → whole ((type_at rows desc).0, rest) ≡ typed.Of k → Spells classes k desc
    by [] is h =
        let s : Front classes k desc (type_at rows desc).1 = type_so classes rows desc k so h in
        subst (Spells classes k) (sym (s.is ∙ ap (λ (xs : List ℕ). s.part ++ xs) is ∙ append-nil s.part)) s.spells
    by (b ∷ rest) is h = absurd (bad_of k h)

-- ---- parameters

-- all types of bytes, one after another
record Spelt (classes : List PlainClassText) (kinds : List Kind) (bytes : List ℕ) : Type 0 where
  parts : List (List ℕ)
  is : bytes ≡ flat_map (λ part. part) parts
  takes : AllZip (Spells classes) kinds parts

types_so : (fuel : ℕ) (classes : List PlainClassText) (rows : Rows) (bytes : List ℕ) → ClassesSo classes rows → length bytes ≤ fuel
    → list_any is_unknown (types_within fuel rows bytes) ≡ false → list_any is_bad (types_within fuel rows bytes) ≡ false → list_any is_outside (types_within fuel rows bytes) ≡ false
    → Spelt classes (map kind_of (types_within fuel rows bytes)) bytes
unfolding types_within
types_so zero classes rows [] so few known right inside = record { parts = []; is = refl; takes = tt }
types_so zero classes rows (b ∷ bytes) so few known right inside = absurd (omega (arith, few))
types_so (suc fuel) classes rows [] so few known right inside = record { parts = []; is = refl; takes = tt }
types_so (suc fuel) classes rows (b ∷ bytes) so few known right inside =
    subst (λ (ts : List Typed). Spelt classes (map kind_of ts) (b ∷ bytes)) (sym step)
    (by (is_bad t) refl (subst (λ (ts : List Typed). list_any is_unknown ts ≡ false) step known) (subst (λ (ts : List Typed). list_any is_bad ts ≡ false) step right) (subst (λ (ts : List Typed). list_any is_outside ts ≡ false) step inside)
    (λ h k r i. types_so fuel classes rows rest so h k r i))
  where
    t : Typed
    t = (type_at rows (b ∷ bytes)).0

    rest : List ℕ
    rest = (type_at rows (b ∷ bytes)).1

    filled : (n : ℕ) → (suc n == 0) ≡ false
    filled n = grind (arith, nat_tests)

    step : types_within (suc fuel) rows (b ∷ bytes) ≡ t ∷ types_within fuel rows (unless_bad t rest)
    step = ap (λ (c : Bool). if c then [] else t ∷ types_within fuel rows (unless_bad t rest)) (filled (length bytes))

    by : (c : Bool) → is_bad t ≡ c → (is_unknown t || list_any is_unknown (types_within fuel rows (if c then [] else rest))) ≡ false → (c || list_any is_bad (types_within fuel rows (if c then [] else rest))) ≡ false
        → (is_outside t || list_any is_outside (types_within fuel rows (if c then [] else rest))) ≡ false
        → (length rest ≤ fuel → list_any is_unknown (types_within fuel rows rest) ≡ false → list_any is_bad (types_within fuel rows rest) ≡ false → list_any is_outside (types_within fuel rows rest) ≡ false → Spelt classes (map kind_of (types_within fuel rows rest)) rest)
        → Spelt classes (kind_of t ∷ map kind_of (types_within fuel rows (if c then [] else rest))) (b ∷ bytes)
    by true is k r i again = absurd (false≢true (sym r))
    by false is k r i again =
        let known_both : (is_unknown t ≡ false) × (list_any is_unknown (types_within fuel rows rest) ≡ false) = neither (is_unknown t) (list_any is_unknown (types_within fuel rows rest)) k in
        let inside_both : (is_outside t ≡ false) × (list_any is_outside (types_within fuel rows rest) ≡ false) = neither (is_outside t) (list_any is_outside (types_within fuel rows rest)) i in
        let s : Front classes (kind_of t) (b ∷ bytes) rest = type_so classes rows (b ∷ bytes) (kind_of t) so (sym (typed_so t known_both.0 is inside_both.0)) in
        let more : Spelt classes (map kind_of (types_within fuel rows rest)) rest = again (omega (arith, s.filled, few)) known_both.1 r inside_both.1 in
        record { parts = s.part ∷ more.parts; is = s.is ∙ ap (λ (xs : List ℕ). s.part ++ xs) more.is; takes = (s.spells, more.takes) }

-- what is given back
given_so : (classes : List PlainClassText) (rows : Rows) (bytes : List ℕ) → ClassesSo classes rows → in_given is_unknown (given rows bytes) ≡ false → in_given is_bad (given rows bytes) ≡ false → in_given is_outside (given rows bytes) ≡ false
    → SpellsResult classes (kind_given (given rows bytes)) bytes
given_so classes rows bytes so known right inside = by (bytes_eq bytes (codes "V")) refl known right inside
  where
    t : Typed
    t = type_of rows bytes

    by : (b : Bool) → bytes_eq bytes (codes "V") ≡ b → in_given is_unknown (if b then None else Some t) ≡ false → in_given is_bad (if b then None else Some t) ≡ false → in_given is_outside (if b then None else Some t) ≡ false
        → SpellsResult classes (kind_given (if b then None else Some t)) bytes
    by true is k r i = (bytes_eq-Decides bytes (codes "V")).0 is
    by false is k r i = whole_so classes rows bytes (kind_of t) so (sym (typed_so t k r i))

-- ---- methods

-- a descriptor begins with a bracket, so the closing one comes later
opened : (rest : List ℕ) (n : ℕ) → position (λ x. x == 41) (40 ∷ rest) ≡ Some n → 40 ∷ rest ≡ 40 ∷ drop 1 (take n (40 ∷ rest)) ++ 41 ∷ drop (n + 1) (40 ∷ rest)
opened rest zero e = absurd (wrong (parted 41 (40 ∷ rest) 0 e))
  where
    wrong : {xs ys : List ℕ} → 40 ∷ xs ≡ 41 ∷ ys → ⊥
    wrong h = absurd (omega (arith, heads h))
      where
        heads : {x y : ℕ} {xs ys : List ℕ} → x ∷ xs ≡ y ∷ ys → x ≡ y
        heads h = cc
opened rest (suc n) e = parted 41 (40 ∷ rest) (suc n) e

-- the signature of a descriptor
spelled_so : (classes : List PlainClassText) (rows : Rows) (desc rest : List ℕ) → ClassesSo classes rows → desc ≡ 40 ∷ rest
    → in_signature is_unknown (signature_of rows desc) ≡ false → in_signature is_bad (signature_of rows desc) ≡ false → in_signature is_outside (signature_of rows desc) ≡ false
    → SpellsMethod classes desc (map kind_of (signature_of rows desc).params) (kind_given (signature_of rows desc).gives)
unfolding type_at
spelled_so classes rows desc rest so begins known right inside = by (position (λ x. x == 41) desc) refl known right inside
  where
    at : Option ℕ → PlainSignature
    at o = record { params = types_within (length (parts_at desc o).0) rows (parts_at desc o).0; gives = given rows (parts_at desc o).1 }

    by : (o : Option ℕ) → position (λ x. x == 41) desc ≡ o → in_signature is_unknown (at o) ≡ false → in_signature is_bad (at o) ≡ false → in_signature is_outside (at o) ≡ false → SpellsMethod classes desc (map kind_of (at o).params) (kind_given (at o).gives)
    by None is k r i =
        absurd (false≢true (sym (neither (list_any is_bad (types_within (length (drop 1 desc)) rows (drop 1 desc))) (in_given is_bad (given rows [])) r).1))
    by (Some n) is k r i =
        let inner : List ℕ = drop 1 (take n desc) in
        let outer : List ℕ = drop (n + 1) desc in
        let types : List Typed = types_within (length inner) rows inner in
        let known_both : (list_any is_unknown types ≡ false) × (in_given is_unknown (given rows outer) ≡ false) = neither (list_any is_unknown types) (in_given is_unknown (given rows outer)) k in
        let right_both : (list_any is_bad types ≡ false) × (in_given is_bad (given rows outer) ≡ false) = neither (list_any is_bad types) (in_given is_bad (given rows outer)) r in
        let inside_both : (list_any is_outside types ≡ false) × (in_given is_outside (given rows outer) ≡ false) = neither (list_any is_outside types) (in_given is_outside (given rows outer)) i in
        let s : Spelt classes (map kind_of types) inner = types_so (length inner) classes rows inner so (omega arith) known_both.0 right_both.0 inside_both.0 in
        let whole_desc : desc ≡ 40 ∷ inner ++ 41 ∷ outer = subst (λ (d : List ℕ). position (λ x. x == 41) d ≡ Some n → d ≡ 40 ∷ drop 1 (take n d) ++ 41 ∷ drop (n + 1) d) (sym begins) (opened rest n) is in
        record {
          parts = s.parts;
          result = outer;
          is = whole_desc ∙ ap (λ (xs : List ℕ). 40 ∷ xs ++ 41 ∷ outer) s.is;
          takes = s.takes;
          gives_back = given_so classes rows outer so known_both.1 right_both.1 inside_both.1;
        }

-- a method's signature
pub signature_so : (classes : List PlainClassText) (rows : Rows) (m : PlainMethodText) (rest : List ℕ) → ClassesSo classes rows → m.desc ≡ 40 ∷ rest
    → in_signature is_unknown (method_signature rows m.name m.desc) ≡ false → in_signature is_bad (method_signature rows m.name m.desc) ≡ false → in_signature is_outside (method_signature rows m.name m.desc) ≡ false
    → IsSignature classes m (map kind_of (method_signature rows m.name m.desc).params) (kind_given (method_signature rows m.name m.desc).gives)
signature_so classes rows m rest so begins known right inside = by (takes_texts m) refl known right inside
  where
    at : Bool → PlainSignature
    at b = if b then args_signature else signature_of rows m.desc

    by : (b : Bool) → takes_texts m ≡ b → in_signature is_unknown (at b) ≡ false → in_signature is_bad (at b) ≡ false → in_signature is_outside (at b) ≡ false → IsSignature classes m (map kind_of (at b).params) (kind_given (at b).gives)
    by true is k r i = OfMain is refl refl
    by false is k r i = Spelled is (spelled_so classes rows m.desc rest so begins k r i)
