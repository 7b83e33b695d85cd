-- Reading the descriptor of a method gives what its types are.
use Rattle.std.proofs.Common.{◌≡◌, ℕ, zero, suc, ◌+◌, ◌≤◌, Bool, true, false, List, [], ◌∷◌, ◌++◌, Option, Some, None, refl, sym, ap, ◌∙◌, subst, arith, ◌⊎◌, inl, inr, ⊎_elim, append_assoc, append-nil, length-append}
use Rattle.std.specs.Prelude.{◌≢◌, ◌||◌, if◌then◌else◌, ◌==◌, length, drop, position, flat_map, codes, bytes_eq, is_some, Contains}
use Rattle.std.specs.List.{AllByRecursion, list_any}
use Rattle.std.proofs.lemmas.Bool.{false≢true}
use Rattle.std.proofs.lemmas.Bool.Decides.{nat_tests}
use Rattle.name_resolver.specs.declared.descriptors.Typed.{Typed}
use Rattle.name_resolver.specs.declared.descriptors.Typed.TheVariants as typed
use Rattle.name_resolver.specs.Index.{Rows}
use Rattle.name_resolver.specs.Descriptors.{PlainSignature, type_at, type_of, unless_bad, types_within, types_in, given, parts_at, parts_of, signature_of, is_bad, in_given, in_signature, is_unknown}
use Rattle.shape_laws.proofs.Tests.{either, on_left, on_right, same}
use Rattle.linking_laws.specs.Types.{class_type, IsType, Int, Other, Class, Array, IsParted, Says, OfParameter, OfResult, Takes, nothing, IsMethodType}
use Rattle.linking_laws.proofs.Judged.{neither}
use Rattle.linking_laws.proofs.Members.{contains_cases, contains_none, contains_first, contains_later, same_bytes, bytes_same, bytes_other, is_false}
use Rattle.linking_laws.proofs.Positions.{one_more, position_later, position_behind, Parts, parts_at as found_parts, none_at, take_front, drop_past}
use Rattle.linking_laws.proofs.Spelled.{reads, Front, front, type_right, right_type, without_bracket, array_unknown}

abbrev joined : List (List ℕ) → List ℕ
joined types = flat_map (λ (t : List ℕ). t) types

-- ---- the brackets

abbrev is_end : ℕ → Bool
is_end b = b == 41

-- no end is among them
fails_absent : (xs : List ℕ) → AllByRecursion (λ y. is_end y ≡ false) xs → Contains xs 41 → ⊥
fails_absent [] all h = contains_none 41 h
fails_absent (x ∷ xs) all h = ⊎_elim (λ (e : x ≡ 41). false≢true (sym all.0 ∙ ap is_end e)) (λ (later : Contains xs 41). fails_absent xs all.1 later) (contains_cases x 41 xs h)

absent_fails : (xs : List ℕ) → (Contains xs 41 → ⊥) → AllByRecursion (λ y. is_end y ≡ false) xs
absent_fails [] h = tt
absent_fails (x ∷ xs) h = (by (is_end x) refl, absent_fails xs (λ later. h (contains_later x 41 xs later)))
  where
    by : (b : Bool) → is_end x ≡ b → is_end x ≡ false
    by false is = is
    by true is = absurd (h (subst (Contains (x ∷ xs)) (same x 41 is) (contains_first x xs)))

fails_both : (xs ys : List ℕ) → AllByRecursion (λ y. is_end y ≡ false) xs → AllByRecursion (λ y. is_end y ≡ false) ys → AllByRecursion (λ y. is_end y ≡ false) (xs ++ ys)
fails_both [] ys h k = k
fails_both (x ∷ xs) ys h k = (h.0, fails_both xs ys h.1 k)

none_fails : (xs : List ℕ) → AllByRecursion (λ y. is_end y ≡ false) xs → position is_end xs ≡ None
none_fails [] all = refl
none_fails (x ∷ xs) all = position_later is_end x xs all.0 ∙ ap one_more (none_fails xs all.1)

-- the two parts of a descriptor
pub parted : (desc params gives : List ℕ) → IsParted desc params gives → parts_of desc ≡ (params, gives)
parted desc params gives p =
    ap parts_of p.whole
    ∙ ap (parts_at (40 ∷ params ++ 41 ∷ gives)) (position_later is_end 40 (params ++ 41 ∷ gives) refl ∙ ap one_more (position_behind is_end params 41 gives (absent_fails params p.first) refl))
    ∙ ap (λ (bytes : List ℕ). (bytes, drop (suc (length params) + 1) (40 ∷ params ++ 41 ∷ gives))) (take_front params (41 ∷ gives))
    ∙ ap (λ (bytes : List ℕ). (params, bytes)) (drop_past (40 ∷ params) 41 gives)

-- a descriptor that begins with a bracket has them, or no second bracket
pub record Halves (desc : List ℕ) : Type 0 where
  pub params : List ℕ
  pub gives : List ℕ
  pub is : IsParted desc params gives

unparted : (r : List ℕ) → position is_end r ≡ None → parts_of (40 ∷ r) ≡ (r, [])
unparted r e = ap (parts_at (40 ∷ r)) (position_later is_end 40 r refl ∙ ap one_more e)

pub halves : (desc r : List ℕ) → desc ≡ 40 ∷ r → Halves desc ⊎ ((position is_end r ≡ None) × (parts_of desc ≡ (r, [])))
halves desc r e = by (position is_end r) refl
  where
    by : (o : Option ℕ) → position is_end r ≡ o → Halves desc ⊎ ((position is_end r ≡ None) × (parts_of desc ≡ (r, [])))
    by None is = inr (is, ap parts_of e ∙ unparted r is)
    by (Some n) is =
        let p : Parts is_end r n = found_parts is_end r n is in
        inl (record {
          params = p.front;
          gives = p.back;
          is = record { whole = e ∙ ap (λ (bytes : List ℕ). 40 ∷ bytes) (p.whole ∙ ap (λ (b : ℕ). p.front ++ b ∷ p.back) (same p.one 41 p.passes)); first = λ h. fails_absent p.front p.fails h };
        })

-- ---- types in a row

-- a type is at least one byte
filled : (type : List ℕ) → IsType type → 1 ≤ length type
filled type Int = omega arith
filled type (Other letter is) = omega arith
filled type (Class name is) = omega arith
filled type (Array element is) = omega arith

-- so its rest is shorter
shorter : (n : ℕ) (type rest : List ℕ) → IsType type → length (type ++ rest) ≤ suc n → length rest ≤ n
shorter n type rest is h = omega (arith, filled type is, h, length-append type rest)

no_room : (type rest : List ℕ) → IsType type → length (type ++ rest) ≤ 0 → ⊥
no_room type rest is h = absurd (omega (arith, filled type is, h, length-append type rest))

-- one type, and then the rest
step : (classes : Rows) (n : ℕ) (type rest : List ℕ) → IsType type → types_within (suc n) classes (type ++ rest) ≡ type_of classes type ∷ types_within n classes rest
unfolding types_within
step classes n type rest is = ap (λ (b : Bool). if b then [] else one) some ∙ by (type_at classes (type ++ rest)) ((reads classes type is).takes rest)
  where
    one : List Typed
    one = (type_at classes (type ++ rest)).0 ∷ types_within n classes (unless_bad (type_at classes (type ++ rest)).0 (type_at classes (type ++ rest)).1)

    no_zero : (k : ℕ) → 1 ≤ k → (k == 0) ≡ false
    no_zero k h = grind (arith, nat_tests)

    some : (length (type ++ rest) == 0) ≡ false
    some = no_zero (length (type ++ rest)) (omega (arith, filled type is, length-append type rest))

    good : unless_bad (type_of classes type) rest ≡ rest
    good = ap (λ (b : Bool). if b then [] else rest) (right_type classes type is)

    by : (s : Typed × List ℕ) → s ≡ (type_of classes type, rest) → s.0 ∷ types_within n classes (unless_bad s.0 s.1) ≡ type_of classes type ∷ types_within n classes rest
    by s e = ap (λ (s : Typed × List ℕ). s.0 ∷ types_within n classes (unless_bad s.0 s.1)) e ∙ ap (λ (xs : List ℕ). type_of classes type ∷ types_within n classes xs) good

-- nothing is read of nothing
none_within : (n : ℕ) (classes : Rows) → types_within n classes [] ≡ []
unfolding types_within
none_within zero classes = refl
none_within (suc n) classes = refl

-- where what stands first is bad, no more is read
begins : (classes : Rows) (n b : ℕ) (bytes : List ℕ) → is_bad (type_at classes (b ∷ bytes)).0 ≡ true → types_within (suc n) classes (b ∷ bytes) ≡ (type_at classes (b ∷ bytes)).0 ∷ []
unfolding types_within
begins classes n b bytes e =
    ap (λ (c : Bool). if c then [] else one) (no_zero (length bytes))
    ∙ ap (λ (xs : List ℕ). t.0 ∷ types_within n classes xs) (ap (λ (c : Bool). if c then [] else t.1) e)
    ∙ ap (λ (ts : List Typed). t.0 ∷ ts) (none_within n classes)
  where
    t : Typed × List ℕ
    t = type_at classes (b ∷ bytes)

    one : List Typed
    one = t.0 ∷ types_within n classes (unless_bad t.0 t.1)

    no_zero : (k : ℕ) → (suc k == 0) ≡ false
    no_zero k = grind (arith, nat_tests)

-- ---- one type of a row

-- a type, behind others that are spelled right, that passes a test
pub record Among (classes : Rows) (test : Typed → Bool) (bytes : List ℕ) : Type 0 where
  pub before : List (List ℕ)
  pub type : List ℕ
  pub rest : List ℕ
  pub right : AllByRecursion IsType before
  pub is_type : IsType type
  pub whole : bytes ≡ joined before ++ (type ++ rest)
  pub passes : test (type_of classes type) ≡ true

-- one more before it
among_more : (classes : Rows) (test : Typed → Bool) (first bytes : List ℕ) → IsType first → Among classes test bytes → Among classes test (first ++ bytes)
among_more classes test first bytes is a = record {
  before = first ∷ a.before;
  type = a.type;
  rest = a.rest;
  right = (is, a.right);
  is_type = a.is_type;
  whole = ap (λ (xs : List ℕ). first ++ xs) a.whole ∙ sym (append_assoc first (joined a.before) (a.type ++ a.rest));
  passes = a.passes;
}

pub among : (classes : Rows) (test : Typed → Bool) (n : ℕ) (bytes : List ℕ) → test typed.Bad ≡ false → length bytes ≤ n → list_any test (types_within n classes bytes) ≡ true → Among classes test bytes
among classes test n [] none h e = absurd (false≢true (ap (list_any test) (sym (none_within n classes)) ∙ e))
among classes test zero (b ∷ bytes) none h e = absurd (omega (arith, h))
among classes test (suc n) (b ∷ bytes) none h e = by (is_bad (type_at classes (b ∷ bytes)).0) refl (λ rest lt k. among classes test n rest none lt k)
  where
    bad_is : (t : Typed) → is_bad t ≡ true → test t ≡ false
    bad_is (typed.Of k) e = absurd (false≢true e)
    bad_is typed.Outside e = absurd (false≢true e)
    bad_is typed.Unknown e = absurd (false≢true e)
    bad_is typed.Bad e = none

    by : (c : Bool) → is_bad (type_at classes (b ∷ bytes)).0 ≡ c → ((rest : List ℕ) → length rest ≤ n → list_any test (types_within n classes rest) ≡ true → Among classes test rest) → Among classes test (b ∷ bytes)
    by true is more =
        let one : list_any test ((type_at classes (b ∷ bytes)).0 ∷ []) ≡ true = ap (list_any test) (sym (begins classes n b bytes is)) ∙ e in
        absurd (false≢true (sym (ap (λ (c : Bool). c || false) (bad_is (type_at classes (b ∷ bytes)).0 is)) ∙ one))
    by false is more =
        let f : Front (b ∷ bytes) = front classes (b ∷ bytes) is in
        let long : length (f.type ++ f.rest) ≤ suc n = subst (λ (xs : List ℕ). length xs ≤ suc n) f.whole h in
        let parts : list_any test (type_of classes f.type ∷ types_within n classes f.rest) ≡ true =
        ap (list_any test) (sym (step classes n f.type f.rest f.is_type)) ∙ ap (λ (xs : List ℕ). list_any test (types_within (suc n) classes xs)) (sym f.whole) ∙ e in
        subst (Among classes test) (sym f.whole) (⊎_elim
        (λ (p : test (type_of classes f.type) ≡ true). record { before = []; type = f.type; rest = f.rest; right = tt; is_type = f.is_type; whole = refl; passes = p })
        (λ (p : list_any test (types_within n classes f.rest) ≡ true). among_more classes test f.type f.rest f.is_type (more f.rest (shorter n f.type f.rest f.is_type long) p))
        (either (test (type_of classes f.type)) (list_any test (types_within n classes f.rest)) parts))

-- and the other way round
pub among_any : (classes : Rows) (test : Typed → Bool) (n : ℕ) (before : List (List ℕ)) (type rest : List ℕ) → AllByRecursion IsType before → IsType type
    → length (joined before ++ (type ++ rest)) ≤ n → test (type_of classes type) ≡ true → list_any test (types_within n classes (joined before ++ (type ++ rest))) ≡ true
among_any classes test zero [] type rest right is h p = absurd (no_room type rest is h)
among_any classes test (suc n) [] type rest right is h p =
    ap (list_any test) (step classes n type rest is) ∙ on_left (test (type_of classes type)) (list_any test (types_within n classes rest)) p
among_any classes test n (x ∷ before) type rest right is h p = by n (subst (λ (xs : List ℕ). length xs ≤ n) grouped h) (λ k lt. among_any classes test k before type rest right.1 is lt p)
  where
    behind : List ℕ
    behind = joined before ++ (type ++ rest)

    grouped : (x ++ joined before) ++ (type ++ rest) ≡ x ++ behind
    grouped = append_assoc x (joined before) (type ++ rest)

    by : (n : ℕ) → length (x ++ behind) ≤ n → ((k : ℕ) → length behind ≤ k → list_any test (types_within k classes behind) ≡ true) → list_any test (types_within n classes ((x ++ joined before) ++ (type ++ rest))) ≡ true
    by zero h more = absurd (no_room x behind right.0 h)
    by (suc n) h more =
        ap (λ (xs : List ℕ). list_any test (types_within (suc n) classes xs)) grouped ∙ ap (list_any test) (step classes n x behind right.0)
        ∙ on_right (test (type_of classes x)) (list_any test (types_within n classes behind)) (more n (shorter n x behind right.0 h))

-- ---- all types of a row

-- types that are spelled right, one after another
pub record Row (bytes : List ℕ) (count : ℕ) : Type 0 where
  pub types : List (List ℕ)
  pub right : AllByRecursion IsType types
  pub whole : bytes ≡ joined types
  pub many : count ≡ length types

pub row : (classes : Rows) (n : ℕ) (bytes : List ℕ) → length bytes ≤ n → list_any is_bad (types_within n classes bytes) ≡ false → Row bytes (length (types_within n classes bytes))
row classes n [] h e = record { types = []; right = tt; whole = refl; many = ap (λ (ts : List Typed). length ts) (none_within n classes) }
row classes zero (b ∷ bytes) h e = absurd (omega (arith, h))
row classes (suc n) (b ∷ bytes) h e = by (is_bad (type_at classes (b ∷ bytes)).0) refl (λ rest lt k. row classes n rest lt k)
  where
    by : (c : Bool) → is_bad (type_at classes (b ∷ bytes)).0 ≡ c → ((rest : List ℕ) → length rest ≤ n → list_any is_bad (types_within n classes rest) ≡ false → Row rest (length (types_within n classes rest))) → Row (b ∷ bytes) (length (types_within (suc n) classes (b ∷ bytes)))
    by true is more =
        let one : list_any is_bad ((type_at classes (b ∷ bytes)).0 ∷ []) ≡ false = ap (list_any is_bad) (sym (begins classes n b bytes is)) ∙ e in
        absurd (false≢true (sym one ∙ on_left (is_bad (type_at classes (b ∷ bytes)).0) false is))
    by false is go_on =
        let f : Front (b ∷ bytes) = front classes (b ∷ bytes) is in
        let long : length (f.type ++ f.rest) ≤ suc n = subst (λ (xs : List ℕ). length xs ≤ suc n) f.whole h in
        let all : types_within (suc n) classes (b ∷ bytes) ≡ type_of classes f.type ∷ types_within n classes f.rest = ap (types_within (suc n) classes) f.whole ∙ step classes n f.type f.rest f.is_type in
        let good : list_any is_bad (types_within n classes f.rest) ≡ false = (neither (is_bad (type_of classes f.type)) (list_any is_bad (types_within n classes f.rest)) (ap (list_any is_bad) (sym all) ∙ e)).1 in
        let more : Row f.rest (length (types_within n classes f.rest)) = go_on f.rest (shorter n f.type f.rest f.is_type long) good in
        record {
          types = f.type ∷ more.types;
          right = (f.is_type, more.right);
          whole = f.whole ∙ ap (λ (xs : List ℕ). f.type ++ xs) more.whole;
          many = ap (λ (ts : List Typed). length ts) all ∙ ap suc more.many;
        }

pub row_right : (classes : Rows) (n : ℕ) (types : List (List ℕ)) → AllByRecursion IsType types → length (joined types) ≤ n
    → (list_any is_bad (types_within n classes (joined types)) ≡ false) × (length (types_within n classes (joined types)) ≡ length types)
row_right classes n [] right h = (ap (list_any is_bad) (none_within n classes), ap (λ (ts : List Typed). length ts) (none_within n classes))
row_right classes zero (x ∷ types) right h = absurd (no_room x (joined types) right.0 h)
row_right classes (suc n) (x ∷ types) right h =
    let more : _ = row_right classes n types right.1 (shorter n x (joined types) right.0 h) in
    let all : types_within (suc n) classes (x ++ joined types) ≡ type_of classes x ∷ types_within n classes (joined types) = step classes n x (joined types) right.0 in
    (ap (list_any is_bad) all ∙ ap (λ (b : Bool). b || list_any is_bad (types_within n classes (joined types))) (right_type classes x right.0) ∙ more.0, ap (λ (ts : List Typed). length ts) all ∙ ap suc more.1)

-- ---- whole descriptors

le_self : (n : ℕ) → n ≤ n
le_self n = omega arith

-- what is read of the two parts
read_parts : (classes : Rows) (desc params gives : List ℕ) → parts_of desc ≡ (params, gives) → signature_of classes desc ≡ record { params = types_in classes params; gives = given classes gives }
read_parts classes desc params gives e = ap (λ (s : List ℕ × List ℕ). record { params = types_in classes s.0; gives = given classes s.1 }) e

-- no bytes are no type
pub none_bad : (classes : Rows) → type_of classes [] ≡ typed.Bad
unfolding type_at
none_bad classes = refl

-- a descriptor that is spelled right is read so
pub right_reads : (classes : Rows) (desc : List ℕ) → IsMethodType desc → in_signature is_bad (signature_of classes desc) ≡ false
right_reads classes desc m =
    ap (in_signature is_bad) (read_parts classes desc (joined m.types) m.gives (parted desc (joined m.types) m.gives m.takes.parted))
    ∙ ap (λ (b : Bool). b || in_given is_bad (given classes m.gives)) (row_right classes (length (joined m.types)) m.types m.takes.spelled (le_self (length (joined m.types)))).0
    ∙ ⊎_elim (λ (v : m.gives ≡ nothing). ap (λ (b : Bool). in_given is_bad (if b then None else Some (type_of classes m.gives))) (bytes_same m.gives nothing v)) (λ (t : IsType m.gives). by (bytes_eq m.gives nothing) t) m.given
  where
    by : (b : Bool) → IsType m.gives → in_given is_bad (if b then None else Some (type_of classes m.gives)) ≡ false
    by true t = refl
    by false t = right_type classes m.gives t

-- and only such a one
pub reads_right : (classes : Rows) (desc r : List ℕ) → desc ≡ 40 ∷ r → in_signature is_bad (signature_of classes desc) ≡ false → IsMethodType desc
reads_right classes desc r begins e = ⊎_elim whole broken (halves desc r begins)
  where
    broken : (position is_end r ≡ None) × (parts_of desc ≡ (r, [])) → IsMethodType desc
    broken h =
        let bad : (list_any is_bad (types_in classes r) || is_bad (type_of classes [])) ≡ false = ap (in_signature is_bad) (sym (read_parts classes desc r [] h.1)) ∙ e in
        absurd (false≢true (sym (neither (list_any is_bad (types_in classes r)) (is_bad (type_of classes [])) bad).1 ∙ ap is_bad (none_bad classes)))

    whole : Halves desc → IsMethodType desc
    whole p = record { types = types.types; gives = p.gives; takes = record { parted = subst (λ (xs : List ℕ). IsParted desc xs p.gives) types.whole p.is; spelled = types.right }; given = by (bytes_eq p.gives nothing) refl tests.1 }
      where
        tests : (list_any is_bad (types_in classes p.params) ≡ false) × (in_given is_bad (given classes p.gives) ≡ false)
        tests = neither (list_any is_bad (types_in classes p.params)) (in_given is_bad (given classes p.gives)) (ap (in_signature is_bad) (sym (read_parts classes desc p.params p.gives (parted desc p.params p.gives p.is))) ∙ e)

        types : Row p.params (length (types_in classes p.params))
        types = row classes (length p.params) p.params (le_self (length p.params)) tests.0

        by : (b : Bool) → bytes_eq p.gives nothing ≡ b → in_given is_bad (if b then None else Some (type_of classes p.gives)) ≡ false → (p.gives ≡ nothing) ⊎ IsType p.gives
        by true is h = inl (same_bytes p.gives nothing is)
        by false is h = inr (type_right classes p.gives h)

-- how many parameters it has
pub counts_right : (classes : Rows) (desc : List ℕ) (types : List (List ℕ)) (gives : List ℕ) → Takes desc types gives → length (signature_of classes desc).params ≡ length types
counts_right classes desc types gives t =
    ap (λ (s : PlainSignature). length s.params) (read_parts classes desc (joined types) gives (parted desc (joined types) gives t.parted)) ∙ (row_right classes (length (joined types)) types t.spelled (le_self (length (joined types)))).1

-- what it gives
pub gives_something : (classes : Rows) (desc params gives : List ℕ) → IsParted desc params gives → gives ≢ nothing → is_some (signature_of classes desc).gives ≡ true
gives_something classes desc params gives p other =
    ap (λ (s : PlainSignature). is_some s.gives) (read_parts classes desc params gives (parted desc params gives p)) ∙ ap (λ (b : Bool). is_some (if b then None else Some (type_of classes gives))) (bytes_other gives nothing other)

pub something_gives : (classes : Rows) (desc params gives : List ℕ) → IsParted desc params gives → is_some (signature_of classes desc).gives ≡ true → gives ≢ nothing
something_gives classes desc params gives p e v =
    false≢true (sym (ap (λ (b : Bool). is_some (if b then None else Some (type_of classes gives))) (bytes_same gives nothing v)) ∙ sym (ap (λ (s : PlainSignature). is_some s.gives) (read_parts classes desc params gives (parted desc params gives p))) ∙ e)

-- ---- one type of a descriptor

-- a type of it that passes a test
pub record Named (classes : Rows) (test : Typed → Bool) (desc : List ℕ) : Type 0 where
  pub type : List ℕ
  pub says : Says desc type
  pub passes : test (type_of classes type) ≡ true

pub named_in : (classes : Rows) (test : Typed → Bool) (desc r : List ℕ) → test typed.Bad ≡ false → desc ≡ 40 ∷ r → in_signature test (signature_of classes desc) ≡ true → Named classes test desc
named_in classes test desc r none begins e = ⊎_elim whole broken (halves desc r begins)
  where
    row_of : (bytes behind : List ℕ) → desc ≡ 40 ∷ bytes ++ behind → list_any test (types_in classes bytes) ≡ true → Named classes test desc
    row_of bytes behind is h =
        let a : Among classes test bytes = among classes test (length bytes) bytes none (le_self (length bytes)) h in
        record {
          type = a.type;
          says = OfParameter a.before (a.rest ++ behind) a.right (is ∙ ap (λ (xs : List ℕ). 40 ∷ xs ++ behind) a.whole ∙ ap (λ (xs : List ℕ). 40 ∷ xs) (append_assoc (joined a.before) (a.type ++ a.rest) behind ∙ ap (λ (xs : List ℕ). joined a.before ++ xs) (append_assoc a.type a.rest behind)));
          passes = a.passes;
        }

    broken : (position is_end r ≡ None) × (parts_of desc ≡ (r, [])) → Named classes test desc
    broken h = ⊎_elim (λ (p : list_any test (types_in classes r) ≡ true). row_of r [] (begins ∙ ap (λ (xs : List ℕ). 40 ∷ xs) (sym (append-nil r))) p) (λ (p : test (type_of classes []) ≡ true). absurd (false≢true (sym (ap test (none_bad classes) ∙ none) ∙ p)))
        (either (list_any test (types_in classes r)) (test (type_of classes [])) (ap (in_signature test) (sym (read_parts classes desc r [] h.1)) ∙ e))

    whole : Halves desc → Named classes test desc
    whole p = ⊎_elim (λ (h : list_any test (types_in classes p.params) ≡ true). row_of p.params (41 ∷ p.gives) p.is.whole h) (λ (h : in_given test (given classes p.gives) ≡ true). by (bytes_eq p.gives nothing) h)
        (either (list_any test (types_in classes p.params)) (in_given test (given classes p.gives)) (ap (in_signature test) (sym (read_parts classes desc p.params p.gives (parted desc p.params p.gives p.is))) ∙ e))
      where
        by : (b : Bool) → in_given test (if b then None else Some (type_of classes p.gives)) ≡ true → Named classes test desc
        by true h = absurd (false≢true h)
        by false h = record { type = p.gives; says = OfResult p.params p.is; passes = h }

-- no type has a closing bracket
types_open : (types : List (List ℕ)) → AllByRecursion IsType types → AllByRecursion (λ y. is_end y ≡ false) (joined types)
types_open [] right = tt
types_open (x ∷ types) right = fails_both x (joined types) (without_bracket x right.0) (types_open types right.1)

-- V is no type
v_no_type : (classes : Rows) → IsType nothing → ⊥
unfolding type_at
v_no_type classes is = false≢true (sym (right_type classes nothing is))

-- the parameters of a descriptor, up to the first closing bracket
pub in_named : (classes : Rows) (test : Typed → Bool) (desc type : List ℕ) → IsType type → Says desc type → test (type_of classes type) ≡ true → in_signature test (signature_of classes desc) ≡ true
in_named classes test desc type is (OfResult params p) h =
    ap (in_signature test) (read_parts classes desc params type (parted desc params type p))
    ∙ on_right (list_any test (types_in classes params)) (in_given test (given classes type)) (ap (λ (b : Bool). in_given test (if b then None else Some (type_of classes type))) (bytes_other type nothing (λ v. v_no_type classes (subst IsType v is))) ∙ h)
in_named classes test desc type is (OfParameter before rest right whole) h = by (position is_end rest) refl
  where
    open_front : AllByRecursion (λ y. is_end y ≡ false) (joined before ++ type)
    open_front = fails_both (joined before) type (types_open before right) (without_bracket type is)

    row_any : (tail gives : List ℕ) → parts_of desc ≡ (joined before ++ (type ++ tail), gives) → in_signature test (signature_of classes desc) ≡ true
    row_any tail gives e =
        ap (in_signature test) (read_parts classes desc (joined before ++ (type ++ tail)) gives e)
        ∙ on_left (list_any test (types_in classes (joined before ++ (type ++ tail)))) (in_given test (given classes gives))
        (among_any classes test (length (joined before ++ (type ++ tail))) before type tail right is (le_self (length (joined before ++ (type ++ tail)))) h)

    by : (o : Option ℕ) → position is_end rest ≡ o → in_signature test (signature_of classes desc) ≡ true
    by None e =
        let all : AllByRecursion (λ y. is_end y ≡ false) (joined before ++ (type ++ rest)) = subst (AllByRecursion (λ y. is_end y ≡ false)) (append_assoc (joined before) type rest) (fails_both (joined before ++ type) rest open_front (none_at is_end rest e)) in
        row_any rest [] (ap parts_of whole ∙ unparted (joined before ++ (type ++ rest)) (none_fails (joined before ++ (type ++ rest)) all))
    by (Some n) e =
        let p : Parts is_end rest n = found_parts is_end rest n e in
        let all : AllByRecursion (λ y. is_end y ≡ false) (joined before ++ (type ++ p.front)) = subst (AllByRecursion (λ y. is_end y ≡ false)) (append_assoc (joined before) type p.front) (fails_both (joined before ++ type) p.front open_front p.fails) in
        let tail : rest ≡ p.front ++ 41 ∷ p.back = p.whole ∙ ap (λ (b : ℕ). p.front ++ b ∷ p.back) (same p.one 41 p.passes) in
        let split : joined before ++ (type ++ rest) ≡ (joined before ++ (type ++ p.front)) ++ 41 ∷ p.back =
        ap (λ (xs : List ℕ). joined before ++ (type ++ xs)) tail ∙ ap (λ (xs : List ℕ). joined before ++ xs) (sym (append_assoc type p.front (41 ∷ p.back))) ∙ sym (append_assoc (joined before) (type ++ p.front) (41 ∷ p.back)) in
        row_any p.front p.back (parted desc (joined before ++ (type ++ p.front)) p.back (record { whole = whole ∙ ap (λ (xs : List ℕ). 40 ∷ xs) split; first = λ c. fails_absent (joined before ++ (type ++ p.front)) all c }))

-- ---- main's argument

abbrev pub main_param : List ℕ
main_param = codes "[Ljava/lang/String;"

abbrev pub main_desc : List ℕ
main_desc = codes "([Ljava/lang/String;)V"

main_is_type : IsType main_param
main_is_type = Array (class_type (codes "java/lang/String")) (Class (codes "java/lang/String") refl)

main_parted : IsParted main_desc main_param nothing
main_parted = record { whole = refl; first = fails_absent main_param (without_bracket main_param main_is_type) }

-- it is the only parameter
pub main_takes : Takes main_desc (main_param ∷ []) nothing
main_takes = record { parted = main_parted; spelled = (main_is_type, tt) }

-- and spelled right
pub main_right : IsMethodType main_desc
main_right = record { types = main_param ∷ []; gives = nothing; takes = main_takes; given = inl refl }

-- and an array, whatever classes there are
pub main_unknown : (classes : Rows) → in_signature is_unknown (signature_of classes main_desc) ≡ false
main_unknown classes =
    ap (in_signature is_unknown) (read_parts classes main_desc main_param nothing (parted main_desc main_param nothing main_parted))
    ∙ ap (λ (ts : List Typed). list_any is_unknown ts || false) (step classes 18 main_param [] main_is_type)
    ∙ ap (λ (b : Bool). (b || list_any is_unknown (types_within 18 classes [])) || false) (is_false (is_unknown (type_of classes main_param)) (array_unknown classes main_param (class_type (codes "java/lang/String")) (Class (codes "java/lang/String") refl) refl))
    ∙ ap (λ (ts : List Typed). list_any is_unknown ts || false) (none_within 18 classes)

-- where there is no descriptor, nothing is unknown
pub nothing_unknown : (classes : Rows) → in_signature is_unknown (signature_of classes []) ≡ false
unfolding type_at types_within
nothing_unknown classes = refl
