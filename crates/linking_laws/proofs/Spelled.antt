-- Reading a type gives what its spelling is: right where it is spelled right, and then a class of the text, one that isn't there, or what is left out.
use Rattle.std.proofs.Common.{◌≡◌, ℕ, zero, suc, ◌+◌, ◌≤◌, Bool, true, false, List, [], ◌∷◌, ◌++◌, Option, Some, None, refl, sym, ap, ◌∙◌, subst, arith, ⊎_elim, append_assoc, append-nil}
use Rattle.std.specs.Prelude.{◌≢◌, not, ◌||◌, if◌then◌else◌, ◌==◌, length, take, drop, position, codes, unwrap_or, is_some, Contains}
use Rattle.std.specs.List.{AllByRecursion, list_all}
use Rattle.std.proofs.lemmas.Bool.{false≢true}
use Rattle.std.proofs.lemmas.Bool.Decides.{nat_tests}
use Rattle.std.proofs.lemmas.List.Elements.{All-from_recursion, All-contains}
use Rattle.vm_model.specs.declared.value.Kind.TheVariants as kind
use Rattle.jasmin_lines.specs.Plain.{PlainClassText}
use Rattle.jasmin_lines.specs.Words.{is_class_name, is_class_byte, is_filled}
use Rattle.name_resolver.specs.declared.descriptors.Typed.{Typed}
use Rattle.name_resolver.specs.declared.descriptors.Typed.TheVariants as typed
use Rattle.name_resolver.specs.Index.{Rows, value_of}
use Rattle.class_linker.specs.Judging.{is_int}
use Rattle.name_resolver.specs.Descriptors.{class_of, or_user, by_class, by_name, array_of, is_foreign, base_at, nested, dimensions, type_at, type_of, whole, is_bad, is_unknown, is_outside}
use Rattle.name_resolver.specs.Descriptors as descriptors
use Rattle.built_in_classes.specs.Classes.{built_in_number}
use Rattle.shape_laws.proofs.Tests.{both, either, same}
use Rattle.linking_laws.specs.Types.{IsDeclared, IsBuiltIn, int_type, class_type, IsType, Int, Other, Class, Array, IsUnknownType, IsForeignType, Letter, ArrayOf}
use Rattle.linking_laws.proofs.Positions.{one_more, position_here, position_later, position_behind, Parts, parts_at, take_front, drop_past}

-- ---- brackets

no_brackets : (b : ℕ) (rest : List ℕ) → (b == 91) ≡ false → dimensions (b ∷ rest) ≡ 0
no_brackets b rest e = ap (λ (o : Option ℕ). unwrap_or o (length (b ∷ rest))) (position_here (λ (c : ℕ). not (c == 91)) b rest (ap not e))

bracket : (rest : List ℕ) → dimensions (91 ∷ rest) ≡ suc (dimensions rest)
bracket rest = ap (λ (o : Option ℕ). unwrap_or o (length (91 ∷ rest))) (position_later (λ (c : ℕ). not (c == 91)) 91 rest refl) ∙ by (position (λ (c : ℕ). not (c == 91)) rest)
  where
    by : (o : Option ℕ) → unwrap_or (one_more o) (length (91 ∷ rest)) ≡ suc (unwrap_or o (length rest))
    by None = refl
    by (Some n) = refl

-- of two brackets and more
nested_deep : (n : ℕ) (t : Typed) → 2 ≤ n → nested n t ≡ array_of (array_of t)
nested_deep n t h =
    let some : (n == 0) ≡ false = grind (arith, nat_tests) in
    let more : (n == 1) ≡ false = grind (arith, nat_tests) in
    ap (λ (b : Bool). if b then t else if n == 1 then array_of t else array_of (array_of t)) some ∙ ap (λ (b : Bool). if b then array_of t else array_of (array_of t)) more

nested_thrice : (t : Typed) → array_of (array_of t) ≡ array_of (array_of (array_of t))
nested_thrice (typed.Of kind.Int) = refl
nested_thrice (typed.Of kind.Null) = refl
nested_thrice (typed.Of (kind.Ref n)) = refl
nested_thrice (typed.Of kind.Arr) = refl
nested_thrice (typed.Of kind.Args) = refl
nested_thrice typed.Outside = refl
nested_thrice typed.Unknown = refl
nested_thrice typed.Bad = refl

nested_more : (n : ℕ) (t : Typed) → nested (suc n) t ≡ array_of (nested n t)
nested_more zero t = refl
nested_more (suc zero) t = refl
nested_more (suc (suc n)) t = nested_deep (suc (suc (suc n))) t (omega arith) ∙ nested_thrice t ∙ ap array_of (sym (nested_deep (suc (suc n)) t (omega arith)))

-- ---- one type at the front

at_base : (classes : Rows) (b : ℕ) (rest : List ℕ) → (b == 91) ≡ false → type_at classes (b ∷ rest) ≡ base_at classes (b ∷ rest)
unfolding type_at
at_base classes b rest e = ap (λ (n : ℕ). (nested n (base_at classes (drop n (b ∷ rest))).0, (base_at classes (drop n (b ∷ rest))).1)) (no_brackets b rest e)

at_array : (classes : Rows) (rest : List ℕ) → type_at classes (91 ∷ rest) ≡ (array_of (type_at classes rest).0, (type_at classes rest).1)
unfolding type_at
at_array classes rest =
    ap (λ (n : ℕ). (nested n (base_at classes (drop n (91 ∷ rest))).0, (base_at classes (drop n (91 ∷ rest))).1)) (bracket rest)
    ∙ ap (λ (t : Typed). (t, (base_at classes (drop (dimensions rest) rest)).1)) (nested_more (dimensions rest) (base_at classes (drop (dimensions rest) rest)).0)

at_nothing : (classes : Rows) → (type_at classes []).0 ≡ typed.Bad
unfolding type_at
at_nothing classes = refl

-- the letters that are left out
IsLetter : ℕ → Type 0
IsLetter b = (is_foreign b ≡ true) × ((b == 91) ≡ false) × ((b == 73) ≡ false)

letter_is : (b : ℕ) → Contains (codes "ZBCSJFD") b → IsLetter b
unfolding IsLetter
letter_is b h =
    All-contains IsLetter (codes "ZBCSJFD") b (All-from_recursion IsLetter (codes "ZBCSJFD") ((refl, refl, refl), ((refl, refl, refl), ((refl, refl, refl), ((refl, refl, refl), ((refl, refl, refl), ((refl, refl, refl), ((refl, refl, refl), tt)))))))) h

is_letter : (b : ℕ) → is_foreign b ≡ true → Contains (codes "ZBCSJFD") b
is_letter b e =
    ⊎_elim (λ (h : (b == 90 || b == 66 || b == 67 || b == 83 || b == 74 || b == 70) ≡ true).
    ⊎_elim (λ (h : (b == 90 || b == 66 || b == 67 || b == 83 || b == 74) ≡ true).
    ⊎_elim (λ (h : (b == 90 || b == 66 || b == 67 || b == 83) ≡ true).
    ⊎_elim (λ (h : (b == 90 || b == 66 || b == 67) ≡ true).
    ⊎_elim (λ (h : (b == 90 || b == 66) ≡ true).
    ⊎_elim (λ (h : (b == 90) ≡ true). (0, omega arith, sym (same b 90 h)))
    (λ (h : (b == 66) ≡ true). (1, omega arith, sym (same b 66 h))) (either (b == 90) (b == 66) h))
    (λ (h : (b == 67) ≡ true). (2, omega arith, sym (same b 67 h))) (either (b == 90 || b == 66) (b == 67) h))
    (λ (h : (b == 83) ≡ true). (3, omega arith, sym (same b 83 h))) (either (b == 90 || b == 66 || b == 67) (b == 83) h))
    (λ (h : (b == 74) ≡ true). (4, omega arith, sym (same b 74 h))) (either (b == 90 || b == 66 || b == 67 || b == 83) (b == 74) h))
    (λ (h : (b == 70) ≡ true). (5, omega arith, sym (same b 70 h))) (either (b == 90 || b == 66 || b == 67 || b == 83 || b == 74) (b == 70) h))
    (λ (h : (b == 68) ≡ true). (6, omega arith, sym (same b 68 h))) (either (b == 90 || b == 66 || b == 67 || b == 83 || b == 74 || b == 70) (b == 68) e)

at_letter : (classes : Rows) (b : ℕ) (rest : List ℕ) → Contains (codes "ZBCSJFD") b → type_at classes (b ∷ rest) ≡ (typed.Outside, rest)
unfolding IsLetter
at_letter classes b rest h =
    let is : IsLetter b = letter_is b h in
    at_base classes b rest is.1 ∙ by (b == 73) is.2 (is_foreign b) is.0
  where
    by : (int : Bool) → int ≡ false → (foreign : Bool) → foreign ≡ true
        → (if int then (typed.Of kind.Int, rest) else if foreign then (typed.Outside, rest) else if b == 76 then descriptors.class_type classes rest (position (λ (c : ℕ). c == 59) rest) else (typed.Bad, rest)) ≡ (typed.Outside, rest)
    by true e foreign h = absurd (false≢true (sym e))
    by false e true h = refl
    by false e false h = absurd (false≢true h)

-- a class's name has no semicolon
without_semicolon : (name : List ℕ) → is_class_name name ≡ true → AllByRecursion (λ c. (c == 59) ≡ false) name
without_semicolon name h = by name (both (is_filled name) (list_all is_class_byte name) h).1
  where
    other : (x : ℕ) (b : Bool) → (x == 59) ≡ b → is_class_byte x ≡ true → b ≡ false
    other x false is e = refl
    other x true is e = absurd (false≢true (ap is_class_byte (sym (same x 59 is)) ∙ e))

    by : (xs : List ℕ) → list_all is_class_byte xs ≡ true → AllByRecursion (λ c. (c == 59) ≡ false) xs
    by [] e = tt
    by (x ∷ xs) e =
        let parts : (is_class_byte x ≡ true) × (list_all is_class_byte xs ≡ true) = both (is_class_byte x) (list_all is_class_byte xs) e in
        (other x (x == 59) refl parts.0, by xs parts.1)

at_class : (classes : Rows) (name rest : List ℕ) → is_class_name name ≡ true → type_at classes (class_type name ++ rest) ≡ (by_class (class_of classes name), rest)
at_class classes name rest h =
    ap (λ (bytes : List ℕ). type_at classes (76 ∷ bytes)) (append_assoc name (59 ∷ []) rest)
    ∙ at_base classes 76 (name ++ 59 ∷ rest) refl
    ∙ ap (descriptors.class_type classes (name ++ 59 ∷ rest)) (position_behind (λ (c : ℕ). c == 59) name 59 rest (without_semicolon name h) refl)
    ∙ ap (λ (bytes : List ℕ). (by_name classes bytes, drop (length name + 1) (name ++ 59 ∷ rest))) (take_front name (59 ∷ rest))
    ∙ ap (λ (bytes : List ℕ). (by_name classes name, bytes)) (drop_past name 59 rest)
    ∙ ap (λ (b : Bool). (if b then by_class (class_of classes name) else typed.Bad, rest)) h

-- ---- what is spelled right

-- one type, and whatever comes after it
whole_is : (classes : Rows) (bytes : List ℕ) (t : Typed) → type_at classes bytes ≡ (t, []) → type_of classes bytes ≡ t
whole_is classes bytes t e = ap whole e

-- reading what is spelled right takes it, gives the same whatever comes after it, and isn't refused
pub record Reads (classes : Rows) (type : List ℕ) : Type 0 where
  pub takes : (rest : List ℕ) → type_at classes (type ++ rest) ≡ (type_of classes type, rest)
  pub right : is_bad (type_of classes type) ≡ false

reads_so : (classes : Rows) (type : List ℕ) (t : Typed) → ((rest : List ℕ) → type_at classes (type ++ rest) ≡ (t, rest)) → is_bad t ≡ false → Reads classes type
reads_so classes type t takes right =
    let own : type_of classes type ≡ t = whole_is classes type t (ap (type_at classes) (sym (append-nil type)) ∙ takes []) in
    record { takes = λ rest. takes rest ∙ ap (λ (u : Typed). (u, rest)) (sym own); right = ap is_bad own ∙ right }

class_right : (o : Option ℕ) → is_bad (by_class o) ≡ false
class_right None = refl
class_right (Some n) = refl

array_right : (t : Typed) → is_bad (array_of t) ≡ is_bad t
array_right (typed.Of kind.Int) = refl
array_right (typed.Of kind.Null) = refl
array_right (typed.Of (kind.Ref n)) = refl
array_right (typed.Of kind.Arr) = refl
array_right (typed.Of kind.Args) = refl
array_right typed.Outside = refl
array_right typed.Unknown = refl
array_right typed.Bad = refl

array_takes : (classes : Rows) (element rest : List ℕ) (t : Typed) → type_at classes (element ++ rest) ≡ (t, rest) → type_at classes (91 ∷ element ++ rest) ≡ (array_of t, rest)
array_takes classes element rest t e = at_array classes (element ++ rest) ∙ ap (λ (s : Typed × List ℕ). (array_of s.0, s.1)) e

pub reads : (classes : Rows) (type : List ℕ) → IsType type → Reads classes type
reads classes type Int = reads_so classes int_type (typed.Of kind.Int) (λ rest. at_base classes 73 rest refl) refl
reads classes type (Other letter is) = reads_so classes (letter ∷ []) typed.Outside (λ rest. at_letter classes letter rest is) refl
reads classes type (Class name is) = reads_so classes (class_type name) (by_class (class_of classes name)) (λ rest. at_class classes name rest is) (class_right (class_of classes name))
reads classes type (Array element is) =
    let inner : Reads classes element = reads classes element is in
    reads_so classes (91 ∷ element) (array_of (type_of classes element)) (λ rest. array_takes classes element rest (type_of classes element) (inner.takes rest)) (array_right (type_of classes element) ∙ inner.right)

-- what each is
int_is : (classes : Rows) → type_of classes int_type ≡ typed.Of kind.Int
int_is classes = whole_is classes int_type (typed.Of kind.Int) (at_base classes 73 [] refl)

letter_type : (classes : Rows) (letter : ℕ) → Contains (codes "ZBCSJFD") letter → type_of classes (letter ∷ []) ≡ typed.Outside
letter_type classes letter is = whole_is classes (letter ∷ []) typed.Outside (at_letter classes letter [] is)

class_is : (classes : Rows) (name : List ℕ) → is_class_name name ≡ true → type_of classes (class_type name) ≡ by_class (class_of classes name)
class_is classes name is = whole_is classes (class_type name) (by_class (class_of classes name)) (ap (type_at classes) (sym (append-nil (class_type name))) ∙ at_class classes name [] is)

array_is : (classes : Rows) (element : List ℕ) → IsType element → type_of classes (91 ∷ element) ≡ array_of (type_of classes element)
array_is classes element is =
    whole_is classes (91 ∷ element) (array_of (type_of classes element))
    (ap (λ (bytes : List ℕ). type_at classes (91 ∷ bytes)) (sym (append-nil element)) ∙ array_takes classes element [] (type_of classes element) ((reads classes element is).takes []))

-- ---- what is read is spelled right

-- a type stands at the front
pub record Front (bytes : List ℕ) : Type 0 where
  pub type : List ℕ
  pub rest : List ℕ
  pub whole : bytes ≡ type ++ rest
  pub is_type : IsType type

bad_good : is_bad typed.Bad ≡ false → ⊥
bad_good e = false≢true (sym e)

-- a class
class_front : (classes : Rows) (rest : List ℕ) (o : Option ℕ) → position (λ c. c == 59) rest ≡ o → is_bad (descriptors.class_type classes rest o).0 ≡ false → Front (76 ∷ rest)
class_front classes rest None is e = absurd (bad_good e)
class_front classes rest (Some n) is e = by (is_class_name p.front) refl named
  where
    p : Parts (λ (c : ℕ). c == 59) rest n
    p = parts_at (λ (c : ℕ). c == 59) rest n is

    first : take n rest ≡ p.front
    first = ap (λ (k : ℕ). take k rest) p.place ∙ ap (take (length p.front)) p.whole ∙ take_front p.front (p.one ∷ p.back)

    named : is_bad (by_name classes p.front) ≡ false
    named = ap (λ (name : List ℕ). is_bad (by_name classes name)) (sym first) ∙ e

    split : rest ≡ (p.front ++ 59 ∷ []) ++ p.back
    split = p.whole ∙ ap (λ (c : ℕ). p.front ++ c ∷ p.back) (same p.one 59 p.passes) ∙ sym (append_assoc p.front (59 ∷ []) p.back)

    by : (b : Bool) → is_class_name p.front ≡ b → is_bad (if b then by_class (class_of classes p.front) else typed.Bad) ≡ false → Front (76 ∷ rest)
    by false unnamed h = absurd (bad_good h)
    by true named h = record { type = class_type p.front; rest = p.back; whole = ap (λ (bytes : List ℕ). 76 ∷ bytes) split; is_type = Class p.front named }

-- a type that is no array
base_front : (classes : Rows) (b : ℕ) (rest : List ℕ) → is_bad (base_at classes (b ∷ rest)).0 ≡ false → Front (b ∷ rest)
base_front classes b rest = by (b == 73) refl (is_foreign b) refl (b == 76) refl
  where
    by : (int : Bool) → (b == 73) ≡ int → (foreign : Bool) → is_foreign b ≡ foreign → (class : Bool) → (b == 76) ≡ class
        → is_bad (if int then (typed.Of kind.Int, rest) else if foreign then (typed.Outside, rest) else if class then descriptors.class_type classes rest (position (λ (c : ℕ). c == 59) rest) else (typed.Bad, rest)).0 ≡ false
        → Front (b ∷ rest)
    by true is foreign f class c e = record { type = int_type; rest = rest; whole = ap (λ (x : ℕ). x ∷ rest) (same b 73 is); is_type = Int }
    by false is true f class c e = record { type = b ∷ []; rest = rest; whole = refl; is_type = Other b (is_letter b f) }
    by false is false f true c e = subst (λ (x : ℕ). Front (x ∷ rest)) (sym (same b 76 c)) (class_front classes rest (position (λ (c : ℕ). c == 59) rest) refl e)
    by false is false f false c e = absurd (bad_good e)

-- an array, of what stands there
array_front : (rest : List ℕ) → Front rest → Front (91 ∷ rest)
array_front rest f = record { type = 91 ∷ f.type; rest = f.rest; whole = ap (λ (bytes : List ℕ). 91 ∷ bytes) f.whole; is_type = Array f.type f.is_type }

pub front : (classes : Rows) (bytes : List ℕ) → is_bad (type_at classes bytes).0 ≡ false → Front bytes
front classes [] e = absurd (bad_good (ap is_bad (sym (at_nothing classes)) ∙ e))
front classes (b ∷ rest) e = by (b == 91) refl (front classes rest)
  where
    by : (bracket : Bool) → (b == 91) ≡ bracket → (is_bad (type_at classes rest).0 ≡ false → Front rest) → Front (b ∷ rest)
    by true is more =
        let first : b ≡ 91 = same b 91 is in
        let inner : is_bad (type_at classes rest).0 ≡ false =
        sym (array_right (type_at classes rest).0) ∙ ap (λ (s : Typed × List ℕ). is_bad s.0) (sym (at_array classes rest)) ∙ ap (λ (x : ℕ). is_bad (type_at classes (x ∷ rest)).0) (sym first) ∙ e in
        subst (λ (x : ℕ). Front (x ∷ rest)) (sym first) (array_front rest (more inner))
    by false is more = base_front classes b rest (ap (λ (s : Typed × List ℕ). is_bad s.0) (sym (at_base classes b rest is)) ∙ e)

-- the whole is spelled right exactly where reading it isn't refused
whole_front : (s : Typed × List ℕ) → is_bad (whole s) ≡ false → (is_bad s.0 ≡ false) × (s.1 ≡ [])
whole_front (t, []) e = (e, refl)
whole_front (t, b ∷ rest) e = absurd (bad_good e)

pub type_right : (classes : Rows) (bytes : List ℕ) → is_bad (type_of classes bytes) ≡ false → IsType bytes
type_right classes bytes e =
    let w : _ = whole_front (type_at classes bytes) e in
    let f : Front bytes = front classes bytes w.0 in
    let none : f.rest ≡ [] = ap (λ (s : Typed × List ℕ). s.1) (sym ((reads classes f.type f.is_type).takes f.rest)) ∙ ap (λ (xs : List ℕ). (type_at classes xs).1) (sym f.whole) ∙ w.1 in
    subst IsType (sym (f.whole ∙ ap (λ (xs : List ℕ). f.type ++ xs) none ∙ append-nil f.type)) f.is_type

pub right_type : (classes : Rows) (bytes : List ℕ) → IsType bytes → is_bad (type_of classes bytes) ≡ false
right_type classes bytes is = (reads classes bytes is).right

-- ---- ints

typed_int : (t : Typed) → is_int t ≡ true → is_bad t ≡ false
typed_int (typed.Of k) e = refl
typed_int typed.Outside e = absurd (false≢true e)
typed_int typed.Unknown e = absurd (false≢true e)
typed_int typed.Bad e = absurd (false≢true e)

class_no_int : (o : Option ℕ) → is_int (by_class o) ≡ true → ⊥
class_no_int None e = false≢true e
class_no_int (Some n) e = false≢true e

array_no_int : (t : Typed) → is_int (array_of t) ≡ true → ⊥
array_no_int (typed.Of kind.Int) e = false≢true e
array_no_int (typed.Of kind.Null) e = false≢true e
array_no_int (typed.Of (kind.Ref n)) e = false≢true e
array_no_int (typed.Of kind.Arr) e = false≢true e
array_no_int (typed.Of kind.Args) e = false≢true e
array_no_int typed.Outside e = false≢true e
array_no_int typed.Unknown e = false≢true e
array_no_int typed.Bad e = false≢true e

pub reads_int : (classes : Rows) (type : List ℕ) → is_int (type_of classes type) ≡ true → type ≡ int_type
reads_int classes type e = by type (type_right classes type (typed_int (type_of classes type) e)) e
  where
    by : (type : List ℕ) → IsType type → is_int (type_of classes type) ≡ true → type ≡ int_type
    by type Int h = refl
    by type (Other letter is) h = absurd (false≢true (ap is_int (sym (letter_type classes letter is)) ∙ h))
    by type (Class name is) h = absurd (class_no_int (class_of classes name) (ap is_int (sym (class_is classes name is)) ∙ h))
    by type (Array element is) h = absurd (array_no_int (type_of classes element) (ap is_int (sym (array_is classes element is)) ∙ h))

pub int_reads : (classes : Rows) (type : List ℕ) → type ≡ int_type → is_int (type_of classes type) ≡ true
int_reads classes type e = ap (λ (bytes : List ℕ). is_int (type_of classes bytes)) e ∙ ap is_int (int_is classes)

-- ---- classes that aren't there

-- which classes are known: by the rows, and by the text
pub record Known (text : List PlainClassText) (rows : Rows) : Type 0 where
  pub declared : (name : List ℕ) → is_some (value_of name rows) ≡ true → IsDeclared text name
  pub there : (name : List ℕ) → IsDeclared text name → is_some (value_of name rows) ≡ true
  pub built_in : (name : List ℕ) → is_some (built_in_number name) ≡ true → IsBuiltIn name
  pub numbered : (name : List ℕ) → IsBuiltIn name → is_some (built_in_number name) ≡ true

some_none : {A : Type 0} (o : Option A) → (is_some o ≡ true → ⊥) → o ≡ None
some_none None h = refl
some_none (Some x) h = absurd (h refl)

pub none_known : (rows : Rows) (name : List ℕ) → is_unknown (by_class (class_of rows name)) ≡ true → (is_some (built_in_number name) ≡ true → ⊥) × (is_some (value_of name rows) ≡ true → ⊥)
none_known rows name = by (built_in_number name)
  where
    second : (v : Option ℕ) → is_unknown (by_class v) ≡ true → is_some v ≡ true → ⊥
    second None e h = false≢true h
    second (Some n) e h = false≢true e

    by : (o : Option ℕ) → is_unknown (by_class (or_user rows name o)) ≡ true → (is_some o ≡ true → ⊥) × (is_some (value_of name rows) ≡ true → ⊥)
    by (Some n) e = absurd (false≢true e)
    by None e = (λ h. false≢true h, λ h. second (value_of name rows) e h)

pub known_none : (rows : Rows) (name : List ℕ) → (is_some (built_in_number name) ≡ true → ⊥) → (is_some (value_of name rows) ≡ true → ⊥) → is_unknown (by_class (class_of rows name)) ≡ true
known_none rows name h k =
    ap (λ (o : Option ℕ). is_unknown (by_class (or_user rows name o))) (some_none (built_in_number name) h) ∙ ap (λ (o : Option ℕ). is_unknown (by_class o)) (some_none (value_of name rows) k)

typed_unknown : (t : Typed) → is_unknown t ≡ true → is_bad t ≡ false
typed_unknown (typed.Of k) e = refl
typed_unknown typed.Outside e = refl
typed_unknown typed.Unknown e = refl
typed_unknown typed.Bad e = absurd (false≢true e)

array_known : (t : Typed) → is_unknown (array_of t) ≡ true → ⊥
array_known (typed.Of kind.Int) e = false≢true e
array_known (typed.Of kind.Null) e = false≢true e
array_known (typed.Of (kind.Ref n)) e = false≢true e
array_known (typed.Of kind.Arr) e = false≢true e
array_known (typed.Of kind.Args) e = false≢true e
array_known typed.Outside e = false≢true e
array_known typed.Unknown e = false≢true e
array_known typed.Bad e = false≢true e

pub reads_unknown : (text : List PlainClassText) (rows : Rows) (type : List ℕ) → Known text rows → is_unknown (type_of rows type) ≡ true → IsUnknownType text type
reads_unknown text rows type known e = by type (type_right rows type (typed_unknown (type_of rows type) e)) e
  where
    by : (type : List ℕ) → IsType type → is_unknown (type_of rows type) ≡ true → IsUnknownType text type
    by type Int h = absurd (false≢true (ap is_unknown (sym (int_is rows)) ∙ h))
    by type (Other letter is) h = absurd (false≢true (ap is_unknown (sym (letter_type rows letter is)) ∙ h))
    by type (Class name is) h =
        let none : _ = none_known rows name (ap is_unknown (sym (class_is rows name is)) ∙ h) in
        record { name = name; spelled = refl; is_name = is; not_declared = λ d. none.1 (known.there name d); not_built_in = λ b. none.0 (known.numbered name b) }
    by type (Array element is) h = absurd (array_known (type_of rows element) (ap is_unknown (sym (array_is rows element is)) ∙ h))

pub unknown_reads : (text : List PlainClassText) (rows : Rows) (type : List ℕ) → Known text rows → IsUnknownType text type → is_unknown (type_of rows type) ≡ true
unknown_reads text rows type known u =
    ap (λ (bytes : List ℕ). is_unknown (type_of rows bytes)) u.spelled ∙ ap is_unknown (class_is rows u.name u.is_name)
    ∙ known_none rows u.name (λ h. u.not_built_in (known.built_in u.name h)) (λ h. u.not_declared (known.declared u.name h))

pub unknown_type : (text : List PlainClassText) (type : List ℕ) → IsUnknownType text type → IsType type
unknown_type text type u = subst IsType (sym u.spelled) (Class u.name u.is_name)

-- ---- what is left out

pub typed_outside : (t : Typed) → is_outside t ≡ true → is_bad t ≡ false
typed_outside (typed.Of k) e = absurd (false≢true e)
typed_outside typed.Outside e = refl
typed_outside typed.Unknown e = absurd (false≢true e)
typed_outside typed.Bad e = absurd (false≢true e)

class_inside : (o : Option ℕ) → is_outside (by_class o) ≡ true → ⊥
class_inside None e = false≢true e
class_inside (Some n) e = false≢true e

-- an array of what is no int
array_outside : (t : Typed) → is_bad t ≡ false → (is_int t ≡ true → ⊥) → array_of t ≡ typed.Outside
array_outside (typed.Of kind.Int) e h = absurd (h refl)
array_outside (typed.Of kind.Null) e h = refl
array_outside (typed.Of (kind.Ref n)) e h = refl
array_outside (typed.Of kind.Arr) e h = refl
array_outside (typed.Of kind.Args) e h = refl
array_outside typed.Outside e h = refl
array_outside typed.Unknown e h = refl
array_outside typed.Bad e h = absurd (bad_good e)

pub reads_foreign : (rows : Rows) (type : List ℕ) → is_outside (type_of rows type) ≡ true → IsForeignType type
reads_foreign rows type e = by type (type_right rows type (typed_outside (type_of rows type) e)) e
  where
    no_ints : (element : List ℕ) → is_outside (array_of (type_of rows element)) ≡ true → element ≢ int_type
    no_ints element h same = false≢true (ap (λ (t : Typed). is_outside (array_of t)) (sym (int_is rows)) ∙ ap (λ (bytes : List ℕ). is_outside (array_of (type_of rows bytes))) (sym same) ∙ h)

    by : (type : List ℕ) → IsType type → is_outside (type_of rows type) ≡ true → IsForeignType type
    by type Int h = absurd (false≢true (ap is_outside (sym (int_is rows)) ∙ h))
    by type (Other letter is) h = Letter letter is refl
    by type (Class name is) h = absurd (class_inside (class_of rows name) (ap is_outside (sym (class_is rows name is)) ∙ h))
    by type (Array element is) h = ArrayOf element is (no_ints element (ap is_outside (sym (array_is rows element is)) ∙ h)) refl

pub foreign_type : (type : List ℕ) → IsForeignType type → IsType type
foreign_type type (Letter letter is e) = subst IsType (sym e) (Other letter is)
foreign_type type (ArrayOf element is other e) = subst IsType (sym e) (Array element is)

pub foreign_reads : (rows : Rows) (type : List ℕ) → IsForeignType type → is_outside (type_of rows type) ≡ true
foreign_reads rows type (Letter letter is e) = ap (λ (bytes : List ℕ). is_outside (type_of rows bytes)) e ∙ ap is_outside (letter_type rows letter is)
foreign_reads rows type (ArrayOf element is other e) =
    ap (λ (bytes : List ℕ). is_outside (type_of rows bytes)) e ∙ ap is_outside (array_is rows element is)
    ∙ ap is_outside (array_outside (type_of rows element) (right_type rows element is) (λ h. other (reads_int rows element h)))

-- ---- closing brackets

-- no type has one
pub without_bracket : (type : List ℕ) → IsType type → AllByRecursion (λ b. (b == 41) ≡ false) type
without_bracket type Int = (refl, tt)
without_bracket type (Other letter is) = (All-contains (λ (b : ℕ). (b == 41) ≡ false) (codes "ZBCSJFD") letter (All-from_recursion (λ (b : ℕ). (b == 41) ≡ false) (codes "ZBCSJFD") (refl, (refl, (refl, (refl, (refl, (refl, (refl, tt)))))))) is, tt)
without_bracket type (Class name is) = (refl, by name (both (is_filled name) (list_all is_class_byte name) is).1)
  where
    other : (x : ℕ) (b : Bool) → (x == 41) ≡ b → is_class_byte x ≡ true → b ≡ false
    other x false is e = refl
    other x true is e = absurd (false≢true (ap is_class_byte (sym (same x 41 is)) ∙ e))

    by : (xs : List ℕ) → list_all is_class_byte xs ≡ true → AllByRecursion (λ b. (b == 41) ≡ false) (xs ++ 59 ∷ [])
    by [] e = (refl, tt)
    by (x ∷ xs) e =
        let parts : (is_class_byte x ≡ true) × (list_all is_class_byte xs ≡ true) = both (is_class_byte x) (list_all is_class_byte xs) e in
        (other x (x == 41) refl parts.0, by xs parts.1)
without_bracket type (Array element is) = (refl, without_bracket element is)

-- an array is never one of a class that isn't there
pub array_unknown : (classes : Rows) (type element : List ℕ) → IsType element → type ≡ 91 ∷ element → is_unknown (type_of classes type) ≡ true → ⊥
array_unknown classes type element is e h = array_known (type_of classes element) (ap is_unknown (sym (array_is classes element is)) ∙ ap (λ (bytes : List ℕ). is_unknown (type_of classes bytes)) (sym e) ∙ h)
