-- Names that are added one after another have the numbers of their places, a second one that of the first.
use Rattle.std.proofs.Common.{◌≡◌, ℕ, suc, ◌+◌, ◌<◌, Bool, true, false, List, [], ◌∷◌, ◌++◌, Option, Some, None, refl, sym, ap, ◌∙◌, subst, arith}
use Rattle.std.specs.Prelude.{not, ◌||◌, ◌==◌, if◌then◌else◌, length, bytes_eq, is_some}
use Rattle.std.specs.List.{list_any}
use Rattle.std.proofs.lemmas.Bool.Decides.{nat_tests}
use Rattle.name_resolver.specs.Index.{Rows, value_of, with_row}
use Rattle.name_resolver.specs.Names.{next}
use Rattle.class_linker.specs.Judging.{is_this}
use Rattle.linking_laws.proofs.Numbered.{next_number}
use Rattle.linking_laws.proofs.Members.{same_bytes, bytes_same}

-- rows that are added to others, each where its name isn't there yet
abbrev pub adding : Rows → Rows → Rows
adding [] rows = rows
adding (row ∷ more) rows = adding more (with_row row.0 row.1 rows)

-- names with their numbers
abbrev pub numbered : List (List ℕ) → ℕ → Rows
numbered [] n = []
numbered (name ∷ names) n = (name, n) ∷ numbered names (next n)

-- the number after so many names
abbrev pub past : List (List ℕ) → ℕ → ℕ
past [] n = n
past (name ∷ names) n = past names (next n)

pub adding_both : (xs ys rows : Rows) → adding (xs ++ ys) rows ≡ adding ys (adding xs rows)
adding_both [] ys rows = refl
adding_both (x ∷ xs) ys rows = adding_both xs ys (with_row x.0 x.1 rows)

pub numbered_both : (xs ys : List (List ℕ)) (n : ℕ) → numbered (xs ++ ys) n ≡ numbered xs n ++ numbered ys (past xs n)
numbered_both [] ys n = refl
numbered_both (x ∷ xs) ys n = ap (λ (rows : Rows). (x, n) ∷ rows) (numbered_both xs ys (next n))

-- ---- what is found

-- the first of two
abbrev pub first_of : Option ℕ → Option ℕ → Option ℕ
first_of None also = also
first_of (Some n) also = Some n

none_after : (o : Option ℕ) → o ≡ first_of o None
none_after None = refl
none_after (Some n) = refl

first_grouped : (a b c : Option ℕ) → first_of (first_of a b) c ≡ first_of a (first_of b c)
first_grouped None b c = refl
first_grouped (Some n) b c = refl

-- a row at the end
found_at_end : (key word : List ℕ) (n : ℕ) (rows : Rows) → value_of key (rows ++ (word, n) ∷ []) ≡ first_of (value_of key rows) (if bytes_eq key word then Some n else None)
found_at_end key word n [] = refl
found_at_end key word n (row ∷ rows) = by (bytes_eq key row.0) (found_at_end key word n rows)
  where
    by : (b : Bool) → value_of key (rows ++ (word, n) ∷ []) ≡ first_of (value_of key rows) (if bytes_eq key word then Some n else None) → (if b then Some row.1 else value_of key (rows ++ (word, n) ∷ [])) ≡ first_of (if b then Some row.1 else value_of key rows) (if bytes_eq key word then Some n else None)
    by true more = refl
    by false more = more

-- where a name is there, the same name finds it
there_first : (key word : List ℕ) (n j : ℕ) (rows : Rows) → value_of word rows ≡ Some j → value_of key rows ≡ first_of (value_of key rows) (if bytes_eq key word then Some n else None)
there_first key word n j rows e = by (bytes_eq key word) refl
  where
    by : (b : Bool) → bytes_eq key word ≡ b → value_of key rows ≡ first_of (value_of key rows) (if b then Some n else None)
    by false is = none_after (value_of key rows)
    by true is =
        let found : value_of key rows ≡ Some j = ap (λ (w : List ℕ). value_of w rows) (same_bytes key word is) ∙ e in
        found ∙ ap (λ (o : Option ℕ). first_of o (Some n)) (sym found)

-- a row more
pub found_with : (key word : List ℕ) (n : ℕ) (rows : Rows) → value_of key (with_row word n rows) ≡ first_of (value_of key rows) (if bytes_eq key word then Some n else None)
found_with key word n rows = by (value_of word rows) refl
  where
    by : (o : Option ℕ) → value_of word rows ≡ o → value_of key (if is_some o then rows else rows ++ (word, n) ∷ []) ≡ first_of (value_of key rows) (if bytes_eq key word then Some n else None)
    by None is = found_at_end key word n rows
    by (Some j) is = there_first key word n j rows is

-- rows more
pub found_adding : (key : List ℕ) (more rows : Rows) → value_of key (adding more rows) ≡ first_of (value_of key rows) (value_of key more)
found_adding key [] rows = none_after (value_of key rows)
found_adding key (row ∷ more) rows =
    found_adding key more (with_row row.0 row.1 rows)
    ∙ ap (λ (o : Option ℕ). first_of o (value_of key more)) (found_with key row.0 row.1 rows)
    ∙ first_grouped (value_of key rows) (if bytes_eq key row.0 then Some row.1 else None) (value_of key more)
    ∙ ap (λ (o : Option ℕ). first_of (value_of key rows) o) (by (bytes_eq key row.0))
  where
    by : (b : Bool) → first_of (if b then Some row.1 else None) (value_of key more) ≡ (if b then Some row.1 else value_of key more)
    by true = refl
    by false = refl

-- rows that are added to none
pub found_in : (key : List ℕ) (more rows : Rows) → rows ≡ adding more [] → value_of key rows ≡ value_of key more
found_in key more rows e = ap (value_of key) e ∙ found_adding key more []

-- ---- names and their numbers

-- a name is found where it is there
pub found_numbered : (key : List ℕ) (names : List (List ℕ)) (n : ℕ) → is_some (value_of key (numbered names n)) ≡ list_any (bytes_eq key) names
found_numbered key [] n = refl
found_numbered key (name ∷ names) n = by (bytes_eq key name) (found_numbered key names (next n))
  where
    by : (b : Bool) → is_some (value_of key (numbered names (next n))) ≡ list_any (bytes_eq key) names → is_some (if b then Some n else value_of key (numbered names (next n))) ≡ (b || list_any (bytes_eq key) names)
    by true more = refl
    by false more = more

-- a name has the number of its place where it isn't there before
pub own_number : (before : List (List ℕ)) (key : List ℕ) (after : List (List ℕ)) (n : ℕ) → n + length before < 2147483647
    → is_this (n + length before) (value_of key (numbered (before ++ key ∷ after) n)) ≡ not (list_any (bytes_eq key) before)
own_number [] key after n h = ap (λ (b : Bool). is_this (n + 0) (if b then Some n else value_of key (numbered after (next n)))) (self key) ∙ zero_more n
  where
    self : (key : List ℕ) → bytes_eq key key ≡ true
    self key = bytes_same key key refl

    zero_more : (n : ℕ) → (n == (n + 0)) ≡ true
    zero_more n = grind (arith, nat_tests)
own_number (name ∷ before) key after n h = by (bytes_eq key name) (λ lt. own_number before key after (next n) lt)
  where
    one : next n ≡ n + 1
    one = next_number n (omega (arith, h))

    place : next n + length before ≡ n + length (name ∷ before)
    place = omega (arith, one)

    less : (n m : ℕ) → (n == (n + suc m)) ≡ false
    less n m = grind (arith, nat_tests)

    by : (b : Bool) → (next n + length before < 2147483647 → is_this (next n + length before) (value_of key (numbered (before ++ key ∷ after) (next n))) ≡ not (list_any (bytes_eq key) before)) → is_this (n + length (name ∷ before)) (if b then Some n else value_of key (numbered (before ++ key ∷ after) (next n))) ≡ not (b || list_any (bytes_eq key) before)
    by true more = less n (length before)
    by false more =
        subst (λ (k : ℕ). is_this k (value_of key (numbered (before ++ key ∷ after) (next n))) ≡ not (list_any (bytes_eq key) before)) place
        (more (omega (arith, h, one)))
