-- The number that a row gives a name is the place of the first thing of this name.
use Rattle.std.proofs.Common.{◌≡◌, ℕ, ◌+◌, ◌≤◌, Bool, true, false, List, [], ◌∷◌, ◌++◌, Option, Some, None, refl, sym, ap, ◌∙◌, subst, arith}
use Rattle.std.specs.Prelude.{◌&&◌, ◌||◌, if◌then◌else◌, length, map, is_some, bytes_eq}
use Rattle.std.specs.List.{list_any, position_from}
use Rattle.std.proofs.lemmas.Bool.{false≢true}
use Rattle.std.proofs.lemmas.List.{length-map}
use Rattle.std.proofs.lemmas.Slice.Eq.{bytes_eq-Decides}
use Rattle.jasmin_lines.specs.Plain.{PlainMethodText, PlainLineText}
use Rattle.name_resolver.specs.Index.{Rows, value_of, with_row}
use Rattle.name_resolver.specs.Names.{next, row_if}
use Rattle.class_linker.specs.Bodies.{with_labels, labelled, labels_of}
use Rattle.linking_laws.specs.Declared.{or_later, label_place}
use Rattle.linking_laws.proofs.Numbered.{next_number}

-- ---- what is found later

-- nothing later changes nothing
pub later_none : (o : Option ℕ) → or_later o None ≡ o
later_none None = refl
later_none (Some n) = refl

-- of three
pub later_three : (a b c : Option ℕ) → or_later (or_later a b) c ≡ or_later a (or_later b c)
later_three None b c = refl
later_three (Some n) b c = refl

-- what a test chooses
pub later_if : (b : Bool) (n : ℕ) (rest : Option ℕ) → or_later (if b then Some n else None) rest ≡ (if b then Some n else rest)
later_if true n rest = refl
later_if false n rest = refl

-- ---- rows

-- a row at the end
value_last : (key word : List ℕ) (n : ℕ) (rows : Rows) → value_of key (rows ++ (word, n) ∷ []) ≡ or_later (value_of key rows) (if bytes_eq key word then Some n else None)
value_last key word n [] = refl
value_last key word n (row ∷ rows) = by (bytes_eq key row.0) (value_last key word n rows)
  where
    by : (b : Bool) → value_of key (rows ++ (word, n) ∷ []) ≡ or_later (value_of key rows) (if bytes_eq key word then Some n else None)
        → (if b then Some row.1 else value_of key (rows ++ (word, n) ∷ [])) ≡ or_later (if b then Some row.1 else value_of key rows) (if bytes_eq key word then Some n else None)
    by true h = refl
    by false h = h

-- what is there already stays
value_kept : (key word : List ℕ) (n : ℕ) (rows : Rows) → is_some (value_of word rows) ≡ true → value_of key rows ≡ or_later (value_of key rows) (if bytes_eq key word then Some n else None)
value_kept key word n rows there = by (bytes_eq key word) refl
  where
    some : (o : Option ℕ) → is_some o ≡ true → o ≡ or_later o (Some n)
    some (Some k) e = refl
    some None e = absurd (false≢true e)

    by : (b : Bool) → bytes_eq key word ≡ b → value_of key rows ≡ or_later (value_of key rows) (if b then Some n else None)
    by false is = sym (later_none (value_of key rows))
    by true is = some (value_of key rows) (subst (λ (k : List ℕ). is_some (value_of k rows) ≡ true) (sym ((bytes_eq-Decides key word).0 is)) there)

-- a row more, where the word may be there already
pub value_added : (key word : List ℕ) (n : ℕ) (rows : Rows) → value_of key (with_row word n rows) ≡ or_later (value_of key rows) (if bytes_eq key word then Some n else None)
value_added key word n rows = by (is_some (value_of word rows)) refl
  where
    by : (b : Bool) → is_some (value_of word rows) ≡ b → value_of key (if b then rows else rows ++ (word, n) ∷ []) ≡ or_later (value_of key rows) (if bytes_eq key word then Some n else None)
    by true is = value_kept key word n rows is
    by false is = value_last key word n rows

-- the same of a row that is added by a test
pub value_if : (wanted : Bool) (key word : List ℕ) (n : ℕ) (rows : Rows) → value_of key (row_if wanted word n rows) ≡ or_later (value_of key rows) (if wanted && bytes_eq key word then Some n else None)
value_if true key word n rows = value_added key word n rows
value_if false key word n rows = sym (later_none (value_of key rows))

-- ---- places

-- the first place in two lists
pub place_both : {A : Type 0} (test : A → Bool) (n : ℕ) (xs ys : List A) → position_from test n (xs ++ ys) ≡ or_later (position_from test n xs) (position_from test (n + length xs) ys)
place_both test n [] ys = ap (λ (k : ℕ). position_from test k ys) (omega arith)
place_both test n (x ∷ xs) ys = by (test x) (place_both test (n + 1) xs ys)
  where
    behind : position_from test (n + 1 + length xs) ys ≡ position_from test (n + length (x ∷ xs)) ys
    behind = ap (λ (k : ℕ). position_from test k ys) (omega arith)

    by : (b : Bool) → position_from test (n + 1) (xs ++ ys) ≡ or_later (position_from test (n + 1) xs) (position_from test (n + 1 + length xs) ys)
        → (if b then Some n else position_from test (n + 1) (xs ++ ys)) ≡ or_later (if b then Some n else position_from test (n + 1) xs) (position_from test (n + length (x ∷ xs)) ys)
    by true more = refl
    by false more = more ∙ ap (or_later (position_from test (n + 1) xs)) behind

-- tests that agree find the same place
pub place_agree : {A : Type 0} (test other : A → Bool) (n : ℕ) (xs : List A) → ((x : A) → test x ≡ other x) → position_from test n xs ≡ position_from other n xs
place_agree test other n [] same = refl
place_agree test other n (x ∷ xs) same =
    ap (λ (b : Bool). if b then Some n else position_from test (n + 1) xs) (same x) ∙ ap (λ (o : Option ℕ). if other x then Some n else o) (place_agree test other (n + 1) xs same)

-- a name that is added, and then what comes after it
pub place_step : (found : Option ℕ) (b : Bool) (n after : ℕ) (rest : ℕ → Option ℕ) → after ≡ n + 1 → or_later (or_later found (if b then Some n else None)) (rest after) ≡ or_later found (if b then Some n else rest (n + 1))
place_step found b n after rest e =
    later_three found (if b then Some n else None) (rest after) ∙ ap (or_later found) (later_if b n (rest after) ∙ ap (λ (k : ℕ). if b then Some n else rest k) e)

-- ---- labels

-- one of these is spelled so
abbrev pub is_label : List ℕ → List (List ℕ) → Bool
is_label label labels = list_any (λ other. bytes_eq label other) labels

-- labels before one instruction
label_added : (label : List ℕ) (labels : List (List ℕ)) (n : ℕ) (rows : Rows) → value_of label (with_labels labels n rows) ≡ or_later (value_of label rows) (if is_label label labels then Some n else None)
unfolding with_labels
label_added label [] n rows = sym (later_none (value_of label rows))
label_added label (other ∷ labels) n rows =
    label_added label labels n (with_row other n rows) ∙ ap (λ (o : Option ℕ). or_later o (if is_label label labels then Some n else None)) (value_added label other n rows)
    ∙ by (bytes_eq label other) (is_label label labels)
  where
    by : (a b : Bool) → or_later (or_later (value_of label rows) (if a then Some n else None)) (if b then Some n else None) ≡ or_later (value_of label rows) (if a || b then Some n else None)
    by true b = later_three (value_of label rows) (Some n) (if b then Some n else None)
    by false b = ap (λ (o : Option ℕ). or_later o (if b then Some n else None)) (later_none (value_of label rows))

-- how many instructions there are, and where a label stands among them
record LabelsSo (label : List ℕ) (ls : List PlainLineText) (n : ℕ) (rows : Rows) : Type 0 where
  count : (labelled ls n rows).0 ≡ n + length ls
  found : value_of label (labelled ls n rows).1 ≡ or_later (value_of label rows) (position_from (is_label label) n (map (λ (l : PlainLineText). l.labels) ls))

labels_so : (label : List ℕ) (ls : List PlainLineText) (n : ℕ) (rows : Rows) → n + length ls ≤ 2147483647 → LabelsSo label ls n rows
unfolding labelled
labels_so label [] n rows few = record { count = omega arith; found = sym (later_none (value_of label rows)) }
labels_so label (l ∷ ls) n rows few =
    let one : next n ≡ n + 1 = next_number n (omega (arith, few)) in
    let more : LabelsSo label ls (next n) (with_labels l.labels n rows) = labels_so label ls (next n) (with_labels l.labels n rows) (omega (arith, one, few)) in
    record {
      count = omega (arith, more.count, one);
      found = more.found ∙ ap (λ (o : Option ℕ). or_later o (position_from (is_label label) (next n) (map (λ (k : PlainLineText). k.labels) ls))) (label_added label l.labels n rows)
          ∙ place_step (value_of label rows) (is_label label l.labels) n (next n) (λ k. position_from (is_label label) k (map (λ (j : PlainLineText). j.labels) ls)) one;
    }

-- a label's number is that of the instruction it stands before
pub label_found : (m : PlainMethodText) (label : List ℕ) → length m.lines ≤ 16384 → value_of label (labels_of m) ≡ label_place m label
label_found m label few =
    label_added label m.end_labels (labelled m.lines 0 []).0 (labelled m.lines 0 []).1
    ∙ ap (λ (o : Option ℕ). or_later o (last (labelled m.lines 0 []).0)) so.found
    ∙ ap (λ (k : ℕ). or_later (position_from (is_label label) 0 groups) (last k)) (so.count ∙ count)
    ∙ sym (place_both (is_label label) 0 groups (m.end_labels ∷ []))
  where
    groups : List (List (List ℕ))
    groups = map (λ (l : PlainLineText). l.labels) m.lines

    last : ℕ → Option ℕ
    last k = if is_label label m.end_labels then Some k else None

    so : LabelsSo label m.lines 0 []
    so = labels_so label m.lines 0 [] (omega (arith, few))

    count : 0 + length m.lines ≡ 0 + length groups
    count = omega (arith, length-map m.lines (λ (l : PlainLineText). l.labels))
