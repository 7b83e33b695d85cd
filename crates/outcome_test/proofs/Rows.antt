-- The rows of a memo, as its map keeps them.
use Rattle.std.proofs.Common.{◌≡◌, ℕ, ◌+◌, ◌≤◌, Bool, true, false, List, [], ◌∷◌, ◌++◌, map, length, Option, Some, None, cond, refl, sym, ap, ◌∙◌, arith, Vec, nat_eq}
use Rattle.std.specs.Prelude.{◌==◌, IsPermutation}
use Rattle.std.specs.Map.{lookup}
use Rattle.std.specs.List.{AllByRecursion}
use Rattle.std.specs.Cmp.Lexicographic.{pointwise, same_text}
use Rattle.std.proofs.Common.{inl, inr}
use Rattle.std.proofs.lemmas.List.Elements.{All-push, All-same, recursion_from_All}
use Rattle.std.proofs.lemmas.List.Sorted.{sum_by-IsPermutation}
use Rattle.schedule_model.specs.Outcomes.{ReadsCounts}
use Rattle.indexmap.specs.IndexMap.{insert_entry}
use Rattle.schedule_model.specs.declared.outcome.Outcome.{Outcome}
use Rattle.std.proofs.lemmas.List.{length-append}
use Rattle.std.proofs.lemmas.List.Sums.{sum_by_push}
use Rattle.std.proofs.Common.{◌<◌, ◌-◌}
use Rattle.outcome_test.specs.Memos.{Rows, shown_of, times_in, Remembers, MayAdd}

abbrev pub row : {A : Type 0} → Vec ℕ A × Outcome → List ℕ × Outcome
row e = (e.0.items, e.1)

pub found-row : {A : Type 0} (key : List ℕ) (es : List (Vec ℕ A × Outcome)) → lookup (λ (k : Vec ℕ A). pointwise nat_eq key k.items) es ≡ shown_of key (map row es)
found-row key [] = refl
found-row key (e ∷ es) = ap (λ (rest : Option Outcome). cond (pointwise nat_eq key e.0.items) (Some e.1) rest) (found-row key es)

pub added-row : {A : Type 0} (k : Vec ℕ A) (o : Outcome) (es : List (Vec ℕ A × Outcome)) → shown_of k.items (map row es) ≡ None → map row (insert_entry (λ (a b : Vec ℕ A). pointwise nat_eq a.items b.items) es k o) ≡ map row es ++ (k.items, o) ∷ []
added-row k o [] h = refl
added-row {A = A} k o (e ∷ es) h = by (pointwise nat_eq k.items e.0.items) refl h (added-row k o es)
  where
    by : (b : Bool) → pointwise nat_eq k.items e.0.items ≡ b → cond b (Some e.1) (shown_of k.items (map row es)) ≡ None → (shown_of k.items (map row es) ≡ None → map row (insert_entry (λ (a c : Vec ℕ A). pointwise nat_eq a.items c.items) es k o) ≡ map row es ++ (k.items, o) ∷ []) → map row (cond b ((e.0, o) ∷ es) (e ∷ insert_entry (λ (a c : Vec ℕ A). pointwise nat_eq a.items c.items) es k o)) ≡ row e ∷ map row es ++ (k.items, o) ∷ []
    by true is none rest = cc
    by false is none rest = ap (λ (x : List (List ℕ × Outcome)). row e ∷ x) (rest none)

pub add-new : {A : Type 0} (k : Vec ℕ A) (o : Outcome) (es new : List (Vec ℕ A × Outcome)) (rows : Rows) → map row es ≡ rows → new ≡ insert_entry (λ (a b : Vec ℕ A). pointwise nat_eq a.items b.items) es k o → shown_of k.items rows ≡ None → map row new ≡ rows ++ (k.items, o) ∷ []
add-new k o es new rows same added none =
    ap (map row) added ∙ added-row k o es (ap (shown_of k.items) same ∙ none) ∙ ap (λ (x : Rows). x ++ (k.items, o) ∷ []) same

-- what is remembered is what the times show
pub remembered : (outcome : List ℕ → Outcome) (times : List ℕ) (rows : Rows) (o : Outcome) → Remembers outcome rows → shown_of times rows ≡ Some o → outcome times ≡ o
remembered outcome times rows o all found = by_rows rows (recursion_from_All (λ row. outcome row.0 ≡ row.1) rows all) found
  where
    by_rows : (rows : Rows) → AllByRecursion (λ (row : List ℕ × Outcome). outcome row.0 ≡ row.1) rows → shown_of times rows ≡ Some o → outcome times ≡ o
    by_rows [] all found = absurd (cc)
    by_rows (r ∷ rs) all found = by_test (pointwise nat_eq times r.0) refl all.0 found (by_rows rs all.1)
      where
        by_test : (b : Bool) → pointwise nat_eq times r.0 ≡ b → outcome r.0 ≡ r.1 → cond b (Some r.1) (shown_of times rs) ≡ Some o → (shown_of times rs ≡ Some o → outcome times ≡ o) → outcome times ≡ o
        by_test true is here found rest = let same : r.1 ≡ o = cc in ap outcome (same_text times r.0 (sym is)) ∙ here ∙ same
        by_test false is here found rest = rest found

pub still_remembers : (outcome : List ℕ → Outcome) (times : List ℕ) (shown : Outcome) (before after : Rows) → outcome times ≡ shown → MayAdd times shown before after → Remembers outcome before → Remembers outcome after
still_remembers outcome times shown before after is (inl same) all = All-same (λ (row : List ℕ × Outcome). outcome row.0 ≡ row.1) after before same all
still_remembers outcome times shown before after is (inr more) all = All-same (λ (row : List ℕ × Outcome). outcome row.0 ≡ row.1) after (before ++ (times, shown) ∷ []) more (All-push (λ (row : List ℕ × Outcome). outcome row.0 ≡ row.1) before (times, shown) all is)

-- the same times in another order show the same
pub same_in_order : (events : ℕ) (outcome : List ℕ → Outcome) (xs ys : List ℕ) → ReadsCounts events outcome → IsPermutation xs ys → outcome ys ≡ outcome xs
same_in_order events outcome xs ys reads order = reads ys xs (λ event low. sum_by-IsPermutation (λ time. cond (time == event) 1 0) xs ys order)

-- there is still room after a new row
pub record HasRoom (after : Rows) (times : ℕ) : Type 0 where
  pub few : length after ≤ 4096
  pub counted : times_in after ≤ times
  pub small : times ≤ 4194304

pub room_kept : (rows after : Rows) (times : List ℕ) (o : Outcome) (kept size count : ℕ) → after ≡ rows ++ (times, o) ∷ [] → length rows ≡ count → count < 4096 → times_in rows ≤ kept → size ≡ length times → size ≤ 4194304 - kept → kept ≤ 4194304 → HasRoom after (kept + size)
room_kept rows after times o kept size count is long below counted sized fits small =
    let more : length after ≡ length rows + 1 = ap length is ∙ length-append rows ((times, o) ∷ []) in
    let sum : times_in after ≡ times_in rows + length times = ap times_in is ∙ sum_by_push (λ (row : List ℕ × Outcome). length row.0) rows (times, o) in
    record { few = omega arith; counted = omega arith; small = omega arith }
