-- A run that goes on while one folding for each thread notes its clocks: what a recorder keeps.
use Rattle.std.proofs.Common.{◌≡◌, ℕ, zero, suc, ◌+◌, ◌-◌, ◌<◌, ◌≤◌, List, [], ◌∷◌, ◌++◌, length, set, get_or, replicate, refl, sym, ap, subst, ◌∙◌, ◌⊎◌, inl, inr, eq-eqb, arith}
use Rattle.std.specs.Prelude.{All, Some, slice_get}
use Rattle.std.specs.List.{AllByRecursion, flat_map}
use Rattle.std.proofs.lemmas.Bool.{ne_eqb}
use Rattle.std.proofs.lemmas.List.{append-nil, length-append, length-set}
use Rattle.std.proofs.lemmas.List.Elements.{All-append, All-cons, All-nil, All-from_recursion, recursion_from_All}
use Rattle.std.proofs.lemmas.Option.{slice_get_read}
use Rattle.schedule_log.specs.declared.interval.Interval.{Interval}
use Rattle.schedule_log.specs.Intervals.{clocks, MaximalFrom}
use Rattle.schedule_log.specs.Foldings.{PlainFolding, IsMaximal}
use Rattle.schedule_log.specs.Logs.{PlainLog, IsLawful, threads_in, expansion}
use Rattle.schedule_log.specs.Parts.{positions_from, positions, IsPart, AreParts}
use Rattle.schedule_log.proofs.Placed.{same_or_other}
use Rattle.schedule_log.proofs.Folded.{positions-push}

-- ---- an element of a list that grew or changed

get_push : {X : Type 0} (xs : List X) (x y : X) (k : ℕ) → slice_get (xs ++ x ∷ []) k ≡ Some y → (slice_get xs k ≡ Some y) ⊎ ((k ≡ length xs) × (x ≡ y))
get_push [] x y zero e = inr (refl, cc)
get_push [] x y (suc k) e = absurd cc
get_push (w ∷ xs) x y zero e = inl e
get_push (w ∷ xs) x y (suc k) e =
    elim (get_push xs x y k e) [
      | inl before ↦ inl before
      | inr last ↦ inr (ap suc last.0, last.1)
    ]

get_set : {X : Type 0} (xs : List X) (x y : X) (at k : ℕ) → slice_get (set xs at x) k ≡ Some y → ((k ≡ at) × (x ≡ y)) ⊎ ((k ≡ at → ⊥) × (slice_get xs k ≡ Some y))
get_set [] x y at k e = absurd cc
get_set (w ∷ xs) x y zero zero e = inl (refl, cc)
get_set (w ∷ xs) x y zero (suc k) e = inr (λ same. omega (arith, same), e)
get_set (w ∷ xs) x y (suc at) zero e = inr (λ same. omega (arith, same), e)
get_set (w ∷ xs) x y (suc at) (suc k) e =
    elim (get_set xs x y at k e) [
      | inl here ↦ inl (ap suc here.0, here.1)
      | inr other ↦ inr (λ same. other.0 (omega (arith, same)), other.1)
    ]

-- ---- places of a thread

positions_none : (top from t : ℕ) (threads : List ℕ) → top ≤ t → AllByRecursion (λ u. u < top) threads → positions_from from t threads ≡ []
positions_none top from t [] le all = refl
positions_none top from t (u ∷ threads) le all = rw (ne_eqb u t (λ same. omega (arith, all.0, same, le))) (positions_none top (from + 1) t threads le all.1)

positions_high : (from t : ℕ) (threads : List ℕ) → AllByRecursion (λ k. k < from + length threads) (positions_from from t threads)
positions_high from t [] = tt
positions_high from t (u ∷ threads) =
    let n : from + 1 + length threads ≡ from + suc (length threads) = omega arith in
    let rest : AllByRecursion (λ k. k < from + suc (length threads)) (positions_from (from + 1) t threads) = subst (λ (m : ℕ). AllByRecursion (λ k. k < m) (positions_from (from + 1) t threads)) n (positions_high (from + 1) t threads) in
    elim (same_or_other u t) [
      | inl e ↦ rw (eq-eqb u t e) (omega arith, rest)
      | inr e ↦ rw (ne_eqb u t e) rest
    ]

pub positions_below : (t : ℕ) (threads : List ℕ) → All (λ k. k < length threads) (positions t threads)
positions_below t threads =
    let n : 0 + length threads ≡ length threads = omega arith in
    All-from_recursion (λ k. k < length threads) (positions t threads) (subst (λ (m : ℕ). AllByRecursion (λ k. k < m) (positions t threads)) n (positions_high 0 t threads))

positions-same_push : (t : ℕ) (threads : List ℕ) → positions t (threads ++ t ∷ []) ≡ positions t threads ++ length threads ∷ []
positions-same_push t threads =
    positions-push 0 t t threads ∙ rw (eq-eqb t t refl) (ap (λ (n : ℕ). positions t threads ++ n ∷ []) (let same : 0 + length threads ≡ length threads = omega arith in same))

positions-other_push : (t u : ℕ) (threads : List ℕ) → (u ≡ t → ⊥) → positions t (threads ++ u ∷ []) ≡ positions t threads
positions-other_push t u threads ne = positions-push 0 t u threads ∙ rw (ne_eqb u t ne) (append-nil (positions t threads))

-- ---- the foldings

-- before the run
pub parts_none : AreParts [] []
parts_none = record { enough = All-nil (λ t. t < 0); each = λ t f e. absurd cc }

-- a thread more
pub parts_start : (threads : List ℕ) (parts : List PlainFolding) (p : PlainFolding) → AreParts threads parts → p.thread ≡ length parts → p.intervals ≡ [] → AreParts threads (parts ++ p ∷ [])
parts_start threads parts p are thread none =
    let longer : length (parts ++ p ∷ []) ≡ length parts + 1 = length-append parts (p ∷ []) in
    let fresh : IsPart threads (length parts) p = record {
      of_thread = thread;
      maximal = subst (MaximalFrom p.thread 0) (sym none) tt;
      noted = ap clocks none ∙ sym (positions_none (length parts) 0 (length parts) threads (omega arith) (recursion_from_All (λ t. t < length parts) threads are.enough));
    } in
    record {
      enough = λ k d lt. let b : get_or threads k d < length parts = are.enough k d lt in omega (arith, b, longer);
      each = λ t f e.
          elim (get_push parts p f t e) [
            | inl before ↦ are.each t f before
            | inr last ↦ subst (λ (u : ℕ). IsPart threads u f) (sym last.0) (subst (λ (g : PlainFolding). IsPart threads (length parts) g) last.1 fresh)
          ];
    }

-- what a folding noted is below the next clock
pub note_rising : (threads : List ℕ) (parts : List PlainFolding) (t : ℕ) (f : PlainFolding) → AreParts threads parts → t < length parts → f ≡ get_or parts t f → All (λ noted. noted < length threads) (clocks f.intervals)
note_rising threads parts t f are lt e =
    let p = are.each t f (slice_get_read parts (length parts) t f refl lt e) in
    subst (All (λ noted. noted < length threads)) (sym p.noted) (positions_below t threads)

-- an event more, whose clock its thread's folding noted
pub parts_note : (threads : List ℕ) (parts : List PlainFolding) (t : ℕ) (f g : PlainFolding) → AreParts threads parts → t < length parts → f ≡ get_or parts t f → g.thread ≡ f.thread → IsMaximal g → clocks g.intervals ≡ clocks f.intervals ++ length threads ∷ []
    → AreParts (threads ++ t ∷ []) (set parts t g)
parts_note threads parts t f g are lt e thread maximal noted =
    let size : length (set parts t g) ≡ length parts = length-set parts t g in
    let old = are.each t f (slice_get_read parts (length parts) t f refl lt e) in
    let new : IsPart (threads ++ t ∷ []) t g = record {
      of_thread = thread ∙ old.of_thread;
      maximal = maximal;
      noted = noted ∙ ap (λ (ks : List ℕ). ks ++ length threads ∷ []) old.noted ∙ sym (positions-same_push t threads);
    } in
    let low : All (λ u. u < length parts) (threads ++ t ∷ []) = All-append (λ u. u < length parts) threads (t ∷ []) are.enough (All-cons (λ u. u < length parts) t [] lt (All-nil (λ u. u < length parts))) in
    record {
      enough = λ k d bound. let b : get_or (threads ++ t ∷ []) k d < length parts = low k d bound in omega (arith, b, size);
      each = λ u h at.
          elim (get_set parts g h t u at) [
            | inl here ↦ subst (λ (v : ℕ). IsPart (threads ++ t ∷ []) v h) (sym here.0) (subst (λ (k : PlainFolding). IsPart (threads ++ t ∷ []) t k) here.1 new)
            | inr other ↦
                let p = are.each u h other.1 in
                record {
                  of_thread = p.of_thread;
                  maximal = p.maximal;
                  noted = p.noted ∙ sym (positions-other_push u t threads (λ same. other.0 (sym same)));
                }
          ];
    }

-- ---- the threads of a log

all_join : (P : ℕ → Type 0) (n x : ℕ) (rest : List ℕ) → P x → AllByRecursion P rest → AllByRecursion P (replicate n x ++ rest)
all_join P zero x rest p all = all
all_join P (suc n) x rest p all = (p, all_join P n x rest p all)

threads_low : (top : ℕ) (is : List Interval) → AllByRecursion (λ i. i.thread < top) is → AllByRecursion (λ t. t < top) (flat_map threads_in is)
threads_low top [] all = tt
threads_low top (i ∷ is) all = all_join (λ t. t < top) (i.last + 1 - i.first) i.thread (flat_map threads_in is) all.0 (threads_low top is all.1)

pub expansion_low : (log : PlainLog) → IsLawful log → All (λ t. t < 64) (expansion log)
expansion_low log law = All-from_recursion (λ t. t < 64) (expansion log) (threads_low 64 log.intervals (recursion_from_All (λ i. i.thread < 64) log.intervals law.threads))
