-- Tests and what each was found to show, side by side.
use Rattle.std.proofs.Common.{◌≡◌, ℕ, zero, suc, ◌<◌, List, [], ◌∷◌, length, get_or, arith}
use Rattle.std.specs.List.{AllZip, HoldsAt}
use Rattle.std.specs.Prelude.{Result, Ok, Err, IfOk}
use Rattle.vm_model.specs.declared.memory.NoMemory.{NoMemory}
use Rattle.schedule_model.specs.declared.outcome.Outcome.{Outcome}
use Rattle.outcome_test.specs.Rounds.{Shows}

pub zip_at : {A B : Type 0} (R : A → B → Type 0) (xs : List A) (ys : List B) (i : ℕ) (d : A) (e : B) → AllZip R xs ys → i < length ys → R (get_or xs i d) (get_or ys i e)
zip_at R [] [] i d e all h = absurd (omega arith)
zip_at R [] (y ∷ ys) i d e all h = absurd all
zip_at R (x ∷ xs) [] i d e all h = absurd all
zip_at R (x ∷ xs) (y ∷ ys) zero d e all h = all.0
zip_at R (x ∷ xs) (y ∷ ys) (suc i) d e all h = zip_at R xs ys i d e all.1 (omega arith)

-- what stands beside a test is what it shows
pub shown_holds : (outcome : List ℕ → Outcome) (tests : List (List ℕ)) (shown : List (Result Outcome NoMemory)) (i : ℕ) → AllZip (Shows outcome) tests shown → i < length shown → (e : Result Outcome NoMemory) → IfOk (get_or shown i e) (λ o. HoldsAt {X = List ℕ} (λ test. outcome test ≡ o) tests i)
shown_holds outcome tests shown i all h e = by_answer (get_or shown i e) (λ d. zip_at (Shows outcome) tests shown i d e all h)
  where
    by_answer : (r : Result Outcome NoMemory) → ((d : List ℕ) → Shows outcome (get_or tests i d) r) → IfOk r (λ o. HoldsAt {X = List ℕ} (λ test. outcome test ≡ o) tests i)
    by_answer (Ok o) shows = shows
    by_answer (Err f) shows = tt
