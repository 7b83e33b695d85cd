-- Made-up runs, for tests: one fails where a switch stands before event 5, and else passes. None makes more than 20 events.
use Rattle.std.specs.Prelude.{◌≡◌, ◌≤◌, ℕ, ◌+◌, nat_lt, ◌==◌, ◌||◌, Bool, true, false, cond, List, [], ◌∷◌, count_by, refl}
use Rattle.std.specs.List.{list_any}
use Rattle.std.proofs.Common.{sym, ◌∙◌, ap, arith}
use Rattle.std.proofs.lemmas.List.Sums.{sum_by-cons}
use Rattle.std.proofs.lemmas.Bool.{lt-ltb}
use Rattle.schedule_model.specs.declared.outcome.Outcome.{Outcome}
use Rattle.schedule_model.specs.declared.outcome.Outcome.TheVariants.{Pass, Fail}
use Rattle.schedule_model.specs.Outcomes.{ReadsCounts}

abbrev pub outcome_at_five : List ℕ → Outcome
outcome_at_five times = cond (list_any (λ time. time == 5) times) Fail Pass

any_counted : (p : ℕ → Bool) (xs : List ℕ) → list_any p xs ≡ nat_lt 0 (count_by p xs)
any_counted p [] = refl
any_counted p (x ∷ xs) = by_test (p x) (any_counted p xs) (sum_by-cons (λ y. cond (p y) 1 0) x xs)
  where
    by_test : (b : Bool) → list_any p xs ≡ nat_lt 0 (count_by p xs) → count_by p (x ∷ xs) ≡ cond {A = ℕ} b 1 0 + count_by p xs → (b || list_any p xs) ≡ nat_lt 0 (count_by p (x ∷ xs))
    by_test true rest count = sym (lt-ltb 0 (count_by p (x ∷ xs)) (omega arith))
    by_test false rest count = let same : count_by p xs ≡ count_by p (x ∷ xs) = omega arith in rest ∙ ap (nat_lt 0) same

pub reads_five : ReadsCounts 20 outcome_at_five
reads_five xs ys h =
    ap (λ b. cond b Fail Pass) (any_counted (λ t. t == 5) xs ∙ ap (nat_lt 0) (h 5 (omega arith)) ∙ sym (any_counted (λ t. t == 5) ys))

pub none_unresolved : (asked : ℕ) → 0 ≤ asked
none_unresolved asked = omega arith
