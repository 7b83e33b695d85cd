-- How many are unresolved at the front of a list of tests.
use Rattle.std.proofs.Common.{◌≡◌, ℕ, zero, suc, ◌+◌, ◌<◌, ◌≤◌, true, cond, not, List, [], ◌∷◌, length, get_or, take, refl, ◌∙◌, ap, arith}
use Rattle.std.specs.List.{AllWithin}
use Rattle.std.proofs.lemmas.List.{take_more}
use Rattle.std.proofs.lemmas.List.Sums.{sum_by-cons, sum_by_push}
use Rattle.schedule_model.specs.declared.outcome.Outcome.{Outcome}
use Rattle.schedule_model.specs.declared.outcome.Outcome.TheVariants.{Unresolved}
use Rattle.schedule_model.specs.Outcomes.{is_resolved, unresolved_among}

-- a front of unresolved tests
pub unresolved_front : (outcome : List ℕ → Outcome) (ts : List (List ℕ)) (k : ℕ) → k ≤ length ts → AllWithin (λ t. outcome t ≡ Unresolved) ts 0 k → unresolved_among outcome (take k ts) ≡ k
unresolved_front outcome ts zero h all = refl
unresolved_front outcome [] (suc k) h all = absurd (omega arith)
unresolved_front outcome (t ∷ ts) (suc k) h all =
    sum_by-cons (λ l. cond (not (is_resolved (outcome l))) 1 0) t (take k ts)
    ∙ ap (λ o. cond {A = ℕ} (not (is_resolved o)) 1 0 + unresolved_among outcome (take k ts)) (all 0 [] (omega arith) (omega arith))
    ∙ ap (λ n. 1 + n) (unresolved_front outcome ts k (omega arith) (λ j d low below. all (suc j) d (omega arith) (omega arith)))
    ∙ omega arith

pub resolved_next : (outcome : List ℕ → Outcome) (ts : List (List ℕ)) (k : ℕ) → k < length ts → is_resolved (outcome (get_or ts k [])) ≡ true → AllWithin (λ t. outcome t ≡ Unresolved) ts 0 k → unresolved_among outcome (take (k + 1) ts) ≡ k
resolved_next outcome ts k h sure all =
    ap (unresolved_among outcome) (take_more ts k [] h)
    ∙ sum_by_push (λ l. cond (not (is_resolved (outcome l))) 1 0) (take k ts) (get_or ts k [])
    ∙ ap (λ b. unresolved_among outcome (take k ts) + cond {A = ℕ} (not b) 1 0) sure
    ∙ ap (λ n. n + 0) (unresolved_front outcome ts k (omega arith) all)
    ∙ omega arith
