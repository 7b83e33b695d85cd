-- A test by its number.
use Rattle.std.proofs.Common.{◌≡◌, ℕ, ◌-◌, ◌*◌, ◌<◌, ◌≤◌, max, List, length, refl, sym, ◌∙◌, ap, subst}
use Rattle.std.specs.Prelude.{nat_lt}
use Rattle.std.proofs.lemmas.Bool.{cond-true, cond-false, lt-ltb, le-ltb}
use Rattle.schedule_model.specs.declared.outcome.Outcome.TheVariants.{Pass, Fail}
use Rattle.dd_isolator.specs.Rounds.{State, Test, added, after, state, taken, test, round_size}
use Rattle.dd_isolator.specs.Shifts.{with_units}
use Rattle.dd_isolator.proofs.Shifting.{length-with_units}
use Rattle.dd_isolator.proofs.Testing.{two_units}

pub below_twice : (s : State) (i : ℕ) → i < round_size s → i < 2 * s.parts
below_twice s i h = (two_units s i h).1

pub test_added : (s : State) (i : ℕ) → i < s.parts → test s i ≡ added s i
unfolding test
test_added s i h = cond-true (nat_lt i s.parts) (added s i) (taken s (i - s.parts)) (lt-ltb i s.parts h)

pub test_taken : (s : State) (i : ℕ) → s.parts ≤ i → test s i ≡ taken s (i - s.parts)
unfolding test
test_taken s i h = cond-false (nat_lt i s.parts) (added s i) (taken s (i - s.parts)) (le-ltb i s.parts h)

pub length_with : (low high : ℕ) (xs ys : List ℕ) → length (with_units low high xs ys) ≡ length xs
length_with low high xs ys = length-with_units low high xs ys

pub after_pass_added : (s : State) (i : ℕ) → i < s.parts → state (test s i).times s.failing (max (s.parts - 1) 2) ≡ after s (test s i).side (test s i).times Pass
after_pass_added s i h = subst (λ (t : Test). state t.times s.failing (max (s.parts - 1) 2) ≡ after s t.side t.times Pass) (sym (test_added s i h)) refl

pub after_pass_taken : (s : State) (i : ℕ) → s.parts ≤ i → state (test s i).times s.failing 2 ≡ after s (test s i).side (test s i).times Pass
after_pass_taken s i h = subst (λ (t : Test). state t.times s.failing 2 ≡ after s t.side t.times Pass) (sym (test_taken s i h)) refl

pub after_fail_added : (s : State) (i : ℕ) → i < s.parts → state s.passing (test s i).times 2 ≡ after s (test s i).side (test s i).times Fail
after_fail_added s i h = subst (λ (t : Test). state s.passing t.times 2 ≡ after s t.side t.times Fail) (sym (test_added s i h)) refl

pub after_fail_taken : (s : State) (i : ℕ) → s.parts ≤ i → state s.passing (test s i).times (max (s.parts - 1) 2) ≡ after s (test s i).side (test s i).times Fail
after_fail_taken s i h = subst (λ (t : Test). state s.passing t.times (max (s.parts - 1) 2) ≡ after s t.side t.times Fail) (sym (test_taken s i h)) refl

-- states of equal schedules
pub same_state : (c d c' d' : List ℕ) (n n' : ℕ) (r t : State) → r ≡ state c d n → c ≡ c' → d ≡ d' → n ≡ n' → state c' d' n' ≡ t → r ≡ t
same_state c d c' d' n n' r t a p q e b = a ∙ ap (λ x. state x d n) p ∙ ap (λ x. state c' x n) q ∙ ap (state c' d') e ∙ b
