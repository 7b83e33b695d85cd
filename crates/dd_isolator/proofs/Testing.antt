-- What each test of a round is: a schedule between the two, nearer to each.
use Rattle.std.proofs.Common.{◌≡◌, ℕ, ◌+◌, ◌-◌, ◌*◌, ◌<◌, ◌≤◌, Bool, true, false, cond, List, length, get_or, refl, sym, ◌∙◌, subst, arith}
use Rattle.std.specs.Prelude.{nat_lt, slice_index}
use Rattle.std.specs.List.{AllByRecursion}
use Rattle.std.proofs.lemmas.Bool.{ltb-true, ltb-false}
use Rattle.std.proofs.lemmas.List.Elements.{recursion_from_All, All-from_get_or}
use Rattle.std.proofs.lemmas.List.FromFn.{length-map-range_with_len, get_or-map-range_with_len}
use Rattle.dd_isolator.specs.Shifts.{cut, units, InOrder}
use Rattle.dd_isolator.specs.Rounds.{State, IsState, Test, units_of, test, added, taken, round_size, round_of}
use Rattle.dd_isolator.proofs.Shifting.{length-with_units, units_sym, units_with, moved_at, moved_in_order}
use Rattle.dd_isolator.proofs.Parts.{cut_rises, cut_within, part_small}

-- a schedule between the two, nearer to each
pub record IsNearer (s : State) (times : List ℕ) : Type 0 where
  pub same : length times ≡ length s.passing
  pub to_passing : units s.passing times < units_of s
  pub to_failing : units times s.failing < units_of s
  pub in_order : (i : ℕ) → InOrder (slice_index s.passing i) (slice_index times i) (slice_index times i) (slice_index s.failing i)

added_nearer : (s : State) (i : ℕ) → IsState s → 1 < units_of s → i < s.parts → IsNearer s (added s i).times
added_nearer s i ok two below =
    let u : ℕ = units_of s in
    let low : ℕ = cut (units_of s) s.parts i in
    let rises : cut (units_of s) s.parts i < cut (units_of s) s.parts (i + 1) = cut_rises (units_of s) s.parts i (omega (arith, ok.least)) ok.most in
    let within : cut (units_of s) s.parts (i + 1) ≤ units_of s = cut_within (units_of s) s.parts (i + 1) (omega (arith, ok.least)) (omega arith) in
    let small : cut (units_of s) s.parts (i + 1) < units_of s + cut (units_of s) s.parts i = part_small (units_of s) s.parts i (omega (arith, ok.least)) ok.most within in
    let both : (units s.passing (added s i).times ≡ cut (units_of s) s.parts (i + 1) - cut (units_of s) s.parts i) × (units (added s i).times s.failing + (cut (units_of s) s.parts (i + 1) - cut (units_of s) s.parts i) ≡ units_of s) = units_with _ _ s.passing s.failing (omega arith) within in
    record {
      same = length-with_units _ _ s.passing s.failing;
      to_passing = omega (arith, both.0);
      to_failing = omega (arith, both.1);
      in_order = λ j. let m = moved_at (cut (units_of s) s.parts i) (cut (units_of s) s.parts (i + 1)) s.passing s.failing j ok.same in
          subst (λ t. InOrder (slice_index s.passing j) t t (slice_index s.failing j)) (sym m.1) (moved_in_order m.0 (slice_index s.passing j) (slice_index s.failing j));
    }

turned : (a t b : ℕ) → InOrder b t t a → InOrder a t t b
turned a t b h = grind (arith, h)

taken_nearer : (s : State) (i : ℕ) → IsState s → 1 < units_of s → i < s.parts → IsNearer s (taken s i).times
taken_nearer s i ok two below =
    let rises : cut (units_of s) s.parts i < cut (units_of s) s.parts (i + 1) = cut_rises (units_of s) s.parts i (omega (arith, ok.least)) ok.most in
    let within : cut (units_of s) s.parts (i + 1) ≤ units_of s = cut_within (units_of s) s.parts (i + 1) (omega (arith, ok.least)) (omega arith) in
    let small : cut (units_of s) s.parts (i + 1) < units_of s + cut (units_of s) s.parts i = part_small (units_of s) s.parts i (omega (arith, ok.least)) ok.most within in
    let back : units s.failing s.passing ≡ units_of s = units_sym s.failing s.passing in
    let both : (units s.failing (taken s i).times ≡ cut (units_of s) s.parts (i + 1) - cut (units_of s) s.parts i) × (units (taken s i).times s.passing + (cut (units_of s) s.parts (i + 1) - cut (units_of s) s.parts i) ≡ units s.failing s.passing) = units_with _ _ s.failing s.passing (omega arith) (omega arith) in
    record {
      same = length-with_units _ _ s.failing s.passing ∙ ok.same;
      to_passing = omega (arith, both.1, units_sym s.passing (taken s i).times);
      to_failing = omega (arith, both.0, units_sym (taken s i).times s.failing);
      in_order = λ j. let m = moved_at (cut (units_of s) s.parts i) (cut (units_of s) s.parts (i + 1)) s.failing s.passing j (sym ok.same) in
          turned (slice_index s.passing j) _ (slice_index s.failing j) (subst (λ t. InOrder (slice_index s.failing j) t t (slice_index s.passing j)) (sym m.1) (moved_in_order m.0 (slice_index s.failing j) (slice_index s.passing j)));
    }

pub two_units : (s : State) (i : ℕ) → i < round_size s → (1 < units_of s) × (i < 2 * s.parts)
unfolding round_size
two_units s i h = by_test (nat_lt 1 (units_of s)) refl h
  where
    by_test : (b : Bool) → nat_lt 1 (units_of s) ≡ b → i < cond b (2 * s.parts) 0 → (1 < units_of s) × (i < 2 * s.parts)
    by_test true e h = (ltb-true 1 (units_of s) e, h)
    by_test false e h = absurd (omega arith)

pub test_nearer : (s : State) (i : ℕ) → IsState s → i < round_size s → IsNearer s (test s i).times
unfolding test
test_nearer s i ok h = by_test (two_units s i h) (nat_lt i s.parts) refl
  where
    by_test : (1 < units_of s) × (i < 2 * s.parts) → (b : Bool) → nat_lt i s.parts ≡ b → IsNearer s (cond b (added s i) (taken s (i - s.parts))).times
    by_test two true e = added_nearer s i ok two.0 (ltb-true i s.parts e)
    by_test two false e = taken_nearer s (i - s.parts) ok two.0 (omega (arith, ltb-false i s.parts e, two.1))

pub length-round : (s : State) → length (round_of s) ≡ round_size s
unfolding round_of
length-round s = length-map-range_with_len (test s) 0 (round_size s)

pub get_or-round : (s : State) (i : ℕ) (d : Test) → i < round_size s → get_or (round_of s) i d ≡ test s i
unfolding round_of
get_or-round s i d h = get_or-map-range_with_len (test s) 0 (round_size s) i i d h (omega arith)

-- all tests of a round
pub round_nearer : (s : State) → IsState s → AllByRecursion (λ t. IsNearer s t.times) (round_of s)
round_nearer s ok =
    recursion_from_All (λ t. IsNearer s t.times) (round_of s) (All-from_get_or (λ t. IsNearer s t.times) (round_of s) (test s 0)
    (λ i h. let below : i < round_size s = omega (arith, length-round s) in subst (λ t. IsNearer s t.times) (sym (get_or-round s i (test s 0) below)) (test_nearer s i ok below)))
