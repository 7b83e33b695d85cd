-- The search as the code goes through it.
use Rattle.std.proofs.Common.{◌≡◌, ℕ, zero, suc, ◌+◌, ◌<◌, ◌≤◌, List, length, refl, sym, ◌∙◌, ap, subst, arith}
use Rattle.std.specs.Prelude.{Some, None}
use Rattle.schedule_model.specs.declared.outcome.Outcome.{Outcome}
use Rattle.schedule_model.specs.declared.outcome.Outcome.TheVariants.{Pass, Fail}
use Rattle.schedule_model.specs.Outcomes.{ReadsCounts, unresolved_among}
use Rattle.dd_isolator.specs.Shifts.{padded, units}
use Rattle.dd_isolator.specs.declared.fault.IsolateFault.{IsolateFault}
use Rattle.dd_isolator.specs.declared.fault.IsolateFault.TheVariants.{TestsSpent, NoMemory}
use Rattle.dd_isolator.specs.Answers.{IsSpent}
use Rattle.dd_isolator.specs.OneMinimal.{IsOneMinimal}
use Rattle.dd_isolator.specs.Rounds.{State, IsState, start, follower, made, round_of}
use Rattle.dd_isolator.specs.Search.{measure, tests_from, last_from}
use Rattle.dd_isolator.proofs.Falling.{follower_lowers}
use Rattle.dd_isolator.proofs.Searching.{needed_more, unresolved_more, last_more, tests_end, last_end, round-le}
use Rattle.dd_isolator.proofs.Shifting.{same_from_units}
use Rattle.dd_isolator.proofs.Minimal.{minimal_last}
use Rattle.dd_isolator.proofs.Padding.{agree_padded, same_length}

-- one step on: what was counted and what is left
pub record Steps (outcome : List ℕ → Outcome) (s t : State) (a a' u u' : ℕ) : Type 0 where
  pub fine : IsState t
  pub asked : a' + length (tests_from outcome t) ≡ a + length (tests_from outcome s)
  pub unresolved : u' + unresolved_among outcome (tests_from outcome t) ≡ u + unresolved_among outcome (tests_from outcome s)
  pub last : last_from outcome t ≡ last_from outcome s
  pub less : measure t < measure s

pub step : (outcome other : List ℕ → Outcome) (s t : State) (a a' u u' : ℕ) → IsState s → other ≡ outcome → Some t ≡ follower other s → a' ≡ a + length (made other (round_of s)) → u' ≡ u + unresolved_among other (made other (round_of s)) → Steps outcome s t a a' u u'
step outcome other s t a a' u u' ok same next asked unresolved =
    let goes : follower outcome s ≡ Some t = ap (λ (f : List ℕ → Outcome). follower f s) (sym same) ∙ sym next in
    let asked' : a' ≡ a + length (made outcome (round_of s)) = asked ∙ ap (λ (f : List ℕ → Outcome). a + length (made f (round_of s))) same in
    let unresolved' : u' ≡ u + unresolved_among outcome (made outcome (round_of s)) = unresolved ∙ ap (λ (f : List ℕ → Outcome). u + unresolved_among f (made f (round_of s))) same in
    let lower = follower_lowers outcome s t ok goes in
    record {
      fine = lower.ok;
      asked = omega (arith, needed_more outcome s t ok goes);
      unresolved = omega (arith, unresolved_more outcome s t ok goes);
      last = sym (last_more outcome s t ok goes);
      less = lower.less;
    }

pub record Ends (outcome : List ℕ → Outcome) (s : State) (a a' u u' : ℕ) : Type 0 where
  pub asked : a' ≡ a + length (tests_from outcome s)
  pub unresolved : u' ≡ u + unresolved_among outcome (tests_from outcome s)
  pub last : last_from outcome s ≡ s

pub end : (outcome other : List ℕ → Outcome) (s : State) (a a' u u' : ℕ) → other ≡ outcome → None ≡ follower other s → a' ≡ a + length (made other (round_of s)) → u' ≡ u + unresolved_among other (made other (round_of s)) → Ends outcome s a a' u u'
end outcome other s a a' u u' same next asked unresolved =
    let goes : follower outcome s ≡ None = ap (λ (f : List ℕ → Outcome). follower f s) (sym same) ∙ sym next in
    record {
      asked = asked ∙ ap (λ (f : List ℕ → Outcome). a + length (made f (round_of s))) same ∙ ap (λ l. a + length l) (sym (tests_end outcome s goes));
      unresolved = unresolved ∙ ap (λ (f : List ℕ → Outcome). u + unresolved_among f (made f (round_of s))) same ∙ ap (λ l. u + unresolved_among outcome l) (sym (tests_end outcome s goes));
      last = last_end outcome s goes;
    }

spent : (outcome other : List ℕ → Outcome) (s : State) (budget a needed : ℕ) → IsState s → other ≡ outcome → budget < a + length (made other (round_of s)) → a + length (tests_from outcome s) ≡ needed → budget < needed
spent outcome other s budget a needed ok same h e =
    let h' : budget < a + length (made outcome (round_of s)) = subst (λ (f : List ℕ → Outcome). budget < a + length (made f (round_of s))) same h in
    omega (arith, round-le outcome s ok)

module _ (outcome : List ℕ → Outcome) (events : ℕ) (reads : ReadsCounts events outcome) (pass fail : List ℕ) (passes : outcome pass ≡ Pass) (fails : outcome fail ≡ Fail) where
  padded_passes : outcome (padded events pass fail) ≡ Pass
  padded_passes = sym (reads pass (padded events pass fail) (agree_padded events pass fail)) ∙ passes

  padded_fails : outcome (padded events fail pass) ≡ Fail
  padded_fails = sym (reads fail (padded events fail pass) (agree_padded events fail pass)) ∙ fails

  pub minimal_padded : IsOneMinimal outcome (padded events pass fail) (padded events fail pass) (last_from outcome (start (padded events pass fail) (padded events fail pass))).passing (last_from outcome (start (padded events pass fail) (padded events fail pass))).failing
  minimal_padded = minimal_last outcome (padded events pass fail) (padded events fail pass) (same_length events pass fail) padded_passes padded_fails

  pub some_padded : 0 < units (padded events pass fail) (padded events fail pass)
  some_padded = by_units (units (padded events pass fail) (padded events fail pass)) refl
    where
      by_units : (u : ℕ) → units (padded events pass fail) (padded events fail pass) ≡ u → 0 < u
      by_units zero e =
          let same : padded events pass fail ≡ padded events fail pass = same_from_units (padded events pass fail) (padded events fail pass) (same_length events pass fail) e in
          let both : Pass ≡ Fail = sym padded_passes ∙ ap outcome same ∙ padded_fails in
          absurd (cc)
      by_units (suc u) e = omega arith

pub same_minimal : (outcome : List ℕ → Outcome) (p f c d : List ℕ) (s : State) → c ≡ s.passing → d ≡ s.failing → IsOneMinimal outcome p f s.passing s.failing → IsOneMinimal outcome p f c d
same_minimal outcome p f c d s e g m = subst (λ x. IsOneMinimal outcome p f x d) (sym e) (subst (λ y. IsOneMinimal outcome p f s.passing y) (sym g) m)

pub same_pair : (c d : List ℕ) (s t : State) → c ≡ s.passing → d ≡ s.failing → s ≡ t → ◌≡◌ {A = List ℕ × List ℕ} (c, d) (t.passing, t.failing)
same_pair c d s t e g h =
    let e' : c ≡ t.passing = e ∙ ap (λ (x : State). x.passing) h in
    let g' : d ≡ t.failing = g ∙ ap (λ (x : State). x.failing) h in
    ap (λ x. (x, d)) e' ∙ ap (λ y. (t.passing, y)) g'

pub spent_still : (outcome other : List ℕ → Outcome) (s : State) (budget a needed : ℕ) (f : IsolateFault) → IsState s → other ≡ outcome → a + length (tests_from outcome s) ≡ needed → IsSpent budget (a + length (made other (round_of s))) f → IsSpent budget needed f
spent_still outcome other s budget a needed (TestsSpent asked) ok same e h = (h.0, spent outcome other s budget a needed ok same h.1 e)
spent_still outcome other s budget a needed NoMemory ok same e h = tt

-- a budget that is no less than a bound on what is needed is never spent
pub never_spent : (budget needed bound : ℕ) (f : IsolateFault) → needed ≤ bound → bound ≤ budget → IsSpent budget needed f → f ≡ NoMemory
never_spent budget needed bound (TestsSpent asked) few ample spent = absurd (omega (arith, spent.1))
never_spent budget needed bound NoMemory few ample spent = refl
