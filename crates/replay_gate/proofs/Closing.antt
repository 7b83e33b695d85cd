-- What the last seat knows of the world when the gate is closed.
use Rattle.std.proofs.Common.{◌≡◌, ℕ, ◌≤◌, Bool, false, List, length, take, refl, sym, ap, ◌∙◌, subst, ⊎_elim, Some, mod-lt}
use mathlib.Core.Option.{some, none, some-injective}
use mathlib.Core.Option as maybe
use lib.ListN.{get_elem?}
use Rattle.machine_model.specs.Machine.{threads_of}
use Rattle.shared_world.specs.Worlds.{WorldState}
use Rattle.schedule_log.specs.Logs.{PlainLog, expansion}
use Rattle.atomic_table.specs.Table.{State, Final, Seen}
use Rattle.replay_gate.specs.declared.view.ReplayView.{ReplayView}
use Rattle.replay_gate.specs.declared.view.Terms.{Terms}
use Rattle.gate_core.specs.Histories.{entries_of_lane}
use Rattle.replay_gate.specs.Lanes.{lane_of}
use Rattle.replay_gate.specs.Rule.{Slot, world_of, Replays}
use Rattle.replay_gate.specs.Answers.{Closes, HasAllLanes}
use Rattle.replay_gate.proofs.Lists.{entries-same, has_contained}
use Rattle.replay_gate.proofs.Keeps.{not_mine}

module _ (terms : Terms) where
  abbrev St : Type 0
  St = State Slot ReplayView

  -- a seat with all lanes and without the turn is the last one: nobody has the turn
  last_one : (s : St) (r : Replays terms s) (id : ℕ) (v : ReplayView) → get_elem? s.views id ≡ some v → v.spent ≡ false → v.has_turn ≡ false → 1 ≤ terms.lanes → HasAllLanes terms.lanes v → r.turn ≡ none
  last_one s r id v at unspent free some_lane all = by_turn r.turn refl
    where
      by_turn : (o : maybe.Option ℕ) → r.turn ≡ o → r.turn ≡ none
      by_turn none e = e
      by_turn (some j) e =
          let out = r.out j e in
          let theirs = r.each_seat j out.view out.at out.unspent in
          let mine = r.each_seat id v at unspent in
          let held = theirs.turn out.has in
          let lane : ℕ = lane_of terms.lanes held.thread in
          let owner = (theirs.lanes lane held.lane).0 in
          let is : j ≡ id = ⊎_elim
          (λ h. ap (λ (x : ℕ × Bool). x.0) (sym owner ∙ (mine.lanes lane (has_contained v.lanes lane h)).0))
          (λ h. ap (λ (x : ℕ × Bool). x.0) (sym owner ∙ (mine.spare lane (has_contained v.spare lane h)).0))
          (all lane (mod-lt held.thread some_lane)) in
          absurd (not_mine terms s id j v at free out is)

  pub closes : (id : ℕ) (v : ReplayView) (words : List ℕ) (slots : List Slot) (slot : Slot) → Final (Seen (Replays terms) id v) words slots → v.spent ≡ false → v.has_turn ≡ false → 1 ≤ terms.lanes
      → HasAllLanes terms.lanes v → get_elem? slots 0 ≡ some slot → (world : WorldState) × (slot ≡ Some world) × Closes v world
  closes id v words slots slot final unspent free some_lane all there =
      let s = final.0 in
      let r = final.1.0 in
      let at = final.1.1 in
      let known = r.each_seat id v at unspent in
      let home = r.at_home (last_one s r id v at unspent free some_lane all) in
      let world : WorldState = world_of terms r.shared r.history in
      let found : get_elem? slots 0 ≡ some (Some world) = final.4 0 (Some world) (ap (λ hs. get_elem? hs 0) home) in (
        world,
        some-injective slot (Some world) (sym there ∙ found),
        record {
          start = sym known.start;
          budget = ap (λ (l : PlainLog). l.budget) (sym known.log);
          legal = r.legal;
          seen = (known.unseen, sym known.seen);
          column = subst (λ (l : PlainLog). threads_of r.history ≡ take (length r.history) (expansion l)) (sym known.log) r.column;
          own = λ lane h. subst (λ (k : ℕ). entries_of_lane k lane r.history ≡ entries_of_lane k lane v.seen) (sym known.lane_count)
              (entries-same terms.lanes lane r.history v.seen known.unseen known.seen (known.lanes lane (has_contained v.lanes lane h)).1);
        },
      )
