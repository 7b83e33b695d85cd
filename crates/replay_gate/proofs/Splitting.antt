-- Seats that are made and split keep the rule.
use Rattle.std.proofs.Common.{◌≡◌, ◌≢◌, ℕ, zero, suc, ◌-◌, ◌≤◌, Bool, true, false, true≢false, cond, ◌||◌, ◌==◌, List, [], ◌∷◌, length, set, refl, sym, ap, ◌∙◌, subst, ⊎_elim, arith, Some, eqb-true, eq-eqb, ne_eqb, length-set}
use mathlib.Core.Option.{some, none, some-injective, some-ne-none}
use lib.ListN.{get_elem?}
use Rattle.vm_model.specs.declared.op.Entry.{Entry}
use Rattle.machine_model.specs.Shared.{start}
use Rattle.atomic_table.specs.Table.{State, Splits, opening}
use Rattle.atomic_table.proofs.Lists.{at_longer}
use Rattle.replay_gate.specs.declared.view.ReplayView.{ReplayView}
use Rattle.replay_gate.specs.declared.view.Terms.{Terms}
use Rattle.replay_gate.specs.Lanes.{has, is_quiet}
use Rattle.replay_gate.specs.Rule.{Slot, first_view, world_of, Owners, Knows, Replays}
use Rattle.replay_gate.specs.Steps.{giving, given}
use Rattle.replay_gate.proofs.Lists.{at_end, has_numbers, has_without, quiet_right}
use Rattle.replay_gate.proofs.Keeps.{hears_nothing, each_after, not_mine, stays_out}

-- a lane that is only in a list of one
only_one : (x lane : ℕ) → has (x ∷ []) lane ≡ true → lane ≡ x
only_one x lane e = by_head (x == lane) refl e
  where
    by_head : (b : Bool) → (x == lane) ≡ b → (b || false) ≡ true → lane ≡ x
    by_head true is h = sym (eqb-true x lane is)
    by_head false is h = absurd (true≢false (sym h))

module _ (terms : Terms) where
  abbrev St : Type 0
  St = State Slot ReplayView

  abbrev Rule : St → Type 0
  Rule = Replays terms

  -- ---- the start

  abbrev first_owners : Owners
  first_owners zero = (0, true)
  first_owners (suc lane) = (0, false)

  spare_owner : (lane : ℕ) → 1 ≤ lane → first_owners lane ≡ (0, false)
  spare_owner zero l = absurd (omega arith)
  spare_owner (suc lane) l = refl

  only_first : (v d : ReplayView) (j : ℕ) → get_elem? (v ∷ []) j ≡ some d → (j ≡ 0) × (v ≡ d)
  only_first v d zero e = (refl, some-injective v d e)
  only_first v d (suc j) e = absurd (some-ne-none d (sym e))

  pub opens : Rule (opening (0 ∷ []) (Some (world_of terms (start terms.start) []) ∷ []) (first_view terms))
  opens =
      record {
        history = [];
        shared = start terms.start;
        turn = none;
        owners = first_owners;
        clock = refl;
        legal = refl;
        column = refl;
        within = omega arith;
        at_home = λ _. refl;
        out = λ j e. absurd (some-ne-none j (sym e));
        each_seat = λ j d e unspent.
            let t = only_first (first_view terms) d j e in
            subst (λ (x : ℕ × ReplayView). Knows terms [] none first_owners x.0 x.1) (λ i. (sym t.0 i, t.1 i)) record {
              start = refl;
              log = refl;
              lane_count = refl;
              clock = omega arith;
              unseen = [];
              seen = refl;
              heard = hears_nothing terms.lanes [];
              lanes = λ lane h. (ap first_owners (only_one 0 lane h), refl);
              spare = λ lane h. (spare_owner lane (has_numbers 1 (terms.lanes - 1) lane h), refl);
              turn = λ h. absurd (true≢false (sym h));
            };
      }

  -- ---- a lane is given

  pub splits : (id lane : ℕ) (v : ReplayView) → v.spent ≡ false → v.has_turn ≡ false → has v.spare lane ≡ true → Splits Rule id v (giving lane v) (given lane v)
  splits id lane v unspent free may s r at =
      let old = r.each_seat id v at unspent in
      let number : ℕ = length s.views in
      let owners : Owners = λ l. cond (l == lane) (number, true) (r.owners l) in
      let his : owners lane ≡ (number, true) = ap (λ (b : Bool). cond b (number, true) (r.owners lane)) (eq-eqb lane lane refl) in
      let was : r.owners lane ≡ (id, false) = (old.spare lane may).0 in
      let still : (l j : ℕ) (b : Bool) → r.owners l ≡ (j, b) → (j, b) ≢ (id, false) → owners l ≡ (j, b) =
      λ l j b o other. ap (λ (c : Bool). cond c (number, true) (r.owners l)) (ne_eqb l lane (λ is. other (sym o ∙ ap r.owners is ∙ was))) ∙ o in
      let views : List ReplayView = set s.views id (giving lane v) in
      let mine : (giving lane v).spent ≡ false → Knows terms r.history r.turn owners id (giving lane v) = λ _. record {
        start = old.start;
        log = old.log;
        lane_count = old.lane_count;
        clock = old.clock;
        unseen = old.unseen;
        seen = old.seen;
        heard = old.heard;
        lanes = λ l h. let o = old.lanes l h in (still l id true o.0 (λ is. true≢false (ap (λ (x : ℕ × Bool). x.1) is)), o.1);
        spare = λ l h.
            let t = has_without lane v.spare l h in
            let o = old.spare l t.0 in
            (ap (λ (c : Bool). cond c (number, true) (r.owners l)) (ne_eqb l lane t.1) ∙ o.0, o.1);
        turn = λ h. absurd (true≢false (sym h ∙ free));
      } in
      let others : (j : ℕ) (d : ReplayView) → j ≢ id → Knows terms r.history r.turn r.owners j d → Knows terms r.history r.turn owners j d = λ j d other k. record {
        start = k.start;
        log = k.log;
        lane_count = k.lane_count;
        clock = k.clock;
        unseen = k.unseen;
        seen = k.seen;
        heard = k.heard;
        lanes = λ l h. let o = k.lanes l h in (still l j true o.0 (λ is. other (ap (λ (x : ℕ × Bool). x.0) is)), o.1);
        spare = λ l h. let o = k.spare l h in (still l j false o.0 (λ is. other (ap (λ (x : ℕ × Bool). x.0) is)), o.1);
        turn = λ h. let t = k.turn h in record { alone = t.alone; clock = t.clock; seen = t.seen; thread = t.thread; next = t.next; lane = t.lane };
      } in
      let fresh : Knows terms r.history r.turn owners number (given lane v) = record {
        start = old.start;
        log = old.log;
        lane_count = old.lane_count;
        clock = old.clock;
        unseen = old.unseen;
        seen = old.seen;
        heard = hears_nothing terms.lanes v.seen;
        lanes = λ l h.
            let is = only_one lane l h in
            (ap owners is ∙ his, quiet_right terms.lanes l v.seen old.unseen (subst (λ (x : ℕ × List Entry). is_quiet terms.lanes x.0 x.1 ≡ true) (λ i. (sym is i, old.seen i)) (old.spare lane may).1));
        spare = λ l h. absurd (true≢false (sym h));
        turn = λ h. absurd (true≢false (sym h));
      } in
      record {
        history = r.history;
        shared = r.shared;
        turn = r.turn;
        owners = owners;
        clock = r.clock;
        legal = r.legal;
        column = r.column;
        within = r.within;
        at_home = r.at_home;
        out = λ j e.
            let o = r.out j e in
            let p = stays_out terms s record { words = s.words; homes = s.homes; views = views } id j (giving lane v) refl refl (not_mine terms s id j v at free o) o in
            record { homes = p.homes; view = p.view; at = at_longer views (given lane v ∷ []) j p.view p.at; unspent = p.unspent; has = p.has };
        each_seat = λ j d e unspent'. ⊎_elim
            (λ p. each_after terms (Knows terms r.history r.turn r.owners) (Knows terms r.history r.turn owners) s.views id (giving lane v) mine others r.each_seat j d p unspent')
            (λ t.
            let place : j ≡ number = t.0 ∙ length-set s.views id (giving lane v) in
            subst (λ (x : ℕ × ReplayView). Knows terms r.history r.turn owners x.0 x.1) (λ i. (sym place i, t.1 i)) fresh)
            (at_end views (given lane v) d j e);
      }
