-- Seats that are joined keep the rule, and have what both had.
use Rattle.std.proofs.Common.{◌≡◌, ◌≢◌, ℕ, Bool, true, false, true≢false, cond, ◌==◌, nat_le, List, [], ◌++◌, length, set, refl, sym, ap, ◌∙◌, subst, ⊎_elim, arith, eq-eqb, ne_eqb, leb-true, leb-false, append-nil}
use mathlib.Core.Option.{some}
use mathlib.Core.List.{IsPrefix}
use lib.ListN.{get_elem?}
use Rattle.vm_model.specs.declared.op.Entry.{Entry}
use Rattle.atomic_table.specs.Table.{State, Joins}
use Rattle.atomic_table.proofs.Lists.{set_else}
use Rattle.replay_gate.specs.declared.view.ReplayView.{ReplayView}
use Rattle.replay_gate.specs.declared.view.Terms.{Terms}
use Rattle.gate_core.specs.Histories.{entries_of_lane}
use Rattle.replay_gate.specs.Lanes.{has, is_quiet}
use Rattle.replay_gate.specs.Rule.{Slot, Hears, Owners, Knows, Replays}
use Rattle.replay_gate.specs.Steps.{Seated, Glances, longer, shorter, joined, spent_view}
use Rattle.replay_gate.proofs.Lists.{ends_alike, has_append, quiet_front, quiet_right, entries-same}
use Rattle.replay_gate.proofs.Keeps.{each_after, not_mine, stays_out}

-- of two beginnings of the history the longer one, and what is left of the history behind it
pub record Later (lane_count : ℕ) (history a b unseen_a unseen_b : List Entry) (lanes_a lanes_b : List ℕ) : Type 0 where
  pub unseen : List Entry
  pub seen : history ≡ longer a b ++ unseen
  pub heard : Hears lane_count (longer a b) (shorter a b) (cond (nat_le (length a) (length b)) lanes_a lanes_b)
  pub first : (more : List Entry) × (unseen_a ≡ more ++ unseen)
  pub second : (more : List Entry) × (unseen_b ≡ more ++ unseen)

-- no entry of these lanes is left behind this beginning
abbrev LacksNone : ℕ → List ℕ → List Entry → Type 0
LacksNone lane_count lanes unseen = (lane : ℕ) → has lanes lane ≡ true → is_quiet lane_count lane unseen ≡ true

lacks_none : (n : ℕ) (lanes : List ℕ) (unseen more rest : List Entry) → unseen ≡ more ++ rest → LacksNone n lanes unseen → LacksNone n lanes more
lacks_none n lanes unseen more rest e q = λ lane h. quiet_front n lane more rest (subst (λ es. is_quiet n lane es ≡ true) e (q lane h))

later : (n : ℕ) (history a b unseen_a unseen_b : List Entry) (lanes_a lanes_b : List ℕ) → history ≡ a ++ unseen_a → history ≡ b ++ unseen_b → LacksNone n lanes_a unseen_a → LacksNone n lanes_b unseen_b
    → Later n history a b unseen_a unseen_b lanes_a lanes_b
later n history a b unseen_a unseen_b lanes_a lanes_b e f p q = by_length (nat_le (length a) (length b)) refl
  where
    by_length : (c : Bool) → nat_le (length a) (length b) ≡ c → Later n history a b unseen_a unseen_b lanes_a lanes_b
    by_length true is =
        let t = ends_alike a b unseen_a unseen_b (sym e ∙ f) (leb-true _ _ is) in
        record {
          unseen = unseen_b;
          seen = f ∙ ap (λ (c : Bool). cond c b a ++ unseen_b) (sym is);
          heard = subst (λ (c : Bool). Hears n (cond c b a) (cond c a b) (cond c lanes_a lanes_b)) (sym is) record { later = t.0; whole = t.1; quiet = lacks_none n lanes_a unseen_a t.0 unseen_b t.2 p };
          first = (t.0, t.2);
          second = ([], refl);
        }
    by_length false is =
        let t = ends_alike b a unseen_b unseen_a (sym f ∙ e) (let l = leb-false _ _ is in omega arith) in
        record {
          unseen = unseen_a;
          seen = e ∙ ap (λ (c : Bool). cond c b a ++ unseen_a) (sym is);
          heard = subst (λ (c : Bool). Hears n (cond c b a) (cond c a b) (cond c lanes_a lanes_b)) (sym is) record { later = t.0; whole = t.1; quiet = lacks_none n lanes_b unseen_b t.0 unseen_a t.2 q };
          first = ([], refl);
          second = (t.0, t.2);
        }

module _ (terms : Terms) where
  abbrev St : Type 0
  St = State Slot ReplayView

  abbrev Rule : St → Type 0
  Rule = Replays terms

  pub joins : (id : ℕ) (v : ReplayView) (other : ℕ) (w : ReplayView) → v.spent ≡ false → v.has_turn ≡ false → w.spent ≡ false → w.has_turn ≡ false → Joins Rule id v other w (joined v w) spent_view
  joins id v other w unspent free unspent' free' s r at apart there =
      let both : ReplayView = joined v w in
      let at' : get_elem? s.views other ≡ some w = sym (set_else s.views id other both apart) ∙ there in
      let one = r.each_seat id v at unspent in
      let two = r.each_seat other w at' unspent' in
      let l = later terms.lanes r.history v.seen w.seen one.unseen two.unseen v.lanes w.lanes one.seen two.seen (λ lane h. (one.lanes lane h).1) (λ lane h. (two.lanes lane h).1) in
      let owners : Owners = λ lane. cond ((r.owners lane).0 == other) (id, (r.owners lane).1) (r.owners lane) in
      let still : (lane j : ℕ) (b : Bool) → j ≢ other → r.owners lane ≡ (j, b) → owners lane ≡ (j, b) = λ lane j b ne o.
      ap (λ (x : ℕ × Bool). cond (x.0 == other) (id, x.1) x) o ∙ ap (λ (c : Bool). cond c (id, b) (j, b)) (ne_eqb j other ne) in
      let taken : (lane : ℕ) (b : Bool) → r.owners lane ≡ (other, b) → owners lane ≡ (id, b) = λ lane b o.
      ap (λ (x : ℕ × Bool). cond (x.0 == other) (id, x.1) x) o ∙ ap (λ (c : Bool). cond c (id, b) (other, b)) (eq-eqb other other refl) in
      let differ : id ≢ other = λ e. apart (sym e) in
      let mine : both.spent ≡ false → Knows terms r.history r.turn owners id both = λ _. record {
        start = one.start;
        log = one.log;
        lane_count = one.lane_count;
        clock = one.clock;
        unseen = l.unseen;
        seen = l.seen;
        heard = l.heard;
        lanes = λ lane h. ⊎_elim
            (λ a. let o = one.lanes lane a in (still lane id true differ o.0, quiet_right terms.lanes lane l.first.0 l.unseen (subst (λ es. is_quiet terms.lanes lane es ≡ true) l.first.1 o.1)))
            (λ a. let o = two.lanes lane a in (taken lane true o.0, quiet_right terms.lanes lane l.second.0 l.unseen (subst (λ es. is_quiet terms.lanes lane es ≡ true) l.second.1 o.1)))
            (has_append v.lanes w.lanes lane h);
        spare = λ lane h. ⊎_elim
            (λ a. let o = one.spare lane a in (still lane id false differ o.0, o.1))
            (λ a. let o = two.spare lane a in (taken lane false o.0, o.1))
            (has_append v.spare w.spare lane h);
        turn = λ h. absurd (true≢false (sym h ∙ free));
      } in
      let views : List ReplayView = set s.views id both in
      let on_one : (j : ℕ) (d : ReplayView) → j ≢ id → Knows terms r.history r.turn r.owners j d → j ≢ other → Knows terms r.history r.turn owners j d = λ j d ne k ne'. record {
        start = k.start;
        log = k.log;
        lane_count = k.lane_count;
        clock = k.clock;
        unseen = k.unseen;
        seen = k.seen;
        heard = k.heard;
        lanes = λ lane h. let o = k.lanes lane h in (still lane j true ne' o.0, o.1);
        spare = λ lane h. let o = k.spare lane h in (still lane j false ne' o.0, o.1);
        turn = λ h. let t = k.turn h in record { alone = t.alone; clock = t.clock; seen = t.seen; thread = t.thread; next = t.next; lane = t.lane };
      } in
      let first : (j : ℕ) (d : ReplayView) → get_elem? views j ≡ some d → d.spent ≡ false → (j ≢ other → Knows terms r.history r.turn owners j d) =
      each_after terms (Knows terms r.history r.turn r.owners) (λ j d. j ≢ other → Knows terms r.history r.turn owners j d) s.views id both (λ u _. mine u) on_one r.each_seat in
      record {
        history = r.history;
        shared = r.shared;
        turn = r.turn;
        owners = owners;
        clock = r.clock;
        legal = r.legal;
        column = r.column;
        within = r.within;
        at_home = r.at_home;
        out = λ j e.
            let o = r.out j e in
            let p = stays_out terms s record { words = s.words; homes = s.homes; views = views } id j both refl refl (not_mine terms s id j v at free o) o in
            stays_out terms record { words = s.words; homes = s.homes; views = views } record { words = s.words; homes = s.homes; views = set views other spent_view } other j spent_view refl refl
            (not_mine terms s other j w at' free' o) p;
        each_seat = each_after terms (λ j d. j ≢ other → Knows terms r.history r.turn owners j d) (Knows terms r.history r.turn owners) views other spent_view
            (λ e. absurd (true≢false e)) (λ j d ne k. k ne) first;
      }

-- ---- what the load after it tells

-- what is seen then begins with what each of the two had seen, and lacks no entry of its lanes
pub record Both (n : ℕ) (v w new : ReplayView) : Type 0 where
  pub first : IsPrefix v.seen new.seen
  pub second : IsPrefix w.seen new.seen
  pub own : (lane : ℕ) → has v.lanes lane ≡ true → entries_of_lane n lane new.seen ≡ entries_of_lane n lane v.seen
  pub ended_own : (lane : ℕ) → has w.lanes lane ≡ true → entries_of_lane n lane new.seen ≡ entries_of_lane n lane w.seen

-- of one of the two, where the longer one is this
abbrev Within : (n : ℕ) (whole seen : List Entry) (lanes : List ℕ) → Type 0
Within n whole seen lanes = IsPrefix seen whole × ((lane : ℕ) → has lanes lane ≡ true → entries_of_lane n lane whole ≡ entries_of_lane n lane seen)

parts : (n : ℕ) (a b : List Entry) (lanes_a lanes_b : List ℕ) (c : Bool) → Hears n (cond c b a) (cond c a b) (cond c lanes_a lanes_b) → Within n (cond c b a) a lanes_a × Within n (cond c b a) b lanes_b
parts n a b lanes_a lanes_b true h = (((h.later, sym h.whole), λ lane m. entries-same n lane b a h.later h.whole (h.quiet lane m)), (([], append-nil b), λ lane m. refl))
parts n a b lanes_a lanes_b false h = ((([], append-nil a), λ lane m. refl), ((h.later, sym h.whole), λ lane m. entries-same n lane a b h.later h.whole (h.quiet lane m)))

pub both_so : (n : ℕ) (v w : ReplayView) (old new : Seated) (clock : ℕ) → old ≡ (joined v w, []) → Glances old clock new → v.lane_count ≡ n → Both n v w new.0
both_so n v w old new clock is told count =
    let heard : Hears n (joined v w).seen (joined v w).heard (joined v w).heard_lanes =
    subst (λ (x : ReplayView × ℕ). Hears x.1 x.0.seen x.0.heard x.0.heard_lanes) (λ i. ((is i).0, (ap (λ (m : Seated). m.0.lane_count) is ∙ count) i)) told.heard in
    let p = parts n v.seen w.seen v.lanes w.lanes (nat_le (length v.seen) (length w.seen)) heard in
    let seen : new.0.seen ≡ (joined v w).seen = ap (λ (m : Seated). m.0.seen) told.view ∙ ap (λ (m : Seated). m.0.seen) is in
    record {
      first = subst (IsPrefix v.seen) (sym seen) p.0.0;
      second = subst (IsPrefix w.seen) (sym seen) p.1.0;
      own = λ lane h. ap (entries_of_lane n lane) seen ∙ p.0.1 lane h;
      ended_own = λ lane h. ap (entries_of_lane n lane) seen ∙ p.1.1 lane h;
    }
