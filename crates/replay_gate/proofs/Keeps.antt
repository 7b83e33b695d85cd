-- Each step of the gate keeps its rule.
use Rattle.std.proofs.Common.{◌≡◌, ◌≢◌, ℕ, ◌+◌, Bool, true, false, true≢false, List, [], ◌∷◌, ◌++◌, length, set, slice_index, slice_set, refl, sym, ap, ◌∙◌, subst, ⊎_elim, arith, Some}
use Rattle.std.proofs.lemmas.List.{length-append}
use mathlib.Core.Option.{some, none, some-injective, some-ne-none}
use mathlib.Core.Option as maybe
use lib.ListN.{get_elem?}
use Rattle.vm_model.specs.declared.op.Entry.{Entry}
use Rattle.atomic_table.specs.Table.{State, step, keeps, stepped, Allows}
use Rattle.atomic_table.proofs.Lists.{at_set, set_else}
use Rattle.replay_gate.specs.declared.view.ReplayView.{ReplayView}
use Rattle.replay_gate.specs.declared.view.Terms.{Terms}
use Rattle.replay_gate.specs.Lanes.{has, is_quiet, lane_of}
use Rattle.replay_gate.specs.Rule.{Slot, next_thread, Hears, Knows, IsOut, Replays}
use Rattle.replay_gate.specs.Steps.{Seated, with_clock, glanced}
use Rattle.replay_gate.proofs.Lists.{same_number, quiet_front}

-- before a seat is joined
pub hears_nothing : (lane_count : ℕ) (seen : List Entry) → Hears lane_count seen [] []
hears_nothing lane_count seen = record { later = seen; whole = refl; quiet = λ lane h. absurd (true≢false (sym h)) }

module _ (terms : Terms) where
  abbrev St : Type 0
  St = State Slot ReplayView

  abbrev Rule : St → Type 0
  Rule = Replays terms

  -- what every seat knows after a step of one of them
  pub each_after : (K K' : ℕ → ReplayView → Type 0) (views : List ReplayView) (me : ℕ) (w : ReplayView)
      → (w.spent ≡ false → K' me w) → ((j : ℕ) (d : ReplayView) → j ≢ me → K j d → K' j d)
      → ((j : ℕ) (d : ReplayView) → get_elem? views j ≡ some d → d.spent ≡ false → K j d)
      → (j : ℕ) (d : ReplayView) → get_elem? (set views me w) j ≡ some d → d.spent ≡ false → K' j d
  each_after K K' views me w mine others all j d at unspent = ⊎_elim
      (λ (t : (j ≡ me) × (w ≡ d)). subst (λ (x : ℕ × ReplayView). K' x.0 x.1) (λ i. (sym t.0 i, t.1 i)) (mine (ap (λ (x : ReplayView). x.spent) t.1 ∙ unspent)))
      (λ (t : (j ≢ me) × (get_elem? views j ≡ some d)). others j d t.0 (all j d t.1 unspent)) (at_set views me j w d at)

  -- a seat without the turn isn't the one that has the slot
  pub not_mine : (s : St) (id j : ℕ) (v : ReplayView) → get_elem? s.views id ≡ some v → v.has_turn ≡ false → IsOut s j → j ≢ id
  not_mine s id j v at free out is =
      let same : v ≡ out.view = some-injective v out.view (sym at ∙ ap (get_elem? s.views) (sym is) ∙ out.at) in
      absurd (true≢false (sym out.has ∙ sym (ap (λ (x : ReplayView). x.has_turn) same) ∙ free))

  -- the slot stays out with another seat
  pub stays_out : (s s' : St) (id j : ℕ) (w : ReplayView) → s'.homes ≡ s.homes → s'.views ≡ set s.views id w → j ≢ id → IsOut s j → IsOut s' j
  stays_out s s' id j w homes views other out =
      record {
        homes = homes ∙ out.homes;
        view = out.view;
        at = ap (λ vs. get_elem? vs j) views ∙ set_else s.views id j w other ∙ out.at;
        unspent = out.unspent;
        has = out.has;
      }

  -- where the next thread is of a lane of a seat that doesn't have the turn, nobody has it
  pub nobody : (s : St) (r : Rule s) (id : ℕ) (v : ReplayView) (thread : ℕ) → get_elem? s.views id ≡ some v → v.spent ≡ false → v.has_turn ≡ false
      → next_thread terms r.history ≡ Some thread → has v.lanes (lane_of terms.lanes thread) ≡ true → r.turn ≡ none
  nobody s r id v thread at unspent free next lane = by_turn r.turn refl
    where
      by_turn : (o : maybe.Option ℕ) → r.turn ≡ o → r.turn ≡ none
      by_turn none e = e
      by_turn (some j) e =
          let out = r.out j e in
          let known = r.each_seat j out.view out.at out.unspent in
          let held = known.turn out.has in
          let same : held.thread ≡ thread = same_number held.thread thread (sym held.next ∙ next) in
          let theirs = (known.lanes (lane_of terms.lanes held.thread) held.lane).0 in
          let mine = ((r.each_seat id v at unspent).lanes (lane_of terms.lanes thread) lane).0 in
          let is : j ≡ id = ap (λ (x : ℕ × Bool). x.0) (sym theirs ∙ ap (λ (t : ℕ). r.owners (lane_of terms.lanes t)) same ∙ mine) in
          absurd (not_mine s id j v at free out is)

  -- ---- loads without the turn

  pub clock_is : (s : St) (r : Rule s) → slice_index s.words 0 ≡ length r.history
  clock_is s r = ap (λ ws. slice_index ws 0) r.clock

  pub same_words : (s : St) (r : Rule s) → slice_set s.words 0 (slice_index s.words 0) ≡ length r.history ∷ []
  same_words s r = ap (λ ws. slice_set ws 0 (slice_index ws 0)) r.clock

  -- a load that keeps all but the clock loaded last
  pub glances_on : (s : St) (r : Rule s) (id : ℕ) (cs : List (ℕ × Slot)) (v : ReplayView) → get_elem? s.views id ≡ some v → v.spent ≡ false → v.has_turn ≡ false
      → Rule (stepped s 0 (slice_index s.words 0) id cs (with_clock v (slice_index s.words 0)) keeps)
  glances_on s r id cs v at unspent free =
      let n : ℕ = slice_index s.words 0 in
      let w : ReplayView = with_clock v n in
      let known = r.each_seat id v at unspent in
      record {
        history = r.history;
        shared = r.shared;
        turn = r.turn;
        owners = r.owners;
        clock = same_words s r;
        legal = r.legal;
        column = r.column;
        within = r.within;
        at_home = r.at_home;
        out = λ j e. let o = r.out j e in stays_out s (stepped s 0 n id cs w keeps) id j w refl refl (not_mine s id j v at free o) o;
        each_seat = each_after (Knows terms r.history r.turn r.owners) (Knows terms r.history r.turn r.owners) s.views id w
            (λ _. record {
              start = known.start;
              log = known.log;
              lane_count = known.lane_count;
              clock = let c = clock_is s r in omega arith;
              unseen = known.unseen;
              seen = known.seen;
              heard = known.heard;
              lanes = known.lanes;
              spare = known.spare;
              turn = λ h. absurd (true≢false (sym h ∙ free));
            })
            (λ j d _ k. k) r.each_seat;
      }

  pub glances : (slots id : ℕ) (me : Seated) → me.0.spent ≡ false → me.0.has_turn ≡ false → me.1 ≡ []
      → Allows Rule slots id me 0 (λ n. n) (glanced (step slots 0 0 0 none) me)
  glances slots id me unspent free empty s r wide at small =
      let n : ℕ = slice_index s.words 0 in
      let known = r.each_seat id me.0 at unspent in
      let c = clock_is s r in
      let count : length r.history ≡ length me.0.seen + length known.unseen = ap length known.seen ∙ length-append me.0.seen known.unseen in (
        with_clock me.0 n,
        keeps,
        tt,
        glances_on s r id me.1 me.0 at unspent free,
        record {
          view = ap (λ cs. (with_clock me.0 n, cs)) empty;
          later = omega arith;
          heard = subst (λ (k : ℕ). Hears k me.0.seen me.0.heard me.0.heard_lanes) (sym known.lane_count) known.heard;
          fresh = λ l h. quiet_left l me.0 known.unseen (subst (λ (x : ℕ × List Entry). is_quiet x.0 l x.1 ≡ true) (λ i. (sym known.lane_count i, known.seen i)) (known.spare l h).1);
        },
      )
    where
      quiet_left : (l : ℕ) (v : ReplayView) (unseen : List Entry) → is_quiet v.lane_count l (v.seen ++ unseen) ≡ true → is_quiet v.lane_count l v.seen ≡ true
      quiet_left l v unseen e = quiet_front v.lane_count l v.seen unseen e
