-- A load that finds the seat's turn begins it, and keeps the rule.
use Rattle.std.proofs.Common.{◌≡◌, ℕ, Bool, true, false, List, [], ◌∷◌, take, slice_index, slice_get, slice_set, refl, sym, ap, ◌∙◌, subst, arith, Some, MatchBool, append-nil}
use mathlib.Core.Option.{some, none, some-injective, some-ne-none}
use lib.ListN.{get_elem?}
use Rattle.machine_model.specs.Operations.{IsLegalHistory}
use Rattle.machine_model.specs.Machine.{threads_of}
use Rattle.shared_world.specs.Worlds.{WorldState}
use Rattle.schedule_log.specs.Logs.{PlainLog, expansion}
use Rattle.atomic_table.specs.Table.{State, step, keeps, takes, Act, stepped, Allows}
use Rattle.replay_gate.specs.declared.view.ReplayView.{ReplayView}
use Rattle.replay_gate.specs.declared.view.Terms.{Terms}
use Rattle.replay_gate.specs.Lanes.{has, is_quiet, lane_of}
use Rattle.replay_gate.specs.Rule.{Slot, world_of, next_thread, Knows, IsOut, Replays}
use Rattle.replay_gate.specs.Steps.{Seated, is_turn_of, with_clock, with_turn, Begins, looked}
use Rattle.replay_gate.proofs.Lists.{on_bool, number_is, set_there}
use Rattle.replay_gate.proofs.Keeps.{hears_nothing, each_after, nobody, clock_is, same_words, glances_on}

module _ (terms : Terms) where
  abbrev St : Type 0
  St = State Slot ReplayView

  abbrev Rule : St → Type 0
  Rule = Replays terms

  module _ (s : St) (r : Rule s) (id : ℕ) (v : ReplayView) (thread : ℕ) (at : get_elem? s.views id ≡ some v) (unspent : v.spent ≡ false) (free : v.has_turn ≡ false)
      (next : next_thread terms r.history ≡ Some thread) (lane : has v.lanes (lane_of terms.lanes thread) ≡ true) where
    abbrev n : ℕ
    n = slice_index s.words 0

    abbrev w : ReplayView
    w = with_turn v n r.history

    home : s.homes ≡ some (Some (world_of terms r.shared r.history)) ∷ []
    home = r.at_home (nobody terms s r id v thread at unspent free next lane)

    abbrev act : Act Slot
    act = takes 0 (Some (world_of terms r.shared r.history))

    begins_on : (cs : List (ℕ × Slot)) → Rule (stepped s 0 n id cs w act)
    begins_on cs =
        let known = r.each_seat id v at unspent in
        let nobodys = nobody terms s r id v thread at unspent free next lane in
        record {
          history = r.history;
          shared = r.shared;
          turn = some id;
          owners = r.owners;
          clock = same_words terms s r;
          legal = r.legal;
          column = r.column;
          within = r.within;
          at_home = λ e. absurd (some-ne-none id e);
          out = λ j e. subst (IsOut (stepped s 0 n id cs w act)) (some-injective id j e) record {
            homes = ap (λ hs. slice_set hs 0 none) home;
            view = w;
            at = set_there s.views id v w at;
            unspent = unspent;
            has = refl;
          };
          each_seat = each_after terms (Knows terms r.history r.turn r.owners) (Knows terms r.history (some id) r.owners) s.views id w
              (λ _. record {
                start = known.start;
                log = known.log;
                lane_count = known.lane_count;
                clock = let c = clock_is terms s r in omega arith;
                unseen = [];
                seen = sym (append-nil r.history);
                heard = hears_nothing terms.lanes r.history;
                lanes = λ l h. ((known.lanes l h).0, refl);
                spare = known.spare;
                turn = λ _. record { alone = refl; clock = clock_is terms s r; seen = refl; thread = thread; next = next; lane = lane };
              })
              (λ j d _ k. record {
                start = k.start;
                log = k.log;
                lane_count = k.lane_count;
                clock = k.clock;
                unseen = k.unseen;
                seen = k.seen;
                heard = k.heard;
                lanes = k.lanes;
                spare = k.spare;
                turn = λ h. absurd (some-ne-none j (sym (k.turn h).alone ∙ nobodys));
              }) r.each_seat;
        }

  pub looks : (slots id thread : ℕ) (me : Seated) → me.0.spent ≡ false → me.0.has_turn ≡ false → me.1 ≡ [] → has me.0.lanes (lane_of me.0.lane_count thread) ≡ true
      → Allows Rule slots id me 0 (λ n. n) (looked thread (step slots 0 0 0 none) me)
  looks slots id thread me unspent free empty lane s r wide at small =
      let n : ℕ = slice_index s.words 0 in
      let v : ReplayView = me.0 in
      let known = r.each_seat id v at unspent in
      let c = clock_is terms s r in
      on_bool (is_turn_of v.log n thread)
      (λ mine.
      let got : slice_get (expansion v.log) n ≡ Some thread = number_is _ thread mine in
      let next : next_thread terms r.history ≡ Some thread = ap (λ (x : PlainLog × ℕ). slice_get (expansion x.0) x.1) (λ i. (sym known.log i, sym c i)) ∙ got in
      let lane' : has v.lanes (lane_of terms.lanes thread) ≡ true = ap (λ (k : ℕ). has v.lanes (lane_of k thread)) (sym known.lane_count) ∙ lane in
      let world : WorldState = world_of terms r.shared r.history in (
        with_turn v n r.history,
        takes 0 (Some world),
        ap (λ hs. get_elem? hs 0) (home s r id v thread at unspent free next lane'),
        begins_on s r id v thread at unspent free next lane' me.1,
        subst (λ (b : Bool). MatchBool b (Begins me n (with_turn v n r.history, (0, Some world) ∷ me.1)) (◌≡◌ {A = Seated} (with_turn v n r.history, (0, Some world) ∷ me.1) (with_clock v n, []))) (sym mine) record {
          history = r.history;
          shared = r.shared;
          view = refl;
          slot = (λ i. (0, Some (record { declarations = sym known.start i; budget = (sym known.log i).budget; shared = r.shared; history = r.history })) ∷ empty i);
          found = record {
            legal = subst (λ d. IsLegalHistory d r.history r.shared) (sym known.start) r.legal;
            count = sym c;
            column = subst (λ (x : PlainLog × ℕ). threads_of r.history ≡ take x.1 (expansion x.0)) (λ i. (sym known.log i, sym c i)) r.column;
            unseen = known.unseen;
            seen = known.seen;
            quiet = λ l h. subst (λ (k : ℕ). is_quiet k l known.unseen ≡ true) (sym known.lane_count) (known.lanes l h).1;
          };
        },
      ))
      (λ other. (
        with_clock v n,
        keeps,
        tt,
        glances_on terms s r id me.1 v at unspent free,
        subst (λ (b : Bool). MatchBool b (Begins me n (with_clock v n, me.1)) (◌≡◌ {A = Seated} (with_clock v n, me.1) (with_clock v n, []))) (sym other) (ap (λ cs. (with_clock v n, cs)) empty),
      ))
