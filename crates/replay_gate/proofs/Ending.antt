-- The steps that end a turn keep the rule.
use Rattle.std.proofs.Common.{◌≡◌, ◌≢◌, ℕ, suc, ◌+◌, ◌%◌, ◌<◌, Bool, true, false, true≢false, List, [], ◌∷◌, ◌++◌, length, take, slice_index, slice_get, slice_set, refl, sym, ap, ◌∙◌, subst, arith, Some, mod-eq_of_lt, append_assoc, append-nil}
use Rattle.std.proofs.lemmas.List.{length-append}
use mathlib.Core.Option.{some, none, some-injective, some-ne-none}
use lib.ListN.{get_elem?}
use Rattle.vm_model.specs.declared.op.Entry.{Entry}
use Rattle.machine_model.specs.Operations.{IsLegalHistory}
use Rattle.machine_model.proofs.Runs.{threads_of-push}
use Rattle.shared_world.specs.Worlds.{WorldState}
use Rattle.schedule_log.specs.Logs.{PlainLog, expansion}
use Rattle.atomic_table.specs.Table.{State, step, gives, stepped, Allows, rest, put_back}
use Rattle.replay_gate.specs.declared.view.ReplayView.{ReplayView}
use Rattle.replay_gate.specs.declared.view.Terms.{Terms}
use Rattle.replay_gate.specs.Lanes.{has, is_quiet, lane_of}
use Rattle.replay_gate.specs.Rule.{Slot, next_thread, HasTurn, Knows, Replays}
use Rattle.replay_gate.specs.Steps.{Seated, is_turn_of, with_clock, without_turn, left, history_out, committed}
use Rattle.replay_gate.proofs.Lists.{number_is, same_number, take_more, get_inside, quiet_both, quiet_other}
use Rattle.replay_gate.proofs.Keeps.{hears_nothing, each_after, clock_is, same_words}

module _ (terms : Terms) where
  abbrev St : Type 0
  St = State Slot ReplayView

  abbrev Rule : St → Type 0
  Rule = Replays terms

  -- the seat that has the turn: what is out, and what it knows
  module _ (s : St) (r : Rule s) (id : ℕ) (me : Seated) (at : get_elem? s.views id ≡ some me.0) (unspent : me.0.spent ≡ false) (turn : me.0.has_turn ≡ true) where
    abbrev known : Knows terms r.history r.turn r.owners id me.0
    known = r.each_seat id me.0 at unspent

    abbrev held : HasTurn terms r.history r.turn id me.0
    held = known.turn turn

    is_away : s.homes ≡ none ∷ []
    is_away = (r.out id held.alone).homes

    -- no other seat has it
    only_mine : (j : ℕ) (d : ReplayView) → j ≢ id → d.has_turn ≡ true → Knows terms r.history r.turn r.owners j d → ⊥
    only_mine j d other has k = other (some-injective j id (sym (k.turn has).alone ∙ held.alone))

    ends_on : (world : WorldState) → me.1 ≡ (0, Some world) ∷ [] → world.declarations ≡ me.0.start → world.budget ≡ me.0.log.budget → world.history ≡ me.0.seen
        → IsLegalHistory world.declarations world.history world.shared
        → Rule (stepped s 0 (slice_index s.words 0) id me.1 (without_turn (with_clock me.0 (slice_index s.words 0)) me.0.seen) gives)
    ends_on world slot start budget history legal =
        let n : ℕ = slice_index s.words 0 in
        let w : ReplayView = without_turn (with_clock me.0 n) me.0.seen in
        let d = start ∙ known.start in
        let b = budget ∙ ap (λ (l : PlainLog). l.budget) known.log in
        let h = history ∙ held.seen in
        record {
          history = r.history;
          shared = world.shared;
          turn = none;
          owners = r.owners;
          clock = same_words terms s r;
          legal = subst (λ (x : Rattle.machine_model.specs.Declarations.Declarations × List Entry). IsLegalHistory x.0 x.1 world.shared) (λ i. (d i, h i)) legal;
          column = r.column;
          within = r.within;
          at_home = λ _.
              ap (λ cs. put_back s.homes cs) slot ∙ ap (λ hs. slice_set hs 0 (some (Some world))) is_away
              ∙ (λ i. some (Some (record { declarations = d i; budget = b i; shared = world.shared; history = h i })) ∷ []);
          out = λ j e. absurd (some-ne-none j (sym e));
          each_seat = each_after terms (Knows terms r.history r.turn r.owners) (Knows terms r.history none r.owners) s.views id w
              (λ _. record {
                start = known.start;
                log = known.log;
                lane_count = known.lane_count;
                clock = let c = clock_is terms s r in omega arith;
                unseen = known.unseen;
                seen = known.seen;
                heard = hears_nothing terms.lanes me.0.seen;
                lanes = known.lanes;
                spare = known.spare;
                turn = λ e. absurd (true≢false (sym e));
              })
              (λ j d other k. record {
                start = k.start;
                log = k.log;
                lane_count = k.lane_count;
                clock = k.clock;
                unseen = k.unseen;
                seen = k.seen;
                heard = k.heard;
                lanes = k.lanes;
                spare = k.spare;
                turn = λ has. absurd (only_mine j d other has k);
              }) r.each_seat;
        }

    -- the lane of the next thread is this seat's alone
    mine_alone : (e : Entry) → next_thread terms r.history ≡ Some e.thread → r.owners (lane_of terms.lanes e.thread) ≡ (id, true)
    mine_alone e next =
        let same : held.thread ≡ e.thread = same_number held.thread e.thread (sym held.next ∙ next) in
        ap (λ (t : ℕ). r.owners (lane_of terms.lanes t)) (sym same) ∙ (known.lanes (lane_of terms.lanes held.thread) held.lane).0

    quiet_for : (e : Entry) (lane j : ℕ) (b : Bool) → next_thread terms r.history ≡ Some e.thread → r.owners lane ≡ (j, b) → (◌≢◌ {A = ℕ × Bool} (j, b) (id, true)) → is_quiet terms.lanes lane (e ∷ []) ≡ true
    quiet_for e lane j b next theirs other = quiet_other terms.lanes lane e (λ is. other (sym theirs ∙ ap r.owners (sym is) ∙ mine_alone e next))

    commits_on : (world : WorldState) (e : Entry) → me.1 ≡ (0, Some world) ∷ [] → world.declarations ≡ me.0.start → world.budget ≡ me.0.log.budget → world.history ≡ me.0.seen ++ e ∷ []
        → IsLegalHistory world.declarations world.history world.shared → next_thread terms r.history ≡ Some e.thread → slice_index s.words 0 + 1 < 18446744073709551616
        → Rule (stepped s 0 ((slice_index s.words 0 + 1) % 18446744073709551616) id me.1 (without_turn me.0 (history_out me.1)) gives)
    commits_on world e slot start budget history legal next small =
        let n : ℕ = slice_index s.words 0 in
        let grown : List Entry = r.history ++ e ∷ [] in
        let w : ReplayView = without_turn me.0 (history_out me.1) in
        let d = start ∙ known.start in
        let b = budget ∙ ap (λ (l : PlainLog). l.budget) known.log in
        let h : world.history ≡ grown = history ∙ ap (λ es. es ++ e ∷ []) held.seen in
        let sees : w.seen ≡ grown = ap history_out slot ∙ h in
        let long : length grown ≡ length r.history + 1 = length-append r.history (e ∷ []) in
        let c = clock_is terms s r in
        let more : (n + 1) % 18446744073709551616 ≡ length grown = mod-eq_of_lt small ∙ (let l : n + 1 ≡ length grown = omega arith in l) in
        record {
          history = grown;
          shared = world.shared;
          turn = none;
          owners = r.owners;
          clock = ap (λ ws. slice_set ws 0 ((n + 1) % 18446744073709551616)) r.clock ∙ ap (λ (k : ℕ). k ∷ []) more;
          legal = subst (λ (x : Rattle.machine_model.specs.Declarations.Declarations × List Entry). IsLegalHistory x.0 x.1 world.shared) (λ i. (d i, h i)) legal;
          column =
              threads_of-push r.history e ∙ ap (λ ts. ts ++ e.thread ∷ []) r.column ∙ sym (take_more (expansion terms.log) (length r.history) e.thread next)
              ∙ ap (λ (k : ℕ). take k (expansion terms.log)) (let l : suc (length r.history) ≡ length grown = omega arith in l);
          within = let l = get_inside (expansion terms.log) (length r.history) e.thread next in omega arith;
          at_home = λ _.
              ap (λ cs. put_back s.homes cs) slot ∙ ap (λ hs. slice_set hs 0 (some (Some world))) is_away
              ∙ (λ i. some (Some (record { declarations = d i; budget = b i; shared = world.shared; history = h i })) ∷ []);
          out = λ j e. absurd (some-ne-none j (sym e));
          each_seat = each_after terms (Knows terms r.history r.turn r.owners) (Knows terms grown none r.owners) s.views id w
              (λ _. record {
                start = known.start;
                log = known.log;
                lane_count = known.lane_count;
                clock = let k = known.clock in omega arith;
                unseen = [];
                seen = sym sees ∙ sym (append-nil w.seen);
                heard = hears_nothing terms.lanes w.seen;
                lanes = λ l h. ((known.lanes l h).0, refl);
                spare = λ l h. let k = known.spare l h in (k.0, quiet_both terms.lanes l r.history (e ∷ []) k.1 (quiet_for e l id false next k.0 (λ is. true≢false (sym (ap (λ (x : ℕ × Bool). x.1) is)))));
                turn = λ e. absurd (true≢false (sym e));
              })
              (λ j v other k. record {
                start = k.start;
                log = k.log;
                lane_count = k.lane_count;
                clock = let l = k.clock in omega arith;
                unseen = k.unseen ++ e ∷ [];
                seen = ap (λ es. es ++ e ∷ []) k.seen ∙ append_assoc v.seen k.unseen (e ∷ []);
                heard = k.heard;
                lanes = λ l h. let o = k.lanes l h in (o.0, quiet_both terms.lanes l k.unseen (e ∷ []) o.1 (quiet_for e l j true next o.0 (λ is. other (ap (λ (x : ℕ × Bool). x.0) is))));
                spare = λ l h. let o = k.spare l h in (o.0, quiet_both terms.lanes l r.history (e ∷ []) o.1 (quiet_for e l j false next o.0 (λ is. other (ap (λ (x : ℕ × Bool). x.0) is))));
                turn = λ has. absurd (only_mine j v other has k);
              }) r.each_seat;
        }

  pub leaves : (slots id : ℕ) (me : Seated) (world : WorldState) → me.0.spent ≡ false → me.0.has_turn ≡ true → me.1 ≡ (0, Some world) ∷ [] → world.declarations ≡ me.0.start
      → world.budget ≡ me.0.log.budget → world.history ≡ me.0.seen → IsLegalHistory world.declarations world.history world.shared
      → Allows Rule slots id me 0 (λ n. n) (left (step slots 0 0 0 none) me)
  leaves slots id me world unspent turn slot start budget history legal s r wide at small =
      let n : ℕ = slice_index s.words 0 in
      let w : ReplayView = without_turn (with_clock me.0 n) me.0.seen in (
        w,
        gives,
        tt,
        ends_on s r id me at unspent turn world slot start budget history legal,
        (ap (λ cs. (w, rest cs)) slot, clock_is terms s r ∙ sym (held s r id me at unspent turn).clock),
      )

  pub commits : (slots id : ℕ) (me : Seated) (world : WorldState) (e : Entry) → me.0.spent ≡ false → me.0.has_turn ≡ true → me.1 ≡ (0, Some world) ∷ [] → world.declarations ≡ me.0.start
      → world.budget ≡ me.0.log.budget → world.history ≡ me.0.seen ++ e ∷ [] → IsLegalHistory world.declarations world.history world.shared → is_turn_of me.0.log me.0.clock e.thread ≡ true
      → length me.0.seen < 1048576
      → Allows Rule slots id me 0 (λ n. (n + 1) % 18446744073709551616) (committed (step slots 0 1 0 none) me)
  commits slots id me world e unspent turn slot start budget history legal mine room s r wide at small =
      let h = held s r id me at unspent turn in
      let k = known s r id me at unspent turn in
      let c = clock_is terms s r in
      let here = h.clock in
      let next : next_thread terms r.history ≡ Some e.thread = ap (λ (x : PlainLog × ℕ). slice_get (expansion x.0) x.1) (λ i. (sym k.log i, sym here i)) ∙ number_is _ e.thread mine in
      let w : ReplayView = without_turn me.0 (history_out me.1) in (
        w,
        gives,
        tt,
        commits_on s r id me at unspent turn world e slot start budget history legal next (let l : length me.0.seen ≡ length r.history = ap length h.seen in omega arith),
        (ap (λ cs. (w, rest cs)) slot, c ∙ sym here),
      )

  -- the same of a seat that is known by what it holds
  pub leaves_from : (slots id : ℕ) (me : Seated) (v : ReplayView) (world : WorldState) → me ≡ (v, (0, Some world) ∷ []) → v.spent ≡ false → v.has_turn ≡ true → world.declarations ≡ v.start
      → world.budget ≡ v.log.budget → world.history ≡ v.seen → IsLegalHistory world.declarations world.history world.shared
      → Allows Rule slots id me 0 (λ n. n) (left (step slots 0 0 0 none) me)
  leaves_from slots id me v world full unspent turn start budget history legal =
      subst (λ (m : Seated). Allows Rule slots id m 0 (λ n. n) (left (step slots 0 0 0 none) m)) (sym full)
      (leaves slots id (v, (0, Some world) ∷ []) world unspent turn refl start budget history legal)

  pub commits_from : (slots id : ℕ) (me : Seated) (v : ReplayView) (world : WorldState) (e : Entry) → me ≡ (v, (0, Some world) ∷ []) → v.spent ≡ false → v.has_turn ≡ true → world.declarations ≡ v.start
      → world.budget ≡ v.log.budget → world.history ≡ v.seen ++ e ∷ [] → IsLegalHistory world.declarations world.history world.shared → is_turn_of v.log v.clock e.thread ≡ true
      → length v.seen < 1048576
      → Allows Rule slots id me 0 (λ n. (n + 1) % 18446744073709551616) (committed (step slots 0 1 0 none) me)
  commits_from slots id me v world e full unspent turn start budget history legal mine room =
      subst (λ (m : Seated). Allows Rule slots id m 0 (λ n. (n + 1) % 18446744073709551616) (committed (step slots 0 1 0 none) m)) (sym full)
      (commits slots id (v, (0, Some world) ∷ []) world e unspent turn refl start budget history legal mine room)
