-- What a turn that was found tells.
use Rattle.std.proofs.Common.{◌≡◌, ℕ, ◌<◌, Bool, true, false, true≢false, ◌&&◌, List, [], ◌∷◌, ◌++◌, length, refl, sym, ap, ◌∙◌, subst, arith, Option, Some, None, MatchBool, unwrap_or, is_none, is_some, cond, append-nil, append_assoc}
use mathlib.Core.Option.{none}
use mathlib.Core.List.{IsPrefix}
use Rattle.vm_model.specs.declared.value.ObjRef.{ObjRef}
use Rattle.projection_laws.specs.Projections.{target_in}
use Rattle.projection_laws.proofs.Targets.{legal_class, legal_target}
use Rattle.vm_model.specs.declared.op.Entry.{Entry}
use Rattle.vm_model.specs.declared.op.Op.{Op}
use Rattle.vm_model.specs.declared.op.Reply.{Reply}
use Rattle.machine_model.specs.Operations.{apply, entry, is_enabled}
use Rattle.machine_model.specs.Shared.{SharedState}
use Rattle.shared_world.specs.Worlds.{WorldState, after, takes_memory}
use Rattle.schedule_log.specs.Logs.{IsLawful, events, expansion}
use Rattle.schedule_log.proofs.Expanding.{length-threads}
use Rattle.atomic_table.specs.Table.{step}
use Rattle.replay_gate.specs.declared.view.ReplayView.{ReplayView}
use Rattle.replay_gate.specs.Rule.{Slot}
use Rattle.replay_gate.specs.Steps.{Seated, Begins, Found, is_turn_of, looked, with_clock, with_turn, without_turn, world_seen}
use Rattle.replay_gate.specs.Answers.{Commits, LacksMemory, Turned, Asked, BegunSo, SameLanes, TargetSo, added, is_open, ClassSo}
use Rattle.gate_core.specs.Seats.{placed}
use Rattle.gate_core.specs.Histories.{entries_of_lane}
use Rattle.gate_core.specs.declared.gate.Begun.{Begun}
use Rattle.gate_core.specs.declared.gate.Begun.TheVariants as begun
use Rattle.replay_gate.specs.declared.turning.Turning.{Turning}
use Rattle.replay_gate.specs.declared.turning.Turning.TheVariants as turning
use Rattle.replay_gate.specs.Lanes.{has, is_of}
use Rattle.replay_gate.proofs.Lists.{and_both, entries-append, entries-same, get_inside, number_is}

-- the world that a turn found, and what the seat has seen then
pub record Took (v : ReplayView) (thread clock : ℕ) (new : ReplayView) (world : WorldState) : Type 0 where
  pub history : List Entry
  pub shared : SharedState
  pub turn : is_turn_of v.log clock thread ≡ true
  pub found : Found v clock history shared
  pub world_is : world ≡ world_seen v shared history
  pub view : new ≡ with_turn v clock history

abbrev out_of : List (ℕ × Slot) → Slot
out_of [] = None
out_of (x ∷ xs) = x.1

same_world : (cs : List (ℕ × Slot)) (a b : WorldState) → cs ≡ (0, Some a) ∷ [] → cs ≡ (0, Some b) ∷ [] → a ≡ b
same_world cs a b e f = ap (λ (xs : List (ℕ × Slot)). unwrap_or (out_of xs) a) (sym e ∙ f)

pub took : (old new : Seated) (thread clock : ℕ) (world : WorldState) → is_turn_of old.0.log clock thread ≡ true → looked thread (step 1 0 0 0 none) old clock new
    → new.1 ≡ (0, Some world) ∷ [] → Took old.0 thread clock new.0 world
took old new thread clock world turn told out =
    let b : Begins old clock new = subst (λ (x : Bool). MatchBool x (Begins old clock new) (new ≡ (with_clock old.0 clock, []))) turn told in
    record {
      history = b.history;
      shared = b.shared;
      turn = turn;
      found = b.found;
      world_is = same_world new.1 world (world_seen old.0 b.shared b.history) out b.slot;
      view = b.view;
    }

pub has_room : (v : ReplayView) (thread clock : ℕ) (new : ReplayView) (world : WorldState) → Took v thread clock new world → IsLawful v.log
    → length world.history < world.budget
has_room v thread clock new world t law =
    let inside = get_inside (expansion v.log) clock thread (number_is _ thread t.turn) in
    let long : length (expansion v.log) ≡ events v.log = length-threads v.log.intervals in
    let most = law.within_budget in
    let count = t.found.count in
    let h : length world.history ≡ length t.history = ap (λ (w : WorldState). length w.history) t.world_is in
    let b : world.budget ≡ v.log.budget = ap (λ (w : WorldState). w.budget) t.world_is in
    omega arith

is_none_so : {A : Type 0} (o : Option A) → is_some o ≡ false → is_none o ≡ true
is_none_so None e = refl
is_none_so (Some x) e = absurd (true≢false e)

pub not_false : (b : Bool) → (b ≡ false → ⊥) → b ≡ true
not_false true h = refl
not_false false h = absurd (h refl)

-- the world lets the thread go on
may_so : (v : ReplayView) (thread clock : ℕ) (looked : ReplayView) (world : WorldState) (o : Op) (t : Took v thread clock looked world) → is_some world.shared.fault ≡ false
    → is_enabled world.declarations world.shared thread o ≡ true → is_open v t.shared thread o ≡ true
may_so v thread clock looked world o t fault enabled =
    ap (λ (w : WorldState). is_none w.shared.fault && is_enabled w.declarations w.shared thread o) (sym t.world_is) ∙ and_both _ _ (is_none_so world.shared.fault fault) enabled

pub commits_so : (v : ReplayView) (thread clock : ℕ) (looked new : ReplayView) (world : WorldState) (o : Op) (reply : Reply) → Took v thread clock looked world
    → is_some world.shared.fault ≡ false → is_enabled world.declarations world.shared thread o ≡ true → reply ≡ (apply world.declarations world.shared thread o).reply
    → new ≡ without_turn looked (after world thread o).history → Commits v new thread o clock reply
commits_so v thread clock looked new world o reply t fault enabled is told =
    record {
      history = t.history;
      shared = t.shared;
      had = record { turn = t.turn; found = t.found };
      may = may_so v thread clock looked world o t fault enabled;
      reply_is = is ∙ ap (λ (w : WorldState). (apply w.declarations w.shared thread o).reply) t.world_is;
      view = told ∙ (λ i. without_turn (t.view i) ((t.world_is i).history ++ entry thread o (sym is i) ∷ []));
    }

pub event_so : (v : ReplayView) (thread clock : ℕ) (looked taken : ReplayView) (world done : WorldState) (o : Op) (reply : Reply) → Took v thread clock looked world
    → reply ≡ (apply world.declarations world.shared thread o).reply → done ≡ after world thread o → taken ≡ looked
    → (done.history ≡ taken.seen ++ entry thread o reply ∷ []) × (is_turn_of taken.log taken.clock thread ≡ true)
event_so v thread clock looked taken world done o reply t is did same =
    let view : taken ≡ with_turn v clock t.history = same ∙ t.view in
    let seen : world.history ≡ taken.seen = ap (λ (w : WorldState). w.history) t.world_is ∙ sym (ap (λ (x : ReplayView). x.seen) view) in (
      ap (λ (w : WorldState). w.history) did ∙ (λ i. seen i ++ entry thread o (sym is i) ∷ []),
      ap (λ (x : ReplayView). is_turn_of x.log x.clock thread) view ∙ t.turn,
    )

pub lacks_so : (v : ReplayView) (thread clock : ℕ) (looked new : ReplayView) (world : WorldState) (o : Op) → Took v thread clock looked world
    → is_some world.shared.fault ≡ false → is_enabled world.declarations world.shared thread o ≡ true → takes_memory o ≡ true
    → new ≡ without_turn (with_clock looked looked.clock) looked.seen → LacksMemory v new thread o
lacks_so v thread clock looked new world o t fault enabled takes told =
    record {
      clock = clock;
      history = t.history;
      shared = t.shared;
      had = record { turn = t.turn; found = t.found };
      may = may_so v thread clock looked world o t fault enabled;
      takes = takes;
      view = told ∙ (λ i. without_turn (with_clock (t.view i) (t.view i).clock) (t.view i).seen);
    }

-- a turn adds to the entries of the seat's lanes what it made, and nothing else
pub owns_so : (v w : ReplayView) (thread : ℕ) (o : Op) (answer : Turning) → Turned v w thread o answer → (lane : ℕ) → has v.lanes lane ≡ true
    → entries_of_lane v.lane_count lane w.seen ≡ entries_of_lane v.lane_count lane v.seen ++ added v.lane_count lane thread o answer
owns_so v w thread o (turning.Committed clock reply) t lane h =
    let n : ℕ = v.lane_count in
    let f = t.had.found in
    let e : Entry = entry thread o reply in
    ap (λ (x : ReplayView). entries_of_lane n lane x.seen) t.view
    ∙ entries-append n lane t.history (e ∷ [])
    ∙ (λ i. entries-same n lane t.history v.seen f.unseen f.seen (f.quiet lane h) i ++ cond (is_of n lane e) (placed (f.count i) e ∷ []) [])
owns_so v w thread o (turning.NotYet clock) t lane h = ap (λ (x : ReplayView). entries_of_lane v.lane_count lane x.seen) t.1 ∙ sym (append-nil (entries_of_lane v.lane_count lane v.seen))
owns_so v w thread o (turning.Differs clock) t lane h =
    let f = t.had.found in
    ap (λ (x : ReplayView). entries_of_lane v.lane_count lane x.seen) t.view ∙ entries-same v.lane_count lane t.history v.seen f.unseen f.seen (f.quiet lane h) ∙ sym (append-nil (entries_of_lane v.lane_count lane v.seen))
owns_so v w thread o turning.NoMemory t lane h =
    let f = t.had.found in
    ap (λ (x : ReplayView). entries_of_lane v.lane_count lane x.seen) t.view ∙ entries-same v.lane_count lane t.history v.seen f.unseen f.seen (f.quiet lane h) ∙ sym (append-nil (entries_of_lane v.lane_count lane v.seen))

pub lanes_so : (v w : ReplayView) (thread : ℕ) (o : Op) (answer : Turning) → Turned v w thread o answer → SameLanes v w
lanes_so v w thread o (turning.Committed clock reply) t = (ap (λ (x : ReplayView). x.lanes) t.view, ap (λ (x : ReplayView). x.spare) t.view)
lanes_so v w thread o (turning.NotYet clock) t = (ap (λ (x : ReplayView). x.lanes) t.1, ap (λ (x : ReplayView). x.spare) t.1)
lanes_so v w thread o (turning.Differs clock) t = (ap (λ (x : ReplayView). x.lanes) t.view, ap (λ (x : ReplayView). x.spare) t.view)
lanes_so v w thread o turning.NoMemory t = (ap (λ (x : ReplayView). x.lanes) t.view, ap (λ (x : ReplayView). x.spare) t.view)

pub begun_lanes_so : (v w : ReplayView) (thread : ℕ) (answer : Begun) → BegunSo v w thread answer → SameLanes v w
begun_lanes_so v w thread (begun.Yes target) t = (ap (λ (x : ReplayView). x.lanes) t.view, ap (λ (x : ReplayView). x.spare) t.view)
begun_lanes_so v w thread begun.NotYet t = (ap (λ (x : ReplayView). x.lanes) t.2, ap (λ (x : ReplayView). x.spare) t.2)
begun_lanes_so v w thread begun.Over t = (ap (λ (x : ReplayView). x.lanes) t.view, ap (λ (x : ReplayView). x.spare) t.view)

-- what was seen stays a beginning of what is seen
found_later : (v w : ReplayView) (clock : ℕ) (history : List Entry) (shared : SharedState) (more : List Entry) → Found v clock history shared → w.seen ≡ history ++ more → IsPrefix v.seen w.seen
found_later v w clock history shared more f e = (f.unseen ++ more, sym (e ∙ ap (λ es. es ++ more) f.seen ∙ append_assoc v.seen f.unseen more))

same_later : (v w : ReplayView) → w.seen ≡ v.seen → IsPrefix v.seen w.seen
same_later v w e = ([], append-nil v.seen ∙ sym e)

pub later_so : (v w : ReplayView) (thread : ℕ) (o : Op) (answer : Turning) → Turned v w thread o answer → IsPrefix v.seen w.seen
later_so v w thread o (turning.Committed clock reply) t = found_later v w clock t.history t.shared (entry thread o reply ∷ []) t.had.found (ap (λ (x : ReplayView). x.seen) t.view)
later_so v w thread o (turning.NotYet clock) t = same_later v w (ap (λ (x : ReplayView). x.seen) t.1)
later_so v w thread o (turning.Differs clock) t = found_later v w clock t.history t.shared [] t.had.found (ap (λ (x : ReplayView). x.seen) t.view ∙ sym (append-nil t.history))
later_so v w thread o turning.NoMemory t = found_later v w t.clock t.history t.shared [] t.had.found (ap (λ (x : ReplayView). x.seen) t.view ∙ sym (append-nil t.history))

asked_later : (v w : ReplayView) (thread : ℕ) (target : Option ObjRef) → Asked v w thread target → IsPrefix v.seen w.seen
asked_later v w thread target t = found_later v w t.clock t.history t.shared [] t.had.found (ap (λ (x : ReplayView). x.seen) t.view ∙ sym (append-nil t.history))

pub begun_later_so : (v w : ReplayView) (thread : ℕ) (answer : Begun) → BegunSo v w thread answer → IsPrefix v.seen w.seen
begun_later_so v w thread (begun.Yes target) t = asked_later v w thread (Some target) t
begun_later_so v w thread begun.NotYet t = same_later v w (ap (λ (x : ReplayView). x.seen) t.2)
begun_later_so v w thread begun.Over t = asked_later v w thread None t

asked_target : (v w : ReplayView) (thread : ℕ) (target : Option ObjRef) → Asked v w thread target → target_in w.seen thread ≡ target
asked_target v w thread target t = ap (λ (x : ReplayView). target_in x.seen thread) t.view ∙ sym (legal_target v.start t.history t.shared t.had.found.legal thread) ∙ t.row

pub target_so : (v w : ReplayView) (thread : ℕ) (answer : Begun) → BegunSo v w thread answer → TargetSo w.seen thread answer
target_so v w thread (begun.Yes target) t = asked_target v w thread (Some target) t
target_so v w thread begun.NotYet t = tt
target_so v w thread begun.Over t = asked_target v w thread None t

pub limit_so : (v : ReplayView) (thread clock : ℕ) → is_turn_of v.log clock thread ≡ true → IsLawful v.log → clock < 1048576
limit_so v thread clock turn law =
    let inside = get_inside (expansion v.log) clock thread (number_is _ thread turn) in
    let long : length (expansion v.log) ≡ events v.log = length-threads v.log.intervals in
    let most = law.within_budget in
    let high = law.budget_high in
    omega arith

asked_owns : (v w : ReplayView) (thread : ℕ) (target : Option ObjRef) → Asked v w thread target → (lane : ℕ) → has v.lanes lane ≡ true → entries_of_lane v.lane_count lane w.seen ≡ entries_of_lane v.lane_count lane v.seen
asked_owns v w thread target t lane h =
    let f = t.had.found in
    ap (λ (x : ReplayView). entries_of_lane v.lane_count lane x.seen) t.view ∙ entries-same v.lane_count lane t.history v.seen f.unseen f.seen (f.quiet lane h)

pub begun_owns_so : (v w : ReplayView) (thread : ℕ) (answer : Begun) → BegunSo v w thread answer → (lane : ℕ) → has v.lanes lane ≡ true → entries_of_lane v.lane_count lane w.seen ≡ entries_of_lane v.lane_count lane v.seen
begun_owns_so v w thread (begun.Yes target) t = asked_owns v w thread (Some target) t
begun_owns_so v w thread begun.NotYet t = λ lane h. ap (λ (x : ReplayView). entries_of_lane v.lane_count lane x.seen) t.2
begun_owns_so v w thread begun.Over t = asked_owns v w thread None t

pub class_so : (v w : ReplayView) (thread : ℕ) (answer : Begun) → BegunSo v w thread answer → ClassSo v.start answer
class_so v w thread (begun.Yes target) t =
    legal_class v.start t.history t.shared t.had.found.legal thread target (sym (legal_target v.start t.history t.shared t.had.found.legal thread) ∙ t.row)
class_so v w thread begun.NotYet t = tt
class_so v w thread begun.Over t = tt
