-- A thread goes on after a reply, and a turn of the code is one of the definitions.
use Rattle.std.proofs.Common.{◌≡◌, ◌≢◌, ℕ, zero, suc, ◌+◌, ◌-◌, ◌<◌, ◌≤◌, Bool, true, false, cond, List, [], ◌∷◌, ◌++◌, length, map, Option, Some, None, refl, sym, ◌∙◌, ap, subst, arith, get_or}
use Rattle.std.specs.Prelude.{slice_get, slice_set, IsTrue, IsSome, is_none, option_map, ◌&&◌, ◌||◌, find, not}
use Rattle.std.specs.List.{AllByRecursion, list_any}
use Rattle.std.proofs.lemmas.Option.{slice_get-get_or, slice_get-map, slice_get_within}
use Rattle.std.proofs.lemmas.List.{map-set}
use Rattle.vm_model.specs.declared.ends.Fault.{Fault}
use Rattle.vm_model.specs.declared.op.Op.{Op}
use Rattle.vm_model.specs.declared.op.Reply.{Reply}
use Rattle.vm_model.specs.Program.{PlainProgram}
use Rattle.machine_model.specs.Declarations.{Declarations, declarations_of}
use Rattle.machine_model.specs.Frames.{LocalState}
use Rattle.machine_model.specs.LocalStep.{absorb, pending_operation, settled}
use Rattle.machine_model.specs.Operations as world
use Rattle.machine_model.specs.Machine.{MachineState, after_event, begun, turn, turn_at, turn_with, threads_of, history, IsRun}
use Rattle.machine_model.proofs.Runs.{IsRun-more, IsRun-history, turn-adds}
use Rattle.std.specs.Option.{option_or}
use Rattle.std.specs.List.{range_with_len}
use Rattle.machine_model.specs.Shared.{is_live}
use Rattle.machine_model.specs.Ring.{Cuts, moved_on, next_in_ring, ring_after}
use Rattle.machine_model.proofs.Rings.{IsAlso, find-ring_after}
use Rattle.machine_model.proofs.Picks.{enabled-live}
use Rattle.machine_model.proofs.Turns.{row_within}
use Rattle.local_machine.specs.LocalView.{LocalView, IsReady, advanced, asking, fresh}
use Rattle.shared_world.specs.Worlds.{WorldState, after}
use Rattle.event_machine.specs.MachineView.{AllReady, IsHistory, IsWhole, MachineView, machine_from, machine_of, may_do, may_turn, pending_at, pending_of, state_of}
use Rattle.event_machine.specs.Turns.{GoesOnAt, gone_on}

-- ---- one thread

-- a fresh thread that went on is at its next operation
pub fresh-ready : (p : PlainProgram) (l : LocalState) (new : LocalView) → new ≡ advanced p (fresh l) → (new.state ≡ settled p l) × IsReady p new
fresh-ready p l new e =
    (ap (λ (v : LocalView). v.state) e, subst (IsReady p) (sym e) (record { is_ready = refl; pending = refl; completion = refl }))

pub some_of : (x : Option Op) → IsSome x → (o : Op) × (x ≡ Some o)
some_of None h = cc
some_of (Some o) h = (o, refl)

-- ---- in the list of threads

pub slice_get-read : (ls : List LocalView) (k : ℕ) (l : LocalView) → k < length ls → l ≡ get_or ls k l → slice_get ls k ≡ Some l
slice_get-read ls k l h e = slice_get-get_or ls k l h ∙ ap Some (sym e)

some_same : (m l : LocalView) → Some m ≡ Some l → m ≡ l
some_same m l e = cc

pub AllReady-at : (p : PlainProgram) (ls : List LocalView) (k : ℕ) (l : LocalView) → AllReady p ls → slice_get ls k ≡ Some l → IsReady p l
AllReady-at p [] k l all e = cc
AllReady-at p (m ∷ ls) zero l all e = subst (IsReady p) (some_same m l e) all.0
AllReady-at p (m ∷ ls) (suc k) l all e = AllReady-at p ls k l all.1 e

pub AllReady-set : (p : PlainProgram) (ls : List LocalView) (k : ℕ) (l : LocalView) → AllReady p ls → IsReady p l → AllReady p (slice_set ls k l)
AllReady-set p [] k l all ready = tt
AllReady-set p (m ∷ ls) zero l all ready = (ready, all.1)
AllReady-set p (m ∷ ls) (suc k) l all ready = (all.0, AllReady-set p ls k l all.1 ready)

pub AllReady-append : (p : PlainProgram) (ls : List LocalView) (l : LocalView) → AllReady p ls → IsReady p l → AllReady p (ls ++ l ∷ [])
AllReady-append p [] l all ready = (ready, tt)
AllReady-append p (m ∷ ls) l all ready = (all.0, AllReady-append p ls l all.1 ready)

pub goes_on_at : (p : PlainProgram) (ls : List LocalView) (k : ℕ) (r : Reply) (l new : LocalView) → slice_get ls k ≡ Some l → new.state ≡ gone_on p l.state l.pending r → GoesOnAt p ls k r (slice_set ls k new)
goes_on_at p ls k r l new e h = rw e (map-set state_of ls k new ∙ ap (slice_set (map state_of ls) k) h)

pub asks_one : (ls : List LocalView) (k : ℕ) (l : LocalView) → slice_get ls k ≡ Some l → IsSome (pending_at ls k) → IsSome l.pending
asks_one ls k l e h = rw e at h

pending_local : (x : Option LocalView) (o : Op) → pending_of x ≡ Some o → (l : LocalView) × (x ≡ Some l) × (l.pending ≡ Some o)
pending_local None o e = cc
pending_local (Some l) o e = (l, refl, e)

pub op_within : (ls : List LocalView) (t : ℕ) (o : Op) → pending_at ls t ≡ Some o → t < length ls
op_within ls t o e = let l = pending_local (slice_get ls t) o e in slice_get_within ls t l.0 l.1

-- ---- a turn

none_true : (o : Option Fault) → o ≡ None → is_none o ≡ true
none_true None e = refl
none_true (Some f) e = cc

and_true : (a b : Bool) → a ≡ true → b ≡ true → (a && b) ≡ true
and_true a b ea eb = rw (ea, eb) refl

-- the event as the definitions make it
turned_as : (p : PlainProgram) (w : WorldState) (ls ls' : List LocalView) (t : ℕ) (l : LocalView) (o : Op) → w.declarations ≡ declarations_of p
    → map state_of ls' ≡ slice_set (map state_of ls) t (gone_on p l.state (Some o) (world.apply w.declarations w.shared t o).reply) ++ begun p o (world.apply w.declarations w.shared t o).reply
    → after_event p (machine_from w ls) t l.state o (world.apply (declarations_of p) w.shared t o) ≡ machine_from (after w t o) ls'
turned_as p w ls ls' t l o d states = rw (← d, states) refl

pub turn_made : (p : PlainProgram) (w w' : WorldState) (ls mid ls' : List LocalView) (t : ℕ) (o : Op) (r : Reply) → w.declarations ≡ declarations_of p → AllReady p ls → pending_at ls t ≡ Some o
    → may_do w t (Some o) ≡ true → w.shared.fault ≡ None → r ≡ (world.apply w.declarations w.shared t o).reply → w' ≡ after w t o → GoesOnAt p ls t r mid
    → map state_of ls' ≡ map state_of mid ++ begun p o r → turn p (machine_from w ls) t ≡ Some (machine_from w' ls')
turn_made p w w' ls mid ls' t o r d ready e may none reply world' on more =
    let l = pending_local (slice_get ls t) o e in
    let asks : pending_operation p (l.0).state ≡ Some o = sym (AllReady-at p ls t l.0 ready l.1).pending ∙ l.2 in
    let m = machine_from w ls in
    let found : slice_get m.locals t ≡ Some (l.0).state = slice_get-map state_of ls t ∙ ap (option_map state_of) l.1 in
    let there : map state_of mid ≡ slice_set (map state_of ls) t (gone_on p (l.0).state (Some o) r) = rw (l.1, l.2) at on in
    let all : map state_of ls' ≡ slice_set (map state_of ls) t (gone_on p (l.0).state (Some o) r) ++ begun p o r = more ∙ ap (λ (s : List LocalState). s ++ begun p o r) there in
    let states : map state_of ls' ≡ slice_set (map state_of ls) t (gone_on p (l.0).state (Some o) (world.apply w.declarations w.shared t o).reply) ++ begun p o (world.apply w.declarations w.shared t o).reply =
    subst (λ (q : Reply). map state_of ls' ≡ slice_set (map state_of ls) t (gone_on p (l.0).state (Some o) q) ++ begun p o q) reply all in
    let can : (is_none w.shared.fault && world.is_enabled (declarations_of p) w.shared t o) ≡ true =
    and_true (is_none w.shared.fault) (world.is_enabled (declarations_of p) w.shared t o) (none_true w.shared.fault none) (subst (λ (x : Declarations). world.is_enabled x w.shared t o ≡ true) d may) in
    ap (turn_at p m t) found ∙ ap (turn_with p m t (l.0).state) asks
    ∙ ap (λ (b : Bool). cond b (Some (after_event p m t (l.0).state o (world.apply (declarations_of p) w.shared t o))) None) can
    ∙ ap Some (turned_as p w ls ls' t l.0 o d states)
    ∙ ap (λ (x : WorldState). Some (machine_from x ls')) (sym world')

-- whatever becomes of the threads, the history is that of a run
history_made : (p : PlainProgram) (w : WorldState) (ls : List LocalView) (t : ℕ) (m : MachineState) → IsRun p (machine_from w ls) → turn p (machine_from w ls) t ≡ Some m → IsHistory p m.history
history_made p w ls t m h e = IsRun-history p m (IsRun-more p (machine_from w ls) m t h e)

-- the machine after the event, which the definitions have
turn_there : (p : PlainProgram) (w : WorldState) (ls : List LocalView) (t : ℕ) (o : Op) → w.declarations ≡ declarations_of p → AllReady p ls → pending_at ls t ≡ Some o → may_do w t (Some o) ≡ true → w.shared.fault ≡ None
    → (m : MachineState) × (turn p (machine_from w ls) t ≡ Some m) × (m.history ≡ (after w t o).history)
turn_there p w ls t o d ready e may none =
    let l = pending_local (slice_get ls t) o e in
    let asks : pending_operation p (l.0).state ≡ Some o = sym (AllReady-at p ls t l.0 ready l.1).pending ∙ l.2 in
    let m = machine_from w ls in
    let found : slice_get m.locals t ≡ Some (l.0).state = slice_get-map state_of ls t ∙ ap (option_map state_of) l.1 in
    let can : (is_none w.shared.fault && world.is_enabled (declarations_of p) w.shared t o) ≡ true =
    and_true (is_none w.shared.fault) (world.is_enabled (declarations_of p) w.shared t o) (none_true w.shared.fault none) (subst (λ (x : Declarations). world.is_enabled x w.shared t o ≡ true) d may) in (
      after_event p m t (l.0).state o (world.apply (declarations_of p) w.shared t o),
      ap (turn_at p m t) found ∙ ap (turn_with p m t (l.0).state) asks
          ∙ ap (λ (b : Bool). cond b (Some (after_event p m t (l.0).state o (world.apply (declarations_of p) w.shared t o))) None) can,
      rw (← d) refl,
    )

pub history_after : (p : PlainProgram) (w w' : WorldState) (ls : List LocalView) (t : ℕ) (o : Op) → IsWhole p w ls → pending_at ls t ≡ Some o → may_do w t (Some o) ≡ true → w.shared.fault ≡ None → w' ≡ after w t o → IsHistory p w'.history
history_after p w w' ls t o whole e may none world' =
    let there = turn_there p w ls t o whole.declarations whole.ready e may none in
    subst (IsHistory p) (there.2 ∙ ap (λ (x : WorldState). x.history) (sym world')) (history_made p w ls t there.0 whole.run there.1)

pub history_before : (p : PlainProgram) (w : WorldState) (ls : List LocalView) → IsWhole p w ls → IsHistory p w.history
history_before p w ls whole = IsRun-history p (machine_from w ls) whole.run

pub whole_after : (p : PlainProgram) (w w' : WorldState) (ls ls' : List LocalView) (t : ℕ) (o : Op) → IsWhole p w ls → w' ≡ after w t o → turn p (machine_from w ls) t ≡ Some (machine_from w' ls') → AllReady p ls' → IsWhole p w' ls'
whole_after p w w' ls ls' t o whole world' turned ready = record {
  declarations = ap (λ (x : WorldState). x.declarations) world' ∙ whole.declarations;
  ready = ready;
  run = IsRun-more p (machine_from w ls) (machine_from w' ls') t whole.run turned;
}

-- ---- searches

none_any : (b c : Bool) (x : ℕ) (o : Option ℕ) → is_none o ≡ not c → is_none (cond b (Some x) o) ≡ not (b || c)
none_any true c x o e = refl
none_any false c x o e = e

pub find-any : (P : ℕ → Bool) (xs : List ℕ) → is_none (find P xs) ≡ not (list_any P xs)
find-any P [] = refl
find-any P (x ∷ xs) = none_any (P x) (list_any P xs) x (find P xs) (find-any P xs)

-- ---- round the ring

may_live : (w : WorldState) (t : ℕ) (o : Option Op) → may_do w t o ≡ true → is_live w.shared t ≡ true
may_live w t None e = cc
may_live w t (Some o) e = enabled-live w.declarations w.shared t o e

-- a thread that may turn is live
pub turns-live : (m : MachineView) → IsAlso (may_turn m) (is_live m.world.shared)
turns-live m t e = may_live m.world t (pending_at m.locals t) e

pub live_low : (w : WorldState) (t : ℕ) → length w.shared.rows ≤ 64 → is_live w.shared t ≡ true → t < 64
live_low w t few e = let h = row_within w.shared.rows t e in omega (arith, h)

pub pick_round : (m : MachineView) (u low : ℕ) → Cuts u (length m.world.shared.rows) low
    → find (may_turn m) (u ∷ ring_after (machine_of m) u)
    ≡ cond (may_turn m u) (Some u) (option_or (find (may_turn m) (range_with_len low (length m.world.shared.rows - low))) (find (may_turn m) (range_with_len 0 low)))
pick_round m u low c = ap (cond (may_turn m u) (Some u)) (find-ring_after (may_turn m) (machine_of m) u low (turns-live m) c)

pub moved_on-more : (m : MachineState) (t places done : ℕ) → done < places → moved_on m (next_in_ring m t) (places - (done + 1)) ≡ moved_on m t (places - done)
moved_on-more m t places done h =
    let more : places - done ≡ suc (places - (done + 1)) = omega arith in
    sym (ap (moved_on m t) more)

pub moved_on-none : (m : MachineState) (t places done : ℕ) → places ≤ done → moved_on m t (places - done) ≡ t
moved_on-none m t places done h = let none : places - done ≡ zero = omega arith in ap (moved_on m t) none
