-- Runs go on turn by turn, and a schedule's run event by event.
use Rattle.std.proofs.Common.{◌≡◌, ℕ, zero, suc, Bool, true, false, cond, List, [], ◌∷◌, ◌++◌, Option, Some, None, length, refl, sym, ◌∙◌, ap, eqb}
use Rattle.std.specs.Prelude.{find, not, ◌&&◌, is_none, nat_lt, nat_le, option_map}
use Rattle.std.specs.Option.{option_or}
use Rattle.std.specs.List.{list_any, list_all, range_with_len}
use Rattle.std.proofs.lemmas.List.{map-append}
use Rattle.vm_model.specs.declared.ends.Fault.{Fault}
use Rattle.vm_model.specs.declared.ends.End.{End}
use Rattle.vm_model.specs.declared.op.Op.{Op}
use Rattle.vm_model.specs.declared.op.Entry.{Entry}
use Rattle.vm_model.specs.Program.{PlainProgram}
use Rattle.machine_model.specs.Frames.{LocalState}
use Rattle.machine_model.specs.LocalStep.{pending_operation}
use Rattle.machine_model.specs.Declarations.{declarations_of}
use Rattle.machine_model.specs.Operations as world
use Rattle.machine_model.specs.Machine.{MachineState, all_threads, end_of, first_end, has_ended, history, history_of, is_enabled, run, run_from, start_machine, then_run, thread_of, threads_of, turn, turn_at, turn_with, IsRun}
use Rattle.machine_model.specs.Ring.{pick, schedule_threads, scheduled_from, switches_at}

-- ---- turns

-- a turn adds one event of its thread
pub record AddsEvent (t : ℕ) (old new : List Entry) : Type 0 where
  pub entry : Entry
  pub of_thread : entry.thread ≡ t
  pub history : new ≡ old ++ entry ∷ []

adds_if : (p : PlainProgram) (m n : MachineState) (t : ℕ) (l : LocalState) (o : Op) (b : Bool) → cond b (Some (Rattle.machine_model.specs.Machine.after_event p m t l o (world.apply (declarations_of p) m.world t o))) None ≡ Some n → AddsEvent t m.history n.history
adds_if p m n t l o true e =
    record {
      entry = world.entry t o (world.apply (declarations_of p) m.world t o).reply;
      of_thread = refl;
      history = sym (ap (λ (s : Option MachineState). history_of s) e);
    }
adds_if p m n t l o false e = cc

adds_with : (p : PlainProgram) (m n : MachineState) (t : ℕ) (l : LocalState) (o : Option Op) → turn_with p m t l o ≡ Some n → AddsEvent t m.history n.history
adds_with p m n t l None e = cc
adds_with p m n t l (Some o) e = adds_if p m n t l o (is_none m.world.fault && world.is_enabled (declarations_of p) m.world t o) e

adds_at : (p : PlainProgram) (m n : MachineState) (t : ℕ) (l : Option LocalState) → turn_at p m t l ≡ Some n → AddsEvent t m.history n.history
adds_at p m n t None e = cc
adds_at p m n t (Some l) e = adds_with p m n t l (pending_operation p l) e

pub turn-adds : (p : PlainProgram) (m n : MachineState) (t : ℕ) → turn p m t ≡ Some n → AddsEvent t m.history n.history
turn-adds p m n t e = adds_at p m n t (Rattle.std.specs.Prelude.slice_get m.locals t) e

-- ---- runs

run_after : (p : PlainProgram) (ts us : List ℕ) (o : Option MachineState) → ((n : MachineState) → run_from p n (ts ++ us) ≡ then_run (run_from p n ts) (λ k. run_from p k us))
    → then_run o (λ n. run_from p n (ts ++ us)) ≡ then_run (then_run o (λ n. run_from p n ts)) (λ k. run_from p k us)
run_after p ts us None h = refl
run_after p ts us (Some n) h = h n

pub run_from-append : (p : PlainProgram) (m : MachineState) (ts us : List ℕ) → run_from p m (ts ++ us) ≡ then_run (run_from p m ts) (λ n. run_from p n us)
run_from-append p m [] us = refl
run_from-append p m (t ∷ ts) us = run_after p ts us (turn p m t) (λ n. run_from-append p n ts us)

-- one turn more
pub run-more : (p : PlainProgram) (ts : List ℕ) (t : ℕ) (m n : MachineState) → run p ts ≡ Some m → turn p m t ≡ Some n → run p (ts ++ t ∷ []) ≡ Some n
run-more p ts t m n e f = run_from-append p (start_machine p) ts (t ∷ []) ∙ rw (e, f) refl

-- a turn that isn't defined ends a run
pub run-none : (p : PlainProgram) (ts us : List ℕ) (t : ℕ) (m : MachineState) → run p ts ≡ Some m → turn p m t ≡ None → run p (ts ++ t ∷ us) ≡ None
run-none p ts us t m e f = run_from-append p (start_machine p) ts (t ∷ us) ∙ rw (e, f) refl

pub threads_of-push : (h : List Entry) (e : Entry) → threads_of (h ++ e ∷ []) ≡ threads_of h ++ e.thread ∷ []
threads_of-push h e = map-append thread_of h (e ∷ [])

-- the machine after a turn is the run of its own history too
pub IsRun-more : (p : PlainProgram) (m n : MachineState) (t : ℕ) → IsRun p m → turn p m t ≡ Some n → IsRun p n
IsRun-more p m n t h e =
    let a = turn-adds p m n t e in
    let column : threads_of n.history ≡ threads_of m.history ++ t ∷ [] = ap threads_of a.history ∙ threads_of-push m.history a.entry ∙ ap (λ u. threads_of m.history ++ u ∷ []) a.of_thread in
    ap (run p) column ∙ run-more p (threads_of m.history) t m n h e

pub IsRun-start : (p : PlainProgram) → IsRun p (start_machine p)
IsRun-start p = refl

-- the history of a run is that of its thread column
pub IsRun-history : (p : PlainProgram) (m : MachineState) → IsRun p m → history p (threads_of m.history) ≡ m.history
IsRun-history p m h = ap history_of h

-- ---- ends

nothing_any : (P : ℕ → Bool) (x : ℕ) (rest : List ℕ) (b : Bool) → cond b (Some x) (find P rest) ≡ None → (b ≡ false) × (find P rest ≡ None)
nothing_any P x rest true e = cc
nothing_any P x rest false e = (refl, e)

-- where a search finds nothing, nothing is there
pub find_none-any : (P : ℕ → Bool) (xs : List ℕ) → find P xs ≡ None → list_any P xs ≡ false
find_none-any P [] e = refl
find_none-any P (x ∷ xs) e =
    let parts = nothing_any P x xs (P x) e in
    rw parts.0 (find_none-any P xs parts.1)

open_any : (f : Option Fault) (done stuck spent : Bool) → first_end f done stuck spent ≡ None → (f ≡ None) × (stuck ≡ false) × (spent ≡ false)
open_any (Some f) done stuck spent e = cc
open_any None true stuck spent e = cc
open_any None false true spent e = cc
open_any None false false true e = cc
open_any None false false false e = (refl, refl, refl)

-- an open machine has no fault, a thread that can go on, and events left
pub record IsOpen (p : PlainProgram) (m : MachineState) (budget : ℕ) : Type 0 where
  pub no_fault : m.world.fault ≡ None
  pub some_enabled : list_any (is_enabled p m) (all_threads m) ≡ true
  pub not_spent : eqb (length m.history) budget ≡ false

not_false : (b : Bool) → not b ≡ false → b ≡ true
not_false true e = refl
not_false false e = cc

pub end_of-open : (p : PlainProgram) (m : MachineState) (budget : ℕ) → end_of p m budget ≡ None → IsOpen p m budget
end_of-open p m budget e =
    let parts = open_any m.world.fault (list_all has_ended m.world.rows) (not (list_any (is_enabled p m) (all_threads m))) (eqb (length m.history) budget) e in
    record { no_fault = parts.0; some_enabled = not_false (list_any (is_enabled p m) (all_threads m)) parts.1; not_spent = parts.2 }

-- ---- schedules

-- a machine that has an end makes no further event
pub scheduled-ended : (p : PlainProgram) (times : List ℕ) (budget : ℕ) (m : MachineState) (t n : ℕ) (e : End) → end_of p m budget ≡ Some e → scheduled_from p times budget m t n ≡ []
unfolding scheduled_from
scheduled-ended p times budget m t zero e h = refl
scheduled-ended p times budget m t (suc n) e h = rw h refl

pub scheduled-more : (p : PlainProgram) (times : List ℕ) (budget : ℕ) (m m' : MachineState) (t u n : ℕ) → end_of p m budget ≡ None → pick p m t (switches_at times (length m.history)) ≡ Some u → turn p m u ≡ Some m'
    → scheduled_from p times budget m t (suc n) ≡ u ∷ scheduled_from p times budget m' u n
unfolding scheduled_from
scheduled-more p times budget m m' t u n open' picked turned = rw (open', picked, turned) refl

-- the budget holds for a whole run
pub scheduled-start : (p : PlainProgram) (times : List ℕ) (budget : ℕ) → schedule_threads p times budget ≡ scheduled_from p times budget (start_machine p) 0 budget
scheduled-start p times budget = refl
