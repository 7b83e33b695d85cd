-- The ring of live threads, and the run of a schedule.
use Rattle.std.specs.Prelude.{◌<◌, ◌≤◌, ℕ, zero, suc, ◌==◌, nat_lt, nat_le, List, [], ◌∷◌, ◌++◌, length, filter, find, count_by, Option, Some, None}
use Rattle.vm_model.specs.declared.ends.End.{End}
use Rattle.vm_model.specs.Program.{PlainProgram}
use Rattle.machine_model.specs.Shared.{is_live}
use Rattle.machine_model.specs.Machine.{MachineState, all_threads, end_of, is_enabled, start_machine, turn}

-- the live threads in order of number
abbrev pub live_threads : MachineState → List ℕ
live_threads m = filter (is_live m.world) (all_threads m)

-- the live threads round the ring, from the one after t on; t itself, where it is live, comes last
abbrev pub ring_after : MachineState → ℕ → List ℕ
ring_after m t = filter (λ u. nat_lt t u) (live_threads m) ++ filter (λ u. nat_le u t) (live_threads m)

-- low is where the numbers above u begin, among those below n
pub record Cuts (u n low : ℕ) : Type 0 where
  pub within : low ≤ n
  pub below : (x : ℕ) → x < low → x ≤ u
  pub above : (x : ℕ) → low ≤ x → x < n → u < x

abbrev pub head_or : ℕ → List ℕ → ℕ
head_or t [] = t
head_or t (u ∷ us) = u

-- the least live thread above t, else the least live one
abbrev pub next_in_ring : MachineState → ℕ → ℕ
next_in_ring m t = head_or t (ring_after m t)

-- so many places further
abbrev pub moved_on : MachineState → ℕ → ℕ → ℕ
moved_on m t zero = t
moved_on m t (suc places) = moved_on m (next_in_ring m t) places

abbrev pub first_enabled : PlainProgram → MachineState → List ℕ → Option ℕ
first_enabled p m ts = find (is_enabled p m) ts

-- so many places on from t: the thread there if it is enabled, else the next one round the ring that is
abbrev pub pick : PlainProgram → MachineState → ℕ → ℕ → Option ℕ
pick p m t places = let u = moved_on m t places in first_enabled p m (u ∷ ring_after m u)

-- ---- schedules: lists of times, of which only how often each time occurs is read

abbrev pub switches_at : List ℕ → ℕ → ℕ
switches_at times event = count_by (λ time. time == event) times

abbrev pub go_scheduled : Option End → Option ℕ → (ℕ → Option MachineState) → (MachineState → ℕ → List ℕ) → List ℕ
go_scheduled (Some e) picked turned go = []
go_scheduled None None turned go = []
go_scheduled None (Some u) turned go = u ∷ after_turn (turned u) u go
  where
    after_turn : Option MachineState → ℕ → (MachineState → ℕ → List ℕ) → List ℕ
    after_turn None u go = []
    after_turn (Some m) u go = go m u

-- the threads of the events from this machine and thread on, of which at most n are made
unfoldable pub scheduled_from : PlainProgram → List ℕ → ℕ → MachineState → ℕ → ℕ → List ℕ
scheduled_from p times budget m t zero = []
scheduled_from p times budget m t (suc n) =
    go_scheduled (end_of p m budget) (pick p m t (switches_at times (length m.history))) (turn p m) (λ m' u. scheduled_from p times budget m' u n)

-- the thread list of the run of a schedule: it stops at the first machine that has an end
abbrev pub schedule_threads : PlainProgram → List ℕ → ℕ → List ℕ
schedule_threads p times budget = scheduled_from p times budget (start_machine p) 0 budget
