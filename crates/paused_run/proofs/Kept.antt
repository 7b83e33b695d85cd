-- A paused run as its program's, with another schedule and after one event more.
use Rattle.std.specs.Option.{is_some}
use Rattle.std.proofs.Common.{Option, true, refl, ◌≡◌, ℕ, ◌≤◌, ◌<◌, false, List, Some, None, length, ap, sym, subst, ◌∙◌, arith}
use Rattle.vm_model.specs.declared.ends.End.{End}
use Rattle.vm_model.specs.Program.{PlainProgram}
use Rattle.machine_model.specs.Machine.{end_of, run, turn}
use Rattle.machine_model.specs.Ring.{pick, schedule_threads, switches_at}
use Rattle.event_machine.specs.MachineView.{MachineView, machine_of, IsMachineOf}
use Rattle.schedule_model.specs.Outcomes.{end_under}
use Rattle.schedule_model.specs.Schedules.{Agree}
use Rattle.thread_driver.proofs.Recorded.{left}
use Rattle.paused_run.specs.Pauses.{clock_of, IsAfterFirst, IsPausedOf, PausedRun}
use Rattle.paused_run.proofs.Resumed.{ended-size, first-ended, first-more, first-shared, whole-few}

abbrev pub with_times : PausedRun → List ℕ → PausedRun
with_times r times = record { machine = r.machine; thread = r.thread; times = times }

pub own_for : (p : PlainProgram) (r : PausedRun) (times : List ℕ) → Agree (clock_of r) r.times times → IsPausedOf p r → IsPausedOf p (with_times r times)
own_for p r times agree h = record { own = h.own; first = λ whole. first-shared p r.machine.world.budget r.times times (machine_of r.machine) agree r.thread (h.first whole) }

pub own_more : (p : PlainProgram) (r : PausedRun) (m : MachineView) (u : ℕ) → r.machine.is_broken ≡ false → end_of p (machine_of r.machine) r.machine.world.budget ≡ None → pick p (machine_of r.machine) r.thread (switches_at r.times (clock_of r)) ≡ Some u
    → turn p (machine_of r.machine) u ≡ Some (machine_of m) → m.world.budget ≡ r.machine.world.budget → IsMachineOf p m → IsPausedOf p r → IsPausedOf p (record { machine = m; thread = u; times = r.times })
own_more p r m u whole going picked turned budget own h =
    let next = first-more p r.times r.machine.world.budget (machine_of r.machine) (machine_of m) r.thread u going picked turned (h.first whole) in
    record { own = own; first = λ w. subst (λ (b : ℕ). IsAfterFirst p r.times b (machine_of m) u) (sym budget) next }

-- ---- the end

ended_at : (p : PlainProgram) (r : PausedRun) (times : List ℕ) (budget : ℕ) → r.machine.is_broken ≡ false → r.times ≡ times → r.machine.world.budget ≡ budget → IsPausedOf p r → IsAfterFirst p times budget (machine_of r.machine) r.thread
ended_at p r times budget whole same under own =
    subst (λ (b : ℕ). IsAfterFirst p times b (machine_of r.machine) r.thread) under (subst (λ (ts : List ℕ). IsAfterFirst p ts r.machine.world.budget (machine_of r.machine) r.thread) same (own.first whole))

-- a paused run that has an end made all events of its schedule's run, under the budget and schedule that it began with
pub ends_as : (p : PlainProgram) (r : PausedRun) (times : List ℕ) (budget : ℕ) (e : End) → r.machine.is_broken ≡ false → r.times ≡ times → r.machine.world.budget ≡ budget → IsPausedOf p r → end_of p (machine_of r.machine) r.machine.world.budget ≡ Some e
    → end_under p budget (run p (schedule_threads p times budget)) ≡ Some e
ends_as p r times budget e whole same under own ended =
    let f = ended_at p r times budget whole same under own in
    let e' : end_of p (machine_of r.machine) budget ≡ Some e = ap (end_of p (machine_of r.machine)) (sym under) ∙ ended in
    ap (end_under p budget) (first-ended p times budget (machine_of r.machine) r.thread e e' f) ∙ e'

pub ends_at : (p : PlainProgram) (r : PausedRun) (times : List ℕ) (budget : ℕ) (e : End) → r.machine.is_broken ≡ false → r.times ≡ times → r.machine.world.budget ≡ budget → IsPausedOf p r → end_of p (machine_of r.machine) r.machine.world.budget ≡ Some e
    → clock_of r ≡ length (schedule_threads p times budget)
ends_at p r times budget e whole same under own ended =
    ended-size p times budget (machine_of r.machine) r.thread e (ap (end_of p (machine_of r.machine)) (sym under) ∙ ended) (ended_at p r times budget whole same under own)

pub within_whole : (p : PlainProgram) (r : PausedRun) (times : List ℕ) (budget : ℕ) → r.machine.is_broken ≡ false → r.times ≡ times → r.machine.world.budget ≡ budget → IsPausedOf p r → clock_of r ≤ length (schedule_threads p times budget)
within_whole p r times budget whole same under own = (ended_at p r times budget whole same under own).within

-- what goes on has events left
pub room_left : (p : PlainProgram) (r : PausedRun) → r.machine.is_broken ≡ false → IsPausedOf p r → end_of p (machine_of r.machine) r.machine.world.budget ≡ None → clock_of r < r.machine.world.budget
room_left p r whole own going = left p (machine_of r.machine) r.machine.world.budget going (omega (arith, (own.first whole).within, whole-few p r.times r.machine.world.budget))

pub some_end : (o : Option End) → is_some o ≡ true → (e : End) × (o ≡ Some e)
some_end None h = cc
some_end (Some e) h = (e, refl)
