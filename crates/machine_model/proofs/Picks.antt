-- Picking round the ring is a search in rising order, and finds a thread where some thread can go on.
use Rattle.std.proofs.Common.{◌≡◌, ℕ, ◌+◌, ◌-◌, Bool, true, false, cond, ◌++◌, Option, Some, None, length, refl, sym, ◌∙◌, ap, arith, inl, inr}
use Rattle.std.specs.Prelude.{find, ◌&&◌, slice_get}
use Rattle.std.specs.Option.{option_or}
use Rattle.std.specs.List.{list_any, range_with_len}
use Rattle.std.proofs.lemmas.Bool.{cases_lt}
use Rattle.std.proofs.lemmas.List.Folds.{find-append}
use Rattle.vm_model.specs.declared.value.Lock.{Lock}
use Rattle.vm_model.specs.declared.op.Op.{Op}
use Rattle.vm_model.specs.declared.op.Op.TheVariants as op
use Rattle.vm_model.specs.Program.{PlainProgram}
use Rattle.machine_model.specs.declared.Row.{Row}
use Rattle.machine_model.specs.declared.RowState.{RowState}
use Rattle.machine_model.specs.declared.RowState.TheVariants as row_state
use Rattle.machine_model.specs.Declarations.{Declarations, declarations_of}
use Rattle.machine_model.specs.Frames.{LocalState}
use Rattle.machine_model.specs.LocalStep.{pending_operation}
use Rattle.machine_model.specs.Shared.{SharedState, is_live, is_live_row, is_live_state}
use Rattle.machine_model.specs.Operations.{is_notified_state, is_ready, is_ready_row, is_ready_state, keeps, may_resume, may_resume_row, is_free_lock}
use Rattle.machine_model.specs.Operations as world
use Rattle.machine_model.specs.Machine.{MachineState, all_threads, can_do, can_go_on, is_enabled}
use Rattle.machine_model.specs.Ring.{Cuts, moved_on, pick}
use Rattle.machine_model.proofs.Rings.{IsAlso, find-ring_after, range-split}
use Rattle.machine_model.proofs.Runs.{find_none-any}

-- ---- an enabled thread is live

first_and : (a b : Bool) → (a && b) ≡ true → a ≡ true
first_and true b e = refl
first_and false b e = e

ready_state-live : (s : RowState) → is_ready_state s ≡ true → is_live_state s ≡ true
ready_state-live row_state.Live e = refl
ready_state-live row_state.Waiting e = cc
ready_state-live row_state.Notified e = cc
ready_state-live row_state.Ended e = cc

ready_row-live : (r : Option Row) → is_ready_row r ≡ true → is_live_row r ≡ true
ready_row-live None e = e
ready_row-live (Some r) e = ready_state-live r.state e

ready-live : (s : SharedState) (t : ℕ) (b : Bool) → (is_ready s t && b) ≡ true → is_live s t ≡ true
ready-live s t b e = ready_row-live (slice_get s.rows t) (first_and (is_ready s t) b e)

notified_state-live : (s : RowState) → is_notified_state s ≡ true → is_live_state s ≡ true
notified_state-live row_state.Live e = refl
notified_state-live row_state.Waiting e = cc
notified_state-live row_state.Notified e = refl
notified_state-live row_state.Ended e = cc

resume_row-live : (r : Option Row) (l : Lock) (count : ℕ) → may_resume_row r l count ≡ true → is_live_row r ≡ true
resume_row-live None l count e = e
resume_row-live (Some r) l count e = notified_state-live r.state (first_and (is_notified_state r.state) (keeps r.kept l count) e)

pub enabled-live : (d : Declarations) (s : SharedState) (t : ℕ) (o : Op) → world.is_enabled d s t o ≡ true → is_live s t ≡ true
enabled-live d s t (op.GetStatic slot) e = ready-live s t _ e
enabled-live d s t (op.PutStatic slot v) e = ready-live s t _ e
enabled-live d s t (op.GetField o place) e = ready-live s t _ e
enabled-live d s t (op.PutField o place v) e = ready-live s t _ e
enabled-live d s t (op.ArrayLoad arr index) e = ready-live s t _ e
enabled-live d s t (op.ArrayStore arr index n) e = ready-live s t _ e
enabled-live d s t (op.New class) e = ready-live s t _ e
enabled-live d s t (op.NewArray len) e = ready_row-live (slice_get s.rows t) e
enabled-live d s t (op.Enter l) e = ready-live s t _ e
enabled-live d s t (op.Exit l) e = ready-live s t _ e
enabled-live d s t (op.Wait l) e = ready-live s t _ e
enabled-live d s t (op.Resume l count) e = resume_row-live (slice_get s.rows t) l count (first_and (may_resume s t l count) (is_free_lock s l) e)
enabled-live d s t (op.Notify l) e = ready-live s t _ e
enabled-live d s t (op.NotifyAll l) e = ready-live s t _ e
enabled-live d s t (op.Start target) e = ready-live s t _ e
enabled-live d s t (op.Join obj) e = ready-live s t _ e
enabled-live d s t (op.Print what newline) e = ready-live s t _ e
enabled-live d s t op.Yield e = ready_row-live (slice_get s.rows t) e
enabled-live d s t op.Tick e = ready_row-live (slice_get s.rows t) e
enabled-live d s t op.ThreadEnd e = ready_row-live (slice_get s.rows t) e
enabled-live d s t (op.Fault kind method at) e = ready_row-live (slice_get s.rows t) e

can_do-live : (p : PlainProgram) (m : MachineState) (t : ℕ) (o : Option Op) → can_do p m t o ≡ true → is_live m.world t ≡ true
can_do-live p m t None e = cc
can_do-live p m t (Some o) e = enabled-live (declarations_of p) m.world t o e

can_go_on-live : (p : PlainProgram) (m : MachineState) (t : ℕ) (l : Option LocalState) → can_go_on p m t l ≡ true → is_live m.world t ≡ true
can_go_on-live p m t None e = cc
can_go_on-live p m t (Some l) e = can_do-live p m t (pending_operation p l) e

pub enabled_thread-live : (p : PlainProgram) (m : MachineState) → IsAlso (is_enabled p m) (is_live m.world)
enabled_thread-live p m t e = can_go_on-live p m t (slice_get m.locals t) e

-- ---- picking

-- the thread itself, else the first above it that can go on, else the first of the others
pub pick-search : (p : PlainProgram) (m : MachineState) (t places low : ℕ) → Cuts (moved_on m t places) (length m.world.rows) low
    → pick p m t places
    ≡ cond (is_enabled p m (moved_on m t places)) (Some (moved_on m t places))
    (option_or (find (is_enabled p m) (range_with_len low (length m.world.rows - low))) (find (is_enabled p m) (range_with_len 0 low)))
pick-search p m t places low c =
    ap (cond (is_enabled p m (moved_on m t places)) (Some (moved_on m t places)))
    (find-ring_after (is_enabled p m) m (moved_on m t places) low (enabled_thread-live p m) c)

pub cut_of : (u n : ℕ) → (low : ℕ) × Cuts u n low
cut_of u n =
    elim (cases_lt u n) [
      | inl h ↦ (u + 1, record { within = omega arith; below = λ x b. omega arith; above = λ x a b. omega arith })
      | inr h ↦ (n, record { within = omega arith; below = λ x b. omega arith; above = λ x a b. omega arith })
    ]

none_of : (b : Bool) (u : ℕ) (o q : Option ℕ) → cond b (Some u) (option_or o q) ≡ None → (o ≡ None) × (q ≡ None)
none_of true u o q e = cc
none_of false u None q e = (refl, e)
none_of false u (Some x) q e = cc

-- where no thread is picked, none can go on
pub pick_none-any : (p : PlainProgram) (m : MachineState) (t places : ℕ) → pick p m t places ≡ None → list_any (is_enabled p m) (all_threads m) ≡ false
pick_none-any p m t places e =
    let n = length m.world.rows in
    let u = moved_on m t places in
    let c = cut_of u n in
    let within = c.1.within in
    let P = is_enabled p m in
    let none = none_of (P u) u (find P (range_with_len c.0 (n - c.0))) (find P (range_with_len 0 c.0)) (sym (pick-search p m t places c.0 c.1) ∙ e) in
    let sum : n ≡ c.0 + (n - c.0) = omega arith in
    let from : 0 + c.0 ≡ c.0 = omega arith in
    let whole : range_with_len 0 n ≡ range_with_len 0 c.0 ++ range_with_len c.0 (n - c.0) =
    ap (range_with_len 0) sum ∙ range-split 0 c.0 (n - c.0) ∙ ap (λ a. range_with_len 0 c.0 ++ range_with_len a (n - c.0)) from in
    find_none-any P (range_with_len 0 n)
    (ap (find P) whole ∙ find-append P (range_with_len 0 c.0) (range_with_len c.0 (n - c.0)) ∙ rw (none.0, none.1) refl)
