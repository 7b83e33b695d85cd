-- When a turn isn't defined, and how long a history is.
use Rattle.std.proofs.Common.{◌≡◌, ℕ, zero, suc, ◌+◌, ◌<◌, ◌≤◌, Bool, true, false, cond, List, [], ◌∷◌, Option, Some, None, length, refl, ◌∙◌, ap, subst, arith, eqb}
use Rattle.std.specs.Prelude.{◌&&◌, ◌||◌, not, is_none, slice_get}
use Rattle.std.specs.List.{list_any, list_all, range_with_len}
use Rattle.std.proofs.Common.{inl, inr}
use Rattle.std.proofs.lemmas.Bool.{cases_eq, eqb-true}
use Rattle.std.proofs.lemmas.List.{length-append}
use Rattle.vm_model.specs.declared.ends.Fault.{Fault}
use Rattle.vm_model.specs.declared.ends.End.{End}
use Rattle.vm_model.specs.declared.ends.End.TheVariants as end
use Rattle.vm_model.specs.declared.ends.EndKind.TheVariants as end_kind
use Rattle.vm_model.specs.declared.op.Op.{Op}
use Rattle.vm_model.specs.Ends.{kind_of_end}
use Rattle.vm_model.specs.Program.{PlainProgram}
use Rattle.machine_model.specs.declared.Row.{Row}
use Rattle.machine_model.specs.Declarations.{declarations_of}
use Rattle.machine_model.specs.Frames.{LocalState}
use Rattle.machine_model.specs.LocalStep.{pending_operation}
use Rattle.machine_model.specs.Shared.{is_live, is_live_row, is_live_state}
use Rattle.machine_model.specs.Operations as world
use Rattle.machine_model.specs.Machine.{MachineState, all_threads, can_do, can_go_on, end_of, first_end, has_ended, is_enabled, run, run_from, start_machine, then_run, turn, turn_at, turn_with}
use Rattle.machine_model.proofs.Runs.{turn-adds, AddsEvent}
use Rattle.machine_model.proofs.Picks.{enabled_thread-live}

-- ---- turns that are not defined

and_false : (a b : Bool) → b ≡ false → (a && b) ≡ false
and_false true b e = e
and_false false b e = refl

none_if : (b : Bool) (m : MachineState) → b ≡ false → cond b (Some m) None ≡ None
none_if true m e = cc
none_if false m e = refl

disabled_with : (p : PlainProgram) (m : MachineState) (t : ℕ) (l : LocalState) (o : Option Op) → can_do p m t o ≡ false → turn_with p m t l o ≡ None
disabled_with p m t l None e = refl
disabled_with p m t l (Some o) e = none_if _ _ (and_false (is_none m.world.fault) (world.is_enabled (declarations_of p) m.world t o) e)

disabled_at : (p : PlainProgram) (m : MachineState) (t : ℕ) (l : Option LocalState) → can_go_on p m t l ≡ false → turn_at p m t l ≡ None
disabled_at p m t None e = refl
disabled_at p m t (Some l) e = disabled_with p m t l (pending_operation p l) e

-- a thread that can't go on makes no turn
pub turn-disabled : (p : PlainProgram) (m : MachineState) (t : ℕ) → is_enabled p m t ≡ false → turn p m t ≡ None
turn-disabled p m t e = disabled_at p m t (slice_get m.locals t) e

not_true : (b : Bool) → (b ≡ true → ⊥) → b ≡ false
not_true true h = absurd (h refl)
not_true false h = refl

-- nor does one that isn't live
pub turn-not_live : (p : PlainProgram) (m : MachineState) (t : ℕ) → is_live m.world t ≡ false → turn p m t ≡ None
turn-not_live p m t e = turn-disabled p m t (not_true (is_enabled p m t) (λ enabled. let live = enabled_thread-live p m t enabled in cc))

faulted_if : (f : Option Fault) (b : Bool) (m : MachineState) (x : Fault) → f ≡ Some x → cond (is_none f && b) (Some m) None ≡ None
faulted_if None b m x e = cc
faulted_if (Some f) b m x e = refl

faulted_with : (p : PlainProgram) (m : MachineState) (t : ℕ) (l : LocalState) (o : Option Op) (x : Fault) → m.world.fault ≡ Some x → turn_with p m t l o ≡ None
faulted_with p m t l None x e = refl
faulted_with p m t l (Some o) x e = faulted_if m.world.fault (world.is_enabled (declarations_of p) m.world t o) _ x e

faulted_at : (p : PlainProgram) (m : MachineState) (t : ℕ) (l : Option LocalState) (x : Fault) → m.world.fault ≡ Some x → turn_at p m t l ≡ None
faulted_at p m t None x e = refl
faulted_at p m t (Some l) x e = faulted_with p m t l (pending_operation p l) x e

-- ---- ends

not_live_first : (live rest : Bool) → (not live && rest) ≡ true → live ≡ false
not_live_first true rest e = cc
not_live_first false rest e = refl

not_live_rest : (live rest : Bool) → (not live && rest) ≡ true → rest ≡ true
not_live_rest true rest e = cc
not_live_rest false rest e = e

live_none : (rows : List Row) (t : ℕ) → list_all has_ended rows ≡ true → is_live_row (slice_get rows t) ≡ false
live_none [] t e = refl
live_none (row ∷ rows) zero e = not_live_first (is_live_state row.state) (list_all has_ended rows) e
live_none (row ∷ rows) (suc t) e = live_none rows t (not_live_rest (is_live_state row.state) (list_all has_ended rows) e)

or_first : (a b : Bool) → (a || b) ≡ false → a ≡ false
or_first true b e = cc
or_first false b e = refl

or_rest : (a b : Bool) → (a || b) ≡ false → b ≡ false
or_rest true b e = cc
or_rest false b e = e

any_none : (P : ℕ → Bool) (a n t : ℕ) → list_any P (range_with_len a n) ≡ false → a ≤ t → t < a + n → P t ≡ false
any_none P a zero t e low high = absurd (omega arith)
any_none P a (suc n) t e low high =
    elim (cases_eq a t) [
      | inl same ↦ subst (λ (k : ℕ). P k ≡ false) same (or_first (P a) (list_any P (range_with_len (a + 1) n)) e)
      | inr other ↦ any_none P (a + 1) n t (or_rest (P a) (list_any P (range_with_len (a + 1) n)) e) (omega arith) (omega arith)
    ]

pub row_within : (rows : List Row) (t : ℕ) → is_live_row (slice_get rows t) ≡ true → t < length rows
row_within [] t e = cc
row_within (row ∷ rows) zero e = omega arith
row_within (row ∷ rows) (suc t) e = let h = row_within rows t e in omega (arith, h)

-- a live thread was started
pub live-started : (m : MachineState) (t : ℕ) → is_live m.world t ≡ true → t < length m.world.rows
live-started m t e = row_within m.world.rows t e

stuck_disabled : (p : PlainProgram) (m : MachineState) (t : ℕ) → list_any (is_enabled p m) (all_threads m) ≡ false → is_enabled p m t ≡ false
stuck_disabled p m t e =
    not_true (is_enabled p m t) (λ enabled.
    let within = live-started m t (enabled_thread-live p m t enabled) in
    let none = any_none (is_enabled p m) 0 (length m.world.rows) t e (omega arith) (omega arith) in
    cc)

true_of_not : (b : Bool) → not b ≡ true → b ≡ false
true_of_not true e = cc
true_of_not false e = refl

-- why a machine has an end: a fault is marked, all threads have ended, none can go on, or the budget is spent
abbrev pub EndMeans : PlainProgram → MachineState → ℕ → End → Type 0
EndMeans p m budget (end.Fault f) = m.world.fault ≡ Some f
EndMeans p m budget end.Done = list_all has_ended m.world.rows ≡ true
EndMeans p m budget end.Stuck = list_any (is_enabled p m) (all_threads m) ≡ false
EndMeans p m budget end.Spent = eqb (length m.history) budget ≡ true

some_end : (a b : End) → Some a ≡ Some b → a ≡ b
some_end a b h = cc

first_means : (p : PlainProgram) (m : MachineState) (budget : ℕ) (f : Option Fault) (done stuck spent : Bool) (e : End) → first_end f done stuck spent ≡ Some e
    → m.world.fault ≡ f → list_all has_ended m.world.rows ≡ done → not (list_any (is_enabled p m) (all_threads m)) ≡ stuck → eqb (length m.history) budget ≡ spent
    → EndMeans p m budget e
first_means p m budget (Some f) done stuck spent e h hf hd hs hb = subst (EndMeans p m budget) (some_end (end.Fault f) e h) hf
first_means p m budget None true stuck spent e h hf hd hs hb = subst (EndMeans p m budget) (some_end end.Done e h) hd
first_means p m budget None false true spent e h hf hd hs hb = subst (EndMeans p m budget) (some_end end.Stuck e h) (true_of_not (list_any (is_enabled p m) (all_threads m)) hs)
first_means p m budget None false false true e h hf hd hs hb = subst (EndMeans p m budget) (some_end end.Spent e h) hb
first_means p m budget None false false false e h hf hd hs hb = cc

pub end_of-means : (p : PlainProgram) (m : MachineState) (budget : ℕ) (e : End) → end_of p m budget ≡ Some e → EndMeans p m budget e
end_of-means p m budget e h = first_means p m budget m.world.fault (list_all has_ended m.world.rows) (not (list_any (is_enabled p m) (all_threads m))) (eqb (length m.history) budget) e h refl refl refl refl

-- a machine that has an end and events left makes no turn
ended_means : (p : PlainProgram) (m : MachineState) (budget t : ℕ) (e : End) → EndMeans p m budget e → length m.history < budget → turn p m t ≡ None
ended_means p m budget t (end.Fault f) h left = faulted_at p m t (slice_get m.locals t) f h
ended_means p m budget t end.Done h left = turn-not_live p m t (live_none m.world.rows t h)
ended_means p m budget t end.Stuck h left = turn-disabled p m t (stuck_disabled p m t h)
ended_means p m budget t end.Spent h left = absurd (omega (arith, eqb-true (length m.history) budget h))

pub turn-ended : (p : PlainProgram) (m : MachineState) (budget t : ℕ) (e : End) → end_of p m budget ≡ Some e → length m.history < budget → turn p m t ≡ None
turn-ended p m budget t e h left = ended_means p m budget t e (end_of-means p m budget e h) left

spent_kind : (p : PlainProgram) (m : MachineState) (budget : ℕ) (e : End) → EndMeans p m budget e → kind_of_end e ≡ end_kind.Spent → length m.history ≡ budget
spent_kind p m budget (end.Fault f) h k = cc
spent_kind p m budget end.Done h k = cc
spent_kind p m budget end.Stuck h k = cc
spent_kind p m budget end.Spent h k = eqb-true (length m.history) budget h

-- a run that ends spent has made all events of its budget
pub spent-whole : (p : PlainProgram) (m : MachineState) (budget : ℕ) (e : End) → end_of p m budget ≡ Some e → kind_of_end e ≡ end_kind.Spent → length m.history ≡ budget
spent-whole p m budget e h k = spent_kind p m budget e (end_of-means p m budget e h) k

-- ---- lengths

some_machine : (a b : MachineState) → Some a ≡ Some b → a ≡ b
some_machine a b h = cc

length_more : (m n k : MachineState) (t count : ℕ) → AddsEvent t m.history k.history → length n.history ≡ length k.history + count → length n.history ≡ length m.history + suc count
length_more m n k t count a h =
    let one : length k.history ≡ length m.history + 1 = ap length a.history ∙ length-append m.history (a.entry ∷ []) in
    omega (arith, h, one)

length_after : (p : PlainProgram) (m n : MachineState) (t : ℕ) (ts : List ℕ) (o : Option MachineState) → then_run o (λ k. run_from p k ts) ≡ Some n
    → ((k : MachineState) → o ≡ Some k → AddsEvent t m.history k.history) → ((k : MachineState) → run_from p k ts ≡ Some n → length n.history ≡ length k.history + length ts)
    → length n.history ≡ length m.history + suc (length ts)
length_after p m n t ts None e adds rest = cc
length_after p m n t ts (Some k) e adds rest = length_more m n k t (length ts) (adds k refl) (rest k e)

run_from-length : (p : PlainProgram) (m n : MachineState) (ts : List ℕ) → run_from p m ts ≡ Some n → length n.history ≡ length m.history + length ts
run_from-length p m n [] e = let same = some_machine m n e in rw same (omega arith)
run_from-length p m n (t ∷ ts) e = length_after p m n t ts (turn p m t) e (λ k turned. turn-adds p m k t turned) (λ k ran. run_from-length p k n ts ran)

-- a run has as many events as turns
pub run-length : (p : PlainProgram) (ts : List ℕ) (m : MachineState) → run p ts ≡ Some m → length m.history ≡ length ts
run-length p ts m e = let h = run_from-length p (start_machine p) m ts e in omega (arith, h)
