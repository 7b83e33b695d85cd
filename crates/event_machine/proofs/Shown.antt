-- What the machine shows is what the definitions say of the machine.
use Rattle.std.proofs.Common.{◌≡◌, ℕ, zero, suc, ◌+◌, ◌<◌, ◌≤◌, Bool, true, false, cond, List, [], ◌∷◌, ◌++◌, Option, Some, None, length, map, refl, sym, ◌∙◌, ap, subst, arith, eqb}
use Rattle.std.specs.Prelude.{find, not, is_some, is_none, IsSome, slice_get, slice_set}
use Rattle.std.specs.List.{AllByRecursion, list_any, list_all, range_with_len}
use Rattle.vm_model.specs.declared.ends.End.{End}
use Rattle.vm_model.specs.declared.op.Op.{Op}
use Rattle.vm_model.specs.Program.{PlainProgram}
use Rattle.machine_model.specs.Declarations.{Declarations, declarations_of}
use Rattle.machine_model.specs.LocalStep.{pending_operation}
use Rattle.machine_model.specs.Operations as world
use Rattle.machine_model.specs.Machine.{can_do, can_go_on, end_of, first_end, has_ended, is_enabled}
use Rattle.machine_model.specs.Ring.{moved_on, pick, ring_after}
use Rattle.event_machine.proofs.Going.{find-any}
use Rattle.local_machine.specs.LocalView.{LocalView, IsReady}
use Rattle.shared_world.specs.Worlds.{WorldState}
use Rattle.event_machine.specs.MachineView.{MachineView, machine_from, machine_of, may_do, may_turn, pending_at, pending_of, shown_end, shown_pick, state_of, AllReady, IsMachineOf, IsWhole}

do_same : (p : PlainProgram) (w : WorldState) (ls : List LocalView) (t : ℕ) (o q : Option Op) → w.declarations ≡ declarations_of p → o ≡ q → may_do w t o ≡ can_do p (machine_from w ls) t q
do_same p w ls t None None e f = refl
do_same p w ls t None (Some q) e f = cc
do_same p w ls t (Some o) None e f = cc
do_same p w ls t (Some o) (Some q) e f = let same = some_op o q f in rw (e, same) refl
  where
    some_op : (o q : Op) → Some o ≡ Some q → o ≡ q
    some_op o q f = cc

go_same : (p : PlainProgram) (w : WorldState) (all ls : List LocalView) (t k : ℕ) → w.declarations ≡ declarations_of p → AllReady p ls
    → may_do w t (pending_of (slice_get ls k)) ≡ can_go_on p (machine_from w all) t (slice_get (map state_of ls) k)
go_same p w all [] t k e ready = refl
go_same p w all (l ∷ ls) t zero e ready = do_same p w all t l.pending (pending_operation p l.state) e ready.0.pending
go_same p w all (l ∷ ls) t (suc k) e ready = go_same p w all ls t k e ready.1

-- a thread may turn exactly where it is enabled
pub may_turn-is : (p : PlainProgram) (w : WorldState) (ls : List LocalView) (t : ℕ) → w.declarations ≡ declarations_of p → AllReady p ls → may_do w t (pending_at ls t) ≡ is_enabled p (machine_from w ls) t
may_turn-is p w ls t e ready = go_same p w ls ls t t e ready

any_same : (P Q : ℕ → Bool) → ((t : ℕ) → P t ≡ Q t) → (ts : List ℕ) → list_any P ts ≡ list_any Q ts
any_same P Q h [] = refl
any_same P Q h (t ∷ ts) = rw (h t, any_same P Q h ts) refl

find_same : (P Q : ℕ → Bool) → ((t : ℕ) → P t ≡ Q t) → (ts : List ℕ) → find P ts ≡ find Q ts
find_same P Q h [] = refl
find_same P Q h (t ∷ ts) = rw (h t, find_same P Q h ts) refl

pub enabled_shown : (p : PlainProgram) (m : MachineView) → m.is_broken ≡ false → IsMachineOf p m → (t : ℕ) → may_turn m t ≡ is_enabled p (machine_of m) t
enabled_shown p m b own t = may_turn-is p m.world m.locals t (own.whole b).declarations (own.whole b).ready

pub end_shown : (p : PlainProgram) (m : MachineView) → m.is_broken ≡ false → IsMachineOf p m → shown_end m ≡ end_of p (machine_of m) m.world.budget
end_shown p m b own =
    ap (λ (any : Bool). first_end m.world.shared.fault (list_all has_ended m.world.shared.rows) (not any) (eqb (length m.world.history) m.world.budget))
    (any_same (may_turn m) (is_enabled p (machine_of m)) (enabled_shown p m b own) (range_with_len 0 (length m.world.shared.rows)))

pub pick_shown : (p : PlainProgram) (m : MachineView) (t places : ℕ) → m.is_broken ≡ false → IsMachineOf p m → shown_pick m t places ≡ pick p (machine_of m) t places
pick_shown p m t places b own =
    find_same (may_turn m) (is_enabled p (machine_of m)) (enabled_shown p m b own) (moved_on (machine_of m) t places ∷ ring_after (machine_of m) (moved_on (machine_of m) t places))

none_of : {A : Type 0} (o : Option A) → is_some o ≡ false → o ≡ None
none_of None e = refl
none_of (Some x) e = cc

pub over_shown : (p : PlainProgram) (m : MachineView) (r : Option End) → m.is_broken ≡ false → IsMachineOf p m → r ≡ shown_end m → is_some r ≡ true → IsSome (end_of p (machine_of m) m.world.budget)
over_shown p m r b own e h = ap (λ (o : Option End). is_some o) (sym (e ∙ end_shown p m b own)) ∙ h

pub open_shown : (p : PlainProgram) (m : MachineView) (r : Option End) → m.is_broken ≡ false → IsMachineOf p m → r ≡ shown_end m → is_some r ≡ false → end_of p (machine_of m) m.world.budget ≡ None
open_shown p m r b own e h = sym (e ∙ end_shown p m b own) ∙ none_of r h

some_not : (o : Option ℕ) (x : ℕ) (b : Bool) → is_none o ≡ not b → o ≡ Some x → false ≡ not b
some_not o x b e h = sym (ap (λ (y : Option ℕ). is_none y) h) ∙ e

none_not : (o : Option ℕ) (b : Bool) → is_none o ≡ not b → o ≡ None → true ≡ not b
none_not o b e h = sym (ap (λ (y : Option ℕ). is_none y) h) ∙ e

pub stuck_some : (m : MachineView) (o : Option ℕ) (x n : ℕ) → n ≡ length m.world.shared.rows → o ≡ find (may_turn m) (range_with_len 0 n) → o ≡ Some x → false ≡ not (list_any (may_turn m) (range_with_len 0 (length m.world.shared.rows)))
stuck_some m o x n e f h = some_not o x (list_any (may_turn m) (range_with_len 0 (length m.world.shared.rows))) (ap (λ (y : Option ℕ). is_none y) (f ∙ ap (λ (k : ℕ). find (may_turn m) (range_with_len 0 k)) e) ∙ find-any (may_turn m) (range_with_len 0 (length m.world.shared.rows))) h

pub stuck_none : (m : MachineView) (o : Option ℕ) (n : ℕ) → n ≡ length m.world.shared.rows → o ≡ find (may_turn m) (range_with_len 0 n) → o ≡ None → true ≡ not (list_any (may_turn m) (range_with_len 0 (length m.world.shared.rows)))
stuck_none m o n e f h = none_not o (list_any (may_turn m) (range_with_len 0 (length m.world.shared.rows))) (ap (λ (y : Option ℕ). is_none y) (f ∙ ap (λ (k : ℕ). find (may_turn m) (range_with_len 0 k)) e) ∙ find-any (may_turn m) (range_with_len 0 (length m.world.shared.rows))) h
