-- The end of a machine in which a thread can turn, and of one in which none can.
use Rattle.std.proofs.Common.{◌≡◌, ℕ, zero, suc, ◌+◌, ◌-◌, ◌<◌, ◌≤◌, Bool, true, false, cond, List, [], ◌∷◌, ◌++◌, Option, Some, None, length, refl, sym, ◌∙◌, ap, subst, arith, eqb, inl, inr}
use Rattle.std.specs.Prelude.{find, not, slice_get, ◌&&◌, ◌||◌}
use Rattle.std.specs.Option.{option_or}
use Rattle.std.specs.List.{list_any, list_all, range_with_len}
use Rattle.std.proofs.lemmas.Bool.{cases_eq}
use Rattle.std.proofs.lemmas.List.Folds.{find-append}
use Rattle.vm_model.specs.declared.ends.End.{End}
use Rattle.vm_model.specs.declared.ends.Fault.{Fault}
use Rattle.vm_model.specs.declared.op.Op.{Op}
use Rattle.vm_model.specs.Program.{PlainProgram}
use Rattle.machine_model.specs.declared.Row.{Row}
use Rattle.machine_model.specs.Shared.{is_live_row, is_live_state}
use Rattle.machine_model.specs.Machine.{end_of, first_end, has_ended}
use Rattle.machine_model.specs.Ring.{moved_on, pick, ring_after}
use Rattle.machine_model.proofs.Picks.{cut_of}
use Rattle.machine_model.proofs.Rings.{range-split}
use Rattle.machine_model.proofs.Runs.{find_none-any}
use Rattle.machine_model.proofs.Turns.{row_within}
use Rattle.event_machine.specs.MachineView.{MachineView, machine_of, may_do, may_turn, pending_at, shown_end, shown_pick, IsMachineOf}
use Rattle.event_machine.proofs.Going.{pick_round, turns-live}

-- ---- some thread can turn

or_first : (a b : Bool) → a ≡ true → (a || b) ≡ true
or_first true b e = refl
or_first false b e = cc

or_rest : (a b : Bool) → b ≡ true → (a || b) ≡ true
or_rest true b e = refl
or_rest false b e = e

any_at : (P : ℕ → Bool) (a n t : ℕ) → P t ≡ true → a ≤ t → t < a + n → list_any P (range_with_len a n) ≡ true
any_at P a zero t e low high = absurd (omega arith)
any_at P a (suc n) t e low high =
    elim (cases_eq a t) [
      | inl same ↦ or_first (P a) (list_any P (range_with_len (a + 1) n)) (subst (λ (k : ℕ). P k ≡ true) (sym same) e)
      | inr other ↦ or_rest (P a) (list_any P (range_with_len (a + 1) n)) (any_at P (a + 1) n t e (omega arith) (omega arith))
    ]

not_first : (live rest : Bool) → live ≡ true → (not live && rest) ≡ false
not_first true rest e = refl
not_first false rest e = cc

not_rest : (first rest : Bool) → rest ≡ false → (first && rest) ≡ false
not_rest true rest e = e
not_rest false rest e = refl

one_lives : (rows : List Row) (t : ℕ) → is_live_row (slice_get rows t) ≡ true → list_all has_ended rows ≡ false
one_lives [] t e = cc
one_lives (row ∷ rows) zero e = not_first (is_live_state row.state) (list_all has_ended rows) e
one_lives (row ∷ rows) (suc t) e = not_rest (has_ended row) (list_all has_ended rows) (one_lives rows t e)

-- then the machine isn't stuck, and not all threads have ended
pub end_beside : (m : MachineView) (t : ℕ) → may_turn m t ≡ true → shown_end m ≡ first_end m.world.shared.fault false false (eqb (length m.world.history) m.world.budget)
end_beside m t e =
    let rows = m.world.shared.rows in
    let live = turns-live m t e in
    let within = row_within rows t live in
    let some = any_at (may_turn m) 0 (length rows) t e (omega arith) (omega (arith, within)) in
    ap (λ (done : Bool). first_end m.world.shared.fault done (not (list_any (may_turn m) (range_with_len 0 (length rows)))) (eqb (length m.world.history) m.world.budget)) (one_lives rows t live)
    ∙ ap (λ (any : Bool). first_end m.world.shared.fault false (not any) (eqb (length m.world.history) m.world.budget)) some

-- a thread that asks for an enabled operation can turn
pub asks_turns : (m : MachineView) (t : ℕ) (asked : Option Op) (o : Op) → asked ≡ pending_at m.locals t → asked ≡ Some o → may_do m.world t (Some o) ≡ true → may_turn m t ≡ true
asks_turns m t asked o is some e = ap (may_do m.world t) (sym is ∙ some) ∙ e

-- ---- no thread can turn

-- then a machine without a fault is done or stuck
pub end_without : (m : MachineView) (f : Option Fault) (done : Bool) → list_any (may_turn m) (range_with_len 0 (length m.world.shared.rows)) ≡ false → f ≡ m.world.shared.fault → done ≡ list_all has_ended m.world.shared.rows
    → shown_end m ≡ first_end f done true (eqb (length m.world.history) m.world.budget)
end_without m f done none fault ended =
    ap (λ (any : Bool). first_end m.world.shared.fault (list_all has_ended m.world.shared.rows) (not any) (eqb (length m.world.history) m.world.budget)) none
    ∙ sym (ap (λ (g : Option Fault). first_end g done true (eqb (length m.world.history) m.world.budget)) fault ∙ ap (λ (d : Bool). first_end m.world.shared.fault d true (eqb (length m.world.history) m.world.budget)) ended)

nothing : (b : Bool) (u : ℕ) (o q : Option ℕ) → cond b (Some u) (option_or o q) ≡ None → (o ≡ None) × (q ≡ None)
nothing true u o q e = cc
nothing false u None q e = (refl, e)
nothing false u (Some x) q e = cc

-- where no thread is picked, none can turn
pub none_picked : (m : MachineView) (t places : ℕ) → shown_pick m t places ≡ None → list_any (may_turn m) (range_with_len 0 (length m.world.shared.rows)) ≡ false
none_picked m t places e =
    let n = length m.world.shared.rows in
    let u = moved_on (machine_of m) t places in
    let c = cut_of u n in
    let within = c.1.within in
    let P = may_turn m in
    let none = nothing (P u) u (find P (range_with_len c.0 (n - c.0))) (find P (range_with_len 0 c.0)) (sym (pick_round m u c.0 c.1) ∙ e) in
    let sum : n ≡ c.0 + (n - c.0) = omega arith in
    let from : 0 + c.0 ≡ c.0 = omega arith in
    let whole : range_with_len 0 n ≡ range_with_len 0 c.0 ++ range_with_len c.0 (n - c.0) =
    ap (range_with_len 0) sum ∙ range-split 0 c.0 (n - c.0) ∙ ap (λ a. range_with_len 0 c.0 ++ range_with_len a (n - c.0)) from in
    find_none-any P (range_with_len 0 n)
    (ap (find P) whole ∙ find-append P (range_with_len 0 c.0) (range_with_len c.0 (n - c.0)) ∙ rw (none.0, none.1) refl)

-- ---- the thread that is picked

found : (P : ℕ → Bool) (x : ℕ) (xs : List ℕ) (u : ℕ) (b : Bool) → P x ≡ b → cond b (Some x) (find P xs) ≡ Some u → (find P xs ≡ Some u → P u ≡ true) → P u ≡ true
found P x xs u true is e rest = let same : x ≡ u = cc in ap P (sym same) ∙ is
found P x xs u false is e rest = rest e

pub find-true : (P : ℕ → Bool) (xs : List ℕ) (u : ℕ) → find P xs ≡ Some u → P u ≡ true
find-true P [] u e = cc
find-true P (x ∷ xs) u e = found P x xs u (P x) refl e (find-true P xs u)

pub picked_turns : (m : MachineView) (t places u : ℕ) → shown_pick m t places ≡ Some u → may_turn m u ≡ true
picked_turns m t places u e = find-true (may_turn m) (moved_on (machine_of m) t places ∷ ring_after (machine_of m) (moved_on (machine_of m) t places)) u e
