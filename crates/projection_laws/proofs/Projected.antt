-- The projection theorem, from a history to a run.
use Rattle.std.proofs.Common.{◌≡◌, ℕ, zero, suc, ◌+◌, ◌<◌, ◌≤◌, Bool, true, List, [], ◌∷◌, ◌++◌, length, Option, Some, None, refl, arith, ap, sym, ◌∙◌, subst, cond}
use Rattle.std.specs.Prelude.{◌&&◌, is_none, slice_get, slice_set}
use Rattle.std.proofs.lemmas.List.{append-nil, append_assoc, length-append, length-set}
use Rattle.vm_model.specs.declared.ends.Fault.{Fault}
use Rattle.vm_model.specs.declared.op.Entry.{Entry}
use Rattle.vm_model.specs.declared.op.Op.{Op}
use Rattle.vm_model.specs.declared.op.Reply.{Reply}
use Rattle.vm_model.specs.Program.{PlainProgram}
use Rattle.machine_model.specs.Declarations.{declarations_of}
use Rattle.machine_model.specs.Frames.{LocalState}
use Rattle.machine_model.specs.LocalStep.{settled, pending_operation, absorb, first_of_main}
use Rattle.machine_model.specs.Shared.{SharedState}
use Rattle.machine_model.specs.Operations.{apply, entry, is_enabled, LeadsTo, IsLegalHistory}
use Rattle.machine_model.specs.Machine.{MachineState, after_event, begun, run, run_from, start_machine, then_run, threads_of, turn, turn_at, turn_with}
use Rattle.projection_laws.specs.Projections.{own, GoesFrom, first_in, AreProjections, machine_of}
use Rattle.projection_laws.proofs.Places.{Stands, within, same_items}
use Rattle.projection_laws.proofs.Rows.{enabled_within, apply_adds, apply_next, rows_grow}
use Rattle.projection_laws.proofs.Steps.{state_or, first_from, states_behind, StartsNext, go_behind, go_asks}

-- ---- one turn

-- the reply of an event that is legal starts the next thread, if any
pub starts_next : (p : PlainProgram) (s : SharedState) (e : Entry) → (apply (declarations_of p) s e.thread e.op).reply ≡ e.reply → StartsNext e (length s.rows)
starts_next p s e replied target u is began =
    apply_next p (declarations_of p) s e.thread target u (subst (λ (o : Op). (apply (declarations_of p) s e.thread o).reply ≡ e.reply) is replied ∙ began)

-- the machine after an entry
abbrev pub machine_behind : PlainProgram → MachineState → Entry → LocalState → MachineState
machine_behind p m e l = record { world = (apply (declarations_of p) m.world e.thread e.op).world; locals = states_behind p m.locals e l; history = m.history ++ e ∷ [] }

-- the same, with the reply that the world gives
replied_so : (p : PlainProgram) (m : MachineState) (e : Entry) (l : LocalState) (r : Reply) → r ≡ e.reply
    → record { world = (apply (declarations_of p) m.world e.thread e.op).world; locals = slice_set m.locals e.thread (settled p (absorb p l e.op r)) ++ begun p e.op r; history = m.history ++ entry e.thread e.op r ∷ [] } ≡ machine_behind p m e l
replied_so p m e l r same = ap (λ (q : Reply). record { world = (apply (declarations_of p) m.world e.thread e.op).world; locals = slice_set m.locals e.thread (settled p (absorb p l e.op q)) ++ begun p e.op q; history = m.history ++ entry e.thread e.op q ∷ [] }) same

pub turned : (p : PlainProgram) (m : MachineState) (e : Entry) (l : LocalState) → slice_get m.locals e.thread ≡ Some l → pending_operation p l ≡ Some e.op → m.world.fault ≡ None → is_enabled (declarations_of p) m.world e.thread e.op ≡ true
    → (apply (declarations_of p) m.world e.thread e.op).reply ≡ e.reply → turn p m e.thread ≡ Some (machine_behind p m e l)
turned p m e l at asks none enabled replied =
    ap (turn_at p m e.thread) at ∙ ap (turn_with p m e.thread l) asks
    ∙ ap (λ (f : Option Fault). cond (is_none f && is_enabled (declarations_of p) m.world e.thread e.op) (Some (after_event p m e.thread l e.op (apply (declarations_of p) m.world e.thread e.op))) None) none
    ∙ ap (λ (b : Bool). cond b (Some (after_event p m e.thread l e.op (apply (declarations_of p) m.world e.thread e.op))) None) enabled
    ∙ ap Some (replied_so p m e l (apply (declarations_of p) m.world e.thread e.op).reply replied)

-- as many states as rows, still
pub in_step : (p : PlainProgram) (m : MachineState) (e : Entry) (l : LocalState) → length m.locals ≡ length m.world.rows → (apply (declarations_of p) m.world e.thread e.op).reply ≡ e.reply → length (states_behind p m.locals e l) ≡ length (apply (declarations_of p) m.world e.thread e.op).world.rows
in_step p m e l step replied =
    let adds : length (apply (declarations_of p) m.world e.thread e.op).world.rows ≡ length m.world.rows + length (begun p e.op e.reply) =
    subst (λ (r : Reply). length (apply (declarations_of p) m.world e.thread e.op).world.rows ≡ length m.world.rows + length (begun p e.op r)) replied (apply_adds p (declarations_of p) m.world e.thread e.op) in
    omega (arith, adds, step, length-append (slice_set m.locals e.thread (settled p (absorb p l e.op e.reply))) (begun p e.op e.reply), length-set m.locals e.thread (settled p (absorb p l e.op e.reply)))

-- ---- a whole history

-- where the entries of each thread lead it from a machine
abbrev AllGo : PlainProgram → List LocalState → List Entry → List LocalState → Type 0
AllGo p ls h ends = (t : ℕ) (end : LocalState) → slice_get ends t ≡ Some end → GoesFrom p (first_from p ls h t) (own t h) end

stays : (p : PlainProgram) (x : Option LocalState) (end : LocalState) → GoesFrom p (state_or p x None) [] end → x ≡ Some end
stays p None end goes = absurd goes
stays p (Some l) end goes = ap Some goes

run_behind : (p : PlainProgram) (m n : MachineState) (t : ℕ) (ts : List ℕ) → turn p m t ≡ Some n → run_from p m (t ∷ ts) ≡ run_from p n ts
run_behind p m n t ts e = ap (λ (x : Option MachineState). then_run x (λ k. run_from p k ts)) e

goes_on : (p : PlainProgram) (h : List Entry) (m : MachineState) (s : SharedState) (ends : List LocalState) → length m.locals ≡ length m.world.rows → LeadsTo (declarations_of p) m.world h s → length ends ≡ length s.rows → AllGo p m.locals h ends
    → run_from p m (threads_of h) ≡ Some (machine_of s ends (m.history ++ h))
goes_on p [] m s ends step lead size all =
    let same : m.locals ≡ ends = same_items m.locals ends (step ∙ ap (λ (x : SharedState). length x.rows) lead ∙ sym size) (λ t end at. stays p (slice_get m.locals t) end (all t end at)) in
    ap Some (ap (λ (x : SharedState). machine_of x m.locals m.history) lead ∙ ap (λ (ls : List LocalState). machine_of s ls m.history) same ∙ ap (machine_of s ends) (sym (append-nil m.history)))
goes_on p (e ∷ es) m s ends step lead size all =
    let started : e.thread < length m.world.rows = enabled_within (declarations_of p) m.world e.thread e.op lead.1 in
    let grown : length m.world.rows ≤ length s.rows = rows_grow p (declarations_of p) m.world s (e ∷ es) lead in
    let stands : Stands m.locals e.thread = within m.locals e.thread (omega (arith, started, step)) in
    let ended : Stands ends e.thread = within ends e.thread (omega (arith, started, grown, size)) in
    let l : LocalState = stands.item in
    let asks : pending_operation p l ≡ Some e.op = go_asks p m.locals e es l ended.item stands.is (all e.thread ended.item ended.is) in
    let next : StartsNext e (length m.locals) = subst (StartsNext e) (sym step) (starts_next p m.world e lead.2) in
    run_behind p m (machine_behind p m e l) e.thread (threads_of es) (turned p m e l stands.is asks lead.0 lead.1 lead.2)
    ∙ goes_on p es (machine_behind p m e l) s ends (in_step p m e l step lead.2) lead.3 size (λ t end at. go_behind p m.locals e es l t end stands.is next (all t end at))
    ∙ ap (λ (h : List Entry). Some (machine_of s ends h)) (append_assoc m.history (e ∷ []) es)

-- from the start a thread begins as the main thread, or where it is started
pub from_start : (p : PlainProgram) (h : List Entry) (t : ℕ) → first_from p (settled p (first_of_main p) ∷ []) h t ≡ first_in p h t
from_start p h zero = refl
from_start p h (suc t) = refl

pub projected : (p : PlainProgram) (h : List Entry) (s : SharedState) (ls : List LocalState) → IsLegalHistory (declarations_of p) h s → AreProjections p h s ls → run p (threads_of h) ≡ Some (machine_of s ls h)
projected p h s ls legal are =
    goes_on p h (start_machine p) s ls refl legal are.length
    (λ t end at. subst (λ (x : Option LocalState). GoesFrom p x (own t h) end) (sym (from_start p h t)) (are.each t end at))
