-- The projection theorem, from a run to its history.
use Rattle.std.proofs.Common.{◌≡◌, ℕ, Bool, true, false, List, [], ◌∷◌, ◌++◌, length, Option, Some, None, refl, ap, sym, ◌∙◌, subst, cond}
use Rattle.std.specs.Prelude.{◌&&◌, is_none, slice_get}
use Rattle.std.proofs.lemmas.List.{append-nil, append_assoc}
use Rattle.vm_model.specs.declared.ends.Fault.{Fault}
use Rattle.vm_model.specs.declared.op.Entry.{Entry}
use Rattle.vm_model.specs.declared.op.Op.{Op}
use Rattle.vm_model.specs.Program.{PlainProgram}
use Rattle.machine_model.specs.Declarations.{declarations_of}
use Rattle.machine_model.specs.Frames.{LocalState}
use Rattle.machine_model.specs.LocalStep.{pending_operation}
use Rattle.machine_model.specs.Operations.{apply, entry, is_enabled, LeadsTo, IsLegalHistory}
use Rattle.machine_model.specs.Machine.{MachineState, after_event, run, run_from, start_machine, then_run, threads_of, turn, turn_at, turn_with}
use Rattle.projection_laws.specs.Projections.{own, GoesFrom, AreProjections}
use Rattle.projection_laws.proofs.Places.{none_some, some_same, both}
use Rattle.projection_laws.proofs.Steps.{state_or, first_from, StartsNext, go_before}
use Rattle.projection_laws.proofs.Projected.{starts_next, in_step, from_start}

-- ---- one turn

-- what a turn that was made says
record Made (p : PlainProgram) (m n : MachineState) (t : ℕ) : Type 0 where
  pub state : LocalState
  pub op : Op
  pub at : slice_get m.locals t ≡ Some state
  pub asks : pending_operation p state ≡ Some op
  pub none : m.world.fault ≡ None
  pub enabled : is_enabled (declarations_of p) m.world t op ≡ true
  pub is : after_event p m t state op (apply (declarations_of p) m.world t op) ≡ n

no_fault : (f : Option Fault) → is_none f ≡ true → f ≡ None
no_fault None e = refl
no_fault (Some f) e = absurd (cc)

made : (p : PlainProgram) (m n : MachineState) (t : ℕ) → turn p m t ≡ Some n → Made p m n t
made p m n t e = by_state (slice_get m.locals t) refl e
  where
    by_test : (l : LocalState) (o : Op) → slice_get m.locals t ≡ Some l → pending_operation p l ≡ Some o → (b : Bool) → (is_none m.world.fault && is_enabled (declarations_of p) m.world t o) ≡ b
        → cond b (Some (after_event p m t l o (apply (declarations_of p) m.world t o))) None ≡ Some n → Made p m n t
    by_test l o at asks true test e' =
        let parts = both (is_none m.world.fault) (is_enabled (declarations_of p) m.world t o) test in
        record { state = l; op = o; at = at; asks = asks; none = no_fault m.world.fault parts.0; enabled = parts.1; is = some_same (after_event p m t l o (apply (declarations_of p) m.world t o)) n e' }
    by_test l o at asks false test e' = absurd (none_some n e')

    by_operation : (l : LocalState) → slice_get m.locals t ≡ Some l → (o : Option Op) → pending_operation p l ≡ o → turn_with p m t l o ≡ Some n → Made p m n t
    by_operation l at None asks e' = absurd (none_some n e')
    by_operation l at (Some o) asks e' = by_test l o at asks (is_none m.world.fault && is_enabled (declarations_of p) m.world t o) refl e'

    by_state : (x : Option LocalState) → slice_get m.locals t ≡ x → turn_at p m t x ≡ Some n → Made p m n t
    by_state None at e' = absurd (none_some n e')
    by_state (Some l) at e' = by_operation l at (pending_operation p l) refl e'

-- ---- a whole run

-- what a run from a machine on says
record GoesOn (p : PlainProgram) (m n : MachineState) (ts : List ℕ) : Type 0 where
  pub entries : List Entry
  pub history : n.history ≡ m.history ++ entries
  pub threads : threads_of entries ≡ ts
  pub leads : LeadsTo (declarations_of p) m.world entries n.world
  pub step : length n.locals ≡ length n.world.rows
  pub each : (t : ℕ) (l : LocalState) → slice_get n.locals t ≡ Some l → GoesFrom p (first_from p m.locals entries t) (own t entries) l

there : (p : PlainProgram) (x : Option LocalState) (l : LocalState) → x ≡ Some l → GoesFrom p (state_or p x None) [] l
there p None l e = absurd (none_some l e)
there p (Some k) l e = some_same k l e

nothing : (p : PlainProgram) (m : MachineState) → length m.locals ≡ length m.world.rows → GoesOn p m m []
nothing p m step = record { entries = []; history = sym (append-nil m.history); threads = refl; leads = refl; step = step; each = λ t l at. there p (slice_get m.locals t) l at }

one_more : (p : PlainProgram) (m n : MachineState) (t : ℕ) (ts : List ℕ) (l : LocalState) (o : Op) → length m.locals ≡ length m.world.rows → slice_get m.locals t ≡ Some l → pending_operation p l ≡ Some o → m.world.fault ≡ None
    → is_enabled (declarations_of p) m.world t o ≡ true → GoesOn p (after_event p m t l o (apply (declarations_of p) m.world t o)) n ts → GoesOn p m n (t ∷ ts)
one_more p m n t ts l o step at asks none enabled on =
    let e : Entry = entry t o (apply (declarations_of p) m.world t o).reply in
    record {
      entries = e ∷ on.entries;
      history = on.history ∙ append_assoc m.history (e ∷ []) on.entries;
      threads = ap (λ us. t ∷ us) on.threads;
      leads = (none, enabled, refl, on.leads);
      step = on.step;
      each = λ u end there'. go_before p m.locals e on.entries l u end at (subst (StartsNext e) (sym step) (starts_next p m.world e refl)) asks (on.each u end there');
    }

goes_on : (p : PlainProgram) (m n : MachineState) (ts : List ℕ) → length m.locals ≡ length m.world.rows → run_from p m ts ≡ Some n → GoesOn p m n ts
goes_on p m n [] step e = subst (λ (k : MachineState). GoesOn p m k []) (some_same m n e) (nothing p m step)
goes_on p m n (t ∷ ts) step e = by_turn (λ k s e'. goes_on p k n ts s e') (turn p m t) refl e
  where
    by_turn : ((k : MachineState) → length k.locals ≡ length k.world.rows → run_from p k ts ≡ Some n → GoesOn p k n ts) → (x : Option MachineState) → turn p m t ≡ x → then_run x (λ k. run_from p k ts) ≡ Some n → GoesOn p m n (t ∷ ts)
    by_turn more None turned e' = absurd (none_some n e')
    by_turn more (Some k) turned e' =
        let a : Made p m k t = made p m k t turned in
        let o : Op = a.op in
        let still : length k.locals ≡ length k.world.rows = subst (λ (x : MachineState). length x.locals ≡ length x.world.rows) a.is (in_step p m (entry t o (apply (declarations_of p) m.world t o).reply) a.state step refl) in
        one_more p m n t ts a.state o step a.at a.asks a.none a.enabled (subst (λ (x : MachineState). GoesOn p x n ts) (sym a.is) (more k still e'))

from_the_start : (p : PlainProgram) (ts : List ℕ) (m : MachineState) → run p ts ≡ Some m → GoesOn p (start_machine p) m ts
from_the_start p ts m e = goes_on p (start_machine p) m ts refl e

pub column : (p : PlainProgram) (ts : List ℕ) (m : MachineState) → run p ts ≡ Some m → threads_of m.history ≡ ts
column p ts m e = let on = from_the_start p ts m e in ap threads_of on.history ∙ on.threads

pub legal : (p : PlainProgram) (ts : List ℕ) (m : MachineState) → run p ts ≡ Some m → IsLegalHistory (declarations_of p) m.history m.world
legal p ts m e = let on = from_the_start p ts m e in subst (λ (h : List Entry). IsLegalHistory (declarations_of p) h m.world) (sym on.history) on.leads

pub projections : (p : PlainProgram) (ts : List ℕ) (m : MachineState) → run p ts ≡ Some m → AreProjections p m.history m.world m.locals
projections p ts m e =
    let on = from_the_start p ts m e in
    subst (λ (h : List Entry). AreProjections p h m.world m.locals) (sym on.history)
    (record { length = on.step; each = λ t l at. subst (λ (x : Option LocalState). GoesFrom p x (own t on.entries) l) (from_start p on.entries t) (on.each t l at) })
