-- What callers get from the clauses of a thread's calls.
use Rattle.std.proofs.Common.{◌≡◌, Bool, true, false, refl, sym, ap, subst}
use Rattle.std.specs.Prelude.{if◌then◌else◌, ◌+◌, ◌-◌, ℕ}
use Rattle.vm_model.specs.Program.{PlainProgram}
use Rattle.machine_model.specs.Frames.{LocalState}
use Rattle.machine_model.specs.LocalStep.{settled, settled_within}
use Rattle.local_machine.specs.LocalView.{IsReady, LocalView, advanced, asking, fresh, steps_within}

IsReady-asking : (p : PlainProgram) (n : ℕ) (l : LocalState) → IsReady p (asking p n l)
IsReady-asking p n l = record { is_ready = refl; pending = refl; completion = refl }

IsReady-chosen : (p : PlainProgram) (b : Bool) (old : LocalView) (n : ℕ) (l : LocalState) → (b ≡ true → IsReady p old) → IsReady p (if b then old else asking p n l)
IsReady-chosen p true old n l h = h refl
IsReady-chosen p false old n l h = IsReady-asking p n l

-- an advanced thread asks for the operation of its state
pub IsReady-advanced : (p : PlainProgram) (old new : LocalView) → new ≡ advanced p old → (old.is_ready ≡ true → IsReady p old) → IsReady p new
IsReady-advanced p old new e h =
    subst (IsReady p) (sym e) (IsReady-chosen p old.is_ready old (old.steps + steps_within p (4096 - old.steps) old.state) (settled_within p (4096 - old.steps) old.state) h)

pub IsReady-fresh : (p : PlainProgram) (l : LocalState) (new : LocalView) → new ≡ advanced p (fresh l) → IsReady p new
IsReady-fresh p l new e = IsReady-advanced p (fresh l) new e (λ q. cc)

-- a thread that made no step yet is brought to the settled state
pub settled-fresh : (p : PlainProgram) (l : LocalState) (new : LocalView) → new ≡ advanced p (fresh l) → new.state ≡ settled p l
settled-fresh p l new e = ap (λ (v : LocalView). v.state) e
