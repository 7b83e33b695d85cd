-- A thread that is ready or ended stays as it is.
use Rattle.std.proofs.Common.{◌≡◌, ℕ, ◌-◌, Bool, true, false, Option, Some, None, refl, sym, ◌∙◌, ap, arith, ⊎_elim}
use Rattle.std.specs.Prelude.{is_some}
use Rattle.vm_model.specs.declared.op.Op.{Op}
use Rattle.vm_model.specs.Program.{PlainProgram}
use Rattle.machine_model.specs.Frames.{LocalState, Ended}
use Rattle.machine_model.specs.LocalStep.{local_step}
use Rattle.local_machine.specs.declared.completion.Ready.{Ready}
use Rattle.local_machine.specs.Completions.{Completion, Nothing}
use Rattle.local_machine.specs.Further.{IsAtRest}
use Rattle.local_machine.specs.LocalView.{LocalView, is_running}
use Rattle.local_machine.specs.States.{IsAskedBy, IsReached, completion_in, pending_in}
use Rattle.local_machine.proofs.Settled.{settled-stop, count-stop}

pub unready-none : (r : Option Ready) → is_some r ≡ false → r ≡ None
unready-none None e = refl
unready-none (Some r) e = cc

asks-nothing : (p : PlainProgram) (l : LocalState) (r : Option Ready) → is_running l ≡ false → IsAskedBy p l r → r ≡ None
asks-nothing p l None e asks = refl
asks-nothing p l (Some r) e asks =
    let runs = asks.0 in
    cc

-- what is reached from a thread that isn't ready
pub rested : (p : PlainProgram) (l : LocalView) (new : LocalState) (n : ℕ) (r : Option Ready) → IsReached p l.state l.steps new n r → l.is_ready ≡ false → l.pending ≡ None → l.completion ≡ Nothing → IsAtRest l → record { state = new; steps = n; is_ready = is_some r; pending = pending_in r; completion = completion_in r } ≡ l
rested p l new n r there off none nothing rest = ⊎_elim (λ (on : l.is_ready ≡ true). cc) ended rest
  where
    at : LocalState → ℕ → Bool → Option Op → Completion → LocalView
    at s k b o c = record { state = s; steps = k; is_ready = b; pending = o; completion = c }

    ended : l.state ≡ Ended → record { state = new; steps = n; is_ready = is_some r; pending = pending_in r; completion = completion_in r } ≡ l
    ended e =
        let stop : local_step p l.state ≡ None = ap (local_step p) e in
        let state : new ≡ l.state = there.state ∙ settled-stop p (4096 - l.steps) l.state stop in
        let counted = count-stop p (4096 - l.steps) l.state stop in
        let count : n ≡ l.steps = omega (arith, counted, there.count) in
        let asks : r ≡ None = asks-nothing p new r (ap is_running state ∙ ap is_running e) there.asked in
        ap (λ (s : LocalState). at s n (is_some r) (pending_in r) (completion_in r)) state
        ∙ ap (λ (k : ℕ). at l.state k (is_some r) (pending_in r) (completion_in r)) count
        ∙ ap (λ (x : Option Ready). at l.state l.steps (is_some x) (pending_in x) (completion_in x)) asks
        ∙ ap (λ (b : Bool). at l.state l.steps b None Nothing) (sym off)
        ∙ ap (λ (o : Option Op). at l.state l.steps l.is_ready o Nothing) (sym none)
        ∙ ap (λ (c : Completion). at l.state l.steps l.is_ready l.pending c) (sym nothing)
