-- What a reply leaves is what the definitions say.
use Rattle.std.proofs.Common.{◌≡◌, List, true, Option, Some, refl, sym, ◌∙◌, ap}
use Rattle.vm_model.specs.declared.value.Value.{Value}
use Rattle.vm_model.specs.declared.op.Op.{Op}
use Rattle.vm_model.specs.declared.op.Reply.{Reply}
use Rattle.vm_model.specs.Program.{PlainProgram}
use Rattle.machine_model.specs.Frames.{Frame, LocalState}
use Rattle.machine_model.specs.Operands.{Action, Goes, Calls, Gives, Asks, Fails, Undefined}
use Rattle.machine_model.specs.Effect.{action}
use Rattle.machine_model.specs.LocalStep as model
use Rattle.machine_model.specs.LocalStep.{absorb, after_outcome, completed, completes, pending_operation}
use Rattle.local_machine.specs.declared.completion.Ready.{Ready}
use Rattle.frame_actions.specs.declared.frame.Frame as code
use Rattle.local_machine.specs.declared.phase.Phase.{Phase}
use Rattle.local_machine.specs.declared.phase.Phase.TheVariants as phase
use Rattle.local_machine.specs.declared.reply.Outcome.{Outcome}
use Rattle.frame_actions.specs.Acts.{acted_of, plain}
use Rattle.local_machine.specs.Completions.{Completion, completed_by, completion, completion_with}
use Rattle.local_machine.specs.Fields.{callers, completion_of}
use Rattle.local_machine.specs.LocalView.{IsReady, LocalView, is_running}
use Rattle.local_machine.specs.Outcomes.{answered_by, outcome_of}
use Rattle.local_machine.specs.States.{state_of}

instruction_done : (p : PlainProgram) (a : Action) (brought : Option Value) (f : Frame) (below : List Frame) (l : LocalState) → completed_by (completion_with p (acted_of a) f) brought f below l ≡ completed p a brought f below l
instruction_done p (Goes g) brought f below l = refl
instruction_done p (Calls m lock) brought f below l = refl
instruction_done p (Gives given) brought f below l = refl
instruction_done p (Asks o n) brought f below l = refl
instruction_done p (Fails kind) brought f below l = refl
instruction_done p Undefined brought f below l = refl

done : (p : PlainProgram) (ph : Phase) (top : code.Frame) (below : List code.Frame) (brought : Option Value) → is_running (state_of ph top below) ≡ true → completed_by (completion p (state_of ph top below)) brought (plain top) (callers below) (state_of ph top below) ≡ completes p (state_of ph top below) brought
done p phase.Plain top below brought h = instruction_done p (action p (plain top)) brought (plain top) (callers below) (state_of phase.Plain top below)
done p phase.Entering top below brought h = refl
done p phase.Left top below brought h = refl
done p (phase.Waiting lock count) top below brought h = instruction_done p (action p (plain top)) brought (plain top) (callers below) (state_of (phase.Waiting lock count) top below)
done p (phase.Raised kind) top below brought h = refl
done p phase.Ended top below brought h = cc

answered : (p : PlainProgram) (ph : Phase) (top : code.Frame) (below : List code.Frame) (x : model.Outcome) → is_running (state_of ph top below) ≡ true → answered_by (outcome_of x) (completion p (state_of ph top below)) (plain top) (callers below) (state_of ph top below) ≡ after_outcome p (state_of ph top below) x
answered p ph top below model.Stays h = refl
answered p ph top below model.Ends h = refl
answered p phase.Plain top below (model.Raises kind) h = refl
answered p phase.Entering top below (model.Raises kind) h = refl
answered p phase.Left top below (model.Raises kind) h = refl
answered p (phase.Waiting l n) top below (model.Raises kind) h = refl
answered p (phase.Raised k) top below (model.Raises kind) h = refl
answered p phase.Ended top below (model.Raises kind) h = cc
answered p phase.Plain top below (model.StartsWaiting lock count) h = refl
answered p phase.Entering top below (model.StartsWaiting lock count) h = refl
answered p phase.Left top below (model.StartsWaiting lock count) h = refl
answered p (phase.Waiting l n) top below (model.StartsWaiting lock count) h = refl
answered p (phase.Raised k) top below (model.StartsWaiting lock count) h = refl
answered p phase.Ended top below (model.StartsWaiting lock count) h = cc
answered p ph top below (model.Completes brought) h = done p ph top below brought h

some_same : (o q : Op) → Some q ≡ Some o → q ≡ o
some_same o q e = cc

pub absorbed : (p : PlainProgram) (ph : Phase) (top : code.Frame) (below : List code.Frame) (r : Ready) (v : LocalView) (o q : Op) (reply : Reply) (x : Outcome) (l : LocalState) → state_of ph top below ≡ v.state → v.is_ready ≡ true → r.op ≡ v.pending → completion_of r.completion ≡ v.completion → IsReady p v → r.op ≡ Some q → pending_operation p v.state ≡ Some o → x ≡ outcome_of (model.outcome q reply) → l ≡ answered_by x (completion_of r.completion) (plain top) (callers below) (state_of ph top below) → l ≡ absorb p v.state o reply
absorbed p ph top below r v o q reply x l st is pend comp ready has asks out e =
    let s = state_of ph top below in
    let f = plain top in
    let b = callers below in
    let same : q ≡ o = some_same o q (sym has ∙ pend ∙ ready.pending ∙ asks) in
    let run : is_running s ≡ true = ap is_running st ∙ sym ready.is_ready ∙ is in
    let left : completion_of r.completion ≡ completion p s = comp ∙ ready.completion ∙ ap (completion p) (sym st) in
    e ∙ ap (λ (y : Outcome). answered_by y (completion_of r.completion) f b s) out
    ∙ ap (λ (y : Op). answered_by (outcome_of (model.outcome y reply)) (completion_of r.completion) f b s) same
    ∙ ap (λ (c : Completion). answered_by (outcome_of (model.outcome o reply)) c f b s) left
    ∙ answered p ph top below (model.outcome o reply) run
    ∙ ap (λ (y : LocalState). absorb p y o reply) st
