-- The next operation is reached.
use Rattle.std.proofs.Common.{◌≡◌, true, ℕ, ◌-◌, List, [], ◌∷◌, length, Option, Some, None, refl, sym, ◌∙◌, ap, subst, arith}
use Rattle.vm_model.specs.declared.value.Lock.{Lock}
use Rattle.vm_model.specs.declared.op.Op.TheVariants as op
use Rattle.vm_model.specs.Program.{PlainProgram}
use Rattle.machine_model.specs.Frames.{Frame, LocalState, Running, Plain, Waiting, Entering, Left, Raised, Ended}
use Rattle.machine_model.specs.Operands.{Action, Goes, Calls, Gives, Asks, Fails, Undefined}
use Rattle.machine_model.specs.Effect.{action}
use Rattle.machine_model.specs.LocalStep.{asked, local_step, moved, tick_or}
use Rattle.frame_actions.specs.declared.acted.Acted.{Acted}
use Rattle.local_machine.specs.declared.completion.Ready.{Ready}
use Rattle.frame_actions.specs.declared.frame.Frame as code
use Rattle.frame_actions.specs.Acts.{acted_of, plain}
use Rattle.local_machine.specs.Completions.{completion_with}
use Rattle.local_machine.specs.declared.phase.Phase.{Phase}
use Rattle.local_machine.specs.declared.phase.Phase.TheVariants as phase
use Rattle.local_machine.specs.Fields.{callers, completion_of, frames_of}
use Rattle.local_machine.specs.LocalView.{is_running}
use Rattle.local_machine.specs.States.{HasRoomIn, IsAskedBy, IsReached, StandsAt, ready_at, ready_elsewhere, state_of, wanted}
use Rattle.local_machine.specs.Steps.{IsOnTheWay, IsSettled}
use Rattle.local_machine.proofs.Settled.{on_the_way_here, settled-stop, count-stop}

wanted_is : (p : PlainProgram) (a : Action) (f : Frame) (below : List Frame) → wanted (acted_of a) f (length below) ≡ tick_or (moved p a f below) (asked a f below)
wanted_is p (Goes g) f below = refl
wanted_is p (Calls m None) f below = grind arith
wanted_is p (Calls m (Some l)) f below = refl
wanted_is p (Gives given) f below = returned f.lock below
  where
    returned : (l : Option Lock) (below : List Frame) → wanted (acted_of (Gives given)) (record f { lock = l }) (length below) ≡ tick_or (moved p (Gives given) (record f { lock = l }) below) (asked (Gives given) (record f { lock = l }) below)
    returned None [] = refl
    returned None (g ∷ below) = grind arith
    returned (Some l) below = refl
wanted_is p (Asks o n) f below = refl
wanted_is p (Fails kind) f below = refl
wanted_is p Undefined f below = refl

-- at an instruction
pub reached-plain : (p : PlainProgram) (old : LocalState) (f : Frame) (below below' : List Frame) (steps s : ℕ) (a : Acted) (r : Ready) (n : ℕ) → IsSettled p old steps f below s a → below' ≡ below → n ≡ length below → r.op ≡ wanted a f n → completion_of r.completion ≡ completion_with p a f → IsReached p old steps (Running (f ∷ below') Plain) s (Some r)
reached-plain p old f below below' steps s a r n there same long o c =
    let asks : IsAskedBy p (Running (f ∷ below) Plain) (Some r) = (
      refl,
      o ∙ ap (λ (k : ℕ). wanted a f k) long ∙ ap (λ (x : Acted). wanted x f (length below)) there.acted ∙ wanted_is p (action p f) f below,
      c ∙ ap (λ (x : Acted). completion_with p x f) there.acted,
    ) in
    record {
      state = ap (λ (fs : List Frame). Running (f ∷ fs) Plain) same ∙ there.state;
      count = there.count;
      asked = subst (λ (fs : List Frame). IsAskedBy p (Running (f ∷ fs) Plain) (Some r)) (sym same) asks;
    }

-- at what is no instruction
pub reached-stopped : (p : PlainProgram) (l : LocalState) (steps : ℕ) (r : Option Ready) → local_step p l ≡ None → IsAskedBy p l r → IsReached p l steps l steps r
reached-stopped p l steps r e asks =
    let counted = count-stop p (4096 - steps) l e in
    record {
      state = sym (settled-stop p (4096 - steps) l e);
      count = omega (arith, counted);
      asked = asks;
    }

-- at a wait
pub reached-waiting : (p : PlainProgram) (f g : Frame) (below below' : List Frame) (l : Lock) (k steps : ℕ) (r : Ready) → g ≡ f → below' ≡ below → r.op ≡ Some (op.Resume l k) → completion_of r.completion ≡ completion_with p (acted_of (action p f)) f → IsReached p (Running (f ∷ below) (Waiting l k)) steps (Running (g ∷ below') (Waiting l k)) steps (Some r)
reached-waiting p f g below below' l k steps r e same o c =
    let asks : IsAskedBy p (Running (f ∷ below) (Waiting l k)) (Some r) = (refl, o, c) in
    let there = reached-stopped p (Running (f ∷ below) (Waiting l k)) steps (Some r) refl asks in
    subst (λ (fs : List Frame). IsReached p (Running (f ∷ below) (Waiting l k)) steps (Running fs (Waiting l k)) steps (Some r)) (ap (λ (x : Frame). x ∷ below) (sym e) ∙ ap (λ (fs : List Frame). g ∷ fs) (sym same)) there

-- at whatever instruction
pub reached-at : (p : PlainProgram) (ph : Phase) (top top' : code.Frame) (below mid below' : List code.Frame) (steps s : ℕ) (a : Acted) (r : Ready) (n : ℕ) → StandsAt p ph (plain top) (callers below) steps (plain top') (callers mid) s (Some a) → callers below' ≡ callers mid → n ≡ length (callers mid) → r.op ≡ wanted a (plain top') n → completion_of r.completion ≡ completion_with p a (plain top') → IsReached p (state_of ph top below) steps (state_of ph top' below') s (Some (ready_at ph r))
reached-at p phase.Plain top top' below mid below' steps s a r n there same long o c = reached-plain p (Running (frames_of top below) Plain) (plain top') (callers mid) (callers below') steps s a r n there same long o c
reached-at p (phase.Waiting l k) top top' below mid below' steps s a r n (e, q, m, x) same long o c =
    let done : completion_of r.completion ≡ completion_with p (acted_of (action p (plain top))) (plain top) = c ∙ ap (λ (b : Acted). completion_with p b (plain top')) x ∙ ap (λ (f : Frame). completion_with p (acted_of (action p (plain top))) f) e in
    subst (λ (k' : ℕ). IsReached p (state_of (phase.Waiting l k) top below) steps (state_of (phase.Waiting l k) top' below') k' (Some (ready_at (phase.Waiting l k) r))) (sym m)
    (reached-waiting p (plain top) (plain top') (callers below) (callers below') l k steps (ready_at (phase.Waiting l k) r) e (same ∙ q) refl done)
reached-at p phase.Entering top top' below mid below' steps s a r n (none, e, q, m) same long o c = absurd (cc)
reached-at p phase.Left top top' below mid below' steps s a r n (none, e, q, m) same long o c = absurd (cc)
reached-at p (phase.Raised kind) top top' below mid below' steps s a r n (none, e, q, m) same long o c = absurd (cc)
reached-at p phase.Ended top top' below mid below' steps s a r n (none, e, q, m) same long o c = absurd (cc)

-- the frames and the steps are as they were
same-frames : (ph : Phase) (top top' : code.Frame) (below below' : List code.Frame) → plain top' ≡ plain top → callers below' ≡ callers below → state_of ph top' below' ≡ state_of ph top below
same-frames phase.Plain top top' below below' e q = grind arith
same-frames (phase.Waiting l k) top top' below below' e q = grind arith
same-frames phase.Entering top top' below below' e q = grind arith
same-frames phase.Left top top' below below' e q = grind arith
same-frames (phase.Raised kind) top top' below below' e q = grind arith
same-frames phase.Ended top top' below below' e q = grind arith

reached-here : (p : PlainProgram) (old new : LocalState) (steps s : ℕ) (r : Option Ready) → new ≡ old → s ≡ steps → IsReached p new s new s r → IsReached p old steps new s r
reached-here p old new steps s r e m there = subst (λ (k : ℕ). IsReached p old k new s r) m (subst (λ (l : LocalState). IsReached p l s new s r) e there)

-- at no instruction
pub reached-elsewhere : (p : PlainProgram) (ph : Phase) (top top' : code.Frame) (below below' : List code.Frame) (steps s : ℕ) → StandsAt p ph (plain top) (callers below) steps (plain top') (callers below') s None → IsReached p (state_of ph top below) steps (state_of ph top' below') s (ready_elsewhere ph (plain top'))
reached-elsewhere p phase.Plain top top' below below' steps s wrong = absurd wrong
reached-elsewhere p (phase.Waiting l k) top top' below below' steps s wrong = absurd wrong
reached-elsewhere p phase.Entering top top' below below' steps s (none, e, q, m) =
    let l = Running (frames_of top' below') Entering in
    reached-here p (state_of phase.Entering top below) l steps s (ready_elsewhere phase.Entering (plain top')) (same-frames phase.Entering top top' below below' e q) m
    (reached-stopped p l s (ready_elsewhere phase.Entering (plain top')) refl (refl, refl, refl))
reached-elsewhere p phase.Left top top' below below' steps s (none, e, q, m) =
    let l = Running (frames_of top' below') Left in
    reached-here p (state_of phase.Left top below) l steps s (ready_elsewhere phase.Left (plain top')) (same-frames phase.Left top top' below below' e q) m
    (reached-stopped p l s (ready_elsewhere phase.Left (plain top')) refl (refl, refl, refl))
reached-elsewhere p (phase.Raised kind) top top' below below' steps s (none, e, q, m) =
    let l = Running (frames_of top' below') (Raised kind) in
    reached-here p (state_of (phase.Raised kind) top below) l steps s (ready_elsewhere (phase.Raised kind) (plain top')) (same-frames (phase.Raised kind) top top' below below' e q) m
    (reached-stopped p l s (ready_elsewhere (phase.Raised kind) (plain top')) refl (refl, refl, refl))
reached-elsewhere p phase.Ended top top' below below' steps s (none, e, q, m) =
    reached-here p Ended Ended steps s None refl m (reached-stopped p Ended s None refl refl)

-- the way to there
on_the_way-here : (p : PlainProgram) (old new : LocalState) (steps s : ℕ) → new ≡ old → s ≡ steps → IsOnTheWay p old steps new s
on_the_way-here p old new steps s e m = subst (λ (k : ℕ). IsOnTheWay p old steps new k) (sym m) (subst (λ (l : LocalState). IsOnTheWay p old steps l steps) (sym e) (on_the_way_here p old steps))

pub waiting-on_the_way : (p : PlainProgram) (ph : Phase) (l : Lock) (k : ℕ) (top top' : code.Frame) (below below' : List code.Frame) (steps : ℕ) → ph ≡ phase.Waiting l k → plain top' ≡ plain top → callers below' ≡ callers below → IsOnTheWay p (state_of ph top below) steps (state_of ph top' below') steps
waiting-on_the_way p ph l k top top' below below' steps at e q =
    on_the_way-here p (state_of ph top below) (state_of ph top' below') steps steps (same-frames ph top top' below below' e q) refl

pub on_the_way-at : (p : PlainProgram) (ph : Phase) (top top' : code.Frame) (below mid below' : List code.Frame) (steps s : ℕ) (a : Acted) → StandsAt p ph (plain top) (callers below) steps (plain top') (callers mid) s (Some a) → callers below' ≡ callers mid → IsOnTheWay p (state_of ph top below) steps (state_of ph top' below') s
on_the_way-at p phase.Plain top top' below mid below' steps s a there same =
    subst (λ (fs : List Frame). IsOnTheWay p (state_of phase.Plain top below) steps (Running (plain top' ∷ fs) Plain) s) (sym same) there.way
on_the_way-at p (phase.Waiting l k) top top' below mid below' steps s a (e, q, m, x) same =
    on_the_way-here p (state_of (phase.Waiting l k) top below) (state_of (phase.Waiting l k) top' below') steps s (same-frames (phase.Waiting l k) top top' below below' e (same ∙ q)) m
on_the_way-at p phase.Entering top top' below mid below' steps s a (none, e, q, m) same = absurd (cc)
on_the_way-at p phase.Left top top' below mid below' steps s a (none, e, q, m) same = absurd (cc)
on_the_way-at p (phase.Raised kind) top top' below mid below' steps s a (none, e, q, m) same = absurd (cc)
on_the_way-at p phase.Ended top top' below mid below' steps s a (none, e, q, m) same = absurd (cc)

-- it hasn't ended
pub running-at : (p : PlainProgram) (ph : Phase) (top top' : code.Frame) (below mid : List code.Frame) (steps s : ℕ) (a : Acted) → StandsAt p ph (plain top) (callers below) steps (plain top') (callers mid) s (Some a) → is_running (state_of ph top below) ≡ true
running-at p phase.Plain top top' below mid steps s a there = refl
running-at p (phase.Waiting l k) top top' below mid steps s a there = refl
running-at p phase.Entering top top' below mid steps s a there = refl
running-at p phase.Left top top' below mid steps s a there = refl
running-at p (phase.Raised kind) top top' below mid steps s a there = refl
running-at p phase.Ended top top' below mid steps s a (none, e, q, m) = absurd (cc)

-- what completes it stays
pub ready_at-completion : (ph : Phase) (r : Ready) → (ready_at ph r).completion ≡ r.completion
ready_at-completion phase.Plain r = refl
ready_at-completion (phase.Waiting l k) r = refl
ready_at-completion phase.Entering r = refl
ready_at-completion phase.Left r = refl
ready_at-completion (phase.Raised kind) r = refl
ready_at-completion phase.Ended r = refl

-- what stands at no instruction needs no room
pub elsewhere-room : (ph : Phase) (f : Frame) (top : code.Frame) (below : List code.Frame) (count room : ℕ) → HasRoomIn (ready_elsewhere ph f) top below count room
elsewhere-room phase.Plain f top below count room = tt
elsewhere-room (phase.Waiting l k) f top below count room = tt
elsewhere-room phase.Entering f top below count room = tt
elsewhere-room phase.Left f top below count room = tt
elsewhere-room (phase.Raised kind) f top below count room = tt
elsewhere-room phase.Ended f top below count room = tt
