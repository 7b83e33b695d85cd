-- The action of a frame that fits the table leads to frames that fit it.
use Rattle.std.proofs.Common.{◌≡◌, ℕ, zero, suc, ◌+◌, ◌-◌, true, List, [], ◌∷◌, ◌++◌, length, map, take, drop, reverse, replicate, Option, Some, None, refl, sym, ◌∙◌, ap, subst, ⊎_elim}
use Rattle.std.specs.Prelude.{slice_get, IsTrue}
use Rattle.vm_model.specs.declared.value.Value.{Value}
use Rattle.vm_model.specs.declared.value.Value.TheVariants as value
use Rattle.vm_model.specs.declared.value.Lock.{Lock}
use Rattle.vm_model.specs.declared.value.Kind.{Kind}
use Rattle.vm_model.specs.declared.op.Reply.{Reply}
use Rattle.vm_model.specs.declared.instr.Instr.{Instr}
use Rattle.vm_model.specs.Program.{PlainMethod, PlainProgram, arity_of, code_at, instr_at, locals_of, method_at}
use Rattle.machine_model.specs.Declarations.{declarations_of}
use Rattle.machine_model.specs.Frames.{Frame}
use Rattle.machine_model.specs.Operands.{Action, Goes, Calls, Gives, Asks, Fails, Undefined, next, jump}
use Rattle.machine_model.specs.Effect.{effect, effect_at, action}
use Rattle.machine_model.specs.LocalStep.{Outcome, Stays, Ends, Raises, StartsWaiting, Completes, outcome, arity_at, locals_at, first_frame, with_given, with_reply}
use Rattle.machine_model.specs.Operations.{fits_reply}
use Rattle.machine_model.specs.Shapes.{Shape, Table, shape_at, Flow, Next, Branch, Leaves, Refused, flow, first_shape, parameters, given_kind, TakesAt, Follows, FollowsAt, HasShapes, IsShapeTable}
use Rattle.machine_model.specs.Shapes.{Jump as JumpFlow}
use Rattle.shape_laws.specs.Fitting.{FitsKinds, FitsLocals, FitsShape}
use Rattle.shape_laws.specs.States.{GivenFits, FitsFrame, Awaits, is_made_op, is_made_reply}
use Rattle.shape_laws.specs.Linked.{is_linked_instr, IsLinkedMethod, IsWellLinked}
use Rattle.shape_laws.proofs.Tests.{all_there}
use Rattle.shape_laws.proofs.Taking.{fits_at}
use Rattle.shape_laws.proofs.Moving.{Moves}
use Rattle.shape_laws.proofs.Agreement.{Done, CallFits, Agrees}
use Rattle.shape_laws.proofs.Calls.{fits_long}
use Rattle.shape_laws.proofs.Instructions.{method_linked, agrees}

-- ---- the instruction at a frame

pub record AtInstr (p : PlainProgram) (table : Table) (f : Frame) (s : Shape) : Type 0 where
  pub instr : Instr
  pub is_there : instr_at p f.method f.place ≡ Some instr
  pub linked : is_linked_instr p instr ≡ true
  pub follows : Follows p table f.method f.place (flow p f.method instr s)

at_instr : (p : PlainProgram) (table : Table) (f : Frame) (s : Shape) (m : PlainMethod) (o : Option Instr) → IsLinkedMethod p m → slice_get m.code f.place ≡ o → instr_at p f.method f.place ≡ o
    → FollowsAt p table f.method f.place s o → AtInstr p table f s
at_instr p table f s m None linked at e follows = absurd follows
at_instr p table f s m (Some i) linked at e follows = record { instr = i; is_there = e; linked = all_there (λ (j : Instr). IsTrue (is_linked_instr p j)) m.code f.place i linked.code at; follows = follows }

pub at_frame : (p : PlainProgram) (table : Table) (f : Frame) → IsWellLinked p → IsShapeTable p table → (fit : FitsFrame p table f) → AtInstr p table f fit.at.shape
at_frame p table f linked shapes fit =
    let m = fit.method in
    let has = subst (HasShapes p table f.method) fit.is_method (shapes f.method) in
    let here = has.1 f.place fit.at.shape fit.at.is_there in
    let same_code = ap (λ (o : Option PlainMethod). code_at o f.place) fit.is_method in
    at_instr p table f fit.at.shape m (slice_get m.code f.place) (method_linked p f.method m linked fit.is_method) refl same_code
    (subst (λ (o : Option Instr). FollowsAt p table f.method f.place fit.at.shape o) same_code here.1)

-- ---- what the action leads to

-- what an outcome of the reply leaves fits the table
abbrev pub DoneAt : PlainProgram → Table → Frame → ℕ → Outcome → Type 0
DoneAt p table f n Stays = Unit {0}
DoneAt p table f n Ends = Unit {0}
DoneAt p table f n (Raises kind) = Unit {0}
DoneAt p table f n (StartsWaiting l count) = FitsFrame p table (with_reply n None f)
DoneAt p table f n (Completes brought) = FitsFrame p table (with_reply n brought f)

-- the callee's frame fits the table, and the caller's awaits what it gives
pub record CallKeeps (p : PlainProgram) (table : Table) (f : Frame) (callee : ℕ) : Type 0 where
  pub begins : (l : Option Lock) → FitsFrame p table (first_frame p callee (reverse (take (arity_at (method_at p callee)) f.stack)) l)
  pub awaits : Awaits p table (given_kind (method_at p callee)) (jump f f.place (drop (arity_at (method_at p callee)) f.stack))

abbrev pub Keeps : PlainProgram → Table → Frame → Action → Type 0
Keeps p table f (Goes g) = (g.method ≡ f.method) × FitsFrame p table g
Keeps p table f (Calls m l) = CallKeeps p table f m
Keeps p table f (Gives given) = GivenFits p given (given_kind (method_at p f.method))
Keeps p table f (Asks o n) = (is_made_op p o ≡ true) × ((r : Reply) → fits_reply (declarations_of p) o r ≡ true → is_made_reply r ≡ true → DoneAt p table f n (outcome o r))
Keeps p table f (Fails kind) = Unit {0}
Keeps p table f Undefined = ⊥

moves_keep : (p : PlainProgram) (table : Table) (f g : Frame) (to : ℕ) (s : Shape) (m : PlainMethod) → method_at p f.method ≡ Some m → Moves p f g to s → TakesAt p s (shape_at table f.method to) → (g.method ≡ f.method) × FitsFrame p table g
moves_keep p table f g to s m is moves takes =
    (moves.method, record { method = m; is_method = ap (method_at p) moves.method ∙ is; at = fits_at p table g f.method to s moves.method moves.place_is moves.fit takes })

-- ---- operations

behind_fits : (p : PlainProgram) (table : Table) (f : Frame) (s : Shape) (m : PlainMethod) (stack : List Value) → method_at p f.method ≡ Some m → TakesAt p s (shape_at table f.method (f.place + 1)) → FitsShape p s (next f stack)
    → FitsFrame p table (next f stack)
behind_fits p table f s m stack is takes fit = record { method = m; is_method = is; at = fits_at p table (next f stack) f.method (f.place + 1) s refl refl fit takes }

ask_keeps : (p : PlainProgram) (table : Table) (f : Frame) (s : Shape) (m : PlainMethod) (n : ℕ) (o : Outcome) → method_at p f.method ≡ Some m → TakesAt p s (shape_at table f.method (f.place + 1)) → Done p f s n o → DoneAt p table f n o
ask_keeps p table f s m n Stays is takes done = tt
ask_keeps p table f s m n Ends is takes done = tt
ask_keeps p table f s m n (Raises kind) is takes done = tt
ask_keeps p table f s m n (StartsWaiting l count) is takes done = behind_fits p table f s m (with_given None (drop n f.stack)) is takes done
ask_keeps p table f s m n (Completes brought) is takes done = behind_fits p table f s m (with_given brought (drop n f.stack)) is takes done

-- ---- calls

locals_begin : (p : PlainProgram) (n : ℕ) → FitsLocals p (replicate n value.Null) (replicate n None)
locals_begin p zero = tt
locals_begin p (suc n) = locals_begin p n

arguments_begin : (p : PlainProgram) (vs : List Value) (ks : List Kind) (n : ℕ) → FitsKinds p vs ks → FitsLocals p (vs ++ replicate n value.Null) (map Some ks ++ replicate n None)
arguments_begin p [] [] n fit = locals_begin p n
arguments_begin p [] (k ∷ ks) n fit = absurd fit
arguments_begin p (v ∷ vs) [] n fit = absurd fit
arguments_begin p (v ∷ vs) (k ∷ ks) n fit = (fit.0, arguments_begin p vs ks n fit.1)

-- the first frame of a method, with arguments that it takes
pub begins_fit : (p : PlainProgram) (table : Table) (callee : ℕ) (m : PlainMethod) (arguments : List Value) (l : Option Lock) → IsShapeTable p table → method_at p callee ≡ Some m → FitsKinds p arguments (parameters m)
    → FitsFrame p table (first_frame p callee arguments l)
begins_fit p table callee m arguments l shapes is fit =
    let has = subst (HasShapes p table callee) is (shapes callee) in
    record { method = m; is_method = is; at = fits_at p table (first_frame p callee arguments l) callee 0 (first_shape m) refl refl (record { stack = tt; locals = locals }) has.0 }
  where
    locals : FitsLocals p (arguments ++ replicate (locals_at (method_at p callee) - length arguments) value.Null) (map Some (parameters m) ++ replicate (locals_of m - length (parameters m)) None)
    locals =
        subst (λ (n : ℕ). FitsLocals p (arguments ++ replicate n value.Null) (map Some (parameters m) ++ replicate (locals_of m - length (parameters m)) None))
        (sym (ap (λ (o : Option PlainMethod). locals_at o - length arguments) is ∙ ap (λ (n : ℕ). locals_of m - n) (fits_long p arguments (parameters m) fit)))
        (arguments_begin p arguments (parameters m) (locals_of m - length (parameters m)) fit)

call_keeps : (p : PlainProgram) (table : Table) (f : Frame) (s : Shape) (callee : ℕ) (m : PlainMethod) → IsShapeTable p table → method_at p f.method ≡ Some m → TakesAt p s (shape_at table f.method (f.place + 1)) → CallFits p f s callee → CallKeeps p table f callee
call_keeps p table f s callee m shapes is takes call = record {
  begins = λ l. begins_fit p table callee call.method (reverse (take (arity_at (method_at p callee)) f.stack)) l shapes call.is arguments;
  awaits = λ given g. behind given (subst (λ (k : Option Kind). GivenFits p given k) (ap given_kind call.is) g);
}
  where
    arity : arity_at (method_at p callee) ≡ arity_of call.method
    arity = ap arity_at call.is

    arguments : FitsKinds p (reverse (take (arity_at (method_at p callee)) f.stack)) (parameters call.method)
    arguments = subst (λ (n : ℕ). FitsKinds p (reverse (take n f.stack)) (parameters call.method)) (sym arity) call.arguments

    behind : (given : Option Value) → GivenFits p given call.method.gives → FitsFrame p table (next f (with_given given (drop (arity_at (method_at p callee)) f.stack)))
    behind given g =
        subst (λ (n : ℕ). FitsFrame p table (next f (with_given given (drop n f.stack)))) (sym arity)
        (behind_fits p table f s m (with_given given (drop (arity_of call.method) f.stack)) is takes (call.behind given g))

-- ---- all actions

keeps : (p : PlainProgram) (table : Table) (f : Frame) (m : PlainMethod) (fl : Flow) (a : Action) → IsShapeTable p table → method_at p f.method ≡ Some m → Follows p table f.method f.place fl → Agrees p f fl a → Keeps p table f a
keeps p table f m Refused a shapes is follows agree = absurd follows
keeps p table f m (Next s) (Goes g) shapes is follows agree = moves_keep p table f g (f.place + 1) s m is agree follows
keeps p table f m (Next s) (Asks o n) shapes is follows agree = (agree.0, λ r h made. ask_keeps p table f s m n (outcome o r) is follows (agree.1 r h made))
keeps p table f m (Next s) (Fails kind) shapes is follows agree = tt
keeps p table f m (Next s) (Calls callee l) shapes is follows agree = call_keeps p table f s callee m shapes is follows agree
keeps p table f m (Next s) (Gives given) shapes is follows agree = absurd agree
keeps p table f m (Next s) Undefined shapes is follows agree = agree
keeps p table f m (JumpFlow to s) (Goes g) shapes is follows agree = moves_keep p table f g to s m is agree follows
keeps p table f m (JumpFlow to s) _ shapes is follows agree = absurd agree
keeps p table f m (Branch to s) (Goes g) shapes is follows agree =
    ⊎_elim (λ a. moves_keep p table f g to s m is a follows.1) (λ a. moves_keep p table f g (f.place + 1) s m is a follows.0) agree
keeps p table f m (Branch to s) _ shapes is follows agree = absurd agree
keeps p table f m Leaves (Gives given) shapes is follows agree = agree
keeps p table f m Leaves (Fails kind) shapes is follows agree = tt
keeps p table f m Leaves _ shapes is follows agree = absurd agree

pub frame_keeps : (p : PlainProgram) (table : Table) (f : Frame) → IsWellLinked p → IsShapeTable p table → FitsFrame p table f → Keeps p table f (action p f)
frame_keeps p table f linked shapes fit =
    let at = at_frame p table f linked shapes fit in
    subst (λ (o : Option Instr). Keeps p table f (effect_at p o f)) (sym at.is_there)
    (keeps p table f fit.method (flow p f.method at.instr fit.at.shape) (effect p at.instr f) shapes fit.is_method at.follows (agrees p at.instr f fit.at.shape linked at.linked fit.at.fits_it))
