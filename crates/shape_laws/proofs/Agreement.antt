-- When an action agrees with what the instruction does to a shape.
use Rattle.std.proofs.Common.{◌≡◌, ℕ, ◌+◌, Bool, true, false, List, take, drop, reverse, Option, Some, None, refl, sym, subst, ◌⊎◌, inl, inr}
use Rattle.std.specs.Prelude.{◌||◌}
use Rattle.std.proofs.lemmas.Bool.{false≢true}
use Rattle.vm_model.specs.declared.value.Value.{Value}
use Rattle.vm_model.specs.declared.value.Lock.{Lock}
use Rattle.vm_model.specs.declared.value.Kind.{Kind}
use Rattle.vm_model.specs.declared.ends.FaultKind.{FaultKind}
use Rattle.vm_model.specs.declared.ends.FaultKind.TheVariants as fault
use Rattle.vm_model.specs.declared.op.Op.{Op}
use Rattle.vm_model.specs.declared.op.Op.TheVariants as op
use Rattle.vm_model.specs.declared.op.Reply.{Reply}
use Rattle.vm_model.specs.declared.op.Reply.TheVariants as reply
use Rattle.vm_model.specs.Program.{PlainMethod, PlainProgram, arity_of, method_at}
use Rattle.machine_model.specs.Declarations.{declarations_of}
use Rattle.machine_model.specs.Kinds.{fits_declared}
use Rattle.machine_model.specs.Frames.{Frame}
use Rattle.machine_model.specs.Operands.{Action, Goes, Calls, Gives, Asks, Fails, Undefined, next, branch}
use Rattle.machine_model.specs.LocalStep.{Outcome, Stays, Ends, Raises, StartsWaiting, Completes, outcome, unit_outcome, with_given, with_reply}
use Rattle.machine_model.specs.Operations.{fits_reply, gets, makes, raises, is_unit, begins}
use Rattle.machine_model.specs.Shapes.{Shape, Flow, Next, Branch, Leaves, Refused, given_kind, parameters, with_stack}
use Rattle.machine_model.specs.Shapes.{Jump as JumpFlow}
use Rattle.shape_laws.specs.Fitting.{is_made, FitsKinds, FitsShape}
use Rattle.shape_laws.specs.States.{GivenFits, is_made_op, is_made_reply}
use Rattle.shape_laws.proofs.Moving.{Moves}

-- ---- operations

-- what an outcome of the reply leaves fits the shape after the instruction
abbrev pub Done : PlainProgram → Frame → Shape → ℕ → Outcome → Type 0
Done p f s n Stays = Unit {0}
Done p f s n Ends = Unit {0}
Done p f s n (Raises kind) = Unit {0}
Done p f s n (StartsWaiting l count) = FitsShape p s (with_reply n None f)
Done p f s n (Completes brought) = FitsShape p s (with_reply n brought f)

abbrev pub RepliesFit : PlainProgram → Frame → Shape → Op → ℕ → Type 0
RepliesFit p f s o n = (r : Reply) → fits_reply (declarations_of p) o r ≡ true → is_made_reply r ≡ true → Done p f s n (outcome o r)

abbrev pub AskFits : PlainProgram → Frame → Shape → Op → ℕ → Type 0
AskFits p f s o n = (is_made_op p o ≡ true) × RepliesFit p f s o n

-- a reply that brings no value
abbrev is_plain_reply : Reply → Bool
is_plain_reply reply.Unit = true
is_plain_reply (reply.Got v) = false
is_plain_reply (reply.Made v) = false
is_plain_reply (reply.Began thread) = true
is_plain_reply (reply.Waits count) = false
is_plain_reply (reply.Raise kind) = true

pub unit_only : (r : Reply) → is_unit r ≡ true → is_plain_reply r ≡ true
unit_only reply.Unit h = refl
unit_only (reply.Got v) h = absurd (false≢true h)
unit_only (reply.Made v) h = absurd (false≢true h)
unit_only (reply.Began thread) h = refl
unit_only (reply.Waits count) h = absurd (false≢true h)
unit_only (reply.Raise kind) h = refl

pub unit_or_raise : (k : FaultKind) (r : Reply) → (is_unit r || raises k r) ≡ true → is_plain_reply r ≡ true
unit_or_raise k reply.Unit h = refl
unit_or_raise k (reply.Got v) h = absurd (false≢true h)
unit_or_raise k (reply.Made v) h = absurd (false≢true h)
unit_or_raise k (reply.Began thread) h = refl
unit_or_raise k (reply.Waits count) h = absurd (false≢true h)
unit_or_raise k (reply.Raise kind) h = refl

pub begins_or_raise : (j k : FaultKind) (r : Reply) → (begins r || (raises j r || raises k r)) ≡ true → is_plain_reply r ≡ true
begins_or_raise j k reply.Unit h = absurd (false≢true h)
begins_or_raise j k (reply.Got v) h = absurd (false≢true h)
begins_or_raise j k (reply.Made v) h = absurd (false≢true h)
begins_or_raise j k (reply.Began thread) h = refl
begins_or_raise j k (reply.Waits count) h = absurd (false≢true h)
begins_or_raise j k (reply.Raise kind) h = refl

-- an operation that brings nothing
nothing_replies : (p : PlainProgram) (f : Frame) (s : Shape) (o : Op) (n : ℕ) → unit_outcome o ≡ Completes None → ((r : Reply) → fits_reply (declarations_of p) o r ≡ true → is_plain_reply r ≡ true)
    → FitsShape p s (with_reply n None f) → RepliesFit p f s o n
nothing_replies p f s o n e only fit reply.Unit h made = subst (λ (x : Outcome). Done p f s n x) (sym e) fit
nothing_replies p f s o n e only fit (reply.Got v) h made = absurd (false≢true (only (reply.Got v) h))
nothing_replies p f s o n e only fit (reply.Made v) h made = absurd (false≢true (only (reply.Made v) h))
nothing_replies p f s o n e only fit (reply.Began thread) h made = fit
nothing_replies p f s o n e only fit (reply.Waits count) h made = absurd (false≢true (only (reply.Waits count) h))
nothing_replies p f s o n e only fit (reply.Raise kind) h made = tt

-- one that brings a value of this kind
value_replies : (p : PlainProgram) (f : Frame) (s : Shape) (o : Op) (n : ℕ) (wanted : Option Kind) → ((r : Reply) → fits_reply (declarations_of p) o r ≡ true → gets (declarations_of p) wanted r ≡ true)
    → ((v : Value) → is_made v ≡ true → fits_declared (declarations_of p) v wanted ≡ true → FitsShape p s (with_reply n (Some v) f)) → RepliesFit p f s o n
value_replies p f s o n wanted only fit reply.Unit h made = absurd (false≢true (only reply.Unit h))
value_replies p f s o n wanted only fit (reply.Got v) h made = fit v made (only (reply.Got v) h)
value_replies p f s o n wanted only fit (reply.Made v) h made = absurd (false≢true (only (reply.Made v) h))
value_replies p f s o n wanted only fit (reply.Began thread) h made = absurd (false≢true (only (reply.Began thread) h))
value_replies p f s o n wanted only fit (reply.Waits count) h made = absurd (false≢true (only (reply.Waits count) h))
value_replies p f s o n wanted only fit (reply.Raise kind) h made = tt

-- one that makes a value
new_replies : (p : PlainProgram) (f : Frame) (s : Shape) (o : Op) (n : ℕ) (test : Value → Bool) → ((r : Reply) → fits_reply (declarations_of p) o r ≡ true → (makes test r || raises fault.HeapFull r) ≡ true)
    → ((v : Value) → is_made v ≡ true → test v ≡ true → FitsShape p s (with_reply n (Some v) f)) → RepliesFit p f s o n
new_replies p f s o n test only fit reply.Unit h made = absurd (false≢true (only reply.Unit h))
new_replies p f s o n test only fit (reply.Got v) h made = absurd (false≢true (only (reply.Got v) h))
new_replies p f s o n test only fit (reply.Made v) h made = fit v made (of_false (test v) (only (reply.Made v) h))
  where
    of_false : (b : Bool) → (b || false) ≡ true → b ≡ true
    of_false true e = refl
    of_false false e = e
new_replies p f s o n test only fit (reply.Began thread) h made = absurd (false≢true (only (reply.Began thread) h))
new_replies p f s o n test only fit (reply.Waits count) h made = absurd (false≢true (only (reply.Waits count) h))
new_replies p f s o n test only fit (reply.Raise kind) h made = tt

wait_replies : (p : PlainProgram) (f : Frame) (s : Shape) (l : Lock) → FitsShape p s (with_reply 1 None f) → RepliesFit p f s (op.Wait l) 1
wait_replies p f s l fit reply.Unit h made = absurd (false≢true h)
wait_replies p f s l fit (reply.Got v) h made = absurd (false≢true h)
wait_replies p f s l fit (reply.Made v) h made = absurd (false≢true h)
wait_replies p f s l fit (reply.Began thread) h made = absurd (false≢true h)
wait_replies p f s l fit (reply.Waits count) h made = fit
wait_replies p f s l fit (reply.Raise kind) h made = tt

pub asks_nothing : (p : PlainProgram) (f : Frame) (s : Shape) (o : Op) (n : ℕ) → is_made_op p o ≡ true → unit_outcome o ≡ Completes None
    → ((r : Reply) → fits_reply (declarations_of p) o r ≡ true → is_plain_reply r ≡ true) → FitsShape p s (with_reply n None f) → AskFits p f s o n
asks_nothing p f s o n made e only fit = (made, nothing_replies p f s o n e only fit)

pub asks_value : (p : PlainProgram) (f : Frame) (s : Shape) (o : Op) (n : ℕ) → is_made_op p o ≡ true → (wanted : Option Kind)
    → ((r : Reply) → fits_reply (declarations_of p) o r ≡ true → gets (declarations_of p) wanted r ≡ true)
    → ((v : Value) → is_made v ≡ true → fits_declared (declarations_of p) v wanted ≡ true → FitsShape p s (with_reply n (Some v) f)) → AskFits p f s o n
asks_value p f s o n made wanted only fit = (made, value_replies p f s o n wanted only fit)

pub asks_new : (p : PlainProgram) (f : Frame) (s : Shape) (o : Op) (n : ℕ) → is_made_op p o ≡ true → (test : Value → Bool)
    → ((r : Reply) → fits_reply (declarations_of p) o r ≡ true → (makes test r || raises fault.HeapFull r) ≡ true)
    → ((v : Value) → is_made v ≡ true → test v ≡ true → FitsShape p s (with_reply n (Some v) f)) → AskFits p f s o n
asks_new p f s o n made test only fit = (made, new_replies p f s o n test only fit)

pub asks_wait : (p : PlainProgram) (f : Frame) (s : Shape) (l : Lock) → FitsShape p s (with_reply 1 None f) → AskFits p f s (op.Wait l) 1
asks_wait p f s l fit = (refl, wait_replies p f s l fit)

-- ---- calls

-- the arguments of a call are of the kinds that the method takes, and the frame fits the shape after it with what is given back
pub record CallFits (p : PlainProgram) (f : Frame) (s : Shape) (callee : ℕ) : Type 0 where
  pub method : PlainMethod
  pub is : method_at p callee ≡ Some method
  pub arguments : FitsKinds p (reverse (take (arity_of method) f.stack)) (parameters method)
  pub behind : (given : Option Value) → GivenFits p given method.gives → FitsShape p s (next f (with_given given (drop (arity_of method) f.stack)))

-- ---- all actions

abbrev pub Agrees : PlainProgram → Frame → Flow → Action → Type 0
Agrees p f Refused a = Unit {0}
Agrees p f (Next s) (Goes g) = Moves p f g (f.place + 1) s
Agrees p f (Next s) (Asks o n) = AskFits p f s o n
Agrees p f (Next s) (Fails kind) = Unit {0}
Agrees p f (Next s) (Calls m l) = CallFits p f s m
Agrees p f (Next s) (Gives given) = ⊥
Agrees p f (Next s) Undefined = ⊥
Agrees p f (JumpFlow to s) (Goes g) = Moves p f g to s
Agrees p f (JumpFlow to s) _ = ⊥
Agrees p f (Branch to s) (Goes g) = Moves p f g to s ⊎ Moves p f g (f.place + 1) s
Agrees p f (Branch to s) _ = ⊥
Agrees p f Leaves (Gives given) = GivenFits p given (given_kind (method_at p f.method))
Agrees p f Leaves (Fails kind) = Unit {0}
Agrees p f Leaves _ = ⊥

-- ---- frames

pub goes : (p : PlainProgram) (f : Frame) (s : Shape) (stack : List Value) (kinds : List Kind) → FitsShape p s f → FitsKinds p stack kinds → Moves p f (next f stack) (f.place + 1) (with_stack s kinds)
goes p f s stack kinds fit more = record { method = refl; lock = refl; place_is = refl; fit = record { stack = more; locals = fit.locals } }

pub branches : (p : PlainProgram) (b : Bool) (f : Frame) (to : ℕ) (s : Shape) (stack : List Value) (kinds : List Kind) → FitsShape p s f → FitsKinds p stack kinds → Agrees p f (Branch to (with_stack s kinds)) (Goes (branch b f to stack))
branches p true f to s stack kinds fit more = inl (record { method = refl; lock = refl; place_is = refl; fit = record { stack = more; locals = fit.locals } })
branches p false f to s stack kinds fit more = inr (goes p f s stack kinds fit more)

-- the frame after the reply, where so many operands are gone
pub replied : (p : PlainProgram) (f : Frame) (s : Shape) (n : ℕ) (brought : Option Value) (rest : List Value) (kinds : List Kind) → FitsShape p s f → drop n f.stack ≡ rest → FitsKinds p (with_given brought rest) kinds
    → FitsShape p (with_stack s kinds) (with_reply n brought f)
replied p f s n brought rest kinds fit e more = record { stack = subst (λ (st : List Value). FitsKinds p (with_given brought st) kinds) (sym e) more; locals = fit.locals }
