-- Shapes: the kinds of the operands and the locals at each instruction that is reached, and when a table of them is closed.
use Rattle.std.specs.Prelude.{◌≡◌, ℕ, ◌+◌, ◌-◌, ◌==◌, ◌≤◌, Bool, true, false, ◌&&◌, not, if◌then◌else◌, IsTrue, List, [], ◌∷◌, ◌++◌, length, reverse, map, replicate, Option, Some, None, slice_get, slice_set, unwrap_or}
use Rattle.std.specs.List.{list_any}
use Rattle.vm_model.specs.declared.limits.TheConstants.{MOST_OPERANDS}
use Rattle.vm_model.specs.declared.value.Kind.{Kind}
use Rattle.vm_model.specs.declared.value.Kind.TheVariants as kind
use Rattle.vm_model.specs.declared.instr.Instr.{Instr}
use Rattle.vm_model.specs.declared.instr.Instr.TheVariants as instr
use Rattle.vm_model.specs.Program.{PlainMethod, PlainProgram, instr_at, locals_of, method_at}
use Rattle.built_in_classes.specs.declared.numbers.TheConstants.{OBJECT, PRINT_STREAM, RUNNABLE, STRING, THREAD, THROWABLE}
use Rattle.machine_model.specs.Declarations.{declarations_of}
use Rattle.machine_model.specs.Kinds.{chain, field_kinds, is_args, is_assignable, static_kind}

-- the kinds of the operands, the top first, and of the locals, where None is a local that isn't set
pub record Shape : Type 0 where
  pub stack : List Kind
  pub locals : List (Option Kind)

-- for each method, a shape for each instruction that is reached
abbrev pub Table : Type 0
Table = List (List (Option Shape))

abbrev pub found : Option (Option Shape) → Option Shape
found None = None
found (Some s) = s

abbrev pub shape_in : Option (List (Option Shape)) → ℕ → Option Shape
shape_in None place = None
shape_in (Some shapes) place = found (slice_get shapes place)

abbrev pub shape_at : Table → ℕ → ℕ → Option Shape
shape_at table method place = shape_in (slice_get table method) place

-- ---- kinds

abbrev pub is_int : Kind → Bool
is_int kind.Int = true
is_int kind.Null = false
is_int (kind.Ref c) = false
is_int kind.Arr = false
is_int kind.Args = false

-- what null tests and comparisons of references take
abbrev pub is_reference : Kind → Bool
is_reference k = not (is_int k) && not (is_args k)

abbrev pub is_array : Kind → Bool
is_array kind.Int = false
is_array kind.Null = true
is_array (kind.Ref c) = false
is_array kind.Arr = true
is_array kind.Args = false

-- ---- what an instruction does to a shape

pub data Flow : Type 0 where
  -- on to the next instruction
  Next : Shape → Flow
  -- to that instruction
  Jump : ℕ → Shape → Flow
  -- to either
  Branch : ℕ → Shape → Flow
  -- out of the method
  Leaves : Flow
  -- an operand is missing or of another kind, or a local isn't set
  Refused : Flow

abbrev pub on_kind : List Kind → (Kind → List Kind → Flow) → Flow
on_kind [] go = Refused
on_kind (k ∷ rest) go = go k rest

abbrev pub where_true : Bool → Flow → Flow
where_true test go = if test then go else Refused

-- an operand that passes a test
abbrev pub on_such : (Kind → Bool) → List Kind → (List Kind → Flow) → Flow
on_such test stack go = on_kind stack (λ k rest. where_true (test k) (go rest))

abbrev pub on_int : List Kind → (List Kind → Flow) → Flow
on_int stack go = on_such is_int stack go

abbrev pub on_ints : List Kind → (List Kind → Flow) → Flow
on_ints stack go = on_int stack (λ rest. on_int rest go)

-- an operand that may stand for this kind
abbrev pub on_assignable : PlainProgram → Kind → List Kind → (List Kind → Flow) → Flow
on_assignable p wanted stack go = on_such (λ k. is_assignable (declarations_of p) k wanted) stack go

-- operands that may stand for these kinds, the first of which is on top
abbrev pub on_all : PlainProgram → List Kind → List Kind → (List Kind → Flow) → Flow
on_all p [] stack go = go stack
on_all p (wanted ∷ more) stack go = on_assignable p wanted stack (λ rest. on_all p more rest go)

abbrev pub on_set : Option (Option Kind) → (Kind → Flow) → Flow
on_set None go = Refused
on_set (Some None) go = Refused
on_set (Some (Some k)) go = go k

abbrev pub on_place : Option (Option Kind) → Flow → Flow
on_place None go = Refused
on_place (Some k) go = go

abbrev pub on_declared : Option Kind → (Kind → Flow) → Flow
on_declared None go = Refused
on_declared (Some k) go = go k

abbrev pub with_stack : Shape → List Kind → Shape
with_stack s stack = record { stack = stack; locals = s.locals }

abbrev pub with_local : Shape → List Kind → ℕ → Kind → Shape
with_local s stack i k = record { stack = stack; locals = slice_set s.locals i (Some k) }

abbrev pub with_kind : Option Kind → List Kind → List Kind
with_kind None stack = stack
with_kind (Some k) stack = k ∷ stack

-- a call: the arguments, of which the last one is on top, then the receiver, if there is one
abbrev pub flow_call : PlainProgram → List Kind → Option PlainMethod → Shape → Flow
flow_call p receiver None s = Refused
flow_call p receiver (Some m) s = on_all p (reverse m.params ++ receiver) s.stack (λ rest. Next (with_stack s (with_kind m.gives rest)))

abbrev pub receiver_of : Option PlainMethod → List Kind
receiver_of None = []
receiver_of (Some m) = kind.Ref m.class ∷ []

-- a call by this kind of instruction fits the method
abbrev pub is_called_so : Bool → Option PlainMethod → Bool
is_called_so is_static None = false
is_called_so is_static (Some m) = if is_static then m.is_static else not m.is_static

abbrev pub given_kind : Option PlainMethod → Option Kind
given_kind None = None
given_kind (Some m) = m.gives

abbrev pub flow_return : PlainProgram → Option Kind → Option Kind → Flow
flow_return p None None = Leaves
flow_return p None (Some k) = Refused
flow_return p (Some wanted) None = Refused
flow_return p (Some wanted) (Some k) = where_true (is_assignable (declarations_of p) k wanted) Leaves

-- what an instruction of this method does to a shape
abbrev pub flow : PlainProgram → ℕ → Instr → Shape → Flow
flow p m instr.Nop s = Next s
flow p m (instr.Push n) s = Next (with_stack s (kind.Int ∷ s.stack))
flow p m (instr.PushText text) s = Next (with_stack s (kind.Ref STRING ∷ s.stack))
flow p m instr.PushNull s = Next (with_stack s (kind.Null ∷ s.stack))
flow p m (instr.Iload i) s = on_set (slice_get s.locals i) (λ k. where_true (is_int k) (Next (with_stack s (kind.Int ∷ s.stack))))
flow p m (instr.Istore i) s = on_int s.stack (λ rest. on_place (slice_get s.locals i) (Next (with_local s rest i kind.Int)))
flow p m (instr.Aload i) s = on_set (slice_get s.locals i) (λ k. where_true (not (is_int k)) (Next (with_stack s (k ∷ s.stack))))
flow p m (instr.Astore i) s = on_kind s.stack (λ k rest. where_true (not (is_int k)) (on_place (slice_get s.locals i) (Next (with_local s rest i k))))
flow p m (instr.Iinc i by) s = on_set (slice_get s.locals i) (λ k. where_true (is_int k) (Next s))
flow p m instr.Pop s = on_kind s.stack (λ k rest. Next (with_stack s rest))
flow p m instr.Pop2 s = on_kind s.stack (λ l rest. on_kind rest (λ k rest'. Next (with_stack s rest')))
flow p m instr.Dup s = on_kind s.stack (λ k rest. Next (with_stack s (k ∷ k ∷ rest)))
flow p m instr.DupX1 s = on_kind s.stack (λ l rest. on_kind rest (λ k rest'. Next (with_stack s (l ∷ k ∷ l ∷ rest'))))
flow p m instr.DupX2 s = on_kind s.stack (λ l rest. on_kind rest (λ k rest'. on_kind rest' (λ j rest''. Next (with_stack s (l ∷ k ∷ j ∷ l ∷ rest'')))))
flow p m instr.Dup2 s = on_kind s.stack (λ l rest. on_kind rest (λ k rest'. Next (with_stack s (l ∷ k ∷ l ∷ k ∷ rest'))))
flow p m instr.Swap s = on_kind s.stack (λ l rest. on_kind rest (λ k rest'. Next (with_stack s (k ∷ l ∷ rest'))))
flow p m instr.Iadd s = on_ints s.stack (λ rest. Next (with_stack s (kind.Int ∷ rest)))
flow p m instr.Isub s = on_ints s.stack (λ rest. Next (with_stack s (kind.Int ∷ rest)))
flow p m instr.Imul s = on_ints s.stack (λ rest. Next (with_stack s (kind.Int ∷ rest)))
flow p m instr.Ineg s = on_int s.stack (λ rest. Next (with_stack s (kind.Int ∷ rest)))
flow p m instr.Idiv s = on_ints s.stack (λ rest. Next (with_stack s (kind.Int ∷ rest)))
flow p m instr.Irem s = on_ints s.stack (λ rest. Next (with_stack s (kind.Int ∷ rest)))
flow p m instr.Ishl s = on_ints s.stack (λ rest. Next (with_stack s (kind.Int ∷ rest)))
flow p m instr.Ishr s = on_ints s.stack (λ rest. Next (with_stack s (kind.Int ∷ rest)))
flow p m instr.Iushr s = on_ints s.stack (λ rest. Next (with_stack s (kind.Int ∷ rest)))
flow p m instr.Iand s = on_ints s.stack (λ rest. Next (with_stack s (kind.Int ∷ rest)))
flow p m instr.Ior s = on_ints s.stack (λ rest. Next (with_stack s (kind.Int ∷ rest)))
flow p m instr.Ixor s = on_ints s.stack (λ rest. Next (with_stack s (kind.Int ∷ rest)))
flow p m (instr.Ifeq to) s = on_int s.stack (λ rest. Branch to (with_stack s rest))
flow p m (instr.Ifne to) s = on_int s.stack (λ rest. Branch to (with_stack s rest))
flow p m (instr.Iflt to) s = on_int s.stack (λ rest. Branch to (with_stack s rest))
flow p m (instr.Ifge to) s = on_int s.stack (λ rest. Branch to (with_stack s rest))
flow p m (instr.Ifgt to) s = on_int s.stack (λ rest. Branch to (with_stack s rest))
flow p m (instr.Ifle to) s = on_int s.stack (λ rest. Branch to (with_stack s rest))
flow p m (instr.IfIcmpeq to) s = on_ints s.stack (λ rest. Branch to (with_stack s rest))
flow p m (instr.IfIcmpne to) s = on_ints s.stack (λ rest. Branch to (with_stack s rest))
flow p m (instr.IfIcmplt to) s = on_ints s.stack (λ rest. Branch to (with_stack s rest))
flow p m (instr.IfIcmpge to) s = on_ints s.stack (λ rest. Branch to (with_stack s rest))
flow p m (instr.IfIcmpgt to) s = on_ints s.stack (λ rest. Branch to (with_stack s rest))
flow p m (instr.IfIcmple to) s = on_ints s.stack (λ rest. Branch to (with_stack s rest))
flow p m (instr.IfAcmpeq to) s = on_such is_reference s.stack (λ rest. on_such is_reference rest (λ rest'. Branch to (with_stack s rest')))
flow p m (instr.IfAcmpne to) s = on_such is_reference s.stack (λ rest. on_such is_reference rest (λ rest'. Branch to (with_stack s rest')))
flow p m (instr.Ifnull to) s = on_such is_reference s.stack (λ rest. Branch to (with_stack s rest))
flow p m (instr.Ifnonnull to) s = on_such is_reference s.stack (λ rest. Branch to (with_stack s rest))
flow p m (instr.Goto to) s = Jump to s
flow p m instr.ArrayLength s = on_such is_array s.stack (λ rest. Next (with_stack s (kind.Int ∷ rest)))
flow p m instr.Out s = Next (with_stack s (kind.Ref PRINT_STREAM ∷ s.stack))
flow p m (instr.GetStatic slot) s = on_declared (static_kind (declarations_of p) slot) (λ k. Next (with_stack s (k ∷ s.stack)))
flow p m (instr.PutStatic slot) s = on_declared (static_kind (declarations_of p) slot) (λ k. on_assignable p k s.stack (λ rest. Next (with_stack s rest)))
flow p m (instr.GetField class place) s =
    on_declared (slice_get (field_kinds (declarations_of p) class) place) (λ k. on_assignable p (kind.Ref class) s.stack (λ rest. Next (with_stack s (k ∷ rest))))
flow p m (instr.PutField class place) s =
    on_declared (slice_get (field_kinds (declarations_of p) class) place)
    (λ k. on_all p (k ∷ kind.Ref class ∷ []) s.stack (λ rest. Next (with_stack s rest)))
flow p m instr.Iaload s = on_int s.stack (λ rest. on_such is_array rest (λ rest'. Next (with_stack s (kind.Int ∷ rest'))))
flow p m instr.Iastore s = on_ints s.stack (λ rest. on_such is_array rest (λ rest'. Next (with_stack s rest')))
flow p m (instr.New class) s = Next (with_stack s (kind.Ref class ∷ s.stack))
flow p m instr.NewArray s = on_int s.stack (λ rest. Next (with_stack s (kind.Arr ∷ rest)))
flow p m instr.MonitorEnter s = on_assignable p (kind.Ref OBJECT) s.stack (λ rest. Next (with_stack s rest))
flow p m instr.MonitorExit s = on_assignable p (kind.Ref OBJECT) s.stack (λ rest. Next (with_stack s rest))
flow p m instr.Athrow s = on_assignable p (kind.Ref THROWABLE) s.stack (λ rest. Leaves)
flow p m (instr.InvokeStatic callee) s = where_true (is_called_so true (method_at p callee)) (flow_call p [] (method_at p callee) s)
flow p m (instr.InvokeVirtual callee) s = where_true (is_called_so false (method_at p callee)) (flow_call p (receiver_of (method_at p callee)) (method_at p callee) s)
flow p m (instr.InvokeSpecial callee) s = where_true (is_called_so false (method_at p callee)) (flow_call p (receiver_of (method_at p callee)) (method_at p callee) s)
flow p m (instr.RunOf class) s = on_assignable p (kind.Ref class) s.stack (λ rest. Next (with_stack s rest))
flow p m instr.Wait s = on_assignable p (kind.Ref OBJECT) s.stack (λ rest. Next (with_stack s rest))
flow p m instr.Notify s = on_assignable p (kind.Ref OBJECT) s.stack (λ rest. Next (with_stack s rest))
flow p m instr.NotifyAll s = on_assignable p (kind.Ref OBJECT) s.stack (λ rest. Next (with_stack s rest))
flow p m instr.Start s = on_assignable p (kind.Ref THREAD) s.stack (λ rest. Next (with_stack s rest))
flow p m instr.Join s = on_assignable p (kind.Ref THREAD) s.stack (λ rest. Next (with_stack s rest))
flow p m instr.Yield s = Next s
flow p m (instr.Init class true) s = on_all p (kind.Ref STRING ∷ kind.Ref class ∷ []) s.stack (λ rest. Next (with_stack s rest))
flow p m (instr.Init class false) s = on_assignable p (kind.Ref class) s.stack (λ rest. Next (with_stack s rest))
flow p m instr.InitRunnable s = on_all p (kind.Ref RUNNABLE ∷ kind.Ref THREAD ∷ []) s.stack (λ rest. Next (with_stack s rest))
flow p m instr.Println s = on_assignable p (kind.Ref PRINT_STREAM) s.stack (λ rest. Next (with_stack s rest))
flow p m (instr.PrintInt newline) s = on_int s.stack (λ rest. on_assignable p (kind.Ref PRINT_STREAM) rest (λ rest'. Next (with_stack s rest')))
flow p m (instr.PrintText newline) s = on_all p (kind.Ref STRING ∷ kind.Ref PRINT_STREAM ∷ []) s.stack (λ rest. Next (with_stack s rest))
flow p m instr.Return s = flow_return p (given_kind (method_at p m)) None
flow p m instr.Ireturn s = on_int s.stack (λ rest. flow_return p (given_kind (method_at p m)) (Some kind.Int))
flow p m instr.Areturn s = on_kind s.stack (λ k rest. where_true (not (is_int k)) (flow_return p (given_kind (method_at p m)) (Some k)))

-- ---- merging

-- Merging the first kind into the second leaves the second as it is: they are equal, or the first is null, or a class that
-- has the second among its supers, or an array where the second is Object.
abbrev pub is_subsumed : PlainProgram → Kind → Kind → Bool
is_subsumed p kind.Int k = is_int k
is_subsumed p kind.Null kind.Int = false
is_subsumed p kind.Null kind.Null = true
is_subsumed p kind.Null (kind.Ref d) = true
is_subsumed p kind.Null kind.Arr = true
is_subsumed p kind.Null kind.Args = false
is_subsumed p (kind.Ref c) kind.Int = false
is_subsumed p (kind.Ref c) kind.Null = false
is_subsumed p (kind.Ref c) (kind.Ref d) = list_any (λ s. s == d) (chain (declarations_of p) c)
is_subsumed p (kind.Ref c) kind.Arr = false
is_subsumed p (kind.Ref c) kind.Args = false
is_subsumed p kind.Arr kind.Int = false
is_subsumed p kind.Arr kind.Null = false
is_subsumed p kind.Arr (kind.Ref d) = d == OBJECT
is_subsumed p kind.Arr kind.Arr = true
is_subsumed p kind.Arr kind.Args = false
is_subsumed p kind.Args k = is_args k

-- a stack of equal depth that takes each kind
abbrev pub StackTakes : PlainProgram → List Kind → List Kind → Type 0
StackTakes p [] [] = Unit {0}
StackTakes p [] (l ∷ ls) = ⊥
StackTakes p (k ∷ ks) [] = ⊥
StackTakes p (k ∷ ks) (l ∷ ls) = IsTrue (is_subsumed p k l) × StackTakes p ks ls

-- a local that isn't set takes everything
abbrev pub LocalTakes : PlainProgram → Option Kind → Option Kind → Type 0
LocalTakes p k None = Unit {0}
LocalTakes p None (Some l) = ⊥
LocalTakes p (Some k) (Some l) = IsTrue (is_subsumed p k l)

abbrev pub LocalsTake : PlainProgram → List (Option Kind) → List (Option Kind) → Type 0
LocalsTake p [] [] = Unit {0}
LocalsTake p [] (l ∷ ls) = ⊥
LocalsTake p (k ∷ ks) [] = ⊥
LocalsTake p (k ∷ ks) (l ∷ ls) = LocalTakes p k l × LocalsTake p ks ls

-- merging the first shape into the second leaves the second as it is
pub record Takes (p : PlainProgram) (new old : Shape) : Type 0 where
  pub stack : StackTakes p new.stack old.stack
  pub locals : LocalsTake p new.locals old.locals

abbrev pub TakesAt : PlainProgram → Shape → Option Shape → Type 0
TakesAt p s None = ⊥
TakesAt p s (Some t) = Takes p s t

-- ---- closed tables

-- the followers of an instruction take what it makes
abbrev pub Follows : PlainProgram → Table → ℕ → ℕ → Flow → Type 0
Follows p table m place (Next s) = TakesAt p s (shape_at table m (place + 1))
Follows p table m place (Jump to s) = TakesAt p s (shape_at table m to)
Follows p table m place (Branch to s) = TakesAt p s (shape_at table m (place + 1)) × TakesAt p s (shape_at table m to)
Follows p table m place Leaves = Unit {0}
Follows p table m place Refused = ⊥

abbrev pub FollowsAt : PlainProgram → Table → ℕ → ℕ → Shape → Option Instr → Type 0
FollowsAt p table m place s None = ⊥
FollowsAt p table m place s (Some i) = Follows p table m place (flow p m i s)

abbrev pub parameters : PlainMethod → List Kind
parameters m = (if m.is_static then [] else kind.Ref m.class ∷ []) ++ m.params

-- the shape with which a method begins: its receiver and its parameters, and the other locals not set
abbrev pub first_shape : PlainMethod → Shape
first_shape m = record { stack = []; locals = map Some (parameters m) ++ replicate (locals_of m - length (parameters m)) None }

pub record IsWithinLimits (m : PlainMethod) (s : Shape) : Type 0 where
  pub stack : length s.stack ≤ unwrap_or m.max_stack MOST_OPERANDS
  pub locals : length s.locals ≡ locals_of m

abbrev pub HasShapes : PlainProgram → Table → ℕ → Option PlainMethod → Type 0
HasShapes p table n None = Unit {0}
HasShapes p table n (Some m) =
    TakesAt p (first_shape m) (shape_at table n 0)
    × ((place : ℕ) (s : Shape) → shape_at table n place ≡ Some s → IsWithinLimits m s × FollowsAt p table n place s (instr_at p n place))

-- The table is closed: in each method the first instruction takes the parameters, the operands of each instruction with a
-- shape fit it, and what it makes is taken by each of its followers.
abbrev pub IsShapeTable : PlainProgram → Table → Type 0
IsShapeTable p table = (n : ℕ) → HasShapes p table n (method_at p n)

-- the program can be verified
abbrev pub IsVerified : PlainProgram → Type 0
IsVerified p = (table : Table) × IsShapeTable p table
