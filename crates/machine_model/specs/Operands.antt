-- Operands, and what goes on with them: an instruction that misses one, or finds one of another kind, is Undefined.
use Rattle.std.specs.Prelude.{ℕ, ◌+◌, Bool, if◌then◌else◌, nat_lt, ℤ, pos, negsuc, List, [], ◌∷◌, Option, Some, None, slice_set}
use Rattle.vm_model.specs.declared.value.Value.{Value}
use Rattle.vm_model.specs.declared.value.Value.TheVariants as value
use Rattle.vm_model.specs.declared.value.Lock.{Lock}
use Rattle.vm_model.specs.declared.value.Lock.TheVariants as lock
use Rattle.vm_model.specs.declared.value.ObjRef.{ObjRef}
use Rattle.vm_model.specs.declared.op.Op.{Op}
use Rattle.vm_model.specs.declared.op.Piece.{Piece}
use Rattle.vm_model.specs.declared.op.Piece.TheVariants as piece
use Rattle.vm_model.specs.declared.ends.FaultKind.{FaultKind}
use Rattle.vm_model.specs.declared.ends.FaultKind.TheVariants as fault
use Rattle.machine_model.specs.Frames.{Frame}

-- what the instruction at a frame's place does
pub data Action : Type 0 where
  -- a step of the thread alone, after which the frame is this one
  Goes : Frame → Action
  -- a call of that method, whose receiver and arguments are on the stack; a synchronized one enters the lock first
  Calls : ℕ → Option Lock → Action
  -- the frame gives back this value, or none
  Gives : Option Value → Action
  -- an operation, and how many operands it takes once the reply is there
  Asks : Op → ℕ → Action
  -- a fault
  Fails : FaultKind → Action
  -- an operand is missing or of another kind, which verified code never meets
  Undefined : Action

-- ---- the operands of a stack

-- the top of a stack and what is below it
abbrev pub top_of : List Value → Option (Value × List Value)
top_of [] = None
top_of (v ∷ rest) = Some (v, rest)

abbrev pub int_of : Value → Option ℤ
int_of (value.Int n) = Some n
int_of value.Null = None
int_of (value.Obj id class) = None
int_of (value.Arr id len) = None
int_of (value.Text text) = None
int_of value.Stream = None

abbrev pub int_on : Option ℤ → List Value → Option (ℤ × List Value)
int_on None rest = None
int_on (Some n) rest = Some (n, rest)

-- a number on top of a stack, and what is below it
abbrev pub top_int_of : List Value → Option (ℤ × List Value)
top_int_of [] = None
top_int_of (v ∷ rest) = int_on (int_of v) rest

abbrev pub on_any : Option (Value × List Value) → (Value → List Value → Action) → Action
on_any None go = Undefined
on_any (Some taken) go = go taken.0 taken.1

abbrev pub on_int : Option (ℤ × List Value) → (ℤ → List Value → Action) → Action
on_int None go = Undefined
on_int (Some taken) go = go taken.0 taken.1

-- the second operand is below the first, which is on top
abbrev pub on_two : List Value → (Value → Value → List Value → Action) → Action
on_two stack go = on_any (top_of stack) (λ w rest. on_any (top_of rest) (λ v rest'. go v w rest'))

abbrev pub on_ints : List Value → (ℤ → ℤ → List Value → Action) → Action
on_ints stack go = on_int (top_int_of stack) (λ y rest. on_int (top_int_of rest) (λ x rest'. go x y rest'))

abbrev pub on_number : Option ℤ → (ℤ → Action) → Action
on_number None go = Undefined
on_number (Some n) go = go n

abbrev pub int_in : Option Value → Option ℤ
int_in None = None
int_in (Some v) = int_of v

abbrev pub on_local : Option Value → (Value → Action) → Action
on_local None go = Undefined
on_local (Some v) go = go v

-- ---- references

-- an object, or the fault NullPointer
abbrev pub as_object : Value → (ObjRef → Action) → Action
as_object (value.Int n) go = Undefined
as_object value.Null go = Fails fault.NullPointer
as_object (value.Obj id class) go = go (record { id = id; class = class })
as_object (value.Arr id len) go = Undefined
as_object (value.Text text) go = Undefined
as_object value.Stream go = Undefined

-- an object or an array, or the fault NullPointer
abbrev pub as_instance : Value → Action → Action
as_instance (value.Int n) go = Undefined
as_instance value.Null go = Fails fault.NullPointer
as_instance (value.Obj id class) go = go
as_instance (value.Arr id len) go = go
as_instance (value.Text text) go = Undefined
as_instance value.Stream go = Undefined

-- an array and its length, or the fault NullPointer
abbrev pub as_array : Value → (ℕ → ℕ → Action) → Action
as_array (value.Int n) go = Undefined
as_array value.Null go = Fails fault.NullPointer
as_array (value.Obj id class) go = Undefined
as_array (value.Arr id len) go = go id len
as_array (value.Text text) go = Undefined
as_array value.Stream go = Undefined

-- the lock of an object or an array, or the fault NullPointer
abbrev pub as_lock : Value → (Lock → Action) → Action
as_lock (value.Int n) go = Undefined
as_lock value.Null go = Fails fault.NullPointer
as_lock (value.Obj id class) go = go (lock.Object id)
as_lock (value.Arr id len) go = go (lock.Object id)
as_lock (value.Text text) go = Undefined
as_lock value.Stream go = Undefined

-- the stream, or the fault NullPointer
abbrev pub as_stream : Value → Action → Action
as_stream (value.Int n) go = Undefined
as_stream value.Null go = Fails fault.NullPointer
as_stream (value.Obj id class) go = Undefined
as_stream (value.Arr id len) go = Undefined
as_stream (value.Text text) go = Undefined
as_stream value.Stream go = go

-- a text constant or null, as it is printed
abbrev pub as_text : Value → (Piece → Action) → Action
as_text (value.Int n) go = Undefined
as_text value.Null go = go piece.Null
as_text (value.Obj id class) go = Undefined
as_text (value.Arr id len) go = Undefined
as_text (value.Text text) go = go (piece.Text text)
as_text value.Stream go = Undefined

abbrev pub within : ℕ → ℕ → (ℕ → Action) → Action
within n len go = if nat_lt n len then go n else Fails fault.ArrayIndex

-- an index of an array of that length, or the fault ArrayIndex
abbrev pub as_index : ℤ → ℕ → (ℕ → Action) → Action
as_index (pos n) len go = within n len go
as_index (negsuc n) len go = Fails fault.ArrayIndex

-- a length of a new array, or the fault NegativeSize
abbrev pub as_length : ℤ → (ℕ → Action) → Action
as_length (pos n) go = go n
as_length (negsuc n) go = Fails fault.NegativeSize

-- ---- frames

-- the frame at the next place, with this stack
abbrev pub next : Frame → List Value → Frame
next f stack = record { method = f.method; place = f.place + 1; locals = f.locals; stack = stack; lock = f.lock }

-- the frame at that place, with this stack
abbrev pub jump : Frame → ℕ → List Value → Frame
jump f to stack = record { method = f.method; place = to; locals = f.locals; stack = stack; lock = f.lock }

-- at that place where the test holds, else at the next one
abbrev pub branch : Bool → Frame → ℕ → List Value → Frame
branch holds f to stack = if holds then jump f to stack else next f stack

-- the frame at the next place, with this stack and one local written
abbrev pub store : Frame → ℕ → Value → List Value → Frame
store f i v stack = record { method = f.method; place = f.place + 1; locals = slice_set f.locals i v; stack = stack; lock = f.lock }
