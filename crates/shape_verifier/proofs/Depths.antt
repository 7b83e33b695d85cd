-- How many operands each instruction takes.
use Rattle.std.proofs.Common.{◌≡◌, ℕ, suc, ◌+◌, ◌<◌, ◌≤◌, Bool, true, false, List, [], ◌∷◌, ◌++◌, length, reverse, Option, Some, None, Ok, Err, refl, ◌∙◌, ap, subst, arith, length-append}
use Rattle.std.specs.Prelude.{◌||◌, if◌then◌else◌, nat_lt, not, slice_get, Result}
use Rattle.std.proofs.lemmas.List.{length-reverse}
use Rattle.vm_model.specs.declared.value.Kind.{Kind}
use Rattle.vm_model.specs.declared.value.Kind.TheVariants as kind
use Rattle.vm_model.specs.declared.instr.Instr.{Instr}
use Rattle.vm_model.specs.declared.instr.Instr.TheVariants as instr
use Rattle.vm_model.specs.Program.{PlainMethod, PlainProgram, method_at}
use Rattle.machine_model.specs.Declarations.{declarations_of}
use Rattle.machine_model.specs.Kinds.{is_assignable, field_kinds, static_kind}
use Rattle.machine_model.specs.Shapes.{Shape, Flow, Next, Jump, Branch, Leaves, Refused, flow, flow_call, flow_return, given_kind, is_array, is_called_so, is_int, is_reference, on_all, on_assignable, on_declared, on_int, on_ints, on_kind, on_place, on_set, on_such, receiver_of, where_true, with_kind, with_local, with_stack}
use Rattle.shape_lattice.specs.declared.fault.ShapeKind.{ShapeKind}
use Rattle.shape_lattice.specs.declared.fault.ShapeKind.TheVariants as fault
use Rattle.shape_verifier.specs.Judging.{arguments_of, bounded, is_past, is_unset, judged, operands_of, refusal, refused_operand, stack_limit}
use Rattle.shape_verifier.specs.Operands.{over}
use Rattle.shape_laws.proofs.Tests.{below_true, true_below}

-- so many operands are taken: with fewer the flow is refused, and what is below them stays as it is
record TakesSo (count : ℕ) (go : List Kind → Flow) : Type 0 where
  short : (ks : List Kind) → length ks < count → go ks ≡ Refused
  below : (ks below : List Kind) → count ≤ length ks → go (ks ++ below) ≡ over below (go ks)

-- ---- one lemma for each way to take an operand

refuses : (count : ℕ) → TakesSo count (λ ks. Refused)
refuses count = record { short = λ ks low. refl; below = λ ks below high. refl }

-- no operand is taken
goes : (go : List Kind → Flow) → ((ks below : List Kind) → go (ks ++ below) ≡ over below (go ks)) → TakesSo 0 go
goes go h = record { short = λ ks low. absurd (omega arith); below = λ ks below high. h ks below }

kind_takes : (count : ℕ) (go : Kind → List Kind → Flow) → ((k : Kind) → TakesSo count (go k)) → TakesSo (suc count) (λ ks. on_kind ks go)
kind_takes count go h = record { short = short; below = below }
  where
    short : (ks : List Kind) → length ks < suc count → on_kind ks go ≡ Refused
    short [] low = refl
    short (k ∷ ks) low = (h k).short ks (omega arith)

    below : (ks below : List Kind) → suc count ≤ length ks → on_kind (ks ++ below) go ≡ over below (on_kind ks go)
    below [] rest high = absurd (omega arith)
    below (k ∷ ks) rest high = (h k).below ks rest (omega arith)

true_takes : (count : ℕ) (b : Bool) (go : List Kind → Flow) → TakesSo count go → TakesSo count (λ ks. where_true b (go ks))
true_takes count true go h = h
true_takes count false go h = refuses count

such_takes : (test : Kind → Bool) (count : ℕ) (go : List Kind → Flow) → TakesSo count go → TakesSo (suc count) (λ ks. on_such test ks go)
such_takes test count go h = kind_takes count (λ k rest. where_true (test k) (go rest)) (λ k. true_takes count (test k) go h)

int_takes : (count : ℕ) (go : List Kind → Flow) → TakesSo count go → TakesSo (suc count) (λ ks. on_int ks go)
int_takes count go h = such_takes is_int count go h

ints_take : (count : ℕ) (go : List Kind → Flow) → TakesSo count go → TakesSo (suc (suc count)) (λ ks. on_ints ks go)
ints_take count go h = int_takes (suc count) (λ rest. on_int rest go) (int_takes count go h)

assignable_takes : (p : PlainProgram) (wanted : Kind) (count : ℕ) (go : List Kind → Flow) → TakesSo count go → TakesSo (suc count) (λ ks. on_assignable p wanted ks go)
assignable_takes p wanted count go h = such_takes (λ k. is_assignable (declarations_of p) k wanted) count go h

all_take : (p : PlainProgram) (wanted : List Kind) (go : List Kind → Flow) → TakesSo 0 go → TakesSo (length wanted) (λ ks. on_all p wanted ks go)
all_take p [] go h = h
all_take p (w ∷ wanted) go h = assignable_takes p w (length wanted) (λ rest. on_all p wanted rest go) (all_take p wanted go h)

set_takes : (count : ℕ) (o : Option (Option Kind)) (go : Kind → List Kind → Flow) → ((k : Kind) → TakesSo count (go k)) → TakesSo count (λ ks. on_set o (λ k. go k ks))
set_takes count None go h = refuses count
set_takes count (Some None) go h = refuses count
set_takes count (Some (Some k)) go h = h k

place_takes : (count : ℕ) (o : Option (Option Kind)) (go : List Kind → Flow) → TakesSo count go → TakesSo count (λ ks. on_place o (go ks))
place_takes count None go h = refuses count
place_takes count (Some k) go h = h

declared_takes : (count : ℕ) (o : Option Kind) (go : Kind → List Kind → Flow) → ((k : Kind) → TakesSo count (go k)) → TakesSo count (λ ks. on_declared o (λ k. go k ks))
declared_takes count None go h = refuses count
declared_takes count (Some k) go h = h k

-- two operands of any kind
two : (count : ℕ) (go : Kind → Kind → List Kind → Flow) → ((l k : Kind) → TakesSo count (go l k)) → TakesSo (suc (suc count)) (λ ks. on_kind ks (λ l rest. on_kind rest (λ k rest'. go l k rest')))
two count go each = kind_takes (suc count) (λ l rest. on_kind rest (λ k rest'. go l k rest')) (λ l. kind_takes count (go l) (each l))

-- what leaves the method leaves no operand
return_same : (p : PlainProgram) (wanted given : Option Kind) (below : List Kind) → flow_return p wanted given ≡ over below (flow_return p wanted given)
return_same p None None below = refl
return_same p None (Some k) below = refl
return_same p (Some w) None below = refl
return_same p (Some w) (Some k) below = by (is_assignable (declarations_of p) k w)
  where
    by : (b : Bool) → where_true b Leaves ≡ over below (where_true b Leaves)
    by true = refl
    by false = refl

module _ (p : PlainProgram) (n : ℕ) (s : Shape) where
  -- ---- forms of instructions

  number : TakesSo 1 (λ ks. on_int ks (λ rest. Next (with_stack s (kind.Int ∷ rest))))
  number = int_takes 0 _ (goes _ (λ ks below. refl))

  numbers : TakesSo 2 (λ ks. on_ints ks (λ rest. Next (with_stack s (kind.Int ∷ rest))))
  numbers = ints_take 0 _ (goes _ (λ ks below. refl))

  tested : (to : ℕ) → TakesSo 1 (λ ks. on_int ks (λ rest. Branch to (with_stack s rest)))
  tested to = int_takes 0 _ (goes _ (λ ks below. refl))

  compared : (to : ℕ) → TakesSo 2 (λ ks. on_ints ks (λ rest. Branch to (with_stack s rest)))
  compared to = ints_take 0 _ (goes _ (λ ks below. refl))

  tested_reference : (to : ℕ) → TakesSo 1 (λ ks. on_such is_reference ks (λ rest. Branch to (with_stack s rest)))
  tested_reference to = such_takes is_reference 0 _ (goes _ (λ ks below. refl))

  compared_references : (to : ℕ) → TakesSo 2 (λ ks. on_such is_reference ks (λ rest. on_such is_reference rest (λ rest'. Branch to (with_stack s rest'))))
  compared_references to = such_takes is_reference 1 _ (tested_reference to)

  taken : (wanted : Kind) → TakesSo 1 (λ ks. on_assignable p wanted ks (λ rest. Next (with_stack s rest)))
  taken wanted = assignable_takes p wanted 0 _ (goes _ (λ ks below. refl))

  all_taken : (wanted : List Kind) → TakesSo (length wanted) (λ ks. on_all p wanted ks (λ rest. Next (with_stack s rest)))
  all_taken wanted = all_take p wanted _ (goes _ (λ ks below. refl))

  -- a local is read
  read_takes : (i : ℕ) (test : Kind → Bool) (go : Kind → List Kind → Flow) → ((k : Kind) (ks below : List Kind) → go k (ks ++ below) ≡ over below (go k ks))
      → TakesSo 0 (λ ks. on_set (slice_get s.locals i) (λ k. where_true (test k) (go k ks)))
  read_takes i test go h = set_takes 0 (slice_get s.locals i) (λ k rest. where_true (test k) (go k rest)) (λ k. true_takes 0 (test k) (go k) (goes (go k) (h k)))

  -- a store into a local
  stored : (i : ℕ) (k : Kind) → TakesSo 0 (λ ks. on_place (slice_get s.locals i) (Next (with_local s ks i k)))
  stored i k = place_takes 0 (slice_get s.locals i) (λ ks. Next (with_local s ks i k)) (goes _ (λ ks below. refl))

  -- calls
  called : (receiver : List Kind) (m : PlainMethod) → TakesSo (length (reverse m.params ++ receiver)) (λ ks. flow_call p receiver (Some m) (with_stack s ks))
  called receiver m = all_take p (reverse m.params ++ receiver) (λ rest. Next (with_stack s (with_kind m.gives rest))) (goes _ (given m.gives))
    where
      given : (o : Option Kind) (ks below : List Kind) → Next (with_stack s (with_kind o (ks ++ below))) ≡ over below (Next (with_stack s (with_kind o ks)))
      given None ks below = refl
      given (Some k) ks below = refl

  called_alone : (o : Option PlainMethod) → TakesSo (arguments_of o) (λ ks. where_true (is_called_so true o) (flow_call p [] o (with_stack s ks)))
  called_alone None = refuses 0
  called_alone (Some m) = by m.is_static
    where
      by : (b : Bool) → TakesSo (if b then length m.params else length m.params + 1) (λ ks. where_true b (flow_call p [] (Some m) (with_stack s ks)))
      by true =
          let long : length (reverse m.params ++ []) ≡ length (reverse m.params) + length {A = Kind} [] = length-append (reverse m.params) [] in
          let same : length (reverse m.params) ≡ length m.params = length-reverse m.params in
          subst (λ (count : ℕ). TakesSo count (λ ks. flow_call p [] (Some m) (with_stack s ks))) (omega arith) (called [] m)
      by false = refuses (length m.params + 1)

  called_with : (o : Option PlainMethod) → TakesSo (arguments_of o) (λ ks. where_true (is_called_so false o) (flow_call p (receiver_of o) o (with_stack s ks)))
  called_with None = refuses 0
  called_with (Some m) = by m.is_static
    where
      by : (b : Bool) → TakesSo (if b then length m.params else length m.params + 1) (λ ks. where_true (not b) (flow_call p (kind.Ref m.class ∷ []) (Some m) (with_stack s ks)))
      by true = refuses (length m.params)
      by false =
          let long : length (reverse m.params ++ (kind.Ref m.class ∷ [])) ≡ length (reverse m.params) + length (kind.Ref m.class ∷ []) = length-append (reverse m.params) (kind.Ref m.class ∷ []) in
          let same : length (reverse m.params) ≡ length m.params = length-reverse m.params in
          subst (λ (count : ℕ). TakesSo count (λ ks. flow_call p (kind.Ref m.class ∷ []) (Some m) (with_stack s ks))) (omega arith) (called (kind.Ref m.class ∷ []) m)

  -- ---- one case for each instruction

  takes : (i : Instr) → TakesSo (operands_of p i) (λ ks. flow p n i (with_stack s ks))
  takes instr.Nop = goes _ (λ ks below. refl)
  takes (instr.Push x) = goes _ (λ ks below. refl)
  takes (instr.PushText text) = goes _ (λ ks below. refl)
  takes instr.PushNull = goes _ (λ ks below. refl)
  takes (instr.Iload i) = read_takes i is_int _ (λ k ks below. refl)
  takes (instr.Istore i) = int_takes 0 _ (stored i kind.Int)
  takes (instr.Aload i) = read_takes i (λ k. not (is_int k)) _ (λ k ks below. refl)
  takes (instr.Astore i) = kind_takes 0 _ (λ k. true_takes 0 (not (is_int k)) _ (stored i k))
  takes (instr.Iinc i by) = read_takes i is_int _ (λ k ks below. refl)
  takes instr.Pop = kind_takes 0 _ (λ k. goes _ (λ ks below. refl))
  takes instr.Pop2 = two 0 _ (λ l k. goes _ (λ ks below. refl))
  takes instr.Dup = kind_takes 0 _ (λ k. goes _ (λ ks below. refl))
  takes instr.DupX1 = two 0 _ (λ l k. goes _ (λ ks below. refl))
  takes instr.DupX2 = two 1 _ (λ l k. kind_takes 0 _ (λ j. goes _ (λ ks below. refl)))
  takes instr.Dup2 = two 0 _ (λ l k. goes _ (λ ks below. refl))
  takes instr.Swap = two 0 _ (λ l k. goes _ (λ ks below. refl))
  takes instr.Iadd = numbers
  takes instr.Isub = numbers
  takes instr.Imul = numbers
  takes instr.Ineg = number
  takes instr.Idiv = numbers
  takes instr.Irem = numbers
  takes instr.Ishl = numbers
  takes instr.Ishr = numbers
  takes instr.Iushr = numbers
  takes instr.Iand = numbers
  takes instr.Ior = numbers
  takes instr.Ixor = numbers
  takes (instr.Ifeq to) = tested to
  takes (instr.Ifne to) = tested to
  takes (instr.Iflt to) = tested to
  takes (instr.Ifge to) = tested to
  takes (instr.Ifgt to) = tested to
  takes (instr.Ifle to) = tested to
  takes (instr.IfIcmpeq to) = compared to
  takes (instr.IfIcmpne to) = compared to
  takes (instr.IfIcmplt to) = compared to
  takes (instr.IfIcmpge to) = compared to
  takes (instr.IfIcmpgt to) = compared to
  takes (instr.IfIcmple to) = compared to
  takes (instr.IfAcmpeq to) = compared_references to
  takes (instr.IfAcmpne to) = compared_references to
  takes (instr.Ifnull to) = tested_reference to
  takes (instr.Ifnonnull to) = tested_reference to
  takes (instr.Goto to) = goes _ (λ ks below. refl)
  takes instr.ArrayLength = such_takes is_array 0 _ (goes _ (λ ks below. refl))
  takes instr.Out = goes _ (λ ks below. refl)
  takes (instr.GetStatic slot) = declared_takes 0 (static_kind (declarations_of p) slot) _ (λ k. goes _ (λ ks below. refl))
  takes (instr.PutStatic slot) = declared_takes 1 (static_kind (declarations_of p) slot) _ (λ k. taken k)
  takes (instr.GetField class i) = declared_takes 1 (slice_get (field_kinds (declarations_of p) class) i) _ (λ k. assignable_takes p (kind.Ref class) 0 _ (goes _ (λ ks below. refl)))
  takes (instr.PutField class i) = declared_takes 2 (slice_get (field_kinds (declarations_of p) class) i) _ (λ k. all_taken (k ∷ kind.Ref class ∷ []))
  takes instr.Iaload = int_takes 1 _ (such_takes is_array 0 _ (goes _ (λ ks below. refl)))
  takes instr.Iastore = ints_take 1 _ (such_takes is_array 0 _ (goes _ (λ ks below. refl)))
  takes (instr.New class) = goes _ (λ ks below. refl)
  takes instr.NewArray = int_takes 0 _ (goes _ (λ ks below. refl))
  takes instr.MonitorEnter = taken (kind.Ref 0)
  takes instr.MonitorExit = taken (kind.Ref 0)
  takes instr.Athrow = assignable_takes p (kind.Ref 5) 0 _ (goes _ (λ ks below. refl))
  takes (instr.InvokeStatic callee) = called_alone (method_at p callee)
  takes (instr.InvokeVirtual callee) = called_with (method_at p callee)
  takes (instr.InvokeSpecial callee) = called_with (method_at p callee)
  takes (instr.RunOf class) = taken (kind.Ref class)
  takes instr.Wait = taken (kind.Ref 0)
  takes instr.Notify = taken (kind.Ref 0)
  takes instr.NotifyAll = taken (kind.Ref 0)
  takes instr.Start = taken (kind.Ref 1)
  takes instr.Join = taken (kind.Ref 1)
  takes instr.Yield = goes _ (λ ks below. refl)
  takes (instr.Init class true) = all_taken (kind.Ref 3 ∷ kind.Ref class ∷ [])
  takes (instr.Init class false) = taken (kind.Ref class)
  takes instr.InitRunnable = all_taken (kind.Ref 2 ∷ kind.Ref 1 ∷ [])
  takes instr.Println = taken (kind.Ref 4)
  takes (instr.PrintInt newline) = int_takes 1 _ (taken (kind.Ref 4))
  takes (instr.PrintText newline) = all_taken (kind.Ref 3 ∷ kind.Ref 4 ∷ [])
  takes instr.Return = goes _ (λ ks below. return_same p (given_kind (method_at p n)) None below)
  takes instr.Ireturn = int_takes 0 _ (goes _ (λ ks below. return_same p (given_kind (method_at p n)) (Some kind.Int) below))
  takes instr.Areturn = kind_takes 0 _ (λ k. true_takes 0 (not (is_int k)) _ (goes _ (λ ks below. return_same p (given_kind (method_at p n)) (Some k) below)))

-- ---- what is judged

-- an instruction with too few operands is refused for this
pub short_depth : (p : PlainProgram) (n place : ℕ) (m : PlainMethod) (i : Instr) (s : Shape) → length s.stack < operands_of p i → judged p n m place i s ≡ Err fault.Depth
short_depth p n place m i s low =
    ap (λ (f : Flow). bounded m place (refusal p i s) f) ((takes p n s i).short s.stack low)
    ∙ ap (λ (b : Bool). Err (if b then fault.Depth else if is_unset i s.locals then fault.Unset else refused_operand i s.stack)) (below_true (length s.stack) (operands_of p i) low)

limit_depth : ◌≡◌ {A = Result Flow ShapeKind} (Err fault.Limit) (Err fault.Depth) → ⊥
limit_depth e = cc

falls_depth : ◌≡◌ {A = Result Flow ShapeKind} (Err fault.FallsOff) (Err fault.Depth) → ⊥
falls_depth e = cc

going_depth : (f : Flow) (deep falls : Bool) → ◌≡◌ {A = Result Flow ShapeKind} (if deep then Err fault.Limit else if falls then Err fault.FallsOff else Ok f) (Err fault.Depth) → ⊥
going_depth f true falls e = limit_depth e
going_depth f false true e = falls_depth e
going_depth f false false e = cc

-- what goes on isn't refused for this
bounded_depth : (m : PlainMethod) (place : ℕ) (why : ShapeKind) (f : Flow) → bounded m place why f ≡ Err fault.Depth → why ≡ fault.Depth
bounded_depth m place why (Next s) e = absurd (going_depth (Next s) (nat_lt (stack_limit m) (length s.stack)) (is_past m (place + 1)) e)
bounded_depth m place why (Jump to s) e = absurd (going_depth (Jump to s) (nat_lt (stack_limit m) (length s.stack)) (is_past m to) e)
bounded_depth m place why (Branch to s) e = absurd (going_depth (Branch to s) (nat_lt (stack_limit m) (length s.stack)) (is_past m (place + 1) || is_past m to) e)
bounded_depth m place why Leaves e = cc
bounded_depth m place why Refused e = cc

operand_depth : (i : Instr) (stack : List Kind) → refused_operand i stack ≡ fault.Depth → ⊥
operand_depth (instr.Istore i) [] e = cc
operand_depth (instr.Istore i) (k ∷ rest) e = by (is_int k) e
  where
    by : (b : Bool) → (if b then fault.Limit else fault.Kind) ≡ fault.Depth → ⊥
    by true e' = cc
    by false e' = cc
operand_depth (instr.Astore i) [] e = cc
operand_depth (instr.Astore i) (k ∷ rest) e = by (is_int k) e
  where
    by : (b : Bool) → (if b then fault.Kind else fault.Limit) ≡ fault.Depth → ⊥
    by true e' = cc
    by false e' = cc
operand_depth i stack e = cc

-- only an instruction with too few operands is refused for this
pub depth_short : (p : PlainProgram) (n place : ℕ) (m : PlainMethod) (i : Instr) (s : Shape) → judged p n m place i s ≡ Err fault.Depth → length s.stack < operands_of p i
depth_short p n place m i s e =
    by (nat_lt (length s.stack) (operands_of p i)) (is_unset i s.locals) refl (bounded_depth m place (refusal p i s) (flow p n i s) e)
  where
    by : (b unset : Bool) → nat_lt (length s.stack) (operands_of p i) ≡ b → (if b then fault.Depth else if unset then fault.Unset else refused_operand i s.stack) ≡ fault.Depth → length s.stack < operands_of p i
    by true unset is e' = true_below (length s.stack) (operands_of p i) is
    by false true is e' = cc
    by false false is e' = absurd (operand_depth i s.stack e')

-- what is below the operands stays
pub below_stays : (p : PlainProgram) (n : ℕ) (i : Instr) (s : Shape) (below : List Kind) → operands_of p i ≤ length s.stack → flow p n i (with_stack s (s.stack ++ below)) ≡ over below (flow p n i s)
below_stays p n i s below high = (takes p n s i).below s.stack below high
