-- What a closed table follows from one shape, it follows from each shape that this one takes.
use Rattle.std.proofs.Common.{◌≡◌, ℕ, ◌+◌, Bool, true, false, List, [], ◌∷◌, ◌++◌, Option, Some, None, refl}
use Rattle.std.specs.Prelude.{not, reverse, slice_get}
use Rattle.vm_model.specs.declared.value.Kind.{Kind}
use Rattle.vm_model.specs.declared.value.Kind.TheVariants as kind
use Rattle.vm_model.specs.declared.instr.Instr.{Instr}
use Rattle.vm_model.specs.declared.instr.Instr.TheVariants as instr
use Rattle.vm_model.specs.Program.{PlainMethod, PlainProgram, method_at}
use Rattle.machine_model.specs.Declarations.{declarations_of}
use Rattle.machine_model.specs.Kinds.{static_kind, field_kinds}
use Rattle.machine_model.specs.Shapes.{Shape, Table, Flow, Next, Jump, Branch, Refused, flow, flow_call, given_kind, is_called_so, receiver_of, is_int, is_array, is_reference, is_subsumed, on_kind, on_int, on_ints, on_such, on_assignable, on_all, where_true, with_kind, with_local, with_stack, shape_at, StackTakes, Takes, Follows}
use Rattle.shape_lattice.proofs.Taking.{kind_itself, takes_at_passes}
use Rattle.shape_lattice.proofs.Subsumed.{int_kept, other_kept, reference_kept, array_kept}
use Rattle.shape_verifier.proofs.Operands.{kinds_follow, true_follows, such_follow, int_follows, ints_follow, assignable_follows, all_follow, set_follows, place_follows, declared_follows, return_follows, empty_return_follows, stored_takes}

-- where the table follows the second flow, it follows the first
abbrev pub Carries : PlainProgram → Table → ℕ → ℕ → Flow → Flow → Type 0
Carries p table n place fs ft = Follows p table n place ft → Follows p table n place fs

-- a flow that is refused is followed by no table
none : (p : PlainProgram) (table : Table) (n place : ℕ) (f : Flow) → Carries p table n place f Refused
none p table n place f h = absurd h

module _ (p : PlainProgram) (table : Table) (n place : ℕ) (s t : Shape) (a : Takes p s t) where
  -- ---- followers

  -- the shape goes on as it is
  stays : Carries p table n place (Next s) (Next t)
  stays h = takes_at_passes p s t (shape_at table n (place + 1)) a h

  jumps : (to : ℕ) → Carries p table n place (Jump to s) (Jump to t)
  jumps to h = takes_at_passes p s t (shape_at table n to) a h

  -- other operands over the same locals
  over : (ks ls : List Kind) → StackTakes p ks ls → Takes p (with_stack s ks) (with_stack t ls)
  over ks ls more = record { stack = more; locals = a.locals }

  goes : (ks ls : List Kind) → StackTakes p ks ls → Carries p table n place (Next (with_stack s ks)) (Next (with_stack t ls))
  goes ks ls more h = takes_at_passes p (with_stack s ks) (with_stack t ls) (shape_at table n (place + 1)) (over ks ls more) h

  branches : (to : ℕ) (ks ls : List Kind) → StackTakes p ks ls → Carries p table n place (Branch to (with_stack s ks)) (Branch to (with_stack t ls))
  branches to ks ls more h = (
    takes_at_passes p (with_stack s ks) (with_stack t ls) (shape_at table n (place + 1)) (over ks ls more) h.0,
    takes_at_passes p (with_stack s ks) (with_stack t ls) (shape_at table n to) (over ks ls more) h.1,
  )

  -- a kind is stored in a local
  stores : (ks ls : List Kind) (i : ℕ) (k l : Kind) → StackTakes p ks ls → is_subsumed p k l ≡ true → Carries p table n place (Next (with_local s ks i k)) (Next (with_local t ls i l))
  stores ks ls i k l more is h =
      takes_at_passes p (with_local s ks i k) (with_local t ls i l) (shape_at table n (place + 1)) (record { stack = more; locals = stored_takes p s.locals t.locals i k l a.locals is }) h

  -- ---- operands

  number : Carries p table n place (on_int s.stack (λ rest. Next (with_stack s (kind.Int ∷ rest)))) (on_int t.stack (λ rest. Next (with_stack t (kind.Int ∷ rest))))
  number = int_follows p (Carries p table n place) (none p table n place) s.stack t.stack _ _ a.stack (λ ks ls more. goes (kind.Int ∷ ks) (kind.Int ∷ ls) (refl, more))

  numbers : Carries p table n place (on_ints s.stack (λ rest. Next (with_stack s (kind.Int ∷ rest)))) (on_ints t.stack (λ rest. Next (with_stack t (kind.Int ∷ rest))))
  numbers = ints_follow p (Carries p table n place) (none p table n place) s.stack t.stack _ _ a.stack (λ ks ls more. goes (kind.Int ∷ ks) (kind.Int ∷ ls) (refl, more))

  tested : (to : ℕ) → Carries p table n place (on_int s.stack (λ rest. Branch to (with_stack s rest))) (on_int t.stack (λ rest. Branch to (with_stack t rest)))
  tested to = int_follows p (Carries p table n place) (none p table n place) s.stack t.stack _ _ a.stack (λ ks ls more. branches to ks ls more)

  compared : (to : ℕ) → Carries p table n place (on_ints s.stack (λ rest. Branch to (with_stack s rest))) (on_ints t.stack (λ rest. Branch to (with_stack t rest)))
  compared to = ints_follow p (Carries p table n place) (none p table n place) s.stack t.stack _ _ a.stack (λ ks ls more. branches to ks ls more)

  tested_reference : (to : ℕ) → Carries p table n place (on_such is_reference s.stack (λ rest. Branch to (with_stack s rest))) (on_such is_reference t.stack (λ rest. Branch to (with_stack t rest)))
  tested_reference to = such_follow p (Carries p table n place) (none p table n place) is_reference (reference_kept p) s.stack t.stack _ _ a.stack (λ ks ls more. branches to ks ls more)

  compared_references : (to : ℕ)
      → Carries p table n place (on_such is_reference s.stack (λ rest. on_such is_reference rest (λ rest'. Branch to (with_stack s rest'))))
      (on_such is_reference t.stack (λ rest. on_such is_reference rest (λ rest'. Branch to (with_stack t rest'))))
  compared_references to =
      such_follow p (Carries p table n place) (none p table n place) is_reference (reference_kept p) s.stack t.stack _ _ a.stack
      (λ ks ls more. such_follow p (Carries p table n place) (none p table n place) is_reference (reference_kept p) ks ls _ _ more (λ ks' ls' more'. branches to ks' ls' more'))

  taken : (wanted : Kind) → Carries p table n place (on_assignable p wanted s.stack (λ rest. Next (with_stack s rest))) (on_assignable p wanted t.stack (λ rest. Next (with_stack t rest)))
  taken wanted = assignable_follows p (Carries p table n place) (none p table n place) wanted s.stack t.stack _ _ a.stack (λ ks ls more. goes ks ls more)

  all_taken : (wanted : List Kind) → Carries p table n place (on_all p wanted s.stack (λ rest. Next (with_stack s rest))) (on_all p wanted t.stack (λ rest. Next (with_stack t rest)))
  all_taken wanted = all_follow p (Carries p table n place) (none p table n place) wanted s.stack t.stack _ _ a.stack (λ ks ls more. goes ks ls more)

  -- two operands of any kind
  two : (gs gt : Kind → Kind → List Kind → Flow)
      → ((j k : Kind) (js : List Kind) (l m : Kind) (ls : List Kind) → is_subsumed p j l ≡ true → is_subsumed p k m ≡ true → StackTakes p js ls → Carries p table n place (gs j k js) (gt l m ls))
      → Carries p table n place (on_kind s.stack (λ j rest. on_kind rest (λ k rest'. gs j k rest'))) (on_kind t.stack (λ l rest. on_kind rest (λ m rest'. gt l m rest')))
  two gs gt each =
      kinds_follow p (Carries p table n place) (none p table n place) s.stack t.stack _ _ a.stack
      (λ j l js ls top more. kinds_follow p (Carries p table n place) (none p table n place) js ls _ _ more (λ k m ks ms below more'. each j k ks l m ms top below more'))

  -- calls
  called : (receiver : List Kind) (o : Option PlainMethod) → Carries p table n place (flow_call p receiver o s) (flow_call p receiver o t)
  called receiver None = λ h. absurd h
  called receiver (Some m) =
      all_follow p (Carries p table n place) (none p table n place) (reverse m.params ++ receiver) s.stack t.stack _ _ a.stack (λ ks ls more. goes (with_kind m.gives ks) (with_kind m.gives ls) (given m.gives ks ls more))
    where
      given : (o : Option Kind) (ks ls : List Kind) → StackTakes p ks ls → StackTakes p (with_kind o ks) (with_kind o ls)
      given None ks ls more = more
      given (Some k) ks ls more = (kind_itself p k, more)

  called_so : (is_static : Bool) (receiver : List Kind) (o : Option PlainMethod)
      → Carries p table n place (where_true (is_called_so is_static o) (flow_call p receiver o s)) (where_true (is_called_so is_static o) (flow_call p receiver o t))
  called_so is_static receiver o = true_follows p (Carries p table n place) (none p table n place) (is_called_so is_static o) (is_called_so is_static o) _ _ (λ e. e) (called receiver o)

  -- ---- one case for each instruction

  pub flow_carries : (i : Instr) → Carries p table n place (flow p n i s) (flow p n i t)
  flow_carries instr.Nop = stays
  flow_carries (instr.Push x) = goes (kind.Int ∷ s.stack) (kind.Int ∷ t.stack) (refl, a.stack)
  flow_carries (instr.PushText text) = goes (kind.Ref 3 ∷ s.stack) (kind.Ref 3 ∷ t.stack) (kind_itself p (kind.Ref 3), a.stack)
  flow_carries instr.PushNull = goes (kind.Null ∷ s.stack) (kind.Null ∷ t.stack) (refl, a.stack)
  flow_carries (instr.Iload i) =
      set_follows p (Carries p table n place) (none p table n place) s.locals t.locals i _ _ a.locals
      (λ k l is. true_follows p (Carries p table n place) (none p table n place) (is_int k) (is_int l) _ _ (int_kept p k l is) (goes (kind.Int ∷ s.stack) (kind.Int ∷ t.stack) (refl, a.stack)))
  flow_carries (instr.Istore i) =
      int_follows p (Carries p table n place) (none p table n place) s.stack t.stack _ _ a.stack
      (λ ks ls more. place_follows p (Carries p table n place) (none p table n place) s.locals t.locals i _ _ a.locals (stores ks ls i kind.Int kind.Int more refl))
  flow_carries (instr.Aload i) =
      set_follows p (Carries p table n place) (none p table n place) s.locals t.locals i _ _ a.locals
      (λ k l is. true_follows p (Carries p table n place) (none p table n place) (not (is_int k)) (not (is_int l)) _ _ (other_kept p k l is) (goes (k ∷ s.stack) (l ∷ t.stack) (is, a.stack)))
  flow_carries (instr.Astore i) =
      kinds_follow p (Carries p table n place) (none p table n place) s.stack t.stack _ _ a.stack
      (λ k l ks ls is more. true_follows p (Carries p table n place) (none p table n place) (not (is_int k)) (not (is_int l)) _ _ (other_kept p k l is)
      (place_follows p (Carries p table n place) (none p table n place) s.locals t.locals i _ _ a.locals (stores ks ls i k l more is)))
  flow_carries (instr.Iinc i by) =
      set_follows p (Carries p table n place) (none p table n place) s.locals t.locals i _ _ a.locals (λ k l is. true_follows p (Carries p table n place) (none p table n place) (is_int k) (is_int l) _ _ (int_kept p k l is) stays)
  flow_carries instr.Pop = kinds_follow p (Carries p table n place) (none p table n place) s.stack t.stack _ _ a.stack (λ k l ks ls is more. goes ks ls more)
  flow_carries instr.Pop2 = two _ _ (λ j k js l m ls top below more. goes js ls more)
  flow_carries instr.Dup = kinds_follow p (Carries p table n place) (none p table n place) s.stack t.stack _ _ a.stack (λ k l ks ls is more. goes (k ∷ k ∷ ks) (l ∷ l ∷ ls) (is, (is, more)))
  flow_carries instr.DupX1 = two _ _ (λ j k js l m ls top below more. goes (j ∷ k ∷ j ∷ js) (l ∷ m ∷ l ∷ ls) (top, (below, (top, more))))
  flow_carries instr.DupX2 =
      two _ _
      (λ j k js l m ls top below more. kinds_follow p (Carries p table n place) (none p table n place) js ls _ _ more
      (λ i o is os third more'. goes (j ∷ k ∷ i ∷ j ∷ is) (l ∷ m ∷ o ∷ l ∷ os) (top, (below, (third, (top, more'))))))
  flow_carries instr.Dup2 = two _ _ (λ j k js l m ls top below more. goes (j ∷ k ∷ j ∷ k ∷ js) (l ∷ m ∷ l ∷ m ∷ ls) (top, (below, (top, (below, more)))))
  flow_carries instr.Swap = two _ _ (λ j k js l m ls top below more. goes (k ∷ j ∷ js) (m ∷ l ∷ ls) (below, (top, more)))
  flow_carries instr.Iadd = numbers
  flow_carries instr.Isub = numbers
  flow_carries instr.Imul = numbers
  flow_carries instr.Ineg = number
  flow_carries instr.Idiv = numbers
  flow_carries instr.Irem = numbers
  flow_carries instr.Ishl = numbers
  flow_carries instr.Ishr = numbers
  flow_carries instr.Iushr = numbers
  flow_carries instr.Iand = numbers
  flow_carries instr.Ior = numbers
  flow_carries instr.Ixor = numbers
  flow_carries (instr.Ifeq to) = tested to
  flow_carries (instr.Ifne to) = tested to
  flow_carries (instr.Iflt to) = tested to
  flow_carries (instr.Ifge to) = tested to
  flow_carries (instr.Ifgt to) = tested to
  flow_carries (instr.Ifle to) = tested to
  flow_carries (instr.IfIcmpeq to) = compared to
  flow_carries (instr.IfIcmpne to) = compared to
  flow_carries (instr.IfIcmplt to) = compared to
  flow_carries (instr.IfIcmpge to) = compared to
  flow_carries (instr.IfIcmpgt to) = compared to
  flow_carries (instr.IfIcmple to) = compared to
  flow_carries (instr.IfAcmpeq to) = compared_references to
  flow_carries (instr.IfAcmpne to) = compared_references to
  flow_carries (instr.Ifnull to) = tested_reference to
  flow_carries (instr.Ifnonnull to) = tested_reference to
  flow_carries (instr.Goto to) = jumps to
  flow_carries instr.ArrayLength = such_follow p (Carries p table n place) (none p table n place) is_array (array_kept p) s.stack t.stack _ _ a.stack (λ ks ls more. goes (kind.Int ∷ ks) (kind.Int ∷ ls) (refl, more))
  flow_carries instr.Out = goes (kind.Ref 4 ∷ s.stack) (kind.Ref 4 ∷ t.stack) (kind_itself p (kind.Ref 4), a.stack)
  flow_carries (instr.GetStatic slot) = declared_follows p (Carries p table n place) (none p table n place) (static_kind (declarations_of p) slot) _ _ (λ k. goes (k ∷ s.stack) (k ∷ t.stack) (kind_itself p k, a.stack))
  flow_carries (instr.PutStatic slot) = declared_follows p (Carries p table n place) (none p table n place) (static_kind (declarations_of p) slot) _ _ (λ k. taken k)
  flow_carries (instr.GetField class i) =
      declared_follows p (Carries p table n place) (none p table n place) (slice_get (field_kinds (declarations_of p) class) i) _ _
      (λ k. assignable_follows p (Carries p table n place) (none p table n place) (kind.Ref class) s.stack t.stack _ _ a.stack (λ ks ls more. goes (k ∷ ks) (k ∷ ls) (kind_itself p k, more)))
  flow_carries (instr.PutField class i) = declared_follows p (Carries p table n place) (none p table n place) (slice_get (field_kinds (declarations_of p) class) i) _ _ (λ k. all_taken (k ∷ kind.Ref class ∷ []))
  flow_carries instr.Iaload =
      int_follows p (Carries p table n place) (none p table n place) s.stack t.stack _ _ a.stack
      (λ ks ls more. such_follow p (Carries p table n place) (none p table n place) is_array (array_kept p) ks ls _ _ more (λ ks' ls' more'. goes (kind.Int ∷ ks') (kind.Int ∷ ls') (refl, more')))
  flow_carries instr.Iastore =
      ints_follow p (Carries p table n place) (none p table n place) s.stack t.stack _ _ a.stack
      (λ ks ls more. such_follow p (Carries p table n place) (none p table n place) is_array (array_kept p) ks ls _ _ more (λ ks' ls' more'. goes ks' ls' more'))
  flow_carries (instr.New class) = goes (kind.Ref class ∷ s.stack) (kind.Ref class ∷ t.stack) (kind_itself p (kind.Ref class), a.stack)
  flow_carries instr.NewArray = int_follows p (Carries p table n place) (none p table n place) s.stack t.stack _ _ a.stack (λ ks ls more. goes (kind.Arr ∷ ks) (kind.Arr ∷ ls) (refl, more))
  flow_carries instr.MonitorEnter = taken (kind.Ref 0)
  flow_carries instr.MonitorExit = taken (kind.Ref 0)
  flow_carries instr.Athrow = assignable_follows p (Carries p table n place) (none p table n place) (kind.Ref 5) s.stack t.stack _ _ a.stack (λ ks ls more h. h)
  flow_carries (instr.InvokeStatic callee) = called_so true [] (method_at p callee)
  flow_carries (instr.InvokeVirtual callee) = called_so false (receiver_of (method_at p callee)) (method_at p callee)
  flow_carries (instr.InvokeSpecial callee) = called_so false (receiver_of (method_at p callee)) (method_at p callee)
  flow_carries (instr.RunOf class) = taken (kind.Ref class)
  flow_carries instr.Wait = taken (kind.Ref 0)
  flow_carries instr.Notify = taken (kind.Ref 0)
  flow_carries instr.NotifyAll = taken (kind.Ref 0)
  flow_carries instr.Start = taken (kind.Ref 1)
  flow_carries instr.Join = taken (kind.Ref 1)
  flow_carries instr.Yield = stays
  flow_carries (instr.Init class true) = all_taken (kind.Ref 3 ∷ kind.Ref class ∷ [])
  flow_carries (instr.Init class false) = taken (kind.Ref class)
  flow_carries instr.InitRunnable = all_taken (kind.Ref 2 ∷ kind.Ref 1 ∷ [])
  flow_carries instr.Println = taken (kind.Ref 4)
  flow_carries (instr.PrintInt newline) =
      int_follows p (Carries p table n place) (none p table n place) s.stack t.stack _ _ a.stack
      (λ ks ls more. assignable_follows p (Carries p table n place) (none p table n place) (kind.Ref 4) ks ls _ _ more (λ ks' ls' more'. goes ks' ls' more'))
  flow_carries (instr.PrintText newline) = all_taken (kind.Ref 3 ∷ kind.Ref 4 ∷ [])
  flow_carries instr.Return = empty_return_follows p (Carries p table n place) (none p table n place) (given_kind (method_at p n)) (λ h. h)
  flow_carries instr.Ireturn = int_follows p (Carries p table n place) (none p table n place) s.stack t.stack _ _ a.stack (λ ks ls more. return_follows p (Carries p table n place) (none p table n place) (given_kind (method_at p n)) kind.Int kind.Int refl (λ h. h))
  flow_carries instr.Areturn =
      kinds_follow p (Carries p table n place) (none p table n place) s.stack t.stack _ _ a.stack
      (λ k l ks ls is more. true_follows p (Carries p table n place) (none p table n place) (not (is_int k)) (not (is_int l)) _ _ (other_kept p k l is) (return_follows p (Carries p table n place) (none p table n place) (given_kind (method_at p n)) k l is (λ h. h)))
