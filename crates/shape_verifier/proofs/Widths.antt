-- No instruction changes how many locals there are.
use Rattle.std.proofs.Common.{◌≡◌, ℕ, zero, suc, Bool, true, false, List, [], ◌∷◌, ◌++◌, length, Option, Some, None, refl, ◌∙◌, arith}
use Rattle.std.specs.Prelude.{not, reverse, slice_get, slice_set}
use Rattle.vm_model.specs.declared.value.Kind.{Kind}
use Rattle.vm_model.specs.declared.value.Kind.TheVariants as kind
use Rattle.vm_model.specs.declared.instr.Instr.{Instr}
use Rattle.vm_model.specs.declared.instr.Instr.TheVariants as instr
use Rattle.vm_model.specs.Program.{PlainMethod, PlainProgram, method_at}
use Rattle.machine_model.specs.Declarations.{declarations_of}
use Rattle.machine_model.specs.Kinds.{is_assignable, field_kinds, static_kind}
use Rattle.machine_model.specs.Shapes.{Shape, Flow, Next, Jump, Branch, Leaves, Refused, flow, flow_call, flow_return, given_kind, is_array, is_called_so, is_int, is_reference, on_all, on_assignable, on_declared, on_int, on_ints, on_kind, on_place, on_set, on_such, receiver_of, where_true, with_kind, with_local, with_stack}

-- control goes on with so many locals
abbrev pub HasWidth : ℕ → Flow → Type 0
HasWidth count (Next s) = length s.locals ≡ count
HasWidth count (Jump to s) = length s.locals ≡ count
HasWidth count (Branch to s) = length s.locals ≡ count
HasWidth count Leaves = Unit {0}
HasWidth count Refused = Unit {0}

-- a store keeps how many elements there are
pub set_width : {A : Type 0} (xs : List A) (i : ℕ) (x : A) → length (slice_set xs i x) ≡ length xs
set_width [] i x = refl
set_width (y ∷ xs) zero x = refl
set_width (y ∷ xs) (suc i) x = let more : length (slice_set xs i x) ≡ length xs = set_width xs i x in omega arith

module _ (p : PlainProgram) (P : Flow → Type 0) (none : P Refused) where
  -- ---- one lemma for each way to take an operand

  kind_keeps : (ks : List Kind) (go : Kind → List Kind → Flow) → ((k : Kind) (rest : List Kind) → P (go k rest)) → P (on_kind ks go)
  kind_keeps [] go h = none
  kind_keeps (k ∷ ks) go h = h k ks

  true_keeps : (b : Bool) (f : Flow) → P f → P (where_true b f)
  true_keeps true f h = h
  true_keeps false f h = none

  such_keeps : (test : Kind → Bool) (ks : List Kind) (go : List Kind → Flow) → ((rest : List Kind) → P (go rest)) → P (on_such test ks go)
  such_keeps test ks go h = kind_keeps ks (λ k rest. where_true (test k) (go rest)) (λ k rest. true_keeps (test k) (go rest) (h rest))

  int_keeps : (ks : List Kind) (go : List Kind → Flow) → ((rest : List Kind) → P (go rest)) → P (on_int ks go)
  int_keeps ks go h = such_keeps is_int ks go h

  ints_keep : (ks : List Kind) (go : List Kind → Flow) → ((rest : List Kind) → P (go rest)) → P (on_ints ks go)
  ints_keep ks go h = int_keeps ks (λ rest. on_int rest go) (λ rest. int_keeps rest go h)

  assignable_keeps : (wanted : Kind) (ks : List Kind) (go : List Kind → Flow) → ((rest : List Kind) → P (go rest)) → P (on_assignable p wanted ks go)
  assignable_keeps wanted ks go h = such_keeps (λ k. is_assignable (declarations_of p) k wanted) ks go h

  all_keep : (wanted ks : List Kind) (go : List Kind → Flow) → ((rest : List Kind) → P (go rest)) → P (on_all p wanted ks go)
  all_keep [] ks go h = h ks
  all_keep (w ∷ wanted) ks go h = assignable_keeps w ks (λ rest. on_all p wanted rest go) (λ rest. all_keep wanted rest go h)

  set_keeps : (o : Option (Option Kind)) (go : Kind → Flow) → ((k : Kind) → P (go k)) → P (on_set o go)
  set_keeps None go h = none
  set_keeps (Some None) go h = none
  set_keeps (Some (Some k)) go h = h k

  place_keeps : (o : Option (Option Kind)) (f : Flow) → P f → P (on_place o f)
  place_keeps None f h = none
  place_keeps (Some k) f h = h

  declared_keeps : (o : Option Kind) (go : Kind → Flow) → ((k : Kind) → P (go k)) → P (on_declared o go)
  declared_keeps None go h = none
  declared_keeps (Some k) go h = h k

  return_keeps : P Leaves → (wanted given : Option Kind) → P (flow_return p wanted given)
  return_keeps h None None = h
  return_keeps h None (Some k) = none
  return_keeps h (Some w) None = none
  return_keeps h (Some w) (Some k) = true_keeps (is_assignable (declarations_of p) k w) Leaves h

module _ (p : PlainProgram) (n : ℕ) (s : Shape) (count : ℕ) (h : length s.locals ≡ count) where
  -- ---- forms of instructions

  number : HasWidth count (on_int s.stack (λ rest. Next (with_stack s (kind.Int ∷ rest))))
  number = int_keeps p (HasWidth count) tt s.stack _ (λ rest. h)

  numbers : HasWidth count (on_ints s.stack (λ rest. Next (with_stack s (kind.Int ∷ rest))))
  numbers = ints_keep p (HasWidth count) tt s.stack _ (λ rest. h)

  tested : (to : ℕ) → HasWidth count (on_int s.stack (λ rest. Branch to (with_stack s rest)))
  tested to = int_keeps p (HasWidth count) tt s.stack _ (λ rest. h)

  compared : (to : ℕ) → HasWidth count (on_ints s.stack (λ rest. Branch to (with_stack s rest)))
  compared to = ints_keep p (HasWidth count) tt s.stack _ (λ rest. h)

  tested_reference : (to : ℕ) → HasWidth count (on_such is_reference s.stack (λ rest. Branch to (with_stack s rest)))
  tested_reference to = such_keeps p (HasWidth count) tt is_reference s.stack _ (λ rest. h)

  compared_references : (to : ℕ) → HasWidth count (on_such is_reference s.stack (λ rest. on_such is_reference rest (λ rest'. Branch to (with_stack s rest'))))
  compared_references to = such_keeps p (HasWidth count) tt is_reference s.stack _ (λ rest. such_keeps p (HasWidth count) tt is_reference rest _ (λ rest'. h))

  taken : (wanted : Kind) → HasWidth count (on_assignable p wanted s.stack (λ rest. Next (with_stack s rest)))
  taken wanted = assignable_keeps p (HasWidth count) tt wanted s.stack _ (λ rest. h)

  all_taken : (wanted : List Kind) → HasWidth count (on_all p wanted s.stack (λ rest. Next (with_stack s rest)))
  all_taken wanted = all_keep p (HasWidth count) tt wanted s.stack _ (λ rest. h)

  -- two operands of any kind
  two : (go : Kind → Kind → List Kind → Flow) → ((l k : Kind) (rest : List Kind) → HasWidth count (go l k rest)) → HasWidth count (on_kind s.stack (λ l rest. on_kind rest (λ k rest'. go l k rest')))
  two go each = kind_keeps p (HasWidth count) tt s.stack _ (λ l rest. kind_keeps p (HasWidth count) tt rest _ (λ k rest'. each l k rest'))

  -- calls
  called : (receiver : List Kind) (o : Option PlainMethod) → HasWidth count (flow_call p receiver o s)
  called receiver None = tt
  called receiver (Some m) = all_keep p (HasWidth count) tt (reverse m.params ++ receiver) s.stack (λ rest. Next (with_stack s (with_kind m.gives rest))) (λ rest. h)

  called_so : (is_static : Bool) (receiver : List Kind) (o : Option PlainMethod) → HasWidth count (where_true (is_called_so is_static o) (flow_call p receiver o s))
  called_so is_static receiver o = true_keeps p (HasWidth count) tt (is_called_so is_static o) (flow_call p receiver o s) (called receiver o)

  -- a store into a local
  stored : (rest : List Kind) (i : ℕ) (k : Kind) → HasWidth count (on_place (slice_get s.locals i) (Next (with_local s rest i k)))
  stored rest i k = place_keeps p (HasWidth count) tt (slice_get s.locals i) (Next (with_local s rest i k)) (set_width s.locals i (Some k) ∙ h)

  -- ---- one case for each instruction

  pub flow_keeps : (i : Instr) → HasWidth count (flow p n i s)
  flow_keeps instr.Nop = h
  flow_keeps (instr.Push x) = h
  flow_keeps (instr.PushText text) = h
  flow_keeps instr.PushNull = h
  flow_keeps (instr.Iload i) = set_keeps p (HasWidth count) tt (slice_get s.locals i) _ (λ k. true_keeps p (HasWidth count) tt (is_int k) _ h)
  flow_keeps (instr.Istore i) = int_keeps p (HasWidth count) tt s.stack _ (λ rest. stored rest i kind.Int)
  flow_keeps (instr.Aload i) = set_keeps p (HasWidth count) tt (slice_get s.locals i) _ (λ k. true_keeps p (HasWidth count) tt (not (is_int k)) _ h)
  flow_keeps (instr.Astore i) = kind_keeps p (HasWidth count) tt s.stack _ (λ k rest. true_keeps p (HasWidth count) tt (not (is_int k)) _ (stored rest i k))
  flow_keeps (instr.Iinc i by) = set_keeps p (HasWidth count) tt (slice_get s.locals i) _ (λ k. true_keeps p (HasWidth count) tt (is_int k) _ h)
  flow_keeps instr.Pop = kind_keeps p (HasWidth count) tt s.stack _ (λ k rest. h)
  flow_keeps instr.Pop2 = two _ (λ l k rest. h)
  flow_keeps instr.Dup = kind_keeps p (HasWidth count) tt s.stack _ (λ k rest. h)
  flow_keeps instr.DupX1 = two _ (λ l k rest. h)
  flow_keeps instr.DupX2 = two _ (λ l k rest. kind_keeps p (HasWidth count) tt rest _ (λ j rest'. h))
  flow_keeps instr.Dup2 = two _ (λ l k rest. h)
  flow_keeps instr.Swap = two _ (λ l k rest. h)
  flow_keeps instr.Iadd = numbers
  flow_keeps instr.Isub = numbers
  flow_keeps instr.Imul = numbers
  flow_keeps instr.Ineg = number
  flow_keeps instr.Idiv = numbers
  flow_keeps instr.Irem = numbers
  flow_keeps instr.Ishl = numbers
  flow_keeps instr.Ishr = numbers
  flow_keeps instr.Iushr = numbers
  flow_keeps instr.Iand = numbers
  flow_keeps instr.Ior = numbers
  flow_keeps instr.Ixor = numbers
  flow_keeps (instr.Ifeq to) = tested to
  flow_keeps (instr.Ifne to) = tested to
  flow_keeps (instr.Iflt to) = tested to
  flow_keeps (instr.Ifge to) = tested to
  flow_keeps (instr.Ifgt to) = tested to
  flow_keeps (instr.Ifle to) = tested to
  flow_keeps (instr.IfIcmpeq to) = compared to
  flow_keeps (instr.IfIcmpne to) = compared to
  flow_keeps (instr.IfIcmplt to) = compared to
  flow_keeps (instr.IfIcmpge to) = compared to
  flow_keeps (instr.IfIcmpgt to) = compared to
  flow_keeps (instr.IfIcmple to) = compared to
  flow_keeps (instr.IfAcmpeq to) = compared_references to
  flow_keeps (instr.IfAcmpne to) = compared_references to
  flow_keeps (instr.Ifnull to) = tested_reference to
  flow_keeps (instr.Ifnonnull to) = tested_reference to
  flow_keeps (instr.Goto to) = h
  flow_keeps instr.ArrayLength = such_keeps p (HasWidth count) tt is_array s.stack _ (λ rest. h)
  flow_keeps instr.Out = h
  flow_keeps (instr.GetStatic slot) = declared_keeps p (HasWidth count) tt (static_kind (declarations_of p) slot) _ (λ k. h)
  flow_keeps (instr.PutStatic slot) = declared_keeps p (HasWidth count) tt (static_kind (declarations_of p) slot) _ (λ k. taken k)
  flow_keeps (instr.GetField class i) = declared_keeps p (HasWidth count) tt (slice_get (field_kinds (declarations_of p) class) i) _ (λ k. assignable_keeps p (HasWidth count) tt (kind.Ref class) s.stack _ (λ rest. h))
  flow_keeps (instr.PutField class i) = declared_keeps p (HasWidth count) tt (slice_get (field_kinds (declarations_of p) class) i) _ (λ k. all_taken (k ∷ kind.Ref class ∷ []))
  flow_keeps instr.Iaload = int_keeps p (HasWidth count) tt s.stack _ (λ rest. such_keeps p (HasWidth count) tt is_array rest _ (λ rest'. h))
  flow_keeps instr.Iastore = ints_keep p (HasWidth count) tt s.stack _ (λ rest. such_keeps p (HasWidth count) tt is_array rest _ (λ rest'. h))
  flow_keeps (instr.New class) = h
  flow_keeps instr.NewArray = int_keeps p (HasWidth count) tt s.stack _ (λ rest. h)
  flow_keeps instr.MonitorEnter = taken (kind.Ref 0)
  flow_keeps instr.MonitorExit = taken (kind.Ref 0)
  flow_keeps instr.Athrow = assignable_keeps p (HasWidth count) tt (kind.Ref 5) s.stack _ (λ rest. tt)
  flow_keeps (instr.InvokeStatic callee) = called_so true [] (method_at p callee)
  flow_keeps (instr.InvokeVirtual callee) = called_so false (receiver_of (method_at p callee)) (method_at p callee)
  flow_keeps (instr.InvokeSpecial callee) = called_so false (receiver_of (method_at p callee)) (method_at p callee)
  flow_keeps (instr.RunOf class) = taken (kind.Ref class)
  flow_keeps instr.Wait = taken (kind.Ref 0)
  flow_keeps instr.Notify = taken (kind.Ref 0)
  flow_keeps instr.NotifyAll = taken (kind.Ref 0)
  flow_keeps instr.Start = taken (kind.Ref 1)
  flow_keeps instr.Join = taken (kind.Ref 1)
  flow_keeps instr.Yield = h
  flow_keeps (instr.Init class true) = all_taken (kind.Ref 3 ∷ kind.Ref class ∷ [])
  flow_keeps (instr.Init class false) = taken (kind.Ref class)
  flow_keeps instr.InitRunnable = all_taken (kind.Ref 2 ∷ kind.Ref 1 ∷ [])
  flow_keeps instr.Println = taken (kind.Ref 4)
  flow_keeps (instr.PrintInt newline) = int_keeps p (HasWidth count) tt s.stack _ (λ rest. assignable_keeps p (HasWidth count) tt (kind.Ref 4) rest _ (λ rest'. h))
  flow_keeps (instr.PrintText newline) = all_taken (kind.Ref 3 ∷ kind.Ref 4 ∷ [])
  flow_keeps instr.Return = return_keeps p (HasWidth count) tt tt (given_kind (method_at p n)) None
  flow_keeps instr.Ireturn = int_keeps p (HasWidth count) tt s.stack _ (λ rest. return_keeps p (HasWidth count) tt tt (given_kind (method_at p n)) (Some kind.Int))
  flow_keeps instr.Areturn = kind_keeps p (HasWidth count) tt s.stack _ (λ k rest. true_keeps p (HasWidth count) tt (not (is_int k)) _ (return_keeps p (HasWidth count) tt tt (given_kind (method_at p n)) (Some k)))
