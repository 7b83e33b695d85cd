-- A pass ends in one way only: turns that are left over change nothing.
use Rattle.std.proofs.Common.{◌≡◌, ℕ, zero, suc, Bool, true, false, length, Option, Some, None}
use Rattle.std.specs.Prelude.{◌==◌, if◌then◌else◌, nat_lt, Result, Ok, Err}
use Rattle.vm_model.specs.Program.{PlainMethod, PlainProgram, locals_of}
use Rattle.machine_model.specs.Shapes.{parameters}
use Rattle.shape_verifier.specs.declared.fault.Refusal.{Refusal}
use Rattle.shape_verifier.specs.Passing.{PassState, EndsWith, begun, pass_within, passed_on, turned}

-- an answer to a pass, as yet or never
abbrev Answer : Type 0
Answer = Option (Result PassState Refusal)

-- two answers that are there are the same
abbrev Agree : Answer → Answer → Type 0
Agree a b = (x y : Result PassState Refusal) → a ≡ Some x → b ≡ Some y → x ≡ y

none_yet : (x : Result PassState Refusal) → ◌≡◌ {A = Answer} None (Some x) → ⊥
none_yet x e = cc

-- an answer agrees with itself
itself : (a : Answer) → Agree a a
itself a x y e g = cc

-- two ways to go on that agree on each state
passed_agree : (state : PassState) (o : Answer) (go go' : PassState → Answer) → ((next : PassState) → Agree (go next) (go' next)) → Agree (passed_on state o go) (passed_on state o go')
passed_agree state None go go' more = itself (Some (Ok state))
passed_agree state (Some (Ok next)) go go' more = more next
passed_agree state (Some (Err refusal)) go go' more = itself (Some (Err refusal))

module _ (p : PlainProgram) (n : ℕ) (m : PlainMethod) where
  -- passes of any two numbers of turns agree
  pass_agrees : (turns others : ℕ) (state : PassState) → Agree (pass_within turns p n m state) (pass_within others p n m state)
  unfolding pass_within
  pass_agrees zero others state = λ x y e g. absurd (none_yet x e)
  pass_agrees (suc turns) zero state = λ x y e g. absurd (none_yet y g)
  pass_agrees (suc turns) (suc others) state =
      passed_agree state (turned p n m state) (pass_within turns p n m) (pass_within others p n m) (λ next. pass_agrees turns others next)

  -- a method that is refused first is refused in one way
  refused_agree : (b b' : Bool) (refused refused' a a' : Answer) → Agree a a' → Agree (if b then refused else if b' then refused' else a) (if b then refused else if b' then refused' else a')
  refused_agree true b' refused refused' a a' h = itself refused
  refused_agree false true refused refused' a a' h = itself refused'
  refused_agree false false refused refused' a a' h = h

  -- a pass over a method ends in one way
  pub one_way : (a b : Result PassState Refusal) → EndsWith p n m a → EndsWith p n m b → a ≡ b
  one_way a b ends ends' =
      refused_agree (nat_lt (locals_of m) (length (parameters m))) (length m.code == 0) _ _ (pass_within ends.0 p n m (begun m)) (pass_within ends'.0 p n m (begun m))
      (pass_agrees ends.0 ends'.0 (begun m)) a b ends.1 ends'.1
