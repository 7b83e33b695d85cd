-- Operands of several kinds are taken one after another.
use Rattle.std.proofs.Common.{◌≡◌, ℕ, zero, suc, ◌+◌, ◌<◌, Bool, true, false, List, [], ◌∷◌, ◌++◌, length, take, reverse, Some, None, refl, sym, ◌∙◌, ap, get_or, add-one, ◌≤◌, arith}
use Rattle.std.proofs.lemmas.List.{reverse-append, append-nil, take_more}
use Rattle.vm_model.specs.declared.value.Kind.{Kind}
use Rattle.vm_model.specs.Program.{PlainMethod, PlainProgram}
use Rattle.vm_model.specs.declared.value.Kind.TheVariants as kind
use Rattle.machine_model.specs.Declarations.{declarations_of}
use Rattle.machine_model.specs.Kinds.{is_assignable}
use Rattle.machine_model.specs.Shapes.{Shape, Flow, Next, flow_call, on_all, with_kind, with_stack}
use Rattle.shape_verifier.specs.Answers.{kinds_taken, on_taken}

-- the kinds from the last one back
pub last_wanted : (wanted : List Kind) (left : ℕ) (k : Kind) → left < length wanted → reverse (take (left + 1) wanted) ≡ get_or wanted left k ∷ reverse (take left wanted)
last_wanted wanted left k below = ap reverse (take_more wanted left k below) ∙ reverse-append (take left wanted) (get_or wanted left k ∷ [])

all_by : (p : PlainProgram) (wanted : Kind) (more stack : List Kind) (k : Kind) (go : List Kind → Flow) (b : Bool) → is_assignable (declarations_of p) k wanted ≡ b
    → on_all p more stack go ≡ on_taken (kinds_taken p more stack) go → on_all p (wanted ∷ more) (k ∷ stack) go ≡ on_taken (kinds_taken p (wanted ∷ more) (k ∷ stack)) go
all_by p wanted more stack k go true e rest = rw e rest
all_by p wanted more stack k go false e rest = rw e refl

-- a test on many operands goes on with the stack below them
pub all_taken : (p : PlainProgram) (wanted stack : List Kind) (go : List Kind → Flow) → on_all p wanted stack go ≡ on_taken (kinds_taken p wanted stack) go
all_taken p [] stack go = refl
all_taken p (w ∷ wanted) [] go = refl
all_taken p (w ∷ wanted) (k ∷ stack) go = all_by p w wanted stack k go (is_assignable (declarations_of p) k w) refl (all_taken p wanted stack go)

more_by : (p : PlainProgram) (wanted : Kind) (all more stack : List Kind) (k : Kind) (go : List Kind → Flow) (b : Bool) → is_assignable (declarations_of p) k wanted ≡ b
    → on_all p (all ++ more) stack go ≡ on_all p all stack (λ rest. on_all p more rest go) → on_all p ((wanted ∷ all) ++ more) (k ∷ stack) go ≡ on_all p (wanted ∷ all) (k ∷ stack) (λ rest. on_all p more rest go)
more_by p wanted all more stack k go true e rest = rw e rest
more_by p wanted all more stack k go false e rest = rw e refl

-- some operands, and then those below
pub all_more : (p : PlainProgram) (all more stack : List Kind) (go : List Kind → Flow) → on_all p (all ++ more) stack go ≡ on_all p all stack (λ rest. on_all p more rest go)
all_more p [] more stack go = refl
all_more p (w ∷ all) more [] go = refl
all_more p (w ∷ all) more (k ∷ stack) go = more_by p w all more stack k go (is_assignable (declarations_of p) k w) refl (all_more p all more stack go)

-- a call without a receiver
pub flow_alone : (p : PlainProgram) (m : PlainMethod) (s : Shape)
    → flow_call p [] (Some m) s ≡ on_taken (kinds_taken p (reverse m.params) s.stack) (λ rest. Next (with_stack s (with_kind m.gives rest)))
flow_alone p m s =
    ap (λ wanted. on_all p wanted s.stack (λ rest. Next (with_stack s (with_kind m.gives rest)))) (append-nil (reverse m.params))
    ∙ all_taken p (reverse m.params) s.stack (λ rest. Next (with_stack s (with_kind m.gives rest)))

-- a call on a receiver
pub flow_with : (p : PlainProgram) (m : PlainMethod) (s : Shape)
    → flow_call p (kind.Ref m.class ∷ []) (Some m) s
    ≡ on_taken (kinds_taken p (reverse m.params) s.stack) (λ rest. on_all p (kind.Ref m.class ∷ []) rest (λ rest'. Next (with_stack s (with_kind m.gives rest'))))
flow_with p m s =
    all_more p (reverse m.params) (kind.Ref m.class ∷ []) s.stack (λ rest. Next (with_stack s (with_kind m.gives rest)))
    ∙ all_taken p (reverse m.params) s.stack (λ rest. on_all p (kind.Ref m.class ∷ []) rest (λ rest'. Next (with_stack s (with_kind m.gives rest'))))

-- no operand is left for kinds that are
pub none_taken : (p : PlainProgram) (wanted stack : List Kind) (left : ℕ) → 0 < left → left ≤ length wanted → stack ≡ [] → kinds_taken p (reverse (take left wanted)) stack ≡ None
none_taken p [] stack zero some within e = absurd (omega arith)
none_taken p [] stack (suc left) some within e = absurd (omega arith)
none_taken p (w ∷ wanted) stack zero some within e = absurd (omega arith)
none_taken p (w ∷ wanted) stack (suc left) some within e =
    ap (λ s. kinds_taken p (reverse (take (suc left) (w ∷ wanted))) s) e
    ∙ ap (λ kinds. kinds_taken p kinds []) (ap (λ n. reverse (take n (w ∷ wanted))) (sym (add-one left)) ∙ last_wanted (w ∷ wanted) left w (omega arith))
