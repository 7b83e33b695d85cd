-- How the code's answers stand for those of the definitions.
use Rattle.std.specs.Prelude.{◌≡◌, if◌then◌else◌, List, [], ◌∷◌, Option, Some, None, Result, Ok, Err}
use Rattle.vm_model.specs.declared.value.Kind.{Kind}
use Rattle.vm_model.specs.Program.{PlainProgram}
use Rattle.machine_model.specs.Declarations.{declarations_of}
use Rattle.machine_model.specs.Kinds.{is_assignable}
use Rattle.machine_model.specs.Shapes.{Shape, Flow, Next, Jump, Branch, Leaves, Refused}
use Rattle.shape_lattice.specs.declared.fault.ShapeKind.{ShapeKind}
use Rattle.shape_verifier.specs.declared.flow.Onward.{Onward}
use Rattle.shape_verifier.specs.declared.flow.Onward.TheVariants as onward
use Rattle.shape_verifier.specs.declared.step.Step.{Step}
use Rattle.shape_verifier.specs.declared.step.Step.TheVariants as step
use Rattle.vm_model.specs.declared.memory.Failure.{Failure}
use Rattle.vm_model.specs.Failures.{Fails}

-- control goes on so, with this shape
abbrev pub flow_to : Onward → Shape → Flow
flow_to onward.Next s = Next s
flow_to (onward.Jump to) s = Jump to s
flow_to (onward.Branch to) s = Branch to s
flow_to onward.Leaves s = Leaves

-- what an instruction was judged to do, unless memory ran out
abbrev pub JudgedSo : Result Onward (Failure ShapeKind) → Shape → Result Flow ShapeKind → Type 0
JudgedSo (Ok onward) s judged = judged ≡ Ok (flow_to onward s)
JudgedSo (Err e) s judged = Fails e judged

-- what an instruction does to a shape, where it leaves this one
abbrev pub flow_of : Step → Shape → Flow
flow_of step.Next s = Next s
flow_of (step.Jump to) s = Jump to s
flow_of (step.Branch to) s = Branch to s
flow_of step.Leaves s = Leaves
flow_of step.Refused s = Refused

-- the stack below operands that may stand for these kinds, the first of which is on top; none where there aren't such
abbrev pub kinds_taken : PlainProgram → List Kind → List Kind → Option (List Kind)
kinds_taken p [] stack = Some stack
kinds_taken p (wanted ∷ more) [] = None
kinds_taken p (wanted ∷ more) (k ∷ rest) = if is_assignable (declarations_of p) k wanted then kinds_taken p more rest else None

abbrev pub on_taken : Option (List Kind) → (List Kind → Flow) → Flow
on_taken None go = Refused
on_taken (Some rest) go = go rest

-- the same of an answer that takes no memory
abbrev pub BoundedSo : Result Onward ShapeKind → Shape → Result Flow ShapeKind → Type 0
BoundedSo (Ok onward) s bounded = bounded ≡ Ok (flow_to onward s)
BoundedSo (Err why) s bounded = bounded ≡ Err why
