-- The line of a text that is linked and not verified names a method of its program.
use Rattle.std.proofs.Common.{◌≡◌, ℕ, List, Result, Ok, Err, ◌∙◌, ap}
use Rattle.std.specs.Prelude.{IfOk}
use Rattle.vm_model.specs.Program.{PlainProgram}
use Rattle.shape_lattice.specs.declared.fault.ShapeKind.{ShapeKind}
use Rattle.shape_lattice.specs.Faults.{kind_number}
use Rattle.tool_stages.specs.Accepting.{linked, IsUnverified}
use Rattle.tool_stages.specs.Files.{TellsShape}
use Rattle.tool_stages.specs.Lines.{shape_line}

pub same_ok : {A E : Type 0} (r : Result A E) (x y : A) → r ≡ Ok x → r ≡ Ok y → x ≡ y
same_ok r x y a b = cc

pub tells_shape : {V E : Type 0} (r : Result V E) (bytes : V → List ℕ) (text : List ℕ) (p : PlainProgram) (kind : ShapeKind) (number method at : ℕ) → number ≡ kind_number kind → linked text ≡ Ok p
    → IsUnverified text method (record { kind = kind; at = at }) → IfOk r (λ v. bytes v ≡ shape_line p number method at) → IfOk r (λ v. TellsShape text kind method at (bytes v))
tells_shape (Ok v) bytes text p _ number method at numbered links refused prints =
    let same = same_ok (linked text) p refused.program links refused.links in
    record { unverified = refused; prints = prints ∙ ap (λ (q : PlainProgram). shape_line q number method at) same ∙ ap (λ (n : ℕ). shape_line refused.program n method at) numbered }
tells_shape (Err e) bytes text p _ number method at numbered links refused prints = tt
