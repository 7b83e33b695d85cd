-- What the pass over each method says of the program.
use Rattle.std.proofs.Common.{◌≡◌, ℕ, ◌<◌, Option, Some, None, Ok, Err, [], refl, sym, subst}
use Rattle.vm_model.specs.Program.{PlainMethod, PlainProgram, method_at}
use Rattle.machine_model.specs.Shapes.{HasShapes}
use Rattle.shape_verifier.specs.declared.fault.ShapeFault.{ShapeFault}
use Rattle.shape_verifier.specs.declared.fault.ShapeFault.TheVariants as fault
use Rattle.vm_model.specs.declared.memory.Failure.{Failure}
use Rattle.shape_verifier.specs.declared.fault.Refusal.{Refusal}
use Rattle.vm_model.specs.declared.memory.Failure.TheVariants as failure
use Rattle.shape_verifier.specs.Passing.{HasTable, IsRefused}
use Rattle.shape_verifier.specs.Turning.{PassedSo}
use Rattle.shape_verifier.specs.Verdicts.{FailsSo, Refuses, fault_at}
use Rattle.shape_verifier.proofs.Sound.{gives_table}
use Rattle.shape_verifier.proofs.Stops.{shows_none}

-- a method that isn't there has a closed table
pub missing : (p : PlainProgram) (n : ℕ) → method_at p n ≡ None → HasTable p n
missing p n e = ([], subst (λ (o : Option PlainMethod). HasShapes p [] n o) (sym e) tt)

-- a pass that ends shows a closed table
pub ended : (p : PlainProgram) (n : ℕ) (m : PlainMethod) → method_at p n ≡ Some m → PassedSo (Ok tt) p n m → HasTable p n
ended p n m is passed = gives_table p n m is passed.0 passed.1

-- a pass that stops shows that there is none
pub stopped : (p : PlainProgram) (n : ℕ) (m : PlainMethod) (e : (Failure Refusal)) → method_at p n ≡ Some m → PassedSo (Err e) p n m → FailsSo (fault_at e n) p n
stopped p n m failure.Memory is passed = tt
stopped p n m (failure.Fault refusal) is passed = (refl, record { method = m; is_method = is; stops = passed; none = λ table. shows_none p n m refusal is passed table })

-- the first method over which the pass stops
pub first_refused : (p : PlainProgram) (n : ℕ) (f : ShapeFault) → ((k : ℕ) → k < n → HasTable p k) → FailsSo f p n → Refuses p f
first_refused p n (fault.At kind method at) before fails =
    subst (λ (k : ℕ). IsRefused p k (record { kind = kind; at = at })) (sym fails.0)
    (record { method = fails.1.method; is_method = fails.1.is_method; stops = fails.1.stops; none = fails.1.none; before = before })
first_refused p n fault.NoMemory before fails = tt
