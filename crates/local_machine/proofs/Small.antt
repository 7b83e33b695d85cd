-- The instruction at a place of a method, and that the place is small in a small program.
use Rattle.std.proofs.Common.{◌≡◌, ℕ, ◌<◌, ◌≤◌, ◌^◌, List, [], ◌∷◌, Option, Some, None, refl, ◌∙◌, ap, sym, arith}
use Rattle.std.specs.Prelude.{zero, suc, length, slice_get}
use Rattle.std.specs.List.{AllByRecursion}
use Rattle.std.proofs.lemmas.Option.{slice_get_within}
use Rattle.vm_model.specs.declared.instr.Instr.{Instr}
use Rattle.vm_model.specs.Program.{PlainProgram, PlainMethod, IsSmall, instr_at, code_at, method_at}
use Rattle.local_machine.specs.Steps.{code_in}

small_code : (methods : List PlainMethod) (m at : ℕ) (i : Instr) → AllByRecursion (λ (m : PlainMethod). length m.code ≤ 1048576) methods → code_at (slice_get methods m) at ≡ Some i → at < 2 ^ 31
small_code [] m at i small e = cc
small_code (x ∷ xs) zero at i small e =
    let within : at < length x.code = slice_get_within x.code at i e in
    omega (arith, small.0)
small_code (x ∷ xs) (suc m) at i small e = small_code xs m at i small.1 e

pub small_place : (p : PlainProgram) (m at : ℕ) (i : Instr) → IsSmall p → instr_at p m at ≡ Some i → at < 2 ^ 31
small_place p m at i small e = small_code p.methods m at i small e

in_code : (m : Option PlainMethod) (at : ℕ) → code_at m at ≡ slice_get (code_in m) at
in_code None at = refl
in_code (Some m) at = refl

-- the instruction at a place is what the method's code has there
pub found_in_code : (p : PlainProgram) (m at : ℕ) (code : List Instr) (o : Option Instr) → code ≡ code_in (method_at p m) → o ≡ slice_get code at → instr_at p m at ≡ o
found_in_code p m at code o e q = in_code (method_at p m) at ∙ ap (λ (c : List Instr). slice_get c at) (sym e) ∙ sym q
