-- The instruction of a frame that fits a closed table finds what it takes.
use Rattle.std.proofs.Common.{◌≡◌, ◌≢◌, ℕ, Option, Some, None, refl, subst}
use Rattle.vm_model.specs.declared.instr.Instr.{Instr}
use Rattle.vm_model.specs.Program.{PlainProgram, instr_at}
use Rattle.machine_model.specs.Frames.{Frame}
use Rattle.machine_model.specs.Shapes.{Flow, Next, Jump, Branch, Leaves, Refused, Table, Follows, FollowsAt, HasShapes, IsShapeTable, flow}
use Rattle.shape_laws.specs.States.{FitsFrame, FindsOperands}

not_refused : (p : PlainProgram) (table : Table) (m place : ℕ) (w : Flow) → Follows p table m place w → w ≢ Refused
not_refused p table m place (Next s) h = λ e. absurd (cc)
not_refused p table m place (Jump to s) h = λ e. absurd (cc)
not_refused p table m place (Branch to s) h = λ e. absurd (cc)
not_refused p table m place Leaves h = λ e. absurd (cc)
not_refused p table m place Refused h = absurd h

pub found : (p : PlainProgram) (table : Table) (f : Frame) → IsShapeTable p table → FitsFrame p table f → FindsOperands p f
found p table f shapes fit =
    let all : HasShapes p table f.method (Some fit.method) = subst (HasShapes p table f.method) fit.is_method (shapes f.method) in
    by_instruction (instr_at p f.method f.place) refl (all.1 f.place fit.at.shape fit.at.is_there).1
  where
    by_instruction : (x : Option Instr) → instr_at p f.method f.place ≡ x → FollowsAt p table f.method f.place fit.at.shape x → FindsOperands p f
    by_instruction None e h = absurd h
    by_instruction (Some i) e h = record { shape = fit.at.shape; instruction = i; is_there = e; fits_it = fit.at.fits_it; taken = not_refused p table f.method f.place (flow p f.method i fit.at.shape) h }
