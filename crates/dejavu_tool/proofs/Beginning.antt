-- A program that makes an event under one budget makes one under each.
use Rattle.std.proofs.Common.{◌≡◌, ℕ, ◌≤◌, Bool, None, ap, ◌∙◌, arith}
use Rattle.std.specs.Prelude.{not}
use Rattle.std.specs.List.{list_all, list_any}
use Rattle.std.proofs.lemmas.Bool.{ne_eqb}
use Rattle.vm_model.specs.Program.{PlainProgram}
use Rattle.machine_model.specs.Machine.{all_threads, end_of, first_end, has_ended, is_enabled, start_machine}

pub begins_under : (p : PlainProgram) (budget : ℕ) → 1 ≤ budget → end_of p (start_machine p) 1048576 ≡ None → end_of p (start_machine p) budget ≡ None
begins_under p budget some e =
    ap (λ (spent : Bool). first_end (start_machine p).world.fault (list_all has_ended (start_machine p).world.rows) (not (list_any (is_enabled p (start_machine p)) (all_threads (start_machine p)))) spent)
    (ne_eqb 0 budget (λ same. omega (arith, some, same)))
    ∙ e
