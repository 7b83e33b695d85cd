use Rattle.std.proofs.Common.{◌≡◌, length, Result, Ok, Err, sym, ap, subst, ◌∙◌, arith}
use Rattle.vm_model.specs.Failures.{Fails}
use Rattle.schedule_log.specs.declared.fault.Refusal.{Refusal}
use Rattle.vm_model.specs.declared.memory.Failure.{Failure}
use Rattle.vm_model.specs.declared.memory.Failure.TheVariants as failure
use Rattle.schedule_log.specs.Reading.{log_at, with_offset, read_log}
use Rattle.schedule_log.proofs.Whole.{log_takes}
use Rattle.schedule_log.proofs.Spelled.{read_again}
use Rattle.schedule_log.proofs.Within.{refusal_within}
use Rattle.schedule_log.proofs.reading.decode.Goals as goal

fails_as : {Y : Type 0} (e : (Failure Refusal)) (r : Refusal) (read : Result Y Refusal) → e ≡ failure.Fault r → Fails e read → read ≡ Err r
fails_as e r read is fails = subst (λ (d : (Failure Refusal)). Fails d read) is fails

pub in_order-requires : goal.in_order-requires
in_order-requires c = (log_takes c.args.bytes.now _ (λ i. omega (arith, c.type_inv.bytes i)) c.in-Ok.ensures).0

pub overflow_sub-result : goal.overflow_sub-result
overflow_sub-result c = refusal_within c.args.bytes.now c.in-Err-Fault.refusal (fails_as c.in-Err-Fault.field-0 c.in-Err-Fault.refusal (log_at c.args.bytes.now) c.in-Err-Fault.field-0-is c.in-Err-Fault.ensures)

pub returns-in-Ok-clause-found : goal.returns-in-Ok-clause-found
returns-in-Ok-clause-found c = rw c.in_order.ensures (log_takes c.args.bytes.now _ (λ i. omega (arith, c.type_inv.bytes i)) c.in-Ok.ensures)

pub returns-in-Ok-clause-only : goal.returns-in-Ok-clause-only
unfolding read_log
returns-in-Ok-clause-only c = λ l spells. sym (read_again l spells.0) ∙ ap read_log (sym spells.1) ∙ ap (with_offset (length c.args.bytes.now)) c.in-Ok.ensures ∙ ap (λ m. Ok m) (sym c.in_order.ensures)

pub returns-in-Ok-clause-exact : goal.returns-in-Ok-clause-exact
unfolding read_log
returns-in-Ok-clause-exact c = ap (with_offset (length c.args.bytes.now)) c.in-Ok.ensures ∙ ap (λ m. Ok m) (sym c.in_order.ensures)

pub returns-in-Err-Fault-clause-only : goal.returns-in-Err-Fault-clause-only
unfolding read_log
returns-in-Err-Fault-clause-only c = λ l spells.
    sym (read_again l spells.0) ∙ ap read_log (sym spells.1) ∙ ap (with_offset (length c.args.bytes.now)) (fails_as c.in-Err-Fault.field-0 c.in-Err-Fault.refusal (log_at c.args.bytes.now) c.in-Err-Fault.field-0-is c.in-Err-Fault.ensures)

pub returns-in-Err-Fault-clause-exact : goal.returns-in-Err-Fault-clause-exact
unfolding read_log
returns-in-Err-Fault-clause-exact c = ap (with_offset (length c.args.bytes.now)) (fails_as c.in-Err-Fault.field-0 c.in-Err-Fault.refusal (log_at c.args.bytes.now) c.in-Err-Fault.field-0-is c.in-Err-Fault.ensures)
