use Rattle.std.proofs.Common.{ap, sym, ◌∙◌}
use Rattle.vm_model.specs.Program.{method_at}
use Rattle.shape_verifier.proofs.Rooms.{limits_are, room_for}
use Rattle.shape_verifier.proofs.verifying.Shaped.room.Goals as goal

pub returns-clause-limits : goal.returns-clause-limits
returns-clause-limits c =
    let same = ap (λ p. method_at p c.args.method) (sym (c.program.ensures.value ∙ c.self.view_is)) in
    limits_are (method_at c.args.self.now c.args.method) c.in-Some.found.now (record { stack = c.stack_limit.result; locals = c.locals_of.result }) (same ∙ sym c.in-Some.ensures) c.stack_limit.ensures c.locals_of.ensures

pub returns-clause-room : goal.returns-clause-room
returns-clause-room c =
    let same = ap (λ p. method_at p c.args.method) (sym (c.program.ensures.value ∙ c.self.view_is)) in
    room_for c.args.self.now c.args.method c.in-Some.found.now _ (same ∙ sym c.in-Some.ensures) c.stack_limit.ensures c.locals_of.ensures
