-- A text's program is within the machine's bounds, and makes an event.
use Rattle.std.proofs.Common.{◌≡◌, Ok, sym, subst, arith}
use Rattle.tool_stages.specs.Accepting.{linked}
use Rattle.tool_stages.proofs.Linked.{begins, is_linked, keeps_limits}
use Rattle.tool_stages.proofs.programs.accept.Goals as goal

pub verify-requires : goal.verify-requires
verify-requires c = record { within_bounds = is_linked c.args.text.now c.in_ok-program.program c.in_ok-program.ensures.gives }

pub returns-in-Ok-clause-begins : goal.returns-in-Ok-clause-begins
returns-in-Ok-clause-begins c =
    let links = subst (λ p. linked c.args.text.now ≡ Ok p) (sym c.in-Ok.ensures.same) c.in_ok-program.ensures.gives in
    begins c.args.text.now c.in-Ok.shaped 1048576 links c.in-Ok.ensures.verified (omega arith)

pub returns-in-Ok-clause-statics : goal.returns-in-Ok-clause-statics
returns-in-Ok-clause-statics c =
    let links = subst (λ p. linked c.args.text.now ≡ Ok p) (sym c.in-Ok.ensures.same) c.in_ok-program.ensures.gives in
    (keeps_limits c.args.text.now c.in-Ok.shaped links).statics

pub returns-in-Ok-clause-classes : goal.returns-in-Ok-clause-classes
returns-in-Ok-clause-classes c =
    let links = subst (λ p. linked c.args.text.now ≡ Ok p) (sym c.in-Ok.ensures.same) c.in_ok-program.ensures.gives in
    (keeps_limits c.args.text.now c.in-Ok.shaped links).classes
