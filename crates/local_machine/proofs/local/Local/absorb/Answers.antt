use Rattle.std.proofs.Common.{◌≡◌, true, Option, Some, sym, ◌∙◌, ap}
use Rattle.std.specs.Prelude.{is_some}
use Rattle.vm_model.specs.declared.op.Op.{Op}
use Rattle.local_machine.specs.declared.completion.Ready.{Ready}
use Rattle.local_machine.specs.LocalView.{LocalView, absorbed_by, fresh}
use Rattle.local_machine.specs.States.{completion_in, pending_in, state_of}
use Rattle.local_machine.proofs.Absorbed.{absorbed}
use Rattle.local_machine.proofs.local.Local.absorb.Goals as goal

pub returns : goal.returns
returns c =
    let p = c.args.plain.now in
    let v = c.args.self.now in
    let i = c.self.inside in
    let r = c.in-Some.ready in
    let q = c.in-Some-op.op in
    let there : i.ready ≡ Some r = sym c.take.ensures.value ∙ c.in-Some.is in
    let st = ap (λ (x : LocalView). x.state) c.self.view_is in
    let on : v.is_ready ≡ true = sym (ap (λ (x : LocalView). x.is_ready) c.self.view_is) ∙ ap (λ (x : Option Ready). is_some x) there in
    let pend : r.op ≡ v.pending = sym (ap pending_in there) ∙ ap (λ (x : LocalView). x.pending) c.self.view_is in
    let comp = sym (ap completion_in there) ∙ ap (λ (x : LocalView). x.completion) c.self.view_is in
    let asks : v.pending ≡ Some q = sym pend ∙ c.in-Some-op.is in
    let l = state_of c.answer.new.phase c.answer.new.top c.answer.new.below.items in
    let at : Option Ready → LocalView = λ n. record { state = l; steps = 0; is_ready = is_some n; pending = pending_in n; completion = completion_in n } in
    ap at c.take.ensures.after
    ∙ ap fresh (absorbed p i.phase i.top i.below.items r v q q c.args.reply c.outcome_after.result l st on pend comp c.requires c.in-Some-op.is (sym c.requires.pending ∙ asks) c.outcome_after.ensures c.answer.ensures.state)
    ∙ ap (λ (x : Option Op). fresh (absorbed_by p x v.state c.args.reply)) (sym asks)
