use Rattle.std.proofs.Common.{sym, ◌∙◌, ap}
use Rattle.jasmin_reader.specs.Assembly.{parts_of}
use Rattle.jasmin_reader.proofs.Parts.{parts-last}
use Rattle.jasmin_reader.proofs.assembly.classes_of.Goals as goal

pub loop-form-preserved : goal.loop-form-preserved
loop-form-preserved c =
    rw c.in_ok-add.ensures (sym (parts-last c.pop.new.self.items c.in-Some.form c.loop-form.parts))
    ∙ ap (λ forms. parts_of forms c.loop-form.parts) (sym c.in-Some.ensures.items)
    ∙ c.loop-form.invariant
