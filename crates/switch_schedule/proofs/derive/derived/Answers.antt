use Rattle.std.proofs.Common.{rules, ◌≡◌, ℕ, Some, ap, sym, ◌∙◌}
use Rattle.std.specs.Prelude.{option_map}
use Rattle.vm_model.specs.Ends.{kind_of_end}
use Rattle.machine_model.specs.Machine.{end_of}
use Rattle.event_machine.specs.MachineView.{machine_of}
use Rattle.switch_schedule.proofs.Followed.{all_kept, too_many}
use Rattle.switch_schedule.proofs.derive.derived.Goals as goal

pub returns-in-Some-passed-clause-refused : goal.returns-in-Some-passed-clause-refused
returns-in-Some-passed-clause-refused c =
    let p = c.args.plain.now in
    let m = machine_of c.args.machine.now in
    let log = c.args.log.now in
    let kind : log.end ≡ kind_of_end c.in-Some.end = search rules in
    let told : option_map kind_of_end (end_of p m log.budget) ≡ Some log.end = ap (λ (b : ℕ). option_map kind_of_end (end_of p m b)) (sym c.requires.budget) ∙ ap (option_map kind_of_end) (sym (c.end.ensures.meaning p c.requires.own) ∙ c.in-Some.is) ∙ ap Some (sym kind) in
    (record { machine = m; runs = c.requires.runs; ends = told }, too_many p log c.args.times.items c.args.passed c.in-Some-passed.clock m c.requires.lawful c.requires.runs told c.requires.so_far c.in-Some-passed.is)

pub returns-in-None-clause-derived : goal.returns-in-None-clause-derived
returns-in-None-clause-derived c =
    let p = c.args.plain.now in
    let m = machine_of c.args.machine.now in
    let log = c.args.log.now in
    let kind : log.end ≡ kind_of_end c.in-Some.end = search rules in
    let told : option_map kind_of_end (end_of p m log.budget) ≡ Some log.end = ap (λ (b : ℕ). option_map kind_of_end (end_of p m b)) (sym c.requires.budget) ∙ ap (option_map kind_of_end) (sym (c.end.ensures.meaning p c.requires.own) ∙ c.in-Some.is) ∙ ap Some (sym kind) in
    all_kept p log c.args.times.items c.args.passed m c.requires.lawful c.requires.runs told c.requires.so_far c.in-None.is
