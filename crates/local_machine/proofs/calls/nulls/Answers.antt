use Rattle.vm_model.specs.declared.value.Value.TheVariants as value
use Rattle.std.proofs.lemmas.List.{take-replicate}
use Rattle.local_machine.proofs.calls.nulls.Goals as goal

pub returns : goal.returns
returns c = take-replicate c.args.count 256 value.Null c.requires
