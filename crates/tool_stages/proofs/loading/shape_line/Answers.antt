use Rattle.tool_stages.proofs.Telling.{tells_shape}
use Rattle.tool_stages.proofs.loading.shape_line.Goals as goal

pub returns-in-Ok : goal.returns-in-Ok
returns-in-Ok c =
    tells_shape c.shape.result (λ v. v.items) c.args.text.now c.in-Ok.program c.args.kind c.number.result c.args.method c.args.at c.number.ensures c.in-Ok.ensures.gives c.requires c.shape.ensures
