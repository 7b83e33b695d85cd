use Rattle.tool_stages.proofs.Linked.{begins}
use Rattle.tool_stages.proofs.laws.accepted_program_begins.Goals as goal

pub returns : goal.returns
returns c = λ text p budget accepted some. begins text p budget accepted.links accepted.verified some
