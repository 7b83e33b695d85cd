use Rattle.schedule_log.proofs.Tiling.{tiles_contiguous, contiguous_from_tiles}
use Rattle.schedule_log.proofs.laws.tiles_in_order.Goals as goal

pub returns : goal.returns
returns c = λ n is. ((λ t. contiguous_from_tiles n is t.0 t.1), (λ f. tiles_contiguous n is f.0 f.1 f.2))
