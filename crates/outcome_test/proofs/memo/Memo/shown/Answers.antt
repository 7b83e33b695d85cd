use Rattle.std.proofs.Common.{◌∙◌, ap}
use Rattle.outcome_test.specs.Memos.{shown_of}
use Rattle.outcome_test.proofs.Rows.{found-row}
use Rattle.outcome_test.proofs.memo.Memo.shown.Goals as goal

pub returns : goal.returns
returns c = c.copied.ensures ∙ c.get.ensures.value ∙ found-row c.args.sorted.now c.self.inside.outcomes.entries ∙ ap (shown_of c.args.sorted.now) c.self.view_is
