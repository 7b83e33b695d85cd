use Rattle.std.proofs.Common.{sym, ◌∙◌}
use Rattle.schedule_log.proofs.Placed.{contiguous_from_test}
use Rattle.schedule_log.proofs.Gaps.{gapless_yes, gapless_no}
use Rattle.schedule_log.proofs.reading.gapless_of.Goals as goal

pub returns-then-not-is_contiguous-clause-read : goal.returns-then-not-is_contiguous-clause-read
returns-then-not-is_contiguous-clause-read c = rw c.refusal.ensures (gapless_no c.args.placed.now c.args.bytes.now c.requires.apart (sym c.is_contiguous.ensures ∙ c.if-not-is_contiguous.true))

pub returns-clause-read : goal.returns-clause-read
returns-clause-read c = gapless_yes c.args.placed.now c.args.bytes.now c.requires.apart (sym c.is_contiguous.ensures ∙ c.if-not-is_contiguous.false)

pub returns-clause-contiguous : goal.returns-clause-contiguous
returns-clause-contiguous c = contiguous_from_test 0 c.args.placed.now c.requires.apart (sym c.is_contiguous.ensures ∙ c.if-not-is_contiguous.false)
