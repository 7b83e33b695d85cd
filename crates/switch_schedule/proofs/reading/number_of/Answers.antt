use Rattle.std.proofs.Common.{arith}
use Rattle.switch_schedule.proofs.Numbers.{alone, not_alone, number-plain, number_matches, Plain}
use Rattle.switch_schedule.proofs.reading.number_of.Goals as goal
use Rattle.switch_schedule.proofs.reading.number_of.Goals.{else-first-eq-ZERO-via-then-first-eq-ZERO+else-not-is_empty, else-first-eq-ZERO-via-else-first-eq-ZERO}

pub returns-in_default : goal.returns-in_default
returns-in_default c n h = absurd (omega (arith, (number-plain n c.args.line.now h).0, c.in_default.len_below))

pub returns-then-not-is_empty : goal.returns-then-not-is_empty
returns-then-not-is_empty c n h = not_alone c.args.line.now c.is_empty.result c.in-len1-up.len_at_least c.is_empty.ensures c.if-not-is_empty.true ((number-plain n c.args.line.now h).1 c.if-first-eq-ZERO.true)

pub returns : goal.returns
returns c =
    let line = c.args.line.now in
    let plain : Plain line =
    elim c.else-first-eq-ZERO.branch [
      | else-first-eq-ZERO-via-then-first-eq-ZERO+else-not-is_empty w ↦ (omega (arith, c.in-len1-up.len_at_least), λ e. alone line w.is_empty.result c.in-len1-up.len_at_least w.is_empty.ensures w.if-not-is_empty.false)
      | else-first-eq-ZERO-via-else-first-eq-ZERO w ↦ (omega (arith, c.in-len1-up.len_at_least), λ e. absurd (w.if-first-eq-ZERO.false e))
    ] in
    number_matches line c.value_of.result plain c.value_of.ensures
