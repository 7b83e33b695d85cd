use Rattle.std.proofs.Common.{◌+◌, arith, drop, take, sym, ◌∙◌}
use Rattle.std.proofs.lemmas.List.{take_rest}
use Rattle.switch_schedule.proofs.Texts.{line-feed, line_at, line_here, no_feed, some_bytes}
use Rattle.switch_schedule.proofs.reading.time_of.Goals as goal

pub returns-in_default-clause-err : goal.returns-in_default-clause-err
returns-in_default-clause-err c = (some_bytes c.args.rest.now c.requires.some, no_feed c.args.rest.now (sym c.line_feed.ensures ∙ c.in_default.is))

pub returns-then-lines-ge-MOST_SWITCHES-clause-err : goal.returns-then-lines-ge-MOST_SWITCHES-clause-err
returns-then-lines-ge-MOST_SWITCHES-clause-err c =
    let line = line_at c.args.rest.now c.in-Some.end (sym c.line_feed.ensures ∙ c.in-Some.is) in
    (c.if-lines-ge-MOST_SWITCHES.true, line-feed (take c.in-Some.end c.args.rest.now) (drop (c.in-Some.end + 1) c.args.rest.now) c.args.rest.now line)

pub returns-in_default-number_of-clause-err : goal.returns-in_default-number_of-clause-err
returns-in_default-number_of-clause-err c =
    let line = line_at c.args.rest.now c.in-Some.end (sym c.line_feed.ensures ∙ c.in-Some.is) in
    (c.if-lines-ge-MOST_SWITCHES.false, (take c.in-Some.end c.args.rest.now, drop (c.in-Some.end + 1) c.args.rest.now, line, c.in_default-number_of.ensures))

pub returns-then-from-events-clause-err : goal.returns-then-from-events-clause-err
returns-then-from-events-clause-err c =
    let line = line_at c.args.rest.now c.in-Some.end (sym c.line_feed.ensures ∙ c.in-Some.is) in
    (c.if-lines-ge-MOST_SWITCHES.false, (take c.in-Some.end c.args.rest.now, drop (c.in-Some.end + 1) c.args.rest.now, c.in-Some-number_of.time, line, c.in-Some-number_of.ensures, omega (arith, c.if-from-events.true, c.from.ensures)))

pub returns-clause-ok : goal.returns-clause-ok
returns-clause-ok c =
    let line = line_at c.args.rest.now c.in-Some.end (sym c.line_feed.ensures ∙ c.in-Some.is) in
    rw take_rest (line_here c.in-Some-number_of.time c.args.events c.args.lines (take c.in-Some.end c.args.rest.now) (drop (c.in-Some.end + 1) c.args.rest.now) c.args.rest.now line c.in-Some-number_of.ensures (omega (arith, c.if-from-events.false, c.from.ensures)) c.if-lines-ge-MOST_SWITCHES.false)
