use Rattle.std.proofs.Common.{rules, ◌≡◌, ap, ◌∙◌}
use Rattle.lane_driver.specs.Finishing.{last_thread}
use Rattle.lane_driver.proofs.Lasting.{last_at}
use Rattle.lane_driver.proofs.record.last_thread.Goals as goal

pub returns-in-len1-up : goal.returns-in-len1-up
returns-in-len1-up c =
    let same : c.history.result.now ≡ c.args.machine.now.world.history = search rules in
    last_at c.history.result.now _ c.in-len1-up.len_at_least ∙ ap last_thread same
