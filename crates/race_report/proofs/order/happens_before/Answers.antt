use Rattle.std.proofs.Common.{false, true, ◌≡◌}
use Rattle.std.proofs.lemmas.Option.{slice_get-get_or}
use Rattle.race_report.proofs.Clocking.{known_is_before, not_before_itself}
use Rattle.race_report.proofs.order.happens_before.Goals as goal

apart : false ≡ true → ⊥
apart e = cc

pub returns-then-first-second : goal.returns-then-first-second
returns-then-first-second c = record { order = (λ e. absurd (apart e), not_before_itself _ _ _ c.if-first-second.true) }

pub returns : goal.returns
returns c = record { order = known_is_before _ _ _ _ _ _ (slice_get-get_or _ _ _ c.requires.first) c.if-first-second.false c.in_ok-clock.ensures.clock c.time.ensures.time }
