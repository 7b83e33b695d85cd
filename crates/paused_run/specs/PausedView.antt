-- A paused run as callers see it.
use Rattle.std.specs.Prelude.{◌≡◌, ◌≤◌, false, length, drop}
use Rattle.vm_model.specs.declared.limits.TheConstants.{MOST_SWITCHES}
use Rattle.thread_driver.specs.Waiting.{Awaits, Rises}
use Rattle.paused_run.specs.Pauses.{PausedRun}
use Rattle.paused_run.specs.declared.paused.Paused.TheInside.{Inside}

abbrev pub view_of : Inside → PausedRun
view_of s = record { machine = s.machine; thread = s.thread; times = s.times.items }

-- the times rise, and so many of them have passed
pub record IsKept (s : Inside) : Type 0 where
  pub few : length s.times.items ≤ MOST_SWITCHES
  pub rising : Rises 0 s.times.items
  pub reached : s.passed ≤ length s.times.items
  pub waits : s.machine.is_broken ≡ false → Awaits s.times.items (length s.machine.world.history) (drop s.passed s.times.items)
