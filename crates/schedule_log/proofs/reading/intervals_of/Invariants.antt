use Rattle.std.proofs.Common.{◌≡◌, ◌<◌, ◌≤◌, ◌-◌, length, take}
use Rattle.std.specs.List.{AllByRecursion}
use Rattle.schedule_log.specs.declared.interval.Interval.{Interval}
use Rattle.schedule_log.specs.Ordered.{ApartFrom}
use Rattle.schedule_log.specs.Logs.{put_all}
use Rattle.schedule_log.specs.Reading.{intervals_at}
use Rattle.schedule_log.proofs.reading.intervals_of.Given as goal

abbrev pub invariant-loop : goal.invariant-loop
invariant-loop l = record {
  bound : l.next ≤ 1048576;
  below : AllByRecursion (λ (j : Interval). j.last < l.next) l.more.items;
  rising : ApartFrom 0 l.more.items;
  within : l.at ≤ length l.placed;
  before : AllByRecursion (λ (j : Interval). j.last < l.next) (take l.at l.placed);
  goes_on : intervals_at (l.count - l.counter) l.budget l.thread l.next (put_all l.placed l.more.items) l.rest ≡ intervals_at l.count l.budget l.thread 0 l.placed l.bytes;
}
