use Rattle.std.proofs.Common.{◌≡◌, ◌-◌, []}
use Rattle.schedule_log.specs.Ordered.{ApartFrom}
use Rattle.schedule_log.specs.Reading.{threads_at}
use Rattle.schedule_log.proofs.reading.threads_of.Given as goal

abbrev pub invariant-loop-thread : goal.invariant-loop-thread
invariant-loop-thread l = record {
  apart : ApartFrom 0 l.placed.items;
  goes_on : threads_at (l.count - l.thread) l.budget l.thread l.placed.items l.rest ≡ threads_at l.count l.budget 0 [] l.bytes;
}
