use Rattle.schedule_log.proofs.Lawful.{chain_of, lasts_of}
use Rattle.schedule_log.proofs.log.Log.events.Goals as goal

pub events_of-requires-clause-contiguous : goal.events_of-requires-clause-contiguous
events_of-requires-clause-contiguous c = rw c.deref.ensures.value (chain_of _ c.self.invariant).contiguous

pub events_of-requires-clause-low : goal.events_of-requires-clause-low
events_of-requires-clause-low c = rw c.deref.ensures.value (lasts_of _ (chain_of _ c.self.invariant))
