use Rattle.std.proofs.Common.{◌≡◌, ◌+◌}
use Rattle.switch_schedule.specs.Searches.{after_tries, modulus_of, NoneBelow, seeded}
use Rattle.switch_schedule.proofs.search.seek.Given as goal

abbrev pub invariant-loop-before : goal.invariant-loop-before
invariant-loop-before l = record {
  words_so_far : l.words ≡ after_tries (modulus_of l.plain l.events) (seeded l.seed) l.before;
  none_yet : NoneBelow l.plain l.seed l.events (l.before + 1);
}
