use Rattle.std.proofs.Common.{◌≡◌, ◌++◌, ◌-◌, length}
use Rattle.switch_schedule.specs.Searches.{drawn}
use Rattle.switch_schedule.proofs.search.next_try.Given as goal

-- what was drawn, and then what is left to draw
abbrev pub invariant-loop : goal.invariant-loop
invariant-loop l = record {
  times_so_far : (drawn l.count l.modulus l.initial.words).0 ≡ l.times.items ++ (drawn (l.count - l.counter) l.modulus l.words).0;
  words_so_far : (drawn l.count l.modulus l.initial.words).1 ≡ (drawn (l.count - l.counter) l.modulus l.words).1;
  size : length l.times.items ≡ l.counter;
}
