-- A search for a schedule whose run ends in a fault: tries of pseudo-random times.
use Rattle.std.specs.Prelude.{◌≡◌, ◌<◌, ◌≤◌, ◌+◌, ◌-◌, ◌%◌, ℕ, zero, suc, Bool, true, false, List, [], ◌∷◌, length, Option, Some, None}
use Rattle.vm_model.specs.declared.ends.End.{End}
use Rattle.vm_model.specs.declared.ends.End.TheVariants as end
use Rattle.vm_model.specs.Program.{PlainProgram}
use Rattle.machine_model.specs.Machine.{run}
use Rattle.machine_model.specs.Ring.{schedule_threads}
use Rattle.rand_pcg.specs.Lcg.{Lcg, increment_of, started}
use Rattle.rand_pcg.specs.Pcg.{multiplier_64, pcg32}
use Rattle.schedule_model.specs.Outcomes.{end_under}
use Rattle.switch_schedule.specs.declared.run.Ran.{Ran}
use Rattle.switch_schedule.specs.declared.search.Sought.{Sought}
use Rattle.switch_schedule.specs.declared.search.Sought.TheVariants as sought
use Rattle.switch_schedule.specs.Runs.{IsRunOf}

-- so many words of the generator, each as a number below the modulus, and the generator after them
unfoldable pub drawn : ℕ → ℕ → Lcg → List ℕ × Lcg
drawn zero modulus g = ([], g)
drawn (suc count) modulus g = let word = pcg32 g in let more = drawn count modulus word.1 in ((word.0 % modulus) ∷ more.0, more.1)

-- a try: one word says how many times there are, from 1 to 4, and each time is a word
unfoldable pub try_drawn : ℕ → Lcg → List ℕ × Lcg
try_drawn modulus g = let word = pcg32 g in drawn (1 + word.0 % 4) modulus word.1

-- the generator after so many tries
unfoldable pub after_tries : ℕ → Lcg → ℕ → Lcg
after_tries modulus g zero = g
after_tries modulus g (suc tries) = (try_drawn modulus (after_tries modulus g tries)).1

-- the times go from 0 to the number of events of the run without switches
abbrev pub modulus_of : PlainProgram → ℕ → ℕ
modulus_of p events = length (schedule_threads p [] events) + 1

-- the generator of a seed
abbrev pub seeded : ℕ → Lcg
seeded seed = started 64 multiplier_64 seed (increment_of 64 0)

-- the times of a try, from the first, which has number 1
abbrev pub try_times : PlainProgram → ℕ → ℕ → ℕ → List ℕ
try_times p seed events number = (try_drawn (modulus_of p events) (after_tries (modulus_of p events) (seeded seed) (number - 1))).0

abbrev pub is_fault : Option End → Bool
is_fault None = false
is_fault (Some end.Done) = false
is_fault (Some (end.Fault fault)) = true
is_fault (Some end.Stuck) = false
is_fault (Some end.Spent) = false

-- whether the run of a schedule ends in a fault
abbrev pub ends_in_fault : PlainProgram → ℕ → List ℕ → Bool
ends_in_fault p events times = is_fault (end_under p events (run p (schedule_threads p times events)))

-- none of the tries below this number ends in a fault
abbrev pub NoneBelow : PlainProgram → ℕ → ℕ → ℕ → Type 0
NoneBelow p seed events high = (number : ℕ) → 1 ≤ number → number < high → ends_in_fault p events (try_times p seed events number) ≡ false

-- the first try that ends in a fault, with its run
pub record IsFirstFault (p : PlainProgram) (seed tries events at : ℕ) (times : List ℕ) (ran : Ran) : Type 0 where
  pub counted : 1 ≤ at
  pub within : at ≤ tries
  pub drawn : times ≡ try_times p seed events at
  pub runs : IsRunOf p times events ran.intervals.items ran.clock ran.output.items ran.end
  pub faulty : is_fault (Some ran.end) ≡ true
  pub first : NoneBelow p seed events at

-- what a search answers: the first try that ends in a fault, or that none of the tries does
abbrev pub IsSought : PlainProgram → ℕ → ℕ → ℕ → Sought → Type 0
IsSought p seed tries events (sought.Found at schedule ran) = IsFirstFault p seed tries events at schedule ran
IsSought p seed tries events sought.NotFound = NoneBelow p seed events (tries + 1)
