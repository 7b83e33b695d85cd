-- Parts that fail, one after another, and what code answers for a part, for which memory may be missing.
use Rattle.std.specs.Prelude.{◌≡◌, Result, Ok, Err, Option, Some, None}
use Rattle.vm_model.specs.declared.memory.Failure.{Failure}
use Rattle.vm_model.specs.declared.memory.Failure.TheVariants as failure

-- a part, and the next one with what the first one gave
infixl 10 ◌>>=◌
abbrev pub ◌>>=◌ : {E A B : Type 0} → Result A E → (A → Result B E) → Result B E
(Ok x) >>= f = f x
(Err e) >>= f = Err e

-- something that is missing is a fault
abbrev pub or_fault : {A F : Type 0} → F → Option A → Result A F
or_fault fault None = Err fault
or_fault fault (Some x) = Ok x

-- what code returned is what the definition of the same part says, unless memory ran out
abbrev pub Fails : {F Y : Type 0} → Failure F → Result Y F → Type 0
Fails failure.Memory said = Unit {0}
Fails (failure.Fault fault) said = said ≡ Err fault

-- seen by view
abbrev pub Gives : {F X Y : Type 0} → (X → Y) → Result X (Failure F) → Result Y F → Type 0
Gives view (Ok x) said = said ≡ Ok (view x)
Gives view (Err e) said = Fails e said
