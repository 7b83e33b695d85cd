-- What a monitor that is kept for one lock changes.
use Rattle.std.proofs.Common.{◌≡◌, ◌≢◌, ℕ, zero, suc, ◌-◌, ◌≤◌, Bool, true, false, if◌then◌else◌, nat_le, List, [], ◌∷◌, slice_set, slice_get, Option, Some, None, IsSome, refl, ap, arith}
use Rattle.std.proofs.lemmas.Bool.{false≢true, leb-true}
use Rattle.vm_model.specs.declared.value.Lock.{Lock}
use Rattle.vm_model.specs.declared.value.Lock.TheVariants as lock
use Rattle.machine_model.specs.Shared.{Monitor, Monitors, monitor_at, with_monitor}

set_at : (ms : List Monitor) (i : ℕ) (m : Monitor) → IsSome (slice_get ms i) → slice_get (slice_set ms i m) i ≡ Some m
set_at [] i m found = absurd (false≢true found)
set_at (x ∷ xs) zero m found = refl
set_at (x ∷ xs) (suc i) m found = set_at xs i m found

set_other : (ms : List Monitor) (i j : ℕ) (m : Monitor) → i ≢ j → slice_get (slice_set ms i m) j ≡ slice_get ms j
set_other [] i j m other = refl
set_other (x ∷ xs) zero zero m other = absurd (other refl)
set_other (x ∷ xs) zero (suc j) m other = refl
set_other (x ∷ xs) (suc i) zero m other = refl
set_other (x ∷ xs) (suc i) (suc j) m other = set_other xs i j m (λ e. other (ap suc e))

-- ---- by class, with what tells whether the class has a lock

abbrev with_class : Monitors → ℕ → Bool → Monitor → Monitors
with_class ms class b m = if b then record { objects = ms.objects; classes = slice_set ms.classes (class - 32) m } else ms

abbrev class_at : Monitors → ℕ → Bool → Option Monitor
class_at ms class b = if b then slice_get ms.classes (class - 32) else None

other_class : (ms : Monitors) (c k : ℕ) (a b : Bool) (m : Monitor) → nat_le 32 c ≡ a → nat_le 32 k ≡ b → c ≢ k → class_at (with_class ms c a m) k b ≡ class_at ms k b
other_class ms c k false b m low at other = refl
other_class ms c k true false m high low other = refl
other_class ms c k true true m high at other =
    let first : 32 ≤ c = leb-true 32 c high in
    let second : 32 ≤ k = leb-true 32 k at in
    set_other ms.classes (c - 32) (k - 32) m (λ e. other (omega (arith, first, second, e)))

object_of_class : (ms : Monitors) (id class : ℕ) (b : Bool) (m : Monitor) → slice_get (with_class ms class b m).objects id ≡ slice_get ms.objects id
object_of_class ms id class true m = refl
object_of_class ms id class false m = refl

own_class : (ms : Monitors) (class : ℕ) (b : Bool) (m : Monitor) → IsSome (class_at ms class b) → class_at (with_class ms class b m) class b ≡ Some m
own_class ms class true m found = set_at ms.classes (class - 32) m found
own_class ms class false m found = absurd (false≢true found)

-- ---- by lock

pub others_stay : (ms : Monitors) (l k : Lock) (m : Monitor) → l ≢ k → monitor_at (with_monitor ms l m) k ≡ monitor_at ms k
others_stay ms (lock.Object i) (lock.Object j) m other = set_other ms.objects i j m (λ e. other (ap lock.Object e))
others_stay ms (lock.Object i) (lock.Class c) m other = refl
others_stay ms (lock.Class c) (lock.Object i) m other = object_of_class ms i c (nat_le 32 c) m
others_stay ms (lock.Class c) (lock.Class k) m other = other_class ms c k (nat_le 32 c) (nat_le 32 k) m refl refl (λ e. other (ap lock.Class e))

pub own_is_found : (ms : Monitors) (l : Lock) (m : Monitor) → IsSome (monitor_at ms l) → monitor_at (with_monitor ms l m) l ≡ Some m
own_is_found ms (lock.Object id) m found = set_at ms.objects id m found
own_is_found ms (lock.Class class) m found = own_class ms class (nat_le 32 class) m found
