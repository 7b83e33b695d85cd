-- Lists of switch times, place by place: how far they are apart, and moves of one toward another (Choi and Zeller 2002).
use Rattle.std.specs.Prelude.{◌≡◌, ◌≢◌, ◌<◌, ◌≤◌, ◌+◌, ◌-◌, ◌*◌, ◌/◌, ℕ, min, max, ◌⊎◌, List, [], ◌∷◌, ◌++◌, length, replicate, slice_index, slice_set}

-- padded at its end, up to a size, with the time `events`, which no event has
abbrev pub padded_to : ℕ → ℕ → List ℕ → List ℕ
padded_to events size times = times ++ replicate (size - length times) events

-- padded up to the size of the longer one of the two
abbrev pub padded : ℕ → List ℕ → List ℕ → List ℕ
padded events times others = padded_to events (max (length times) (length others)) times

-- how far two times are apart
abbrev pub distance : ℕ → ℕ → ℕ
distance x y = (x - y) + (y - x)

-- the sum of the distances, place by place
abbrev pub units : List ℕ → List ℕ → ℕ
units [] ys = 0
units (x ∷ xs) [] = 0
units (x ∷ xs) (y ∷ ys) = distance x y + units xs ys

-- a time moved by so many units toward another, and never past it
abbrev pub moved : ℕ → ℕ → ℕ → ℕ
moved count x y = (x + min count (y - x)) - min count (x - y)

-- the third time is the first one, moved by one toward the second
abbrev pub IsOneNearer : ℕ → ℕ → ℕ → Type 0
IsOneNearer x y moved = ((x < y) × (moved ≡ x + 1)) ⊎ ((y < x) × (moved + 1 ≡ x))

-- xs with its time at place i moved by one toward that of ys, from which it differs there
pub record IsUnitShift (i : ℕ) (xs ys shifted : List ℕ) : Type 0 where
  pub same_length : length shifted ≡ length xs
  pub others_stay : (k : ℕ) → k ≢ i → slice_index shifted k ≡ slice_index xs k
  pub moves : IsOneNearer (slice_index xs i) (slice_index ys i) (slice_index shifted i)

-- this list, as a function
abbrev pub unit_shift : ℕ → List ℕ → List ℕ → List ℕ
unit_shift i xs ys = slice_set xs i (moved 1 (slice_index xs i) (slice_index ys i))

-- four times in this order, rising or falling
abbrev pub InOrder : ℕ → ℕ → ℕ → ℕ → Type 0
InOrder a x y b = ((a ≤ x) × (x ≤ y) × (y ≤ b)) ⊎ ((b ≤ y) × (y ≤ x) × (x ≤ a))

-- at each place the second and the third stand between the first and the fourth, in this order
pub record IsBetween (passing c d failing : List ℕ) : Type 0 where
  pub length_c : length c ≡ length passing
  pub length_d : length d ≡ length passing
  pub length_failing : length failing ≡ length passing
  pub in_order : (i : ℕ) → InOrder (slice_index passing i) (slice_index c i) (slice_index d i) (slice_index failing i)

-- The units from one list to another are numbered place by place: the first with those from low up to, without, high.
unfoldable pub with_units : ℕ → ℕ → List ℕ → List ℕ → List ℕ
with_units low high [] ys = []
with_units low high (x ∷ xs) [] = x ∷ xs
with_units low high (x ∷ xs) (y ∷ ys) = moved (min high (distance x y) - min low (distance x y)) x y ∷ with_units (low - distance x y) (high - distance x y) xs ys

-- where part i of so many begins, as a number of units; it ends where the next one begins
abbrev pub cut : ℕ → ℕ → ℕ → ℕ
cut total parts i = i * total / parts
