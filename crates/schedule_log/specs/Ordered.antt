-- Lists of intervals in order of first, seen from one interval to the next: what a loop over such a list keeps.
use Rattle.std.specs.Prelude.{◌≡◌, ◌≢◌, ℕ, ◌+◌, ◌≤◌, Bool, true, ◌&&◌, ◌==◌, List, [], ◌∷◌}
use Rattle.schedule_log.specs.declared.interval.Interval.{Interval}

-- the number after the last interval, and from where there is none
abbrev pub reach : ℕ → List Interval → ℕ
reach from [] = from
reach from (i ∷ rest) = reach (i.last + 1) rest

abbrev pub next_of : List Interval → ℕ
next_of intervals = reach 0 intervals

-- from a number on, no clock is in two of them
abbrev pub ApartFrom : ℕ → List Interval → Type 0
ApartFrom from [] = Unit {0}
ApartFrom from (i ∷ rest) = (from ≤ i.first) × (i.first ≤ i.last) × ApartFrom (i.last + 1) rest

-- each begins right after the one before it, the first at from
abbrev pub ContiguousFrom : ℕ → List Interval → Type 0
ContiguousFrom from [] = Unit {0}
ContiguousFrom from (i ∷ rest) = (i.first ≡ from) × (i.first ≤ i.last) × ContiguousFrom (i.last + 1) rest

-- the test for it, of intervals that are apart
abbrev pub is_contiguous_from : ℕ → List Interval → Bool
is_contiguous_from from [] = true
is_contiguous_from from (i ∷ rest) = i.first == from && is_contiguous_from (i.last + 1) rest

abbrev pub BeginsOther : ℕ → List Interval → Type 0
BeginsOther thread [] = Unit {0}
BeginsOther thread (i ∷ rest) = i.thread ≢ thread

-- two intervals in a row are of two threads
abbrev pub NeighboursDiffer : List Interval → Type 0
NeighboursDiffer [] = Unit {0}
NeighboursDiffer (i ∷ rest) = BeginsOther i.thread rest × NeighboursDiffer rest
