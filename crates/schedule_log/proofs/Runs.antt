-- Intervals of one thread, made clock by clock.
use Rattle.std.proofs.Common.{◌≡◌, ℕ, zero, suc, ◌+◌, ◌-◌, ◌<◌, ◌≤◌, List, [], ◌∷◌, ◌++◌, length, get_or, take, set, refl, sym, ap, subst, ◌∙◌, append_assoc, arith}
use Rattle.std.specs.Prelude.{All}
use Rattle.std.specs.List.{AllByRecursion}
use Rattle.std.proofs.lemmas.List.Elements.{recursion_from_All}
use Rattle.std.proofs.lemmas.List.{take_more, take_all, set_split, drop_all, append-nil, get_or_default, nil_from_length}
use Rattle.std.proofs.lemmas.List.Concat.{flat_map-append}
use Rattle.schedule_log.specs.declared.interval.Interval.{Interval}
use Rattle.schedule_log.specs.Intervals.{numbers, clocks_in, clocks, MaximalFrom}
use Rattle.schedule_log.specs.Ordered.{reach, next_of}

-- a list with a last element
pub split_last : {X : Type 0} (xs : List X) (k : ℕ) (d : X) → length xs ≡ k + 1 → xs ≡ take k xs ++ get_or xs k d ∷ []
split_last xs k d len = sym (take_all (k + 1) xs (omega arith)) ∙ take_more xs k d (omega arith)

pub set_last : {X : Type 0} (xs : List X) (k : ℕ) (y : X) → length xs ≡ k + 1 → set xs k y ≡ take k xs ++ y ∷ []
set_last xs k y len = set_split xs k y (omega arith) ∙ ap (λ r. take k xs ++ y ∷ r) (drop_all (suc k) xs (omega arith))

pub numbers-push : (start count : ℕ) → numbers start (suc count) ≡ numbers start count ++ (start + count) ∷ []
numbers-push start zero = ap (λ (n : ℕ). n ∷ []) (omega arith)
numbers-push start (suc count) = ap (λ (r : List ℕ). start ∷ r) (numbers-push (start + 1) count ∙ ap (λ (n : ℕ). numbers (start + 1) count ++ n ∷ []) (omega arith))

-- ---- at the end of a list

pub reach-push : (from : ℕ) (front : List Interval) (i : Interval) → reach from (front ++ i ∷ []) ≡ i.last + 1
reach-push from [] i = refl
reach-push from (j ∷ front) i = reach-push (j.last + 1) front i

pub reach_last : (from : ℕ) (is : List Interval) (k : ℕ) (d : Interval) → length is ≡ k + 1 → reach from is ≡ (get_or is k d).last + 1
reach_last from is k d len = ap (reach from) (split_last is k d len) ∙ reach-push from (take k is) (get_or is k d)

-- the least first clock of one more interval
abbrev pub room_from : ℕ → List Interval → ℕ
room_from from [] = from
room_from from (i ∷ is) = room_from (i.last + 2) is

pub room_from-push : (from : ℕ) (front : List Interval) (i : Interval) → room_from from (front ++ i ∷ []) ≡ i.last + 2
room_from-push from [] i = refl
room_from-push from (j ∷ front) i = room_from-push (j.last + 2) front i

pub Maximal-push : (t from : ℕ) (front : List Interval) (i : Interval) → MaximalFrom t from front → i.thread ≡ t → room_from from front ≤ i.first → i.first ≤ i.last → MaximalFrom t from (front ++ i ∷ [])
Maximal-push t from [] i s th lo hi = (th, lo, hi, tt)
Maximal-push t from (j ∷ front) i s th lo hi = (s.0, s.1, s.2, Maximal-push t (j.last + 2) front i s.3 th lo hi)

pub Maximal-longer : (t from : ℕ) (front : List Interval) (i j : Interval) → MaximalFrom t from (front ++ i ∷ []) → j.thread ≡ i.thread → j.first ≡ i.first → i.last ≤ j.last → MaximalFrom t from (front ++ j ∷ [])
Maximal-longer t from [] i j s th e le = (th ∙ s.0, omega (arith, s.1), omega (arith, s.2), tt)
Maximal-longer t from (h ∷ front) i j s th e le = (s.0, s.1, s.2, Maximal-longer t (h.last + 2) front i j s.3 th e le)

pub Maximal-last : (t from : ℕ) (front : List Interval) (i : Interval) → MaximalFrom t from (front ++ i ∷ []) → i.first ≤ i.last
Maximal-last t from [] i s = s.2
Maximal-last t from (h ∷ front) i s = Maximal-last t (h.last + 2) front i s.3

-- ---- one more clock

pub clocks-push : (front : List Interval) (i : Interval) → clocks (front ++ i ∷ []) ≡ clocks front ++ clocks_in i
clocks-push front i = flat_map-append clocks_in front (i ∷ []) ∙ ap (λ (r : List ℕ). clocks front ++ r) (append-nil (clocks_in i))

pub clocks-alone : (t c : ℕ) (front : List Interval) → clocks (front ++ record { thread = t; first = c; last = c } ∷ []) ≡ clocks front ++ c ∷ []
clocks-alone t c front = clocks-push front (record { thread = t; first = c; last = c }) ∙ ap (λ (n : ℕ). clocks front ++ numbers c n) (let e : c + 1 - c ≡ suc zero = omega arith in e)

pub clocks-longer : (front : List Interval) (i j : Interval) → i.first ≤ i.last → j.first ≡ i.first → j.last ≡ i.last + 1 → clocks (front ++ j ∷ []) ≡ clocks (front ++ i ∷ []) ++ j.last ∷ []
clocks-longer front i j le e l =
    let n : j.last + 1 - j.first ≡ suc (i.last + 1 - i.first) = omega arith in
    let at : j.first + (i.last + 1 - i.first) ≡ j.last = omega arith in
    let one : clocks_in j ≡ clocks_in i ++ j.last ∷ [] = ap (numbers j.first) n ∙ numbers-push j.first (i.last + 1 - i.first) ∙ ap (λ (k : ℕ). numbers j.first (i.last + 1 - i.first) ++ k ∷ []) at ∙ ap (λ (s : ℕ). numbers s (i.last + 1 - i.first) ++ j.last ∷ []) e in
    clocks-push front j ∙ ap (λ (r : List ℕ). clocks front ++ r) one ∙ sym (append_assoc (clocks front) (clocks_in i) (j.last ∷ [])) ∙ ap (λ (r : List ℕ). r ++ j.last ∷ []) (sym (clocks-push front i))

-- what stands at the last place, when a shorter run ends there
pub last_maximal : (t k : ℕ) (is : List Interval) (d : Interval) → length is ≡ k + 1 → d ≡ get_or is k d → MaximalFrom t 0 is → MaximalFrom t 0 (take k is ++ d ∷ [])
last_maximal t k is d len e s = subst (MaximalFrom t 0) (split_last is k d len ∙ ap (λ (i : Interval). take k is ++ i ∷ []) (sym e)) s

-- the last interval, one clock longer
pub maximal_longer : (t k clock : ℕ) (is : List Interval) (d : Interval) → length is ≡ k + 1 → d ≡ get_or is k d → MaximalFrom t 0 is → d.last + 1 ≡ clock → MaximalFrom t 0 (set is k (record { thread = d.thread; first = d.first; last = clock }))
maximal_longer t k clock is d len e s next =
    rw (set_last is k (record { thread = d.thread; first = d.first; last = clock }) len) (Maximal-longer t 0 (take k is) d (record { thread = d.thread; first = d.first; last = clock }) (last_maximal t k is d len e s) refl refl (omega arith))

pub clocks_longer : (t k clock : ℕ) (is : List Interval) (d : Interval) → length is ≡ k + 1 → d ≡ get_or is k d → MaximalFrom t 0 is → d.last + 1 ≡ clock → clocks (set is k (record { thread = d.thread; first = d.first; last = clock })) ≡ clocks is ++ clock ∷ []
clocks_longer t k clock is d len e s next =
    let j : Interval = record { thread = d.thread; first = d.first; last = clock } in
    ap clocks (set_last is k j len)
    ∙ clocks-longer (take k is) d j (Maximal-last t 0 (take k is) d (last_maximal t k is d len e s)) refl (sym next)
    ∙ ap (λ (r : List ℕ). r ++ clock ∷ []) (ap clocks (ap (λ (i : Interval). take k is ++ i ∷ []) e ∙ sym (split_last is k d len)))

-- a clock that does not prolong the last interval leaves room
pub room_at_end : (k clock : ℕ) (is : List Interval) (d : Interval) → length is ≡ k + 1 → d ≡ get_or is k d → next_of is ≤ clock → (d.last + 1 ≡ clock → ⊥) → room_from 0 is ≤ clock
room_at_end k clock is d len e le other =
    let ends : reach 0 is ≡ d.last + 1 = reach_last 0 is k d len ∙ ap (λ (i : Interval). i.last + 1) (sym e) in
    let room : room_from 0 is ≡ d.last + 2 = ap (room_from 0) (split_last is k d len) ∙ room_from-push 0 (take k is) (get_or is k d) ∙ ap (λ (i : Interval). i.last + 2) (sym e) in
    omega (arith, other)

pub same_at : {X : Type 0} (xs : List X) (k : ℕ) (a b : X) → k < length xs → a ≡ get_or xs k a → b ≡ get_or xs k b → a ≡ b
same_at xs k a b lt p q = p ∙ get_or_default xs k a b lt ∙ sym q

pub room_at_start : (clock : ℕ) (is : List Interval) → length is ≤ 0 → room_from 0 is ≤ clock
room_at_start clock is le = rw (nil_from_length is (omega arith)) (omega arith)

-- ---- where each noted clock is below another, the intervals end before it

all_split : (P : ℕ → Type 0) (xs ys : List ℕ) → AllByRecursion P (xs ++ ys) → AllByRecursion P xs × AllByRecursion P ys
all_split P [] ys all = (tt, all)
all_split P (x ∷ xs) ys all = let rest = all_split P xs ys all.1 in ((all.0, rest.0), rest.1)

numbers_below : (clock start n : ℕ) → AllByRecursion (λ k. k < clock) (numbers start (suc n)) → start + n < clock
numbers_below clock start zero all = omega (arith, all.0)
numbers_below clock start (suc n) all = omega (arith, numbers_below clock (start + 1) n all.1)

reach_noted : (t low from clock : ℕ) (is : List Interval) → MaximalFrom t low is → from ≤ clock → AllByRecursion (λ k. k < clock) (clocks is) → reach from is ≤ clock
reach_noted t low from clock [] s le all = le
reach_noted t low from clock (i ∷ is) s le all =
    let parts = all_split (λ k. k < clock) (clocks_in i) (clocks is) all in
    let count : i.last + 1 - i.first ≡ suc (i.last - i.first) = omega (arith, s.2) in
    let last : i.first + (i.last - i.first) < clock = numbers_below clock i.first (i.last - i.first) (subst (λ (n : ℕ). AllByRecursion (λ k. k < clock) (numbers i.first n)) count parts.0) in
    reach_noted t (i.last + 2) (i.last + 1) clock is s.3 (omega (arith, last, s.2)) parts.1

pub next_noted : (t clock : ℕ) (is : List Interval) → MaximalFrom t 0 is → All (λ noted. noted < clock) (clocks is) → next_of is ≤ clock
next_noted t clock is s all = reach_noted t 0 0 clock is s (omega arith) (recursion_from_All (λ noted. noted < clock) (clocks is) all)
