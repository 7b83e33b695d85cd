-- A seat that takes in another one.
use Rattle.std.proofs.Common.{◌≡◌, ◌⊎◌, inl, inr, ℕ, zero, suc, ◌<◌, ◌≤◌, ◌+◌, List, [], ◌∷◌, ◌++◌, length, get_or, map, Bool, true, false, refl, arith, ap, sym, ◌∙◌, subst}
use Rattle.std.specs.Prelude.{Contains, ◌==◌}
use Rattle.std.proofs.lemmas.List.{map-append}
use Rattle.projection_laws.proofs.Places.{equal, unequal}
use Rattle.std.proofs.lemmas.List.{length-append}
use Rattle.vm_model.specs.Program.{PlainProgram}
use Rattle.gate_core.specs.Seats.{SeatView, SeesMore}
use Rattle.lane_core.specs.Lanes.{LaneView}
use Rattle.lane_core.proofs.Laning.{follows_at}
use Rattle.lane_driver.specs.Working.{IsAtSeat}
use Rattle.lane_driver.specs.Joined.{AllOfSeat, IsOfSeat, number_of, numbers_of}

front : (xs ys : List ℕ) (t k : ℕ) → k < length xs → get_or xs k t ≡ t → get_or (xs ++ ys) k t ≡ t
front [] ys t k low e = absurd (omega (arith, low))
front (x ∷ xs) ys t zero low e = e
front (x ∷ xs) ys t (suc k) low e = front xs ys t k (omega (arith, low)) e

in_front : (xs ys : List ℕ) (t : ℕ) → Contains xs t → Contains (xs ++ ys) t
in_front xs ys t has = (has.0, omega (arith, has.1, length-append xs ys), front xs ys t has.0 has.1 has.2)

last : (xs : List ℕ) (x : ℕ) → get_or (xs ++ x ∷ []) (length xs) x ≡ x
last [] x = refl
last (y ∷ xs) x = last xs x

at_end : (xs : List ℕ) (x : ℕ) → Contains (xs ++ x ∷ []) x
at_end xs x = (length xs, omega (arith, length-append xs (x ∷ [])), last xs x)

-- what a join keeps
pub record Joins (old ended new : SeatView) : Type 0 where
  pub lanes : new.lanes ≡ old.lanes ++ ended.lanes
  pub entries : (lane : ℕ) → Contains old.lanes lane → new.own lane ≡ old.own lane
  pub ended_entries : (lane : ℕ) → Contains ended.lanes lane → new.own lane ≡ ended.own lane
  pub sees : SeesMore old new
  pub ended_sees : SeesMore ended new

pub first_of_seat : (p : PlainProgram) (lanes : ℕ) (seat : SeatView) (lane : LaneView) → IsAtSeat p lanes seat lane → IsOfSeat p lanes seat lane
first_of_seat p lanes seat lane at = record { has = subst (λ (ls : List ℕ). Contains ls lane.number) (sym at.has) (at_end [] lane.number); of = at.of; follows = at.follows }

kept_of_seat : (p : PlainProgram) (lanes : ℕ) (old ended new : SeatView) (all : List LaneView) → Joins old ended new → AllOfSeat p lanes old all → AllOfSeat p lanes new all
kept_of_seat p lanes old ended new [] joins of = tt
kept_of_seat p lanes old ended new (l ∷ all) joins of = (
  record {
    has = subst (λ (ls : List ℕ). Contains ls l.number) (sym joins.lanes) (in_front old.lanes ended.lanes l.number of.0.has);
    of = of.0.of;
    follows = follows_at p old new l joins.sees (joins.entries l.number of.0.has) of.0.follows;
  },
  kept_of_seat p lanes old ended new all joins of.1,
)

ended_of_seat : (p : PlainProgram) (lanes : ℕ) (old ended new : SeatView) (lane : LaneView) → Joins old ended new → IsAtSeat p lanes ended lane → IsOfSeat p lanes new lane
ended_of_seat p lanes old ended new lane joins at =
    let has : Contains ended.lanes lane.number = subst (λ (ls : List ℕ). Contains ls lane.number) (sym at.has) (at_end [] lane.number) in
    record {
      has = subst (λ (ls : List ℕ). Contains ls lane.number) (sym (joins.lanes ∙ ap (λ (ls : List ℕ). old.lanes ++ ls) at.has)) (at_end old.lanes lane.number);
      of = at.of;
      follows = follows_at p ended new lane joins.ended_sees (joins.ended_entries lane.number has) at.follows;
    }

push_of_seat : (p : PlainProgram) (lanes : ℕ) (seat : SeatView) (all : List LaneView) (lane : LaneView) → AllOfSeat p lanes seat all → IsOfSeat p lanes seat lane → AllOfSeat p lanes seat (all ++ lane ∷ [])
push_of_seat p lanes seat [] lane of one = (one, tt)
push_of_seat p lanes seat (l ∷ all) lane of one = (of.0, push_of_seat p lanes seat all lane of.1 one)

pub joined_of_seat : (p : PlainProgram) (lanes : ℕ) (old ended new : SeatView) (all : List LaneView) (lane : LaneView) → Joins old ended new → AllOfSeat p lanes old all → IsAtSeat p lanes ended lane → AllOfSeat p lanes new (all ++ lane ∷ [])
joined_of_seat p lanes old ended new all lane joins of at = push_of_seat p lanes new all lane (kept_of_seat p lanes old ended new all joins of) (ended_of_seat p lanes old ended new lane joins at)

-- ---- numbers

pub number_front : {W : Type 0} (f : W → ℕ) (xs : List W) (w : W) (t : ℕ) → Contains (map f xs) t → Contains (map f (xs ++ w ∷ [])) t
number_front f xs w t has = subst (λ (ns : List ℕ). Contains ns t) (sym (map-append f xs (w ∷ []))) (in_front (map f xs) (f w ∷ []) t has)

pub number_last : {W : Type 0} (f : W → ℕ) (xs : List W) (w : W) (t : ℕ) → f w ≡ t → Contains (map f (xs ++ w ∷ [])) t
number_last f xs w t is = subst (λ (ns : List ℕ). Contains ns t) (sym (map-append f xs (w ∷ []))) (subst (λ (n : ℕ). Contains (map f xs ++ f w ∷ []) n) is (at_end (map f xs) (f w)))

pub number_more : {W : Type 0} (f : W → ℕ) (xs : List W) (w : W) (k : ℕ) → f w ≡ k → ((t : ℕ) → 1 ≤ t → t < k → Contains (map f xs) t) → (t : ℕ) → 1 ≤ t → t < k + 1 → Contains (map f (xs ++ w ∷ [])) t
number_more f xs w k is all t some low = by_test (t == k) refl
  where
    by_test : (b : Bool) → (t == k) ≡ b → Contains (map f (xs ++ w ∷ [])) t
    by_test true same = number_last f xs w t (is ∙ sym (equal t k same))
    by_test false other = let apart = unequal t k other in number_front f xs w t (all t some (omega (arith, low, apart)))

pub number_all : {W : Type 0} (f : W → ℕ) (xs : List W) (w : W) (k : ℕ) → f w ≡ 0 → ((t : ℕ) → 1 ≤ t → t < k → Contains (map f xs) t) → (t : ℕ) → t < k → Contains (map f (xs ++ w ∷ [])) t
number_all f xs w k is all zero low = number_last f xs w zero is
number_all f xs w k is all (suc t) low = number_front f xs w (suc t) (all (suc t) (omega arith) low)

split_end : (xs : List ℕ) (y z k : ℕ) → k < length (xs ++ y ∷ []) → get_or (xs ++ y ∷ []) k z ≡ z → Contains xs z ⊎ (y ≡ z)
split_end [] y z zero within at = inr at
split_end [] y z (suc k) within at = absurd (omega (arith, within))
split_end (x ∷ xs) y z zero within at = inl (zero, omega arith, at)
split_end (x ∷ xs) y z (suc k) within at = more (split_end xs y z k (omega (arith, within)) at)
  where
    more : Contains xs z ⊎ (y ≡ z) → Contains (x ∷ xs) z ⊎ (y ≡ z)
    more (inl in') = inl (suc in'.0, omega (arith, in'.1), in'.2)
    more (inr is) = inr is

-- the number of what was taken from the end, or of what is left
pub number_split : {W : Type 0} (f : W → ℕ) (old xs : List W) (w : W) (k : ℕ) → old ≡ xs ++ w ∷ [] → Contains (map f old) k → Contains (map f xs) k ⊎ (f w ≡ k)
number_split f old xs w k e has =
    let there : Contains (map f xs ++ f w ∷ []) k = subst (λ (ns : List ℕ). Contains ns k) (ap (map f) e ∙ map-append f xs (w ∷ [])) has in
    split_end (map f xs) (f w) k there.0 there.1 there.2

-- one more lane out of those that are left
pub number_moved : {W : Type 0} (f : W → ℕ) (old xs : List W) (w : W) (ls new : List LaneView) (l : LaneView) (k : ℕ) → old ≡ xs ++ w ∷ [] → new ≡ ls ++ l ∷ [] → l.number ≡ f w → Contains (numbers_of ls) k ⊎ Contains (map f old) k
    → Contains (numbers_of new) k ⊎ Contains (map f xs) k
number_moved f old xs w ls new l k e e' is (inl there) = inl (subst (λ (ms : List LaneView). Contains (numbers_of ms) k) (sym e') (number_front number_of ls l k there))
number_moved f old xs w ls new l k e e' is (inr there) = by (number_split f old xs w k e there)
  where
    by : Contains (map f xs) k ⊎ (f w ≡ k) → Contains (numbers_of new) k ⊎ Contains (map f xs) k
    by (inl left) = inr left
    by (inr same) = inl (subst (λ (ms : List LaneView). Contains (numbers_of ms) k) (sym e') (number_last number_of ls l k (is ∙ same)))

pub number_done : {W : Type 0} (f : W → ℕ) (xs : List W) (ns : List ℕ) (k : ℕ) → xs ≡ [] → Contains ns k ⊎ Contains (map f xs) k → Contains ns k
number_done f xs ns k e (inl there) = there
number_done f xs ns k e (inr left) = let none : Contains [] k = subst (λ (ys : List _). Contains (map f ys) k) e left in absurd (omega (arith, none.1))

pub same_numbers : {W R : Type 0} (f : W → ℕ) (g : R → ℕ) (ws : List W) (rs : List R) → length rs ≡ length ws → ((i : ℕ) (r : R) (w : W) → i < length ws → g (get_or rs i r) ≡ f (get_or ws i w)) → map g rs ≡ map f ws
same_numbers f g [] [] size h = refl
same_numbers f g [] (r ∷ rs) size h = absurd (omega (arith, size))
same_numbers f g (w ∷ ws) [] size h = absurd (omega (arith, size))
same_numbers f g (w ∷ ws) (r ∷ rs) size h =
    ap (λ (n : ℕ). n ∷ map g rs) (h zero r w (omega arith)) ∙ ap (λ (ns : List ℕ). f w ∷ ns) (same_numbers f g ws rs (omega (arith, size)) (λ i r' w' low. h (suc i) r' w' (omega (arith, low))))

pub seat_has : (p : PlainProgram) (lanes : ℕ) (seat : SeatView) (ls : List LaneView) (k : ℕ) → AllOfSeat p lanes seat ls → Contains (numbers_of ls) k → Contains seat.lanes k
seat_has p lanes seat ls k of has = by ls of has.0 has.1 has.2
  where
    by : (ls : List LaneView) → AllOfSeat p lanes seat ls → (i : ℕ) → i < length (numbers_of ls) → get_or (numbers_of ls) i k ≡ k → Contains seat.lanes k
    by [] of i low at = absurd (omega (arith, low))
    by (l ∷ ls) of zero low at = subst (λ (n : ℕ). Contains seat.lanes n) at of.0.has
    by (l ∷ ls) of (suc i) low at = by ls of.1 i (omega (arith, low)) at
