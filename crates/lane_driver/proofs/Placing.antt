-- What the table has of each thread.
use Rattle.std.proofs.Common.{◌≡◌, ◌≢◌, ◌⊎◌, inl, inr, ℕ, zero, suc, ◌%◌, ◌<◌, ◌≤◌, Bool, true, false, List, [], ◌∷◌, ◌++◌, length, get_or, replicate, Option, Some, None, refl, arith, ap, sym, ◌∙◌, subst}
use Rattle.std.specs.Prelude.{◌==◌, slice_get, slice_set, Contains}
use Rattle.std.proofs.lemmas.List.{append-nil, append_assoc, length-set}
use Rattle.vm_model.specs.Program.{PlainProgram}
use Rattle.projection_laws.proofs.Places.{equal, none_some, set_elsewhere, some_same, unequal}
use Rattle.gate_core.specs.Seats.{SeatView, of_thread}
use Rattle.lane_core.specs.Parts.{FollowsAt, IsPart}
use Rattle.lane_core.specs.Slots.{AllFollow, AreOfLane, threads_in}
use Rattle.lane_core.specs.Lanes.{AreThreads, LanePart, LaneView, part_before, parts_of}
use Rattle.lane_core.specs.declared.part.Part.{Part}
use Rattle.lane_core.specs.declared.slot.Slot.{Slot}
use Rattle.lane_driver.specs.Joined.{AllOfSeat, numbers_of}
use Rattle.lane_driver.specs.Tables.{AllThreads, FitsThread, FitsThreads, Kept, place, place_lanes}

-- ---- placing

pub place_more : (xs : List LanePart) (x : LanePart) (table : List (Option Kept)) → place (xs ++ x ∷ []) table ≡ slice_set (place xs table) x.0 (Some (x.1, x.2))
place_more [] x table = refl
place_more (y ∷ xs) x table = place_more xs x (slice_set table y.0 (Some (y.1, y.2)))

pub place_lanes_more : (ls : List LaneView) (l : LaneView) (table : List (Option Kept)) → place_lanes (ls ++ l ∷ []) table ≡ place (parts_of l.slots) (place_lanes ls table)
place_lanes_more [] l table = refl
place_lanes_more (k ∷ ls) l table = place_lanes_more ls l (place (parts_of k.slots) table)

pub set_past : (xs : List (Option Kept)) (i : ℕ) (x : Option Kept) → length xs ≤ i → slice_set xs i x ≡ xs
set_past [] i x past = refl
set_past (y ∷ xs) zero x past = absurd (omega (arith, past))
set_past (y ∷ xs) (suc i) x past = ap (λ (ys : List (Option Kept)). y ∷ ys) (set_past xs i x (omega (arith, past)))

pub threads_more : (ls : List LaneView) (l : LaneView) → AllThreads ls → AreThreads l.number l.lanes (threads_in l.slots) → AllThreads (ls ++ l ∷ [])
threads_more [] l all one = (one, tt)
threads_more (k ∷ ls) l all one = (all.0, threads_more ls l all.1 one)

-- ---- one lane

got_there : (xs : List (Option Kept)) (i : ℕ) (x y : Option Kept) → slice_get (slice_set xs i y) i ≡ Some x → y ≡ x
got_there [] i x y e = absurd (none_some x e)
got_there (z ∷ xs) zero x y e = some_same y x e
got_there (z ∷ xs) (suc i) x y e = got_there xs i x y e

-- before some slots of a lane are placed: of a thread that isn't there, and isn't of these slots, there is no entry
abbrev FitsIn : PlainProgram → ℕ → SeatView → List ℕ → List Slot → ℕ → Option Kept → Type 0
FitsIn p lanes seat done xs t None = (Contains (threads_in xs) t → ⊥) → Contains done (t % lanes) → of_thread t (seat.own (t % lanes)) ≡ []
FitsIn p lanes seat done xs t (Some k) = IsPart p seat (t % lanes) t (record { local = k.0; folding = k.1 })

abbrev FitsBefore : PlainProgram → ℕ → SeatView → List ℕ → List Slot → List (Option Kept) → Type 0
FitsBefore p lanes seat done xs table = (t : ℕ) (x : Option Kept) → slice_get table t ≡ Some x → FitsIn p lanes seat done xs t x

not_in : (s : Slot) (rest : List Slot) (t : ℕ) → s.thread ≢ t → (Contains (threads_in rest) t → ⊥) → Contains (threads_in (s ∷ rest)) t → ⊥
not_in s rest t other none has = by has.0 has.1 has.2
  where
    by : (k : ℕ) → k < length (threads_in (s ∷ rest)) → get_or (threads_in (s ∷ rest)) k t ≡ t → ⊥
    by zero within at = other at
    by (suc k) within at = none (k, omega (arith, within), at)

later : (p : PlainProgram) (lanes : ℕ) (seat : SeatView) (done : List ℕ) (s : Slot) (rest : List Slot) (t : ℕ) (x : Option Kept) → s.thread ≢ t → FitsIn p lanes seat done (s ∷ rest) t x → FitsIn p lanes seat done rest t x
later p lanes seat done s rest t None other fits = λ none of. fits (not_in s rest t other none) of
later p lanes seat done s rest t (Some k) other fits = fits

-- a slot whose thread wasn't begun
skipped : (p : PlainProgram) (lanes n : ℕ) (seat : SeatView) (done : List ℕ) (s : Slot) (rest : List Slot) (table : List (Option Kept)) → s.thread % lanes ≡ n → of_thread s.thread (seat.own n) ≡ []
    → FitsBefore p lanes seat done (s ∷ rest) table → FitsBefore p lanes seat done rest table
skipped p lanes n seat done s rest table of none fits t x at = by (s.thread == t) refl x (fits t x at)
  where
    by : (b : Bool) → (s.thread == t) ≡ b → (x : Option Kept) → FitsIn p lanes seat done (s ∷ rest) t x → FitsIn p lanes seat done rest t x
    by true same None fit = λ absent within. subst (λ (u : ℕ). of_thread u (seat.own (u % lanes)) ≡ []) (equal s.thread t same) (subst (λ (m : ℕ). of_thread s.thread (seat.own m) ≡ []) (sym of) none)
    by true same (Some k) fit = fit
    by false other x fit = later p lanes seat done s rest t x (unequal s.thread t other) fit

-- a slot whose thread was begun
placed_one : (p : PlainProgram) (lanes n : ℕ) (seat : SeatView) (done : List ℕ) (s : Slot) (part : Part) (rest : List Slot) (table : List (Option Kept)) → s.thread % lanes ≡ n → IsPart p seat n s.thread part
    → FitsBefore p lanes seat done (s ∷ rest) table → FitsBefore p lanes seat done rest (slice_set table s.thread (Some (part.local, part.folding)))
placed_one p lanes n seat done s part rest table of is fits t x at = by (s.thread == t) refl
  where
    by : (b : Bool) → (s.thread == t) ≡ b → FitsIn p lanes seat done rest t x
    by true same =
        let here : s.thread ≡ t = equal s.thread t same in
        let found : Some (part.local, part.folding) ≡ x = got_there table s.thread x (Some (part.local, part.folding)) (subst (λ (u : ℕ). slice_get (slice_set table s.thread (Some (part.local, part.folding))) u ≡ Some x) (sym here) at) in
        subst (λ (y : Option Kept). FitsIn p lanes seat done rest t y) found
        (subst (λ (u : ℕ). IsPart p seat (u % lanes) u part) here (subst (λ (m : ℕ). IsPart p seat m s.thread part) (sym of) is))
    by false other =
        let apart : s.thread ≢ t = unequal s.thread t other in
        later p lanes seat done s rest t x apart (fits t x (sym (set_elsewhere table s.thread t (Some (part.local, part.folding)) apart) ∙ at))

slots_fit : (p : PlainProgram) (lanes n : ℕ) (seat : SeatView) (done : List ℕ) (xs : List Slot) (table : List (Option Kept)) → AreOfLane lanes n (threads_in xs) → AllFollow p seat n xs → FitsBefore p lanes seat done xs table
    → FitsBefore p lanes seat done [] (place (parts_of xs) table)
slots_fit p lanes n seat done [] table of all fits = fits
slots_fit p lanes n seat done (s ∷ rest) table of all fits = by s.part all.0 (λ next h. slots_fit p lanes n seat done rest next of.1 all.1 h)
  where
    by : (part : Option Part) → FollowsAt p seat n s.thread part → ((next : List (Option Kept)) → FitsBefore p lanes seat done rest next → FitsBefore p lanes seat done [] (place (parts_of rest) next))
        → FitsBefore p lanes seat done [] (place (part_before s.thread part (parts_of rest)) table)
    by None follows go = go table (skipped p lanes n seat done s rest table of.0 follows.1 fits)
    by (Some part) follows go = go (slice_set table s.thread (Some (part.local, part.folding))) (placed_one p lanes n seat done s part rest table of.0 follows fits)

-- ---- all lanes

split_last : (xs : List ℕ) (y z : ℕ) → Contains (xs ++ y ∷ []) z → Contains xs z ⊎ (y ≡ z)
split_last xs y z has = by xs has.0 has.1 has.2
  where
    by : (xs : List ℕ) (k : ℕ) → k < length (xs ++ y ∷ []) → get_or (xs ++ y ∷ []) k z ≡ z → Contains xs z ⊎ (y ≡ z)
    by [] zero within at = inr at
    by [] (suc k) within at = absurd (omega (arith, within))
    by (x ∷ xs) zero within at = inl (zero, omega arith, at)
    by (x ∷ xs) (suc k) within at = more (by xs k (omega (arith, within)) at)
      where
        more : Contains xs z ⊎ (y ≡ z) → Contains (x ∷ xs) z ⊎ (y ≡ z)
        more (inl in') = inl (suc in'.0, omega (arith, in'.1), in'.2)
        more (inr is) = inr is

place_length : (xs : List LanePart) (table : List (Option Kept)) → length (place xs table) ≡ length table
place_length [] table = refl
place_length (x ∷ xs) table = place_length xs (slice_set table x.0 (Some (x.1, x.2))) ∙ length-set table x.0 (Some (x.1, x.2))

within : (xs : List (Option Kept)) (t : ℕ) (x : Option Kept) → slice_get xs t ≡ Some x → t < length xs
within [] t x e = absurd (none_some x e)
within (y ∷ xs) zero x e = omega arith
within (y ∷ xs) (suc t) x e = omega (arith, within xs t x e)

before : (p : PlainProgram) (lanes : ℕ) (seat : SeatView) (done : List ℕ) (l : LaneView) (table : List (Option Kept)) → l.lanes ≡ lanes → AreThreads l.number l.lanes (threads_in l.slots) → length table ≤ 64 → FitsThreads p lanes seat done table
    → FitsBefore p lanes seat (done ++ l.number ∷ []) l.slots table
before p lanes seat done l table of threads few fits t x at = by x (fits t x at) (omega (arith, within table t x at, few))
  where
    by : (x : Option Kept) → FitsThread p lanes seat done t x → t < 64 → FitsIn p lanes seat (done ++ l.number ∷ []) l.slots t x
    by None fit low = λ absent has. one (split_last done l.number (t % lanes) has) absent
      where
        one : Contains done (t % lanes) ⊎ (l.number ≡ t % lanes) → (Contains (threads_in l.slots) t → ⊥) → of_thread t (seat.own (t % lanes)) ≡ []
        one (inl old) absent = fit old
        one (inr is) absent = absurd (absent (threads.whole t low (ap (λ (m : ℕ). t % m) of ∙ sym is)))
    by (Some k) fit low = fit

after : (p : PlainProgram) (lanes : ℕ) (seat : SeatView) (done : List ℕ) (table : List (Option Kept)) → FitsBefore p lanes seat done [] table → FitsThreads p lanes seat done table
after p lanes seat done table fits t x at = by x (fits t x at)
  where
    by : (x : Option Kept) → FitsIn p lanes seat done [] t x → FitsThread p lanes seat done t x
    by None fit = λ has. fit (λ in'. omega (arith, in'.1)) has
    by (Some k) fit = fit

pub lanes_fit : (p : PlainProgram) (lanes : ℕ) (seat : SeatView) (done : List ℕ) (ls : List LaneView) (table : List (Option Kept)) → AllOfSeat p lanes seat ls → AllThreads ls → length table ≤ 64 → FitsThreads p lanes seat done table
    → FitsThreads p lanes seat (done ++ numbers_of ls) (place_lanes ls table)
lanes_fit p lanes seat done [] table of threads few fits = subst (λ (ns : List ℕ). FitsThreads p lanes seat ns table) (sym (append-nil done)) fits
lanes_fit p lanes seat done (l ∷ ls) table of threads few fits =
    let one : FitsThreads p lanes seat (done ++ l.number ∷ []) (place (parts_of l.slots) table) =
    after p lanes seat (done ++ l.number ∷ []) (place (parts_of l.slots) table)
    (slots_fit p lanes l.number seat (done ++ l.number ∷ []) l.slots table (subst (λ (m : ℕ). AreOfLane m l.number (threads_in l.slots)) of.0.of threads.0.of_lane) of.0.follows.each (before p lanes seat done l table of.0.of threads.0 few fits)) in
    subst (λ (ns : List ℕ). FitsThreads p lanes seat ns (place_lanes ls (place (parts_of l.slots) table))) (append_assoc done (l.number ∷ []) (numbers_of ls))
    (lanes_fit p lanes seat (done ++ l.number ∷ []) ls (place (parts_of l.slots) table) of.1 threads.1 (omega (arith, few, place_length (parts_of l.slots) table)) one)

none_there : (n t : ℕ) (x : Option Kept) → slice_get (replicate n None) t ≡ Some x → None ≡ x
none_there zero t x e = absurd (none_some x e)
none_there (suc n) zero x e = some_same None x e
none_there (suc n) (suc t) x e = none_there n t x e

-- an empty table
pub none_fit : (p : PlainProgram) (lanes : ℕ) (seat : SeatView) (n : ℕ) → FitsThreads p lanes seat [] (replicate n None)
none_fit p lanes seat n t x at = subst (λ (y : Option Kept). FitsThread p lanes seat [] t y) (none_there n t x at) (λ has. absurd (omega (arith, has.1)))

pub place_lanes_length : (ls : List LaneView) (table : List (Option Kept)) → length (place_lanes ls table) ≡ length table
place_lanes_length [] table = refl
place_lanes_length (l ∷ ls) table = place_lanes_length ls (place (parts_of l.slots) table) ∙ place_length (parts_of l.slots) table
