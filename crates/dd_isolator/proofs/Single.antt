-- Unit shifts: where two lists differ at a place there is exactly one.
use Rattle.std.proofs.Common.{◌≡◌, ◌≢◌, ℕ, ◌<◌, ◌≤◌, List, length, get_or, sym, ◌∙◌, ap, subst, arith, inl, inr, length-set}
use Rattle.std.specs.Prelude.{◌⊎◌, slice_index}
use Rattle.std.proofs.lemmas.Bool.{cases_lt, cases_eq}
use Rattle.std.proofs.lemmas.Grind.{same_number_lists}
use Rattle.std.proofs.lemmas.List.{get_or-set_same, get_or-set_other, get_or_past}
use Rattle.dd_isolator.specs.Shifts.{moved, unit_shift, IsOneNearer, IsUnitShift}

nearer_differs : (x y z : ℕ) → IsOneNearer x y z → x ≢ y
nearer_differs x y z (inl h) = λ e. absurd (omega arith)
nearer_differs x y z (inr h) = λ e. absurd (omega arith)

nearer_is : (x y z : ℕ) → IsOneNearer x y z → z ≡ moved 1 x y
nearer_is x y z (inl h) = omega arith
nearer_is x y z (inr h) = omega arith

nearer_moves : (x y : ℕ) → x ≢ y → IsOneNearer x y (moved 1 x y)
nearer_moves x y ne = by_cases (cases_lt x y)
  where
    by_cases : (x < y) ⊎ (y ≤ x) → IsOneNearer x y (moved 1 x y)
    by_cases (inl h) = inl (h, omega arith)
    by_cases (inr h) = inr (omega arith, omega arith)

pub shift_differs : (i : ℕ) (xs ys shifted : List ℕ) → IsUnitShift i xs ys shifted → slice_index xs i ≢ slice_index ys i
shift_differs i xs ys shifted shift = nearer_differs (slice_index xs i) (slice_index ys i) (slice_index shifted i) shift.moves

-- a place where they differ is one of both
place_within : (i : ℕ) (xs ys : List ℕ) → length ys ≡ length xs → slice_index xs i ≢ slice_index ys i → i < length xs
place_within i xs ys same ne = by_cases (cases_lt i (length xs))
  where
    by_cases : (i < length xs) ⊎ (length xs ≤ i) → i < length xs
    by_cases (inl h) = h
    by_cases (inr h) = absurd (ne (get_or_past xs i 0 h ∙ sym (get_or_past ys i 0 (omega arith))))

pub shift_is : (i : ℕ) (xs ys shifted : List ℕ) → length ys ≡ length xs → IsUnitShift i xs ys shifted → shifted ≡ unit_shift i xs ys
shift_is i xs ys shifted same shift =
    let within : i < length xs = place_within i xs ys same (shift_differs i xs ys shifted shift) in
    let m : ℕ = moved 1 (slice_index xs i) (slice_index ys i) in
    same_number_lists shifted (unit_shift i xs ys) (shift.same_length ∙ sym (length-set xs i (moved 1 (slice_index xs i) (slice_index ys i)))) (λ k h. by_place k within (cases_eq k i))
  where
    by_place : (k : ℕ) → i < length xs → (k ≡ i) ⊎ (k ≢ i) → get_or shifted k 0 ≡ get_or (unit_shift i xs ys) k 0
    by_place k within (inl e) =
        ap (λ n. get_or shifted n 0) e
        ∙ nearer_is (slice_index xs i) (slice_index ys i) (slice_index shifted i) shift.moves
        ∙ sym (get_or-set_same xs i (moved 1 (slice_index xs i) (slice_index ys i)) 0 within)
        ∙ ap (λ n. get_or (unit_shift i xs ys) n 0) (sym e)
    by_place k within (inr ne) = shift.others_stay k ne ∙ sym (get_or-set_other xs i k (moved 1 (slice_index xs i) (slice_index ys i)) 0 ne)

pub shift_exists : (i : ℕ) (xs ys : List ℕ) → length ys ≡ length xs → slice_index xs i ≢ slice_index ys i → IsUnitShift i xs ys (unit_shift i xs ys)
shift_exists i xs ys same ne = record {
  same_length = length-set xs i (moved 1 (slice_index xs i) (slice_index ys i));
  others_stay = λ k other. get_or-set_other xs i k (moved 1 (slice_index xs i) (slice_index ys i)) 0 other;
  moves = subst (IsOneNearer (slice_index xs i) (slice_index ys i)) (sym (get_or-set_same xs i (moved 1 (slice_index xs i) (slice_index ys i)) 0 (place_within i xs ys same ne))) (nearer_moves (slice_index xs i) (slice_index ys i) ne);
}
