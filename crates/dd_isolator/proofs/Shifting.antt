-- What a move does to the distances, at one place and in lists.
use Rattle.std.proofs.Common.{◌≡◌, ◌≢◌, ℕ, zero, suc, ◌+◌, ◌-◌, ◌<◌, ◌≤◌, min, List, [], ◌∷◌, length, refl, ◌∙◌, ap, arith}
use Rattle.std.specs.Prelude.{slice_index}
use Rattle.dd_isolator.specs.Shifts.{distance, moved, units, with_units, unit_shift, InOrder}

-- ---- one place

distance_to : (m x y : ℕ) → m ≤ distance x y → distance (moved m x y) y + m ≡ distance x y
distance_to m x y h = omega arith

distance_from : (m x y : ℕ) → m ≤ distance x y → distance x (moved m x y) ≡ m
distance_from m x y h = omega arith

distance_sym : (x y : ℕ) → distance x y ≡ distance y x
distance_sym x y = omega arith

moved-zero : (x y : ℕ) → moved 0 x y ≡ x
moved-zero x y = omega arith

pub moved_in_order : (m x y : ℕ) → InOrder x (moved m x y) (moved m x y) y
moved_in_order m x y = grind arith

share : (low high k : ℕ) → low ≤ high → min high k - min low k ≤ k
share low high k h = omega arith

shares : (high k n : ℕ) → min high k + min (high - k) n ≡ min high (k + n)
shares high k n = omega arith

share_order : (low high k : ℕ) → low ≤ high → min low k ≤ min high k
share_order low high k h = omega arith

summed : (l h l' h' ll hh k n a b : ℕ) → l + l' ≡ ll → h + h' ≡ hh → l ≤ h → l' ≤ h' → a + (h - l) ≡ k → b + (h' - l') ≡ n → (a + b) + (hh - ll) ≡ k + n
summed l h l' h' ll hh k n a b p q r s t u = omega arith

gone : (l h l' h' ll hh a b : ℕ) → l + l' ≡ ll → h + h' ≡ hh → l ≤ h → l' ≤ h' → a ≡ h - l → b ≡ h' - l' → a + b ≡ hh - ll
gone l h l' h' ll hh a b p q r s t u = omega arith

-- ---- lists

pub length-with_units : (low high : ℕ) (xs ys : List ℕ) → length (with_units low high xs ys) ≡ length xs
unfolding with_units
length-with_units low high [] ys = refl
length-with_units low high (x ∷ xs) [] = refl
length-with_units low high (x ∷ xs) (y ∷ ys) = ap suc (length-with_units (low - distance x y) (high - distance x y) xs ys)

pub units_sym : (xs ys : List ℕ) → units xs ys ≡ units ys xs
units_sym [] [] = refl
units_sym [] (y ∷ ys) = refl
units_sym (x ∷ xs) [] = refl
units_sym (x ∷ xs) (y ∷ ys) = let e : units xs ys ≡ units ys xs = units_sym xs ys in omega arith

-- what is left to the second list
units_left : (low high : ℕ) (xs ys : List ℕ) → low ≤ high → units (with_units low high xs ys) ys + (min high (units xs ys) - min low (units xs ys)) ≡ units xs ys
unfolding with_units
units_left low high [] ys h = omega arith
units_left low high (x ∷ xs) [] h = omega arith
units_left low high (x ∷ xs) (y ∷ ys) h =
    let here : distance (moved (min high (distance x y) - min low (distance x y)) x y) y + (min high (distance x y) - min low (distance x y)) ≡ distance x y = distance_to _ x y (share low high (distance x y) h) in
    let rest : units (with_units (low - distance x y) (high - distance x y) xs ys) ys + (min (high - distance x y) (units xs ys) - min (low - distance x y) (units xs ys)) ≡ units xs ys = units_left (low - distance x y) (high - distance x y) xs ys (omega arith) in
    joined_left (distance x y) (units xs ys) low high _ _ here rest h
  where
    joined_left : (k n low high a b : ℕ) → a + (min high k - min low k) ≡ k → b + (min (high - k) n - min (low - k) n) ≡ n → low ≤ high → (a + b) + (min high (k + n) - min low (k + n)) ≡ k + n
    joined_left k n low high a b here rest h = summed (min low k) (min high k) (min (low - k) n) (min (high - k) n) (min low (k + n)) (min high (k + n)) k n a b (shares low k n) (shares high k n) (share_order low high k h) (share_order (low - k) (high - k) n (omega arith)) here rest

-- what was moved
units_gone : (low high : ℕ) (xs ys : List ℕ) → low ≤ high → units xs (with_units low high xs ys) ≡ min high (units xs ys) - min low (units xs ys)
unfolding with_units
units_gone low high [] ys h = omega arith
units_gone low high (x ∷ xs) [] h = nothing x xs
  where
    nothing : (x : ℕ) (xs : List ℕ) → units (x ∷ xs) (x ∷ xs) ≡ min high 0 - min low 0
    nothing x [] = omega arith
    nothing x (y ∷ ys) = let e : units (y ∷ ys) (y ∷ ys) ≡ min high 0 - min low 0 = nothing y ys in omega arith
units_gone low high (x ∷ xs) (y ∷ ys) h =
    let here : distance x (moved (min high (distance x y) - min low (distance x y)) x y) ≡ min high (distance x y) - min low (distance x y) = distance_from _ x y (share low high (distance x y) h) in
    let rest : units xs (with_units (low - distance x y) (high - distance x y) xs ys) ≡ min (high - distance x y) (units xs ys) - min (low - distance x y) (units xs ys) = units_gone (low - distance x y) (high - distance x y) xs ys (omega arith) in
    joined_gone (distance x y) (units xs ys) low high _ _ here rest h
  where
    joined_gone : (k n low high a b : ℕ) → a ≡ min high k - min low k → b ≡ min (high - k) n - min (low - k) n → low ≤ high → a + b ≡ min high (k + n) - min low (k + n)
    joined_gone k n low high a b here rest h = gone (min low k) (min high k) (min (low - k) n) (min (high - k) n) (min low (k + n)) (min high (k + n)) a b (shares low k n) (shares high k n) (share_order low high k h) (share_order (low - k) (high - k) n (omega arith)) here rest

pub units_with : (low high : ℕ) (xs ys : List ℕ) → low ≤ high → high ≤ units xs ys → (units xs (with_units low high xs ys) ≡ high - low) × (units (with_units low high xs ys) ys + (high - low) ≡ units xs ys)
units_with low high xs ys h k =
    let gone : units xs (with_units low high xs ys) ≡ min high (units xs ys) - min low (units xs ys) = units_gone low high xs ys h in
    let left : units (with_units low high xs ys) ys + (min high (units xs ys) - min low (units xs ys)) ≡ units xs ys = units_left low high xs ys h in
    (omega arith, omega arith)

pub with_none : (xs ys : List ℕ) → with_units 0 0 xs ys ≡ xs
unfolding with_units
with_none [] ys = refl
with_none (x ∷ xs) [] = refl
with_none (x ∷ xs) (y ∷ ys) =
    let here : moved (min 0 (distance x y) - min 0 (distance x y)) x y ≡ x = omega arith in
    let low : 0 - distance x y ≡ 0 = omega arith in
    ap (λ n. n ∷ with_units (0 - distance x y) (0 - distance x y) xs ys) here ∙ ap (λ n. x ∷ with_units n n xs ys) low ∙ ap (λ l. x ∷ l) (with_none xs ys)

-- each time of a list with units is one moved
pub moved_at : (low high : ℕ) (xs ys : List ℕ) (i : ℕ) → length ys ≡ length xs → (m : ℕ) × (slice_index (with_units low high xs ys) i ≡ moved m (slice_index xs i) (slice_index ys i))
unfolding with_units
moved_at low high [] [] i e = (0, omega arith)
moved_at low high [] (y ∷ ys) i e = absurd (omega arith)
moved_at low high (x ∷ xs) [] i e = absurd (omega arith)
moved_at low high (x ∷ xs) (y ∷ ys) zero e = (min high (distance x y) - min low (distance x y), refl)
moved_at low high (x ∷ xs) (y ∷ ys) (suc i) e = moved_at (low - distance x y) (high - distance x y) xs ys i (omega arith)

-- the unit shift of a place where two lists differ is one of the units
pub shift_is_unit : (xs ys : List ℕ) (i : ℕ) → length ys ≡ length xs → slice_index xs i ≢ slice_index ys i → (j : ℕ) × (j < units xs ys) × (with_units j (j + 1) xs ys ≡ unit_shift i xs ys)
unfolding with_units
shift_is_unit [] [] i e ne = absurd (ne refl)
shift_is_unit [] (y ∷ ys) i e ne = absurd (omega arith)
shift_is_unit (x ∷ xs) [] i e ne = absurd (omega arith)
shift_is_unit (x ∷ xs) (y ∷ ys) zero e ne =
    let here : moved (min (0 + 1) (distance x y) - min 0 (distance x y)) x y ≡ moved 1 x y = omega arith in
    let low : 0 - distance x y ≡ 0 = omega arith in
    let high : (0 + 1) - distance x y ≡ 0 = omega arith in (
      0,
      omega arith,
      ap (λ n. n ∷ with_units (0 - distance x y) ((0 + 1) - distance x y) xs ys) here
          ∙ ap (λ n. moved 1 x y ∷ with_units n ((0 + 1) - distance x y) xs ys) low
          ∙ ap (λ n. moved 1 x y ∷ with_units 0 n xs ys) high
          ∙ ap (λ l. moved 1 x y ∷ l) (with_none xs ys),
    )
shift_is_unit (x ∷ xs) (y ∷ ys) (suc i) e ne = later (shift_is_unit xs ys i (omega arith) ne)
  where
    later : (j : ℕ) × (j < units xs ys) × (with_units j (j + 1) xs ys ≡ unit_shift i xs ys) → (j : ℕ) × (j < distance x y + units xs ys) × (with_units j (j + 1) (x ∷ xs) (y ∷ ys) ≡ unit_shift (suc i) (x ∷ xs) (y ∷ ys))
    later r =
        let j : ℕ = r.0 in
        let k : ℕ = distance x y + j in
        let here : moved (min (distance x y + r.0 + 1) (distance x y) - min (distance x y + r.0) (distance x y)) x y ≡ x = omega arith in
        let low : distance x y + r.0 - distance x y ≡ r.0 = omega arith in
        let high : distance x y + r.0 + 1 - distance x y ≡ r.0 + 1 = omega arith in (
          distance x y + r.0,
          omega (arith, r.1),
          ap (λ n. n ∷ with_units (distance x y + r.0 - distance x y) (distance x y + r.0 + 1 - distance x y) xs ys) here
              ∙ ap (λ n. x ∷ with_units n (distance x y + r.0 + 1 - distance x y) xs ys) low
              ∙ ap (λ n. x ∷ with_units r.0 n xs ys) high
              ∙ ap (λ l. x ∷ l) r.2,
        )

-- lists that are no unit apart are one
pub same_from_units : (xs ys : List ℕ) → length ys ≡ length xs → units xs ys ≡ 0 → xs ≡ ys
same_from_units [] [] e u = refl
same_from_units [] (y ∷ ys) e u = absurd (omega arith)
same_from_units (x ∷ xs) [] e u = absurd (omega arith)
same_from_units (x ∷ xs) (y ∷ ys) e u =
    let here : x ≡ y = omega arith in
    ap (λ n. n ∷ xs) here ∙ ap (λ l. y ∷ l) (same_from_units xs ys (omega arith) (omega arith))
