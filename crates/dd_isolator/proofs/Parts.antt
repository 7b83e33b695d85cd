-- Where parts begin.
use Rattle.std.proofs.Common.{◌≡◌, ℕ, zero, suc, ◌+◌, ◌*◌, ◌/◌, ◌<◌, ◌≤◌, subst, arith}
use Rattle.std.proofs.lemmas.Nat.{mul-le, div-mul-add, le-div, div_below}
use Rattle.dd_isolator.specs.Shifts.{cut}

-- each part has a unit
pub cut_rises : (u n i : ℕ) → 0 < n → n ≤ u → cut u n i < cut u n (i + 1)
cut_rises u n i h k =
    let a : (i * u) / n * n ≤ i * u = omega arith in
    let b : (cut u n i + 1) * n ≤ (i + 1) * u = omega arith in
    omega (arith, le-div (cut u n i + 1) ((i + 1) * u) n h b)

-- none reaches past the last unit
pub cut_within : (u n i : ℕ) → 0 < n → i ≤ n → cut u n i ≤ u
cut_within u n i h k =
    let a : i * u ≤ n * u = mul-le i u n u k (omega arith) in
    let b : i * u / n < u + 1 = below i u n h a in
    omega arith
  where
    below : (i u n : ℕ) → 0 < n → i * u ≤ n * u → i * u / n < u + 1
    below i u n h a = grind arith

-- of two and more none has all
pub part_small : (u n i : ℕ) → 1 < n → n ≤ u → cut u n (i + 1) ≤ u → cut u n (i + 1) < u + cut u n i
part_small u n zero h k within =
    let u_pos : 0 < u = omega arith in
    let a : u * 2 ≤ u * n = mul-le u 2 u n (omega arith) (omega arith) in
    let b : (0 + 1) * u / n < u = div_below ((0 + 1) * u) n u (omega arith) (omega arith) in
    omega arith
part_small u n (suc i) h k within =
    let a : 1 * u ≤ suc i * u = mul-le 1 u (suc i) u (omega arith) (omega arith) in
    let b : 1 ≤ cut u n (suc i) = le-div 1 (suc i * u) n (omega arith) (omega arith) in
    omega arith

pub cut_units : (u i : ℕ) → 0 < u → cut u u i ≡ i
cut_units u i h = subst (λ n. n / u ≡ i) (omega arith) (div-mul-add i u 0 h)

pub cut_none : (u n : ℕ) → 0 < n → cut u n 0 ≡ 0
cut_none u n h = omega arith

pub cut_half : (u : ℕ) → cut u 2 1 ≡ u / 2
cut_half u = omega arith
