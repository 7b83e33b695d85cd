-- The loops of the reader, and the bounds of its numbers.
use Rattle.std.proofs.Common.{◌≡◌, ℕ, zero, suc, ◌+◌, ◌-◌, ◌*◌, ◌^◌, ◌<◌, ◌≤◌, cond, eqb, List, Result, Ok, Err, refl, sym, ap, ◌∙◌, eq-eqb, arith}
use Rattle.std.proofs.lemmas.Bool.{ne_eqb}
use Rattle.std.proofs.Math.Nat.{pow-suc}
use Rattle.vm_model.specs.Failures.{Fails}
use Rattle.schedule_log.specs.declared.interval.Interval.{Interval}
use Rattle.schedule_log.specs.declared.fault.Refusal.{Refusal}
use Rattle.vm_model.specs.declared.memory.Failure.{Failure}
use Rattle.vm_model.specs.declared.memory.Failure.TheVariants as failure
use Rattle.schedule_log.specs.Logs.{put}
use Rattle.schedule_log.specs.Reading.{interval_at, intervals_at, thread_at, threads_at}

-- ---- powers of 128

pub power_step : (n : ℕ) → 128 ^ (n + 1) ≡ 128 ^ n * 128
power_step n = let e : n + 1 ≡ suc n = omega arith in ap (λ (k : ℕ). 128 ^ k) e ∙ pow-suc 128 n

pub power_least : (n : ℕ) → 128 ≤ 128 ^ (n + 1)
power_least zero = omega arith
power_least (suc n) = omega (arith, power_step (suc n), power_least n, let e : 128 ^ suc n ≡ 128 ^ (n + 1) = ap (λ (k : ℕ). 128 ^ k) (omega arith) in e)

pub power_most : (n : ℕ) → n ≤ 4 → 128 ^ n ≤ 268435456
power_most zero le = omega arith
power_most (suc zero) le = omega arith
power_most (suc (suc zero)) le = omega arith
power_most (suc (suc (suc zero))) le = omega arith
power_most (suc (suc (suc (suc zero)))) le = omega arith
power_most (suc (suc (suc (suc (suc n))))) le = absurd (omega arith)

-- ---- the intervals of a thread

pub intervals_go_on : (count k budget t next : ℕ) (placed : List Interval) (bytes : List ℕ) (i : Interval) (after : List ℕ) (total : Result (List Interval × List ℕ) Refusal) → k < count → interval_at budget t next placed bytes ≡ Ok (i, after)
    → intervals_at (count - k) budget t next placed bytes ≡ total → intervals_at (count - (k + 1)) budget t (i.last + 1) (put i placed) after ≡ total
unfolding intervals_at
intervals_go_on count k budget t next placed bytes i after total lt h so_far =
    let e : count - k ≡ suc (count - (k + 1)) = omega arith in
    let one : intervals_at (count - k) budget t next placed bytes ≡ intervals_at (count - (k + 1)) budget t (i.last + 1) (put i placed) after = rw (e, h) refl in
    sym one ∙ so_far

pub intervals_end : (e : (Failure Refusal)) (count k budget t next : ℕ) (placed : List Interval) (bytes : List ℕ) (total : Result (List Interval × List ℕ) Refusal) → k < count → Fails e (interval_at budget t next placed bytes)
    → intervals_at (count - k) budget t next placed bytes ≡ total → Fails e total
unfolding intervals_at
intervals_end failure.Memory count k budget t next placed bytes total lt h so_far = tt
intervals_end (failure.Fault f) count k budget t next placed bytes total lt h so_far =
    let e : count - k ≡ suc (count - (k + 1)) = omega arith in
    let one : intervals_at (count - k) budget t next placed bytes ≡ Err f = rw (e, h) refl in
    sym so_far ∙ one

pub intervals_done : (count k budget t next : ℕ) (placed : List Interval) (bytes : List ℕ) (total : Result (List Interval × List ℕ) Refusal) → count ≤ k → intervals_at (count - k) budget t next placed bytes ≡ total → total ≡ Ok (placed, bytes)
unfolding intervals_at
intervals_done count k budget t next placed bytes total le so_far =
    let e : count - k ≡ 0 = omega arith in
    let one : intervals_at (count - k) budget t next placed bytes ≡ Ok (placed, bytes) = rw e refl in
    sym so_far ∙ one

-- ---- the threads

pub threads_go_on : (count k budget least : ℕ) (placed : List Interval) (bytes : List ℕ) (after : List Interval) (rest : List ℕ) (total : Result (List Interval × List ℕ) Refusal) → k < count → least ≡ cond (eqb (count - (k + 1)) 0) 1 0 → thread_at budget k least placed bytes ≡ Ok (after, rest)
    → threads_at (count - k) budget k placed bytes ≡ total → threads_at (count - (k + 1)) budget (k + 1) after rest ≡ total
unfolding threads_at
threads_go_on count k budget least placed bytes after rest total lt l h so_far =
    let e : count - k ≡ suc (count - (k + 1)) = omega arith in
    let one : threads_at (count - k) budget k placed bytes ≡ threads_at (count - (k + 1)) budget (k + 1) after rest = rw (e, ← l, h) refl in
    sym one ∙ so_far

pub threads_end : (e : (Failure Refusal)) (count k budget least : ℕ) (placed : List Interval) (bytes : List ℕ) (total : Result (List Interval × List ℕ) Refusal) → k < count → least ≡ cond (eqb (count - (k + 1)) 0) 1 0 → Fails e (thread_at budget k least placed bytes)
    → threads_at (count - k) budget k placed bytes ≡ total → Fails e total
unfolding threads_at
threads_end failure.Memory count k budget least placed bytes total lt l h so_far = tt
threads_end (failure.Fault f) count k budget least placed bytes total lt l h so_far =
    let e : count - k ≡ suc (count - (k + 1)) = omega arith in
    let one : threads_at (count - k) budget k placed bytes ≡ Err f = rw (e, ← l, h) refl in
    sym so_far ∙ one

pub threads_done : (count k budget : ℕ) (placed : List Interval) (bytes : List ℕ) (total : Result (List Interval × List ℕ) Refusal) → count ≤ k → threads_at (count - k) budget k placed bytes ≡ total → total ≡ Ok (placed, bytes)
unfolding threads_at
threads_done count k budget placed bytes total le so_far =
    let e : count - k ≡ 0 = omega arith in
    let one : threads_at (count - k) budget k placed bytes ≡ Ok (placed, bytes) = rw e refl in
    sym so_far ∙ one

pub least_last : (count k least : ℕ) → k + 1 ≡ count → least ≡ 1 → least ≡ cond (eqb (count - (k + 1)) 0) 1 0
least_last count k least e l = rw (eq-eqb (count - (k + 1)) 0 (omega arith)) l

pub least_other : (count k least : ℕ) → k < count → (k + 1 ≡ count → ⊥) → least ≡ 0 → least ≡ cond (eqb (count - (k + 1)) 0) 1 0
least_other count k least lt ne l = rw (ne_eqb (count - (k + 1)) 0 (λ e. ne (omega arith))) l
