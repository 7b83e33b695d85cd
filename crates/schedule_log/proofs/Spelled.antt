-- What is spelled so is read.
use Rattle.std.proofs.Common.{◌≡◌, ℕ, zero, suc, ◌+◌, ◌-◌, ◌<◌, ◌≤◌, Bool, true, false, cond, eqb, ltb, leb, ◌&&◌, ◌||◌, List, [], ◌∷◌, ◌++◌, length, Ok, Err, refl, sym, ap, subst, ◌∙◌, append_assoc, inl, inr, eq-eqb, arith}
use Rattle.std.specs.Prelude.{filter}
use Rattle.std.specs.List.{AllByRecursion, list_any, flat_map}
use Rattle.std.proofs.lemmas.Bool.{ne_eqb, cases_lt, lt-ltb, le-ltb}
use Rattle.vm_model.specs.declared.ends.EndKind.{EndKind}
use Rattle.vm_model.specs.declared.ends.EndKind.TheVariants as ends
use Rattle.schedule_log.specs.declared.interval.Interval.{Interval}
use Rattle.schedule_log.specs.declared.fault.LogKind.TheVariants.{Trailing}
use Rattle.schedule_log.specs.declared.fault.LogFault.TheVariants.{At}
use Rattle.std.proofs.lemmas.List.{append-nil, length-append}
use Rattle.schedule_log.specs.declared.fault.Refusal.{Refusal}
use Rattle.schedule_log.specs.Intervals.{numbers, clock_count, MaximalFrom}
use Rattle.schedule_log.specs.Ordered.{reach, next_of, ApartFrom}
use Rattle.schedule_log.specs.Logs.{PlainLog, IsLawful, put, put_all}
use Rattle.schedule_log.specs.Ordered.{ContiguousFrom, BeginsOther, NeighboursDiffer}
use Rattle.schedule_log.specs.Spelling.{leb128, part, pairs, thread_spelling, thread_count, threads_spelling, end_mark, head, spelling}
use Rattle.schedule_log.specs.Reading.{interval_at, intervals_at, thread_at, threads_at, gapless_at, end_at, nothing_at, tail_at, head_at, log_at, with_offset, read_log}
use Rattle.schedule_log.specs.Intervals.{shares}
use Rattle.schedule_log.proofs.Fields.{done, number_again}
use Rattle.schedule_log.proofs.Orders.{thread_count_below}
use Rattle.schedule_log.proofs.Taken.{from_of, from_suc}
use Rattle.schedule_log.proofs.Lawful.{chain_of}
use Rattle.schedule_log.proofs.Gaps.{no_gap_contiguous}
use Rattle.schedule_log.proofs.Placed.{all_weaken, shares_none, same_or_other, part_cons_yes, part_cons_no, apart_from_contiguous, length_bound, part_shorter, last_thread_has, last_bound}

-- ---- an interval and the intervals of a thread

-- what is written of an interval fits the format, and it shares no clock with others
pub record CanCome (budget t next : ℕ) (placed : List Interval) (i : Interval) : Type 0 where
  pub thread : i.thread ≡ t
  pub from : next ≤ i.first
  pub gap : 0 < next → next < i.first
  pub ordered : i.first ≤ i.last
  pub below : i.last < budget
  pub free : list_any (shares i.first i.last) placed ≡ false

no_gap : (next gap : ℕ) → (0 < next → 0 < gap) → (ltb 0 next && eqb gap 0) ≡ false
no_gap zero gap h = refl
no_gap (suc next) gap h = let some : 0 < gap = h (omega arith) in rw (lt-ltb 0 (suc next) (omega arith), ne_eqb gap 0 (λ e. omega arith)) refl

not_leb : (a b : ℕ) → b < a → leb a b ≡ false
not_leb a b lt = grind arith

pub interval_again : (budget t next : ℕ) (placed : List Interval) (i : Interval) (rest : List ℕ) → budget ≤ 1048576 → CanCome budget t next placed i → interval_at budget t next placed (leb128 (i.first - next) ++ (leb128 (i.last - i.first) ++ rest)) ≡ Ok (i, rest)
unfolding interval_at
interval_again budget t next placed i rest le can =
    let gap = i.first - next in
    let more = i.last - i.first in
    let first : next + gap ≡ i.first = omega (arith, can.from) in
    let last : next + gap + more ≡ i.last = omega (arith, can.from, can.ordered) in
    let one = number_again 0 1048576 gap (leb128 more ++ rest) (omega arith) (omega (arith, can.below, can.ordered)) (omega (arith, can.below, can.ordered)) in
    let two = number_again 0 1048576 more rest (omega arith) (omega (arith, can.below)) (omega (arith, can.below)) in
    let wide : (ltb 0 next && eqb gap 0) ≡ false = no_gap next gap (λ h. let g = can.gap h in omega (arith, g)) in
    rw (one, wide, two, last, first, not_leb budget i.last can.below, can.free, sym can.thread) refl

-- the intervals of a thread that are still to come, each of them free of what was placed
abbrev pub CanAllCome : ℕ → ℕ → ℕ → List Interval → List Interval → Type 0
CanAllCome budget t next placed [] = Unit {0}
CanAllCome budget t next placed (i ∷ more) = CanCome budget t next placed i × CanAllCome budget t (i.last + 1) (put i placed) more

pub intervals_again : (more : List Interval) (budget t next : ℕ) (placed : List Interval) (rest : List ℕ) → budget ≤ 1048576 → CanAllCome budget t next placed more → intervals_at (length more) budget t next placed (pairs next more ++ rest) ≡ Ok (put_all placed more, rest)
unfolding intervals_at
intervals_again [] budget t next placed rest le can = refl
intervals_again (i ∷ more) budget t next placed rest le can =
    let regrouped : pairs next (i ∷ more) ++ rest ≡ leb128 (i.first - next) ++ (leb128 (i.last - i.first) ++ (pairs (i.last + 1) more ++ rest)) =
    append_assoc (leb128 (i.first - next)) (leb128 (i.last - i.first) ++ pairs (i.last + 1) more) rest ∙ ap (λ (r : List ℕ). leb128 (i.first - next) ++ r) (append_assoc (leb128 (i.last - i.first)) (pairs (i.last + 1) more) rest) in
    ap (intervals_at (suc (length more)) budget t next placed) regrouped ∙ rw (interval_again budget t next placed i (pairs (i.last + 1) more ++ rest) le can.0) (intervals_again more budget t (i.last + 1) (put i placed) rest le can.1)

-- ---- the intervals of the threads below one

abbrev pub lower : ℕ → List Interval → List Interval
lower t is = filter (λ (i : Interval). ltb i.thread t) is

lower_cons_yes : (t : ℕ) (i : Interval) (is : List Interval) → i.thread < t → lower t (i ∷ is) ≡ i ∷ lower t is
lower_cons_yes t i is lt = rw (lt-ltb _ _ lt) refl

lower_cons_no : (t : ℕ) (i : Interval) (is : List Interval) → t ≤ i.thread → lower t (i ∷ is) ≡ lower t is
lower_cons_no t i is ge = rw (le-ltb _ _ ge) refl

or_false : (a b : Bool) → (a || b) ≡ false → (a ≡ false) × (b ≡ false)
or_false true b e = absurd cc
or_false false b e = (refl, e)

any_put : (p : Interval → Bool) (i : Interval) (is : List Interval) → p i ≡ false → list_any p is ≡ false → list_any p (put i is) ≡ false
any_put p i [] a b = rw a refl
any_put p i (j ∷ is) a b =
    elim (cases_lt i.first j.first) [
      | inl lt ↦ rw (lt-ltb _ _ lt) (rw a b)
      | inr ge ↦ let f = or_false (p j) (list_any p is) b in rw (le-ltb _ _ ge) (rw f.0 (any_put p i is a f.1))
    ]

-- what lies after a clock shares nothing with what ends there
pub free_behind : (t from first last : ℕ) (is : List Interval) → ApartFrom from is → last < from → list_any (shares first last) (lower t is) ≡ false
free_behind t from first last [] s lt = refl
free_behind t from first last (j ∷ is) s lt =
    let rest = free_behind t (j.last + 1) first last is s.2 (omega (arith, s.0, s.1)) in
    elim (cases_lt j.thread t) [
      | inl below ↦ rw (lower_cons_yes t j is below) (rw (shares_none first last j (inl (omega (arith, s.0)))) rest)
      | inr other ↦ rw (lower_cons_no t j is other) rest
    ]

-- each interval of a thread is free of the lower threads' ones
abbrev pub AllFree : List Interval → List Interval → Type 0
AllFree placed more = AllByRecursion (λ i. list_any (shares i.first i.last) placed ≡ false) more

free_cons : (j : Interval) (placed more : List Interval) (from : ℕ) → ApartFrom from more → j.last < from → AllFree placed more → AllFree (j ∷ placed) more
free_cons j placed [] from s lt f = tt
free_cons j placed (i ∷ more) from s lt f = (rw (shares_none i.first i.last j (inr (omega (arith, s.0)))) f.0, free_cons j placed more (i.last + 1) s.2 (omega (arith, s.0, s.1)) f.1)

pub apart_lower : (low from : ℕ) (is : List Interval) → ApartFrom from is → low ≤ from → ApartFrom low is
apart_lower low from [] s le = tt
apart_lower low from (i ∷ is) s le = (omega (arith, s.0), s.1, s.2)

part_apart : (t from : ℕ) (is : List Interval) → ApartFrom from is → ApartFrom from (part t is)
part_apart t from [] s = tt
part_apart t from (i ∷ is) s =
    elim (same_or_other i.thread t) [
      | inl e ↦ subst (ApartFrom from) (sym (part_cons_yes t i is e)) (s.0, s.1, part_apart t (i.last + 1) is s.2)
      | inr e ↦ subst (ApartFrom from) (sym (part_cons_no t i is e)) (apart_lower from (i.last + 1) (part t is) (part_apart t (i.last + 1) is s.2) (omega (arith, s.0, s.1)))
    ]

pub part_free : (t from : ℕ) (is : List Interval) → ApartFrom from is → AllFree (lower t is) (part t is)
part_free t from [] s = tt
part_free t from (a ∷ is) s =
    elim (cases_lt a.thread t) [
      | inl lt ↦
          let p : part t (a ∷ is) ≡ part t is = part_cons_no t a is (λ e. omega (arith, lt, e)) in
          let l : lower t (a ∷ is) ≡ a ∷ lower t is = lower_cons_yes t a is lt in
          rw (p, l) (free_cons a (lower t is) (part t is) (a.last + 1) (part_apart t (a.last + 1) is s.2) (omega arith) (part_free t (a.last + 1) is s.2))
      | inr ge ↦
          let l : lower t (a ∷ is) ≡ lower t is = lower_cons_no t a is ge in
          elim (same_or_other a.thread t) [
            | inl e ↦ rw (l, part_cons_yes t a is e) (free_behind t (a.last + 1) a.first a.last is s.2 (omega arith), part_free t (a.last + 1) is s.2)
            | inr e ↦ rw (l, part_cons_no t a is e) (part_free t (a.last + 1) is s.2)
          ]
    ]

-- ---- a thread of a lawful log

maximal_lower : (t low from : ℕ) (is : List Interval) → MaximalFrom t from is → low ≤ from → MaximalFrom t low is
maximal_lower t low from [] s le = tt
maximal_lower t low from (i ∷ is) s le = (s.0, omega (arith, s.1), s.2, s.3)

mutual
  pub maximal_part : (t from : ℕ) (is : List Interval) → ContiguousFrom from is → NeighboursDiffer is → MaximalFrom t from (part t is)
  maximal_part t from [] f d = tt
  maximal_part t from (i ∷ is) f d =
      elim (same_or_other i.thread t) [
        | inl e ↦ subst (MaximalFrom t from) (sym (part_cons_yes t i is e)) (e, omega (arith, f.0), f.1, maximal_lower t (i.last + 2) (i.last + 1 + 1) (part t is) (maximal_other t i.thread (i.last + 1) is e f.2 d.0 d.1) (omega arith))
        | inr e ↦ subst (MaximalFrom t from) (sym (part_cons_no t i is e)) (maximal_lower t from (i.last + 1) (part t is) (maximal_part t (i.last + 1) is f.2 d.1) (omega (arith, f.0, f.1)))
      ]

  maximal_other : (t u from : ℕ) (is : List Interval) → u ≡ t → ContiguousFrom from is → BeginsOther u is → NeighboursDiffer is → MaximalFrom t (from + 1) (part t is)
  maximal_other t u from [] e f b d = tt
  maximal_other t u from (k ∷ is) e f b d =
      subst (MaximalFrom t (from + 1)) (sym (part_cons_no t k is (λ h. b (h ∙ sym e)))) (maximal_lower t (from + 1) (k.last + 1) (part t is) (maximal_part t (k.last + 1) is f.2 d.1) (omega (arith, f.0, f.1)))

all_part : (P : Interval → Type 0) (t : ℕ) (is : List Interval) → AllByRecursion P is → AllByRecursion P (part t is)
all_part P t [] all = tt
all_part P t (i ∷ is) all =
    elim (same_or_other i.thread t) [
      | inl e ↦ subst (AllByRecursion P) (sym (part_cons_yes t i is e)) (all.0, all_part P t is all.1)
      | inr e ↦ subst (AllByRecursion P) (sym (part_cons_no t i is e)) (all_part P t is all.1)
    ]

free_put : (t from : ℕ) (i : Interval) (placed more : List Interval) → i.last < from → MaximalFrom t from more → AllFree placed more → AllFree (put i placed) more
free_put t from i placed [] lt s f = tt
free_put t from i placed (k ∷ more) lt s f =
    (any_put (shares k.first k.last) i placed (shares_none k.first k.last i (inr (omega (arith, s.1)))) f.0, free_put t (k.last + 2) i placed more (omega (arith, s.1, s.2)) s.3 f.1)

least_gap : (next first : ℕ) → from_of next ≤ first → (next ≤ first) × (0 < next → next < first)
least_gap zero first le = (omega arith, λ h. omega (arith, h))
least_gap (suc next) first le = (omega arith, λ h. omega arith)

can_all : (more : List Interval) (budget t next : ℕ) (placed : List Interval) → MaximalFrom t (from_of next) more → AllByRecursion (λ j. j.last < budget) more → AllFree placed more → CanAllCome budget t next placed more
can_all [] budget t next placed s below free = tt
can_all (i ∷ more) budget t next placed s below free =
    let g = least_gap next i.first s.1 in (
      record { thread = s.0; from = g.0; gap = g.1; ordered = s.2; below = below.0; free = free.0 },
      can_all more budget t (i.last + 1) (put i placed) (subst (λ (f : ℕ). MaximalFrom t f more) (sym (from_suc i.last)) s.3) below.1 (free_put t (i.last + 2) i placed more (omega arith) s.3 free.1),
    )

-- ---- one thread more

put_first : (from : ℕ) (a : Interval) (is : List Interval) → ApartFrom from is → a.first < from → put a is ≡ a ∷ is
put_first from a [] s lt = refl
put_first from a (i ∷ is) s lt = rw (lt-ltb a.first i.first (omega (arith, s.0))) refl

pub put_all_behind : (from : ℕ) (a : Interval) (xs ys : List Interval) → ApartFrom from ys → a.first ≤ from → put_all (a ∷ xs) ys ≡ a ∷ put_all xs ys
put_all_behind from a xs [] s le = refl
put_all_behind from a xs (y ∷ ys) s le = rw (le-ltb y.first a.first (omega (arith, s.0))) (put_all_behind (y.last + 1) a (put y xs) ys s.2 (omega (arith, s.0, s.1)))

lower_apart : (t from : ℕ) (is : List Interval) → ApartFrom from is → ApartFrom from (lower t is)
lower_apart t from [] s = tt
lower_apart t from (i ∷ is) s =
    elim (cases_lt i.thread t) [
      | inl lt ↦ subst (ApartFrom from) (sym (lower_cons_yes t i is lt)) (s.0, s.1, lower_apart t (i.last + 1) is s.2)
      | inr ge ↦ subst (ApartFrom from) (sym (lower_cons_no t i is ge)) (apart_lower from (i.last + 1) (lower t is) (lower_apart t (i.last + 1) is s.2) (omega (arith, s.0, s.1)))
    ]

above : (t u : ℕ) → t ≤ u → (u ≡ t → ⊥) → t + 1 ≤ u
above t u ge ne = omega (arith, ge, ne)

pub lower_more : (t from : ℕ) (is : List Interval) → ApartFrom from is → put_all (lower t is) (part t is) ≡ lower (t + 1) is
lower_more t from [] s = refl
lower_more t from (a ∷ is) s =
    let rest = lower_more t (a.last + 1) is s.2 in
    let behind = part_apart t (a.last + 1) is s.2 in
    elim (cases_lt a.thread t) [
      | inl lt ↦
          rw (lower_cons_yes t a is lt, part_cons_no t a is (λ e. omega (arith, lt, e)), lower_cons_yes (t + 1) a is (omega (arith, lt)))
          (put_all_behind (a.last + 1) a (lower t is) (part t is) behind (omega (arith, s.1)) ∙ ap (λ (r : List Interval). a ∷ r) rest)
      | inr ge ↦
          elim (same_or_other a.thread t) [
            | inl e ↦
                rw (lower_cons_no t a is ge, part_cons_yes t a is e, lower_cons_yes (t + 1) a is (omega (arith, e)))
                (ap (λ (p : List Interval). put_all p (part t is)) (put_first (a.last + 1) a (lower t is) (lower_apart t (a.last + 1) is s.2) (omega (arith, s.1)))
                ∙ put_all_behind (a.last + 1) a (lower t is) (part t is) behind (omega (arith, s.1)) ∙ ap (λ (r : List Interval). a ∷ r) rest)
            | inr e ↦
                rw (lower_cons_no t a is ge, part_cons_no t a is e, lower_cons_no (t + 1) a is (above t a.thread ge e)) rest
          ]
    ]

pub lower_none : (is : List Interval) → lower 0 is ≡ []
lower_none [] = refl
lower_none (i ∷ is) = lower_cons_no 0 i is (omega arith) ∙ lower_none is

pub lower_all : (t : ℕ) (is : List Interval) → thread_count is ≤ t → lower t is ≡ is
lower_all t [] le = refl
lower_all t (i ∷ is) le = lower_cons_yes t i is (omega (arith, le)) ∙ ap (λ (r : List Interval). i ∷ r) (lower_all t is (omega (arith, le)))

-- ---- the threads

least_fits : (more t : ℕ) (is : List Interval) → thread_count is ≡ t + suc more → cond (eqb more 0) 1 0 ≤ length (part t is)
least_fits zero t is count = last_thread_has t is (omega (arith, count))
least_fits (suc more) t is count = rw (ne_eqb (suc more) 0 (λ e. omega arith)) (omega arith)

threads_again : (more budget t : ℕ) (is : List Interval) (rest : List ℕ) → budget ≤ 1048576 → ContiguousFrom 0 is → NeighboursDiffer is → AllByRecursion (λ j. j.last < budget) is → length is ≤ 1048576 → thread_count is ≡ t + more
    → threads_at more budget t (lower t is) (flat_map (thread_spelling is) (numbers t more) ++ rest) ≡ Ok (is, rest)
unfolding threads_at thread_at
threads_again zero budget t is rest le f d below len count = ap (λ (p : List Interval). done {E = Refusal} (p, rest)) (lower_all t is (omega (arith, count)))
threads_again (suc more) budget t is rest le f d below len count =
    let apart = apart_from_contiguous 0 is f in
    let others = flat_map (thread_spelling is) (numbers (t + 1) more) ++ rest in
    let size : length (part t is) ≤ 1048576 = omega (arith, part_shorter t is, len) in
    let regrouped : flat_map (thread_spelling is) (numbers t (suc more)) ++ rest ≡ leb128 (length (part t is)) ++ (pairs 0 (part t is) ++ others) =
    append_assoc (thread_spelling is t) (flat_map (thread_spelling is) (numbers (t + 1) more)) rest ∙ append_assoc (leb128 (length (part t is))) (pairs 0 (part t is)) others in
    let least : cond (eqb more 0) 1 0 ≤ length (part t is) = least_fits more t is count in
    let can = can_all (part t is) budget t 0 (lower t is) (maximal_part t 0 is f d) (all_part (λ j. j.last < budget) t is below) (part_free t 0 is apart) in
    ap (threads_at (suc more) budget t (lower t is)) regrouped
    ∙ rw (number_again (cond (eqb more 0) 1 0) 1048576 (length (part t is)) (pairs 0 (part t is) ++ others) least size size, intervals_again (part t is) budget t 0 (lower t is) others le can, lower_more t 0 is apart)
    (threads_again more budget (t + 1) is rest le f d below len (omega (arith, count)))

-- ---- the whole

end_again : (budget events : ℕ) (end : EndKind) (rest : List ℕ) → (end ≡ ends.Spent → events ≡ budget) → end_at budget events (end_mark end ∷ rest) ≡ Ok (end, rest)
unfolding end_at
end_again budget events ends.Done rest h = refl
end_again budget events ends.Fault rest h = refl
end_again budget events ends.Stuck rest h = refl
end_again budget events ends.Spent rest h = rw (eq-eqb events budget (h refl)) refl

some_thread : (is : List Interval) → 1 ≤ next_of is → 1 ≤ thread_count is
some_thread [] h = absurd (omega arith)
some_thread (i ∷ is) h = omega arith

-- a spelling with any bytes after it
pub log_then : (l : PlainLog) (rest : List ℕ) → IsLawful l → log_at (spelling l ++ rest) ≡ nothing_at l rest
unfolding log_at head_at tail_at gapless_at
log_then l rest lawful =
    let chain = chain_of l lawful in
    let is = l.intervals in
    let tail = end_mark l.end ∷ rest in
    let below : AllByRecursion (λ j. j.last < l.budget) is = all_weaken (λ j. j.last < reach 0 is) (λ j. j.last < l.budget) is (λ j h. omega (arith, h, chain.within_budget)) (last_bound 0 is chain.contiguous) in
    let len : length is ≤ 1048576 = omega (arith, length_bound 0 is chain.contiguous, chain.within_budget, chain.budget_high) in
    let few : thread_count is ≤ 64 = thread_count_below 64 is chain.threads in
    let some : 1 ≤ thread_count is = some_thread is chain.some_event in
    let one = number_again 1 1048576 l.budget (leb128 (thread_count is) ++ (threads_spelling is ++ tail)) chain.budget_low chain.budget_high chain.budget_high in
    let two = number_again 1 64 (thread_count is) (threads_spelling is ++ tail) some few (omega (arith, few)) in
    let three : threads_at (thread_count is) l.budget 0 [] (threads_spelling is ++ tail) ≡ Ok (is, tail) = subst (λ (p : List Interval). threads_at (thread_count is) l.budget 0 p (threads_spelling is ++ tail) ≡ Ok (is, tail)) (lower_none is) (threads_again (thread_count is) l.budget 0 is tail chain.budget_high chain.contiguous chain.neighbours below len (omega arith)) in
    let regrouped : spelling l ++ rest ≡ head ++ (leb128 l.budget ++ (leb128 (thread_count is) ++ (threads_spelling is ++ tail))) =
    ap (λ (r : List ℕ). head ++ r) (append_assoc (leb128 l.budget) (leb128 (thread_count is) ++ (threads_spelling is ++ end_mark l.end ∷ [])) rest
    ∙ ap (λ (r : List ℕ). leb128 l.budget ++ r) (append_assoc (leb128 (thread_count is)) (threads_spelling is ++ end_mark l.end ∷ []) rest
    ∙ ap (λ (r : List ℕ). leb128 (thread_count is) ++ r) (append_assoc (threads_spelling is) (end_mark l.end ∷ []) rest))) in
    ap log_at regrouped ∙ rw (one, two, three, no_gap_contiguous is chain.contiguous, end_again l.budget (clock_count is) l.end rest lawful.spent) refl

pub log_again : (l : PlainLog) → IsLawful l → log_at (spelling l) ≡ Ok l
unfolding nothing_at
log_again l lawful = ap log_at (sym (append-nil (spelling l))) ∙ log_then l [] lawful

-- ---- with offsets

pub read_again : (l : PlainLog) → IsLawful l → read_log (spelling l) ≡ Ok l
unfolding read_log
read_again l lawful = ap (with_offset (length (spelling l))) (log_again l lawful)

pub read_longer : (l : PlainLog) (b : ℕ) (more : List ℕ) → IsLawful l → read_log (spelling l ++ b ∷ more) ≡ Err (At Trailing (length (spelling l)))
unfolding read_log nothing_at
read_longer l b more lawful =
    let size : length (spelling l ++ b ∷ more) - length (b ∷ more) ≡ length (spelling l) = omega (arith, length-append (spelling l) (b ∷ more)) in
    ap (with_offset (length (spelling l ++ b ∷ more))) (log_then l (b ∷ more) lawful) ∙ ap (λ (offset : ℕ). Err (At Trailing offset)) size
