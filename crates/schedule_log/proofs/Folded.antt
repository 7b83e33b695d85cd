-- The maximal intervals of a list of threads, and that foldings which noted its places have just these.
use Rattle.std.proofs.Common.{◌≡◌, ℕ, zero, suc, ◌+◌, ◌-◌, ◌<◌, ◌≤◌, cond, eqb, List, [], ◌∷◌, ◌++◌, length, replicate, refl, sym, ap, subst, ◌∙◌, inl, inr, eq-eqb, arith}
use Rattle.std.specs.Prelude.{Some, slice_get}
use Rattle.std.specs.List.{AllByRecursion, flat_map}
use Rattle.std.proofs.lemmas.Bool.{cases_lt, ne_eqb}
use Rattle.std.proofs.lemmas.List.{append_cancel_left}
use Rattle.std.proofs.lemmas.List.Elements.{recursion_from_All}
use Rattle.vm_model.specs.declared.ends.EndKind.{EndKind}
use Rattle.schedule_log.specs.declared.interval.Interval.{Interval}
use Rattle.schedule_log.specs.Intervals.{numbers, clocks_in, clocks, MaximalFrom}
use Rattle.schedule_log.specs.Ordered.{reach, ContiguousFrom, BeginsOther, NeighboursDiffer}
use Rattle.schedule_log.specs.Foldings.{PlainFolding}
use Rattle.schedule_log.specs.Logs.{PlainLog, IsLawful, threads_in, put_all, expansion}
use Rattle.schedule_log.specs.Spelling.{part, thread_count}
use Rattle.schedule_log.specs.Parts.{log_of_parts, positions_from, AreParts, IsLoggable}
use Rattle.schedule_log.proofs.Orders.{thread_count_below}
use Rattle.schedule_log.proofs.Placed.{same_or_other, part_cons_yes, part_cons_no, apart_from_contiguous}
use Rattle.schedule_log.proofs.Whole.{put_all-append}
use Rattle.schedule_log.proofs.Spelled.{maximal_part, lower, lower_more, lower_none, lower_all}
use Rattle.schedule_log.proofs.Lawful.{chain_of, lawful_of}

-- ---- the clocks of a thread have one list of maximal intervals

-- of two runs of numbers from one start the shorter goes on with the number after it
numbers_apart : (start n m : ℕ) (xs ys : List ℕ) → n < m → numbers start n ++ xs ≡ numbers start m ++ ys → (rest : List ℕ) × (xs ≡ (start + n) ∷ rest)
numbers_apart start n zero xs ys lt e = absurd (omega arith)
numbers_apart start zero (suc m) xs ys lt e = (numbers (start + 1) m ++ ys, e ∙ ap (λ (k : ℕ). k ∷ (numbers (start + 1) m ++ ys)) (let same : start ≡ start + 0 = omega arith in same))
numbers_apart start (suc n) (suc m) xs ys lt e =
    let tails : numbers (start + 1) n ++ xs ≡ numbers (start + 1) m ++ ys = cc in
    let r = numbers_apart (start + 1) n m xs ys (omega arith) tails in
    (r.0, r.1 ∙ ap (λ (k : ℕ). k ∷ r.0) (let same : start + 1 + n ≡ start + suc n = omega arith in same))

-- the first clock of an interval
first_clock : (i : Interval) → i.first ≤ i.last → clocks_in i ≡ i.first ∷ numbers (i.first + 1) (i.last - i.first)
first_clock i le = ap (numbers i.first) (let n : i.last + 1 - i.first ≡ suc (i.last - i.first) = omega arith in n)

-- where the clocks begin
clocks_begin : (t from k : ℕ) (is : List Interval) (rest : List ℕ) → MaximalFrom t from is → clocks is ≡ k ∷ rest → from ≤ k
clocks_begin t from k [] rest s e = absurd cc
clocks_begin t from k (i ∷ is) rest s e =
    let begins : i.first ∷ (numbers (i.first + 1) (i.last - i.first) ++ clocks is) ≡ k ∷ rest = ap (λ (c : List ℕ). c ++ clocks is) (sym (first_clock i s.2)) ∙ e in
    let same : i.first ≡ k = cc in
    omega (arith, s.1, same)

no_clocks : (t from : ℕ) (i : Interval) (is : List Interval) → MaximalFrom t from (i ∷ is) → clocks (i ∷ is) ≡ [] → ⊥
no_clocks t from i is s e =
    let begins : i.first ∷ (numbers (i.first + 1) (i.last - i.first) ++ clocks is) ≡ [] = ap (λ (c : List ℕ). c ++ clocks is) (sym (first_clock i s.2)) ∙ e in
    cc

same_interval : (i j : Interval) → i.thread ≡ j.thread → i.first ≡ j.first → i.last ≡ j.last → i ≡ j
same_interval i j p q r =
    let a : i ≡ record { thread = j.thread; first = i.first; last = i.last } = ap (λ (t : ℕ). let k : Interval = record { thread = t; first = i.first; last = i.last } in k) p in
    let b : (let k : Interval = record { thread = j.thread; first = i.first; last = i.last } in k) ≡ record { thread = j.thread; first = j.first; last = i.last } = ap (λ (f : ℕ). let k : Interval = record { thread = j.thread; first = f; last = i.last } in k) q in
    let c : (let k : Interval = record { thread = j.thread; first = j.first; last = i.last } in k) ≡ j = ap (λ (l : ℕ). let k : Interval = record { thread = j.thread; first = j.first; last = l } in k) r in
    a ∙ b ∙ c

-- the first interval ends no earlier than that of the same clocks
ends_late : (t a b : ℕ) (i j : Interval) (is js : List Interval) → MaximalFrom t a (i ∷ is) → MaximalFrom t b (j ∷ js) → i.first ≡ j.first → clocks (i ∷ is) ≡ clocks (j ∷ js) → j.last ≤ i.last
ends_late t a b i j is js si sj same e =
    elim (cases_lt i.last j.last) [
      | inl lt ↦
          let n : i.last + 1 - i.first < j.last + 1 - i.first = omega (arith, lt, si.2) in
          let count : j.last + 1 - j.first ≡ j.last + 1 - i.first = omega (arith, same) in
          let turned : clocks_in j ≡ numbers i.first (j.last + 1 - i.first) = ap (numbers j.first) count ∙ ap (λ (f : ℕ). numbers f (j.last + 1 - i.first)) (sym same) in
          let r = numbers_apart i.first (i.last + 1 - i.first) (j.last + 1 - i.first) (clocks is) (clocks js) n (e ∙ ap (λ (c : List ℕ). c ++ clocks js) turned) in
          let low = clocks_begin t (i.last + 2) (i.first + (i.last + 1 - i.first)) is r.0 si.3 r.1 in
          absurd (omega (arith, low, si.2))
      | inr ge ↦ ge
    ]

pub maximal_one : (t a b : ℕ) (is js : List Interval) → MaximalFrom t a is → MaximalFrom t b js → clocks is ≡ clocks js → is ≡ js
maximal_one t a b [] [] si sj e = refl
maximal_one t a b [] (j ∷ js) si sj e = absurd (no_clocks t b j js sj (sym e))
maximal_one t a b (i ∷ is) [] si sj e = absurd (no_clocks t a i is si e)
maximal_one t a b (i ∷ is) (j ∷ js) si sj e =
    let begins : i.first ∷ (numbers (i.first + 1) (i.last - i.first) ++ clocks is) ≡ j.first ∷ (numbers (j.first + 1) (j.last - j.first) ++ clocks js) =
    ap (λ (c : List ℕ). c ++ clocks is) (sym (first_clock i si.2)) ∙ e ∙ ap (λ (c : List ℕ). c ++ clocks js) (first_clock j sj.2) in
    let firsts : i.first ≡ j.first = cc in
    let lasts : i.last ≡ j.last = omega (arith, ends_late t a b i j is js si sj firsts e, ends_late t b a j i js is sj si (sym firsts) (sym e)) in
    let one : i ≡ j = same_interval i j (si.0 ∙ sym sj.0) firsts lasts in
    let rest : clocks is ≡ clocks js = append_cancel_left (clocks_in i) (clocks is) (clocks js) (e ∙ ap (λ (k : Interval). clocks_in k ++ clocks js) (sym one)) in
    ap (λ (k : Interval). k ∷ is) one ∙ ap (λ (ks : List Interval). j ∷ ks) (maximal_one t (i.last + 2) (j.last + 2) is js si.3 sj.3 rest)

-- ---- the places of a thread

pub positions-push : (from t last : ℕ) (threads : List ℕ) → positions_from from t (threads ++ last ∷ []) ≡ positions_from from t threads ++ cond (eqb last t) ((from + length threads) ∷ []) []
positions-push from t last [] = elim (same_or_other last t) [
  | inl e ↦ rw (eq-eqb last t e) (ap (λ (n : ℕ). n ∷ []) (let same : from ≡ from + 0 = omega arith in same))
  | inr e ↦ rw (ne_eqb last t e) refl
]
positions-push from t last (u ∷ threads) =
    let n : from + 1 + length threads ≡ from + suc (length threads) = omega arith in
    let rest : positions_from (from + 1) t (threads ++ last ∷ []) ≡ positions_from (from + 1) t threads ++ cond (eqb last t) ((from + suc (length threads)) ∷ []) [] =
    positions-push (from + 1) t last threads ∙ ap (λ (m : ℕ). positions_from (from + 1) t threads ++ cond (eqb last t) (m ∷ []) []) n in
    elim (same_or_other u t) [
      | inl e ↦ rw (eq-eqb u t e) (ap (λ (r : List ℕ). from ∷ r) rest)
      | inr e ↦ rw (ne_eqb u t e) rest
    ]

positions-same : (n from t : ℕ) (rest : List ℕ) → positions_from from t (replicate n t ++ rest) ≡ numbers from n ++ positions_from (from + n) t rest
positions-same zero from t rest = ap (λ (k : ℕ). positions_from k t rest) (let same : from ≡ from + 0 = omega arith in same)
positions-same (suc n) from t rest =
    rw (eq-eqb t t refl) (ap (λ (r : List ℕ). from ∷ r) (positions-same n (from + 1) t rest ∙ ap (λ (k : ℕ). numbers (from + 1) n ++ positions_from k t rest) (let same : from + 1 + n ≡ from + suc n = omega arith in same)))

positions-other : (n from t u : ℕ) (rest : List ℕ) → (u ≡ t → ⊥) → positions_from from t (replicate n u ++ rest) ≡ positions_from (from + n) t rest
positions-other zero from t u rest ne = ap (λ (k : ℕ). positions_from k t rest) (let same : from ≡ from + 0 = omega arith in same)
positions-other (suc n) from t u rest ne =
    rw (ne_eqb u t ne) (positions-other n (from + 1) t u rest ne ∙ ap (λ (k : ℕ). positions_from k t rest) (let same : from + 1 + n ≡ from + suc n = omega arith in same))

-- the clocks of a thread's intervals are its places
pub clocks-part : (t from : ℕ) (is : List Interval) → ContiguousFrom from is → clocks (part t is) ≡ positions_from from t (flat_map threads_in is)
clocks-part t from [] f = refl
clocks-part t from (i ∷ is) f =
    let n : ℕ = i.last + 1 - i.first in
    let end : from + n ≡ i.last + 1 = omega (arith, f.0, f.1) in
    let rest = clocks-part t (i.last + 1) is f.2 in
    elim (same_or_other i.thread t) [
      | inl e ↦
          ap clocks (part_cons_yes t i is e)
          ∙ ap (λ (k : ℕ). numbers k n ++ clocks (part t is)) f.0
          ∙ ap (λ (r : List ℕ). numbers from n ++ r) (rest ∙ ap (λ (k : ℕ). positions_from k t (flat_map threads_in is)) (sym end))
          ∙ sym (positions-same n from t (flat_map threads_in is))
          ∙ ap (λ (u : ℕ). positions_from from t (replicate n u ++ flat_map threads_in is)) (sym e)
      | inr e ↦
          ap clocks (part_cons_no t i is e) ∙ rest ∙ ap (λ (k : ℕ). positions_from k t (flat_map threads_in is)) (sym end) ∙ sym (positions-other n from t i.thread (flat_map threads_in is) e)
    ]

-- ---- the maximal intervals of a list of threads

alone : ℕ → ℕ → Interval
alone t from = record { thread = t; first = from; last = from }

join : ℕ → ℕ → List Interval → List Interval
join t from [] = alone t from ∷ []
join t from (i ∷ is) = cond (eqb i.thread t) ((let j : Interval = record { thread = t; first = from; last = i.last } in j) ∷ is) (alone t from ∷ (i ∷ is))

pub stretches : ℕ → List ℕ → List Interval
stretches from [] = []
stretches from (t ∷ threads) = join t from (stretches (from + 1) threads)

pub record IsCut (from : ℕ) (threads : List ℕ) (is : List Interval) : Type 0 where
  pub contiguous : ContiguousFrom from is
  pub neighbours : NeighboursDiffer is
  pub ends : reach from is ≡ from + length threads
  pub expands : flat_map threads_in is ≡ threads

alone_threads : (t from : ℕ) → threads_in (alone t from) ≡ t ∷ []
unfolding alone
alone_threads t from = ap (λ (n : ℕ). replicate n t) (let n : from + 1 - from ≡ suc zero = omega arith in n)

join_cut : (t from : ℕ) (threads : List ℕ) (is : List Interval) → IsCut (from + 1) threads is → IsCut from (t ∷ threads) (join t from is)
unfolding join alone
join_cut t from threads [] cut = record {
  contiguous = (refl, omega arith, tt);
  neighbours = (tt, tt);
  ends = omega (arith, cut.ends);
  expands = ap (λ (r : List ℕ). r ++ []) (alone_threads t from) ∙ ap (λ (r : List ℕ). t ∷ r) cut.expands;
}
join_cut t from threads (i ∷ is) cut =
    let n : ℕ = i.last + 1 - i.first in
    elim (same_or_other i.thread t) [
      | inl e ↦
          let longer : i.last + 1 - from ≡ suc n = omega (arith, cut.contiguous.0, cut.contiguous.1) in
          rw (eq-eqb i.thread t e) (record {
            contiguous = (refl, omega (arith, cut.contiguous.0, cut.contiguous.1), cut.contiguous.2);
            neighbours = (subst (λ (u : ℕ). BeginsOther u is) e cut.neighbours.0, cut.neighbours.1);
            ends = omega (arith, cut.ends);
            expands = ap (λ (m : ℕ). replicate m t ++ flat_map threads_in is) longer ∙ ap (λ (u : ℕ). t ∷ (replicate n u ++ flat_map threads_in is)) (sym e) ∙ ap (λ (r : List ℕ). t ∷ r) cut.expands;
          })
      | inr e ↦ rw (ne_eqb i.thread t e) (record {
        contiguous = (refl, omega arith, cut.contiguous);
        neighbours = (e, cut.neighbours);
        ends = omega (arith, cut.ends);
        expands = ap (λ (r : List ℕ). r ++ flat_map threads_in (i ∷ is)) (alone_threads t from) ∙ ap (λ (r : List ℕ). t ∷ r) cut.expands;
      })
    ]

pub stretches_cut : (from : ℕ) (threads : List ℕ) → IsCut from threads (stretches from threads)
unfolding stretches
stretches_cut from [] = record { contiguous = tt; neighbours = tt; ends = omega arith; expands = refl }
stretches_cut from (t ∷ threads) = join_cut t from threads (stretches (from + 1) threads) (stretches_cut (from + 1) threads)

join_low : (top t from : ℕ) (is : List Interval) → t < top → AllByRecursion (λ i. i.thread < top) is → AllByRecursion (λ i. i.thread < top) (join t from is)
unfolding join alone
join_low top t from [] lt all = (lt, tt)
join_low top t from (i ∷ is) lt all =
    elim (same_or_other i.thread t) [
      | inl e ↦ rw (eq-eqb i.thread t e) (lt, all.1)
      | inr e ↦ rw (ne_eqb i.thread t e) (lt, all)
    ]

pub stretches_low : (top from : ℕ) (threads : List ℕ) → AllByRecursion (λ t. t < top) threads → AllByRecursion (λ i. i.thread < top) (stretches from threads)
unfolding stretches
stretches_low top from [] all = tt
stretches_low top from (t ∷ threads) all = join_low top t from (stretches (from + 1) threads) all.0 (stretches_low top (from + 1) threads all.1)

-- ---- the parts together

part_intervals : (threads : List ℕ) (parts : List PlainFolding) (is : List Interval) → IsCut 0 threads is → AreParts threads parts → (t : ℕ) (f : PlainFolding) → slice_get parts t ≡ Some f → f.intervals ≡ part t is
part_intervals threads parts is cut are t f e =
    let p = are.each t f e in
    let own : MaximalFrom t 0 f.intervals = subst (λ (u : ℕ). MaximalFrom u 0 f.intervals) p.of_thread p.maximal in
    let same : clocks f.intervals ≡ clocks (part t is) = p.noted ∙ ap (positions_from 0 t) (sym cut.expands) ∙ sym (clocks-part t 0 is cut.contiguous) in
    maximal_one t 0 0 f.intervals (part t is) own (maximal_part t 0 is cut.contiguous cut.neighbours) same

-- the intervals of the threads from one on, put among those of the threads below
gathered : (t : ℕ) (parts : List PlainFolding) (is : List Interval) → ContiguousFrom 0 is → thread_count is ≤ t + length parts → ((u : ℕ) (f : PlainFolding) → slice_get parts u ≡ Some f → f.intervals ≡ part (t + u) is)
    → put_all (lower t is) (flat_map (λ (f : PlainFolding). f.intervals) parts) ≡ is
gathered t [] is contiguous few own = lower_all t is (omega (arith, few))
gathered t (p ∷ parts) is contiguous few own =
    let rest : List Interval = flat_map (λ (f : PlainFolding). f.intervals) parts in
    let first : p.intervals ≡ part t is = own 0 p refl ∙ ap (λ (u : ℕ). part u is) (let same : t + 0 ≡ t = omega arith in same) in
    put_all-append (lower t is) p.intervals rest
    ∙ ap (λ (q : List Interval). put_all (put_all (lower t is) q) rest) first
    ∙ ap (λ (q : List Interval). put_all q rest) (lower_more t 0 is (apart_from_contiguous 0 is contiguous))
    ∙ gathered (t + 1) parts is contiguous (omega (arith, few)) (λ u f e. own (suc u) f e ∙ ap (λ (v : ℕ). part v is) (let same : t + suc u ≡ t + 1 + u = omega arith in same))

parts_together : (threads : List ℕ) (parts : List PlainFolding) → AreParts threads parts → put_all [] (flat_map (λ (f : PlainFolding). f.intervals) parts) ≡ stretches 0 threads
parts_together threads parts are =
    let is = stretches 0 threads in
    let cut = stretches_cut 0 threads in
    let few : thread_count is ≤ length parts = thread_count_below (length parts) is (stretches_low (length parts) 0 threads (recursion_from_All (λ t. t < length parts) threads are.enough)) in
    ap (λ (q : List Interval). put_all q (flat_map (λ (f : PlainFolding). f.intervals) parts)) (sym (lower_none is))
    ∙ gathered 0 parts is cut.contiguous (omega (arith, few)) (λ u f e. part_intervals threads parts is cut are u f e ∙ ap (λ (v : ℕ). part v is) (let same : u ≡ 0 + u = omega arith in same))

pub folded_run : (budget : ℕ) (threads : List ℕ) (parts : List PlainFolding) (end : EndKind) → IsLoggable budget threads end → AreParts threads parts → IsLawful (log_of_parts budget parts end) × (expansion (log_of_parts budget parts end) ≡ threads)
folded_run budget threads parts end can are =
    let is = stretches 0 threads in
    let cut = stretches_cut 0 threads in
    let log : PlainLog = record { budget = budget; intervals = is; end = end } in
    let same : log ≡ log_of_parts budget parts end = ap (λ (q : List Interval). let l : PlainLog = record { budget = budget; intervals = q; end = end } in l) (sym (parts_together threads parts are)) in
    let law : IsLawful log = lawful_of log (record {
      budget_low = omega (arith, can.some_event, can.within_budget);
      budget_high = can.budget_high;
      threads = stretches_low 64 0 threads (recursion_from_All (λ t. t < 64) threads can.threads_low);
      contiguous = cut.contiguous;
      neighbours = cut.neighbours;
      some_event = omega (arith, can.some_event, cut.ends);
      within_budget = omega (arith, can.within_budget, cut.ends);
      spent = λ e. cut.ends ∙ omega (arith, can.spent e);
    }) in
    subst (λ (l : PlainLog). IsLawful l × (expansion l ≡ threads)) same (law, cut.expands)

-- ---- a list of threads has one list of intervals

stretches_front : (n from t : ℕ) (rest : List ℕ) (is : List Interval) → BeginsOther t is → stretches (from + suc n) rest ≡ is → stretches from (replicate (suc n) t ++ rest) ≡ (let i : Interval = record { thread = t; first = from; last = from + n } in i) ∷ is
unfolding stretches join alone
stretches_front zero from t rest [] other e =
    ap (join t from) e ∙ ap (λ (l : ℕ). (let i : Interval = record { thread = t; first = from; last = l } in i) ∷ []) (let same : from ≡ from + 0 = omega arith in same)
stretches_front zero from t rest (j ∷ is) other e =
    ap (join t from) e ∙ rw (ne_eqb j.thread t other) (ap (λ (l : ℕ). (let i : Interval = record { thread = t; first = from; last = l } in i) ∷ (j ∷ is)) (let same : from ≡ from + 0 = omega arith in same))
stretches_front (suc n) from t rest is other e =
    let moved : from + suc (suc n) ≡ from + 1 + suc n = omega arith in
    let deeper = stretches_front n (from + 1) t rest is other (ap (λ (k : ℕ). stretches k rest) (sym moved) ∙ e) in
    ap (join t from) deeper ∙ rw (eq-eqb t t refl) (ap (λ (l : ℕ). (let i : Interval = record { thread = t; first = from; last = l } in i) ∷ is) (let same : from + 1 + n ≡ from + suc n = omega arith in same))

pub stretches-threads : (from : ℕ) (is : List Interval) → ContiguousFrom from is → NeighboursDiffer is → stretches from (flat_map threads_in is) ≡ is
unfolding stretches
stretches-threads from [] f d = refl
stretches-threads from (i ∷ is) f d =
    let n : ℕ = i.last - i.first in
    let size : i.last + 1 - i.first ≡ suc n = omega (arith, f.1) in
    let behind : i.last + 1 ≡ from + suc n = omega (arith, f.0, f.1) in
    let last : from + n ≡ i.last = omega (arith, f.0, f.1) in
    let rest : stretches (from + suc n) (flat_map threads_in is) ≡ is = ap (λ (k : ℕ). stretches k (flat_map threads_in is)) (sym behind) ∙ stretches-threads (i.last + 1) is f.2 d.1 in
    ap (λ (m : ℕ). stretches from (replicate m i.thread ++ flat_map threads_in is)) size
    ∙ stretches_front n from i.thread (flat_map threads_in is) is d.0 rest
    ∙ ap (λ (j : Interval). j ∷ is) (same_interval _ i refl (sym f.0) last)

pub one_tiling : (a b : PlainLog) → IsLawful a → IsLawful b → expansion a ≡ expansion b → a.intervals ≡ b.intervals
one_tiling a b la lb e =
    let ca = chain_of a la in
    let cb = chain_of b lb in
    sym (stretches-threads 0 a.intervals ca.contiguous ca.neighbours) ∙ ap (stretches 0) e ∙ stretches-threads 0 b.intervals cb.contiguous cb.neighbours
