-- Intervals that follow each other, and the parts of the threads.
use Rattle.std.proofs.Common.{◌≡◌, ℕ, zero, suc, ◌+◌, ◌-◌, ◌<◌, ◌≤◌, max, eqb, List, [], ◌∷◌, ◌++◌, length, get_or, take, replicate, refl, sym, ap, ◌∙◌, append_assoc, eq-eqb, arith}
use Rattle.std.specs.List.{AllByRecursion, flat_map}
use Rattle.std.proofs.lemmas.List.{take_more, take_all, append-nil, flat_map_more}
use Rattle.std.proofs.lemmas.List.Elements.{filter_more}
use Rattle.std.proofs.lemmas.Bool.{ne_eqb}
use Rattle.schedule_log.specs.declared.interval.Interval.{Interval}
use Rattle.schedule_log.specs.Intervals.{numbers}
use Rattle.schedule_log.specs.Ordered.{reach}
use Rattle.schedule_log.specs.Ordered.{ContiguousFrom}
use Rattle.schedule_log.specs.Logs.{threads_in}
use Rattle.schedule_log.specs.Spelling.{leb128, part, pairs, thread_spelling, thread_count}
use Rattle.schedule_log.proofs.Runs.{reach-push}

-- ---- where intervals follow each other

pub reach_grows : (from : ℕ) (is : List Interval) → ContiguousFrom from is → from ≤ reach from is
reach_grows from [] f = omega arith
reach_grows from (i ∷ is) f = let r = reach_grows (i.last + 1) is f.2 in omega (arith, f.0, f.1, r)

pub record StandsAt (from k : ℕ) (is : List Interval) (i : Interval) : Type 0 where
  pub begins : i.first ≡ reach from (take k is)
  pub ordered : i.first ≤ i.last
  pub ends : i.last + 1 ≤ reach from is

pub stands_at : (from k : ℕ) (is : List Interval) (d : Interval) → ContiguousFrom from is → k < length is → StandsAt from k is (get_or is k d)
stands_at from k [] d f lt = absurd (omega arith)
stands_at from zero (i ∷ is) d f lt = record { begins = f.0; ordered = f.1; ends = reach_grows (i.last + 1) is f.2 }
stands_at from (suc k) (i ∷ is) d f lt =
    let r = stands_at (i.last + 1) k is d f.2 (omega arith) in
    record { begins = r.begins; ordered = r.ordered; ends = r.ends }

-- ---- threads

pub thread_count-push : (is : List Interval) (i : Interval) → thread_count (is ++ i ∷ []) ≡ max (thread_count is) (i.thread + 1)
thread_count-push [] i = omega arith
thread_count-push (j ∷ is) i = omega (arith, thread_count-push is i)

pub thread_count_more : (is : List Interval) (k : ℕ) (d : Interval) → k < length is → thread_count (take (k + 1) is) ≡ max (thread_count (take k is)) ((get_or is k d).thread + 1)
thread_count_more is k d lt = ap thread_count (take_more is k d lt) ∙ thread_count-push (take k is) (get_or is k d)

pub thread_count_below : (top : ℕ) (is : List Interval) → AllByRecursion (λ (i : Interval). i.thread < top) is → thread_count is ≤ top
thread_count_below top [] h = omega arith
thread_count_below top (i ∷ is) h = omega (arith, h.0, thread_count_below top is h.1)

number_at_end : (start count : ℕ) → numbers start (suc count) ≡ numbers start count ++ (start + count) ∷ []
number_at_end start zero = ap (λ (n : ℕ). n ∷ []) (omega arith)
number_at_end start (suc count) = ap (λ (r : List ℕ). start ∷ r) (number_at_end (start + 1) count ∙ ap (λ (n : ℕ). numbers (start + 1) count ++ n ∷ []) (omega arith))

pub numbers_more : (start count : ℕ) → numbers start (count + 1) ≡ numbers start count ++ (start + count) ∷ []
numbers_more start count = let e : count + 1 ≡ suc count = omega arith in ap (numbers start) e ∙ number_at_end start count

-- ---- the pairs of a thread

pub pairs-push : (from : ℕ) (is : List Interval) (i : Interval) → pairs from (is ++ i ∷ []) ≡ pairs from is ++ (leb128 (i.first - reach from is) ++ leb128 (i.last - i.first))
pairs-push from [] i = ap (λ (r : List ℕ). leb128 (i.first - from) ++ r) (append-nil (leb128 (i.last - i.first)))
pairs-push from (j ∷ is) i =
    let a = leb128 (j.first - from) in
    let b = leb128 (j.last - j.first) in
    ap (λ (r : List ℕ). a ++ (b ++ r)) (pairs-push (j.last + 1) is i) ∙ ap (λ (r : List ℕ). a ++ r) (sym (append_assoc b _ _)) ∙ sym (append_assoc a _ _)

pub part_yes : (t k : ℕ) (is : List Interval) (d : Interval) → k < length is → (get_or is k d).thread ≡ t → part t (take (k + 1) is) ≡ part t (take k is) ++ get_or is k d ∷ []
part_yes t k is d lt e = filter_more (λ (i : Interval). eqb i.thread t) is k d lt ∙ rw (eq-eqb _ _ e) refl

pub part_no : (t k : ℕ) (is : List Interval) (d : Interval) → k < length is → ((get_or is k d).thread ≡ t → ⊥) → part t (take (k + 1) is) ≡ part t (take k is)
part_no t k is d lt ne = filter_more (λ (i : Interval). eqb i.thread t) is k d lt ∙ rw (ne_eqb _ _ ne) (append-nil _)

pub reach_more : (from k : ℕ) (is : List Interval) (d : Interval) → k < length is → reach from (take (k + 1) is) ≡ (get_or is k d).last + 1
reach_more from k is d lt = ap (reach from) (take_more is k d lt) ∙ reach-push from (take k is) (get_or is k d)

-- ---- the loops of the writer

pub pairs_written : (old out1 out2 out3 : List ℕ) (t k next : ℕ) (is : List Interval) (d : Interval) → k < length is → (get_or is k d).thread ≡ t
    → out1 ≡ old ++ pairs 0 (part t (take k is)) → next ≡ reach 0 (part t (take k is))
    → out2 ≡ out1 ++ leb128 ((get_or is k d).first - next) → out3 ≡ out2 ++ leb128 ((get_or is k d).last - (get_or is k d).first)
    → out3 ≡ old ++ pairs 0 (part t (take (k + 1) is))
pairs_written old out1 out2 out3 t k next is d lt e e1 n e2 e3 =
    let i = get_or is k d in
    let p = part t (take k is) in
    let second = leb128 (i.last - i.first) in
    e3
    ∙ ap (λ (r : List ℕ). r ++ second) (e2 ∙ ap (λ (r : List ℕ). r ++ leb128 (i.first - next)) e1 ∙ ap (λ (m : ℕ). (old ++ pairs 0 p) ++ leb128 (i.first - m)) n)
    ∙ append_assoc (old ++ pairs 0 p) (leb128 (i.first - reach 0 p)) second
    ∙ append_assoc old (pairs 0 p) (leb128 (i.first - reach 0 p) ++ second)
    ∙ ap (λ (r : List ℕ). old ++ r) (sym (pairs-push 0 p i) ∙ ap (pairs 0) (sym (part_yes t k is d lt e)))

pub thread_written : (front out1 out2 out3 : List ℕ) (t n : ℕ) (is : List Interval) → out1 ≡ front ++ flat_map (thread_spelling is) (numbers 0 t) → n ≡ length (part t is) → out2 ≡ out1 ++ leb128 n → out3 ≡ out2 ++ pairs 0 (part t is)
    → out3 ≡ front ++ flat_map (thread_spelling is) (numbers 0 (t + 1))
thread_written front out1 out2 out3 t n is e1 e e2 e3 =
    e3
    ∙ ap (λ (r : List ℕ). r ++ pairs 0 (part t is)) (e2 ∙ ap (λ (m : ℕ). out1 ++ leb128 m) e)
    ∙ append_assoc out1 (leb128 (length (part t is))) (pairs 0 (part t is))
    ∙ ap (λ (r : List ℕ). r ++ thread_spelling is t) e1
    ∙ flat_map_more (thread_spelling is) front (numbers 0 t) t
    ∙ ap (λ (ts : List ℕ). front ++ flat_map (thread_spelling is) ts) (sym (numbers_more 0 t ∙ ap (λ (m : ℕ). numbers 0 t ++ m ∷ []) (omega arith)))

-- ---- the thread of each clock

pub threads_written : (k len : ℕ) (old : List ℕ) (is : List Interval) (d : Interval) → k < length is → ContiguousFrom 0 is → len ≡ length old → length old ≡ reach 0 (take k is) → old ≡ flat_map threads_in (take k is)
    → take (len + ((get_or is k d).last + 1 - (get_or is k d).first)) old ++ replicate (len + ((get_or is k d).last + 1 - (get_or is k d).first) - len) (get_or is k d).thread ≡ flat_map threads_in (take (k + 1) is)
threads_written k len old is d lt f len-is l e =
    let i = get_or is k d in
    let n = i.last + 1 - i.first in
    ap (λ (r : List ℕ). r ++ replicate (len + n - len) i.thread) (take_all (len + n) old (omega arith) ∙ e)
    ∙ ap (λ (m : ℕ). flat_map threads_in (take k is) ++ replicate m i.thread) (let m-is : len + n - len ≡ n = omega arith in m-is)
    ∙ flat_map_more threads_in [] (take k is) i
    ∙ ap (flat_map threads_in) (sym (take_more is k d lt))
