-- What is read is spelled so.
use Rattle.std.proofs.Common.{◌≡◌, ℕ, zero, suc, ◌+◌, ◌-◌, ◌<◌, ◌≤◌, Bool, true, false, cond, eqb, ltb, leb, ◌&&◌, List, [], ◌∷◌, ◌++◌, length, Ok, refl, sym, ap, subst, ◌∙◌, append_assoc, inl, inr, arith}
use Rattle.std.specs.List.{AllByRecursion, list_any, flat_map}
use Rattle.std.proofs.lemmas.Bool.{lt-ltb, eqb-false, leb-false}
use Rattle.std.proofs.lemmas.List.{append-nil}
use Rattle.schedule_log.specs.declared.interval.Interval.{Interval}
use Rattle.schedule_log.specs.declared.fault.Refusal.{Refusal}
use Rattle.schedule_log.specs.Intervals.{numbers, MaximalFrom}
use Rattle.schedule_log.specs.Ordered.{ApartFrom}
use Rattle.schedule_log.specs.Logs.{put}
use Rattle.schedule_log.specs.Spelling.{leb128, part, pairs, thread_spelling}
use Rattle.schedule_log.specs.Reading.{number_at, interval_at, intervals_at, thread_at, threads_at}
use Rattle.schedule_log.specs.Intervals.{shares}
use Rattle.schedule_log.proofs.Fields.{IsBytes, bind_ok, passed, ok_is, Takes, Takes-then, number_takes}
use Rattle.schedule_log.proofs.Placed.{put_apart, all_put, all_weaken, same_or_other, part_put_other, part_put_same, part_cons_no}

-- ---- an interval

pub record TakesInterval (budget t next : ℕ) (placed : List Interval) (bytes : List ℕ) (i : Interval) (rest : List ℕ) : Type 0 where
  pub text : Takes bytes (leb128 (i.first - next) ++ leb128 (i.last - i.first)) rest
  pub thread : i.thread ≡ t
  pub from : next ≤ i.first
  pub gap : 0 < next → next < i.first
  pub ordered : i.first ≤ i.last
  pub below : i.last < budget
  pub free : list_any (shares i.first i.last) placed ≡ false

and_false : (a b : Bool) → (a && b) ≡ false → a ≡ true → b ≡ false
and_false true b e f = e
and_false false b e f = absurd cc

pub interval_takes : (budget t next : ℕ) (placed : List Interval) (bytes : List ℕ) (x : Interval × List ℕ) → IsBytes bytes → interval_at budget t next placed bytes ≡ Ok x → TakesInterval budget t next placed bytes x.0 x.1
unfolding interval_at
interval_takes budget t next placed bytes x fits e =
    let g = bind_ok (number_at 0 1048576 bytes) _ x e in
    let one = number_takes 0 1048576 bytes g.0 fits g.1 in
    let p = passed (ltb 0 next && eqb g.0.0 0) _ _ x g.2 in
    let m = bind_ok (number_at 0 1048576 g.0.1) _ x p.1 in
    let two = number_takes 0 1048576 g.0.1 m.0 one.0.rest_fits m.1 in
    let q = passed (leb budget (next + g.0.0 + m.0.0)) _ _ x m.2 in
    let r = passed (list_any (shares (next + g.0.0) (next + g.0.0 + m.0.0)) placed) _ _ x q.1 in
    let i : Interval = record { thread = t; first = next + g.0.0; last = next + g.0.0 + m.0.0 } in
    let some : 0 < next → g.0.0 ≡ 0 → ⊥ = λ h. eqb-false _ _ (and_false (ltb 0 next) (eqb g.0.0 0) p.0 (lt-ltb 0 next h)) in
    let text : Takes bytes (leb128 (i.first - next) ++ leb128 (i.last - i.first)) m.0.1 =
    subst (λ (a : ℕ). Takes bytes (leb128 a ++ leb128 (i.last - i.first)) m.0.1) (let k : g.0.0 ≡ i.first - next = omega arith in k)
    (subst (λ (b : ℕ). Takes bytes (leb128 g.0.0 ++ leb128 b) m.0.1) (let k : m.0.0 ≡ i.last - i.first = omega arith in k)
    (Takes-then bytes (leb128 g.0.0) g.0.1 (leb128 m.0.0) m.0.1 one.0 two.0)) in
    subst (λ (y : Interval × List ℕ). TakesInterval budget t next placed bytes y.0 y.1) (ok_is {E = Refusal} (i, m.0.1) x r.1)
    (record {
      text = text;
      thread = refl;
      from = omega arith;
      gap = λ h. let s = some h in omega (arith, s);
      ordered = omega arith;
      below = leb-false _ _ q.0;
      free = r.0;
    })

-- ---- the intervals of a thread

-- what holds of each interval that was placed
abbrev pub IsPlaced : ℕ → ℕ → Interval → Type 0
IsPlaced budget top j = (j.last < budget) × (j.thread < top)

abbrev pub UpTo : ℕ → ℕ → Interval → Type 0
UpTo t next j = j.thread ≡ t → j.first < next

-- the least first of a later interval
abbrev pub from_of : ℕ → ℕ
from_of zero = zero
from_of (suc next) = suc next + 1

from_least : (next first : ℕ) → next ≤ first → (0 < next → next < first) → from_of next ≤ first
from_least zero first le gap = omega arith
from_least (suc next) first le gap = let g = gap (omega arith) in omega arith

pub from_suc : (last : ℕ) → from_of (last + 1) ≡ last + 2
from_suc last = let e : last + 1 ≡ suc last = omega arith in ap from_of e ∙ omega arith

pub record TakesIntervals (budget t top next count : ℕ) (placed : List Interval) (bytes : List ℕ) (after : List Interval) (rest : List ℕ) (more : List Interval) : Type 0 where
  pub text : Takes bytes (pairs next more) rest
  pub many : length more ≡ count
  pub same : part t after ≡ part t placed ++ more
  pub others : (u : ℕ) → (t ≡ u → ⊥) → part u after ≡ part u placed
  pub apart : ApartFrom 0 after
  pub all : AllByRecursion (IsPlaced budget top) after
  pub maximal : MaximalFrom t (from_of next) more

pub intervals_take : (count budget t top next : ℕ) (placed : List Interval) (bytes : List ℕ) (x : List Interval × List ℕ) → IsBytes bytes → t < top → ApartFrom 0 placed → AllByRecursion (UpTo t next) placed → AllByRecursion (IsPlaced budget top) placed
    → intervals_at count budget t next placed bytes ≡ Ok x → (more : List Interval) × TakesIntervals budget t top next count placed bytes x.0 x.1 more
unfolding intervals_at
intervals_take zero budget t top next placed bytes x fits lt apart upto all e = (
  [],
  subst (λ (y : List Interval × List ℕ). TakesIntervals budget t top next 0 placed bytes y.0 y.1 []) (ok_is {E = Refusal} (placed, bytes) x e) (record {
    text = record { parts = refl; rest_fits = fits };
    many = refl;
    same = sym (append-nil (part t placed));
    others = λ u ne. refl;
    apart = apart;
    all = all;
    maximal = tt;
  }),
)
intervals_take (suc count) budget t top next placed bytes x fits lt apart upto all e =
    let a = bind_ok (interval_at budget t next placed bytes) (λ i. intervals_at count budget t (i.0.last + 1) (put i.0 placed) i.1) x e in
    let i = a.0.0 in
    let one = interval_takes budget t next placed bytes a.0 fits a.1 in
    let below : AllByRecursion (UpTo t i.first) placed = all_weaken (UpTo t next) (UpTo t i.first) placed (λ j h k. let b = h k in omega (arith, b, one.from)) upto in
    let wider : AllByRecursion (UpTo t (i.last + 1)) placed = all_weaken (UpTo t next) (UpTo t (i.last + 1)) placed (λ j h k. let b = h k in omega (arith, b, one.from, one.ordered)) upto in
    let upto2 : AllByRecursion (UpTo t (i.last + 1)) (put i placed) = all_put (UpTo t (i.last + 1)) i placed (λ k. omega (arith, one.ordered)) wider in
    let all2 : AllByRecursion (IsPlaced budget top) (put i placed) = all_put (IsPlaced budget top) i placed (one.below, omega (arith, one.thread, lt)) all in
    let apart2 = put_apart 0 i placed apart (omega arith) one.ordered one.free in
    let r = intervals_take count budget t top (i.last + 1) (put i placed) a.0.1 x one.text.rest_fits lt apart2 upto2 all2 a.2 in
    let more = r.0 in
    let both = Takes-then bytes (leb128 (i.first - next) ++ leb128 (i.last - i.first)) a.0.1 (pairs (i.last + 1) more) x.1 one.text r.1.text in (
      i ∷ more,
      record {
        text = record { parts = both.parts ∙ ap (λ (w : List ℕ). w ++ x.1) (append_assoc (leb128 (i.first - next)) (leb128 (i.last - i.first)) (pairs (i.last + 1) more)); rest_fits = both.rest_fits };
        many = ap suc r.1.many;
        same = r.1.same ∙ ap (λ (p : List Interval). p ++ more) (part_put_same t 0 i placed apart one.thread below) ∙ append_assoc (part t placed) (i ∷ []) more;
        others = λ u ne. r.1.others u ne ∙ part_put_other u i placed (λ k. ne (sym one.thread ∙ k));
        apart = r.1.apart;
        all = r.1.all;
        maximal = (one.thread, from_least next i.first one.from one.gap, one.ordered, subst (λ (f : ℕ). MaximalFrom t f more) (from_suc i.last) r.1.maximal);
      },
    )

-- ---- a thread

pub record TakesThread (budget t least : ℕ) (placed : List Interval) (bytes : List ℕ) (after : List Interval) (rest : List ℕ) : Type 0 where
  pub text : Takes bytes (thread_spelling after t) rest
  pub some : least ≤ length (part t after)
  pub others : (u : ℕ) → (t ≡ u → ⊥) → part u after ≡ part u placed
  pub apart : ApartFrom 0 after
  pub all : AllByRecursion (IsPlaced budget (t + 1)) after
  pub maximal : MaximalFrom t 0 (part t after)

no_part : (t budget : ℕ) (placed : List Interval) → AllByRecursion (IsPlaced budget t) placed → part t placed ≡ []
no_part t budget [] all = refl
no_part t budget (j ∷ placed) all = part_cons_no t j placed (λ e. let b = all.0.1 in omega (arith, b, e)) ∙ no_part t budget placed all.1

pub thread_takes : (budget t least : ℕ) (placed : List Interval) (bytes : List ℕ) (x : List Interval × List ℕ) → IsBytes bytes → ApartFrom 0 placed → AllByRecursion (IsPlaced budget t) placed
    → thread_at budget t least placed bytes ≡ Ok x → TakesThread budget t least placed bytes x.0 x.1
unfolding thread_at
thread_takes budget t least placed bytes x fits apart all e =
    let a = bind_ok (number_at least 1048576 bytes) (λ c. intervals_at c.0 budget t 0 placed c.1) x e in
    let n = number_takes least 1048576 bytes a.0 fits a.1 in
    let upto : AllByRecursion (UpTo t 0) placed = all_weaken (IsPlaced budget t) (UpTo t 0) placed (λ j h k. let b = h.1 in absurd (omega (arith, b, k))) all in
    let all2 : AllByRecursion (IsPlaced budget (t + 1)) placed = all_weaken (IsPlaced budget t) (IsPlaced budget (t + 1)) placed (λ j h. let b = h.1 in (h.0, omega (arith, b))) all in
    let r = intervals_take a.0.0 budget t (t + 1) 0 placed a.0.1 x n.0.rest_fits (omega arith) apart upto all2 a.2 in
    let is : part t x.0 ≡ r.0 = r.1.same ∙ ap (λ (p : List Interval). p ++ r.0) (no_part t budget placed all) in
    let both = Takes-then bytes (leb128 a.0.0) a.0.1 (pairs 0 r.0) x.1 n.0 r.1.text in
    record {
      text = record { parts = both.parts ∙ ap (λ (k : ℕ). (leb128 k ++ pairs 0 r.0) ++ x.1) (sym r.1.many) ∙ ap (λ (p : List Interval). (leb128 (length p) ++ pairs 0 p) ++ x.1) (sym is); rest_fits = both.rest_fits };
      some = rw is (omega (arith, n.1, r.1.many));
      others = r.1.others;
      apart = r.1.apart;
      all = r.1.all;
      maximal = subst (MaximalFrom t 0) (sym is) r.1.maximal;
    }

-- ---- the threads

pub record TakesThreads (budget t more : ℕ) (placed : List Interval) (bytes : List ℕ) (after : List Interval) (rest : List ℕ) : Type 0 where
  pub text : Takes bytes (flat_map (thread_spelling after) (numbers t more)) rest
  pub before : (u : ℕ) → u < t → part u after ≡ part u placed
  pub last : (k : ℕ) → more ≡ k + 1 → 0 < length (part (t + k) after)
  pub apart : ApartFrom 0 after
  pub all : AllByRecursion (IsPlaced budget (t + more)) after
  pub maximal : (u : ℕ) → u < t + more → MaximalFrom u 0 (part u after)

less : (t u : ℕ) → u < t + 1 → (t ≡ u → ⊥) → u < t
less t u lt ne = omega (arith, lt, ne)

last_of : (more t : ℕ) (is : List Interval) (least : ℕ) → least ≡ cond (eqb more 0) 1 0 → least ≤ length (part t is) → ((k : ℕ) → more ≡ k + 1 → 0 < length (part (t + 1 + k) is)) → (k : ℕ) → suc more ≡ k + 1 → 0 < length (part (t + k) is)
last_of zero t is least l here later k e =
    let z : t ≡ t + k = omega arith in
    subst (λ (n : ℕ). 0 < length (part n is)) z (omega (arith, l, here))
last_of (suc more) t is least l here later k e =
    let z : t + 1 + more ≡ t + k = omega arith in
    subst (λ (n : ℕ). 0 < length (part n is)) z (later more (omega arith))

pub threads_take : (more budget t : ℕ) (placed : List Interval) (bytes : List ℕ) (x : List Interval × List ℕ) → IsBytes bytes → ApartFrom 0 placed → AllByRecursion (IsPlaced budget t) placed → ((u : ℕ) → u < t → MaximalFrom u 0 (part u placed))
    → threads_at more budget t placed bytes ≡ Ok x → TakesThreads budget t more placed bytes x.0 x.1
unfolding threads_at
threads_take zero budget t placed bytes x fits apart all maximal e =
    subst (λ (y : List Interval × List ℕ). TakesThreads budget t 0 placed bytes y.0 y.1) (ok_is {E = Refusal} (placed, bytes) x e) (record {
      text = record { parts = refl; rest_fits = fits };
      before = λ u lt. refl;
      last = λ k none. absurd (omega (arith, none));
      apart = apart;
      all = subst (λ (n : ℕ). AllByRecursion (IsPlaced budget n) placed) (let z : t ≡ t + 0 = omega arith in z) all;
      maximal = λ u lt. maximal u (omega (arith, lt));
    })
threads_take (suc more) budget t placed bytes x fits apart all maximal e =
    let least : ℕ = cond (eqb more 0) 1 0 in
    let a = bind_ok (thread_at budget t least placed bytes) (λ p. threads_at more budget (t + 1) p.0 p.1) x e in
    let one = thread_takes budget t least placed bytes a.0 fits apart all a.1 in
    let maximal2 : (u : ℕ) → u < t + 1 → MaximalFrom u 0 (part u a.0.0) = λ u lt.
    elim (same_or_other t u) [
      | inl k ↦ subst (λ (v : ℕ). MaximalFrom v 0 (part v a.0.0)) k one.maximal
      | inr k ↦ subst (MaximalFrom u 0) (sym (one.others u k)) (maximal u (less t u lt k))
    ] in
    let r = threads_take more budget (t + 1) a.0.0 a.0.1 x one.text.rest_fits one.apart one.all maximal2 a.2 in
    let here : part t x.0 ≡ part t a.0.0 = r.before t (omega arith) in
    let both = Takes-then bytes (thread_spelling a.0.0 t) a.0.1 (flat_map (thread_spelling x.0) (numbers (t + 1) more)) x.1 one.text r.text in
    let total : t + 1 + more ≡ t + suc more = omega arith in
    record {
      text = record { parts = both.parts ∙ ap (λ (p : List Interval). ((leb128 (length p) ++ pairs 0 p) ++ flat_map (thread_spelling x.0) (numbers (t + 1) more)) ++ x.1) (sym here); rest_fits = both.rest_fits };
      before = λ u lt. r.before u (omega (arith, lt)) ∙ one.others u (λ k. omega (arith, lt, k));
      last = last_of more t x.0 least refl (subst (λ (p : List Interval). least ≤ length p) (sym here) one.some) r.last;
      apart = r.apart;
      all = subst (λ (n : ℕ). AllByRecursion (IsPlaced budget n) x.0) total r.all;
      maximal = λ u lt. r.maximal u (omega (arith, lt));
    }
