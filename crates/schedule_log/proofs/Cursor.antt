-- Intervals of one thread, read beside those that were placed.
use Rattle.std.proofs.Common.{◌≡◌, ℕ, zero, suc, ◌+◌, ◌<◌, ◌≤◌, Bool, true, false, cond, eqb, ltb, leb, ◌&&◌, ◌||◌, List, [], ◌∷◌, ◌++◌, length, get_or, take, Result, Ok, Err, refl, sym, ap, subst, ◌∙◌, inl, inr, arith}
use Rattle.std.specs.List.{AllByRecursion, list_any}
use Rattle.std.proofs.lemmas.Bool.{cases_lt, lt-ltb, le-ltb}
use Rattle.std.proofs.lemmas.List.{take_more}
use Rattle.vm_model.specs.Failures.{◌>>=◌}
use Rattle.schedule_log.specs.declared.interval.Interval.{Interval}
use Rattle.schedule_log.specs.declared.fault.Refusal.{Refusal}
use Rattle.schedule_log.specs.declared.fault.LogKind.TheVariants.{NotMaximal}
use Rattle.schedule_log.specs.Ordered.{ApartFrom}
use Rattle.schedule_log.specs.Logs.{put, put_all}
use Rattle.schedule_log.specs.Reading.{refuse, number_at, interval_at, intervals_at, thread_at}
use Rattle.schedule_log.specs.Intervals.{shares}
use Rattle.schedule_log.proofs.Fields.{bind_ok, passed, ok_is}
use Rattle.schedule_log.proofs.Placed.{none_behind, shares_none, put_apart}
use Rattle.schedule_log.proofs.Whole.{put_all-append}

pub all_push : (P : Interval → Type 0) (is : List Interval) (i : Interval) → AllByRecursion P is → P i → AllByRecursion P (is ++ i ∷ [])
all_push P [] i all p = (p, tt)
all_push P (j ∷ is) i all p = (all.0, all_push P is i all.1 p)

pub all_take_more : (P : Interval → Type 0) (k : ℕ) (is : List Interval) (d : Interval) → k < length is → AllByRecursion P (take k is) → P (get_or is k d) → AllByRecursion P (take (k + 1) is)
all_take_more P k is d lt all p = subst (AllByRecursion P) (sym (take_more is k d lt)) (all_push P (take k is) (get_or is k d) all p)

pub apart_push : (from : ℕ) (is : List Interval) (i : Interval) → ApartFrom from is → from ≤ i.first → i.first ≤ i.last → AllByRecursion (λ j. j.last < i.first) is → ApartFrom from (is ++ i ∷ [])
apart_push from [] i s lo hi all = (lo, hi, tt)
apart_push from (j ∷ is) i s lo hi all = (s.0, s.1, apart_push (j.last + 1) is i s.2 (let b = all.0 in omega arith) hi all.1)

shares_some : (first last : ℕ) (j : Interval) → j.first ≤ last → first ≤ j.last → shares first last j ≡ true
shares_some first last j a b = grind arith

pub taken_here : (at from first last : ℕ) (is : List Interval) (d : Interval) → ApartFrom from is → at < length is → AllByRecursion (λ j. j.last < first) (take at is) → first ≤ (get_or is at d).last → (get_or is at d).first ≤ last → list_any (shares first last) is ≡ true
taken_here at from first last [] d s lt all there le = absurd (omega arith)
taken_here zero from first last (j ∷ is) d s lt all there le = rw (shares_some first last j le there) refl
taken_here (suc at) from first last (j ∷ is) d s lt all there le = rw (shares_none first last j (inr all.0)) (taken_here at (j.last + 1) first last is d s.2 (omega arith) all.1 there le)

pub free_here : (at from first last : ℕ) (is : List Interval) (d : Interval) → ApartFrom from is → AllByRecursion (λ j. j.last < first) (take at is) → (at < length is → last < (get_or is at d).first) → list_any (shares first last) is ≡ false
free_here at from first last [] d s all behind = refl
free_here zero from first last (j ∷ is) d s all behind = let b = behind (omega arith) in rw (shares_none first last j (inl b)) (none_behind (j.last + 1) first last is s.2 (omega (arith, s.1)))
free_here (suc at) from first last (j ∷ is) d s all behind = rw (shares_none first last j (inr all.0)) (free_here at (j.last + 1) first last is d s.2 all.1 (λ lt. behind (omega (arith, lt))))

-- ---- those of the thread itself don't stand in the way

any_put_free : (p : Interval → Bool) (i : Interval) (is : List Interval) → p i ≡ false → list_any p (put i is) ≡ list_any p is
any_put_free p i [] a = rw a refl
any_put_free p i (j ∷ is) a =
    elim (cases_lt i.first j.first) [
      | inl lt ↦ rw (lt-ltb _ _ lt) (rw a refl)
      | inr ge ↦ rw (le-ltb _ _ ge) (ap (λ (b : Bool). p j || b) (any_put_free p i is a))
    ]

pub any_put_all_free : (first last next : ℕ) (placed more : List Interval) → next ≤ first → AllByRecursion (λ j. j.last < next) more → list_any (shares first last) (put_all placed more) ≡ list_any (shares first last) placed
any_put_all_free first last next placed [] le all = refl
any_put_all_free first last next placed (i ∷ more) le all = any_put_all_free first last next (put i placed) more le all.1 ∙ any_put_free (shares first last) i placed (shares_none first last i (inr (let b = all.0 in omega arith)))

bind_same : {E A B : Type 0} (r : Result A E) (f g : A → Result B E) → ((x : A) → f x ≡ g x) → (r >>= f) ≡ (r >>= g)
bind_same (Ok x) f g h = h x
bind_same (Err e) f g h = refl

pub interval_same : (budget t next : ℕ) (placed more : List Interval) (bytes : List ℕ) → AllByRecursion (λ j. j.last < next) more → interval_at budget t next (put_all placed more) bytes ≡ interval_at budget t next placed bytes
unfolding interval_at
interval_same budget t next placed more bytes all =
    bind_same (number_at 0 1048576 bytes) _ _ (λ gap. ap (λ (r : Result (Interval × List ℕ) Refusal). cond (ltb 0 next && eqb gap.0 0) (refuse NotMaximal bytes) r) (bind_same (number_at 0 1048576 gap.1) _ _ (λ m. rw (any_put_all_free (next + gap.0) (next + gap.0 + m.0) next placed more (omega arith) all) refl)))

-- ---- what stays in order

pub interval_apart : (budget t next : ℕ) (placed : List Interval) (bytes : List ℕ) (x : Interval × List ℕ) → ApartFrom 0 placed → interval_at budget t next placed bytes ≡ Ok x → ApartFrom 0 (put x.0 placed)
unfolding interval_at
interval_apart budget t next placed bytes x s e =
    let g = bind_ok (number_at 0 1048576 bytes) _ x e in
    let p = passed (ltb 0 next && eqb g.0.0 0) _ _ x g.2 in
    let m = bind_ok (number_at 0 1048576 g.0.1) _ x p.1 in
    let q = passed (leb budget (next + g.0.0 + m.0.0)) _ _ x m.2 in
    let r = passed (list_any (shares (next + g.0.0) (next + g.0.0 + m.0.0)) placed) _ _ x q.1 in
    let i : Interval = record { thread = t; first = next + g.0.0; last = next + g.0.0 + m.0.0 } in
    subst (λ (y : Interval × List ℕ). ApartFrom 0 (put y.0 placed)) (ok_is {E = Refusal} (i, m.0.1) x r.1) (put_apart 0 i placed s (omega arith) (omega arith) r.0)

pub intervals_apart : (count budget t next : ℕ) (placed : List Interval) (bytes : List ℕ) (x : List Interval × List ℕ) → ApartFrom 0 placed → intervals_at count budget t next placed bytes ≡ Ok x → ApartFrom 0 x.0
unfolding intervals_at
intervals_apart zero budget t next placed bytes x s e = subst (λ (y : List Interval × List ℕ). ApartFrom 0 y.0) (ok_is {E = Refusal} (placed, bytes) x e) s
intervals_apart (suc count) budget t next placed bytes x s e =
    let a = bind_ok (interval_at budget t next placed bytes) _ x e in
    intervals_apart count budget t (a.0.0.last + 1) (put a.0.0 placed) a.0.1 x (interval_apart budget t next placed bytes a.0 s a.1) a.2

pub thread_apart : (budget t least : ℕ) (placed : List Interval) (bytes : List ℕ) (x : List Interval × List ℕ) → ApartFrom 0 placed → thread_at budget t least placed bytes ≡ Ok x → ApartFrom 0 x.0
unfolding thread_at
thread_apart budget t least placed bytes x s e =
    let a = bind_ok (number_at least 1048576 bytes) _ x e in
    intervals_apart a.0.0 budget t 0 placed a.0.1 x s a.2

pub put_all_push : (placed more : List Interval) (i : Interval) → put_all placed (more ++ i ∷ []) ≡ put i (put_all placed more)
put_all_push placed more i = put_all-append placed more (i ∷ [])

not_leb : (a b : ℕ) → b < a → leb a b ≡ false
not_leb a b lt = grind arith

is_leb : (a b : ℕ) → a ≤ b → leb a b ≡ true
is_leb a b le = grind arith

pub taken_is : (at first last : ℕ) (is : List Interval) (d : Interval) → ApartFrom 0 is → at < length is → AllByRecursion (λ j. j.last < first) (take at is) → first ≤ (get_or is at d).last → leb (get_or is at d).first last ≡ list_any (shares first last) is
taken_is at first last is d s lt all there =
    elim (cases_lt last (get_or is at d).first) [
      | inl before ↦ not_leb (get_or is at d).first last before ∙ sym (free_here at 0 first last is d s all (λ h. before))
      | inr within ↦ is_leb (get_or is at d).first last within ∙ sym (taken_here at 0 first last is d s lt all there within)
    ]
