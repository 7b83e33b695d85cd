-- Before which instruction no shape is new.
use Rattle.std.proofs.Common.{◌≡◌, ℕ, zero, suc, ◌+◌, ◌<◌, ◌≤◌, Bool, true, false, [], ◌∷◌, length, drop, Option, Some, None, refl, sym, ◌∙◌, ap, subst, arith, ⊎_elim, ◌⊎◌, inl, inr}
use Rattle.std.specs.Prelude.{◌==◌, if◌then◌else◌, slice_get, slice_set}
use Rattle.std.proofs.lemmas.Bool.Decides.{nat_tests}
use Rattle.vm_model.specs.Program.{PlainProgram}
use Rattle.machine_model.specs.Shapes.{Shape}
use Rattle.shape_verifier.specs.declared.passing.Reached.{Reached}
use Rattle.shape_verifier.specs.Passing.{PassState, least_new, reached}
use Rattle.shape_verifier.specs.Turning.{NoneNewBelow, is_new_in}
use Rattle.shape_verifier.proofs.Arrivals.{Arrives, Nowhere, First, Stays, Raised}
use Rattle.shape_verifier.proofs.Places.{untouched, written}

-- ---- the least one

-- what isn't new is passed by
past : (r : Reached) (base : ℕ) (rest : PassState) → r.is_new ≡ false → least_new base (Some r ∷ rest) ≡ least_new (base + 1) rest
past r base rest e = ap (λ (b : Bool). if b then Some (base, r.shape) else least_new (base + 1) rest) e

behind : (from : ℕ) (x : Option Reached) (rest : PassState) → NoneNewBelow (suc from) (x ∷ rest) → NoneNewBelow from rest
behind from x rest h = λ k low. h (suc k) (omega arith)

least_from : (state : PassState) (base from : ℕ) → NoneNewBelow from state → least_new base state ≡ least_new (base + from) (drop from state)
least_from state base zero h = let e : base ≡ base + 0 = omega arith in ap (λ k. least_new k state) e
least_from [] base (suc from) h = refl
least_from (None ∷ rest) base (suc from) h =
    let e : (base + 1) + from ≡ base + suc from = omega arith in
    least_from rest (base + 1) from (behind from None rest h) ∙ ap (λ k. least_new k (drop from rest)) e
least_from (Some r ∷ rest) base (suc from) h =
    let e : (base + 1) + from ≡ base + suc from = omega arith in
    past r base rest (h zero (omega arith)) ∙ least_from rest (base + 1) from (behind from (Some r) rest h) ∙ ap (λ k. least_new k (drop from rest)) e

least_here : (state : PassState) (base place : ℕ) (r : Reached) → slice_get state place ≡ Some (Some r) → r.is_new ≡ true → least_new base (drop place state) ≡ Some (base, r.shape)
least_here [] base place r at is = cc
least_here (None ∷ rest) base zero r at is = cc
least_here (Some q ∷ rest) base zero r at is =
    let same : q ≡ r = cc in
    subst (λ (x : Reached). least_new base (Some x ∷ rest) ≡ Some (base, r.shape)) (sym same) (ap (λ (b : Bool). if b then Some (base, r.shape) else least_new (base + 1) rest) is)
least_here (x ∷ rest) base (suc place) r at is = least_here rest base place r at is

-- the first that is new is the least
pub least_is : (state : PassState) (place : ℕ) (r : Reached) → NoneNewBelow place state → slice_get state place ≡ Some (Some r) → r.is_new ≡ true → least_new 0 state ≡ Some (place, r.shape)
least_is state place r h at is =
    let e : 0 + place ≡ place = omega arith in
    least_from state 0 place h ∙ ap (λ k. least_new k (drop place state)) e ∙ least_here state place place r at is

none_from : (state : PassState) (base from : ℕ) → NoneNewBelow from state → length state ≤ from → least_new base state ≡ None
none_from [] base from h all = refl
none_from (x ∷ rest) base zero h all = absurd (omega arith)
none_from (None ∷ rest) base (suc from) h all = none_from rest (base + 1) from (behind from None rest h) (omega arith)
none_from (Some r ∷ rest) base (suc from) h all = past r base rest (h zero (omega arith)) ∙ none_from rest (base + 1) from (behind from (Some r) rest h) (omega arith)

pub none_is : (state : PassState) (from : ℕ) → NoneNewBelow from state → length state ≤ from → least_new 0 state ≡ None
none_is state from h all = none_from state 0 from h all

same_reached : (r : Reached) (s : Shape) (b : Bool) → r.shape ≡ s → r.is_new ≡ b → r ≡ record { shape = s; is_new = b }
same_reached r s b e e' = λ i. record { shape = e i; is_new = e' i }

-- the least that is new stands where it was found
pub least_there : (state : PassState) (base place : ℕ) (s : Shape) → least_new base state ≡ Some (place, s) → (k : ℕ) × (base + k ≡ place) × (slice_get state k ≡ Some (reached true s))
least_there [] base place s e = cc
least_there (None ∷ rest) base place s e =
    let more = least_there rest (base + 1) place s e in
    let sum : base + suc more.0 ≡ place = omega (arith, more.1) in
    (suc more.0, sum, more.2)
least_there (Some r ∷ rest) base place s e = by r.is_new refl e (least_there rest (base + 1) place s)
  where
    by : (b : Bool) → r.is_new ≡ b → (if b then Some (base, r.shape) else least_new (base + 1) rest) ≡ Some (place, s)
        → (least_new (base + 1) rest ≡ Some (place, s) → (k : ℕ) × (base + 1 + k ≡ place) × (slice_get rest k ≡ Some (reached true s)))
        → (k : ℕ) × (base + k ≡ place) × (slice_get (Some r ∷ rest) k ≡ Some (reached true s))
    by true is e' more =
        let pair : ◌≡◌ {A = ℕ × Shape} (base, r.shape) (place, s) = cc in
        let at : base + 0 ≡ place = omega (arith, ap (λ (x : ℕ × Shape). x.0) pair) in
        let shape : r.shape ≡ s = ap (λ (x : ℕ × Shape). x.1) pair in
        let whole = same_reached r s true shape is in
        (zero, at, ap (λ (x : Reached). Some (Some x)) whole)
    by false is e' more =
        let m = more e' in
        let sum : base + suc m.0 ≡ place = omega (arith, m.1) in
        (suc m.0, sum, m.2)

-- ---- before which one

cases_below : (k place : ℕ) → k < place + 1 → (k ≡ place) ⊎ (k < place)
cases_below k place low = by (k == place) refl
  where
    by : (b : Bool) → (k == place) ≡ b → (k ≡ place) ⊎ (k < place)
    by true is = let e : k ≡ place = grind (arith, nat_tests) in inl e
    by false is = let e : k < place = grind (arith, nat_tests) in inr e

pub none_here : (state : PassState) (place : ℕ) → NoneNewBelow place state → is_new_in (slice_get state place) ≡ false → NoneNewBelow (place + 1) state
none_here state place h here = λ k low. ⊎_elim (λ e. subst (λ (j : ℕ). is_new_in (slice_get state j) ≡ false) (sym e) here) (λ below. h k below) (cases_below k place low)

pub none_marked : (state : PassState) (place : ℕ) (s : Shape) (x : Option Reached) → NoneNewBelow place state → slice_get state place ≡ Some x → NoneNewBelow (place + 1) (slice_set state place (reached false s))
none_marked state place s x h at =
    none_here (slice_set state place (reached false s)) place
    (λ k low. ap is_new_in (untouched state place k (reached false s) (λ e. absurd (omega arith))) ∙ h k low)
    (ap is_new_in (written state place (reached false s) x at))

none_other : (state : PassState) (from place : ℕ) (x : Option Reached) → from ≤ place → NoneNewBelow from state → NoneNewBelow from (slice_set state place x)
none_other state from place x far h = λ k low. ap is_new_in (untouched state place k x (λ e. absurd (omega arith))) ∙ h k low

-- a shape arrives no earlier
pub none_arrives : (p : PlainProgram) (state next : PassState) (from place : ℕ) (s : Shape) → from ≤ place → NoneNewBelow from state → Arrives p state place s next → NoneNewBelow from next
none_arrives p state next from place s far h (Nowhere at is) = subst (NoneNewBelow from) (sym is) h
none_arrives p state next from place s far h (First at is) = subst (NoneNewBelow from) (sym is) (none_other state from place (reached true s) far h)
none_arrives p state next from place s far h (Stays r at takes is) = subst (NoneNewBelow from) (sym is) h
none_arrives p state next from place s far h (Raised r merged at not e is) = subst (NoneNewBelow from) (sym is) (none_other state from place (reached true merged) far h)

pub fewer : (state : PassState) (from to : ℕ) → to ≤ from → NoneNewBelow from state → NoneNewBelow to state
fewer state from to le h = λ k low. h k (omega arith)
