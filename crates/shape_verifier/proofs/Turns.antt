-- A turn of the pass: what it keeps of the state, that it makes it lighter, and how the pass goes on from it.
use Rattle.std.proofs.Common.{◌≡◌, ℕ, zero, suc, ◌+◌, ◌-◌, ◌<◌, ◌≤◌, Bool, true, false, length, replicate, Option, Some, None, Ok, Err, refl, sym, ◌∙◌, ap, subst, arith, length-append}
use Rattle.std.proofs.lemmas.List.{length-map, length-replicate}
use Rattle.std.proofs.lemmas.Bool.Decides.{nat_tests}
use Rattle.std.specs.Prelude.{◌==◌, if◌then◌else◌, nat_lt, slice_get, slice_set, Result}
use Rattle.vm_model.specs.declared.instr.Instr.{Instr}
use Rattle.vm_model.specs.Program.{PlainMethod, PlainProgram, instr_at, locals_of}
use Rattle.vm_model.specs.Failures.{◌>>=◌}
use Rattle.machine_model.specs.Shapes.{Shape, Flow, Next, Jump, Branch, Leaves, Refused, IsWithinLimits, first_shape, parameters}
use Rattle.shape_lattice.specs.declared.fault.ShapeKind.{ShapeKind}
use Rattle.shape_lattice.specs.declared.fault.ShapeKind.TheVariants as fault
use Rattle.shape_verifier.specs.declared.fault.Refusal.{Refusal}
use Rattle.shape_verifier.specs.Judging.{judged}
use Rattle.shape_verifier.specs.Passing.{PassState, EndsWith, at_place, begun, judged_at, least_new, merged_at, method_within, pass_within, passed_on, reached, spread, turned, turned_at}
use Rattle.shape_verifier.specs.Turning.{AreWithin, EndsFrom, IsWithin, gone_on, refused_first}
use Rattle.shape_laws.proofs.Tests.{all_set, all_there}
use Rattle.shape_verifier.proofs.Arrivals.{Arrives, Nowhere, First, Stays, Raised, arrives}
use Rattle.shape_verifier.proofs.Limits.{GoesWithin, arrives_within, judged_so}
use Rattle.shape_verifier.proofs.News.{least_there}
use Rattle.shape_verifier.proofs.Places.{as_long}
use Rattle.shape_verifier.proofs.Weights.{arrives_lower, marked_lower, weight}

-- ---- what a turn keeps

-- a state that comes of another: as long, within the limits, and no heavier
pub record Keeps (p : PlainProgram) (m : PlainMethod) (old new : PassState) : Type 0 where
  pub long : length new ≡ length old
  pub within : AreWithin m new
  pub lower : weight p m new ≤ weight p m old

arrives_long : (p : PlainProgram) (state next : PassState) (place : ℕ) (s : Shape) → Arrives p state place s next → length next ≡ length state
arrives_long p state next place s (Nowhere at is) = ap length is
arrives_long p state next place s (First at is) = ap length is ∙ as_long state place (reached true s)
arrives_long p state next place s (Stays r at takes is) = ap length is
arrives_long p state next place s (Raised r merged at not e is) = ap length is ∙ as_long state place (reached true merged)

merged_keeps : (p : PlainProgram) (m : PlainMethod) (state next : PassState) (place : ℕ) (s : Shape) → IsWithinLimits m s → AreWithin m state → merged_at p state place s ≡ Ok next → Keeps p m state next
merged_keeps p m state next place s h all e =
    let a = arrives p state place s next e in
    record { long = arrives_long p state next place s a; within = arrives_within p m state next place s h all a; lower = arrives_lower p m state next place s h all a }

keeps_on : (p : PlainProgram) (m : PlainMethod) (old new newer : PassState) → Keeps p m old new → Keeps p m new newer → Keeps p m old newer
keeps_on p m old new newer h k =
    let lower : weight p m new ≤ weight p m old = h.lower in
    let lower_more : weight p m newer ≤ weight p m new = k.lower in
    record { long = k.long ∙ h.long; within = k.within; lower = omega arith }

keeps_itself : (p : PlainProgram) (m : PlainMethod) (state : PassState) → AreWithin m state → Keeps p m state state
keeps_itself p m state all = record { long = refl; within = all; lower = omega arith }

-- what comes of a step and a further one
abbrev pub both_steps : {A B : Type 0} → Result A Refusal → (A → Result B Refusal) → Result B Refusal
both_steps r go = r >>= go

then_keeps : (p : PlainProgram) (m : PlainMethod) (old newer : PassState) (r : Result PassState Refusal) (go : PassState → Result PassState Refusal)
    → ((new : PassState) → r ≡ Ok new → Keeps p m old new) → ((new : PassState) → AreWithin m new → go new ≡ Ok newer → Keeps p m new newer) → (r >>= go) ≡ Ok newer → Keeps p m old newer
then_keeps p m old newer (Ok new) go h k e = let here = h new refl in keeps_on p m old new newer here (k new here.within e)
then_keeps p m old newer (Err refusal) go h k e = cc

ok_state : (x y : PassState) → ◌≡◌ {A = Result PassState Refusal} (Ok x) (Ok y) → x ≡ y
ok_state x y e = cc

spread_keeps : (p : PlainProgram) (m : PlainMethod) (state next : PassState) (place : ℕ) (f : Flow) → GoesWithin m place f → AreWithin m state → spread p state place f ≡ Ok next → Keeps p m state next
spread_keeps p m state next place (Next s) h all e = merged_keeps p m state next (place + 1) s h.0 all e
spread_keeps p m state next place (Jump to s) h all e = merged_keeps p m state next to s h.0 all e
spread_keeps p m state next place (Branch to s) h all e =
    then_keeps p m state next (merged_at p state (place + 1) s) (λ behind. merged_at p behind to s)
    (λ new is. merged_keeps p m state new (place + 1) s h.0 all is) (λ new within is. merged_keeps p m new next to s h.0 within is) e
spread_keeps p m state next place Leaves h all e = subst (Keeps p m state) (ok_state state next e) (keeps_itself p m state all)
spread_keeps p m state next place Refused h all e = absurd h

ok_flow : (f g : Flow) → ◌≡◌ {A = Result Flow ShapeKind} (Ok f) (Ok g) → f ≡ g
ok_flow f g e = cc

-- an instruction is judged, and what it makes is merged
pub gone_keeps : (p : PlainProgram) (n : ℕ) (m : PlainMethod) (state next : PassState) (place : ℕ) (s : Shape) → length s.locals ≡ locals_of m → AreWithin m state → gone_on p n m state place s ≡ Ok next → Keeps p m state next
gone_keeps p n m state next place s wide all e = by (instr_at p n place) e
  where
    judged_by : (i : Instr) (r : Result Flow ShapeKind) → judged p n m place i s ≡ r → (at_place place r >>= λ flow. spread p state place flow) ≡ Ok next → Keeps p m state next
    judged_by i (Ok f) is e' = let j = judged_so p n m place i s f wide is in spread_keeps p m state next place f j.within all e'
    judged_by i (Err why) is e' = cc

    by : (o : Option Instr) → (at_place place (judged_at p n m place s o) >>= λ flow. spread p state place flow) ≡ Ok next → Keeps p m state next
    by None e' = cc
    by (Some i) e' = judged_by i (judged p n m place i s) refl e'

-- ---- how the pass goes on

-- however the pass ends from the second state, it ends from the first
abbrev pub LeadsTo : PlainProgram → ℕ → PlainMethod → PassState → PassState → Type 0
LeadsTo p n m first state = (turns : ℕ) (answer : Result PassState Refusal) → pass_within turns p n m state ≡ Some answer → (all : ℕ) × (pass_within all p n m first ≡ Some answer)

pub leads_itself : (p : PlainProgram) (n : ℕ) (m : PlainMethod) (state : PassState) → LeadsTo p n m state state
leads_itself p n m state = λ turns answer e. (turns, e)

one_more : (p : PlainProgram) (n : ℕ) (m : PlainMethod) (state : PassState) (turns : ℕ) (o : Option (Result PassState Refusal)) → turned p n m state ≡ o
    → pass_within (suc turns) p n m state ≡ passed_on state o (pass_within turns p n m)
unfolding pass_within
one_more p n m state turns o e = ap (λ (x : Option (Result PassState Refusal)). passed_on state x (pass_within turns p n m)) e

pub leads_on : (p : PlainProgram) (n : ℕ) (m : PlainMethod) (first state next : PassState) → LeadsTo p n m first state → turned p n m state ≡ Some (Ok next) → LeadsTo p n m first next
leads_on p n m first state next leads e = λ turns answer is. leads (suc turns) answer (one_more p n m state turns (Some (Ok next)) e ∙ is)

pub leads_stop : (p : PlainProgram) (n : ℕ) (m : PlainMethod) (first state : PassState) (refusal : Refusal) → LeadsTo p n m first state → turned p n m state ≡ Some (Err refusal)
    → (all : ℕ) × (pass_within all p n m first ≡ Some (Err refusal))
leads_stop p n m first state refusal leads e = leads 1 (Err refusal) (one_more p n m state 0 (Some (Err refusal)) e)

pub leads_end : (p : PlainProgram) (n : ℕ) (m : PlainMethod) (first state : PassState) → LeadsTo p n m first state → turned p n m state ≡ None
    → (all : ℕ) × (pass_within all p n m first ≡ Some (Ok state))
leads_end p n m first state leads e = leads 1 (Ok state) (one_more p n m state 0 None e)

-- a turn, by what is new
pub turned_so : (p : PlainProgram) (n : ℕ) (m : PlainMethod) (state marked : PassState) (place : ℕ) (s : Shape) (answer : Result PassState Refusal) → least_new 0 state ≡ Some (place, s)
    → marked ≡ slice_set state place (reached false s) → gone_on p n m marked place s ≡ answer → turned p n m state ≡ Some answer
unfolding turned
turned_so p n m state marked place s answer least is e =
    ap (λ (o : Option (ℕ × Shape)). turned_at p n m state o) least
    ∙ ap Some (sym (ap (λ (x : PassState). gone_on p n m x place s) is) ∙ e)

pub turned_none : (p : PlainProgram) (n : ℕ) (m : PlainMethod) (state : PassState) → least_new 0 state ≡ None → turned p n m state ≡ None
unfolding turned
turned_none p n m state least = ap (λ (o : Option (ℕ × Shape)). turned_at p n m state o) least

-- ---- the shape that is looked at

-- it is within the limits, and the state where it isn't new any more is lighter
pub record Marks (p : PlainProgram) (m : PlainMethod) (state : PassState) (place : ℕ) (s : Shape) : Type 0 where
  pub there : slice_get state place ≡ Some (reached true s)
  pub long : length (slice_set state place (reached false s)) ≡ length state
  pub shape : IsWithinLimits m s
  pub within : AreWithin m (slice_set state place (reached false s))
  pub lower : weight p m (slice_set state place (reached false s)) < weight p m state

pub marks : (p : PlainProgram) (m : PlainMethod) (state : PassState) (place : ℕ) (s : Shape) → AreWithin m state → least_new 0 state ≡ Some (place, s) → Marks p m state place s
marks p m state place s all least =
    let found = least_there state 0 place s least in
    let e : found.0 ≡ place = omega (arith, found.1) in
    let at = subst (λ (k : ℕ). slice_get state k ≡ Some (reached true s)) e found.2 in
    let shape : IsWithinLimits m s = all_there (IsWithin m) state place (reached true s) all at in
    record {
      there = at;
      long = as_long state place (reached false s);
      shape = shape;
      within = all_set (IsWithin m) state place (reached false s) all shape;
      lower = marked_lower p m state place s at;
    }

-- ---- the method

-- the tests before the first turn
abbrev tests : {A : Type 0} → Bool → Bool → A → A → A → A
tests wide empty limit falls rest = if wide then limit else if empty then falls else rest

abbrev refusal_of : ShapeKind → Refusal
refusal_of kind = record { kind = kind; at = 0 }

first_so : (a b : Bool) (rest : Option (Result PassState Refusal)) → ◌≡◌ {A = Option Refusal} (tests a b (Some (refusal_of fault.Limit)) (Some (refusal_of fault.FallsOff)) None) None
    → ◌≡◌ {A = Option (Result PassState Refusal)} (tests a b (Some (Err (refusal_of fault.Limit))) (Some (Err (refusal_of fault.FallsOff))) rest) rest
first_so true b rest e = cc
first_so false true rest e = cc
first_so false false rest e = refl

stop_so : (a b : Bool) (rest : Option (Result PassState Refusal)) (refusal : Refusal) → ◌≡◌ {A = Option Refusal} (tests a b (Some (refusal_of fault.Limit)) (Some (refusal_of fault.FallsOff)) None) (Some refusal)
    → ◌≡◌ {A = Option (Result PassState Refusal)} (tests a b (Some (Err (refusal_of fault.Limit))) (Some (Err (refusal_of fault.FallsOff))) rest) (Some (Err refusal))
stop_so true b rest refusal e = let same : refusal_of fault.Limit ≡ refusal = cc in ap (λ (r : Refusal). Some (Err r)) same
stop_so false true rest refusal e = let same : refusal_of fault.FallsOff ≡ refusal = cc in ap (λ (r : Refusal). Some (Err r)) same
stop_so false false rest refusal e = cc

pub within_first : (p : PlainProgram) (n : ℕ) (m : PlainMethod) (turns : ℕ) → refused_first m ≡ None → method_within turns p n m ≡ pass_within turns p n m (begun m)
within_first p n m turns e = first_so (nat_lt (locals_of m) (length (parameters m))) (length m.code == 0) (pass_within turns p n m (begun m)) e

pub refused_so : (p : PlainProgram) (n : ℕ) (m : PlainMethod) (refusal : Refusal) → refused_first m ≡ Some refusal → EndsWith p n m (Err refusal)
refused_so p n m refusal e = (0, stop_so (nat_lt (locals_of m) (length (parameters m))) (length m.code == 0) (pass_within 0 p n m (begun m)) refusal e)

pub ends_so : (p : PlainProgram) (n : ℕ) (m : PlainMethod) (answer : Result PassState Refusal) → refused_first m ≡ None → EndsFrom p n m (begun m) answer → EndsWith p n m answer
ends_so p n m answer first ends = (ends.0, within_first p n m ends.0 first ∙ ends.1)

-- ---- the first state

tests_pass : (a b : Bool) → ◌≡◌ {A = Option Refusal} (tests a b (Some (refusal_of fault.Limit)) (Some (refusal_of fault.FallsOff)) None) None → (a ≡ false) × (b ≡ false)
tests_pass true b e = cc
tests_pass false true e = cc
tests_pass false false e = (refl, refl)

first_within : (m : PlainMethod) → refused_first m ≡ None → IsWithinLimits m (first_shape m)
first_within m e =
    let tested = tests_pass (nat_lt (locals_of m) (length (parameters m))) (length m.code == 0) e in
    let narrow : nat_lt (locals_of m) (length (parameters m)) ≡ false = tested.0 in
    let room : length (parameters m) ≤ locals_of m = grind (arith, nat_tests) in
    let wide : length (first_shape m).locals ≡ length (parameters m) + (locals_of m - length (parameters m)) = simp (length-append, length-map, length-replicate) in
    record { stack = omega arith; locals = omega arith }

none_within : (m : PlainMethod) (count : ℕ) → AreWithin m (replicate count None)
none_within m zero = tt
none_within m (suc count) = (tt, none_within m count)

pub begun_within : (m : PlainMethod) → refused_first m ≡ None → AreWithin m (begun m)
begun_within m e = all_set (IsWithin m) (replicate (length m.code) None) 0 (reached true (first_shape m)) (none_within m (length m.code)) (first_within m e)

pub begun_long : (m : PlainMethod) → length (begun m) ≡ length m.code
begun_long m = as_long (replicate (length m.code) None) 0 (reached true (first_shape m)) ∙ length-replicate (length m.code) None
