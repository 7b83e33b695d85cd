-- Each pass ends: a turn lowers the weight of the state.
use Rattle.std.proofs.Common.{◌≡◌, ℕ, zero, suc, ◌<◌, ◌≤◌, false, Option, Some, None, Ok, Err, refl, arith}
use Rattle.std.specs.Prelude.{slice_set, Result}
use Rattle.vm_model.specs.Program.{PlainMethod, PlainProgram}
use Rattle.machine_model.specs.Shapes.{Shape}
use Rattle.shape_verifier.specs.declared.fault.Refusal.{Refusal}
use Rattle.shape_verifier.specs.Passing.{PassState, EndsWith, begun, least_new, reached}
use Rattle.shape_verifier.specs.Turning.{AreWithin, EndsFrom, gone_on, refused_first}
use Rattle.shape_verifier.proofs.Turns.{begun_within, ends_so, gone_keeps, leads_end, leads_itself, leads_on, leads_stop, marks, refused_so, turned_none, turned_so}
use Rattle.shape_verifier.proofs.Weights.{weight}

-- the pass ends from this state
abbrev Ends : PlainProgram → ℕ → PlainMethod → PassState → Type 0
Ends p n m state = (answer : Result PassState Refusal) × EndsFrom p n m state answer

-- a turn stops the pass, or leads to a lighter state, from which it ends
turn_ends : (p : PlainProgram) (n : ℕ) (m : PlainMethod) (state : PassState) (place : ℕ) (s : Shape) → AreWithin m state → least_new 0 state ≡ Some (place, s)
    → ((next : PassState) → weight p m next < weight p m state → AreWithin m next → Ends p n m next) → Ends p n m state
turn_ends p n m state place s all e more = by (gone_on p n m (slice_set state place (reached false s)) place s) refl
  where
    by : (r : Result PassState Refusal) → gone_on p n m (slice_set state place (reached false s)) place s ≡ r → Ends p n m state
    by (Err refusal) is = (Err refusal, leads_stop p n m state state refusal (leads_itself p n m state) (turned_so p n m state (slice_set state place (reached false s)) place s (Err refusal) e refl is))
    by (Ok next) is =
        let h = marks p m state place s all e in
        let k = gone_keeps p n m (slice_set state place (reached false s)) next place s h.shape.locals h.within is in
        let lower : weight p m (slice_set state place (reached false s)) < weight p m state = h.lower in
        let no_more : weight p m next ≤ weight p m (slice_set state place (reached false s)) = k.lower in
        let rest : Ends p n m next = more next (omega arith) k.within in (
          rest.0,
          leads_on p n m state state next (leads_itself p n m state) (turned_so p n m state (slice_set state place (reached false s)) place s (Ok next) e refl is) rest.1.0 rest.0 rest.1.1,
        )

ends_below : (bound : ℕ) (p : PlainProgram) (n : ℕ) (m : PlainMethod) (state : PassState) → weight p m state < bound → AreWithin m state → Ends p n m state
ends_below zero p n m state low all = absurd (omega arith)
ends_below (suc bound) p n m state low all = by (least_new 0 state) refl (λ next lower within. ends_below bound p n m next (omega arith) within)
  where
    by : (o : Option (ℕ × Shape)) → least_new 0 state ≡ o → ((next : PassState) → weight p m next < weight p m state → AreWithin m next → Ends p n m next) → Ends p n m state
    by None e more = (Ok state, leads_end p n m state state (leads_itself p n m state) (turned_none p n m state e))
    by (Some here) e more = turn_ends p n m state here.0 here.1 all e more

-- the pass over a method ends
pub method_ends : (p : PlainProgram) (n : ℕ) (m : PlainMethod) → (answer : Result PassState Refusal) × EndsWith p n m answer
method_ends p n m = by (refused_first m) refl
  where
    by : (o : Option Refusal) → refused_first m ≡ o → (answer : Result PassState Refusal) × EndsWith p n m answer
    by (Some refusal) e = (Err refusal, refused_so p n m refusal e)
    by None e =
        let rest : Ends p n m (begun m) = ends_below (suc (weight p m (begun m))) p n m (begun m) (omega arith) (begun_within m e) in
        (rest.0, ends_so p n m rest.0 e rest.1)
