-- A turn of the loop, and how the loop's end is that of the pass.
use Rattle.std.proofs.Common.{◌≡◌, ℕ, ◌<◌, ◌≤◌, true, false, length, Option, Some, None, Ok, Err, sym, ◌∙◌, ap, subst, arith}
use Rattle.std.specs.Prelude.{slice_set, Result}
use Rattle.std.proofs.lemmas.Option.{slice_get_within}
use Rattle.vm_model.specs.Program.{PlainMethod, PlainProgram, locals_of}
use Rattle.machine_model.specs.Shapes.{Shape}
use Rattle.shape_verifier.specs.declared.fault.Refusal.{Refusal}
use Rattle.vm_model.specs.declared.memory.Failure.{Failure}
use Rattle.vm_model.specs.declared.memory.Failure.TheVariants as failure
use Rattle.vm_model.specs.Failures.{Fails}
use Rattle.shape_verifier.specs.Passing.{PassState, begun, reached, turned}
use Rattle.shape_verifier.specs.Turning.{AreWithin, EndsFrom, PassedSo, SettledSo, TakenSo, gone_on, refused_first}
use Rattle.shape_verifier.proofs.Turns.{LeadsTo, Keeps, ends_so, gone_keeps, leads_end, leads_stop, marks, turned_none, turned_so}
use Rattle.shape_verifier.proofs.Weights.{weight}

-- the shape that is looked at was taken out of this state
pub record Taken (p : PlainProgram) (n : ℕ) (m : PlainMethod) (old marked : PassState) (place : ℕ) (s : Shape) : Type 0 where
  pub low : place < length old
  pub long : length marked ≡ length old
  pub wide : length s.locals ≡ locals_of m
  pub within : AreWithin m marked
  pub lower : weight p m marked < weight p m old
  pub turns : (answer : Result PassState Refusal) → gone_on p n m marked place s ≡ answer → turned p n m old ≡ Some answer

pub taken : (p : PlainProgram) (n : ℕ) (m : PlainMethod) (old marked : PassState) (o : Option (ℕ × Shape)) (place : ℕ) (s : Shape) → AreWithin m old → TakenSo o old marked → o ≡ Some (place, s)
    → Taken p n m old marked place s
taken p n m old marked o place s all so is = by (subst (λ (x : Option (ℕ × Shape)). TakenSo x old marked) is so)
  where
    by : TakenSo (Some (place, s)) old marked → Taken p n m old marked place s
    by h =
        let k = marks p m old place s all h.0 in
        let lower : weight p m (slice_set old place (reached false s)) < weight p m old = k.lower in
        let same : weight p m marked ≡ weight p m (slice_set old place (reached false s)) = ap (weight p m) h.1 in
        record {
          low = slice_get_within old place (reached true s) k.there;
          long = ap length h.1 ∙ k.long;
          wide = k.shape.locals;
          within = subst (AreWithin m) (sym h.1) k.within;
          lower = omega arith;
          turns = λ answer e. turned_so p n m old marked place s answer h.0 h.1 e;
        }

-- the state after the turn
pub turn_keeps : (p : PlainProgram) (n : ℕ) (m : PlainMethod) (old marked next : PassState) (place : ℕ) (s : Shape) → Taken p n m old marked place s → gone_on p n m marked place s ≡ Ok next → Keeps p m marked next
turn_keeps p n m old marked next place s t e = gone_keeps p n m marked next place s t.wide t.within e

pub turn_lower : (p : PlainProgram) (n : ℕ) (m : PlainMethod) (old marked next : PassState) (place : ℕ) (s : Shape) → Taken p n m old marked place s → gone_on p n m marked place s ≡ Ok next → weight p m next < weight p m old
turn_lower p n m old marked next place s t e =
    let lower : weight p m marked < weight p m old = t.lower in
    let more : weight p m next ≤ weight p m marked = (turn_keeps p n m old marked next place s t e).lower in
    omega arith

-- no shape is new
pub settled : (p : PlainProgram) (n : ℕ) (m : PlainMethod) (first old new : PassState) (o : Option (ℕ × Shape)) → LeadsTo p n m first old → TakenSo o old new → o ≡ None → EndsFrom p n m first (Ok new)
settled p n m first old new o leads so is = by (subst (λ (x : Option (ℕ × Shape)). TakenSo x old new) is so)
  where
    by : TakenSo None old new → EndsFrom p n m first (Ok new)
    by h = subst (λ (x : PassState). EndsFrom p n m first (Ok x)) (sym h.1) (leads_end p n m first old leads (turned_none p n m old h.0))

-- the turn meets a fault
pub stopped : (p : PlainProgram) (n : ℕ) (m : PlainMethod) (first old marked new : PassState) (place : ℕ) (s : Shape) (e : (Failure Refusal)) → LeadsTo p n m first old → Taken p n m old marked place s
    → Fails e (gone_on p n m marked place s) → SettledSo (Err e) p n m first new
stopped p n m first old marked new place s failure.Memory leads t h = tt
stopped p n m first old marked new place s (failure.Fault refusal) leads t h = leads_stop p n m first old refusal leads (t.turns (Err refusal) h)

-- ---- the pass

pub passed_so : (p : PlainProgram) (n : ℕ) (m : PlainMethod) (first last : PassState) (r : Result (Unit {0}) (Failure Refusal)) → refused_first m ≡ None → first ≡ begun m → SettledSo r p n m first last → PassedSo r p n m
passed_so p n m first last (Ok x) none is h = (last, ends_so p n m (Ok last) none (subst (λ (x : PassState). EndsFrom p n m x (Ok last)) is h))
passed_so p n m first last (Err failure.Memory) none is h = tt
passed_so p n m first last (Err (failure.Fault refusal)) none is h = ends_so p n m (Err refusal) none (subst (λ (x : PassState). EndsFrom p n m x (Err refusal)) is h)
