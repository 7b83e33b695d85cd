-- A pass that stops shows that there is no closed table.
use Rattle.std.proofs.Common.{◌≡◌, ℕ, zero, suc, ◌+◌, ◌-◌, ◌<◌, Bool, true, false, List, [], ◌∷◌, length, Option, Some, None, refl, sym, ◌∙◌, subst, arith, length-append}
use Rattle.std.specs.Prelude.{◌==◌, nat_lt, Result, Ok, Err}
use Rattle.std.proofs.lemmas.List.{length-map, length-replicate}
use Rattle.std.proofs.lemmas.Bool.Decides.{nat_tests}
use Rattle.vm_model.specs.declared.value.Kind.{Kind}
use Rattle.vm_model.specs.Program.{PlainMethod, PlainProgram, locals_of, method_at}
use Rattle.machine_model.specs.Shapes.{Shape, Table, LocalsTake, TakesAt, HasShapes, first_shape, parameters, shape_at}
use Rattle.shape_verifier.specs.declared.fault.Refusal.{Refusal}
use Rattle.shape_verifier.specs.Judging.{is_past}
use Rattle.shape_verifier.specs.Passing.{PassState, EndsWith, HasTable, begun, method_within, pass_within, passed_on, turned}
use Rattle.shape_verifier.specs.Kept.{IsBelowTable}
use Rattle.shape_laws.proofs.Tests.{true_below}
use Rattle.shape_verifier.proofs.Below.{TurnStays, begins, not_behind, turn_stays}

-- as many locals as in a shape that takes them
pub same_width : (p : PlainProgram) (ks ls : List (Option Kind)) → LocalsTake p ks ls → length ks ≡ length ls
same_width p [] [] a = refl
same_width p [] (l ∷ ls) a = absurd a
same_width p (k ∷ ks) [] a = absurd a
same_width p (k ∷ ks) (l ∷ ls) a = let more : length ks ≡ length ls = same_width p ks ls a.1 in omega arith

-- how many locals a method begins with
pub first_width : (m : PlainMethod) → length (first_shape m).locals ≡ length (parameters m) + (locals_of m - length (parameters m))
first_width m = simp (length-append, length-map, length-replicate)

too_wide : (m : PlainMethod) (t : Shape) → nat_lt (locals_of m) (length (parameters m)) ≡ true → length (first_shape m).locals ≡ length t.locals → length t.locals ≡ locals_of m → ⊥
too_wide m t wide same is =
    let more : locals_of m < length (parameters m) = true_below (locals_of m) (length (parameters m)) wide in
    let long : length (first_shape m).locals ≡ length (parameters m) + (locals_of m - length (parameters m)) = first_width m in
    omega arith

empty_behind : (m : PlainMethod) → (length m.code == 0) ≡ true → is_past m 0 ≡ true
empty_behind m empty = grind (arith, nat_tests)

module _ (p : PlainProgram) (table : Table) (n : ℕ) (m : PlainMethod) (at : method_at p n ≡ Some m) (closed : HasShapes p table n (Some m)) where
  -- however many turns there are, the pass meets no fault
  passed_stays : (state : PassState) (o : Option (Result PassState Refusal)) (go : PassState → Option (Result PassState Refusal)) → IsBelowTable p table n 0 state → TurnStays p table n m at closed o
      → ((next : PassState) → IsBelowTable p table n 0 next → TurnStays p table n m at closed (go next)) → TurnStays p table n m at closed (passed_on state o go)
  passed_stays state None go h stays more = h
  passed_stays state (Some (Ok next)) go h stays more = more next stays
  passed_stays state (Some (Err refusal)) go h stays more = absurd stays

  pass_stays : (turns : ℕ) (state : PassState) → IsBelowTable p table n 0 state → TurnStays p table n m at closed (pass_within turns p n m state)
  unfolding pass_within
  pass_stays zero state h = tt
  pass_stays (suc turns) state h =
      passed_stays state (turned p n m state) (pass_within turns p n m) h (turn_stays p table n m at closed state h) (λ next below. pass_stays turns next below)

  -- the parameters have room, and there is an instruction
  fits : nat_lt (locals_of m) (length (parameters m)) ≡ false × ((length m.code == 0) ≡ false)
  fits = at_first (shape_at table n 0) refl closed.0
    where
      room : (b : Bool) (t : Shape) → shape_at table n 0 ≡ Some t → TakesAt p (first_shape m) (Some t) → nat_lt (locals_of m) (length (parameters m)) ≡ b → b ≡ false
      room true t is here wide = absurd (too_wide m t wide (same_width p (first_shape m).locals t.locals here.locals) (closed.1 0 t is).0.locals)
      room false t is here wide = refl

      instruction : (b : Bool) (t : Shape) → shape_at table n 0 ≡ Some t → (length m.code == 0) ≡ b → b ≡ false
      instruction true t is empty = sym (empty_behind m empty) ∙ not_behind p table n m at closed 0 t is
      instruction false t is empty = refl

      at_first : (o : Option Shape) → shape_at table n 0 ≡ o → TakesAt p (first_shape m) o → (nat_lt (locals_of m) (length (parameters m)) ≡ false) × ((length m.code == 0) ≡ false)
      at_first None is here = absurd here
      at_first (Some t) is here = (room (nat_lt (locals_of m) (length (parameters m))) t is here refl, instruction (length m.code == 0) t is refl)

  method_stays : (turns : ℕ) → TurnStays p table n m at closed (method_within turns p n m)
  method_stays turns = rw (fits.0, fits.1) (pass_stays turns (begun m) (begins p table n m at closed))

  -- no fault stops the pass over a method that has a table
  pub never_stops : (refusal : Refusal) → EndsWith p n m (Err refusal) → ⊥
  never_stops refusal stops = subst (TurnStays p table n m at closed) stops.1 (method_stays stops.0)

-- a method over which the pass stops has no table
pub shows_none : (p : PlainProgram) (n : ℕ) (m : PlainMethod) (refusal : Refusal) → method_at p n ≡ Some m → EndsWith p n m (Err refusal) → HasTable p n → ⊥
shows_none p n m refusal at stops has = never_stops p has.0 n m at (subst (λ (o : Option PlainMethod). HasShapes p has.0 n o) at has.1) refusal stops
