-- One table for each method gives one for the program: whether a method's shapes are closed is a matter of its own entry.
use Rattle.std.proofs.Common.{◌≡◌, ℕ, zero, suc, ◌+◌, ◌<◌, ◌≤◌, List, [], ◌∷◌, length, Option, Some, None, refl, sym, ◌∙◌, ap, subst, arith, ◌⊎◌, inl, inr}
use Rattle.std.specs.Prelude.{slice_get}
use Rattle.std.proofs.lemmas.Option.{slice_get_past}
use Rattle.vm_model.specs.declared.instr.Instr.{Instr}
use Rattle.vm_model.specs.Program.{PlainMethod, PlainProgram, instr_at, method_at}
use Rattle.machine_model.specs.Shapes.{Shape, Table, Flow, Next, Jump, Branch, Leaves, Refused, TakesAt, Follows, FollowsAt, HasShapes, IsVerified, first_shape, flow, found, shape_at, shape_in}
use Rattle.shape_verifier.specs.Passing.{HasTable}

-- ---- tables that agree on a method

module _ (p : PlainProgram) (n : ℕ) (old new : Table) (same : (place : ℕ) → shape_at old n place ≡ shape_at new n place) where
  -- what takes a shape in one takes it in the other, and what follows in one follows in the other
  takes_same : (place : ℕ) (s : Shape) → TakesAt p s (shape_at old n place) → TakesAt p s (shape_at new n place)
  takes_same place s h = subst (λ (o : Option Shape). TakesAt p s o) (same place) h

  follows_same : (place : ℕ) (f : Flow) → Follows p old n place f → Follows p new n place f
  follows_same place (Next s) h = takes_same (place + 1) s h
  follows_same place (Jump to s) h = takes_same to s h
  follows_same place (Branch to s) h = (takes_same (place + 1) s h.0, takes_same to s h.1)
  follows_same place Leaves h = h
  follows_same place Refused h = h

  follows_at_same : (place : ℕ) (s : Shape) (o : Option Instr) → FollowsAt p old n place s o → FollowsAt p new n place s o
  follows_at_same place s None h = h
  follows_at_same place s (Some i) h = follows_same place (flow p n i s) h

  -- closed shapes are closed in each table that has the same for the method
  pub shapes_same : (o : Option PlainMethod) → HasShapes p old n o → HasShapes p new n o
  shapes_same None h = h
  shapes_same (Some m) h = (
    takes_same 0 (first_shape m) h.0,
    λ place s is. let closed = h.1 place s (same place ∙ is) in (closed.0, follows_at_same place s (instr_at p n place) closed.1),
  )

-- ---- a table of entries

-- a list that has at each place something of which a fact holds
pub listed : {A : Type 0} (P : ℕ → A → Type 0) (count : ℕ) → ((n : ℕ) → n < count → (x : A) × P n x)
    → (xs : List A) × ((length xs ≡ count) × ((n : ℕ) → n < count → (x : A) × ((slice_get xs n ≡ Some x) × P n x)))
listed {A} P zero has = ([], (refl, λ n low. absurd (omega arith)))
listed {A} P (suc count) has =
    let first = has zero (omega arith) in
    let rest = listed (λ (n : ℕ) (x : A). P (suc n) x) count (λ (n : ℕ) (low : n < count). has (suc n) (omega arith)) in
    let long : length rest.0 ≡ count = rest.1.0 in
    (first.0 ∷ rest.0, (omega arith, there first.0 first.1 rest.0 rest.1.1))
  where
    there : (x : A) → P zero x → (xs : List A) → ((n : ℕ) → n < count → (y : A) × ((slice_get xs n ≡ Some y) × P (suc n) y))
        → (n : ℕ) → n < suc count → (y : A) × ((slice_get (x ∷ xs) n ≡ Some y) × P n y)
    there x h xs more zero low = (x, (refl, h))
    there x h xs more (suc n) low = more n (omega arith)

-- a method's entry in a table, empty where there is none
entry : Option (List (Option Shape)) → List (Option Shape)
entry None = []
entry (Some shapes) = shapes

entry_same : (o : Option (List (Option Shape))) (place : ℕ) → shape_in o place ≡ found (slice_get (entry o) place)
unfolding entry
entry_same None place = refl
entry_same (Some shapes) place = refl

module _ (p : PlainProgram) where
  -- an entry of a closed table for a method
  abbrev IsEntry : ℕ → List (Option Shape) → Type 0
  IsEntry n shapes = (table : Table) × (HasShapes p table n (method_at p n) × ((place : ℕ) → shape_at table n place ≡ found (slice_get shapes place)))

  abbrev IsBehindAll : ℕ → Type 0
  IsBehindAll n = length p.methods ≤ n

  -- a table that has an entry of a closed one for each method is closed
  closed_at : (table : Table) (n : ℕ) (shapes : List (Option Shape)) → slice_get table n ≡ Some shapes → IsEntry n shapes → HasShapes p table n (method_at p n)
  closed_at table n shapes is h = shapes_same p n h.0 table (λ place. h.1.1 place ∙ sym (ap (λ (o : Option (List (Option Shape))). shape_in o place) is)) (method_at p n) h.1.0

  -- there is nothing to show after the last method
  closed_behind : (table : Table) (n : ℕ) → length p.methods ≤ n → HasShapes p table n (method_at p n)
  closed_behind table n behind = subst (λ (o : Option PlainMethod). HasShapes p table n o) (sym (slice_get_past p.methods n behind)) tt

  either_side : (n count : ℕ) → (n < count) ⊎ (count ≤ n)
  either_side n zero = inr (omega arith)
  either_side zero (suc count) = inl (omega arith)
  either_side (suc n) (suc count) = by (either_side n count)
    where
      by : (n < count) ⊎ (count ≤ n) → (suc n < suc count) ⊎ (suc count ≤ suc n)
      by (inl low) = inl (omega arith)
      by (inr high) = inr (omega arith)

  -- a program is verified where each method has a closed table
  pub verified : ((n : ℕ) → n < length p.methods → HasTable p n) → IsVerified p
  verified has = (all.0, λ n. by n (either_side n (length p.methods)))
    where
      all : (xs : List (List (Option Shape))) × ((length xs ≡ length p.methods) × ((n : ℕ) → n < length p.methods → (x : List (Option Shape)) × ((slice_get xs n ≡ Some x) × IsEntry n x)))
      all = listed IsEntry (length p.methods) (λ n low. let own = has n low in (entry (slice_get own.0 n), (own.0, (own.1, λ place. entry_same (slice_get own.0 n) place))))

      by : (n : ℕ) → (n < length p.methods) ⊎ (length p.methods ≤ n) → HasShapes p all.0 n (method_at p n)
      by n (inl low) = let here = all.1.1 n low in closed_at all.0 n here.0 here.1.0 here.1.1
      by n (inr high) = closed_behind all.0 n high
