-- What the pass has reached is below each closed table, and a turn of the pass keeps it there.
use Rattle.std.proofs.Common.{◌≡◌, ℕ, zero, suc, ◌+◌, ◌≤◌, Bool, true, false, [], ◌∷◌, length, replicate, Option, Some, None, refl, ◌∙◌, ap, subst, arith}
use Rattle.std.specs.Prelude.{◌||◌, if◌then◌else◌, nat_lt, slice_get, slice_set, Result, Ok, Err}
use Rattle.std.proofs.lemmas.Bool.Decides.{nat_tests}
use Rattle.std.proofs.lemmas.Option.{slice_get_past}
use Rattle.vm_model.specs.declared.instr.Instr.{Instr}
use Rattle.vm_model.specs.Program.{PlainMethod, PlainProgram, code_at, instr_at, method_at}
use Rattle.vm_model.specs.Failures.{◌>>=◌}
use Rattle.machine_model.specs.Shapes.{Shape, Table, Flow, Next, Jump, Branch, Leaves, Refused, Takes, TakesAt, Follows, FollowsAt, HasShapes, first_shape, flow, shape_at}
use Rattle.shape_lattice.specs.declared.fault.ShapeKind.{ShapeKind}
use Rattle.shape_lattice.specs.declared.fault.ShapeKind.TheVariants as fault
use Rattle.shape_lattice.specs.Merging.{IsBelow, merged_shape, takes}
use Rattle.shape_verifier.specs.declared.fault.Refusal.{Refusal}
use Rattle.shape_verifier.specs.declared.passing.Reached.{Reached}
use Rattle.shape_verifier.specs.Judging.{bounded, is_past, refusal, stack_limit}
use Rattle.shape_verifier.specs.Passing.{PassState, at_place, begun, judged_at, least_new, looked_at, merged_at, merged_into, reached, spread, turned, turned_at}
use Rattle.shape_verifier.specs.Kept.{IsBelowAt, IsBelowTable}
use Rattle.shape_laws.proofs.Tests.{at_most}
use Rattle.shape_lattice.proofs.Least.{merged_below, same_depth}
use Rattle.shape_verifier.proofs.Flows.{flow_carries}

-- a shape that was merged is there, and is taken by that of a table
abbrev IsMergedBelow : PlainProgram → Result Shape ShapeKind → Option Shape → Type 0
IsMergedBelow p (Ok merged) o = TakesAt p merged o
IsMergedBelow p (Err _) o = ⊥

merged_below_at : (p : PlainProgram) (new old : Shape) (o : Option Shape) → TakesAt p new o → TakesAt p old o → IsMergedBelow p (merged_shape p new old) o
merged_below_at p new old None a b = absurd a
merged_below_at p new old (Some t) a b = by (merged_shape p new old) (merged_below p new old t a b)
  where
    by : (r : Result Shape ShapeKind) → IsBelow p r t → IsMergedBelow p r (Some t)
    by (Ok merged) h = h
    by (Err _) h = h

-- ---- a state

module _ (p : PlainProgram) (table : Table) (n : ℕ) where
  -- what the pass knows of an instruction, if there is one
  abbrev IsBelowThere : ℕ → Option (Option Reached) → Type 0
  IsBelowThere place None = Unit {0}
  IsBelowThere place (Some r) = IsBelowAt p table n place r

  -- what a state has at a place is below the table
  below_there : (state : PassState) (base k place : ℕ) → place ≡ base + k → IsBelowTable p table n base state → IsBelowThere place (slice_get state k)
  below_there [] base k place e h = tt
  below_there (r ∷ rest) base zero place e h = let same : base ≡ place = omega arith in subst (λ (x : ℕ). IsBelowAt p table n x r) same h.0
  below_there (r ∷ rest) base (suc k) place e h = below_there rest (base + 1) k place (omega arith) h.1

  -- what is put at a place of a state below the table keeps it below
  below_set : (state : PassState) (base k place : ℕ) (r : Option Reached) → place ≡ base + k → IsBelowTable p table n base state → IsBelowAt p table n place r → IsBelowTable p table n base (slice_set state k r)
  below_set [] base k place r e h here = tt
  below_set (q ∷ rest) base zero place r e h here = let same : place ≡ base = omega arith in (subst (λ (x : ℕ). IsBelowAt p table n x r) same here, h.1)
  below_set (q ∷ rest) base (suc k) place r e h here = (h.0, below_set rest (base + 1) k place r (omega arith) h.1 here)

  -- where nothing is reached
  empty_below : (k base : ℕ) → IsBelowTable p table n base (replicate k None)
  empty_below zero base = tt
  empty_below (suc k) base = (tt, empty_below k (base + 1))

  abbrev IsBelowHere : Option (ℕ × Shape) → Type 0
  IsBelowHere None = Unit {0}
  IsBelowHere (Some here) = TakesAt p here.1 (shape_at table n here.0)

  -- the least instruction whose shape is new
  least_below : (state : PassState) (base : ℕ) → IsBelowTable p table n base state → IsBelowHere (least_new base state)
  least_below [] base h = tt
  least_below (None ∷ rest) base h = least_below rest (base + 1) h.1
  least_below (Some r ∷ rest) base h = by r.is_new h.0 (least_below rest (base + 1) h.1)
    where
      by : (b : Bool) → TakesAt p r.shape (shape_at table n base) → IsBelowHere (least_new (base + 1) rest) → IsBelowHere (if b then Some (base, r.shape) else least_new (base + 1) rest)
      by true here more = here
      by false here more = more

  -- ---- merging into a state

  -- the pass goes on, with a state below the table
  abbrev pub StaysBelow : Result PassState Refusal → Type 0
  StaysBelow (Ok state) = IsBelowTable p table n 0 state
  StaysBelow (Err _) = ⊥

  then_stays : (r : Result PassState Refusal) (go : PassState → Result PassState Refusal) → StaysBelow r → ((next : PassState) → IsBelowTable p table n 0 next → StaysBelow (go next)) → StaysBelow (r >>= go)
  then_stays (Ok state) go h more = more state h
  then_stays (Err e) go h more = absurd h

  placed_below : (state : PassState) (place : ℕ) (is_new : Bool) (s : Shape) → IsBelowTable p table n 0 state → TakesAt p s (shape_at table n place) → IsBelowTable p table n 0 (slice_set state place (reached is_new s))
  placed_below state place is_new s h here = below_set state 0 place place (reached is_new s) (omega arith) h here

  -- a shape that the table takes at a place is merged there without a fault
  merged_stays : (state : PassState) (place : ℕ) (s : Shape) → IsBelowTable p table n 0 state → TakesAt p s (shape_at table n place) → StaysBelow (merged_at p state place s)
  merged_stays state place s h here = by (slice_get state place) (below_there state 0 place place (omega arith) h)
    where
      changed : (r : Result Shape ShapeKind) → IsMergedBelow p r (shape_at table n place) → StaysBelow (at_place place r >>= λ merged. Ok (slice_set state place (reached true merged)))
      changed (Ok merged) below = placed_below state place true merged h below
      changed (Err _) below = absurd below

      tested : (b : Bool) (r : Result Shape ShapeKind) → IsMergedBelow p r (shape_at table n place)
          → StaysBelow (if b then Ok state else (at_place place r >>= λ merged. Ok (slice_set state place (reached true merged))))
      tested true r below = h
      tested false r below = changed r below

      by : (o : Option (Option Reached)) → IsBelowThere place o → StaysBelow (merged_into p state place s o)
      by None there = h
      by (Some None) there = placed_below state place true s h here
      by (Some (Some r)) there = tested (takes p s r.shape) (merged_shape p s r.shape) (merged_below_at p s r.shape (shape_at table n place) here there)

  -- a flow that the table follows is merged into its followers
  spread_stays : (state : PassState) (place : ℕ) (f : Flow) → IsBelowTable p table n 0 state → Follows p table n place f → StaysBelow (spread p state place f)
  spread_stays state place (Next s) h follows = merged_stays state (place + 1) s h follows
  spread_stays state place (Jump to s) h follows = merged_stays state to s h follows
  spread_stays state place (Branch to s) h follows =
      then_stays (merged_at p state (place + 1) s) (λ behind. merged_at p behind to s) (merged_stays state (place + 1) s h follows.0) (λ behind below. merged_stays behind to s below follows.1)
  spread_stays state place Leaves h follows = h
  spread_stays state place Refused h follows = absurd follows

-- ---- a turn

module _ (p : PlainProgram) (table : Table) (n : ℕ) (m : PlainMethod) (at : method_at p n ≡ Some m) (closed : HasShapes p table n (Some m)) where
  -- a place that has a shape is one of the method's instructions
  pub not_behind : (place : ℕ) (t : Shape) → shape_at table n place ≡ Some t → is_past m place ≡ false
  not_behind place t is = by (is_past m place) refl
    where
      by : (b : Bool) → is_past m place ≡ b → b ≡ false
      by true behind =
          absurd (subst (λ (o : Option Instr). FollowsAt p table n place t o)
          (ap (λ (o : Option PlainMethod). code_at o place) at ∙ slice_get_past m.code place (at_most (length m.code) place behind)) (closed.1 place t is).1)
      by false behind = refl

  -- a shape that the table's takes is within the limits
  record Bounds (place : ℕ) (s : Shape) : Type 0 where
    depth : nat_lt (stack_limit m) (length s.stack) ≡ false
    there : is_past m place ≡ false

  bounds : (place : ℕ) (s : Shape) (o : Option Shape) → shape_at table n place ≡ o → TakesAt p s o → Bounds place s
  bounds place s None is here = absurd here
  bounds place s (Some t) is here = record { depth = deep (closed.1 place t is).0.stack (same_depth p s.stack t.stack here.stack); there = not_behind place t is }
    where
      deep : length t.stack ≤ stack_limit m → length s.stack ≡ length t.stack → nat_lt (stack_limit m) (length s.stack) ≡ false
      deep few same = grind (arith, nat_tests)

  -- the judgement is that the instruction goes on so, where the table follows it
  abbrev JudgedBelow : ℕ → Result Flow ShapeKind → Type 0
  JudgedBelow place (Ok f) = Follows p table n place f
  JudgedBelow place (Err _) = ⊥

  going_below : (place : ℕ) (s : Shape) (deep behind : Bool) (f : Flow) → deep ≡ false → behind ≡ false → Follows p table n place f
      → JudgedBelow place (if deep then Err fault.Limit else if behind then Err fault.FallsOff else Ok f)
  going_below place s true behind f e e' h = cc
  going_below place s false true f e e' h = cc
  going_below place s false false f e e' h = h

  bounded_below : (place : ℕ) (why : ShapeKind) (f : Flow) → Follows p table n place f → JudgedBelow place (bounded m place why f)
  bounded_below place why (Next s) h =
      let b = bounds (place + 1) s (shape_at table n (place + 1)) refl h in
      going_below place s (nat_lt (stack_limit m) (length s.stack)) (is_past m (place + 1)) (Next s) b.depth b.there h
  bounded_below place why (Jump to s) h =
      let b = bounds to s (shape_at table n to) refl h in
      going_below place s (nat_lt (stack_limit m) (length s.stack)) (is_past m to) (Jump to s) b.depth b.there h
  bounded_below place why (Branch to s) h =
      let b = bounds (place + 1) s (shape_at table n (place + 1)) refl h.0 in
      let b' = bounds to s (shape_at table n to) refl h.1 in
      going_below place s (nat_lt (stack_limit m) (length s.stack)) (is_past m (place + 1) || is_past m to) (Branch to s) b.depth
      (neither (is_past m (place + 1)) (is_past m to) b.there b'.there) h
    where
      neither : (a b : Bool) → a ≡ false → b ≡ false → (a || b) ≡ false
      neither true b e e' = e
      neither false b e e' = e'
  bounded_below place why Leaves h = h
  bounded_below place why Refused h = absurd h

  -- an instruction that is there is judged to go on as the table follows
  judged_below : (place : ℕ) (s : Shape) → TakesAt p s (shape_at table n place) → JudgedBelow place (judged_at p n m place s (instr_at p n place))
  judged_below place s here = by (shape_at table n place) refl here
    where
      follows : (t : Shape) (o : Option Instr) → Takes p s t → FollowsAt p table n place t o → JudgedBelow place (judged_at p n m place s o)
      follows t None a h = absurd h
      follows t (Some i) a h = bounded_below place (refusal p i s) (flow p n i s) (flow_carries p table n place s t a i h)

      by : (o : Option Shape) → shape_at table n place ≡ o → TakesAt p s o → JudgedBelow place (judged_at p n m place s (instr_at p n place))
      by None is a = absurd a
      by (Some t) is a = follows t (instr_at p n place) a (closed.1 place t is).1

  looked_stays : (state : PassState) (place : ℕ) (s : Shape) → IsBelowTable p table n 0 state → TakesAt p s (shape_at table n place) → StaysBelow p table n (looked_at p n m state place s)
  looked_stays state place s h here = by (judged_at p n m place s (instr_at p n place)) (judged_below place s here)
    where
      by : (r : Result Flow ShapeKind) → JudgedBelow place r → StaysBelow p table n (at_place place r >>= λ f. spread p (slice_set state place (reached false s)) place f)
      by (Ok f) follows = spread_stays p table n (slice_set state place (reached false s)) place f (placed_below p table n state place false s h here) follows
      by (Err _) follows = absurd follows

  -- a turn that is made gives a state below the table
  abbrev pub TurnStays : Option (Result PassState Refusal) → Type 0
  TurnStays None = Unit {0}
  TurnStays (Some r) = StaysBelow p table n r

  -- a turn meets no fault
  pub turn_stays : (state : PassState) → IsBelowTable p table n 0 state → TurnStays (turned p n m state)
  unfolding turned
  turn_stays state h = by (least_new 0 state) (least_below p table n state 0 h)
    where
      by : (o : Option (ℕ × Shape)) → IsBelowHere p table n o → TurnStays (turned_at p n m state o)
      by None here = tt
      by (Some here) below = looked_stays state here.0 here.1 h below

  pub goes_on : (state next : PassState) → IsBelowTable p table n 0 state → turned p n m state ≡ Some (Ok next) → IsBelowTable p table n 0 next
  goes_on state next h is = subst TurnStays is (turn_stays state h)

  pub begins : IsBelowTable p table n 0 (begun m)
  begins = below_set p table n (replicate (length m.code) None) 0 0 0 (reached true (first_shape m)) (omega arith) (empty_below p table n (length m.code) 0) closed.0
