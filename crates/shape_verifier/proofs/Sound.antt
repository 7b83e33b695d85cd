-- The states of the pass: what isn't new was looked at, and its followers take what it makes. When nothing is new, the shapes
-- are closed.
use Rattle.std.proofs.Common.{◌≡◌, ℕ, zero, suc, ◌+◌, ◌-◌, ◌<◌, ◌≤◌, Bool, true, false, List, [], ◌∷◌, length, replicate, Option, Some, None, refl, sym, ◌∙◌, ap, subst, arith, ◌⊎◌, inl, inr}
use Rattle.std.specs.Prelude.{◌==◌, ◌||◌, if◌then◌else◌, nat_lt, slice_get, slice_set, Result, Ok, Err}
use Rattle.std.proofs.lemmas.Bool.{false≢true}
use Rattle.std.proofs.lemmas.Bool.Decides.{nat_tests}
use Rattle.std.proofs.lemmas.List.{length-replicate}
use Rattle.std.proofs.lemmas.Option.{slice_get_within}
use Rattle.vm_model.specs.declared.instr.Instr.{Instr}
use Rattle.vm_model.specs.Program.{PlainMethod, PlainProgram, instr_at, locals_of, method_at}
use Rattle.vm_model.specs.Failures.{◌>>=◌}
use Rattle.machine_model.specs.Shapes.{Shape, Table, Flow, Next, Jump, Branch, Leaves, Refused, IsWithinLimits, TakesAt, Follows, FollowsAt, HasShapes, first_shape, flow, found, parameters, shape_at, shape_in}
use Rattle.shape_lattice.specs.declared.fault.ShapeKind.{ShapeKind}
use Rattle.shape_lattice.specs.declared.fault.ShapeKind.TheVariants as fault
use Rattle.shape_verifier.specs.declared.fault.Refusal.{Refusal}
use Rattle.shape_verifier.specs.declared.passing.Reached.{Reached}
use Rattle.shape_verifier.specs.Judging.{bounded, is_past, judged, refusal, stack_limit}
use Rattle.shape_verifier.specs.Passing.{PassState, EndsWith, HasTable, at_place, begun, judged_at, least_new, looked_at, method_within, pass_within, passed_on, reached, spread, turned, turned_at}
use Rattle.shape_lattice.proofs.Taking.{takes_itself}
use Rattle.shape_verifier.proofs.Stops.{first_width}
use Rattle.shape_verifier.proofs.Widths.{HasWidth, flow_keeps, set_width}
use Rattle.shape_verifier.proofs.Raised.{FollowsIn, IsAt, IsGoing, IsMerged, IsRaised, KeepsLimits, SpreadSo, raised_follows, raised_takes, same_some, set_here, set_stays, set_there, shape_here, shape_of, spread_gives}

-- ---- a judgement

-- the judgement is that control goes on as the flow says, within the limits
abbrev JudgedSo : PlainMethod → ℕ → Flow → Result Flow ShapeKind → Type 0
JudgedSo m place f (Ok g) = (f ≡ g) × IsGoing m place g
JudgedSo m place f (Err _) = Unit {0}

module _ (m : PlainMethod) where
  -- what passes both tests goes on
  going_gives : (place : ℕ) (f : Flow) (deep behind : Bool) → (deep ≡ false → behind ≡ false → IsGoing m place f)
      → JudgedSo m place f (if deep then Err fault.Limit else if behind then Err fault.FallsOff else Ok f)
  going_gives place f true behind h = tt
  going_gives place f false true h = tt
  going_gives place f false false h = (refl, h refl refl)

  -- the first test says that the stack isn't too deep
  limits_of : (s : Shape) → nat_lt (stack_limit m) (length s.stack) ≡ false → length s.locals ≡ locals_of m → IsWithinLimits m s
  limits_of s deep wide = record { stack = few (stack_limit m) (length s.stack) deep; locals = wide }
    where
      few : (limit depth : ℕ) → nat_lt limit depth ≡ false → depth ≤ limit
      few limit depth e = grind (arith, nat_tests)

  -- the second test says that there is an instruction
  is_there : (place : ℕ) → is_past m place ≡ false → place < length m.code
  is_there place e = grind (arith, nat_tests)

  neither : (a b : Bool) → (a || b) ≡ false → (a ≡ false) × (b ≡ false)
  neither true b e = absurd (false≢true (sym e))
  neither false b e = (refl, e)

  -- a flow that is let through stays within the limits
  bounded_gives : (place : ℕ) (why : ShapeKind) (f : Flow) → HasWidth (locals_of m) f → JudgedSo m place f (bounded m place why f)
  bounded_gives place why (Next s) wide =
      going_gives place (Next s) (nat_lt (stack_limit m) (length s.stack)) (is_past m (place + 1)) (λ deep behind. (limits_of s deep wide, is_there (place + 1) behind))
  bounded_gives place why (Jump to s) wide =
      going_gives place (Jump to s) (nat_lt (stack_limit m) (length s.stack)) (is_past m to) (λ deep behind. (limits_of s deep wide, is_there to behind))
  bounded_gives place why (Branch to s) wide =
      going_gives place (Branch to s) (nat_lt (stack_limit m) (length s.stack)) (is_past m (place + 1) || is_past m to)
      (λ deep behind. let parts = neither (is_past m (place + 1)) (is_past m to) behind in (limits_of s deep wide, (is_there (place + 1) parts.0, is_there to parts.1)))
  bounded_gives place why Leaves wide = (refl, tt)
  bounded_gives place why Refused wide = tt

-- ---- the least instruction whose shape is new

nothing : (x : Option Reached) → ◌≡◌ {A = Option (Option Reached)} None (Some x) → ⊥
nothing x e = cc

unreached : (r : Reached) → ◌≡◌ {A = Option (Option Reached)} (Some None) (Some (Some r)) → ⊥
unreached r e = cc

both_some : (q r : Reached) → ◌≡◌ {A = Option (Option Reached)} (Some (Some q)) (Some (Some r)) → q ≡ r
both_some q r e = cc

-- no shape is new
abbrev NoneNew : PassState → Type 0
NoneNew state = (place : ℕ) (r : Reached) → IsAt state place r → r.is_new ≡ false

-- the least instruction with a new shape, counted from a base, is one of the state; if there is none, nothing is new
abbrev LeastSo : PassState → ℕ → Option (ℕ × Shape) → Type 0
LeastSo state base None = NoneNew state
LeastSo state base (Some here) = (k : ℕ) × ((here.0 ≡ base + k) × IsAt state k (record { shape = here.1; is_new = true }))

-- the least of the rest, where the first isn't new
least_behind : (o : Option Reached) (rest : PassState) (base : ℕ) → ((r : Reached) → o ≡ Some r → r.is_new ≡ false) → (l : Option (ℕ × Shape)) → LeastSo rest (base + 1) l → LeastSo (o ∷ rest) base l
least_behind o rest base first None h = by
  where
    by : NoneNew (o ∷ rest)
    by zero r is = first r (same_some o (Some r) is)
    by (suc k) r is = h k r is
least_behind o rest base first (Some here) h = let e : here.0 ≡ base + 1 + h.0 = h.1.0 in (suc h.0, (omega arith, h.1.1))

least_so : (state : PassState) (base : ℕ) → LeastSo state base (least_new base state)
least_so [] base = λ k r is. absurd (nothing (Some r) is)
least_so (None ∷ rest) base = least_behind None rest base (λ r is. absurd (none r is)) (least_new (base + 1) rest) (least_so rest (base + 1))
  where
    none : (r : Reached) → ◌≡◌ {A = Option Reached} None (Some r) → ⊥
    none r e = cc
least_so (Some q ∷ rest) base = by q.is_new refl (least_so rest (base + 1))
  where
    old : q.is_new ≡ false → (r : Reached) → Some q ≡ Some r → r.is_new ≡ false
    old not_new r e = subst (λ (x : Reached). x.is_new ≡ false) (same_some q r e) not_new

    by : (b : Bool) → q.is_new ≡ b → LeastSo rest (base + 1) (least_new (base + 1) rest) → LeastSo (Some q ∷ rest) base (if b then Some (base, q.shape) else least_new (base + 1) rest)
    by true e more = (zero, (omega arith, ap (λ (b : Bool). Some (Some (record { shape = q.shape; is_new = b }))) e))
    by false e more = least_behind (Some q) rest base (old e) (least_new (base + 1) rest) more

-- ---- sound states

-- the followers of an instruction that is there take what it makes
abbrev FollowsThere : PlainProgram → ℕ → PassState → ℕ → Shape → Option Instr → Type 0
FollowsThere p n state place s None = ⊥
FollowsThere p n state place s (Some i) = FollowsIn p state place (flow p n i s)

-- There is something for each instruction, the first one takes the parameters, all is within the limits, and the followers of
-- what isn't new take what it makes.
record IsSound (p : PlainProgram) (n : ℕ) (m : PlainMethod) (state : PassState) : Type 0 where
  long : length state ≡ length m.code
  within : KeepsLimits m state
  first : TakesAt p (first_shape m) (shape_here state 0)
  looked : (place : ℕ) (r : Reached) → IsAt state place r → r.is_new ≡ false → FollowsThere p n state place r.shape (instr_at p n place)

module _ (p : PlainProgram) (n : ℕ) (m : PlainMethod) where
  -- raised followers take what an instruction makes
  raised_there : (state next : PassState) → IsRaised p state next → (place : ℕ) (s : Shape) (o : Option Instr) → FollowsThere p n state place s o → FollowsThere p n next place s o
  raised_there state next raised place s None h = h
  raised_there state next raised place s (Some i) h = raised_follows p state next raised place (flow p n i s) h

  -- a turn gives a sound state or a fault
  abbrev LookedSo : Result PassState Refusal → Type 0
  LookedSo (Ok next) = IsSound p n m next
  LookedSo (Err _) = Unit {0}

  module _ (state : PassState) (sound : IsSound p n m state) (place : ℕ) (s : Shape) (here : IsAt state place (record { shape = s; is_new = true })) where
    -- the state where the instruction isn't new any more
    abbrev Marked : PassState
    Marked = slice_set state place (reached false s)

    -- its shape stays
    marked_here : IsAt Marked place (record { shape = s; is_new = false })
    marked_here = set_here state place (reached false s) (slice_get_within state place (Some (record { shape = s; is_new = true })) here)

    -- a place has the shape that it had
    marked_raises : IsRaised p state Marked
    marked_raises k r at = by (set_stays state place k (reached false s))
      where
        by : (k ≡ place) ⊎ (slice_get Marked k ≡ slice_get state k) → TakesAt p r.shape (shape_here Marked k)
        by (inl e) =
            let same : record { shape = s; is_new = true } ≡ r = both_some _ r (sym here ∙ ap (λ (x : ℕ). slice_get state x) (sym e) ∙ at) in
            subst (λ (x : ℕ). TakesAt p r.shape (shape_here Marked x)) (sym e)
            (subst (λ (x : Option (Option Reached)). TakesAt p r.shape (shape_of x)) (sym marked_here) (subst (λ (x : Reached). TakesAt p x.shape (Some s)) same (takes_itself p s)))
        by (inr e) = subst (λ (x : Option (Option Reached)). TakesAt p r.shape (shape_of x)) (sym (e ∙ at)) (takes_itself p r.shape)

    -- no shape passes the limits
    marked_limits : KeepsLimits m Marked
    marked_limits k r at = by (set_there state place k (reached false s) (Some r) at)
      where
        by : ((k ≡ place) × (Some r ≡ reached false s)) ⊎ IsAt state k r → IsWithinLimits m r.shape
        by (inl e) = subst (λ (x : Reached). IsWithinLimits m x.shape) (sym (same_some r _ e.1)) (sound.within place _ here)
        by (inr e) = sound.within k r e

    -- what the instruction makes was merged into its followers
    finished : (i : Instr) → instr_at p n place ≡ Some i → (next : PassState) → IsMerged p m Marked next → FollowsIn p next place (flow p n i s) → IsSound p n m next
    finished i is next merged follows = record {
      long = merged.long ∙ set_width state place (reached false s) ∙ sound.long;
      within = merged.within;
      first = raised_takes p Marked next merged.raised 0 (first_shape m) (raised_takes p state Marked marked_raises 0 (first_shape m) sound.first);
      looked = λ k r at not_new. by k r not_new (set_there state place k (reached false s) (Some r) (merged.old k r at not_new));
    }
      where
        by : (k : ℕ) (r : Reached) → r.is_new ≡ false → ((k ≡ place) × (Some r ≡ reached false s)) ⊎ IsAt state k r → FollowsThere p n next k r.shape (instr_at p n k)
        by k r not_new (inl e) =
            subst (λ (x : Reached). FollowsThere p n next k x.shape (instr_at p n k)) (sym (same_some r _ e.1))
            (subst (λ (x : ℕ). FollowsThere p n next x s (instr_at p n x)) (sym e.0) (subst (λ (o : Option Instr). FollowsThere p n next place s o) (sym is) follows))
        by k r not_new (inr at) =
            raised_there Marked next merged.raised k r.shape (instr_at p n k) (raised_there state Marked marked_raises k r.shape (instr_at p n k) (sound.looked k r at not_new))

    -- looking at the instruction gives a sound state, if nothing is wrong
    looked_gives : LookedSo (looked_at p n m state place s)
    looked_gives = by (instr_at p n place) refl
      where
        ended : (i : Instr) → instr_at p n place ≡ Some i → (f : Flow) → flow p n i s ≡ f → (r : Result PassState Refusal) → SpreadSo p m Marked place f r → LookedSo r
        ended i is f e (Ok next) h = finished i is next h.0 (subst (λ (x : Flow). FollowsIn p next place x) (sym e) h.1)
        ended i is f e (Err _) h = tt

        judged_so : (i : Instr) → instr_at p n place ≡ Some i → (r : Result Flow ShapeKind) → JudgedSo m place (flow p n i s) r → LookedSo (at_place place r >>= λ f. spread p Marked place f)
        judged_so i is (Ok f) h = ended i is f h.0 (spread p Marked place f) (spread_gives p m Marked place f (set_width state place (reached false s) ∙ sound.long) marked_limits h.1)
        judged_so i is (Err _) h = tt

        by : (o : Option Instr) → instr_at p n place ≡ o → LookedSo (at_place place (judged_at p n m place s o) >>= λ f. spread p Marked place f)
        by None is = tt
        by (Some i) is =
            judged_so i is (judged p n m place i s) (bounded_gives m place (refusal p i s) (flow p n i s) (flow_keeps p n s (locals_of m) (sound.within place _ here).locals i))

-- ---- a state in which nothing is new is a closed table

-- the shapes of a state
only_shapes : PassState → List (Option Shape)
only_shapes [] = []
only_shapes (r ∷ rest) = shape_of (Some r) ∷ only_shapes rest

shapes_there : (state : PassState) (place : ℕ) → found (slice_get (only_shapes state) place) ≡ shape_here state place
unfolding only_shapes
shapes_there [] place = refl
shapes_there (r ∷ rest) zero = refl
shapes_there (r ∷ rest) (suc place) = shapes_there rest place

-- a table with these shapes for one method, and nothing for those before it
alone : ℕ → List (Option Shape) → Table
alone zero shapes = shapes ∷ []
alone (suc n) shapes = [] ∷ alone n shapes

alone_there : (n : ℕ) (shapes : List (Option Shape)) → slice_get (alone n shapes) n ≡ Some shapes
unfolding alone
alone_there zero shapes = refl
alone_there (suc n) shapes = alone_there n shapes

module _ (p : PlainProgram) (n : ℕ) (m : PlainMethod) (state : PassState) where
  -- the table of the state's shapes
  abbrev Own : Table
  Own = alone n (only_shapes state)

  own_same : (place : ℕ) → shape_at Own n place ≡ shape_here state place
  own_same place = ap (λ (o : Option (List (Option Shape))). shape_in o place) (alone_there n (only_shapes state)) ∙ shapes_there state place

  own_takes : (place : ℕ) (s : Shape) → TakesAt p s (shape_here state place) → TakesAt p s (shape_at Own n place)
  own_takes place s h = subst (λ (o : Option Shape). TakesAt p s o) (sym (own_same place)) h

  own_follows : (place : ℕ) (f : Flow) → FollowsIn p state place f → Follows p Own n place f
  own_follows place (Next s) h = own_takes (place + 1) s h
  own_follows place (Jump to s) h = own_takes to s h
  own_follows place (Branch to s) h = (own_takes (place + 1) s h.0, own_takes to s h.1)
  own_follows place Leaves h = h
  own_follows place Refused h = h

  own_there : (place : ℕ) (s : Shape) (o : Option Instr) → FollowsThere p n state place s o → FollowsAt p Own n place s o
  own_there place s None h = h
  own_there place s (Some i) h = own_follows place (flow p n i s) h

  -- the table is closed where the state is sound and nothing is new
  closed : IsSound p n m state → NoneNew state → HasShapes p Own n (Some m)
  closed sound none = (own_takes 0 (first_shape m) sound.first, λ place s is. by place s (slice_get state place) refl (sym (own_same place) ∙ is))
    where
      no_shape : (s : Shape) → ◌≡◌ {A = Option Shape} None (Some s) → ⊥
      no_shape s e = cc

      by : (place : ℕ) (s : Shape) (o : Option (Option Reached)) → slice_get state place ≡ o → shape_of o ≡ Some s → IsWithinLimits m s × FollowsAt p Own n place s (instr_at p n place)
      by place s None is e = absurd (no_shape s e)
      by place s (Some None) is e = absurd (no_shape s e)
      by place s (Some (Some r)) is e =
          subst (λ (x : Shape). IsWithinLimits m x × FollowsAt p Own n place x (instr_at p n place)) (same_some r.shape s e)
          (sound.within place r is, own_there place r.shape (instr_at p n place) (sound.looked place r is (none place r is)))

-- ---- the pass

module _ (p : PlainProgram) (n : ℕ) (m : PlainMethod) (at : method_at p n ≡ Some m) where
  -- then the method has a table
  ends : (state : PassState) → IsSound p n m state → NoneNew state → HasTable p n
  ends state sound none = (alone n (only_shapes state), subst (λ (o : Option PlainMethod). HasShapes p (alone n (only_shapes state)) n o) (sym at) (closed p n m state sound none))

  -- no turn is made where there is a table
  abbrev TurnGives : Option (Result PassState Refusal) → Type 0
  TurnGives None = HasTable p n
  TurnGives (Some r) = LookedSo p n m r

  -- a turn keeps states sound
  turn_gives : (state : PassState) → IsSound p n m state → TurnGives (turned p n m state)
  unfolding turned
  turn_gives state sound = by (least_new 0 state) (least_so state 0)
    where
      by : (o : Option (ℕ × Shape)) → LeastSo state 0 o → TurnGives (turned_at p n m state o)
      by None none = ends state sound none
      by (Some here) h = let e : h.0 ≡ here.0 = omega (arith, h.1.0) in looked_gives p n m state sound here.0 here.1 (subst (λ (k : ℕ). IsAt state k (record { shape = here.1; is_new = true })) e h.1.1)

  -- a pass that ends gives a table
  abbrev PassGives : Option (Result PassState Refusal) → Type 0
  PassGives None = Unit {0}
  PassGives (Some (Ok _)) = HasTable p n
  PassGives (Some (Err _)) = Unit {0}

  passed_gives : (state : PassState) (o : Option (Result PassState Refusal)) (go : PassState → Option (Result PassState Refusal)) → TurnGives o → ((next : PassState) → IsSound p n m next → PassGives (go next))
      → PassGives (passed_on state o go)
  passed_gives state None go h more = h
  passed_gives state (Some (Ok next)) go h more = more next h
  passed_gives state (Some (Err _)) go h more = tt

  -- however many turns there are
  pass_gives : (turns : ℕ) (state : PassState) → IsSound p n m state → PassGives (pass_within turns p n m state)
  unfolding pass_within
  pass_gives zero state sound = tt
  pass_gives (suc turns) state sound = passed_gives state (turned p n m state) (pass_within turns p n m) (turn_gives state sound) (λ next more. pass_gives turns next more)

  -- where nothing is reached there is no shape
  empty_there : (count place : ℕ) (r : Reached) → IsAt (replicate count None) place r → ⊥
  empty_there zero place r e = nothing (Some r) e
  empty_there (suc count) zero r e = unreached r e
  empty_there (suc count) (suc place) r e = empty_there count place r e

  -- where nothing is reached
  abbrev Unreached : PassState
  Unreached = replicate (length m.code) None

  -- the pass begins with a sound state
  begins_sound : nat_lt (locals_of m) (length (parameters m)) ≡ false → (length m.code == 0) ≡ false → IsSound p n m (begun m)
  begins_sound room some = record {
    long = set_width Unreached 0 (reached true (first_shape m)) ∙ length-replicate (length m.code) None;
    within = λ k r at. limited k r (set_there Unreached 0 k (reached true (first_shape m)) (Some r) at);
    first = subst (λ (x : Option (Option Reached)). TakesAt p (first_shape m) (shape_of x)) (sym (set_here Unreached 0 (reached true (first_shape m)) low)) (takes_itself p (first_shape m));
    looked = λ k r at not_new. absurd (fresh k r not_new (set_there Unreached 0 k (reached true (first_shape m)) (Some r) at));
  }
    where
      low : 0 < length Unreached
      low = subst (λ (x : ℕ). 0 < x) (sym (length-replicate (length m.code) None)) (positive (length m.code) some)
        where
          positive : (count : ℕ) → (count == 0) ≡ false → 0 < count
          positive count e = grind (arith, nat_tests)

      wide : length (first_shape m).locals ≡ locals_of m
      wide = first_width m ∙ filled (locals_of m) (length (parameters m)) room
        where
          filled : (count taken : ℕ) → nat_lt count taken ≡ false → taken + (count - taken) ≡ count
          filled count taken e = grind (arith, nat_tests)

      limited : (k : ℕ) (r : Reached) → ((k ≡ 0) × (Some r ≡ reached true (first_shape m))) ⊎ IsAt Unreached k r → IsWithinLimits m r.shape
      limited k r (inl e) = subst (λ (x : Reached). IsWithinLimits m x.shape) (sym (same_some r _ e.1)) (record { stack = omega arith; locals = wide })
      limited k r (inr e) = absurd (empty_there (length m.code) k r e)

      fresh : (k : ℕ) (r : Reached) → r.is_new ≡ false → ((k ≡ 0) × (Some r ≡ reached true (first_shape m))) ⊎ IsAt Unreached k r → ⊥
      fresh k r not_new (inl e) = false≢true (sym not_new ∙ ap (λ (x : Reached). x.is_new) (same_some r _ e.1))
      fresh k r not_new (inr e) = empty_there (length m.code) k r e

  -- the pass over a method begins with its tests
  method_gives : (turns : ℕ) → PassGives (method_within turns p n m)
  method_gives turns = by (nat_lt (locals_of m) (length (parameters m))) (length m.code == 0) refl refl
    where
      by : (b b' : Bool) → nat_lt (locals_of m) (length (parameters m)) ≡ b → (length m.code == 0) ≡ b'
          → PassGives (if b then Some (Err (record { kind = fault.Limit; at = 0 })) else if b' then Some (Err (record { kind = fault.FallsOff; at = 0 })) else pass_within turns p n m (begun m))
      by true b' room some = tt
      by false true room some = tt
      by false false room some = pass_gives turns (begun m) (begins_sound room some)

  -- a pass that ends gives a table
  pub gives_table : (state : PassState) → EndsWith p n m (Ok state) → HasTable p n
  gives_table state ends = subst PassGives ends.1 (method_gives ends.0)
