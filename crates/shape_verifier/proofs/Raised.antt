-- Merging only raises the shapes of a state: each is taken by the one that stands there afterwards.
use Rattle.std.proofs.Common.{◌≡◌, ℕ, zero, suc, ◌+◌, ◌<◌, ◌≤◌, Bool, true, false, List, [], ◌∷◌, length, Option, Some, None, refl, sym, ◌∙◌, ap, subst, arith, ◌⊎◌, inl, inr}
use Rattle.std.specs.Prelude.{if◌then◌else◌, slice_get, slice_set, unwrap_or, Result, Ok, Err}
use Rattle.std.proofs.lemmas.Bool.{false≢true}
use Rattle.std.proofs.lemmas.Option.{slice_get_within}
use Rattle.vm_model.specs.Program.{PlainMethod, PlainProgram}
use Rattle.vm_model.specs.Failures.{◌>>=◌}
use Rattle.machine_model.specs.Shapes.{Shape, Flow, Next, Jump, Branch, Leaves, Refused, IsWithinLimits, Takes, TakesAt}
use Rattle.shape_lattice.specs.declared.fault.ShapeKind.{ShapeKind}
use Rattle.shape_lattice.specs.Merging.{merged_shape, takes}
use Rattle.shape_verifier.specs.declared.fault.Refusal.{Refusal}
use Rattle.shape_verifier.specs.declared.passing.Reached.{Reached}
use Rattle.shape_verifier.specs.Passing.{PassState, at_place, merged_at, merged_into, reached, spread}
use Rattle.shape_laws.proofs.Tests.{some_there}
use Rattle.shape_lattice.proofs.Taking.{takes_at_passes, takes_itself, takes_tested}
use Rattle.shape_lattice.proofs.Least.{merged_takes, same_depth}
use Rattle.shape_verifier.proofs.Stops.{same_width}
use Rattle.shape_verifier.proofs.Widths.{set_width}

-- ---- lists

pub same_some : {A : Type 0} (x y : A) → Some x ≡ Some y → x ≡ y
same_some x y e = cc

-- what is stored at a place is there
pub set_here : {A : Type 0} (xs : List A) (i : ℕ) (x : A) → i < length xs → slice_get (slice_set xs i x) i ≡ Some x
set_here [] i x low = absurd (omega arith)
set_here (y ∷ xs) zero x low = refl
set_here (y ∷ xs) (suc i) x low = set_here xs i x (omega arith)

-- a store leaves all other places as they are
pub set_stays : {A : Type 0} (xs : List A) (i k : ℕ) (x : A) → (k ≡ i) ⊎ (slice_get (slice_set xs i x) k ≡ slice_get xs k)
set_stays [] i k x = inr refl
set_stays (y ∷ xs) zero zero x = inl refl
set_stays (y ∷ xs) zero (suc k) x = inr refl
set_stays (y ∷ xs) (suc i) zero x = inr refl
set_stays (y ∷ xs) (suc i) (suc k) x = by (set_stays xs i k x)
  where
    by : (k ≡ i) ⊎ (slice_get (slice_set xs i x) k ≡ slice_get xs k) → (suc k ≡ suc i) ⊎ (slice_get (slice_set xs i x) k ≡ slice_get xs k)
    by (inl e) = inl (ap suc e)
    by (inr e) = inr e

-- what is there after a store was stored, or was there before
pub set_there : {A : Type 0} (xs : List A) (i k : ℕ) (x y : A) → slice_get (slice_set xs i x) k ≡ Some y → ((k ≡ i) × (y ≡ x)) ⊎ (slice_get xs k ≡ Some y)
set_there [] i k x y e = inr e
set_there (z ∷ xs) zero zero x y e = inl (refl, sym (same_some x y e))
set_there (z ∷ xs) zero (suc k) x y e = inr e
set_there (z ∷ xs) (suc i) zero x y e = inr e
set_there (z ∷ xs) (suc i) (suc k) x y e = by (set_there xs i k x y e)
  where
    by : ((k ≡ i) × (y ≡ x)) ⊎ (slice_get xs k ≡ Some y) → ((suc k ≡ suc i) × (y ≡ x)) ⊎ (slice_get xs k ≡ Some y)
    by (inl h) = inl (ap suc h.0, h.1)
    by (inr h) = inr h

-- ---- what a state has at a place

-- the shape with which an instruction was reached
abbrev pub shape_of : Option (Option Reached) → Option Shape
shape_of None = None
shape_of (Some None) = None
shape_of (Some (Some r)) = Some r.shape

abbrev pub shape_here : PassState → ℕ → Option Shape
shape_here state place = shape_of (slice_get state place)

abbrev pub IsAt : PassState → ℕ → Reached → Type 0
IsAt state place r = slice_get state place ≡ Some (Some r)

-- each shape that was reached is within the limits of the method
abbrev pub KeepsLimits : PlainMethod → PassState → Type 0
KeepsLimits m state = (place : ℕ) (r : Reached) → IsAt state place r → IsWithinLimits m r.shape

-- each shape is taken by the one that stands there afterwards
abbrev pub IsRaised : PlainProgram → PassState → PassState → Type 0
IsRaised p state next = (place : ℕ) (r : Reached) → IsAt state place r → TakesAt p r.shape (shape_here next place)

-- the followers of an instruction take what it makes
abbrev pub FollowsIn : PlainProgram → PassState → ℕ → Flow → Type 0
FollowsIn p state place (Next s) = TakesAt p s (shape_here state (place + 1))
FollowsIn p state place (Jump to s) = TakesAt p s (shape_here state to)
FollowsIn p state place (Branch to s) = TakesAt p s (shape_here state (place + 1)) × TakesAt p s (shape_here state to)
FollowsIn p state place Leaves = Unit {0}
FollowsIn p state place Refused = ⊥

module _ (p : PlainProgram) where
  -- what a shape of a state takes, the raised one takes
  pub raised_takes : (state next : PassState) → IsRaised p state next → (place : ℕ) (s : Shape) → TakesAt p s (shape_here state place) → TakesAt p s (shape_here next place)
  raised_takes state next raised place s h = by (slice_get state place) refl h
    where
      by : (o : Option (Option Reached)) → slice_get state place ≡ o → TakesAt p s (shape_of o) → TakesAt p s (shape_here next place)
      by None is a = absurd a
      by (Some None) is a = absurd a
      by (Some (Some r)) is a = takes_at_passes p s r.shape (shape_here next place) a (raised place r is)

  -- what follows an instruction still does where shapes are raised
  pub raised_follows : (state next : PassState) → IsRaised p state next → (place : ℕ) (f : Flow) → FollowsIn p state place f → FollowsIn p next place f
  raised_follows state next raised place (Next s) h = raised_takes state next raised (place + 1) s h
  raised_follows state next raised place (Jump to s) h = raised_takes state next raised to s h
  raised_follows state next raised place (Branch to s) h = (raised_takes state next raised (place + 1) s h.0, raised_takes state next raised to s h.1)
  raised_follows state next raised place Leaves h = h
  raised_follows state next raised place Refused h = h

-- ---- merging into a state

-- Shapes were merged into a state: it has as many instructions, its shapes are raised, what isn't new was there before, and
-- all is within the limits.
pub record IsMerged (p : PlainProgram) (m : PlainMethod) (state next : PassState) : Type 0 where
  pub long : length next ≡ length state
  pub raised : IsRaised p state next
  pub old : (place : ℕ) (r : Reached) → IsAt next place r → r.is_new ≡ false → IsAt state place r
  pub within : KeepsLimits m next

-- where control goes, the shape is within the limits, and there is an instruction
abbrev pub IsGoing : PlainMethod → ℕ → Flow → Type 0
IsGoing m place (Next s) = IsWithinLimits m s × (place + 1 < length m.code)
IsGoing m place (Jump to s) = IsWithinLimits m s × (to < length m.code)
IsGoing m place (Branch to s) = IsWithinLimits m s × ((place + 1 < length m.code) × (to < length m.code))
IsGoing m place Leaves = Unit {0}
IsGoing m place Refused = ⊥

-- a merged shape has as many operands and locals
merged_limits : (p : PlainProgram) (m : PlainMethod) (old merged : Shape) → Takes p old merged → IsWithinLimits m old → IsWithinLimits m merged
merged_limits p m old merged a h =
    record { stack = subst (λ (x : ℕ). x ≤ unwrap_or m.max_stack 1024) (same_depth p old.stack merged.stack a.stack) h.stack; locals = sym (same_width p old.locals merged.locals a.locals) ∙ h.locals }

module _ (p : PlainProgram) (m : PlainMethod) where
  -- nothing was merged
  unmerged : (state : PassState) → KeepsLimits m state → IsMerged p m state state
  unmerged state within = record {
    long = refl;
    raised = λ place r is. subst (λ (o : Option (Option Reached)). TakesAt p r.shape (shape_of o)) (sym is) (takes_itself p r.shape);
    old = λ place r is not_new. is;
    within = within;
  }

  -- one merging after the other
  merged_on : (state middle next : PassState) → IsMerged p m state middle → IsMerged p m middle next → IsMerged p m state next
  merged_on state middle next a b = record {
    long = b.long ∙ a.long;
    raised = λ place r is. raised_takes p middle next b.raised place r.shape (a.raised place r is);
    old = λ place r is not_new. a.old place r (b.old place r is not_new) not_new;
    within = b.within;
  }

  -- merging a shape at a place, unless it is a fault, raises the state, and the place takes the shape
  abbrev MergedSo : PassState → ℕ → Shape → Result PassState Refusal → Type 0
  MergedSo state place s (Ok next) = IsMerged p m state next × TakesAt p s (shape_here next place)
  MergedSo state place s (Err _) = Unit {0}

  -- the shape takes the one before it, if there is one
  abbrev IsOver : Option Reached → Shape → Type 0
  IsOver None t = Unit {0}
  IsOver (Some r) t = Takes p r.shape t

  -- a shape that takes the one before it is put at a place
  placed : (state : PassState) (place : ℕ) (s t : Shape) (o : Option Reached) → slice_get state place ≡ Some o → KeepsLimits m state → IsWithinLimits m t → Takes p s t → IsOver o t
      → MergedSo state place s (Ok (slice_set state place (reached true t)))
  placed state place s t o is within limits a over = (
    record { long = set_width state place (reached true t); raised = raised; old = old; within = kept },
    subst (λ (x : Option (Option Reached)). TakesAt p s (shape_of x)) (sym there) a,
  )
    where
      there : slice_get (slice_set state place (reached true t)) place ≡ Some (reached true t)
      there = set_here state place (reached true t) (slice_get_within state place o is)

      raised : IsRaised p state (slice_set state place (reached true t))
      raised k r at = by (set_stays state place k (reached true t))
        where
          by : (k ≡ place) ⊎ (slice_get (slice_set state place (reached true t)) k ≡ slice_get state k) → TakesAt p r.shape (shape_here (slice_set state place (reached true t)) k)
          by (inl e) =
              let here : o ≡ Some r = same_some o (Some r) (sym is ∙ ap (λ (x : ℕ). slice_get state x) (sym e) ∙ at) in
              subst (λ (x : ℕ). TakesAt p r.shape (shape_here (slice_set state place (reached true t)) x)) (sym e)
              (subst (λ (x : Option (Option Reached)). TakesAt p r.shape (shape_of x)) (sym there) (subst (λ (x : Option Reached). IsOver x t) here over))
          by (inr e) = subst (λ (x : Option (Option Reached)). TakesAt p r.shape (shape_of x)) (sym (e ∙ at)) (takes_itself p r.shape)

      old : (k : ℕ) (r : Reached) → IsAt (slice_set state place (reached true t)) k r → r.is_new ≡ false → IsAt state k r
      old k r at not_new = by (set_there state place k (reached true t) (Some r) at)
        where
          by : ((k ≡ place) × (Some r ≡ reached true t)) ⊎ IsAt state k r → IsAt state k r
          by (inl e) = absurd (false≢true (sym not_new ∙ ap (λ (x : Reached). x.is_new) (same_some r _ e.1)))
          by (inr e) = e

      kept : KeepsLimits m (slice_set state place (reached true t))
      kept k r at = by (set_there state place k (reached true t) (Some r) at)
        where
          by : ((k ≡ place) × (Some r ≡ reached true t)) ⊎ IsAt state k r → IsWithinLimits m r.shape
          by (inl e) = subst (λ (x : Reached). IsWithinLimits m x.shape) (sym (same_some r _ e.1)) limits
          by (inr e) = within k r e

  -- a shape within the limits is merged into one of the method's instructions
  merged_gives : (state : PassState) (place : ℕ) (s : Shape) → KeepsLimits m state → IsWithinLimits m s → place < length state → MergedSo state place s (merged_at p state place s)
  merged_gives state place s within limits low = by (slice_get state place) refl
    where
      changed : (r : Reached) (answer : Result Shape ShapeKind) → slice_get state place ≡ Some (Some r) → merged_shape p s r.shape ≡ answer
          → MergedSo state place s (at_place place answer >>= λ merged. Ok (slice_set state place (reached true merged)))
      changed r (Ok merged) is e =
          let both : Takes p s merged × Takes p r.shape merged = merged_takes p s r.shape merged e (limits.locals ∙ sym (within place r is).locals) in
          placed state place s merged (Some r) is within (merged_limits p m r.shape merged both.1 (within place r is)) both.0 both.1
      changed r (Err _) is e = tt

      tested : (r : Reached) (b : Bool) → slice_get state place ≡ Some (Some r) → takes p s r.shape ≡ b
          → MergedSo state place s (if b then Ok state else (at_place place (merged_shape p s r.shape) >>= λ merged. Ok (slice_set state place (reached true merged))))
      tested r true is e = (unmerged state within, subst (λ (x : Option (Option Reached)). TakesAt p s (shape_of x)) (sym is) (takes_tested p s r.shape e))
      tested r false is e = changed r (merged_shape p s r.shape) is refl

      by : (o : Option (Option Reached)) → slice_get state place ≡ o → MergedSo state place s (merged_into p state place s o)
      by None is = absurd (behind (some_there state place low))
        where
          behind : (x : Option Reached) × (slice_get state place ≡ Some x) → ⊥
          behind h = nowhere h.0 (sym is ∙ h.1)
            where
              nowhere : (x : Option Reached) → ◌≡◌ {A = Option (Option Reached)} None (Some x) → ⊥
              nowhere x e = cc
      by (Some None) is = placed state place s s None is within limits (takes_itself p s) tt
      by (Some (Some r)) is = tested r (takes p s r.shape) is refl

  -- the followers take what was merged into them
  abbrev pub SpreadSo : PassState → ℕ → Flow → Result PassState Refusal → Type 0
  SpreadSo state place f (Ok next) = IsMerged p m state next × FollowsIn p next place f
  SpreadSo state place f (Err _) = Unit {0}

  -- an instruction with one follower
  alone : (state : PassState) (place to : ℕ) (s : Shape) (f : Flow) (r : Result PassState Refusal) → ((next : PassState) → TakesAt p s (shape_here next to) → FollowsIn p next place f)
      → MergedSo state to s r → SpreadSo state place f r
  alone state place to s f (Ok next) follows h = (h.0, follows next h.1)
  alone state place to s f (Err _) follows h = tt

  -- what an instruction makes is merged into its followers
  pub spread_gives : (state : PassState) (place : ℕ) (f : Flow) → length state ≡ length m.code → KeepsLimits m state → IsGoing m place f → SpreadSo state place f (spread p state place f)
  spread_gives state place (Next s) long within going =
      alone state place (place + 1) s (Next s) (merged_at p state (place + 1) s) (λ next h. h)
      (merged_gives state (place + 1) s within going.0 (subst (λ (x : ℕ). place + 1 < x) (sym long) going.1))
  spread_gives state place (Jump to s) long within going =
      alone state place to s (Jump to s) (merged_at p state to s) (λ next h. h) (merged_gives state to s within going.0 (subst (λ (x : ℕ). to < x) (sym long) going.1))
  spread_gives state place (Branch to s) long within going =
      first (merged_at p state (place + 1) s) (merged_gives state (place + 1) s within going.0 (subst (λ (x : ℕ). place + 1 < x) (sym long) going.1.0))
    where
      second : (behind : PassState) → MergedSo state (place + 1) s (Ok behind) → (r : Result PassState Refusal) → MergedSo behind to s r → SpreadSo state place (Branch to s) r
      second behind h (Ok next) g = (merged_on state behind next h.0 g.0, (raised_takes p behind next g.0.raised (place + 1) s h.1, g.1))
      second behind h (Err _) g = tt

      first : (r : Result PassState Refusal) → MergedSo state (place + 1) s r → SpreadSo state place (Branch to s) (r >>= λ behind. merged_at p behind to s)
      first (Ok behind) h =
          second behind h (merged_at p behind to s) (merged_gives behind to s h.0.within going.0 (subst (λ (x : ℕ). to < x) (sym (h.0.long ∙ long)) going.1.1))
      first (Err _) h = tt
  spread_gives state place Leaves long within going = (unmerged state within, tt)
  spread_gives state place Refused long within going = absurd going
