-- The shapes that the pass reaches are within the limits of the method.
use Rattle.std.proofs.Common.{◌≡◌, ℕ, suc, ◌+◌, ◌≤◌, Bool, true, false, List, [], ◌∷◌, length, Option, Some, None, Ok, Err, refl, sym, ◌∙◌, ap, subst, arith}
use Rattle.std.specs.Prelude.{◌==◌, ◌||◌, if◌then◌else◌, nat_lt, Result}
use Rattle.std.proofs.lemmas.Bool.Decides.{nat_tests}
use Rattle.vm_model.specs.declared.value.Kind.{Kind}
use Rattle.vm_model.specs.declared.instr.Instr.{Instr}
use Rattle.vm_model.specs.Program.{PlainMethod, PlainProgram, locals_of}
use Rattle.machine_model.specs.Shapes.{Shape, Flow, Next, Jump, Branch, Leaves, Refused, IsWithinLimits, flow}
use Rattle.shape_lattice.specs.declared.fault.ShapeKind.{ShapeKind}
use Rattle.shape_lattice.specs.declared.fault.ShapeKind.TheVariants as fault
use Rattle.shape_lattice.specs.Merging.{merged_kind, merged_kinds, merged_locals, merged_over, merged_shape, with_top}
use Rattle.shape_verifier.specs.declared.passing.Reached.{Reached}
use Rattle.shape_verifier.specs.Judging.{bounded, is_past, judged, refusal, stack_limit}
use Rattle.shape_verifier.specs.Passing.{PassState, reached}
use Rattle.shape_verifier.specs.Turning.{AreWithin, HasLocals, HaveLocals, HaveLocalsOf, IsWithin}
use Rattle.shape_laws.proofs.Tests.{all_set, all_there}
use Rattle.shape_verifier.proofs.Arrivals.{Arrives, Nowhere, First, Stays, Raised}
use Rattle.shape_verifier.proofs.Places.{all_as}
use Rattle.shape_verifier.proofs.Widths.{HasWidth, flow_keeps}

-- ---- what is judged

-- the shape that goes on is within the limits, and control goes on within the code
abbrev pub GoesWithin : PlainMethod → ℕ → Flow → Type 0
GoesWithin m place (Next s) = IsWithinLimits m s × (is_past m (place + 1) ≡ false)
GoesWithin m place (Jump to s) = IsWithinLimits m s × (is_past m to ≡ false)
GoesWithin m place (Branch to s) = IsWithinLimits m s × (is_past m (place + 1) ≡ false) × (is_past m to ≡ false)
GoesWithin m place Leaves = Unit {0}
GoesWithin m place Refused = ⊥

-- what is judged to go on does so as the instruction says
pub record Judged (p : PlainProgram) (n : ℕ) (m : PlainMethod) (place : ℕ) (i : Instr) (s : Shape) (f : Flow) : Type 0 where
  pub flows : flow p n i s ≡ f
  pub within : GoesWithin m place f

neither : (a b : Bool) → (a || b) ≡ false → (a ≡ false) × (b ≡ false)
neither true b e = cc
neither false b e = (refl, e)

few : (m : PlainMethod) (s : Shape) → nat_lt (stack_limit m) (length s.stack) ≡ false → length s.stack ≤ stack_limit m
few m s e = grind (arith, nat_tests)

within_so : (m : PlainMethod) (s : Shape) → nat_lt (stack_limit m) (length s.stack) ≡ false → length s.locals ≡ locals_of m → IsWithinLimits m s
within_so m s e wide = record { stack = few m s e; locals = wide }

bounded_so : (m : PlainMethod) (place : ℕ) (why : ShapeKind) (g f : Flow) → HasWidth (locals_of m) g → bounded m place why g ≡ Ok f → (g ≡ f) × GoesWithin m place g
bounded_so m place why (Next s) f wide e = by (nat_lt (stack_limit m) (length s.stack)) (is_past m (place + 1)) refl refl e
  where
    by : (deep behind : Bool) → nat_lt (stack_limit m) (length s.stack) ≡ deep → is_past m (place + 1) ≡ behind
        → ◌≡◌ {A = Result Flow ShapeKind} (if deep then Err fault.Limit else if behind then Err fault.FallsOff else Ok (Next s)) (Ok f) → (Next s ≡ f) × GoesWithin m place (Next s)
    by true behind is is' e' = cc
    by false true is is' e' = cc
    by false false is is' e' = let same : Next s ≡ f = cc in (same, (within_so m s is wide, is'))
bounded_so m place why (Jump to s) f wide e = by (nat_lt (stack_limit m) (length s.stack)) (is_past m to) refl refl e
  where
    by : (deep behind : Bool) → nat_lt (stack_limit m) (length s.stack) ≡ deep → is_past m to ≡ behind
        → ◌≡◌ {A = Result Flow ShapeKind} (if deep then Err fault.Limit else if behind then Err fault.FallsOff else Ok (Jump to s)) (Ok f) → (Jump to s ≡ f) × GoesWithin m place (Jump to s)
    by true behind is is' e' = cc
    by false true is is' e' = cc
    by false false is is' e' = let same : Jump to s ≡ f = cc in (same, (within_so m s is wide, is'))
bounded_so m place why (Branch to s) f wide e = by (nat_lt (stack_limit m) (length s.stack)) (is_past m (place + 1) || is_past m to) refl refl e
  where
    by : (deep behind : Bool) → nat_lt (stack_limit m) (length s.stack) ≡ deep → (is_past m (place + 1) || is_past m to) ≡ behind
        → ◌≡◌ {A = Result Flow ShapeKind} (if deep then Err fault.Limit else if behind then Err fault.FallsOff else Ok (Branch to s)) (Ok f) → (Branch to s ≡ f) × GoesWithin m place (Branch to s)
    by true behind is is' e' = cc
    by false true is is' e' = cc
    by false false is is' e' =
        let same : Branch to s ≡ f = cc in
        let both = neither (is_past m (place + 1)) (is_past m to) is' in
        (same, (within_so m s is wide, both.0, both.1))
bounded_so m place why Leaves f wide e = let same : Leaves ≡ f = cc in (same, tt)
bounded_so m place why Refused f wide e = cc

pub judged_so : (p : PlainProgram) (n : ℕ) (m : PlainMethod) (place : ℕ) (i : Instr) (s : Shape) (f : Flow) → length s.locals ≡ locals_of m → judged p n m place i s ≡ Ok f → Judged p n m place i s f
judged_so p n m place i s f wide e =
    let h = bounded_so m place (refusal p i s) (flow p n i s) f (flow_keeps p n s (locals_of m) wide i) e in
    record { flows = h.0; within = subst (GoesWithin m place) h.0 h.1 }

-- ---- what is merged

merged_wide : (p : PlainProgram) (ks ls : List (Option Kind)) → length ks ≡ length ls → length (merged_locals p ks ls) ≡ length ls
merged_wide p [] [] e = refl
merged_wide p [] (l ∷ ls) e = e
merged_wide p (k ∷ ks) [] e = refl
merged_wide p (k ∷ ks) (l ∷ ls) e = let more : length ks ≡ length ls = omega arith in ap suc (merged_wide p ks ls more)

merged_deep : (p : PlainProgram) (ks ls ms : List Kind) → merged_kinds p ks ls ≡ Some ms → length ms ≡ length ls
merged_deep p [] [] ms e = let same : ms ≡ [] = cc in ap length same
merged_deep p [] (l ∷ ls) ms e = cc
merged_deep p (k ∷ ks) [] ms e = cc
merged_deep p (k ∷ ks) (l ∷ ls) ms e = by (merged_kind p k l) (merged_kinds p ks ls) (λ xs is. merged_deep p ks ls xs is) e
  where
    by : (o : Option Kind) (rest : Option (List Kind)) → ((xs : List Kind) → rest ≡ Some xs → length xs ≡ length ls) → with_top o rest ≡ Some ms → length ms ≡ length (l ∷ ls)
    by None rest more e' = cc
    by (Some x) None more e' = cc
    by (Some x) (Some xs) more e' = let same : ms ≡ x ∷ xs = cc in ap length same ∙ ap suc (more xs refl)

pub record MergedSo (p : PlainProgram) (new old merged : Shape) : Type 0 where
  pub deep : length new.stack ≡ length old.stack
  pub stack : merged_kinds p new.stack old.stack ≡ Some merged.stack
  pub locals : merged_locals p new.locals old.locals ≡ merged.locals

-- what two shapes are merged to
pub merged_parts : (p : PlainProgram) (new old merged : Shape) → merged_shape p new old ≡ Ok merged → MergedSo p new old merged
merged_parts p new old merged e = by (length new.stack == length old.stack) refl e
  where
    over : length new.stack ≡ length old.stack → (o : Option (List Kind)) → merged_kinds p new.stack old.stack ≡ o
        → merged_over o (merged_locals p new.locals old.locals) ≡ Ok merged → MergedSo p new old merged
    over deep None is e' = cc
    over deep (Some stack) is e' =
        let same : ◌≡◌ {A = Shape} (record { stack = stack; locals = merged_locals p new.locals old.locals }) merged = cc in
        record { deep = deep; stack = is ∙ ap Some (ap (λ (s : Shape). s.stack) same); locals = ap (λ (s : Shape). s.locals) same }

    by : (b : Bool) → (length new.stack == length old.stack) ≡ b
        → (if b then merged_over (merged_kinds p new.stack old.stack) (merged_locals p new.locals old.locals) else Err fault.Depth) ≡ Ok merged → MergedSo p new old merged
    by true is e' = let deep : length new.stack ≡ length old.stack = grind (arith, nat_tests) in over deep (merged_kinds p new.stack old.stack) refl e'
    by false is e' = cc

-- what is merged is as deep and as wide as what was there
pub merged_within : (p : PlainProgram) (m : PlainMethod) (new old merged : Shape) → length new.locals ≡ locals_of m → IsWithinLimits m old → merged_shape p new old ≡ Ok merged → IsWithinLimits m merged
merged_within p m new old merged wide h e =
    let parts = merged_parts p new old merged e in
    let deep : length merged.stack ≡ length old.stack = merged_deep p new.stack old.stack merged.stack parts.stack in
    let as_wide : length merged.locals ≡ length old.locals = sym (ap length parts.locals) ∙ merged_wide p new.locals old.locals (wide ∙ sym h.locals) in
    let few_operands : length old.stack ≤ stack_limit m = h.stack in
    record { stack = omega arith; locals = as_wide ∙ h.locals }

-- ---- the state

pub arrives_within : (p : PlainProgram) (m : PlainMethod) (state next : PassState) (place : ℕ) (s : Shape) → IsWithinLimits m s → AreWithin m state → Arrives p state place s next → AreWithin m next
arrives_within p m state next place s h all (Nowhere at is) = subst (AreWithin m) (sym is) all
arrives_within p m state next place s h all (First at is) = subst (AreWithin m) (sym is) (all_set (IsWithin m) state place (reached true s) all h)
arrives_within p m state next place s h all (Stays r at takes is) = subst (AreWithin m) (sym is) all
arrives_within p m state next place s h all (Raised r merged at not e is) =
    subst (AreWithin m) (sym is)
    (all_set (IsWithin m) state place (reached true merged) all
    (merged_within p m s r.shape merged h.locals (all_there (IsWithin m) state place (Some r) all at) e))

has_locals : (m : PlainMethod) (r : Option Reached) → IsWithin m r → HasLocals (locals_of m) r
has_locals m None h = tt
has_locals m (Some r) h = h.locals

pub have_locals : (m : PlainMethod) (state : PassState) (count : ℕ) → count ≡ locals_of m → AreWithin m state → HaveLocals count state
have_locals m state count e all = subst (λ (k : ℕ). HaveLocals k state) (sym e) (all_as (IsWithin m) (HasLocals (locals_of m)) state (has_locals m) all)

pub flow_locals : (m : PlainMethod) (place : ℕ) (f : Flow) (state : PassState) → GoesWithin m place f → AreWithin m state → HaveLocalsOf f state
flow_locals m place (Next s) state h all = have_locals m state (length s.locals) h.0.locals all
flow_locals m place (Jump to s) state h all = have_locals m state (length s.locals) h.0.locals all
flow_locals m place (Branch to s) state h all = have_locals m state (length s.locals) h.0.locals all
flow_locals m place Leaves state h all = tt
flow_locals m place Refused state h all = tt

-- a shape arrives where all have as many locals as it
pub arrives_wide : (p : PlainProgram) (state next : PassState) (place : ℕ) (s : Shape) → HaveLocals (length s.locals) state → Arrives p state place s next → HaveLocals (length s.locals) next
arrives_wide p state next place s all (Nowhere at is) = subst (HaveLocals (length s.locals)) (sym is) all
arrives_wide p state next place s all (First at is) = subst (HaveLocals (length s.locals)) (sym is) (all_set (HasLocals (length s.locals)) state place (reached true s) all refl)
arrives_wide p state next place s all (Stays r at takes is) = subst (HaveLocals (length s.locals)) (sym is) all
arrives_wide p state next place s all (Raised r merged at not e is) =
    let parts = merged_parts p s r.shape merged e in
    let here : length r.shape.locals ≡ length s.locals = all_there (HasLocals (length s.locals)) state place (Some r) all at in
    subst (HaveLocals (length s.locals)) (sym is)
    (all_set (HasLocals (length s.locals)) state place (reached true merged) all
    (sym (ap length parts.locals) ∙ merged_wide p s.locals r.shape.locals (sym here) ∙ here))
