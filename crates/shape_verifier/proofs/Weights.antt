-- The weight of a state of the pass: each turn lowers it.
use Rattle.std.proofs.Common.{◌≡◌, ℕ, zero, suc, ◌+◌, ◌*◌, ◌<◌, ◌≤◌, Bool, true, false, List, [], ◌∷◌, length, Option, Some, None, Ok, refl, sym, ◌∙◌, ap, subst, arith}
use Rattle.std.specs.Prelude.{◌&&◌, if◌then◌else◌, slice_get, slice_set}
use Rattle.vm_model.specs.declared.value.Kind.{Kind}
use Rattle.vm_model.specs.Program.{PlainMethod, PlainProgram, locals_of}
use Rattle.machine_model.specs.Shapes.{Shape, IsWithinLimits, is_subsumed}
use Rattle.shape_lattice.specs.Merging.{merged_kind, merged_kinds, merged_local, merged_locals, merged_shape, takes, takes_kinds, takes_local, takes_locals, with_top}
use Rattle.shape_verifier.specs.declared.passing.Reached.{Reached}
use Rattle.shape_verifier.specs.Judging.{stack_limit}
use Rattle.shape_verifier.specs.Passing.{PassState, reached}
use Rattle.shape_verifier.specs.Turning.{AreWithin, IsWithin}
use Rattle.shape_laws.proofs.Tests.{all_there}
use Rattle.shape_lattice.proofs.Ranks.{Lowers, kind_lowers, rank, rank_least, rank_most}
use Rattle.shape_verifier.proofs.Arrivals.{Arrives, Nowhere, First, Stays, Raised}
use Rattle.shape_verifier.proofs.Limits.{merged_parts}

-- ---- shapes

pub kinds_rank : PlainProgram → List Kind → ℕ
kinds_rank p [] = 0
kinds_rank p (k ∷ ks) = rank p k + kinds_rank p ks

pub local_rank : PlainProgram → Option Kind → ℕ
local_rank p None = 0
local_rank p (Some k) = rank p k

pub locals_rank : PlainProgram → List (Option Kind) → ℕ
locals_rank p [] = 0
locals_rank p (k ∷ ks) = local_rank p k + locals_rank p ks

pub shape_rank : PlainProgram → Shape → ℕ
shape_rank p s = kinds_rank p s.stack + locals_rank p s.locals

kinds_most : (p : PlainProgram) (ks : List Kind) → kinds_rank p ks ≤ 9 * length ks
unfolding kinds_rank
kinds_most p [] = omega arith
kinds_most p (k ∷ ks) =
    let here : rank p k ≤ 9 = rank_most p k in
    let more : kinds_rank p ks ≤ 9 * length ks = kinds_most p ks in
    omega arith

local_most : (p : PlainProgram) (k : Option Kind) → local_rank p k ≤ 9
unfolding local_rank
local_most p None = omega arith
local_most p (Some k) = rank_most p k

locals_most : (p : PlainProgram) (ks : List (Option Kind)) → locals_rank p ks ≤ 9 * length ks
unfolding locals_rank
locals_most p [] = omega arith
locals_most p (k ∷ ks) =
    let here : local_rank p k ≤ 9 = local_most p k in
    let more : locals_rank p ks ≤ 9 * length ks = locals_most p ks in
    omega arith

pub shape_most : (p : PlainProgram) (m : PlainMethod) (s : Shape) → IsWithinLimits m s → shape_rank p s ≤ 9 * (stack_limit m + locals_of m)
unfolding shape_rank
shape_most p m s h =
    let deep : length s.stack ≤ stack_limit m = h.stack in
    let wide : length s.locals ≡ locals_of m = h.locals in
    let stack : kinds_rank p s.stack ≤ 9 * length s.stack = kinds_most p s.stack in
    let locals : locals_rank p s.locals ≤ 9 * length s.locals = locals_most p s.locals in
    omega arith

-- ---- merging

-- a sum that is lower where a test fails
abbrev Lower : Bool → ℕ → ℕ → Type 0
Lower true new old = new ≤ old
Lower false new old = new < old

lower_both : (a b : Bool) (x y x' y' : ℕ) → Lower a x y → Lower b x' y' → Lower (a && b) (x + x') (y + y')
lower_both true true x y x' y' h h' = omega arith
lower_both true false x y x' y' h h' = omega arith
lower_both false true x y x' y' h h' = omega arith
lower_both false false x y x' y' h h' = omega arith

of_kind : (p : PlainProgram) (l k : Kind) (b : Bool) → Lowers p l b (Some k) → Lower b (rank p k) (rank p l)
of_kind p l k true h = h
of_kind p l k false h = h

kinds_lower : (p : PlainProgram) (ks ls ms : List Kind) → merged_kinds p ks ls ≡ Some ms → Lower (takes_kinds p ks ls) (kinds_rank p ms) (kinds_rank p ls)
unfolding kinds_rank
kinds_lower p [] [] ms e = let same : [] ≡ ms = cc in subst (λ (xs : List Kind). kinds_rank p xs ≤ 0) same (omega arith)
kinds_lower p [] (l ∷ ls) ms e = cc
kinds_lower p (k ∷ ks) [] ms e = cc
kinds_lower p (k ∷ ks) (l ∷ ls) ms e = by (merged_kind p k l) (merged_kinds p ks ls) (kind_lowers p k l) (λ xs is. kinds_lower p ks ls xs is) e
  where
    by : (o : Option Kind) (rest : Option (List Kind)) → Lowers p l (is_subsumed p k l) o → ((xs : List Kind) → rest ≡ Some xs → Lower (takes_kinds p ks ls) (kinds_rank p xs) (kinds_rank p ls))
        → with_top o rest ≡ Some ms → Lower (is_subsumed p k l && takes_kinds p ks ls) (kinds_rank p ms) (rank p l + kinds_rank p ls)
    by None rest h more e' = cc
    by (Some x) None h more e' = cc
    by (Some x) (Some xs) h more e' =
        let same : x ∷ xs ≡ ms = cc in
        subst (λ (ys : List Kind). Lower (is_subsumed p k l && takes_kinds p ks ls) (kinds_rank p ys) (rank p l + kinds_rank p ls)) same
        (lower_both (is_subsumed p k l) (takes_kinds p ks ls) (rank p x) (rank p l) (kinds_rank p xs) (kinds_rank p ls) (of_kind p l x (is_subsumed p k l) h) (more xs refl))

none_lower : (p : PlainProgram) (l : Kind) (b : Bool) → Lower b 0 (rank p l)
none_lower p l true = omega arith
none_lower p l false = rank_least p l

local_lower : (p : PlainProgram) (k l : Option Kind) → Lower (takes_local p k l) (local_rank p (merged_local p k l)) (local_rank p l)
unfolding local_rank
local_lower p None None = omega arith
local_lower p None (Some l) = rank_least p l
local_lower p (Some k) None = omega arith
local_lower p (Some k) (Some l) = by (merged_kind p k l) (kind_lowers p k l)
  where
    by : (o : Option Kind) → Lowers p l (is_subsumed p k l) o → Lower (is_subsumed p k l) (local_rank p o) (rank p l)
    by None h = none_lower p l (is_subsumed p k l)
    by (Some x) h = of_kind p l x (is_subsumed p k l) h

locals_lower : (p : PlainProgram) (ks ls : List (Option Kind)) → length ks ≡ length ls → Lower (takes_locals p ks ls) (locals_rank p (merged_locals p ks ls)) (locals_rank p ls)
unfolding locals_rank
locals_lower p [] [] e = omega arith
locals_lower p [] (l ∷ ls) e = absurd (omega arith)
locals_lower p (k ∷ ks) [] e = absurd (omega arith)
locals_lower p (k ∷ ks) (l ∷ ls) e =
    lower_both (takes_local p k l) (takes_locals p ks ls) (local_rank p (merged_local p k l)) (local_rank p l) (locals_rank p (merged_locals p ks ls)) (locals_rank p ls)
    (local_lower p k l) (locals_lower p ks ls (omega arith))

-- a merge that changes a shape lowers its rank
pub merged_lower : (p : PlainProgram) (new old merged : Shape) → length new.locals ≡ length old.locals → takes p new old ≡ false → merged_shape p new old ≡ Ok merged → shape_rank p merged < shape_rank p old
unfolding shape_rank
merged_lower p new old merged wide not e =
    let parts = merged_parts p new old merged e in
    subst (λ (b : Bool). Lower b (kinds_rank p merged.stack + locals_rank p merged.locals) (kinds_rank p old.stack + locals_rank p old.locals)) not
    (lower_both (takes_kinds p new.stack old.stack) (takes_locals p new.locals old.locals) (kinds_rank p merged.stack) (kinds_rank p old.stack) (locals_rank p merged.locals) (locals_rank p old.locals)
    (kinds_lower p new.stack old.stack merged.stack parts.stack)
    (subst (λ (ks : List (Option Kind)). Lower (takes_locals p new.locals old.locals) (locals_rank p ks) (locals_rank p old.locals)) parts.locals (locals_lower p new.locals old.locals wide)))

-- ---- states

-- where nothing was reached, it is more than that of any shape within the limits
pub unreached_weight : PlainMethod → ℕ
unreached_weight m = 2 * (9 * (stack_limit m + locals_of m)) + 2

pub weight_of : PlainProgram → PlainMethod → Option Reached → ℕ
weight_of p m None = unreached_weight m
weight_of p m (Some r) = 2 * shape_rank p r.shape + (if r.is_new then 1 else 0)

pub weight : PlainProgram → PlainMethod → PassState → ℕ
weight p m [] = 0
weight p m (r ∷ rest) = weight_of p m r + weight p m rest

-- one place is written
pub weight_set : (p : PlainProgram) (m : PlainMethod) (state : PassState) (place : ℕ) (old new : Option Reached) → slice_get state place ≡ Some old
    → weight p m (slice_set state place new) + weight_of p m old ≡ weight p m state + weight_of p m new
unfolding weight
weight_set p m [] place old new at = cc
weight_set p m (x ∷ rest) zero old new at =
    let same : weight_of p m x ≡ weight_of p m old = let e : x ≡ old = cc in ap (weight_of p m) e in
    omega arith
weight_set p m (x ∷ rest) (suc place) old new at =
    let more : weight p m (slice_set rest place new) + weight_of p m old ≡ weight p m rest + weight_of p m new = weight_set p m rest place old new at in
    omega arith

-- a shape that arrives makes the state no heavier
pub arrives_lower : (p : PlainProgram) (m : PlainMethod) (state next : PassState) (place : ℕ) (s : Shape) → IsWithinLimits m s → AreWithin m state → Arrives p state place s next → weight p m next ≤ weight p m state
unfolding weight_of unreached_weight
arrives_lower p m state next place s h all (Nowhere at is) = let e : weight p m next ≡ weight p m state = ap (weight p m) is in omega arith
arrives_lower p m state next place s h all (First at is) =
    let e : weight p m next ≡ weight p m (slice_set state place (reached true s)) = ap (weight p m) is in
    let sum : weight p m (slice_set state place (reached true s)) + (2 * (9 * (stack_limit m + locals_of m)) + 2) ≡ weight p m state + (2 * shape_rank p s + 1) = weight_set p m state place None (reached true s) at in
    let most : shape_rank p s ≤ 9 * (stack_limit m + locals_of m) = shape_most p m s h in
    omega arith
arrives_lower p m state next place s h all (Stays r at taken is) = let e : weight p m next ≡ weight p m state = ap (weight p m) is in omega arith
arrives_lower p m state next place s h all (Raised r merged at not e' is) =
    let e : weight p m next ≡ weight p m (slice_set state place (reached true merged)) = ap (weight p m) is in
    let sum : weight p m (slice_set state place (reached true merged)) + (2 * shape_rank p r.shape + (if r.is_new then 1 else 0)) ≡ weight p m state + (2 * shape_rank p merged + 1) =
    weight_set p m state place (Some r) (reached true merged) at in
    let within : IsWithinLimits m r.shape = all_there (IsWithin m) state place (Some r) all at in
    let lower : shape_rank p merged < shape_rank p r.shape = merged_lower p s r.shape merged (h.locals ∙ sym within.locals) not e' in
    omega arith

-- a shape that isn't new any more makes the state lighter
pub marked_lower : (p : PlainProgram) (m : PlainMethod) (state : PassState) (place : ℕ) (s : Shape) → slice_get state place ≡ Some (reached true s) → weight p m (slice_set state place (reached false s)) < weight p m state
unfolding weight_of
marked_lower p m state place s at =
    let sum : weight p m (slice_set state place (reached false s)) + (2 * shape_rank p s + 1) ≡ weight p m state + (2 * shape_rank p s + 0) = weight_set p m state place (reached true s) (reached false s) at in
    omega arith
