-- That one shape takes another is an order, and the test says when it does.
use Rattle.std.proofs.Common.{◌≡◌, ℕ, true, List, [], ◌∷◌, Option, Some, None, refl, subst}
use Rattle.std.specs.Prelude.{◌==◌, IsTrue}
use Rattle.std.specs.List.{list_any}
use Rattle.std.proofs.lemmas.Bool.{false≢true}
use Rattle.vm_model.specs.declared.value.Kind.{Kind}
use Rattle.vm_model.specs.declared.value.Kind.TheVariants as kind
use Rattle.vm_model.specs.Program.{PlainProgram}
use Rattle.machine_model.specs.Declarations.{Declarations, declarations_of}
use Rattle.machine_model.specs.Kinds.{chain}
use Rattle.machine_model.specs.Shapes.{Shape, is_subsumed, StackTakes, LocalTakes, LocalsTake, Takes, TakesAt}
use Rattle.shape_lattice.specs.Merging.{takes, takes_kinds, takes_local, takes_locals}
use Rattle.shape_laws.proofs.Tests.{same, same_self, of_left, on_left, both, joined}
use Rattle.shape_laws.proofs.Supers.{chain_passes}

-- ---- kinds

-- a class is in its chain
pub chain_itself : (d : Declarations) (c : ℕ) → list_any (λ s. s == c) (chain d c) ≡ true
unfolding chain
chain_itself d c = on_left (c == c) _ (same_self c)

-- Object has itself only in its chain
pub object_alone : (d : Declarations) (c e : ℕ) → (c == 0) ≡ true → list_any (λ s. s == e) (chain d c) ≡ true → (e == 0) ≡ true
unfolding chain
object_alone d c e is h =
    let low = subst (λ (y : ℕ). list_any (λ s. s == e) (chain d y) ≡ true) (same c 0 is) h in
    subst (λ (y : ℕ). (y == 0) ≡ true) (same 0 e (of_left (0 == e) low)) refl

-- each kind is subsumed under itself
pub kind_itself : (p : PlainProgram) (k : Kind) → is_subsumed p k k ≡ true
kind_itself p kind.Int = refl
kind_itself p kind.Null = refl
kind_itself p (kind.Ref c) = chain_itself (declarations_of p) c
kind_itself p kind.Arr = refl
kind_itself p kind.Args = refl

-- what is subsumed under a kind is subsumed under all that this one is subsumed under
pub kind_passes : (p : PlainProgram) (j k l : Kind) → is_subsumed p j k ≡ true → is_subsumed p k l ≡ true → is_subsumed p j l ≡ true
kind_passes p kind.Int kind.Int l a b = b
kind_passes p kind.Int kind.Null l a b = absurd (false≢true a)
kind_passes p kind.Int (kind.Ref d) l a b = absurd (false≢true a)
kind_passes p kind.Int kind.Arr l a b = absurd (false≢true a)
kind_passes p kind.Int kind.Args l a b = absurd (false≢true a)
kind_passes p kind.Null kind.Int l a b = absurd (false≢true a)
kind_passes p kind.Null kind.Null l a b = b
kind_passes p kind.Null (kind.Ref d) (kind.Ref e) a b = refl
kind_passes p kind.Null (kind.Ref d) kind.Int a b = absurd (false≢true b)
kind_passes p kind.Null (kind.Ref d) kind.Null a b = absurd (false≢true b)
kind_passes p kind.Null (kind.Ref d) kind.Arr a b = absurd (false≢true b)
kind_passes p kind.Null (kind.Ref d) kind.Args a b = absurd (false≢true b)
kind_passes p kind.Null kind.Arr kind.Int a b = absurd (false≢true b)
kind_passes p kind.Null kind.Arr kind.Null a b = absurd (false≢true b)
kind_passes p kind.Null kind.Arr (kind.Ref e) a b = refl
kind_passes p kind.Null kind.Arr kind.Arr a b = refl
kind_passes p kind.Null kind.Arr kind.Args a b = absurd (false≢true b)
kind_passes p kind.Null kind.Args l a b = absurd (false≢true a)
kind_passes p (kind.Ref c) kind.Int l a b = absurd (false≢true a)
kind_passes p (kind.Ref c) kind.Null l a b = absurd (false≢true a)
kind_passes p (kind.Ref c) (kind.Ref d) (kind.Ref e) a b = chain_passes (declarations_of p) c e d a b
kind_passes p (kind.Ref c) (kind.Ref d) kind.Int a b = absurd (false≢true b)
kind_passes p (kind.Ref c) (kind.Ref d) kind.Null a b = absurd (false≢true b)
kind_passes p (kind.Ref c) (kind.Ref d) kind.Arr a b = absurd (false≢true b)
kind_passes p (kind.Ref c) (kind.Ref d) kind.Args a b = absurd (false≢true b)
kind_passes p (kind.Ref c) kind.Arr l a b = absurd (false≢true a)
kind_passes p (kind.Ref c) kind.Args l a b = absurd (false≢true a)
kind_passes p kind.Arr kind.Int l a b = absurd (false≢true a)
kind_passes p kind.Arr kind.Null l a b = absurd (false≢true a)
kind_passes p kind.Arr (kind.Ref d) (kind.Ref e) a b = object_alone (declarations_of p) d e a b
kind_passes p kind.Arr (kind.Ref d) kind.Int a b = absurd (false≢true b)
kind_passes p kind.Arr (kind.Ref d) kind.Null a b = absurd (false≢true b)
kind_passes p kind.Arr (kind.Ref d) kind.Arr a b = absurd (false≢true b)
kind_passes p kind.Arr (kind.Ref d) kind.Args a b = absurd (false≢true b)
kind_passes p kind.Arr kind.Arr l a b = b
kind_passes p kind.Arr kind.Args l a b = absurd (false≢true a)
kind_passes p kind.Args kind.Int l a b = absurd (false≢true a)
kind_passes p kind.Args kind.Null l a b = absurd (false≢true a)
kind_passes p kind.Args (kind.Ref d) l a b = absurd (false≢true a)
kind_passes p kind.Args kind.Arr l a b = absurd (false≢true a)
kind_passes p kind.Args kind.Args l a b = b

-- ---- stacks and locals

stack_itself : (p : PlainProgram) (ks : List Kind) → StackTakes p ks ks
stack_itself p [] = tt
stack_itself p (k ∷ ks) = (kind_itself p k, stack_itself p ks)

pub stack_passes : (p : PlainProgram) (js ks ls : List Kind) → StackTakes p js ks → StackTakes p ks ls → StackTakes p js ls
stack_passes p [] [] ls a b = b
stack_passes p [] (k ∷ ks) ls a b = absurd a
stack_passes p (j ∷ js) [] ls a b = absurd a
stack_passes p (j ∷ js) (k ∷ ks) [] a b = absurd b
stack_passes p (j ∷ js) (k ∷ ks) (l ∷ ls) a b = (kind_passes p j k l a.0 b.0, stack_passes p js ks ls a.1 b.1)

local_itself : (p : PlainProgram) (k : Option Kind) → LocalTakes p k k
local_itself p None = tt
local_itself p (Some k) = kind_itself p k

locals_itself : (p : PlainProgram) (ks : List (Option Kind)) → LocalsTake p ks ks
locals_itself p [] = tt
locals_itself p (k ∷ ks) = (local_itself p k, locals_itself p ks)

local_passes : (p : PlainProgram) (j k l : Option Kind) → LocalTakes p j k → LocalTakes p k l → LocalTakes p j l
local_passes p j k None a b = tt
local_passes p j None (Some l) a b = absurd b
local_passes p None (Some k) (Some l) a b = absurd a
local_passes p (Some j) (Some k) (Some l) a b = kind_passes p j k l a b

locals_pass : (p : PlainProgram) (js ks ls : List (Option Kind)) → LocalsTake p js ks → LocalsTake p ks ls → LocalsTake p js ls
locals_pass p [] [] ls a b = b
locals_pass p [] (k ∷ ks) ls a b = absurd a
locals_pass p (j ∷ js) [] ls a b = absurd a
locals_pass p (j ∷ js) (k ∷ ks) [] a b = absurd b
locals_pass p (j ∷ js) (k ∷ ks) (l ∷ ls) a b = (local_passes p j k l a.0 b.0, locals_pass p js ks ls a.1 b.1)

-- ---- shapes

pub takes_itself : (p : PlainProgram) (s : Shape) → Takes p s s
takes_itself p s = record { stack = stack_itself p s.stack; locals = locals_itself p s.locals }

pub takes_passes : (p : PlainProgram) (r s t : Shape) → Takes p r s → Takes p s t → Takes p r t
takes_passes p r s t a b =
    record { stack = stack_passes p r.stack s.stack t.stack a.stack b.stack; locals = locals_pass p r.locals s.locals t.locals a.locals b.locals }

pub takes_at_passes : (p : PlainProgram) (r s : Shape) (o : Option Shape) → Takes p r s → TakesAt p s o → TakesAt p r o
takes_at_passes p r s None a b = absurd b
takes_at_passes p r s (Some t) a b = takes_passes p r s t a b

-- ---- the test

stack_test : (p : PlainProgram) (ks ls : List Kind) → StackTakes p ks ls → takes_kinds p ks ls ≡ true
stack_test p [] [] a = refl
stack_test p [] (l ∷ ls) a = absurd a
stack_test p (k ∷ ks) [] a = absurd a
stack_test p (k ∷ ks) (l ∷ ls) a = joined (is_subsumed p k l) (takes_kinds p ks ls) a.0 (stack_test p ks ls a.1)

stack_tested : (p : PlainProgram) (ks ls : List Kind) → takes_kinds p ks ls ≡ true → StackTakes p ks ls
stack_tested p [] [] a = tt
stack_tested p [] (l ∷ ls) a = absurd (false≢true a)
stack_tested p (k ∷ ks) [] a = absurd (false≢true a)
stack_tested p (k ∷ ks) (l ∷ ls) a = let parts = both (is_subsumed p k l) (takes_kinds p ks ls) a in (parts.0, stack_tested p ks ls parts.1)

local_test : (p : PlainProgram) (k l : Option Kind) → LocalTakes p k l → takes_local p k l ≡ true
local_test p k None a = refl
local_test p None (Some l) a = absurd a
local_test p (Some k) (Some l) a = a

local_tested : (p : PlainProgram) (k l : Option Kind) → takes_local p k l ≡ true → LocalTakes p k l
local_tested p k None a = tt
local_tested p None (Some l) a = absurd (false≢true a)
local_tested p (Some k) (Some l) a = a

locals_test : (p : PlainProgram) (ks ls : List (Option Kind)) → LocalsTake p ks ls → takes_locals p ks ls ≡ true
locals_test p [] [] a = refl
locals_test p [] (l ∷ ls) a = absurd a
locals_test p (k ∷ ks) [] a = absurd a
locals_test p (k ∷ ks) (l ∷ ls) a = joined (takes_local p k l) (takes_locals p ks ls) (local_test p k l a.0) (locals_test p ks ls a.1)

locals_tested : (p : PlainProgram) (ks ls : List (Option Kind)) → takes_locals p ks ls ≡ true → LocalsTake p ks ls
locals_tested p [] [] a = tt
locals_tested p [] (l ∷ ls) a = absurd (false≢true a)
locals_tested p (k ∷ ks) [] a = absurd (false≢true a)
locals_tested p (k ∷ ks) (l ∷ ls) a = let parts = both (takes_local p k l) (takes_locals p ks ls) a in (local_tested p k l parts.0, locals_tested p ks ls parts.1)

-- the test says so where a shape takes another
pub takes_test : (p : PlainProgram) (new old : Shape) → Takes p new old → IsTrue (takes p new old)
takes_test p new old a = joined (takes_kinds p new.stack old.stack) (takes_locals p new.locals old.locals) (stack_test p new.stack old.stack a.stack) (locals_test p new.locals old.locals a.locals)

-- a shape takes another where the test says so
pub takes_tested : (p : PlainProgram) (new old : Shape) → IsTrue (takes p new old) → Takes p new old
takes_tested p new old a =
    let parts = both (takes_kinds p new.stack old.stack) (takes_locals p new.locals old.locals) a in
    record { stack = stack_tested p new.stack old.stack parts.0; locals = locals_tested p new.locals old.locals parts.1 }
