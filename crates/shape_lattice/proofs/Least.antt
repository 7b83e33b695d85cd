-- Merging gives the least that takes both.
use Rattle.std.proofs.Common.{◌≡◌, ℕ, Bool, true, false, List, [], ◌∷◌, length, Option, Some, None, refl, sym, ◌∙◌, subst, arith}
use Rattle.std.specs.Prelude.{◌==◌, if◌then◌else◌, option_map, Result, Ok, Err}
use Rattle.std.proofs.lemmas.Bool.{false≢true}
use Rattle.vm_model.specs.declared.value.Kind.{Kind}
use Rattle.vm_model.specs.declared.value.Kind.TheVariants as kind
use Rattle.vm_model.specs.Program.{PlainProgram}
use Rattle.machine_model.specs.Declarations.{declarations_of}
use Rattle.machine_model.specs.Kinds.{chain}
use Rattle.machine_model.specs.Shapes.{Shape, is_subsumed, StackTakes, LocalTakes, LocalsTake, Takes}
use Rattle.class_kinds.specs.Classes.{is_among}
use Rattle.shape_lattice.specs.declared.fault.ShapeKind.{ShapeKind}
use Rattle.shape_lattice.specs.declared.fault.ShapeKind.TheVariants as fault
use Rattle.shape_lattice.specs.Merging.{nearest_super, merged_array, merged_kind, with_top, merged_kinds, merged_local, merged_locals, merged_over, merged_shape, IsBelow}
use Rattle.shape_laws.proofs.Tests.{same, same_self}
use Rattle.shape_lattice.proofs.Taking.{chain_itself}
use Rattle.shape_lattice.proofs.Nearest.{IsCommon, IsNearer, common, nearer}

-- ---- what is merged takes both

-- both kinds are subsumed under the third, if there is one
abbrev UnderKind : PlainProgram → Kind → Kind → Option Kind → Type 0
UnderKind p k l None = Unit {0}
UnderKind p k l (Some m) = (is_subsumed p k m ≡ true) × (is_subsumed p l m ≡ true)

classes_under : (p : PlainProgram) (c d : ℕ) (o : Option ℕ) → IsCommon (chain (declarations_of p) c) (chain (declarations_of p) d) o → UnderKind p (kind.Ref c) (kind.Ref d) (option_map kind.Ref o)
classes_under p c d None h = tt
classes_under p c d (Some e) h = h

array_under : (p : PlainProgram) (c : ℕ) (b : Bool) → is_among (chain (declarations_of p) c) 0 ≡ b → UnderKind p (kind.Ref c) kind.Arr (if b then Some (kind.Ref 0) else None)
array_under p c true is = (is, refl)
array_under p c false is = tt

turned_round : (p : PlainProgram) (k l : Kind) (o : Option Kind) → UnderKind p k l o → UnderKind p l k o
turned_round p k l None h = tt
turned_round p k l (Some m) h = (h.1, h.0)

-- what two kinds are merged to
kinds_under : (p : PlainProgram) (k l : Kind) → UnderKind p k l (merged_kind p k l)
kinds_under p kind.Int kind.Int = (refl, refl)
kinds_under p kind.Null kind.Null = (refl, refl)
kinds_under p kind.Null (kind.Ref d) = (refl, chain_itself (declarations_of p) d)
kinds_under p kind.Null kind.Arr = (refl, refl)
kinds_under p (kind.Ref c) kind.Null = (chain_itself (declarations_of p) c, refl)
kinds_under p (kind.Ref c) (kind.Ref d) = classes_under p c d (nearest_super (declarations_of p) c d) (common (chain (declarations_of p) c) (chain (declarations_of p) d))
kinds_under p (kind.Ref c) kind.Arr = array_under p c (is_among (chain (declarations_of p) c) 0) refl
kinds_under p kind.Arr kind.Null = (refl, refl)
kinds_under p kind.Arr (kind.Ref d) = turned_round p (kind.Ref d) kind.Arr (merged_array (declarations_of p) d) (array_under p d (is_among (chain (declarations_of p) d) 0) refl)
kinds_under p kind.Arr kind.Arr = (refl, refl)
kinds_under p kind.Args kind.Args = (refl, refl)
kinds_under p k l = tt

abbrev UnderStack : PlainProgram → List Kind → List Kind → Option (List Kind) → Type 0
UnderStack p ks ls None = Unit {0}
UnderStack p ks ls (Some ms) = StackTakes p ks ms × StackTakes p ls ms

top_under : (p : PlainProgram) (k l : Kind) (ks ls : List Kind) (o : Option Kind) (rest : Option (List Kind)) → UnderKind p k l o → UnderStack p ks ls rest
    → UnderStack p (k ∷ ks) (l ∷ ls) (with_top o rest)
top_under p k l ks ls None rest h more = tt
top_under p k l ks ls (Some m) None h more = tt
top_under p k l ks ls (Some m) (Some ms) h more = ((h.0, more.0), (h.1, more.1))

stacks_under : (p : PlainProgram) (ks ls : List Kind) → UnderStack p ks ls (merged_kinds p ks ls)
stacks_under p [] [] = (tt, tt)
stacks_under p [] (l ∷ ls) = tt
stacks_under p (k ∷ ks) [] = tt
stacks_under p (k ∷ ks) (l ∷ ls) = top_under p k l ks ls (merged_kind p k l) (merged_kinds p ks ls) (kinds_under p k l) (stacks_under p ks ls)

set_under : (p : PlainProgram) (k l : Kind) (o : Option Kind) → UnderKind p k l o → LocalTakes p (Some k) o × LocalTakes p (Some l) o
set_under p k l None h = (tt, tt)
set_under p k l (Some m) h = h

local_under : (p : PlainProgram) (k l : Option Kind) → LocalTakes p k (merged_local p k l) × LocalTakes p l (merged_local p k l)
local_under p None l = (tt, tt)
local_under p (Some k) None = (tt, tt)
local_under p (Some k) (Some l) = set_under p k l (merged_kind p k l) (kinds_under p k l)

-- as many locals, each merged with the one at its place
locals_under : (p : PlainProgram) (ks ls : List (Option Kind)) → length ks ≡ length ls → LocalsTake p ks (merged_locals p ks ls) × LocalsTake p ls (merged_locals p ks ls)
locals_under p [] [] e = (tt, tt)
locals_under p [] (l ∷ ls) e = absurd (omega arith)
locals_under p (k ∷ ks) [] e = absurd (omega arith)
locals_under p (k ∷ ks) (l ∷ ls) e =
    let more = locals_under p ks ls (omega arith) in
    let here = local_under p k l in
    ((here.0, more.0), (here.1, more.1))

ok_same : (x y : Shape) → ◌≡◌ {A = Result Shape ShapeKind} (Ok x) (Ok y) → x ≡ y
ok_same x y e = cc

err_ok : (why : ShapeKind) (y : Shape) → ◌≡◌ {A = Result Shape ShapeKind} (Err why) (Ok y) → ⊥
err_ok why y e = cc

-- what two shapes with as many locals are merged to takes both
pub merged_takes : (p : PlainProgram) (new old merged : Shape) → merged_shape p new old ≡ Ok merged → length new.locals ≡ length old.locals → Takes p new merged × Takes p old merged
merged_takes p new old merged is long = by (length new.stack == length old.stack) (merged_kinds p new.stack old.stack) (stacks_under p new.stack old.stack) is
  where
    by : (b : Bool) (o : Option (List Kind)) → UnderStack p new.stack old.stack o → (if b then merged_over o (merged_locals p new.locals old.locals) else Err fault.Depth) ≡ Ok merged
        → Takes p new merged × Takes p old merged
    by true None h e = absurd (err_ok fault.Kind merged e)
    by true (Some stack) h e =
        let locals = locals_under p new.locals old.locals long in
        subst (λ (m : Shape). Takes p new m × Takes p old m) (ok_same _ merged e) (record { stack = h.0; locals = locals.0 }, record { stack = h.1; locals = locals.1 })
    by false o h e = absurd (err_ok fault.Depth merged e)

-- ---- what takes both takes what is merged

abbrev IsKindBelow : PlainProgram → Option Kind → Kind → Type 0
IsKindBelow p None m = ⊥
IsKindBelow p (Some k) m = is_subsumed p k m ≡ true

class_below : (p : PlainProgram) (o : Option ℕ) (e : ℕ) → IsNearer (declarations_of p) o e → IsKindBelow p (option_map kind.Ref o) (kind.Ref e)
class_below p None e h = absurd h
class_below p (Some c) e h = h

-- an array and an object that are both of a kind are both objects
array_below : (p : PlainProgram) (c e : ℕ) → is_among (chain (declarations_of p) c) e ≡ true → (e == 0) ≡ true → IsKindBelow p (merged_array (declarations_of p) c) (kind.Ref e)
array_below p c e has is = by (is_among (chain (declarations_of p) c) 0) (subst (λ (y : ℕ). is_among (chain (declarations_of p) c) y ≡ true) (same e 0 is) has)
  where
    by : (b : Bool) → b ≡ true → IsKindBelow p (if b then Some (kind.Ref 0) else None) (kind.Ref e)
    by true h = subst (λ (y : ℕ). is_among (chain (declarations_of p) 0) y ≡ true) (sym (same e 0 is)) (chain_itself (declarations_of p) 0)
    by false h = absurd (false≢true h)

-- each kind that both are subsumed under is above the merged one
kind_below : (p : PlainProgram) (k l m : Kind) → is_subsumed p k m ≡ true → is_subsumed p l m ≡ true → IsKindBelow p (merged_kind p k l) m
kind_below p kind.Int kind.Int kind.Int a b = refl
kind_below p kind.Int l kind.Int a b = absurd (false≢true b)
kind_below p k l kind.Int a b = absurd (false≢true a)
kind_below p kind.Null kind.Null kind.Null a b = refl
kind_below p kind.Null l kind.Null a b = absurd (false≢true b)
kind_below p k l kind.Null a b = absurd (false≢true a)
kind_below p kind.Args kind.Args kind.Args a b = refl
kind_below p kind.Args l kind.Args a b = absurd (false≢true b)
kind_below p k l kind.Args a b = absurd (false≢true a)
kind_below p kind.Null kind.Null kind.Arr a b = refl
kind_below p kind.Null kind.Arr kind.Arr a b = refl
kind_below p kind.Null l kind.Arr a b = absurd (false≢true b)
kind_below p kind.Arr kind.Null kind.Arr a b = refl
kind_below p kind.Arr kind.Arr kind.Arr a b = refl
kind_below p kind.Arr l kind.Arr a b = absurd (false≢true b)
kind_below p k l kind.Arr a b = absurd (false≢true a)
kind_below p kind.Null kind.Null (kind.Ref e) a b = refl
kind_below p kind.Null (kind.Ref d) (kind.Ref e) a b = b
kind_below p kind.Null kind.Arr (kind.Ref e) a b = b
kind_below p kind.Null l (kind.Ref e) a b = absurd (false≢true b)
kind_below p (kind.Ref c) kind.Null (kind.Ref e) a b = a
kind_below p (kind.Ref c) (kind.Ref d) (kind.Ref e) a b = class_below p (nearest_super (declarations_of p) c d) e (nearer (declarations_of p) c d e a b)
kind_below p (kind.Ref c) kind.Arr (kind.Ref e) a b = array_below p c e a b
kind_below p (kind.Ref c) l (kind.Ref e) a b = absurd (false≢true b)
kind_below p kind.Arr kind.Null (kind.Ref e) a b = a
kind_below p kind.Arr (kind.Ref d) (kind.Ref e) a b = array_below p d e b a
kind_below p kind.Arr kind.Arr (kind.Ref e) a b = a
kind_below p kind.Arr l (kind.Ref e) a b = absurd (false≢true b)
kind_below p k l (kind.Ref e) a b = absurd (false≢true a)

abbrev IsStackBelow : PlainProgram → Option (List Kind) → List Kind → Type 0
IsStackBelow p None ms = ⊥
IsStackBelow p (Some ks) ms = StackTakes p ks ms

top_below : (p : PlainProgram) (o : Option Kind) (rest : Option (List Kind)) (m : Kind) (ms : List Kind) → IsKindBelow p o m → IsStackBelow p rest ms → IsStackBelow p (with_top o rest) (m ∷ ms)
top_below p None rest m ms h more = absurd h
top_below p (Some k) None m ms h more = absurd more
top_below p (Some k) (Some ks) m ms h more = (h, more)

stack_below : (p : PlainProgram) (ks ls ms : List Kind) → StackTakes p ks ms → StackTakes p ls ms → IsStackBelow p (merged_kinds p ks ls) ms
stack_below p [] [] [] a b = tt
stack_below p [] (l ∷ ls) [] a b = absurd b
stack_below p (k ∷ ks) ls [] a b = absurd a
stack_below p [] ls (m ∷ ms) a b = absurd a
stack_below p (k ∷ ks) [] (m ∷ ms) a b = absurd b
stack_below p (k ∷ ks) (l ∷ ls) (m ∷ ms) a b = top_below p (merged_kind p k l) (merged_kinds p ks ls) m ms (kind_below p k l m a.0 b.0) (stack_below p ks ls ms a.1 b.1)

set_below : (p : PlainProgram) (o : Option Kind) (m : Kind) → IsKindBelow p o m → LocalTakes p o (Some m)
set_below p None m h = h
set_below p (Some k) m h = h

local_below : (p : PlainProgram) (k l m : Option Kind) → LocalTakes p k m → LocalTakes p l m → LocalTakes p (merged_local p k l) m
local_below p k l None a b = tt
local_below p None l (Some m) a b = absurd a
local_below p (Some k) None (Some m) a b = absurd b
local_below p (Some k) (Some l) (Some m) a b = set_below p (merged_kind p k l) m (kind_below p k l m a b)

locals_below : (p : PlainProgram) (ks ls ms : List (Option Kind)) → LocalsTake p ks ms → LocalsTake p ls ms → LocalsTake p (merged_locals p ks ls) ms
locals_below p [] ls [] a b = tt
locals_below p (k ∷ ks) ls [] a b = absurd a
locals_below p [] ls (m ∷ ms) a b = absurd a
locals_below p (k ∷ ks) [] (m ∷ ms) a b = absurd b
locals_below p (k ∷ ks) (l ∷ ls) (m ∷ ms) a b = (local_below p k l m a.0 b.0, locals_below p ks ls ms a.1 b.1)

-- stacks of which one takes the other are of equal depth
pub same_depth : (p : PlainProgram) (ks ls : List Kind) → StackTakes p ks ls → length ks ≡ length ls
same_depth p [] [] a = refl
same_depth p [] (l ∷ ls) a = absurd a
same_depth p (k ∷ ks) [] a = absurd a
same_depth p (k ∷ ks) (l ∷ ls) a = let more : length ks ≡ length ls = same_depth p ks ls a.1 in omega arith

-- what takes two shapes takes what they are merged to
pub merged_below : (p : PlainProgram) (new old both : Shape) → Takes p new both → Takes p old both → IsBelow p (merged_shape p new old) both
merged_below p new old both a b =
    by (length new.stack == length old.stack) (merged_kinds p new.stack old.stack)
    (subst (λ (n : ℕ). (length new.stack == n) ≡ true) (same_depth p new.stack both.stack a.stack ∙ sym (same_depth p old.stack both.stack b.stack)) (same_self (length new.stack)))
    (stack_below p new.stack old.stack both.stack a.stack b.stack)
  where
    by : (b' : Bool) (o : Option (List Kind)) → b' ≡ true → IsStackBelow p o both.stack → IsBelow p (if b' then merged_over o (merged_locals p new.locals old.locals) else Err fault.Depth) both
    by true None e h = absurd h
    by true (Some stack) e h = record { stack = h; locals = locals_below p new.locals old.locals both.locals a.locals b.locals }
    by false o e h = absurd (false≢true e)
