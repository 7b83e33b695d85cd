-- One shape takes another exactly where merging the first into the second changes nothing.
use Rattle.std.proofs.Common.{◌≡◌, ℕ, Bool, true, List, [], ◌∷◌, length, Option, Some, None, refl, sym, ◌∙◌, ap, subst}
use Rattle.std.specs.Prelude.{◌==◌, if◌then◌else◌, option_map, Ok, Err}
use Rattle.std.proofs.lemmas.Bool.{false≢true}
use Rattle.vm_model.specs.declared.value.Kind.{Kind}
use Rattle.vm_model.specs.declared.value.Kind.TheVariants as kind
use Rattle.vm_model.specs.Program.{PlainProgram}
use Rattle.machine_model.specs.Declarations.{Declarations, declarations_of}
use Rattle.machine_model.specs.Kinds.{chain, super_of, supers_within}
use Rattle.machine_model.specs.Shapes.{Shape, is_subsumed, StackTakes, LocalTakes, LocalsTake, Takes}
use Rattle.class_kinds.specs.Classes.{is_among}
use Rattle.shape_lattice.specs.declared.fault.ShapeKind.TheVariants as fault
use Rattle.shape_lattice.specs.Merging.{first_common, merged_array, merged_kind, merged_kinds, merged_local, merged_locals, merged_over, merged_shape, nearest_super, with_top}
use Rattle.shape_laws.proofs.Tests.{same, same_self}
use Rattle.shape_lattice.proofs.Least.{merged_takes, same_depth}
use Rattle.shape_lattice.proofs.Ranks.{chain_is}
use Rattle.shape_lattice.proofs.Taking.{chain_itself}

-- of a class and one of its supers, this one is the nearest that both are or extend
nearest_above : (d : Declarations) (c e : ℕ) → is_among (chain d c) e ≡ true → nearest_super d c e ≡ Some e
nearest_above d c e is =
    subst (λ (xs : List ℕ). first_common (chain d c) xs ≡ Some e) (sym (chain_is d e))
    (ap (λ (b : Bool). if b then Some e else first_common (chain d c) (supers_within 5 d (super_of d e))) is)

-- an array stays Object
object_unchanged : (d : Declarations) (c : ℕ) → (c == 0) ≡ true → merged_array d c ≡ Some (kind.Ref c)
object_unchanged d c is =
    subst (λ (x : ℕ). merged_array d x ≡ Some (kind.Ref x)) (sym (same c 0 is))
    (ap (λ (b : Bool). if b then Some (kind.Ref 0) else None) (chain_itself d 0))

kind_unchanged : (p : PlainProgram) (k l : Kind) → is_subsumed p k l ≡ true → merged_kind p k l ≡ Some l
kind_unchanged p kind.Int kind.Int is = refl
kind_unchanged p kind.Int l is = absurd (false≢true is)
kind_unchanged p kind.Null kind.Null is = refl
kind_unchanged p kind.Null (kind.Ref d) is = refl
kind_unchanged p kind.Null kind.Arr is = refl
kind_unchanged p kind.Null l is = absurd (false≢true is)
kind_unchanged p (kind.Ref c) (kind.Ref d) is = ap (λ (o : Option ℕ). option_map kind.Ref o) (nearest_above (declarations_of p) c d is)
kind_unchanged p (kind.Ref c) l is = absurd (false≢true is)
kind_unchanged p kind.Arr (kind.Ref d) is = object_unchanged (declarations_of p) d is
kind_unchanged p kind.Arr kind.Arr is = refl
kind_unchanged p kind.Arr l is = absurd (false≢true is)
kind_unchanged p kind.Args kind.Args is = refl
kind_unchanged p kind.Args l is = absurd (false≢true is)

stack_unchanged : (p : PlainProgram) (ks ls : List Kind) → StackTakes p ks ls → merged_kinds p ks ls ≡ Some ls
stack_unchanged p [] [] a = refl
stack_unchanged p [] (l ∷ ls) a = absurd a
stack_unchanged p (k ∷ ks) [] a = absurd a
stack_unchanged p (k ∷ ks) (l ∷ ls) a =
    ap (λ (o : Option Kind). with_top o (merged_kinds p ks ls)) (kind_unchanged p k l a.0)
    ∙ ap (λ (o : Option (List Kind)). with_top (Some l) o) (stack_unchanged p ks ls a.1)

local_unchanged : (p : PlainProgram) (k l : Option Kind) → LocalTakes p k l → merged_local p k l ≡ l
local_unchanged p None None a = refl
local_unchanged p None (Some l) a = absurd a
local_unchanged p (Some k) None a = refl
local_unchanged p (Some k) (Some l) a = kind_unchanged p k l a

locals_unchanged : (p : PlainProgram) (ks ls : List (Option Kind)) → LocalsTake p ks ls → merged_locals p ks ls ≡ ls
locals_unchanged p [] [] a = refl
locals_unchanged p [] (l ∷ ls) a = absurd a
locals_unchanged p (k ∷ ks) [] a = absurd a
locals_unchanged p (k ∷ ks) (l ∷ ls) a =
    ap (λ (x : Option Kind). x ∷ merged_locals p ks ls) (local_unchanged p k l a.0)
    ∙ ap (λ (xs : List (Option Kind)). l ∷ xs) (locals_unchanged p ks ls a.1)

-- merging a shape into one that it takes changes nothing
pub taken_unchanged : (p : PlainProgram) (new old : Shape) → Takes p new old → merged_shape p new old ≡ Ok old
taken_unchanged p new old a =
    let deep : (length new.stack == length old.stack) ≡ true =
    subst (λ (n : ℕ). (length new.stack == n) ≡ true) (same_depth p new.stack old.stack a.stack) (same_self (length new.stack)) in
    ap (λ (b : Bool). if b then merged_over (merged_kinds p new.stack old.stack) (merged_locals p new.locals old.locals) else Err fault.Depth) deep
    ∙ ap (λ (o : Option (List Kind)). merged_over o (merged_locals p new.locals old.locals)) (stack_unchanged p new.stack old.stack a.stack)
    ∙ ap (λ (ls : List (Option Kind)). merged_over (Some old.stack) ls) (locals_unchanged p new.locals old.locals a.locals)

-- a shape takes one that merging into it leaves as it is
pub unchanged_taken : (p : PlainProgram) (new old : Shape) → length new.locals ≡ length old.locals → merged_shape p new old ≡ Ok old → Takes p new old
unchanged_taken p new old long is = (merged_takes p new old old is long).0
