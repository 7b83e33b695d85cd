-- The flows of two shapes of which the second takes the first: one lemma for each way to take an operand, for every relation
-- of flows that holds where the second one is refused.
use Rattle.std.proofs.Common.{◌≡◌, ℕ, zero, suc, Bool, true, false, List, [], ◌∷◌, Option, Some, None, refl}
use Rattle.std.specs.Prelude.{slice_get, slice_set}
use Rattle.std.proofs.lemmas.Bool.{false≢true}
use Rattle.vm_model.specs.declared.value.Kind.{Kind}
use Rattle.vm_model.specs.Program.{PlainProgram}
use Rattle.machine_model.specs.Declarations.{declarations_of}
use Rattle.machine_model.specs.Kinds.{is_assignable}
use Rattle.machine_model.specs.Shapes.{Flow, Leaves, Refused, is_int, is_subsumed, on_kind, on_such, on_int, on_ints, on_assignable, on_all, on_set, on_place, on_declared, where_true, flow_return, StackTakes, LocalsTake}
use Rattle.shape_lattice.proofs.Subsumed.{int_kept, assignable_kept}

-- a test that holds of each kind that is subsumed under one of which it holds
abbrev pub IsKept : PlainProgram → (Kind → Bool) → Type 0
IsKept p test = (k l : Kind) → is_subsumed p k l ≡ true → test l ≡ true → test k ≡ true

module _ (p : PlainProgram) (P : Flow → Flow → Type 0) (none : (f : Flow) → P f Refused) where
  -- an operand of any kind
  pub kinds_follow : (ks ls : List Kind) (gs gt : Kind → List Kind → Flow) → StackTakes p ks ls
      → ((k l : Kind) (kept taken : List Kind) → is_subsumed p k l ≡ true → StackTakes p kept taken → P (gs k kept) (gt l taken)) → P (on_kind ks gs) (on_kind ls gt)
  kinds_follow [] [] gs gt a h = none Refused
  kinds_follow [] (l ∷ ls) gs gt a h = absurd a
  kinds_follow (k ∷ ks) [] gs gt a h = absurd a
  kinds_follow (k ∷ ks) (l ∷ ls) gs gt a h = h k l ks ls a.0 a.1

  -- a test that holds of the first where it holds of the second
  pub true_follows : (b c : Bool) (fs ft : Flow) → (c ≡ true → b ≡ true) → P fs ft → P (where_true b fs) (where_true c ft)
  true_follows true true fs ft e h = h
  true_follows false true fs ft e h = absurd (false≢true (e refl))
  true_follows b false fs ft e h = none _

  -- an operand that passes a test
  pub such_follow : (test : Kind → Bool) → IsKept p test → (ks ls : List Kind) (gs gt : List Kind → Flow) → StackTakes p ks ls
      → ((kept taken : List Kind) → StackTakes p kept taken → P (gs kept) (gt taken)) → P (on_such test ks gs) (on_such test ls gt)
  such_follow test keeps ks ls gs gt a h =
      kinds_follow ks ls (λ k rest. where_true (test k) (gs rest)) (λ k rest. where_true (test k) (gt rest)) a
      (λ k l kept taken is more. true_follows (test k) (test l) (gs kept) (gt taken) (keeps k l is) (h kept taken more))

  pub int_follows : (ks ls : List Kind) (gs gt : List Kind → Flow) → StackTakes p ks ls → ((kept taken : List Kind) → StackTakes p kept taken → P (gs kept) (gt taken)) → P (on_int ks gs) (on_int ls gt)
  int_follows ks ls gs gt a h = such_follow is_int (int_kept p) ks ls gs gt a h

  pub ints_follow : (ks ls : List Kind) (gs gt : List Kind → Flow) → StackTakes p ks ls → ((kept taken : List Kind) → StackTakes p kept taken → P (gs kept) (gt taken)) → P (on_ints ks gs) (on_ints ls gt)
  ints_follow ks ls gs gt a h = int_follows ks ls (λ rest. on_int rest gs) (λ rest. on_int rest gt) a (λ kept taken more. int_follows kept taken gs gt more h)

  -- an operand that may stand for a kind, and several of them
  pub assignable_follows : (wanted : Kind) (ks ls : List Kind) (gs gt : List Kind → Flow) → StackTakes p ks ls → ((kept taken : List Kind) → StackTakes p kept taken → P (gs kept) (gt taken))
      → P (on_assignable p wanted ks gs) (on_assignable p wanted ls gt)
  assignable_follows wanted ks ls gs gt a h =
      such_follow (λ k. is_assignable (declarations_of p) k wanted) (λ k l is e. assignable_kept p k l wanted is e) ks ls gs gt a h

  pub all_follow : (wanted ks ls : List Kind) (gs gt : List Kind → Flow) → StackTakes p ks ls → ((kept taken : List Kind) → StackTakes p kept taken → P (gs kept) (gt taken))
      → P (on_all p wanted ks gs) (on_all p wanted ls gt)
  all_follow [] ks ls gs gt a h = h ks ls a
  all_follow (w ∷ wanted) ks ls gs gt a h =
      assignable_follows w ks ls (λ rest. on_all p wanted rest gs) (λ rest. on_all p wanted rest gt) a (λ kept taken more. all_follow wanted kept taken gs gt more h)

  -- a local that is set, and one that is there
  pub set_follows : (ks ls : List (Option Kind)) (i : ℕ) (gs gt : Kind → Flow) → LocalsTake p ks ls → ((k l : Kind) → is_subsumed p k l ≡ true → P (gs k) (gt l))
      → P (on_set (slice_get ks i) gs) (on_set (slice_get ls i) gt)
  set_follows [] [] i gs gt a h = none _
  set_follows [] (l ∷ ls) i gs gt a h = absurd a
  set_follows (k ∷ ks) [] i gs gt a h = absurd a
  set_follows (k ∷ ks) (None ∷ ls) zero gs gt a h = none _
  set_follows (None ∷ ks) (Some l ∷ ls) zero gs gt a h = absurd a.0
  set_follows (Some k ∷ ks) (Some l ∷ ls) zero gs gt a h = h k l a.0
  set_follows (k ∷ ks) (l ∷ ls) (suc i) gs gt a h = set_follows ks ls i gs gt a.1 h

  pub place_follows : (ks ls : List (Option Kind)) (i : ℕ) (fs ft : Flow) → LocalsTake p ks ls → P fs ft → P (on_place (slice_get ks i) fs) (on_place (slice_get ls i) ft)
  place_follows [] [] i fs ft a h = none _
  place_follows [] (l ∷ ls) i fs ft a h = absurd a
  place_follows (k ∷ ks) [] i fs ft a h = absurd a
  place_follows (k ∷ ks) (l ∷ ls) zero fs ft a h = h
  place_follows (k ∷ ks) (l ∷ ls) (suc i) fs ft a h = place_follows ks ls i fs ft a.1 h

  -- a kind that is declared is the same for both
  pub declared_follows : (o : Option Kind) (gs gt : Kind → Flow) → ((k : Kind) → P (gs k) (gt k)) → P (on_declared o gs) (on_declared o gt)
  declared_follows None gs gt h = none _
  declared_follows (Some k) gs gt h = h k

  -- what a method gives back
  pub return_follows : (wanted : Option Kind) (k l : Kind) → is_subsumed p k l ≡ true → P Leaves Leaves → P (flow_return p wanted (Some k)) (flow_return p wanted (Some l))
  return_follows None k l is h = none _
  return_follows (Some wanted) k l is h = true_follows (is_assignable (declarations_of p) k wanted) (is_assignable (declarations_of p) l wanted) Leaves Leaves (assignable_kept p k l wanted is) h

  pub empty_return_follows : (wanted : Option Kind) → P Leaves Leaves → P (flow_return p wanted None) (flow_return p wanted None)
  empty_return_follows None h = h
  empty_return_follows (Some wanted) h = none _

-- what is stored in a local
pub stored_takes : (p : PlainProgram) (ks ls : List (Option Kind)) (i : ℕ) (k l : Kind) → LocalsTake p ks ls → is_subsumed p k l ≡ true → LocalsTake p (slice_set ks i (Some k)) (slice_set ls i (Some l))
stored_takes p [] [] i k l a is = tt
stored_takes p [] (m ∷ ls) i k l a is = absurd a
stored_takes p (j ∷ ks) [] i k l a is = absurd a
stored_takes p (j ∷ ks) (m ∷ ls) zero k l a is = (is, a.1)
stored_takes p (j ∷ ks) (m ∷ ls) (suc i) k l a is = (a.0, stored_takes p ks ls i k l a.1 is)
