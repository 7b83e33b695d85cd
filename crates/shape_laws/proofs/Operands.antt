-- What an instruction takes agrees with what its flow takes: one lemma for each way to take an operand, for every relation
-- that holds where the flow is refused.
use Rattle.std.proofs.Common.{◌≡◌, ℕ, zero, suc, Bool, true, false, List, [], ◌∷◌, ◌++◌, length, Option, Some, None, refl, ap}
use Rattle.std.specs.Prelude.{slice_get, slice_set, ℤ}
use Rattle.std.proofs.lemmas.Bool.{false≢true}
use Rattle.vm_model.specs.declared.value.Value.{Value}
use Rattle.vm_model.specs.declared.value.Value.TheVariants as value
use Rattle.vm_model.specs.declared.value.Kind.{Kind}
use Rattle.vm_model.specs.declared.value.Kind.TheVariants as kind
use Rattle.vm_model.specs.Program.{PlainProgram}
use Rattle.machine_model.specs.Declarations.{declarations_of}
use Rattle.machine_model.specs.Kinds.{is_assignable}
use Rattle.machine_model.specs.Operands.{Action, Undefined, top_of, top_int_of, on_any, on_number, on_local, int_in}
use Rattle.machine_model.specs.Operands as operands
use Rattle.machine_model.specs.Shapes.{Flow, Refused, is_int, on_kind, on_int, on_such, on_set, on_place, on_declared, on_all, where_true}
use Rattle.shape_laws.proofs.Taking.{of_assignable}
use Rattle.shape_laws.specs.Fitting.{is_made, is_of, FitsKinds, FitsLocals}
use Rattle.shape_laws.proofs.Tests.{both}

module _ (p : PlainProgram) (P : Flow → Action → Type 0) (none : (a : Action) → P Refused a) where
  pub any_agrees : (vs : List Value) (ks : List Kind) (ga : Value → List Value → Action) (gf : Kind → List Kind → Flow) → FitsKinds p vs ks
      → ((v : Value) (rest : List Value) (k : Kind) (krest : List Kind) → vs ≡ v ∷ rest → is_of p v k ≡ true → FitsKinds p rest krest → P (gf k krest) (ga v rest)) → P (on_kind ks gf) (on_any (top_of vs) ga)
  any_agrees [] [] ga gf fit h = none Undefined
  any_agrees [] (k ∷ ks) ga gf fit h = absurd fit
  any_agrees (v ∷ vs) [] ga gf fit h = absurd fit
  any_agrees (v ∷ vs) (k ∷ ks) ga gf fit h = h v vs k ks refl fit.0 fit.1

  pub true_agrees : (b : Bool) (fl : Flow) (a : Action) → (b ≡ true → P fl a) → P (where_true b fl) a
  true_agrees true fl a h = h refl
  true_agrees false fl a h = none a

  pub such_agrees : (test : Kind → Bool) (vs : List Value) (ks : List Kind) (ga : Value → List Value → Action) (gf : List Kind → Flow) → FitsKinds p vs ks
      → ((v : Value) (rest : List Value) (k : Kind) (krest : List Kind) → vs ≡ v ∷ rest → test k ≡ true → is_of p v k ≡ true → FitsKinds p rest krest → P (gf krest) (ga v rest))
      → P (on_such test ks gf) (on_any (top_of vs) ga)
  such_agrees test vs ks ga gf fit h =
      any_agrees vs ks ga (λ k rest. where_true (test k) (gf rest)) fit (λ v rest k krest e g more. true_agrees (test k) (gf krest) (ga v rest) (λ t. h v rest k krest e t g more))

  pub int_agrees : (vs : List Value) (ks : List Kind) (ga : ℤ → List Value → Action) (gf : List Kind → Flow) → FitsKinds p vs ks
      → ((n : ℤ) (rest : List Value) (krest : List Kind) → vs ≡ value.Int n ∷ rest → FitsKinds p rest krest → P (gf krest) (ga n rest)) → P (on_int ks gf) (operands.on_int (top_int_of vs) ga)
  int_agrees [] [] ga gf fit h = none Undefined
  int_agrees [] (k ∷ ks) ga gf fit h = absurd fit
  int_agrees (v ∷ vs) [] ga gf fit h = absurd fit
  int_agrees (value.Int n ∷ vs) (kind.Int ∷ ks) ga gf fit h = h n vs ks refl fit.1
  int_agrees (value.Null ∷ vs) (kind.Int ∷ ks) ga gf fit h = absurd (false≢true fit.0)
  int_agrees (value.Obj id class ∷ vs) (kind.Int ∷ ks) ga gf fit h = absurd (false≢true (both (is_made (value.Obj id class)) false fit.0).1)
  int_agrees (value.Arr id len ∷ vs) (kind.Int ∷ ks) ga gf fit h = absurd (false≢true fit.0)
  int_agrees (value.Text n ∷ vs) (kind.Int ∷ ks) ga gf fit h = absurd (false≢true fit.0)
  int_agrees (value.Stream ∷ vs) (kind.Int ∷ ks) ga gf fit h = absurd (false≢true fit.0)
  int_agrees (v ∷ vs) (kind.Null ∷ ks) ga gf fit h = none _
  int_agrees (v ∷ vs) (kind.Ref c ∷ ks) ga gf fit h = none _
  int_agrees (v ∷ vs) (kind.Arr ∷ ks) ga gf fit h = none _
  int_agrees (v ∷ vs) (kind.Args ∷ ks) ga gf fit h = none _

  -- a local that holds a number, and stays of its kind if another number is put there
  pub number_agrees : (vs : List Value) (ls : List (Option Kind)) (i : ℕ) (ga : ℤ → Action) (gf : Flow) → FitsLocals p vs ls
      → ((n : ℤ) → ((m : ℤ) → FitsLocals p (slice_set vs i (value.Int m)) ls) → P gf (ga n)) → P (on_set (slice_get ls i) (λ k. where_true (is_int k) gf)) (on_number (int_in (slice_get vs i)) ga)
  number_agrees [] [] i ga gf fit h = none _
  number_agrees [] (k ∷ ks) i ga gf fit h = absurd fit
  number_agrees (v ∷ vs) [] i ga gf fit h = none _
  number_agrees (v ∷ vs) (None ∷ ks) zero ga gf fit h = none _
  number_agrees (v ∷ vs) (None ∷ ks) (suc i) ga gf fit h = number_agrees vs ks i ga gf fit h
  number_agrees (v ∷ vs) (Some k ∷ ks) (suc i) ga gf fit h = number_agrees vs ks i ga gf fit.1 (λ n keep. h n (λ m. (fit.0, keep m)))
  number_agrees (value.Int n ∷ vs) (Some kind.Int ∷ ks) zero ga gf fit h = h n (λ m. (refl, fit.1))
  number_agrees (value.Null ∷ vs) (Some kind.Int ∷ ks) zero ga gf fit h = absurd (false≢true fit.0)
  number_agrees (value.Obj id class ∷ vs) (Some kind.Int ∷ ks) zero ga gf fit h = absurd (false≢true (both (is_made (value.Obj id class)) false fit.0).1)
  number_agrees (value.Arr id len ∷ vs) (Some kind.Int ∷ ks) zero ga gf fit h = absurd (false≢true fit.0)
  number_agrees (value.Text n ∷ vs) (Some kind.Int ∷ ks) zero ga gf fit h = absurd (false≢true fit.0)
  number_agrees (value.Stream ∷ vs) (Some kind.Int ∷ ks) zero ga gf fit h = absurd (false≢true fit.0)
  number_agrees (v ∷ vs) (Some kind.Null ∷ ks) zero ga gf fit h = none _
  number_agrees (v ∷ vs) (Some (kind.Ref c) ∷ ks) zero ga gf fit h = none _
  number_agrees (v ∷ vs) (Some kind.Arr ∷ ks) zero ga gf fit h = none _
  number_agrees (v ∷ vs) (Some kind.Args ∷ ks) zero ga gf fit h = none _

  pub set_agrees : (vs : List Value) (ls : List (Option Kind)) (i : ℕ) (ga : Value → Action) (gf : Kind → Flow) → FitsLocals p vs ls
      → ((v : Value) (k : Kind) → is_of p v k ≡ true → P (gf k) (ga v)) → P (on_set (slice_get ls i) gf) (on_local (slice_get vs i) ga)
  set_agrees [] [] i ga gf fit h = none _
  set_agrees [] (k ∷ ks) i ga gf fit h = absurd fit
  set_agrees (v ∷ vs) [] i ga gf fit h = none _
  set_agrees (v ∷ vs) (None ∷ ks) zero ga gf fit h = none _
  set_agrees (v ∷ vs) (Some k ∷ ks) zero ga gf fit h = h v k fit.0
  set_agrees (v ∷ vs) (None ∷ ks) (suc i) ga gf fit h = set_agrees vs ks i ga gf fit h
  set_agrees (v ∷ vs) (Some k ∷ ks) (suc i) ga gf fit h = set_agrees vs ks i ga gf fit.1 h

  pub place_agrees : (vs : List Value) (ls : List (Option Kind)) (i : ℕ) (ga : Value → Action) (gf : Flow) → FitsLocals p vs ls
      → ((v : Value) → P gf (ga v)) → P (on_place (slice_get ls i) gf) (on_local (slice_get vs i) ga)
  place_agrees [] [] i ga gf fit h = none _
  place_agrees [] (k ∷ ks) i ga gf fit h = absurd fit
  place_agrees (v ∷ vs) [] i ga gf fit h = none _
  place_agrees (v ∷ vs) (None ∷ ks) zero ga gf fit h = h v
  place_agrees (v ∷ vs) (Some k ∷ ks) zero ga gf fit h = h v
  place_agrees (v ∷ vs) (None ∷ ks) (suc i) ga gf fit h = place_agrees vs ks i ga gf fit h
  place_agrees (v ∷ vs) (Some k ∷ ks) (suc i) ga gf fit h = place_agrees vs ks i ga gf fit.1 h

  pub declared_agrees : (o : Option Kind) (a : Action) (gf : Kind → Flow) → ((k : Kind) → o ≡ Some k → P (gf k) a) → P (on_declared o gf) a
  declared_agrees None a gf h = none a
  declared_agrees (Some k) a gf h = h k refl

-- operands that were taken, and stand for these kinds
pub record Taken (p : PlainProgram) (vs : List Value) (wanted : List Kind) (rest : List Value) (krest : List Kind) : Type 0 where
  pub values : List Value
  pub all : vs ≡ values ++ rest
  pub long : length values ≡ length wanted
  pub fit : FitsKinds p values wanted
  pub rest_fits : FitsKinds p rest krest

-- an action that doesn't take its operands itself
pub all_agree : (p : PlainProgram) (P : Flow → Action → Type 0) (none : (a : Action) → P Refused a) (wanted : List Kind) (vs : List Value) (ks : List Kind) (a : Action) (gf : List Kind → Flow)
    → FitsKinds p vs ks → ((rest : List Value) (krest : List Kind) → Taken p vs wanted rest krest → P (gf krest) a) → P (on_all p wanted ks gf) a
all_agree p P none [] vs ks a gf fit h = h vs ks (record { values = []; all = refl; long = refl; fit = tt; rest_fits = fit })
all_agree p P none (w ∷ wanted) [] [] a gf fit h = none a
all_agree p P none (w ∷ wanted) [] (k ∷ ks) a gf fit h = absurd fit
all_agree p P none (w ∷ wanted) (v ∷ vs) [] a gf fit h = absurd fit
all_agree p P none (w ∷ wanted) (v ∷ vs) (k ∷ ks) a gf fit h =
    true_agrees p P none (is_assignable (declarations_of p) k w) (on_all p wanted ks gf) a
    (λ t. all_agree p P none wanted vs ks a gf fit.1
    (λ rest krest taken. h rest krest (record {
      values = v ∷ taken.values;
      all = ap (λ (xs : List Value). v ∷ xs) taken.all;
      long = ap suc taken.long;
      fit = (of_assignable p v k w fit.0 t, taken.fit);
      rest_fits = taken.rest_fits;
    })))

pub store_fits : (p : PlainProgram) (vs : List Value) (ls : List (Option Kind)) (i : ℕ) (v : Value) (k : Kind) → FitsLocals p vs ls → is_of p v k ≡ true
    → FitsLocals p (slice_set vs i v) (slice_set ls i (Some k))
store_fits p [] [] i v k fit h = tt
store_fits p [] (l ∷ ls) i v k fit h = absurd fit
store_fits p (w ∷ vs) [] i v k fit h = absurd fit
store_fits p (w ∷ vs) (None ∷ ls) zero v k fit h = (h, fit)
store_fits p (w ∷ vs) (Some l ∷ ls) zero v k fit h = (h, fit.1)
store_fits p (w ∷ vs) (None ∷ ls) (suc i) v k fit h = store_fits p vs ls i v k fit h
store_fits p (w ∷ vs) (Some l ∷ ls) (suc i) v k fit h = (fit.0, store_fits p vs ls i v k fit.1 h)
