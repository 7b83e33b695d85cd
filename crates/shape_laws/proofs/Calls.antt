-- Calls agree with what they do to a shape.
use Rattle.std.proofs.Common.{◌≡◌, ℕ, suc, ◌+◌, ◌-◌, ◌≤◌, Bool, true, false, List, [], ◌∷◌, ◌++◌, length, take, drop, reverse, Option, Some, None, refl, sym, ◌∙◌, ap, subst, arith, ◌⊎◌, inl, inr, ⊎_elim}
use Rattle.std.specs.Prelude.{◌==◌, ◌&&◌, ◌||◌, not, nat_le, slice_get, is_some, is_none, IfSome, unwrap_or}
use Rattle.std.specs.List.{list_any}
use Rattle.std.proofs.lemmas.Bool.{false≢true}
use Rattle.std.proofs.lemmas.Bool.Decides.{nat_tests}
use Rattle.std.proofs.lemmas.List.{reverse-append, length-reverse, length-append}
use Rattle.std.proofs.Math.Seq.{take-append_seam, drop-append_seam}
use Rattle.vm_model.specs.declared.value.Value.{Value}
use Rattle.vm_model.specs.declared.value.Value.TheVariants as value
use Rattle.vm_model.specs.declared.value.Lock.TheVariants as lock
use Rattle.vm_model.specs.declared.value.Kind.{Kind}
use Rattle.vm_model.specs.declared.value.Kind.TheVariants as kind
use Rattle.vm_model.specs.Program.{PlainClass, PlainMethod, PlainProgram, arity_of, method_at}
use Rattle.machine_model.specs.Declarations.{Declarations, declarations_of, class_at}
use Rattle.machine_model.specs.Kinds.{extends, is_assignable, chain, is_runnable, is_runnable_class}
use Rattle.machine_model.specs.Frames.{Frame}
use Rattle.machine_model.specs.Operands.{Action, Calls, on_any, on_local, top_of, as_object}
use Rattle.machine_model.specs.Effect.{calls_static, calls_on, own_run, run_method, lock_if}
use Rattle.machine_model.specs.LocalStep.{with_given}
use Rattle.machine_model.specs.Shapes.{Shape, Next, flow_call, is_called_so, on_assignable, parameters, receiver_of, where_true, with_kind, with_stack}
use Rattle.shape_laws.specs.Fitting.{has_objects, is_of, FitsKinds, FitsShape}
use Rattle.shape_laws.specs.States.{GivenFits}
use Rattle.shape_laws.specs.Linked.{is_run_method, has_thread_run, IsWellLinked}
use Rattle.shape_laws.proofs.Tests.{both, same, either, on_left, joined}
use Rattle.shape_laws.proofs.Supers.{of_runnable, thread_class_extends, extends_itself}
use Rattle.shape_laws.proofs.BuiltIns.{is_object_class, IsObjectOf, object_agrees, own_class}
use Rattle.shape_laws.proofs.Taking.{of_assignable}
use Rattle.shape_laws.proofs.Operands.{Taken, all_agree, such_agrees, true_agrees}
use Rattle.shape_laws.proofs.Agreement.{Agrees, CallFits}

-- ---- lists of values

pub fits_long : (p : PlainProgram) (vs : List Value) (ks : List Kind) → FitsKinds p vs ks → length vs ≡ length ks
fits_long p [] [] fit = refl
fits_long p [] (k ∷ ks) fit = absurd fit
fits_long p (v ∷ vs) [] fit = absurd fit
fits_long p (v ∷ vs) (k ∷ ks) fit = ap suc (fits_long p vs ks fit.1)

fits_both : (p : PlainProgram) (vs ws : List Value) (ks ls : List Kind) → FitsKinds p vs ks → FitsKinds p ws ls → FitsKinds p (vs ++ ws) (ks ++ ls)
fits_both p [] ws [] ls f g = g
fits_both p [] ws (k ∷ ks) ls f g = absurd f
fits_both p (v ∷ vs) ws [] ls f g = absurd f
fits_both p (v ∷ vs) ws (k ∷ ks) ls f g = (f.0, fits_both p vs ws ks ls f.1 g)

-- the last one comes first
pub fits_reverse : (p : PlainProgram) (vs : List Value) (ks : List Kind) → FitsKinds p vs ks → FitsKinds p (reverse vs) (reverse ks)
fits_reverse p [] [] f = tt
fits_reverse p [] (k ∷ ks) f = absurd f
fits_reverse p (v ∷ vs) [] f = absurd f
fits_reverse p (v ∷ vs) (k ∷ ks) f = rw (reverse-append (v ∷ []) vs, reverse-append (k ∷ []) ks) (fits_both p (reverse vs) (v ∷ []) (reverse ks) (k ∷ []) (fits_reverse p vs ks f.1) (f.0, tt))

reverse_twice : (ks : List Kind) → reverse (reverse ks) ≡ ks
reverse_twice [] = refl
reverse_twice (k ∷ ks) = ap reverse (reverse-append (k ∷ []) ks) ∙ reverse-append (reverse ks) (k ∷ []) ∙ ap (λ (xs : List Kind). k ∷ xs) (reverse_twice ks)

-- the value after those of the first kinds
value_after : (p : PlainProgram) (vs rest : List Value) (ks : List Kind) (k : Kind) → FitsKinds p vs (ks ++ k ∷ []) → (v : Value) × (slice_get (vs ++ rest) (length ks) ≡ Some v) × (is_of p v k ≡ true)
value_after p [] rest [] k f = absurd f
value_after p [] rest (l ∷ ks) k f = absurd f
value_after p (v ∷ vs) rest [] k f = (v, refl, f.0)
value_after p (v ∷ vs) rest (l ∷ ks) k f = value_after p vs rest ks k f.1

-- ---- a call that finds its operands

given_stack : (p : PlainProgram) (given : Option Value) (gives : Option Kind) (rest : List Value) (krest : List Kind) → GivenFits p given gives → FitsKinds p rest krest → FitsKinds p (with_given given rest) (with_kind gives krest)
given_stack p None None rest krest g fit = fit
given_stack p None (Some k) rest krest g fit = absurd g
given_stack p (Some v) None rest krest g fit = absurd g
given_stack p (Some v) (Some k) rest krest g fit = (g, fit)

pub call_fits : (p : PlainProgram) (f : Frame) (s : Shape) (callee : ℕ) (m : PlainMethod) (values rest : List Value) (krest : List Kind) → FitsShape p s f → method_at p callee ≡ Some m
    → f.stack ≡ values ++ rest → length values ≡ arity_of m → FitsKinds p (reverse values) (parameters m) → FitsKinds p rest krest → CallFits p f (with_stack s (with_kind m.gives krest)) callee
call_fits p f s callee m values rest krest fit is all long arguments more = record {
  method = m;
  is = is;
  arguments = subst (λ (vs : List Value). FitsKinds p (reverse vs) (parameters m)) (sym taken) arguments;
  behind = λ given g. record { stack = subst (λ (vs : List Value). FitsKinds p (with_given given vs) (with_kind m.gives krest)) (sym dropped) (given_stack p given m.gives rest krest g more); locals = fit.locals };
}
  where
    taken : take (arity_of m) f.stack ≡ values
    taken = ap (λ (n : ℕ). take n f.stack) (sym long) ∙ ap (take (length values)) all ∙ take-append_seam values rest

    dropped : drop (arity_of m) f.stack ≡ rest
    dropped = ap (λ (n : ℕ). drop n f.stack) (sym long) ∙ ap (drop (length values)) all ∙ drop-append_seam values rest

-- ---- static methods

static_parameters : (m : PlainMethod) → m.is_static ≡ true → parameters m ≡ m.params
static_parameters m e = rw e refl

static_arity : (m : PlainMethod) → m.is_static ≡ true → arity_of m ≡ length m.params
static_arity m e = rw e refl

append_none : (ks : List Kind) → ks ++ [] ≡ ks
append_none [] = refl
append_none (k ∷ ks) = ap (λ (xs : List Kind). k ∷ xs) (append_none ks)

enough : (a b : ℕ) → a ≤ b → nat_le a b ≡ true
enough a b h = grind (arith, nat_tests)

pub static_agrees : (p : PlainProgram) (f : Frame) (s : Shape) (callee : ℕ) (o : Option PlainMethod) → method_at p callee ≡ o → FitsShape p s f
    → Agrees p f (where_true (is_called_so true o) (flow_call p [] o s)) (calls_static callee o f.stack)
static_agrees p f s callee None is fit = tt
static_agrees p f s callee (Some m) is fit =
    true_agrees p (Agrees p f) (λ _. tt) m.is_static (flow_call p [] (Some m) s) (calls_static callee (Some m) f.stack)
    (λ static. all_agree p (Agrees p f) (λ _. tt) (reverse m.params ++ []) f.stack s.stack (calls_static callee (Some m) f.stack) (λ rest. Next (with_stack s (with_kind m.gives rest))) fit.stack (found static))
  where
    found : m.is_static ≡ true → (rest : List Value) (krest : List Kind) → Taken p f.stack (reverse m.params ++ []) rest krest → Agrees p f (Next (with_stack s (with_kind m.gives krest))) (calls_static callee (Some m) f.stack)
    found static rest krest taken =
        let long : length taken.values ≡ length m.params = taken.long ∙ ap length (append_none (reverse m.params)) ∙ length-reverse m.params in
        let whole : length f.stack ≡ length taken.values + length rest = ap length taken.all ∙ length-append taken.values rest in
        let fits = subst (λ (ks : List Kind). FitsKinds p (reverse taken.values) ks) (ap reverse (append_none (reverse m.params)) ∙ reverse_twice m.params ∙ sym (static_parameters m static)) (fits_reverse p taken.values (reverse m.params ++ []) taken.fit) in
        rw (enough (length m.params) (length f.stack) (omega arith))
        (call_fits p f s callee m taken.values rest krest fit is taken.all (long ∙ sym (static_arity m static)) fits taken.rest_fits)

-- ---- methods with a receiver

own_parameters : (m : PlainMethod) → m.is_static ≡ false → parameters m ≡ kind.Ref m.class ∷ m.params
own_parameters m e = rw e refl

own_arity : (m : PlainMethod) → m.is_static ≡ false → arity_of m ≡ length m.params + 1
own_arity m e = rw e refl

not_static : (b : Bool) → not b ≡ true → b ≡ false
not_static true e = absurd (false≢true e)
not_static false e = refl

pub on_agrees : (p : PlainProgram) (f : Frame) (s : Shape) (callee : ℕ) (o : Option PlainMethod) → method_at p callee ≡ o → ((m : PlainMethod) → o ≡ Some m → m.is_static ≡ false → (m.class == 1 || nat_le 32 m.class) ≡ true) → FitsShape p s f
    → Agrees p f (where_true (is_called_so false o) (flow_call p (receiver_of o) o s)) (calls_on callee o f.stack)
on_agrees p f s callee None is linked fit = tt
on_agrees p f s callee (Some m) is linked fit =
    true_agrees p (Agrees p f) (λ _. tt) (not m.is_static) (flow_call p (kind.Ref m.class ∷ []) (Some m) s) (calls_on callee (Some m) f.stack)
    (λ own. all_agree p (Agrees p f) (λ _. tt) (reverse m.params ++ kind.Ref m.class ∷ []) f.stack s.stack (calls_on callee (Some m) f.stack) (λ rest. Next (with_stack s (with_kind m.gives rest))) fit.stack
    (found (not_static m.is_static own)))
  where
    found : m.is_static ≡ false → (rest : List Value) (krest : List Kind) → Taken p f.stack (reverse m.params ++ kind.Ref m.class ∷ []) rest krest → Agrees p f (Next (with_stack s (with_kind m.gives krest))) (calls_on callee (Some m) f.stack)
    found own rest krest taken =
        let receiver = value_after p taken.values rest (reverse m.params) (kind.Ref m.class) taken.fit in
        let there : slice_get f.stack (length m.params) ≡ Some receiver.0 = ap (λ (n : ℕ). slice_get f.stack n) (sym (length-reverse m.params)) ∙ ap (λ (vs : List Value). slice_get vs (length (reverse m.params))) taken.all ∙ receiver.1 in
        let long : length taken.values ≡ arity_of m = taken.long ∙ length-append (reverse m.params) (kind.Ref m.class ∷ []) ∙ ap (λ (n : ℕ). n + 1) (length-reverse m.params) ∙ sym (own_arity m own) in
        let kinds : reverse (reverse m.params ++ kind.Ref m.class ∷ []) ≡ parameters m = reverse-append (reverse m.params) (kind.Ref m.class ∷ []) ∙ ap (λ (ks : List Kind). kind.Ref m.class ∷ ks) (reverse_twice m.params) ∙ sym (own_parameters m own) in
        let fits = subst (λ (ks : List Kind). FitsKinds p (reverse taken.values) ks) kinds (fits_reverse p taken.values (reverse m.params ++ kind.Ref m.class ∷ []) taken.fit) in
        subst (λ (x : Option Value). Agrees p f (Next (with_stack s (with_kind m.gives krest))) (on_local x (λ v. as_object v (λ o. Calls callee (lock_if m.is_synchronized (lock.Object o.id)))))) (sym there)
        (object_agrees p (Agrees p f) (Next (with_stack s (with_kind m.gives krest))) tt m.class receiver.0 (λ o. Calls callee (lock_if m.is_synchronized (lock.Object o.id)))
        (own_class m.class (linked m refl own)) receiver.2
        (λ id class e of. call_fits p f s callee m taken.values rest krest fit is taken.all long fits taken.rest_fits))

-- ---- run by the object's class

-- `run()V` of this class
pub record IsRunMethod (class : ℕ) (m : PlainMethod) : Type 0 where
  pub class_is : m.class ≡ class
  pub is_method : m.is_static ≡ false
  pub params : m.params ≡ []
  pub gives : m.gives ≡ None

-- the method that runs, which the object may be the receiver of
pub record RunsBy (p : PlainProgram) (class : ℕ) : Type 0 where
  pub method : PlainMethod
  pub is : method_at p (run_method p class) ≡ Some method
  pub run : IsRunMethod method.class method
  pub receiver : extends (declarations_of p) class method.class ≡ true

-- what the test says of a method
run_method_is : (class : ℕ) (m : PlainMethod) → is_run_method class (Some m) ≡ true → IsRunMethod class m
run_method_is class m h =
    let all = both (m.class == class && not m.is_static && length m.params == 0) (is_none m.gives) h in
    let three = both (m.class == class && not m.is_static) (length m.params == 0) all.0 in
    let two = both (m.class == class) (not m.is_static) three.0 in
    record { class_is = same m.class class two.0; is_method = not_static m.is_static two.1; params = no_kinds m.params three.1; gives = nothing m.gives all.1 }
  where
    no_kinds : (ks : List Kind) → (length ks == 0) ≡ true → ks ≡ []
    no_kinds [] e = refl
    no_kinds (k ∷ ks) e = let none : suc (length ks) ≡ 0 = same (suc (length ks)) 0 e in absurd (omega arith)

    nothing : (o : Option Kind) → is_none o ≡ true → o ≡ None
    nothing None e = refl
    nothing (Some k) e = absurd (false≢true e)

abbrev IsRunAt : PlainProgram → ℕ → ℕ → Type 0
IsRunAt p class method = is_run_method class (method_at p method) ≡ true

run_at : (p : PlainProgram) (class number n : ℕ) → IsRunAt p number n → run_method p class ≡ n → extends (declarations_of p) class number ≡ true → RunsBy p class
run_at p class number n is e under = by (method_at p n) refl is
  where
    by : (o : Option PlainMethod) → method_at p n ≡ o → is_run_method number o ≡ true → RunsBy p class
    by None there is' = absurd (false≢true is')
    by (Some m) there is' =
        let run = run_method_is number m is' in
        record {
          method = m;
          is = ap (method_at p) e ∙ there;
          run = record { class_is = refl; is_method = run.is_method; params = run.params; gives = run.gives };
          receiver = subst (λ (c : ℕ). extends (declarations_of p) class c ≡ true) (sym run.class_is) under;
        }

pub run_by : (p : PlainProgram) → IsWellLinked p → has_thread_run p ≡ true → (class : ℕ) → has_objects class ≡ true → ((extends (declarations_of p) class 1 ≡ true) ⊎ (extends (declarations_of p) class 2 ≡ true)) → RunsBy p class
run_by p linked runs class made under = by (class_at (declarations_of p) class) refl
  where
    d : Declarations
    d = declarations_of p

    by_run : (c : PlainClass) → class_at d class ≡ Some c → (o : Option ℕ) → c.run ≡ o → IfSome o (λ method. IsRunAt p class method) → (o ≡ None → extends d class 1 ≡ true) → RunsBy p class
    by_run c at None none own thread = run_at p class 1 (length p.methods - 1) runs (ap (λ (x : Option PlainClass). unwrap_or (own_run x) (length p.methods - 1)) at ∙ ap (λ (x : Option ℕ). unwrap_or x (length p.methods - 1)) none) (thread refl)
    by_run c at (Some n) some own thread = run_at p class class n own (ap (λ (x : Option PlainClass). unwrap_or (own_run x) (length p.methods - 1)) at ∙ ap (λ (x : Option ℕ). unwrap_or x (length p.methods - 1)) some) (extends_itself d class)

    -- a class that may stand for Runnable, and has no run of its own, extends Thread
    through : (o : Option PlainClass) → class_at d class ≡ o → (is_runnable o ≡ true → extends d class 1 ≡ true) → extends d class 1 ≡ true
    through o at runnable =
        ⊎_elim (λ a. a)
        (λ b. ⊎_elim (λ c. absurd (false≢true (subst (λ (x : ℕ). has_objects x ≡ true) (of_runnable d class c) made)))
        (λ c. ⊎_elim (λ one. subst (λ (x : ℕ). extends d x 1 ≡ true) (sym (same class 1 one)) (extends_itself d 1)) (λ r. runnable (ap is_runnable (sym at) ∙ r)) (either (class == 1) (is_runnable (class_at d class)) c))
        (either (list_any (λ s. s == 2) (chain d class)) (is_runnable_class d class) b))
        under

    by_thread : (c : PlainClass) → class_at d class ≡ Some c → c.run ≡ None → (b : Bool) → c.is_thread ≡ b → is_runnable (Some c) ≡ true → extends d class 1 ≡ true
    by_thread c at none true e r = thread_class_extends d class c at e
    by_thread c at none false e r =
        let is_own : c.is_runnable ≡ true = ⊎_elim (λ a. a) (λ a. absurd (false≢true (sym e ∙ a))) (either c.is_runnable c.is_thread r) in
        absurd (false≢true (sym (ap is_some none) ∙ (linked.classes class c at).runnable is_own e))

    by : (o : Option PlainClass) → class_at d class ≡ o → RunsBy p class
    by None at = run_at p class 1 (length p.methods - 1) runs (ap (λ (x : Option PlainClass). unwrap_or (own_run x) (length p.methods - 1)) at) (through None at (λ r. absurd (false≢true r)))
    by (Some c) at =
        by_run c at c.run refl (linked.classes class c at).run (λ none. through (Some c) at (λ r. by_thread c at none c.is_thread refl r))

pub run_agrees : (p : PlainProgram) (f : Frame) (s : Shape) (class : ℕ) → IsWellLinked p → ((class == 1 || class == 2) && has_thread_run p) ≡ true → FitsShape p s f
    → Agrees p f (on_assignable p (kind.Ref class) s.stack (λ rest. Next (with_stack s rest)))
    (on_any (top_of f.stack) (λ v rest. as_object v (λ o. calls_on (run_method p o.class) (method_at p (run_method p o.class)) f.stack)))
run_agrees p f s class linked known fit =
    such_agrees p (Agrees p f) (λ _. tt) (λ k. is_assignable (declarations_of p) k (kind.Ref class)) f.stack s.stack
    (λ v rest. as_object v (λ o. calls_on (run_method p o.class) (method_at p (run_method p o.class)) f.stack)) (λ rest. Next (with_stack s rest)) fit.stack
    (λ v rest k krest e t g more.
    object_agrees p (Agrees p f) (Next (with_stack s krest)) tt class v (λ o. calls_on (run_method p o.class) (method_at p (run_method p o.class)) f.stack) plain_class (of_assignable p v k (kind.Ref class) g t)
    (λ id c is of. called id c rest krest (e ∙ ap (λ (x : Value). x ∷ rest) is) of more))
  where
    which : (class == 1 || class == 2) ≡ true
    which = (both (class == 1 || class == 2) (has_thread_run p) known).0

    plain_class : is_object_class class ≡ true
    plain_class = ⊎_elim (λ a. subst (λ (x : ℕ). is_object_class x ≡ true) (sym (same class 1 a)) refl) (λ a. subst (λ (x : ℕ). is_object_class x ≡ true) (sym (same class 2 a)) refl) (either (class == 1) (class == 2) which)

    runs : (c : ℕ) → IsObjectOf p class c → RunsBy p c
    runs c of =
        run_by p linked (both (class == 1 || class == 2) (has_thread_run p) known).1 c of.made
        (⊎_elim (λ a. inl (subst (λ (x : ℕ). extends (declarations_of p) c x ≡ true) (same class 1 a) of.under)) (λ a. inr (subst (λ (x : ℕ). extends (declarations_of p) c x ≡ true) (same class 2 a) of.under)) (either (class == 1) (class == 2) which))

    called : (id c : ℕ) (rest : List Value) (krest : List Kind) → f.stack ≡ value.Obj id c ∷ rest → IsObjectOf p class c → FitsKinds p rest krest
        → Agrees p f (Next (with_stack s krest)) (calls_on (run_method p c) (method_at p (run_method p c)) f.stack)
    called id c rest krest e of more =
        let r = runs c of in
        let m = r.method in
        let so : calls_on (run_method p c) (method_at p (run_method p c)) f.stack ≡ Calls (run_method p c) (lock_if m.is_synchronized (lock.Object id))
        = ap (λ (o : Option PlainMethod). calls_on (run_method p c) o f.stack) r.is
        ∙ ap (λ (ks : List Kind). on_local (slice_get f.stack (length ks)) (λ v. as_object v (λ o. Calls (run_method p c) (lock_if m.is_synchronized (lock.Object o.id))))) r.run.params
        ∙ ap (λ (vs : List Value). on_local (slice_get vs 0) (λ v. as_object v (λ o. Calls (run_method p c) (lock_if m.is_synchronized (lock.Object o.id))))) e in
        let kinds : parameters m ≡ kind.Ref m.class ∷ [] = own_parameters m r.run.is_method ∙ ap (λ (ks : List Kind). kind.Ref m.class ∷ ks) r.run.params in
        let long : 1 ≡ arity_of m = sym (own_arity m r.run.is_method ∙ ap (λ (ks : List Kind). length ks + 1) r.run.params) in
        let receiver : is_of p (value.Obj id c) (kind.Ref m.class) ≡ true = joined (has_objects c) _ of.made (on_left (extends (declarations_of p) c m.class) false r.receiver) in
        let whole = call_fits p f s (run_method p c) m (value.Obj id c ∷ []) rest krest fit r.is e long (subst (λ (ks : List Kind). FitsKinds p (value.Obj id c ∷ []) ks) (sym kinds) (receiver, tt)) more in
        subst (λ (a : Action). Agrees p f (Next (with_stack s krest)) a) (sym so)
        (subst (λ (g : Option Kind). CallFits p f (with_stack s (with_kind g krest)) (run_method p c)) r.run.gives whole)
