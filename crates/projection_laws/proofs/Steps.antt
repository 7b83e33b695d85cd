-- What one entry does to the threads: its own goes on by one, and each of the others stays where it was or begins.
use Rattle.std.proofs.Common.{◌≡◌, ◌≢◌, ℕ, zero, suc, ◌+◌, ◌-◌, ◌≤◌, Bool, true, false, List, [], ◌∷◌, ◌++◌, length, Option, Some, None, refl, arith, ap, sym, ◌∙◌, subst, cond}
use Rattle.std.specs.Prelude.{◌==◌, slice_get, slice_set}
use Rattle.std.proofs.lemmas.List.{length-set}
use Rattle.vm_model.specs.declared.value.ObjRef.{ObjRef}
use Rattle.vm_model.specs.declared.op.Entry.{Entry}
use Rattle.vm_model.specs.declared.op.Op.{Op}
use Rattle.vm_model.specs.declared.op.Op.TheVariants as op
use Rattle.vm_model.specs.declared.op.Reply.{Reply}
use Rattle.vm_model.specs.declared.op.Reply.TheVariants as reply
use Rattle.vm_model.specs.Program.{PlainProgram}
use Rattle.machine_model.specs.Frames.{LocalState}
use Rattle.machine_model.specs.LocalStep.{settled, pending_operation, absorb, first_of_thread}
use Rattle.machine_model.specs.Machine.{begun}
use Rattle.projection_laws.specs.Projections.{own, GoesAlone, GoesFrom, target_by, target_or, target_in, begun_for}
use Rattle.projection_laws.proofs.Places.{equal, unequal, same_self, differ, set_there, set_elsewhere, in_front, behind}

-- ---- where a thread stands before some entries

-- the state that it has, or the one in which they start it
abbrev pub state_or : PlainProgram → Option LocalState → Option ObjRef → Option LocalState
state_or p None target = begun_for p target
state_or p (Some l) target = Some l

abbrev pub first_from : PlainProgram → List LocalState → List Entry → ℕ → Option LocalState
first_from p ls h t = state_or p (slice_get ls t) (target_in h t)

-- the states after an entry of this thread, which stood at l
abbrev pub states_behind : PlainProgram → List LocalState → Entry → LocalState → List LocalState
states_behind p ls e l = slice_set ls e.thread (settled p (absorb p l e.op e.reply)) ++ begun p e.op e.reply

-- a thread that the entry starts is the next one
abbrev pub StartsNext : Entry → ℕ → Type 0
StartsNext e n = (target : ObjRef) (u : ℕ) → e.op ≡ op.Start target → e.reply ≡ reply.Began u → u ≡ n

-- ---- the thread of the entry

own_more : (t : ℕ) (b : Bool) (e : Entry) (es : List Entry) → b ≡ true → cond b (e ∷ own t es) (own t es) ≡ e ∷ own t es
own_more t true e es h = refl
own_more t false e es h = absurd (cc)

pub own_same : (e : Entry) (es : List Entry) → own e.thread (e ∷ es) ≡ e ∷ own e.thread es
own_same e es = own_more e.thread (e.thread == e.thread) e es (same_self e.thread)

own_less : (t : ℕ) (b : Bool) (e : Entry) (es : List Entry) → b ≡ false → cond b (e ∷ own t es) (own t es) ≡ own t es
own_less t true e es h = absurd (cc)
own_less t false e es h = refl

pub own_other : (t : ℕ) (e : Entry) (es : List Entry) → e.thread ≢ t → own t (e ∷ es) ≡ own t es
own_other t e es h = own_less t (e.thread == t) e es (differ e.thread t h)

stands_before : (p : PlainProgram) (ls : List LocalState) (h : List Entry) (t : ℕ) (l : LocalState) → slice_get ls t ≡ Some l → first_from p ls h t ≡ Some l
stands_before p ls h t l e = ap (λ (x : Option LocalState). state_or p x (target_in h t)) e

stands_behind : (p : PlainProgram) (ls : List LocalState) (e : Entry) (es : List Entry) (l : LocalState) → slice_get ls e.thread ≡ Some l → first_from p (states_behind p ls e l) es e.thread ≡ Some (settled p (absorb p l e.op e.reply))
stands_behind p ls e es l at =
    stands_before p (states_behind p ls e l) es e.thread (settled p (absorb p l e.op e.reply))
    (in_front (slice_set ls e.thread (settled p (absorb p l e.op e.reply))) (begun p e.op e.reply) e.thread _ (set_there ls e.thread l (settled p (absorb p l e.op e.reply)) at))

-- ---- the other threads

started_if : (p : PlainProgram) (target : ObjRef) (other : Option ObjRef) (n k : ℕ) → state_or p (slice_get (settled p (first_of_thread p target) ∷ []) k) other ≡ begun_for p (target_or (cond (n == n + k) (Some target) None) other)
started_if p target other n zero = let same : (n == n + 0) ≡ true = rw_same n in rw same refl
  where
    rw_same : (n : ℕ) → (n == n + 0) ≡ true
    rw_same n = subst (λ (m : ℕ). (n == m) ≡ true) (omega arith) (same_self n)
started_if p target other n (suc k) = let apart : (n == n + suc k) ≡ false = differ n (n + suc k) (λ e. omega (arith, e)) in rw apart refl

-- after the states that were there stands the thread that is started
started_so : (p : PlainProgram) (o : Op) (r : Reply) (other : Option ObjRef) (n k : ℕ) → ((target : ObjRef) (u : ℕ) → o ≡ op.Start target → r ≡ reply.Began u → u ≡ n) → state_or p (slice_get (begun p o r) k) other ≡ begun_for p (target_or (target_by o r (n + k)) other)
started_so p (op.Start target) (reply.Began u) other n k next =
    started_if p target other n k ∙ ap (λ (m : ℕ). begun_for p (target_or (cond (m == n + k) (Some target) None) other)) (sym (next target u refl refl))
started_so p (op.Start target) reply.Unit other n k next = refl
started_so p (op.Start target) (reply.Got v) other n k next = refl
started_so p (op.Start target) (reply.Made v) other n k next = refl
started_so p (op.Start target) (reply.Waits count) other n k next = refl
started_so p (op.Start target) (reply.Raise kind) other n k next = refl
started_so p _ r other n k next = refl

stands_elsewhere : (p : PlainProgram) (ls : List LocalState) (e : Entry) (es : List Entry) (l : LocalState) (t : ℕ) → StartsNext e (length ls) → e.thread ≢ t → first_from p (states_behind p ls e l) es t ≡ first_from p ls (e ∷ es) t
stands_elsewhere p ls e es l t next apart = by_place (slice_get ls t) refl
  where
    set : List LocalState
    set = slice_set ls e.thread (settled p (absorb p l e.op e.reply))

    by_place : (x : Option LocalState) → slice_get ls t ≡ x → first_from p (set ++ begun p e.op e.reply) es t ≡ first_from p ls (e ∷ es) t
    by_place (Some m) at =
        stands_before p (set ++ begun p e.op e.reply) es t m (in_front set (begun p e.op e.reply) t m (set_elsewhere ls e.thread t (settled p (absorb p l e.op e.reply)) apart ∙ at))
        ∙ sym (stands_before p ls (e ∷ es) t m at)
    by_place None at =
        let long : length ls ≤ t = past ls t at in
        let size : length set ≡ length ls = length-set ls e.thread (settled p (absorb p l e.op e.reply)) in
        let place : length ls + (t - length ls) ≡ t = omega (arith, long) in
        let there : slice_get (set ++ begun p e.op e.reply) t ≡ slice_get (begun p e.op e.reply) (t - length ls) =
        ap (slice_get (set ++ begun p e.op e.reply)) (omega (arith, long, size)) ∙ behind set (begun p e.op e.reply) (t - length ls) in
        ap (λ (x : Option LocalState). state_or p x (target_in es t)) there
        ∙ started_so p e.op e.reply (target_in es t) (length ls) (t - length ls) next
        ∙ ap (λ (n : ℕ). begun_for p (target_or (target_by e.op e.reply n) (target_in es t))) place
        ∙ sym (ap (λ (x : Option LocalState). state_or p x (target_in (e ∷ es) t)) at)
      where
        past : (xs : List LocalState) (i : ℕ) → slice_get xs i ≡ None → length xs ≤ i
        past [] i e' = omega arith
        past (x ∷ xs) zero e' = absurd (cc)
        past (x ∷ xs) (suc i) e' = omega (arith, past xs i e')

-- ---- both

-- where the entries from this one on lead a thread, those after it lead it too
pub go_behind : (p : PlainProgram) (ls : List LocalState) (e : Entry) (es : List Entry) (l : LocalState) (t : ℕ) (end : LocalState) → slice_get ls e.thread ≡ Some l → StartsNext e (length ls)
    → GoesFrom p (first_from p ls (e ∷ es) t) (own t (e ∷ es)) end → GoesFrom p (first_from p (states_behind p ls e l) es t) (own t es) end
go_behind p ls e es l t end at next goes = by_thread (e.thread == t) refl
  where
    by_thread : (b : Bool) → (e.thread == t) ≡ b → GoesFrom p (first_from p (states_behind p ls e l) es t) (own t es) end
    by_thread true same =
        let is : e.thread ≡ t = equal e.thread t same in
        subst (λ (u : ℕ). GoesFrom p (first_from p (states_behind p ls e l) es u) (own u es) end) is
        (subst (λ (x : Option LocalState). GoesFrom p x (own e.thread es) end) (sym (stands_behind p ls e es l at))
        (here is).1)
      where
        here : e.thread ≡ t → GoesAlone p l (e ∷ own e.thread es) end
        here is =
            subst (λ (xs : List Entry). GoesFrom p (Some l) xs end) (own_same e es)
            (subst (λ (x : Option LocalState). GoesFrom p x (own e.thread (e ∷ es)) end) (stands_before p ls (e ∷ es) e.thread l at)
            (subst (λ (u : ℕ). GoesFrom p (first_from p ls (e ∷ es) u) (own u (e ∷ es)) end) (sym is) goes))
    by_thread false other =
        let apart : e.thread ≢ t = unequal e.thread t other in
        subst (λ (x : Option LocalState). GoesFrom p x (own t es) end) (sym (stands_elsewhere p ls e es l t next apart))
        (subst (λ (xs : List Entry). GoesFrom p (first_from p ls (e ∷ es) t) xs end) (own_other t e es apart) goes)

-- the operation of the entry is what its thread asks for
pub go_asks : (p : PlainProgram) (ls : List LocalState) (e : Entry) (es : List Entry) (l end : LocalState) → slice_get ls e.thread ≡ Some l
    → GoesFrom p (first_from p ls (e ∷ es) e.thread) (own e.thread (e ∷ es)) end → pending_operation p l ≡ Some e.op
go_asks p ls e es l end at goes =
    (subst (λ (xs : List Entry). GoesFrom p (Some l) xs end) (own_same e es)
    (subst (λ (x : Option LocalState). GoesFrom p x (own e.thread (e ∷ es)) end) (stands_before p ls (e ∷ es) e.thread l at) goes)).0

-- and the other way round, where its thread asks for the operation of the entry
pub go_before : (p : PlainProgram) (ls : List LocalState) (e : Entry) (es : List Entry) (l : LocalState) (t : ℕ) (end : LocalState) → slice_get ls e.thread ≡ Some l → StartsNext e (length ls) → pending_operation p l ≡ Some e.op
    → GoesFrom p (first_from p (states_behind p ls e l) es t) (own t es) end → GoesFrom p (first_from p ls (e ∷ es) t) (own t (e ∷ es)) end
go_before p ls e es l t end at next asks goes = by_thread (e.thread == t) refl
  where
    by_thread : (b : Bool) → (e.thread == t) ≡ b → GoesFrom p (first_from p ls (e ∷ es) t) (own t (e ∷ es)) end
    by_thread true same =
        let is : e.thread ≡ t = equal e.thread t same in
        subst (λ (u : ℕ). GoesFrom p (first_from p ls (e ∷ es) u) (own u (e ∷ es)) end) is
        (subst (λ (x : Option LocalState). GoesFrom p x (own e.thread (e ∷ es)) end) (sym (stands_before p ls (e ∷ es) e.thread l at))
        (subst (λ (xs : List Entry). GoesFrom p (Some l) xs end) (sym (own_same e es)) (asks, here is)))
      where
        here : e.thread ≡ t → GoesAlone p (settled p (absorb p l e.op e.reply)) (own e.thread es) end
        here is =
            subst (λ (x : Option LocalState). GoesFrom p x (own e.thread es) end) (stands_behind p ls e es l at)
            (subst (λ (u : ℕ). GoesFrom p (first_from p (states_behind p ls e l) es u) (own u es) end) (sym is) goes)
    by_thread false other =
        let apart : e.thread ≢ t = unequal e.thread t other in
        subst (λ (x : Option LocalState). GoesFrom p x (own t (e ∷ es)) end) (stands_elsewhere p ls e es l t next apart)
        (subst (λ (xs : List Entry). GoesFrom p (first_from p (states_behind p ls e l) es t) xs end) (sym (own_other t e es apart)) goes)
