-- The clocks that the entries give and take tell the order.
use Rattle.std.proofs.Common.{◌≡◌, ℕ, ◌+◌, ◌<◌, ◌≤◌, ◌↔◌, true, false, List, Some, refl, sym, ◌∙◌, ap, arith, inl, inr, subst}
use Rattle.std.proofs.lemmas.Bool.{cases_eq, cases_lt, lt-ltb, ltb-true}
use Rattle.std.specs.Prelude.{nat_lt, slice_get, Option}
use Rattle.vm_model.specs.declared.op.Entry.{Entry}
use Rattle.vm_model.specs.declared.op.Op.{Op}
use Rattle.vm_model.specs.declared.op.Op.TheVariants as op
use Rattle.vm_model.specs.declared.op.Reply.{Reply}
use Rattle.vm_model.specs.declared.op.Reply.TheVariants as reply
use Rattle.vm_model.specs.declared.value.Lock.{Lock}
use Rattle.vm_model.specs.declared.value.Lock.TheVariants as lock
use Rattle.race_report.specs.declared.owner.ClockOwner.{ClockOwner}
use Rattle.race_report.specs.declared.owner.ClockOwner.TheVariants as owner
use Rattle.race_report.specs.Clocks.{Times, time}
use Rattle.race_report.specs.HappensBefore.{released, acquired, WasStarted, Orders, Program, Unlock, Start, Join, IsDirectlyBefore, HappensBefore, Directly, Through}
use Rattle.race_report.specs.Knowledge.{owner_of_lock, taken, given, Takes, Gives, ToThread, ToOwner, ToTarget, AtOrBefore, IsClockOf, WasGiven, AreClocks, IsTaken, AreGiven}

-- what an operation takes is a lock's clock or that of a joined object
pub data TakesBy (o : Op) (c : ClockOwner) : Type 0 where
  ByLock : (l : Lock) → acquired o ≡ Some l → c ≡ owner_of_lock l → TakesBy o c
  ByJoin : (object : ℕ) → o ≡ op.Join object → c ≡ owner.Target object → TakesBy o c

some_same : (x y : ClockOwner) → ◌≡◌ {A = Option ClockOwner} (Some x) (Some y) → y ≡ x
some_same x y e = cc

pub takes_by : (o : Op) (c : ClockOwner) → taken o ≡ Some c → TakesBy o c
takes_by (op.Enter l) c e = ByLock l refl (some_same _ _ e)
takes_by (op.Resume l count) c e = ByLock l refl (some_same _ _ e)
takes_by (op.Join obj) c e = ByJoin obj refl (some_same _ _ e)
takes_by o c e = cc

pub data GivesBy (o : Op) (r : Reply) (c : ClockOwner) : Type 0 where
  ByUnlock : (l : Lock) → released o r ≡ Some l → c ≡ owner_of_lock l → GivesBy o r c
  ByStart : (object class thread : ℕ) → o ≡ op.Start (record { id = object; class = class }) → r ≡ reply.Began thread → c ≡ owner.Thread thread → GivesBy o r c

pub gives_by : (o : Op) (r : Reply) (c : ClockOwner) → given o r ≡ Some c → GivesBy o r c
gives_by (op.Exit l) reply.Unit c e = ByUnlock l refl (some_same _ _ e)
gives_by (op.Wait l) (reply.Waits count) c e = ByUnlock l refl (some_same _ _ e)
gives_by (op.Start target) (reply.Began thread) c e = ByStart target.id target.class thread refl refl (some_same _ _ e)
gives_by o r c e = cc

-- the two cuts of a direct order are one: an owner to whom the earlier entry gives, and from whom the later one takes
pub gives_and_takes : (history : List Entry) (position : ℕ) (e f : Entry) → Orders history position e f → (c : ClockOwner) × Gives history position e c × Takes f c
gives_and_takes history position e f (Program same) = (owner.Thread e.thread, ToThread refl, inl (ap owner.Thread same))
gives_and_takes history position e f (Unlock l out into) = (owner_of_lock l, ToOwner (unlock_gives e.op e.reply l out), inr (lock_takes f.op l into))
  where
    unlock_gives : (o : Op) (r : Reply) (l : Lock) → released o r ≡ Some l → given o r ≡ Some (owner_of_lock l)
    unlock_gives (op.Exit k) reply.Unit l e = cc
    unlock_gives (op.Wait k) (reply.Waits count) l e = cc
    unlock_gives o r l e = cc

    lock_takes : (o : Op) (l : Lock) → acquired o ≡ Some l → taken o ≡ Some (owner_of_lock l)
    lock_takes (op.Enter k) l e = cc
    lock_takes (op.Resume k count) l e = cc
    lock_takes o l e = cc
gives_and_takes history position e f (Start object start) = (owner.Thread f.thread, ToOwner (rw (start.1, start.2) refl), inl refl)
gives_and_takes history position e f (Join object end started join) = (owner.Target object, ToTarget object end started refl, inr (rw join refl))

lock_is_no_thread : (l : Lock) (thread : ℕ) → owner_of_lock l ≡ owner.Thread thread → ⊥
lock_is_no_thread (lock.Object id) thread e = cc
lock_is_no_thread (lock.Class class) thread e = cc

lock_is_no_target : (l : Lock) (object : ℕ) → owner_of_lock l ≡ owner.Target object → ⊥
lock_is_no_target (lock.Object id) object e = cc
lock_is_no_target (lock.Class class) object e = cc

one_lock : (k l : Lock) → owner_of_lock k ≡ owner_of_lock l → k ≡ l
one_lock (lock.Object a) (lock.Object b) e = cc
one_lock (lock.Object a) (lock.Class b) e = cc
one_lock (lock.Class a) (lock.Object b) e = cc
one_lock (lock.Class a) (lock.Class b) e = cc

one_thread : (t u : ℕ) → ◌≡◌ {A = ClockOwner} (owner.Thread t) (owner.Thread u) → t ≡ u
one_thread t u e = cc

one_target : (t u : ℕ) → ◌≡◌ {A = ClockOwner} (owner.Target t) (owner.Target u) → t ≡ u
one_target t u e = cc

thread_is_no_target : (t u : ℕ) → ◌≡◌ {A = ClockOwner} (owner.Thread t) (owner.Target u) → ⊥
thread_is_no_target t u e = cc

pub orders : (history : List Entry) (position : ℕ) (e f : Entry) (c : ClockOwner) → Gives history position e c → Takes f c → Orders history position e f
orders history position e f c gives takes = elim takes [ inl own ↦ by_thread own gives | inr other ↦ by_owner (takes_by f.op c other) gives ]
  where
    by_thread : c ≡ owner.Thread f.thread → Gives history position e c → Orders history position e f
    by_thread own (ToThread is) = Program (one_thread _ _ (sym is ∙ own))
    by_thread own (ToOwner gives) = started (gives_by e.op e.reply c gives)
      where
        started : GivesBy e.op e.reply c → Orders history position e f
        started (ByUnlock l out is) = absurd (lock_is_no_thread l f.thread (sym is ∙ own))
        started (ByStart object class thread o r is) = Start object (class, o, r ∙ ap reply.Began (one_thread _ _ (sym is ∙ own)))
    by_thread own (ToTarget object end started is) = absurd (thread_is_no_target f.thread object (sym own ∙ is))

    by_owner : TakesBy f.op c → Gives history position e c → Orders history position e f
    by_owner (ByLock l into is) (ToThread same) = absurd (lock_is_no_thread l e.thread (sym is ∙ same))
    by_owner (ByLock l into is) (ToOwner gives) = unlocked (gives_by e.op e.reply c gives)
      where
        unlocked : GivesBy e.op e.reply c → Orders history position e f
        unlocked (ByUnlock k out same) = Unlock l (out ∙ ap Some (one_lock k l (sym same ∙ is))) into
        unlocked (ByStart object class thread o r same) = absurd (lock_is_no_thread l thread (sym is ∙ same))
    by_owner (ByLock l into is) (ToTarget object end started same) = absurd (lock_is_no_target l object (sym is ∙ same))
    by_owner (ByJoin object join is) (ToThread same) = absurd (thread_is_no_target e.thread object (sym same ∙ is))
    by_owner (ByJoin object join is) (ToOwner gives) = not_given (gives_by e.op e.reply c gives)
      where
        not_given : GivesBy e.op e.reply c → Orders history position e f
        not_given (ByUnlock k out same) = absurd (lock_is_no_target k object (sym same ∙ is))
        not_given (ByStart o class thread x r same) = absurd (thread_is_no_target thread object (sym same ∙ is))
    by_owner (ByJoin object join is) (ToTarget target end started same) = Join object end (subst (λ o. WasStarted history position o e.thread) (one_target _ _ (sym same ∙ is)) started) join

-- the last step to a position that is after another one
pub data LastStep (history : List Entry) (i j : ℕ) : Type 0 where
  From : (k : ℕ) → AtOrBefore history i k → IsDirectlyBefore history k j → LastStep history i j

pub last_step : (history : List Entry) (i j : ℕ) → HappensBefore history i j → LastStep history i j
last_step history i j (Directly _ step) = From i (inl refl) step
last_step history i j (Through k _ before step) = From k (inr before) step

pub one_step_more : (history : List Entry) (i k j : ℕ) → AtOrBefore history i k → IsDirectlyBefore history k j → HappensBefore history i j
one_step_more history i k j reach step = elim reach [ inl same ↦ Directly j (subst (λ m. IsDirectlyBefore history m j) (sym same) step) | inr before ↦ Through k j before step ]

pub one_entry : (history : List Entry) (j : ℕ) (e f : Entry) → slice_get history j ≡ Some e → slice_get history j ≡ Some f → e ≡ f
one_entry history j e f a b = some_entry (sym a ∙ b)
  where
    some_entry : ◌≡◌ {A = Option Entry} (Some e) (Some f) → e ≡ f
    some_entry x = cc

-- the clock of an entry tells the order
pub taken_tells : (history : List Entry) (clocks : ClockOwner → Times) (j : ℕ) (f : Entry) (v : Times)
    → slice_get history j ≡ Some f → AreClocks history j clocks → IsTaken clocks f j v → IsClockOf history j v
taken_tells history clocks j f v at are is = record { tells = λ i e at_i. (knows i e at_i, known i e at_i); own = λ g at_g. subst (λ x. time v x.thread ≡ j + 1) (one_entry history j f g at at_g) is.own; within = within }
  where
    within : (t : ℕ) → time v t ≤ j + 1
    within t = elim (cases_lt (j + 1) (time v t)) [
      | inr small ↦ small
      | inl large ↦ elim ((is.joined t (j + 1)).0 large) [
        | inl own ↦ let over : j + 1 ≤ j = own.1 in omega (arith, over)
        | inr other ↦ let over : j + 1 < time (clocks other.0) t = other.2 in let few : time (clocks other.0) t ≤ j = are.within other.0 t in omega (arith, over, few)
      ]
    ]

    knows : (i : ℕ) (e : Entry) → slice_get history i ≡ Some e → i < time v e.thread → AtOrBefore history i j
    knows i e at_i less = elim ((is.joined e.thread i).0 less) [ inl own ↦ own_thread own | inr other ↦ by_owner other ]
      where
        own_thread : (e.thread ≡ f.thread) × (i ≤ j) → AtOrBefore history i j
        own_thread own = elim (cases_eq i j) [
          | inl same ↦ inl same
          | inr apart ↦ let less : i < j = omega (arith, own.1, apart) in
              inr (Directly j (record { earlier = less; first = e; second = f; at_first = at_i; at_second = at; ordered = Program own.0 }))
        ]

        by_owner : (c : ClockOwner) × Takes f c × (i < time (clocks c) e.thread) → AtOrBefore history i j
        by_owner other =
            let was : WasGiven history j other.0 i = (are.tells other.0 i e at_i).0 other.2 in
            inr (one_step_more history i was.position j was.reaches (record { earlier = was.within; first = was.entry; second = f; at_first = was.at; at_second = at; ordered = orders history was.position was.entry f other.0 was.gives other.1 }))

    known : (i : ℕ) (e : Entry) → slice_get history i ≡ Some e → AtOrBefore history i j → i < time v e.thread
    known i e at_i reach = elim reach [ inl same ↦ itself same | inr before ↦ stepped (last_step history i j before) ]
      where
        itself : i ≡ j → i < time v e.thread
        itself same = (is.joined e.thread i).1 (inl (ap (λ x. x.thread) (one_entry history j e f (subst (λ k. slice_get history k ≡ Some e) same at_i) at), omega (arith, same)))

        stepped : LastStep history i j → i < time v e.thread
        stepped (From k before step) =
            let cut : (c : ClockOwner) × Gives history k step.first c × Takes step.second c = gives_and_takes history k step.first step.second step.ordered in
            let takes : Takes f cut.0 = subst (λ x. Takes x cut.0) (one_entry history j step.second f step.at_second at) cut.2 in
            (is.joined e.thread i).1 (inr (cut.0, takes, (are.tells cut.0 i e at_i).1 (record { position = k; entry = step.first; within = step.earlier; at = step.at_first; gives = cut.1; reaches = before })))

-- the owners' clocks after one entry more
pub raised_are : (history : List Entry) (old new : ClockOwner → Times) (j : ℕ) (f : Entry) (v : Times)
    → slice_get history j ≡ Some f → AreClocks history j old → IsClockOf history j v → AreGiven old v (Gives history j f) new → AreClocks history (j + 1) new
raised_are history old new j f v at are is raised = record { tells = λ c i e at_i. (knows c i e at_i, known c i e at_i); within = within }
  where
    within : (c : ClockOwner) (t : ℕ) → time (new c) t ≤ j + 1
    within c t = elim (cases_lt (j + 1) (time (new c) t)) [
      | inr small ↦ small
      | inl large ↦ elim ((raised c t (j + 1)).0 large) [
        | inl over ↦ let few : time (old c) t ≤ j = are.within c t in omega (arith, over, few)
        | inr over ↦ let few : time v t ≤ j + 1 = is.within t in omega (arith, over.1, few)
      ]
    ]

    later : (c : ClockOwner) (i : ℕ) → WasGiven history j c i → WasGiven history (j + 1) c i
    later c i was = record { position = was.position; entry = was.entry; within = let w : was.position < j = was.within in omega (arith, w); at = was.at; gives = was.gives; reaches = was.reaches }

    knows : (c : ClockOwner) (i : ℕ) (e : Entry) → slice_get history i ≡ Some e → i < time (new c) e.thread → WasGiven history (j + 1) c i
    knows c i e at_i less = elim ((raised c e.thread i).0 less) [
      | inl before ↦ later c i ((are.tells c i e at_i).0 before)
      | inr now ↦ record { position = j; entry = f; within = omega arith; at = at; gives = now.0; reaches = (is.tells i e at_i).0 now.1 }
    ]

    known : (c : ClockOwner) (i : ℕ) (e : Entry) → slice_get history i ≡ Some e → WasGiven history (j + 1) c i → i < time (new c) e.thread
    known c i e at_i was = elim (cases_eq was.position j) [
      | inl same ↦ (raised c e.thread i).1 (inr (
        subst (λ x. Gives history j x c) (one_entry history j was.entry f (subst (λ k. slice_get history k ≡ Some was.entry) same was.at) at) (subst (λ k. Gives history k was.entry c) same was.gives),
        (is.tells i e at_i).1 (subst (λ k. AtOrBefore history i k) same was.reaches),
      ))
      | inr apart ↦ (raised c e.thread i).1 (inl ((are.tells c i e at_i).1 (record { position = was.position; entry = was.entry; within = let w : was.position < j + 1 = was.within in omega (arith, w, apart); at = was.at; gives = was.gives; reaches = was.reaches })))
    ]

pub is_earlier : (history : List Entry) (i j : ℕ) → HappensBefore history i j → i < j
is_earlier history i j (Directly _ step) = step.earlier
is_earlier history i j (Through k _ before step) = let less : i < k = is_earlier history i k before in let more : k < j = step.earlier in omega (arith, less, more)

pub is_transitive : (history : List Entry) (i j k : ℕ) → HappensBefore history i j → HappensBefore history j k → HappensBefore history i k
is_transitive history i j k before (Directly _ step) = Through j k before step
is_transitive history i j k before (Through m _ after step) = Through m k (is_transitive history i j m before after) step

pub clocks_tell : (history : List Entry) (i j : ℕ) (e f : Entry) (v w : Times) → slice_get history i ≡ Some e → slice_get history j ≡ Some f
    → IsClockOf history i v → IsClockOf history j w → HappensBefore history i j ↔ ((i ≡ j → ⊥) × (time v e.thread ≤ time w e.thread))
clocks_tell history i j e f v w at_i at_j of_i of_j = (told, tells)
  where
    own : time v e.thread ≡ i + 1
    own = of_i.own e at_i

    told : HappensBefore history i j → (i ≡ j → ⊥) × (time v e.thread ≤ time w e.thread)
    told before =
        let less : i < j = is_earlier history i j before in
        let seen : i < time w e.thread = (of_j.tells i e at_i).1 (inr before) in
        (λ same. omega (arith, less, same), omega (arith, seen, own))

    tells : (i ≡ j → ⊥) × (time v e.thread ≤ time w e.thread) → HappensBefore history i j
    tells facts =
        let seen : i < time w e.thread = omega (arith, facts.1, own) in
        elim ((of_j.tells i e at_i).0 seen) [ inl same ↦ absurd (facts.0 same) | inr before ↦ before ]

-- whether a clock knows an event of another position, as a test
pub known_is_before : (history : List Entry) (i j : ℕ) (e : Entry) (v : Times) (n : ℕ) → slice_get history i ≡ Some e → (i ≡ j → ⊥) → IsClockOf history j v → n ≡ time v e.thread
    → (nat_lt i n ≡ true) ↔ HappensBefore history i j
known_is_before history i j e v n at apart is many = (
  λ less. (let below : i < n = ltb-true i n less in
      elim ((is.tells i e at).0 (subst (λ m. i < m) many below)) [ inl same ↦ absurd (apart same) | inr before ↦ before ]),
  λ before. (let known : i < time v e.thread = (is.tells i e at).1 (inr before) in lt-ltb i n (subst (λ m. i < m) (sym many) known)),
)

pub not_before_itself : (history : List Entry) (i j : ℕ) → i ≡ j → HappensBefore history i j → false ≡ true
not_before_itself history i j same before = absurd (let less : i < j = is_earlier history i j before in omega (arith, less, same))
