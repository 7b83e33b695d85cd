-- Lists of lanes, of entries and of views.
use Rattle.std.proofs.Common.{◌≡◌, Contains, ◌≢◌, ◌⊎◌, ℕ, zero, suc, ◌+◌, ◌%◌, ◌<◌, ◌≤◌, Bool, true, false, true≢false, not, ◌&&◌, ◌||◌, ◌==◌, cond, List, [], ◌∷◌, ◌++◌, length, take, set, refl, sym, ap, ◌∙◌, subst, inl, inr, ⊎_elim, arith, Option, Some, None, slice_get, unwrap_or, eqb-true, eq-eqb, ne_eqb}
use Rattle.std.proofs.lemmas.List.{append-nil}
use mathlib.Core.Option.{some, some-injective, some-ne-none}
use mathlib.Core.List.{head-eq_of_cons-eq, tail-eq_of_cons-eq}
use lib.ListN.{get_elem?}
use Rattle.vm_model.specs.declared.op.Entry.{Entry}
use Rattle.machine_model.specs.Shared.{is_thread_number}
use Rattle.schedule_log.proofs.Tiling.{contains_cases}
use Rattle.schedule_log.specs.Intervals.{numbers}
use Rattle.gate_core.specs.Seats.{Placed, placed}
use Rattle.gate_core.specs.Histories.{numbered, of_lane, entries_of_lane}
use Rattle.replay_gate.specs.Lanes.{has, without, is_of, is_quiet, lane_of}

-- ---- choices

pub on_bool : {P : Type 0} (b : Bool) → (b ≡ true → P) → (b ≡ false → P) → P
on_bool true t f = t refl
on_bool false t f = f refl

pub and_parts : (a b : Bool) → (a && b) ≡ true → (a ≡ true) × (b ≡ true)
and_parts true b e = (refl, e)
and_parts false b e = absurd (true≢false (sym e))

pub and_both : (a b : Bool) → a ≡ true → b ≡ true → (a && b) ≡ true
and_both true b e f = f
and_both false b e f = absurd (true≢false (sym e))

pub or_parts : (a b : Bool) → (a || b) ≡ true → (a ≡ true) ⊎ (b ≡ true)
or_parts true b e = inl refl
or_parts false b e = inr e

pub number_is : (o : Option ℕ) (t : ℕ) → is_thread_number o t ≡ true → o ≡ Some t
number_is None t e = absurd (true≢false (sym e))
number_is (Some u) t e = ap Some (eqb-true u t e)

pub same_number : (a b : ℕ) → Some a ≡ Some b → a ≡ b
same_number a b e = ap (λ (o : Option ℕ). unwrap_or o 0) e

-- of two beginnings of one list, what stands behind the shorter one ends with what stands behind the other
pub ends_alike : {A : Type 0} (xs ys a b : List A) → xs ++ a ≡ ys ++ b → length xs ≤ length ys → (more : List A) × (ys ≡ xs ++ more) × (a ≡ more ++ b)
ends_alike [] ys a b e l = (ys, refl, e)
ends_alike (x ∷ xs) [] a b e l = absurd (omega arith)
ends_alike (x ∷ xs) (y ∷ ys) a b e l =
    let t = ends_alike xs ys a b (tail-eq_of_cons-eq e) (omega arith) in
    (t.0, (λ i. head-eq_of_cons-eq (sym e) i ∷ t.1 i), t.2)

-- ---- places of a list

module _ {A : Type 0} where
  pub set_there : (xs : List A) (i : ℕ) (a b : A) → get_elem? xs i ≡ some a → get_elem? (set xs i b) i ≡ some b
  set_there [] i a b e = absurd (some-ne-none a (sym e))
  set_there (x ∷ xs) zero a b e = refl
  set_there (x ∷ xs) (suc i) a b e = set_there xs i a b e

  pub at_end : (xs : List A) (a b : A) (j : ℕ) → get_elem? (xs ++ a ∷ []) j ≡ some b → (get_elem? xs j ≡ some b) ⊎ ((j ≡ length xs) × (a ≡ b))
  at_end [] a b zero e = inr (refl, some-injective a b e)
  at_end [] a b (suc j) e = absurd (some-ne-none b (sym e))
  at_end (x ∷ xs) a b zero e = inl e
  at_end (x ∷ xs) a b (suc j) e = ⊎_elim (λ t. inl t) (λ t. inr (ap suc t.0, t.1)) (at_end xs a b j e)

  pub at_inside : (xs : List A) (j : ℕ) (a : A) → get_elem? xs j ≡ some a → j < length xs
  at_inside [] j a e = absurd (some-ne-none a (sym e))
  at_inside (x ∷ xs) zero a e = omega arith
  at_inside (x ∷ xs) (suc j) a e = let l = at_inside xs j a e in omega arith

pub take_more : (xs : List ℕ) (n t : ℕ) → slice_get xs n ≡ Some t → take (suc n) xs ≡ take n xs ++ t ∷ []
take_more [] n t e = cc
take_more (x ∷ xs) zero t e = ap (λ (y : ℕ). y ∷ []) (same_number x t e)
take_more (x ∷ xs) (suc n) t e = ap (λ ys. x ∷ ys) (take_more xs n t e)

pub get_inside : (xs : List ℕ) (n t : ℕ) → slice_get xs n ≡ Some t → n < length xs
get_inside [] n t e = cc
get_inside (x ∷ xs) zero t e = omega arith
get_inside (x ∷ xs) (suc n) t e = let l = get_inside xs n t e in omega arith

-- ---- lanes

pub has_numbers : (start count lane : ℕ) → has (numbers start count) lane ≡ true → start ≤ lane
has_numbers start zero lane e = absurd (true≢false (sym e))
has_numbers start (suc count) lane e = ⊎_elim (λ h. let l = eqb-true start lane h in omega arith) (λ h. let l = has_numbers (start + 1) count lane h in omega arith) (or_parts _ _ e)

pub or_right : (a b : Bool) → b ≡ true → (a || b) ≡ true
or_right true b e = refl
or_right false b e = e

pub or_left : (a b : Bool) → a ≡ true → (a || b) ≡ true
or_left true b e = refl
or_left false b e = absurd (true≢false (sym e))

pub has_contained : (xs : List ℕ) (lane : ℕ) → Contains xs lane → has xs lane ≡ true
has_contained [] lane c = absurd (let l = c.1 in omega arith)
has_contained (x ∷ xs) lane c = ⊎_elim (λ e. or_left _ _ (eq-eqb x lane e)) (λ d. or_right _ _ (has_contained xs lane d)) (contains_cases x lane xs c)

pub has_append : (xs ys : List ℕ) (lane : ℕ) → has (xs ++ ys) lane ≡ true → (has xs lane ≡ true) ⊎ (has ys lane ≡ true)
has_append [] ys lane e = inr e
has_append (x ∷ xs) ys lane e = ⊎_elim (λ h. inl (or_left (x == lane) (has xs lane) h))
    (λ h. ⊎_elim (λ t. inl (or_right (x == lane) (has xs lane) t)) (λ t. inr t) (has_append xs ys lane h)) (or_parts (x == lane) (has (xs ++ ys) lane) e)

pub has_first : (xs ys : List ℕ) (lane : ℕ) → has xs lane ≡ true → has (xs ++ ys) lane ≡ true
has_first [] ys lane h = absurd (true≢false (sym h))
has_first (x ∷ xs) ys lane h = ⊎_elim (λ is. or_left (x == lane) (has (xs ++ ys) lane) is) (λ more. or_right (x == lane) (has (xs ++ ys) lane) (has_first xs ys lane more)) (or_parts (x == lane) (has xs lane) h)

pub has_second : (xs ys : List ℕ) (lane : ℕ) → has ys lane ≡ true → has (xs ++ ys) lane ≡ true
has_second [] ys lane h = h
has_second (x ∷ xs) ys lane h = or_right (x == lane) (has (xs ++ ys) lane) (has_second xs ys lane h)

-- a lane that is left is another one
pub has_without : (lane : ℕ) (ls : List ℕ) (l : ℕ) → has (without lane ls) l ≡ true → (has ls l ≡ true) × (l ≢ lane)
has_without lane [] l e = absurd (true≢false (sym e))
has_without lane (x ∷ ls) l e =
    on_bool (x == lane)
    (λ here. let t = has_without lane ls l (subst (λ (b : Bool). has (cond b (without lane ls) (x ∷ without lane ls)) l ≡ true) here e) in (or_right (x == l) (has ls l) t.0, t.1))
    (λ other. ⊎_elim
    (λ h. (or_left (x == l) (has ls l) h, λ is. absurd (true≢false (sym (eq-eqb x lane (eqb-true x l h ∙ is)) ∙ other))))
    (λ h. let t = has_without lane ls l h in (or_right (x == l) (has ls l) t.0, t.1))
    (or_parts (x == l) (has (without lane ls) l) (subst (λ (b : Bool). has (cond b (without lane ls) (x ∷ without lane ls)) l ≡ true) other e)))

-- ---- entries of lanes

pub quiet_both : (n l : ℕ) (xs ys : List Entry) → is_quiet n l xs ≡ true → is_quiet n l ys ≡ true → is_quiet n l (xs ++ ys) ≡ true
quiet_both n l [] ys e f = f
quiet_both n l (x ∷ xs) ys e f = let p = and_parts _ _ e in and_both _ _ p.0 (quiet_both n l xs ys p.1 f)

pub quiet_right : (n l : ℕ) (xs ys : List Entry) → is_quiet n l (xs ++ ys) ≡ true → is_quiet n l ys ≡ true
quiet_right n l [] ys e = e
quiet_right n l (x ∷ xs) ys e = quiet_right n l xs ys (and_parts _ _ e).1

pub quiet_front : (n l : ℕ) (xs ys : List Entry) → is_quiet n l (xs ++ ys) ≡ true → is_quiet n l xs ≡ true
quiet_front n l [] ys e = refl
quiet_front n l (x ∷ xs) ys e = let p = and_parts _ _ e in and_both _ _ p.0 (quiet_front n l xs ys p.1)

pub quiet_other : (n l : ℕ) (e : Entry) → lane_of n e.thread ≢ l → is_quiet n l (e ∷ []) ≡ true
quiet_other n l e other = rw (ne_eqb (lane_of n e.thread) l other) refl

pub numbered-append : (c : ℕ) (xs ys : List Entry) → numbered c (xs ++ ys) ≡ numbered c xs ++ numbered (c + length xs) ys
numbered-append c [] ys = ap (λ (k : ℕ). numbered k ys) (let e : c ≡ c + 0 = omega arith in e)
numbered-append c (x ∷ xs) ys =
    ap (λ zs. placed c x ∷ zs) (numbered-append (c + 1) xs ys ∙ ap (λ (k : ℕ). numbered (c + 1) xs ++ numbered k ys) (let e : (c + 1) + length xs ≡ c + length (x ∷ xs) = omega arith in e))

pub of_lane-append : (n l : ℕ) (xs ys : List Placed) → of_lane n l (xs ++ ys) ≡ of_lane n l xs ++ of_lane n l ys
of_lane-append n l [] ys = refl
of_lane-append n l (x ∷ xs) ys = by_head (x.entry.thread % n == l) (of_lane-append n l xs ys)
  where
    by_head : (b : Bool) → of_lane n l (xs ++ ys) ≡ of_lane n l xs ++ of_lane n l ys
        → cond b (x ∷ of_lane n l (xs ++ ys)) (of_lane n l (xs ++ ys)) ≡ cond b (x ∷ of_lane n l xs) (of_lane n l xs) ++ of_lane n l ys
    by_head true e = ap (λ zs. x ∷ zs) e
    by_head false e = e

pub entries-append : (n l : ℕ) (xs ys : List Entry) → entries_of_lane n l (xs ++ ys) ≡ entries_of_lane n l xs ++ of_lane n l (numbered (length xs) ys)
entries-append n l xs ys =
    ap (of_lane n l) (numbered-append 0 xs ys ∙ ap (λ (k : ℕ). numbered 0 xs ++ numbered k ys) (let e : 0 + length xs ≡ length xs = omega arith in e))
    ∙ of_lane-append n l (numbered 0 xs) (numbered (length xs) ys)

pub entries-quiet : (n l c : ℕ) (xs : List Entry) → is_quiet n l xs ≡ true → of_lane n l (numbered c xs) ≡ []
entries-quiet n l c [] e = refl
entries-quiet n l c (x ∷ xs) e = let p = and_parts _ _ e in rw (not_true (is_of n l x) p.0) (entries-quiet n l (c + 1) xs p.1)
  where
    not_true : (b : Bool) → not b ≡ true → b ≡ false
    not_true true e = absurd (true≢false (sym e))
    not_true false e = refl

-- what a longer history has of a lane that is quiet in the rest
pub entries-same : (n l : ℕ) (history seen unseen : List Entry) → history ≡ seen ++ unseen → is_quiet n l unseen ≡ true → entries_of_lane n l history ≡ entries_of_lane n l seen
entries-same n l history seen unseen e quiet =
    ap (entries_of_lane n l) e ∙ entries-append n l seen unseen ∙ ap (λ zs. entries_of_lane n l seen ++ zs) (entries-quiet n l (length seen) unseen quiet) ∙ append-nil (entries_of_lane n l seen)
