-- Supers of supers are supers.
use Rattle.std.proofs.Common.{◌≡◌, ℕ, zero, suc, ◌+◌, ◌<◌, ◌≤◌, Bool, true, false, List, [], ◌∷◌, Option, Some, None, refl, sym, ◌∙◌, ap, subst, arith, ◌⊎◌, inl, inr, ⊎_elim}
use Rattle.std.specs.Prelude.{◌==◌, ◌&&◌, ◌||◌, if◌then◌else◌, nat_le, nat_lt, not}
use Rattle.std.specs.List.{list_any, list_all, range_with_len}
use Rattle.std.proofs.lemmas.Bool.{false≢true}
use Rattle.std.proofs.lemmas.Bool.Decides.{nat_tests}
use Rattle.std.proofs.lemmas.Option.{slice_get_past}
use Rattle.vm_model.specs.Program.{PlainClass}
use Rattle.machine_model.specs.Declarations.{Declarations, class_at}
use Rattle.built_in_classes.specs.Classes.{built_in_supers, listed_super}
use Rattle.machine_model.specs.Kinds.{super_of, user_super, supers_within, chain, extends, is_runnable_class, is_runnable, is_thread, is_thread_class}
use Rattle.shape_laws.proofs.Tests.{same, same_self, either, on_left, on_right, both, joined, true_below, at_most}

abbrev Has : List ℕ → ℕ → Type 0
Has xs n = list_any (λ s. s == n) xs ≡ true

has_one : (x n : ℕ) → Has (x ∷ []) n → x ≡ n
has_one x n h = ⊎_elim (λ e. same x n e) (λ e. absurd (false≢true e)) (either (x == n) false h)

all_at : (P : ℕ → Bool) (xs : List ℕ) (n : ℕ) → list_all P xs ≡ true → Has xs n → P n ≡ true
all_at P [] n all h = absurd (false≢true h)
all_at P (x ∷ xs) n all h =
    let parts = both (P x) (list_all P xs) all in
    ⊎_elim (λ e. subst (λ (y : ℕ). P y ≡ true) (same x n e) parts.0) (λ e. all_at P xs n parts.1 e) (either (x == n) (list_any (λ s. s == n) xs) h)

in_range : (a n x : ℕ) → a ≤ x → x < a + n → Has (range_with_len a n) x
in_range a zero x low high = absurd (omega arith)
in_range a (suc n) x low high = from (λ h. in_range (a + 1) n x h (omega arith)) (a == x) refl
  where
    from : (a + 1 ≤ x → Has (range_with_len (a + 1) n) x) → (b : Bool) → (a == x) ≡ b → Has (range_with_len a (suc n)) x
    from more true e = on_left (a == x) _ e
    from more false e = let past : a + 1 ≤ x = grind (arith, nat_tests) in on_right (a == x) _ (more past)

-- ---- chains

chain_is : (d : Declarations) (x : ℕ) → chain d x ≡ x ∷ supers_within 5 d (super_of d x)
unfolding chain
chain_is d x = refl

chain_has : (d : Declarations) (x : ℕ) → Has (chain d x) x
unfolding chain
chain_has d x = on_left (x == x) _ (same_self x)

-- all of the supers of built-in classes, whatever the program declares
listed : (d : Declarations)
    → list_all (λ x. list_all (λ c. list_all (λ e. list_any (λ s. s == e) (chain d x)) (chain d c)) (chain d x)) (range_with_len 0 23) ≡ true
unfolding chain
listed d = refl

abbrev Passes : Declarations → ℕ → ℕ → Type 0
Passes d x e = (c : ℕ) → Has (chain d x) c → Has (chain d c) e → Has (chain d x) e

-- a class without a super
alone : (d : Declarations) (x e : ℕ) → chain d x ≡ x ∷ [] → Passes d x e
alone d x e is c h g = subst (λ (y : ℕ). Has (chain d y) e) (sym (has_one x c (subst (λ (xs : List ℕ). Has xs c) is h))) g

-- a class whose supers are another class and the supers of that
longer : (d : Declarations) (x y e : ℕ) → chain d x ≡ x ∷ chain d y → Passes d y e → Passes d x e
longer d x y e is passes c h g =
    ⊎_elim
    (λ a. subst (λ (z : ℕ). Has (chain d z) e) (sym (same x c a)) g)
    (λ a. subst (λ (xs : List ℕ). Has xs e) (sym is) (on_right (x == e) _ (passes c a g)))
    (either (x == c) _ (subst (λ (xs : List ℕ). Has xs c) is h))

built_in_passes : (d : Declarations) (x e : ℕ) → x < 23 → Passes d x e
built_in_passes d x e low c h g =
    let over_c = all_at (λ y. list_all (λ c'. list_all (λ e'. list_any (λ s. s == e') (chain d y)) (chain d c')) (chain d y)) (range_with_len 0 23) x (listed d) (in_range 0 23 x (omega arith) low) in
    let over_e = all_at (λ c'. list_all (λ e'. list_any (λ s. s == e') (chain d x)) (chain d c')) (chain d x) c over_c h in
    all_at (λ e'. list_any (λ s. s == e') (chain d x)) (chain d c) e over_e g

user_super_is : (d : Declarations) (x : ℕ) → nat_le 32 x ≡ true → super_of d x ≡ user_super (class_at d x)
user_super_is d x e = rw e refl

no_class : (d : Declarations) (x : ℕ) → nat_le 32 x ≡ false → class_at d x ≡ None
no_class d x e = rw e refl

no_super : (d : Declarations) (x : ℕ) → nat_le 32 x ≡ false → 23 ≤ x → super_of d x ≡ None
no_super d x e high = rw e (ap listed_super (slice_get_past built_in_supers x high))

abbrev thread_or_object : Bool → ℕ
thread_or_object true = 1
thread_or_object false = 0

user_chain : (d : Declarations) (x : ℕ) (class : PlainClass) → nat_le 32 x ≡ true → class_at d x ≡ Some class → chain d x ≡ x ∷ chain d (thread_or_object class.is_thread)
unfolding chain
user_chain d x class e at = chain_is d x ∙ ap (λ o. x ∷ supers_within 5 d o) (user_super_is d x e ∙ ap user_super at) ∙ ap (λ xs. x ∷ xs) (by class.is_thread)
  where
    by : (b : Bool) → supers_within 5 d (Some (if b then 1 else 0)) ≡ chain d (thread_or_object b)
    by true = refl
    by false = refl

above_passes : (b : Bool) (d : Declarations) (e : ℕ) → Passes d (thread_or_object b) e
above_passes true d e = built_in_passes d 1 e (omega arith)
above_passes false d e = built_in_passes d 0 e (omega arith)

-- how long a chain is: one, that of a built-in class, or one more than that of Thread or Object
data ChainOf (d : Declarations) (x : ℕ) : Type 0 where
  Alone : chain d x ≡ x ∷ [] → ChainOf d x
  BuiltIn : x < 23 → ChainOf d x
  User : (class : PlainClass) → class_at d x ≡ Some class → chain d x ≡ x ∷ chain d (thread_or_object class.is_thread) → ChainOf d x

chain_of : (d : Declarations) (x : ℕ) → ChainOf d x
chain_of d x = by (nat_le 32 x) refl
  where
    user : nat_le 32 x ≡ true → (o : Option PlainClass) → class_at d x ≡ o → ChainOf d x
    user high None at = Alone (chain_is d x ∙ ap (λ o. x ∷ supers_within 5 d o) (user_super_is d x high ∙ ap user_super at))
    user high (Some class) at = User class at (user_chain d x class high at)

    below : (b : Bool) → nat_lt x 23 ≡ b → nat_le 32 x ≡ false → ChainOf d x
    below true lt few = let low : x < 23 = grind (arith, nat_tests) in BuiltIn low
    below false lt few = let high : 23 ≤ x = grind (arith, nat_tests) in Alone (chain_is d x ∙ ap (λ o. x ∷ supers_within 5 d o) (no_super d x few high))

    by : (b : Bool) → nat_le 32 x ≡ b → ChainOf d x
    by true high = user high (class_at d x) refl
    by false few = below (nat_lt x 23) refl few

pub chain_passes : (d : Declarations) (x e : ℕ) → Passes d x e
chain_passes d x e = by (chain_of d x)
  where
    by : ChainOf d x → Passes d x e
    by (Alone is) = alone d x e is
    by (BuiltIn low) = built_in_passes d x e low
    by (User class at is) = longer d x (thread_or_object class.is_thread) e is (above_passes class.is_thread d e)

-- a class that no other one has as its super
own_super : (d : Declarations) (s : ℕ) → list_all (λ x. not (list_any (λ y. y == s) (chain d x)) || (x == s)) (range_with_len 0 23) ≡ true
    → ((b : Bool) → list_any (λ y. y == s) (chain d (thread_or_object b)) ≡ false) → (x : ℕ) → Has (chain d x) s → x ≡ s
own_super d s all none x h = by (chain_of d x)
  where
    by : ChainOf d x → x ≡ s
    by (Alone is) = has_one x s (subst (λ (xs : List ℕ). Has xs s) is h)
    by (BuiltIn low) =
        let here = all_at (λ x'. not (list_any (λ y. y == s) (chain d x')) || (x' == s)) (range_with_len 0 23) x all (in_range 0 23 x (omega arith) low) in
        ⊎_elim (λ a. absurd (false≢true (sym (ap not h) ∙ a))) (λ a. same x s a) (either (not (list_any (λ y. y == s) (chain d x))) (x == s) here)
    by (User class at is) =
        ⊎_elim (λ a. same x s a) (λ a. absurd (false≢true (sym (none class.is_thread) ∙ a))) (either (x == s) _ (subst (λ (xs : List ℕ). Has xs s) is h))

pub of_text : (d : Declarations) (x : ℕ) → Has (chain d x) 3 → x ≡ 3
unfolding chain
of_text d x h = own_super d 3 refl none x h
  where
    none : (b : Bool) → list_any (λ y. y == 3) (chain d (thread_or_object b)) ≡ false
    none true = refl
    none false = refl

pub of_stream : (d : Declarations) (x : ℕ) → Has (chain d x) 4 → x ≡ 4
unfolding chain
of_stream d x h = own_super d 4 refl none x h
  where
    none : (b : Bool) → list_any (λ y. y == 4) (chain d (thread_or_object b)) ≡ false
    none true = refl
    none false = refl

-- a class that may stand for Runnable is an Object
runnable_chain : (d : Declarations) (x : ℕ) → is_runnable_class d x ≡ true → Has (chain d x) 0
unfolding chain
runnable_chain d x r =
    ⊎_elim (λ e. subst (λ (y : ℕ). Has (chain d y) 0) (sym (same x 1 e)) refl) (λ e. by (nat_le 32 x) refl (class_at d x) refl e) (either (x == 1) (is_runnable (class_at d x)) r)
  where
    above : (b : Bool) → Has (chain d (thread_or_object b)) 0
    above true = refl
    above false = refl

    by : (b : Bool) → nat_le 32 x ≡ b → (o : Option PlainClass) → class_at d x ≡ o → is_runnable (class_at d x) ≡ true → Has (chain d x) 0
    by false few o at r' = absurd (false≢true (ap is_runnable (sym (no_class d x few)) ∙ r'))
    by true high None at r' = absurd (false≢true (ap is_runnable (sym at) ∙ r'))
    by true high (Some class) at r' = subst (λ (xs : List ℕ). Has xs 0) (sym (user_chain d x class high at)) (on_right (x == 0) _ (above class.is_thread))

-- what may stand for a class may stand for its supers
pub extends_passes : (d : Declarations) (x c e : ℕ) → extends d x c ≡ true → Has (chain d c) e → extends d x e ≡ true
unfolding chain
extends_passes d x c e h g =
    ⊎_elim
    (λ a. on_left (list_any (λ s. s == e) (chain d x)) _ (chain_passes d x e c a g))
    (λ a. let parts = both (c == 2) (is_runnable_class d x) a in runnable parts.1 (subst (λ (y : ℕ). Has (chain d y) e) (same c 2 parts.0) g))
    (either (list_any (λ s. s == c) (chain d x)) (c == 2 && is_runnable_class d x) h)
  where
    two : Has (chain d 2) e → ((2 == e) ≡ true) ⊎ ((0 == e) ≡ true)
    two g' = ⊎_elim (λ a. inl a) (λ a. ⊎_elim (λ b. inr b) (λ b. absurd (false≢true b)) (either (0 == e) false a)) (either (2 == e) _ g')

    runnable : is_runnable_class d x ≡ true → Has (chain d 2) e → extends d x e ≡ true
    runnable r g' =
        ⊎_elim
        (λ a. on_right (list_any (λ s. s == e) (chain d x)) _ (joined (e == 2) _ (subst (λ (y : ℕ). (y == 2) ≡ true) (same 2 e a) refl) r))
        (λ a. on_left (list_any (λ s. s == e) (chain d x)) _ (subst (λ (y : ℕ). Has (chain d x) y) (same 0 e a) (runnable_chain d x r)))
        (two g')

-- the supers of a class that may stand for Runnable, that may, too
listed_runnable : (d : Declarations) → list_all (λ x. list_all (λ c. not (is_runnable_class d c) || is_runnable_class d x) (chain d x)) (range_with_len 0 23) ≡ true
unfolding chain
listed_runnable d = refl

thread_is_runnable : (d : Declarations) (x : ℕ) (class : PlainClass) → class_at d x ≡ Some class → (b : Bool) → class.is_thread ≡ b → (c : ℕ) → Has (chain d (thread_or_object b)) c → is_runnable_class d c ≡ true
    → is_runnable_class d x ≡ true
unfolding chain
thread_is_runnable d x class at true e c h r =
    on_right (x == 1) (is_runnable (class_at d x)) (ap is_runnable at ∙ on_right class.is_runnable class.is_thread e)
thread_is_runnable d x class at false e c h r =
    absurd (false≢true (subst (λ (y : ℕ). is_runnable_class d y ≡ true) (sym (has_one 0 c h)) r))

pub runnable_passes : (d : Declarations) (x c : ℕ) → Has (chain d x) c → is_runnable_class d c ≡ true → is_runnable_class d x ≡ true
runnable_passes d x c h r = by (chain_of d x)
  where
    itself : x ≡ c → is_runnable_class d x ≡ true
    itself e = subst (λ (y : ℕ). is_runnable_class d y ≡ true) (sym e) r

    by : ChainOf d x → is_runnable_class d x ≡ true
    by (Alone is) = itself (has_one x c (subst (λ (xs : List ℕ). Has xs c) is h))
    by (BuiltIn low) =
        let over = all_at (λ y. list_all (λ c'. not (is_runnable_class d c') || is_runnable_class d y) (chain d y)) (range_with_len 0 23) x (listed_runnable d) (in_range 0 23 x (omega arith) low) in
        let here = all_at (λ c'. not (is_runnable_class d c') || is_runnable_class d x) (chain d x) c over h in
        ⊎_elim (λ a. absurd (false≢true (sym (ap not r) ∙ a))) (λ a. a) (either (not (is_runnable_class d c)) _ here)
    by (User class at is) =
        ⊎_elim (λ a. itself (same x c a)) (λ a. thread_is_runnable d x class at class.is_thread refl c a r)
        (either (x == c) _ (subst (λ (xs : List ℕ). Has xs c) is h))

pub extends_extends : (d : Declarations) (x c e : ℕ) → extends d x c ≡ true → extends d c e ≡ true → extends d x e ≡ true
extends_extends d x c e h g =
    ⊎_elim (λ a. extends_passes d x c e h a)
    (λ a. let parts = both (e == 2) (is_runnable_class d c) a in on_right (list_any (λ s. s == e) (chain d x)) _ (joined (e == 2) _ parts.0 (runnable_super parts.1)))
    (either (list_any (λ s. s == e) (chain d c)) (e == 2 && is_runnable_class d c) g)
  where
    runnable_super : is_runnable_class d c ≡ true → is_runnable_class d x ≡ true
    runnable_super r =
        ⊎_elim (λ a. runnable_passes d x c a r) (λ a. (both (c == 2) (is_runnable_class d x) a).1) (either (list_any (λ s. s == c) (chain d x)) (c == 2 && is_runnable_class d x) h)

-- ---- what a class has as supers

-- a class has Thread among its supers where it is a thread class
thread_listed : (d : Declarations) → list_all (λ x. not (list_any (λ s. s == 1) (chain d x)) || (x == 1)) (range_with_len 0 23) ≡ true
unfolding chain
thread_listed d = refl

pub thread_super : (d : Declarations) (x : ℕ) → Has (chain d x) 1 → is_thread_class d x ≡ true
unfolding chain
thread_super d x h = by (chain_of d x)
  where
    itself : x ≡ 1 → is_thread_class d x ≡ true
    itself e = on_left (x == 1) _ (subst (λ (y : ℕ). (y == 1) ≡ true) (sym e) refl)

    by_thread : (class : PlainClass) → class_at d x ≡ Some class → (b : Bool) → class.is_thread ≡ b → Has (chain d (thread_or_object b)) 1 → is_thread_class d x ≡ true
    by_thread class at true e h' = on_right (x == 1) (is_thread (class_at d x)) (ap is_thread at ∙ e)
    by_thread class at false e h' = absurd (false≢true h')

    by : ChainOf d x → is_thread_class d x ≡ true
    by (Alone is) = itself (has_one x 1 (subst (λ (xs : List ℕ). Has xs 1) is h))
    by (BuiltIn low) =
        let here = all_at (λ y. not (list_any (λ s. s == 1) (chain d y)) || (y == 1)) (range_with_len 0 23) x (thread_listed d) (in_range 0 23 x (omega arith) low) in
        ⊎_elim (λ a. absurd (false≢true (sym (ap not h) ∙ a))) (λ a. itself (same x 1 a)) (either (not (list_any (λ s. s == 1) (chain d x))) (x == 1) here)
    by (User class at is) =
        ⊎_elim (λ a. itself (same x 1 a)) (λ a. by_thread class at class.is_thread refl a) (either (x == 1) _ (subst (λ (xs : List ℕ). Has xs 1) is h))

-- no class has a user class as its super
built_in_listed : (d : Declarations) → list_all (λ x. list_all (λ y. nat_lt y 32) (chain d x)) (range_with_len 0 23) ≡ true
unfolding chain
built_in_listed d = refl

pub user_super_alone : (d : Declarations) (x e : ℕ) → nat_le 32 e ≡ true → Has (chain d x) e → x ≡ e
unfolding chain
user_super_alone d x e high h = by (chain_of d x)
  where
    above : 32 ≤ e
    above = at_most 32 e high

    low_only : (xs : List ℕ) → list_all (λ y. nat_lt y 32) xs ≡ true → Has xs e → ⊥
    low_only xs all has = let low : e < 32 = true_below e 32 (all_at (λ y. nat_lt y 32) xs e all has) in let high' : 32 ≤ e = above in omega arith

    object_only : (b : Bool) → list_all (λ y. nat_lt y 32) (chain d (thread_or_object b)) ≡ true
    object_only true = refl
    object_only false = refl

    by : ChainOf d x → x ≡ e
    by (Alone is) = has_one x e (subst (λ (xs : List ℕ). Has xs e) is h)
    by (BuiltIn low) = absurd (low_only (chain d x) (all_at (λ y. list_all (λ z. nat_lt z 32) (chain d y)) (range_with_len 0 23) x (built_in_listed d) (in_range 0 23 x (omega arith) low)) h)
    by (User class at is) =
        ⊎_elim (λ a. same x e a) (λ a. absurd (low_only (chain d (thread_or_object class.is_thread)) (object_only class.is_thread) a)) (either (x == e) _ (subst (λ (xs : List ℕ). Has xs e) is h))

-- no other class has Runnable among its supers
pub of_runnable : (d : Declarations) (x : ℕ) → Has (chain d x) 2 → x ≡ 2
unfolding chain
of_runnable d x h = own_super d 2 refl none x h
  where
    none : (b : Bool) → list_any (λ y. y == 2) (chain d (thread_or_object b)) ≡ false
    none true = refl
    none false = refl

-- a user class that extends Thread
pub thread_class_extends : (d : Declarations) (x : ℕ) (class : PlainClass) → class_at d x ≡ Some class → class.is_thread ≡ true → extends d x 1 ≡ true
unfolding chain
thread_class_extends d x class at e = by (nat_le 32 x) refl
  where
    none_some : None ≡ Some class → ⊥
    none_some e' = cc

    by : (b : Bool) → nat_le 32 x ≡ b → extends d x 1 ≡ true
    by true high =
        on_left (list_any (λ c. c == 1) (chain d x)) _
        (subst (λ (xs : List ℕ). Has xs 1) (sym (user_chain d x class high at ∙ ap (λ (b : Bool). x ∷ chain d (thread_or_object b)) e)) (on_right (x == 1) _ refl))
    by false few = absurd (none_some (sym (no_class d x few) ∙ at))

pub extends_itself : (d : Declarations) (x : ℕ) → extends d x x ≡ true
extends_itself d x = on_left (list_any (λ c. c == x) (chain d x)) _ (chain_has d x)
