-- How far a shape can still be raised: each merge that changes it lowers its rank.
use Rattle.std.proofs.Common.{◌≡◌, ℕ, zero, suc, ◌+◌, ◌<◌, ◌≤◌, Bool, true, false, List, [], ◌∷◌, length, Option, Some, None, refl, sym, ◌∙◌, ap, subst, arith, ⊎_elim}
use Rattle.std.specs.Prelude.{◌==◌, if◌then◌else◌, nat_le, nat_lt, option_map}
use Rattle.std.specs.List.{list_all, range_with_len}
use Rattle.std.proofs.lemmas.Bool.{false≢true}
use Rattle.std.proofs.lemmas.Bool.Decides.{nat_tests}
use Rattle.std.proofs.lemmas.Option.{slice_get_past}
use Rattle.vm_model.specs.declared.value.Kind.{Kind}
use Rattle.vm_model.specs.declared.value.Kind.TheVariants as kind
use Rattle.vm_model.specs.Program.{PlainClass, PlainProgram}
use Rattle.machine_model.specs.Declarations.{Declarations, class_at, declarations_of}
use Rattle.built_in_classes.specs.Classes.{built_in_supers, listed_super}
use Rattle.machine_model.specs.Kinds.{chain, super_of, supers_within, user_super}
use Rattle.machine_model.specs.Shapes.{is_subsumed}
use Rattle.class_kinds.specs.Classes.{is_among}
use Rattle.shape_lattice.specs.Merging.{first_common, merged_kind, nearest_super}
use Rattle.shape_laws.proofs.Tests.{both, either, on_left, on_right, same, true_below}
use Rattle.shape_lattice.proofs.Nearest.{IsCommon, common}

-- ---- chains

pub chain_is : (d : Declarations) (x : ℕ) → chain d x ≡ x ∷ supers_within 5 d (super_of d x)
unfolding chain
chain_is d x = refl

within_most : (n : ℕ) (d : Declarations) (o : Option ℕ) → length (supers_within n d o) ≤ n
within_most zero d o = omega arith
within_most (suc n) d None = omega arith
within_most (suc n) d (Some x) = let more : length (supers_within n d (super_of d x)) ≤ n = within_most n d (super_of d x) in omega arith

pub chain_most : (d : Declarations) (x : ℕ) → length (chain d x) ≤ 6
unfolding chain
chain_most d x = within_most 6 d (Some x)

pub chain_least : (d : Declarations) (x : ℕ) → 1 ≤ length (chain d x)
chain_least d x = subst (λ (xs : List ℕ). 1 ≤ length xs) (sym (chain_is d x)) (omega arith)

all_at : (P : ℕ → Bool) (xs : List ℕ) (n : ℕ) → list_all P xs ≡ true → is_among xs n ≡ true → P n ≡ true
all_at P [] n all h = absurd (false≢true h)
all_at P (x ∷ xs) n all h =
    let parts = both (P x) (list_all P xs) all in
    ⊎_elim (λ e. subst (λ (y : ℕ). P y ≡ true) (same x n e) parts.0) (λ e. all_at P xs n parts.1 e) (either (x == n) (is_among xs n) h)

in_range : (a n x : ℕ) → a ≤ x → x < a + n → is_among (range_with_len a n) x ≡ true
in_range a zero x low high = absurd (omega arith)
in_range a (suc n) x low high = from (λ h. in_range (a + 1) n x h (omega arith)) (a == x) refl
  where
    from : (a + 1 ≤ x → is_among (range_with_len (a + 1) n) x ≡ true) → (b : Bool) → (a == x) ≡ b → is_among (range_with_len a (suc n)) x ≡ true
    from more true e = on_left (a == x) _ e
    from more false e = let past : a + 1 ≤ x = grind (arith, nat_tests) in on_right (a == x) _ (more past)

-- the chain of each built-in class is longer than those of its supers
listed : (d : Declarations) → list_all (λ x. list_all (λ e. nat_lt (length (chain d e)) (length (chain d x))) (supers_within 5 d (super_of d x))) (range_with_len 0 23) ≡ true
unfolding chain
listed d = refl

abbrev IsLonger : Declarations → ℕ → ℕ → Type 0
IsLonger d x e = length (chain d e) < length (chain d x)

built_in : (d : Declarations) (x e : ℕ) → x < 23 → is_among (supers_within 5 d (super_of d x)) e ≡ true → IsLonger d x e
built_in d x e low h =
    let over = all_at (λ y. list_all (λ c. nat_lt (length (chain d c)) (length (chain d y))) (supers_within 5 d (super_of d y))) (range_with_len 0 23) x (listed d) (in_range 0 23 x (omega arith) low) in
    true_below (length (chain d e)) (length (chain d x)) (all_at (λ c. nat_lt (length (chain d c)) (length (chain d x))) (supers_within 5 d (super_of d x)) e over h)

-- a class of the program extends Thread or Object
above : (d : Declarations) (x e : ℕ) (class : PlainClass) → chain d x ≡ x ∷ supers_within 5 d (user_super (Some class)) → is_among (supers_within 5 d (user_super (Some class))) e ≡ true → IsLonger d x e
unfolding chain
above d x e class is h = by class.is_thread is h
  where
    by : (b : Bool) → chain d x ≡ x ∷ supers_within 5 d (Some (if b then 1 else 0)) → is_among (supers_within 5 d (Some (if b then 1 else 0))) e ≡ true → IsLonger d x e
    by true is' h' =
        ⊎_elim
        (λ a. subst (λ (xs : List ℕ). length (chain d e) < length xs) (sym is') (subst (λ (y : ℕ). length (chain d y) < 3) (same 1 e a) (omega arith)))
        (λ a. ⊎_elim
        (λ a'. subst (λ (xs : List ℕ). length (chain d e) < length xs) (sym is') (subst (λ (y : ℕ). length (chain d y) < 3) (same 0 e a') (omega arith)))
        (λ a'. absurd (false≢true a')) (either (0 == e) false a))
        (either (1 == e) _ h')
    by false is' h' =
        ⊎_elim
        (λ a. subst (λ (xs : List ℕ). length (chain d e) < length xs) (sym is') (subst (λ (y : ℕ). length (chain d y) < 2) (same 0 e a) (omega arith)))
        (λ a. absurd (false≢true a)) (either (0 == e) false h')

no_super : (d : Declarations) (x e : ℕ) → super_of d x ≡ None → is_among (supers_within 5 d (super_of d x)) e ≡ true → IsLonger d x e
no_super d x e none h = absurd (false≢true (subst (λ (o : Option ℕ). is_among (supers_within 5 d o) e ≡ true) none h))

-- the chain of a class is longer than those of its supers
pub longer : (d : Declarations) (x e : ℕ) → is_among (supers_within 5 d (super_of d x)) e ≡ true → IsLonger d x e
longer d x e h = by (nat_le 32 x) refl
  where
    user : (o : Option PlainClass) → super_of d x ≡ user_super o → IsLonger d x e
    user None is = no_super d x e is h
    user (Some class) is =
        above d x e class (chain_is d x ∙ ap (λ (o : Option ℕ). x ∷ supers_within 5 d o) is) (subst (λ (o : Option ℕ). is_among (supers_within 5 d o) e ≡ true) is h)

    below : (b : Bool) → nat_lt x 23 ≡ b → nat_le 32 x ≡ false → IsLonger d x e
    below true lt few = let low : x < 23 = grind (arith, nat_tests) in built_in d x e low h
    below false lt few =
        let high : 23 ≤ x = grind (arith, nat_tests) in
        let none : super_of d x ≡ None = rw few (ap listed_super (slice_get_past built_in_supers x high)) in
        no_super d x e none h

    by : (b : Bool) → nat_le 32 x ≡ b → IsLonger d x e
    by true high = let is : super_of d x ≡ user_super (class_at d x) = rw high refl in user (class_at d x) is
    by false few = below (nat_lt x 23) refl few

-- the nearest class that both are or extend has no longer a chain than the second, and a shorter one where it is another class
abbrev NearestRank : Declarations → ℕ → Bool → Option ℕ → Type 0
NearestRank d c among None = Unit {0}
NearestRank d c true (Some e) = length (chain d e) ≤ length (chain d c)
NearestRank d c false (Some e) = length (chain d e) < length (chain d c)

nearest_rank : (d : Declarations) (b c : ℕ) → NearestRank d c (is_among (chain d b) c) (nearest_super d b c)
nearest_rank d b c =
    subst (λ (xs : List ℕ). NearestRank d c (is_among (chain d b) c) (first_common (chain d b) xs)) (sym (chain_is d c))
    (by (is_among (chain d b) c) (first_common (chain d b) (supers_within 5 d (super_of d c))) (common (chain d b) (supers_within 5 d (super_of d c))))
  where
    by : (among : Bool) (o : Option ℕ) → IsCommon (chain d b) (supers_within 5 d (super_of d c)) o → NearestRank d c among (if among then Some c else o)
    by true o h = omega arith
    by false None h = tt
    by false (Some e) h = longer d c e h.1

-- ---- kinds

pub rank : PlainProgram → Kind → ℕ
rank p kind.Int = 1
rank p kind.Null = 9
rank p (kind.Ref c) = length (chain (declarations_of p) c)
rank p kind.Arr = 8
rank p kind.Args = 1

pub rank_most : (p : PlainProgram) (k : Kind) → rank p k ≤ 9
unfolding rank
rank_most p kind.Int = omega arith
rank_most p kind.Null = omega arith
rank_most p (kind.Ref c) = let few : length (chain (declarations_of p) c) ≤ 6 = chain_most (declarations_of p) c in omega arith
rank_most p kind.Arr = omega arith
rank_most p kind.Args = omega arith

pub rank_least : (p : PlainProgram) (k : Kind) → 1 ≤ rank p k
unfolding rank
rank_least p kind.Int = omega arith
rank_least p kind.Null = omega arith
rank_least p (kind.Ref c) = chain_least (declarations_of p) c
rank_least p kind.Arr = omega arith
rank_least p kind.Args = omega arith

-- what a kind is merged to, by whether it was subsumed
abbrev pub Lowers : PlainProgram → Kind → Bool → Option Kind → Type 0
Lowers p l subsumed None = Unit {0}
Lowers p l true (Some k) = rank p k ≤ rank p l
Lowers p l false (Some k) = rank p k < rank p l

same_lowers : (p : PlainProgram) (l : Kind) (b : Bool) → b ≡ true → Lowers p l b (Some l)
same_lowers p l true e = omega arith
same_lowers p l false e = absurd (false≢true e)

lower : (p : PlainProgram) (k l : Kind) (b : Bool) → rank p k < rank p l → Lowers p l b (Some k)
lower p k l true h = omega arith
lower p k l false h = h

classes_lower : (p : PlainProgram) (c d : ℕ) (b : Bool) (o : Option ℕ) → NearestRank (declarations_of p) d b o → Lowers p (kind.Ref d) b (option_map kind.Ref o)
unfolding rank
classes_lower p c d b None h = tt
classes_lower p c d true (Some e) h = h
classes_lower p c d false (Some e) h = h

-- an object and an array
object_lower : (p : PlainProgram) (c : ℕ) (b : Bool) → Lowers p kind.Arr false (if b then Some (kind.Ref 0) else None)
unfolding rank
object_lower p c true = let few : length (chain (declarations_of p) 0) ≤ 6 = chain_most (declarations_of p) 0 in omega arith
object_lower p c false = tt

-- an array and an object: the object's class is Object, or extends it
array_lower : (p : PlainProgram) (c : ℕ) (b : Bool) → is_among (chain (declarations_of p) c) 0 ≡ b → Lowers p (kind.Ref c) (c == 0) (if b then Some (kind.Ref 0) else None)
unfolding rank
array_lower p c false is = tt
array_lower p c true is = by (c == 0) refl
  where
    d : Declarations
    d = declarations_of p

    by : (b : Bool) → (c == 0) ≡ b → Lowers p (kind.Ref c) b (Some (kind.Ref 0))
    by true e = subst (λ (x : ℕ). length (chain d 0) ≤ length (chain d x)) (sym (same c 0 e)) (omega arith)
    by false e =
        ⊎_elim (λ a. absurd (false≢true (sym e ∙ a))) (λ a. longer d c 0 a)
        (either (c == 0) (is_among (supers_within 5 d (super_of d c)) 0) (subst (λ (xs : List ℕ). is_among xs 0 ≡ true) (chain_is d c) is))

pub kind_lowers : (p : PlainProgram) (k l : Kind) → Lowers p l (is_subsumed p k l) (merged_kind p k l)
unfolding rank
kind_lowers p kind.Int kind.Int = omega arith
kind_lowers p kind.Int kind.Null = tt
kind_lowers p kind.Int (kind.Ref d) = tt
kind_lowers p kind.Int kind.Arr = tt
kind_lowers p kind.Int kind.Args = tt
kind_lowers p kind.Null kind.Int = tt
kind_lowers p kind.Null kind.Null = omega arith
kind_lowers p kind.Null (kind.Ref d) = omega arith
kind_lowers p kind.Null kind.Arr = omega arith
kind_lowers p kind.Null kind.Args = tt
kind_lowers p (kind.Ref c) kind.Int = tt
kind_lowers p (kind.Ref c) kind.Null = let few : length (chain (declarations_of p) c) ≤ 6 = chain_most (declarations_of p) c in omega arith
kind_lowers p (kind.Ref c) (kind.Ref d) =
    classes_lower p c d (is_among (chain (declarations_of p) c) d) (nearest_super (declarations_of p) c d) (nearest_rank (declarations_of p) c d)
kind_lowers p (kind.Ref c) kind.Arr = object_lower p c (is_among (chain (declarations_of p) c) 0)
kind_lowers p (kind.Ref c) kind.Args = tt
kind_lowers p kind.Arr kind.Int = tt
kind_lowers p kind.Arr kind.Null = omega arith
kind_lowers p kind.Arr (kind.Ref d) = array_lower p d (is_among (chain (declarations_of p) d) 0) refl
kind_lowers p kind.Arr kind.Arr = omega arith
kind_lowers p kind.Arr kind.Args = tt
kind_lowers p kind.Args kind.Int = tt
kind_lowers p kind.Args kind.Null = tt
kind_lowers p kind.Args (kind.Ref d) = tt
kind_lowers p kind.Args kind.Arr = tt
kind_lowers p kind.Args kind.Args = omega arith
