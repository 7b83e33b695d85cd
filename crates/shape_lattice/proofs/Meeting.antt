-- Merging in place, one operand after another, and in the order of the code, in which the top is last.
use Rattle.std.proofs.Common.{◌≡◌, ℕ, suc, ◌+◌, ◌-◌, ◌<◌, Bool, true, false, List, [], ◌∷◌, ◌++◌, length, reverse, take, drop, Option, Some, None, Ok, refl, sym, ◌∙◌, ap, arith, eq-eqb}
use Rattle.std.specs.Prelude.{◌==◌, ◌&&◌, if◌then◌else◌, option_map}
use Rattle.std.proofs.Math.Seq.{take-append_seam}
use Rattle.std.proofs.lemmas.List.{reverse-append, length-reverse}
use Rattle.std.proofs.lemmas.Bool.{false≢true}
use Rattle.vm_model.specs.declared.value.Kind.{Kind}
use Rattle.vm_model.specs.Program.{PlainProgram}
use Rattle.machine_model.specs.Declarations.{Declarations}
use Rattle.machine_model.specs.Kinds.{chain, supers_within, super_of}
use Rattle.machine_model.specs.Shapes.{Shape, is_subsumed}
use Rattle.class_kinds.specs.Classes.{is_among}
use Rattle.shape_lattice.specs.Merging.{merged_kind, merged_kinds, merged_locals, with_top, takes_kinds, takes_locals, takes, merged_shape, first_common, nearest_super, merged_over}

-- one more super is looked at
pub one_super_more : (d : Declarations) (depth class : ℕ) → depth < 6 → supers_within (6 - depth) d (Some class) ≡ class ∷ supers_within (6 - (depth + 1)) d (super_of d class)
one_super_more d depth class low = let e : 6 - depth ≡ suc (6 - (depth + 1)) = omega arith in ap (λ (n : ℕ). supers_within n d (Some class)) e

-- a class that isn't a super of the first is passed by
pub next_super : (d : Declarations) (depth first class : ℕ) (from found : Option ℕ) → depth < 6 → from ≡ Some class → is_among (chain d first) class ≡ false
    → first_common (chain d first) (supers_within (6 - depth) d from) ≡ found → first_common (chain d first) (supers_within (6 - (depth + 1)) d (super_of d class)) ≡ found
next_super d depth first class from found low is none e =
    sym (ap (λ (b : Bool). if b then Some class else first_common (chain d first) (supers_within (6 - (depth + 1)) d (super_of d class))) none)
    ∙ sym (ap (λ (xs : List ℕ). first_common (chain d first) xs) (ap (λ (o : Option ℕ). supers_within (6 - depth) d o) is ∙ one_super_more d depth class low))
    ∙ e

pub all_supers : (d : Declarations) (first second : ℕ) → first_common (chain d first) (supers_within 6 d (Some second)) ≡ nearest_super d first second
unfolding chain
all_supers d first second = refl

-- ---- the order of the code

and_false : (b : Bool) → (b && false) ≡ false
and_false true = refl
and_false false = refl

and_other : (a b : Bool) → (a && b) ≡ (b && a)
and_other true true = refl
and_other true false = refl
and_other false true = refl
and_other false false = refl

and_three : (a b c : Bool) → (a && (b && c)) ≡ ((a && b) && c)
and_three true b c = refl
and_three false b c = refl

none_takes : (p : PlainProgram) (ls : List Kind) (l : Kind) → takes_kinds p [] (ls ++ l ∷ []) ≡ false
none_takes p [] l = refl
none_takes p (x ∷ ls) l = refl

takes_none : (p : PlainProgram) (ks : List Kind) (k : Kind) → takes_kinds p (ks ++ k ∷ []) [] ≡ false
takes_none p [] k = refl
takes_none p (x ∷ ks) k = refl

takes_more : (p : PlainProgram) (ks ls : List Kind) (k l : Kind) → takes_kinds p (ks ++ k ∷ []) (ls ++ l ∷ []) ≡ (takes_kinds p ks ls && is_subsumed p k l)
takes_more p [] [] k l = and_other (is_subsumed p k l) true
takes_more p [] (y ∷ ls) k l = ap (λ b. is_subsumed p k y && b) (none_takes p ls l) ∙ and_false (is_subsumed p k y)
takes_more p (x ∷ ks) [] k l = ap (λ b. is_subsumed p x l && b) (takes_none p ks k) ∙ and_false (is_subsumed p x l)
takes_more p (x ∷ ks) (y ∷ ls) k l = ap (λ b. is_subsumed p x y && b) (takes_more p ks ls k l) ∙ and_three (is_subsumed p x y) (takes_kinds p ks ls) (is_subsumed p k l)

-- the last is the top
turned_round : (k : Kind) (ks : List Kind) → reverse (k ∷ ks) ≡ reverse ks ++ k ∷ []
turned_round k ks = reverse-append (k ∷ []) ks

pub takes_reversed : (p : PlainProgram) (ks ls : List Kind) → takes_kinds p (reverse ks) (reverse ls) ≡ takes_kinds p ks ls
takes_reversed p [] [] = refl
takes_reversed p [] (l ∷ ls) = ap (λ xs. takes_kinds p [] xs) (turned_round l ls) ∙ none_takes p (reverse ls) l
takes_reversed p (k ∷ ks) [] = ap (λ xs. takes_kinds p xs []) (turned_round k ks) ∙ takes_none p (reverse ks) k
takes_reversed p (k ∷ ks) (l ∷ ls) =
    ap (λ xs. takes_kinds p xs (reverse (l ∷ ls))) (turned_round k ks)
    ∙ ap (λ xs. takes_kinds p (reverse ks ++ k ∷ []) xs) (turned_round l ls)
    ∙ takes_more p (reverse ks) (reverse ls) k l
    ∙ ap (λ b. b && is_subsumed p k l) (takes_reversed p ks ls)
    ∙ and_other (takes_kinds p ks ls) (is_subsumed p k l)

with_last : Option (List Kind) → Option Kind → Option (List Kind)
with_last None k = None
with_last (Some ks) None = None
with_last (Some ks) (Some k) = Some (ks ++ k ∷ [])

top_last : (k : Option Kind) (ks : Option (List Kind)) (l : Option Kind) → with_top k (with_last ks l) ≡ with_last (with_top k ks) l
unfolding with_last
top_last None ks l = refl
top_last (Some k) None l = refl
top_last (Some k) (Some ks) None = refl
top_last (Some k) (Some ks) (Some l) = refl

no_rest : (k : Option Kind) → with_top k None ≡ None
no_rest None = refl
no_rest (Some k) = refl

none_merged : (p : PlainProgram) (ls : List Kind) (l : Kind) → merged_kinds p [] (ls ++ l ∷ []) ≡ None
none_merged p [] l = refl
none_merged p (x ∷ ls) l = refl

merged_none : (p : PlainProgram) (ks : List Kind) (k : Kind) → merged_kinds p (ks ++ k ∷ []) [] ≡ None
merged_none p [] k = refl
merged_none p (x ∷ ks) k = refl

one_last : (k : Option Kind) → with_top k (Some []) ≡ with_last (Some []) k
unfolding with_last
one_last None = refl
one_last (Some k) = refl

merged_more : (p : PlainProgram) (ks ls : List Kind) (k l : Kind) → merged_kinds p (ks ++ k ∷ []) (ls ++ l ∷ []) ≡ with_last (merged_kinds p ks ls) (merged_kind p k l)
unfolding with_last
merged_more p [] [] k l = one_last (merged_kind p k l)
merged_more p [] (y ∷ ls) k l = ap (λ o. with_top (merged_kind p k y) o) (none_merged p ls l) ∙ no_rest (merged_kind p k y)
merged_more p (x ∷ ks) [] k l = ap (λ o. with_top (merged_kind p x l) o) (merged_none p ks k) ∙ no_rest (merged_kind p x l)
merged_more p (x ∷ ks) (y ∷ ls) k l = ap (λ o. with_top (merged_kind p x y) o) (merged_more p ks ls k l) ∙ top_last (merged_kind p x y) (merged_kinds p ks ls) (merged_kind p k l)

last_is_top : (ks : Option (List Kind)) (k : Option Kind) → with_last (option_map reverse ks) k ≡ option_map reverse (with_top k ks)
unfolding with_last
last_is_top None None = refl
last_is_top None (Some k) = refl
last_is_top (Some ks) None = refl
last_is_top (Some ks) (Some k) = ap Some (sym (turned_round k ks))

pub merged_reversed : (p : PlainProgram) (ks ls : List Kind) → merged_kinds p (reverse ks) (reverse ls) ≡ option_map reverse (merged_kinds p ks ls)
merged_reversed p [] [] = refl
merged_reversed p [] (l ∷ ls) = ap (λ xs. merged_kinds p [] xs) (turned_round l ls) ∙ none_merged p (reverse ls) l
merged_reversed p (k ∷ ks) [] = ap (λ xs. merged_kinds p xs []) (turned_round k ks) ∙ merged_none p (reverse ks) k
merged_reversed p (k ∷ ks) (l ∷ ls) =
    ap (λ xs. merged_kinds p xs (reverse (l ∷ ls))) (turned_round k ks)
    ∙ ap (λ xs. merged_kinds p (reverse ks ++ k ∷ []) xs) (turned_round l ls)
    ∙ merged_more p (reverse ks) (reverse ls) k l
    ∙ ap (λ o. with_last o (merged_kind p k l)) (merged_reversed p ks ls)
    ∙ last_is_top (merged_kinds p ks ls) (merged_kind p k l)

-- ---- in place

abbrev pub merged_behind : List Kind → Option (List Kind) → Option (List Kind)
merged_behind front None = None
merged_behind front (Some rest) = Some (front ++ rest)

-- ---- shapes, whose stacks the code has with the top last

abbrev pub in_order : List Kind → List (Option Kind) → Shape
in_order stack locals = record { stack = reverse stack; locals = locals }

takes_so : (p : PlainProgram) (s t : List Kind) (ks ls : List (Option Kind)) → takes p (in_order s ks) (in_order t ls) ≡ (takes_kinds p s t && takes_locals p ks ls)
takes_so p s t ks ls = ap (λ b. b && takes_locals p ks ls) (takes_reversed p s t)

pub takes_in_order : (p : PlainProgram) (new old : Shape) (s t s' t' : List Kind) (ks ls ks' ls' : List (Option Kind)) → in_order s ks ≡ new → in_order t ls ≡ old
    → s' ≡ s → t' ≡ t → ks' ≡ ks → ls' ≡ ls → takes p new old ≡ (takes_kinds p s' t' && takes_locals p ks' ls')
takes_in_order p new old s t s' t' ks ls ks' ls' is_new is_old es et eks els =
    let stacks : takes_kinds p s t ≡ takes_kinds p s' t' = cc in
    let locals : takes_locals p ks ls ≡ takes_locals p ks' ls' = cc in
    sym (ap (λ n. takes p n old) is_new) ∙ sym (ap (λ o. takes p (in_order s ks) o) is_old) ∙ takes_so p s t ks ls
    ∙ ap (λ b. b && takes_locals p ks ls) stacks ∙ ap (λ b. takes_kinds p s' t' && b) locals

pub takes_not : (p : PlainProgram) (new old : Shape) (s t s' t' : List Kind) (ks ls : List (Option Kind)) → in_order s ks ≡ new → in_order t ls ≡ old
    → s' ≡ s → t' ≡ t → false ≡ takes_kinds p s' t' → false ≡ takes p new old
takes_not p new old s t s' t' ks ls is_new is_old es et none =
    ap (λ b. b && takes_locals p ks ls) none ∙ sym (takes_in_order p new old s t s' t' ks ls ks ls is_new is_old es et refl refl)

if_true : {A : Type 0} (b : Bool) (x y : A) → b ≡ true → (if b then x else y) ≡ x
if_true true x y e = refl
if_true false x y e = absurd (false≢true e)

merged_so : (p : PlainProgram) (s t : List Kind) (ks ls : List (Option Kind)) → length s ≡ length t → merged_shape p (in_order s ks) (in_order t ls) ≡ merged_over (option_map reverse (merged_kinds p s t)) (merged_locals p ks ls)
merged_so p s t ks ls long =
    let as_long : length (reverse s) ≡ length (reverse t) = length-reverse s ∙ long ∙ sym (length-reverse t) in
    if_true (length (reverse s) == length (reverse t)) _ _ (eq-eqb (length (reverse s)) (length (reverse t)) as_long)
    ∙ ap (λ o. merged_over o (merged_locals p ks ls)) (merged_reversed p s t)

pub merged_in_order : (p : PlainProgram) (new old : Shape) (s t s' t' : List Kind) (ks ls : List (Option Kind)) (merged : Option (List Kind)) → in_order s ks ≡ new → in_order t ls ≡ old
    → s' ≡ s → t' ≡ t → length s' ≡ length t' → merged_kinds p s' t' ≡ merged → merged_shape p new old ≡ merged_over (option_map reverse merged) (merged_locals p ks ls)
merged_in_order p new old s t s' t' ks ls merged is_new is_old es et long em =
    sym (ap (λ n. merged_shape p n old) is_new) ∙ sym (ap (λ o. merged_shape p (in_order s ks) o) is_old)
    ∙ merged_so p s t ks ls (sym (ap length es) ∙ long ∙ ap length et)
    ∙ ap (λ o. merged_over (option_map reverse o) (merged_locals p ks ls)) (sym (ap (λ x. merged_kinds p x t) es) ∙ sym (ap (λ x. merged_kinds p s' x) et) ∙ em)

pub takes_both : (p : PlainProgram) (new old : Shape) (s t s' t' : List Kind) (ks ls ks' ls' : List (Option Kind)) (rest : Bool) → in_order s ks ≡ new → in_order t ls ≡ old
    → s' ≡ s → t' ≡ t → ks' ≡ ks → ls' ≡ ls → true ≡ takes_kinds p s' t' → rest ≡ takes_locals p ks' ls' → rest ≡ takes p new old
takes_both p new old s t s' t' ks ls ks' ls' rest is_new is_old es et eks els stacks locals =
    locals ∙ ap (λ b. b && takes_locals p ks' ls') stacks ∙ sym (takes_in_order p new old s t s' t' ks ls ks' ls' is_new is_old es et eks els)

pub merged_both : (p : PlainProgram) (new old : Shape) (s t s' t' merged : List Kind) (ks ls ks' ls' locals : List (Option Kind)) → in_order s ks ≡ new → in_order t ls ≡ old
    → s' ≡ s → t' ≡ t → ks' ≡ ks → ls' ≡ ls → length s' ≡ length t' → merged_kinds p s' t' ≡ Some merged → locals ≡ merged_locals p ks' ls' → merged_shape p new old ≡ Ok (in_order merged locals)
merged_both p new old s t s' t' merged ks ls ks' ls' locals is_new is_old es et eks els long em el =
    let same : merged_locals p ks ls ≡ locals = cc in
    merged_in_order p new old s t s' t' ks ls (Some merged) is_new is_old es et long em ∙ ap (λ l. Ok (in_order merged l)) same

-- a list that was written to through a slice
refilled : {A : Type 0} (n : ℕ) (old new : List A) → length new ≡ n → take n (new ++ drop (length new) old) ≡ new
refilled n old new e = sym (ap (λ k. take k (new ++ drop (length new) old)) e) ∙ take-append_seam new (drop (length new) old)

pub merged_in_place : (p : PlainProgram) (new old : Shape) (s t s' t' merged : List Kind) (ks ls ks' ls' locals : List (Option Kind)) → in_order s ks ≡ new → in_order t ls ≡ old
    → s' ≡ s → t' ≡ t → ks' ≡ ks → ls' ≡ ls → length s' ≡ length t' → merged_kinds p s' t' ≡ Some merged → locals ≡ merged_locals p ks' ls'
    → (n m : ℕ) (old_stack : List Kind) (old_locals : List (Option Kind)) → length merged ≡ n → length locals ≡ m
    → merged_shape p new old ≡ Ok (in_order (take n (merged ++ drop (length merged) old_stack)) (take m (locals ++ drop (length locals) old_locals)))
merged_in_place p new old s t s' t' merged ks ls ks' ls' locals is_new is_old es et eks els long em el n m old_stack old_locals en eloc =
    merged_both p new old s t s' t' merged ks ls ks' ls' locals is_new is_old es et eks els long em el
    ∙ ap (λ x. Ok (in_order x locals)) (sym (refilled n old_stack merged en))
    ∙ ap (λ x. Ok (in_order (take n (merged ++ drop (length merged) old_stack)) x)) (sym (refilled m old_locals locals eloc))
