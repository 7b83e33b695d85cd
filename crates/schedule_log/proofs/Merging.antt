-- Two lists in order become one.
use Rattle.std.proofs.Common.{◌≡◌, ℕ, zero, suc, ◌+◌, ◌<◌, ◌≤◌, List, [], ◌∷◌, ◌++◌, length, get_or, drop, refl, sym, ap, subst, ◌∙◌, append_assoc, arith}
use Rattle.std.proofs.lemmas.Bool.{lt-ltb}
use Rattle.std.proofs.lemmas.List.{drop_more, drop_all, append-nil}
use Rattle.schedule_log.specs.declared.interval.Interval.{Interval}
use Rattle.schedule_log.specs.Ordered.{ApartFrom}
use Rattle.schedule_log.specs.Intervals.{MaximalFrom}
use Rattle.schedule_log.specs.Logs.{put, put_all}
use Rattle.schedule_log.proofs.Spelled.{apart_lower, put_all_behind}

pub apart_drop : (k from : ℕ) (is : List Interval) → ApartFrom from is → ApartFrom from (drop k is)
apart_drop zero from is s = s
apart_drop (suc k) from [] s = tt
apart_drop (suc k) from (i ∷ is) s = apart_drop k from is (apart_lower from (i.last + 1) is s.2 (omega (arith, s.0, s.1)))

pub apart_first : (k : ℕ) (is : List Interval) (d : Interval) → k < length is → ApartFrom 0 is → ApartFrom (get_or is k d).first (drop k is)
apart_first k is d lt s =
    let here : ApartFrom 0 (get_or is k d ∷ drop (k + 1) is) = subst (ApartFrom 0) (drop_more is k d lt) (apart_drop k 0 is s) in
    subst (ApartFrom (get_or is k d).first) (sym (drop_more is k d lt)) (omega arith, here.1, here.2)

pub take_placed : (i : ℕ) (j : ℕ) (placed more all whole : List Interval) (d : Interval) → i < length placed → j < length more → ApartFrom 0 more → (get_or placed i d).first ≤ (get_or more j d).first → all ++ put_all (drop i placed) (drop j more) ≡ whole
    → (all ++ get_or placed i d ∷ []) ++ put_all (drop (i + 1) placed) (drop j more) ≡ whole
take_placed i j placed more all whole d li lj s le so_far =
    let a = get_or placed i d in
    append_assoc all (a ∷ []) (put_all (drop (i + 1) placed) (drop j more))
    ∙ ap (λ (r : List Interval). all ++ r) (sym (put_all_behind (get_or more j d).first a (drop (i + 1) placed) (drop j more) (apart_first j more d lj s) le) ∙ ap (λ (xs : List Interval). put_all xs (drop j more)) (sym (drop_more placed i d li)))
    ∙ so_far

pub take_more_first : (i : ℕ) (j : ℕ) (placed more all whole : List Interval) (d : Interval) → i < length placed → j < length more → ApartFrom 0 more → (get_or more j d).first < (get_or placed i d).first → all ++ put_all (drop i placed) (drop j more) ≡ whole
    → (all ++ get_or more j d ∷ []) ++ put_all (drop i placed) (drop (j + 1) more) ≡ whole
take_more_first i j placed more all whole d li lj s lt so_far =
    let a = get_or placed i d in
    let b = get_or more j d in
    let rest : ApartFrom b.first (b ∷ drop (j + 1) more) = subst (ApartFrom b.first) (drop_more more j d lj) (apart_first j more d lj s) in
    let first : put b (a ∷ drop (i + 1) placed) ≡ b ∷ (a ∷ drop (i + 1) placed) = rw (lt-ltb b.first a.first lt) refl in
    let one : put_all (drop i placed) (drop j more) ≡ b ∷ put_all (drop i placed) (drop (j + 1) more) =
    ap (put_all (drop i placed)) (drop_more more j d lj)
    ∙ ap (λ (xs : List Interval). put_all (put b xs) (drop (j + 1) more)) (drop_more placed i d li)
    ∙ ap (λ (xs : List Interval). put_all xs (drop (j + 1) more)) first
    ∙ put_all_behind (b.last + 1) b (a ∷ drop (i + 1) placed) (drop (j + 1) more) rest.2 (omega (arith, rest.1))
    ∙ ap (λ (xs : List Interval). b ∷ put_all xs (drop (j + 1) more)) (sym (drop_more placed i d li)) in
    append_assoc all (b ∷ []) (put_all (drop i placed) (drop (j + 1) more)) ∙ ap (λ (r : List Interval). all ++ r) (sym one) ∙ so_far

put_all_nil : (from : ℕ) (more : List Interval) → ApartFrom from more → put_all [] more ≡ more
put_all_nil from [] s = refl
put_all_nil from (i ∷ more) s = put_all_behind (i.last + 1) i [] more s.2 (omega (arith, s.1)) ∙ ap (λ (r : List Interval). i ∷ r) (put_all_nil (i.last + 1) more s.2)

pub ends_placed : (i j : ℕ) (placed more all whole : List Interval) → length placed ≤ i → ApartFrom 0 more → all ++ put_all (drop i placed) (drop j more) ≡ whole → (all ++ drop i placed) ++ drop j more ≡ whole
ends_placed i j placed more all whole le s so_far =
    let none : drop i placed ≡ [] = drop_all i placed le in
    ap (λ (r : List Interval). (all ++ r) ++ drop j more) none ∙ ap (λ (r : List Interval). r ++ drop j more) (append-nil all)
    ∙ ap (λ (r : List Interval). all ++ r) (sym (put_all_nil 0 (drop j more) (apart_drop j 0 more s)) ∙ ap (λ (xs : List Interval). put_all xs (drop j more)) (sym none)) ∙ so_far

pub ends_more : (i j : ℕ) (placed more all whole : List Interval) → length more ≤ j → all ++ put_all (drop i placed) (drop j more) ≡ whole → (all ++ drop i placed) ++ drop j more ≡ whole
ends_more i j placed more all whole le so_far =
    let none : drop j more ≡ [] = drop_all j more le in
    ap (λ (r : List Interval). (all ++ drop i placed) ++ r) none ∙ append-nil (all ++ drop i placed) ∙ ap (λ (r : List Interval). all ++ put_all (drop i placed) r) (sym none) ∙ so_far

-- the intervals of one thread are in order
pub apart_from_maximal : (t from : ℕ) (is : List Interval) → MaximalFrom t from is → ApartFrom from is
apart_from_maximal t from [] s = tt
apart_from_maximal t from (i ∷ is) s = (s.1, s.2, apart_lower (i.last + 1) (i.last + 2) is (apart_from_maximal t (i.last + 2) is s.3) (omega arith))
