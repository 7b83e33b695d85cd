-- Reads of a reversed list.
use Rattle.std.proofs.Common.{◌≡◌, ℕ, ◌+◌, ◌-◌, ◌<◌, ◌≤◌, List, ◌++◌, length, take, drop, reverse, Some, None, refl, sym, ◌∙◌, ap, arith, get_or, add-one, ⊎_elim}
use Rattle.std.specs.Prelude.{slice_get}
use Rattle.std.proofs.Math.Seq.{drop-cons, take-append_seam, drop-append_seam}
use Rattle.std.proofs.lemmas.List.{get_or-reverse, length-reverse, reverse-append, reverse-reverse, take-append-drop, length-drop, take_all}
use Rattle.std.proofs.lemmas.Option.{slice_get_read, slice_get_past}
use Rattle.std.proofs.lemmas.Bool.{cases_lt}
use Rattle.std.proofs.Math.ListN.{drop_of_length-le}
use Rattle.vm_model.specs.declared.value.Value.{Value}
use Rattle.machine_model.specs.Operands.{top_of}

-- the value at a depth, and what is below it
pub top_of-drop-reverse : (xs : List Value) (d : ℕ) (v : Value) → d < length xs → v ≡ get_or xs (length xs - 1 - d) v → top_of (drop d (reverse xs)) ≡ Some (v, drop (d + 1) (reverse xs))
top_of-drop-reverse xs d v h e =
    let within : d < length (reverse xs) = omega (arith, length-reverse xs) in
    let cut = drop-cons (reverse xs) d v within in
    let read = get_or-reverse xs d v h in
    rw (cut, read, ← e, add-one) refl

pub slice_get-reverse : (xs : List Value) (d : ℕ) (v : Value) → d < length xs → v ≡ get_or xs (length xs - 1 - d) v → slice_get (reverse xs) d ≡ Some v
slice_get-reverse xs d v h e = slice_get_read (reverse xs) (length xs) d v (sym (length-reverse xs)) h (e ∙ sym (get_or-reverse xs d v h))

pub slice_get-reverse_past : (xs : List Value) (d : ℕ) → length xs ≤ d → slice_get (reverse xs) d ≡ None
slice_get-reverse_past xs d h = slice_get_past (reverse xs) d (omega (arith, length-reverse xs))

-- the last n values, turned round, are the first n of the list turned round
pub reverse-cut : (xs : List Value) (n k : ℕ) → k + n ≡ length xs → (reverse (drop k xs) ≡ take n (reverse xs)) × (reverse (take k xs) ≡ drop n (reverse xs))
reverse-cut xs n k e =
    let whole : reverse xs ≡ reverse (drop k xs) ++ reverse (take k xs) = sym (ap reverse (take-append-drop k xs)) ∙ reverse-append (take k xs) (drop k xs) in
    let long : n ≡ length (reverse (drop k xs)) = omega (arith, length-reverse (drop k xs), length-drop k xs) in (
      sym (ap (take n) whole ∙ ap (λ m. take m (reverse (drop k xs) ++ reverse (take k xs))) long ∙ take-append_seam (reverse (drop k xs)) (reverse (take k xs))),
      sym (ap (drop n) whole ∙ ap (λ m. drop m (reverse (drop k xs) ++ reverse (take k xs))) long ∙ drop-append_seam (reverse (drop k xs)) (reverse (take k xs))),
    )

-- the last n values, or all where there are fewer
pub drop-as-reverse : (xs : List Value) (k n m : ℕ) → k ≡ length xs - n → m ≡ length xs - k → take m (drop k xs) ≡ reverse (take n (reverse xs))
drop-as-reverse xs k n m e l = ⊎_elim past within (cases_lt (length xs) n)
  where
    whole : take m (drop k xs) ≡ drop k xs
    whole = take_all m (drop k xs) (omega (arith, length-drop k xs))

    past : length xs < n → take m (drop k xs) ≡ reverse (take n (reverse xs))
    past h =
        let none : k ≡ 0 = omega arith in
        let all : take n (reverse xs) ≡ reverse xs = take_all n (reverse xs) (omega (arith, length-reverse xs)) in
        whole ∙ ap (λ j. drop j xs) none ∙ sym (ap reverse all ∙ reverse-reverse xs)

    within : n ≤ length xs → take m (drop k xs) ≡ reverse (take n (reverse xs))
    within h = whole ∙ sym (reverse-reverse (drop k xs)) ∙ ap reverse ((reverse-cut xs n k (omega arith)).0)

pub reverse-take : (xs : List Value) (k n : ℕ) → k ≡ length xs - n → reverse (take k xs) ≡ drop n (reverse xs)
reverse-take xs k n e = ⊎_elim past within (cases_lt (length xs) n)
  where
    past : length xs < n → reverse (take k xs) ≡ drop n (reverse xs)
    past h =
        let none : k ≡ 0 = omega arith in
        let all : length (reverse xs) ≤ n = omega (arith, length-reverse xs) in
        ap (λ m. reverse (take m xs)) none ∙ sym (drop_of_length-le (reverse xs) all)

    within : n ≤ length xs → reverse (take k xs) ≡ drop n (reverse xs)
    within h = (reverse-cut xs n k (omega arith)).1
