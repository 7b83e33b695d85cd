-- The types of parameters, one after the other.
use Rattle.std.proofs.Common.{◌≡◌, ℕ, zero, suc, ◌-◌, ◌≤◌, true, false, List, [], ◌∷◌, ◌++◌, length, nat_eq, refl, arith, ◌⊎◌, inl, inr}
use Rattle.std.proofs.lemmas.List.{append-nil, append_assoc}
use Rattle.std.proofs.lemmas.Bool.Decides.{nat_tests}
use Rattle.name_resolver.specs.declared.descriptors.Typed.{Typed}
use Rattle.name_resolver.specs.Index.{Rows}
use Rattle.name_resolver.specs.Descriptors.{types_within, type_at, unless_bad}

pub one-more : (found : List Typed) (left : ℕ) (classes : Rows) (bytes : List ℕ) → 1 ≤ left → 1 ≤ length bytes → (found ++ (type_at classes bytes).0 ∷ []) ++ types_within (left - 1) classes (unless_bad (type_at classes bytes).0 (type_at classes bytes).1) ≡ found ++ types_within left classes bytes
unfolding types_within
one-more found zero classes bytes h some = absurd (omega arith)
one-more found (suc left) classes bytes h some =
    let less : suc left - 1 ≡ left = omega arith in
    let filled : nat_eq (length bytes) 0 ≡ false = grind (arith, nat_tests) in
    let next : List ℕ = unless_bad (type_at classes bytes).0 (type_at classes bytes).1 in
    rw (less, filled) (append_assoc found ((type_at classes bytes).0 ∷ []) (types_within left classes next))

pub none-left : (found : List Typed) (left : ℕ) (classes : Rows) (bytes : List ℕ) → (left ≡ 0) ⊎ (length bytes ≡ 0) → found ++ types_within left classes bytes ≡ found
unfolding types_within
none-left found zero classes bytes h = append-nil found
none-left found (suc left) classes bytes (inl h) = absurd (omega (arith, h))
none-left found (suc left) classes bytes (inr h) = let none : nat_eq (length bytes) 0 ≡ true = rw h refl in rw none (append-nil found)
