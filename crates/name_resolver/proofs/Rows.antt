-- The rows of an index, as its map keeps them.
use Rattle.std.proofs.Common.{◌≡◌, ℕ, Bool, true, false, List, [], ◌∷◌, ◌++◌, map, Option, Some, None, is_some, cond, refl, ap, ◌∙◌, bytes_eq, Vec}
use Rattle.std.specs.Map.{lookup}
use Rattle.indexmap.specs.IndexMap.{insert_entry}
use Rattle.name_resolver.specs.Index.{value_of, with_row}

abbrev pub row : {A : Type 0} → Vec ℕ A × ℕ → List ℕ × ℕ
row e = (e.0.items, e.1)

pub found-row : {A : Type 0} (key : List ℕ) (es : List (Vec ℕ A × ℕ)) → lookup (λ (k : Vec ℕ A). bytes_eq key k.items) es ≡ value_of key (map row es)
found-row key [] = refl
found-row key (e ∷ es) = ap (λ (rest : Option ℕ). cond (bytes_eq key e.0.items) (Some e.1) rest) (found-row key es)

pub added-row : {A : Type 0} (k : Vec ℕ A) (n : ℕ) (es : List (Vec ℕ A × ℕ)) → value_of k.items (map row es) ≡ None → map row (insert_entry (λ (a b : Vec ℕ A). bytes_eq a.items b.items) es k n) ≡ map row es ++ (k.items, n) ∷ []
added-row k n [] h = refl
added-row {A = A} k n (e ∷ es) h = by (bytes_eq k.items e.0.items) refl h (added-row k n es)
  where
    by : (b : Bool) → bytes_eq k.items e.0.items ≡ b → cond b (Some e.1) (value_of k.items (map row es)) ≡ None → (value_of k.items (map row es) ≡ None → map row (insert_entry (λ (a c : Vec ℕ A). bytes_eq a.items c.items) es k n) ≡ map row es ++ (k.items, n) ∷ []) → map row (cond b ((e.0, n) ∷ es) (e ∷ insert_entry (λ (a c : Vec ℕ A). bytes_eq a.items c.items) es k n)) ≡ row e ∷ map row es ++ (k.items, n) ∷ []
    by true is none rest = cc
    by false is none rest = ap (λ (x : List (List ℕ × ℕ)). row e ∷ x) (rest none)

none-from : {X : Type 0} (o : Option X) → is_some o ≡ false → o ≡ None
none-from None h = refl
none-from (Some x) h = cc

pub add-new : {A : Type 0} (key : List ℕ) (n : ℕ) (k : Vec ℕ A) (es new : List (Vec ℕ A × ℕ)) (rows : List (List ℕ × ℕ)) → map row es ≡ rows → k.items ≡ key → new ≡ insert_entry (λ (a b : Vec ℕ A). bytes_eq a.items b.items) es k n → is_some (value_of key rows) ≡ false → map row new ≡ with_row key n rows
add-new {A = A} key n k es new rows same is added absent =
    let none : value_of key rows ≡ None = none-from (value_of key rows) absent in
    let there : value_of k.items (map row es) ≡ None = ap (λ (x : List ℕ). value_of x (map row es)) is ∙ ap (value_of key) same ∙ none in
    let whole : map row new ≡ rows ++ (key, n) ∷ [] =
    ap (map row) added ∙ added-row k n es there ∙ ap (λ (x : List ℕ). map row es ++ (x, n) ∷ []) is ∙ ap (λ (x : List (List ℕ × ℕ)). x ++ (key, n) ∷ []) same in
    rw none whole
