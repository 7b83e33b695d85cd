-- Labels, as a set keeps them.
use Rattle.std.proofs.Common.{◌≡◌, ℕ, Bool, false, ◌||◌, List, [], ◌∷◌, ◌++◌, map, if◌then◌else◌, refl, ap, ◌∙◌, bytes_eq, Vec}
use Rattle.std.specs.List.{list_any}
use Rattle.std.proofs.lemmas.List.{map-append}
use Rattle.indexmap.specs.IndexSet.{insert_key}

abbrev pub name : {A : Type 0} → Vec ℕ A → List ℕ
name k = k.items

pub found-name : {A : Type 0} (key : List ℕ) (ks : List (Vec ℕ A)) → list_any (λ (k : Vec ℕ A). bytes_eq key k.items) ks ≡ list_any (bytes_eq key) (map name ks)
found-name key [] = refl
found-name key (k ∷ ks) = ap (λ (rest : Bool). bytes_eq key k.items || rest) (found-name key ks)

pub added-name : {A : Type 0} (key : List ℕ) (k : Vec ℕ A) (ks new : List (Vec ℕ A)) (names : List (List ℕ)) → map name ks ≡ names → k.items ≡ key → new ≡ insert_key (λ (a b : Vec ℕ A). bytes_eq a.items b.items) ks k → list_any (bytes_eq key) names ≡ false → map name new ≡ names ++ key ∷ []
added-name {A = A} key k ks new names same is added absent =
    let there : list_any (λ (x : Vec ℕ A). bytes_eq k.items x.items) ks ≡ false = found-name k.items ks ∙ ap (λ (x : List ℕ). list_any (bytes_eq x) (map name ks)) is ∙ ap (list_any (bytes_eq key)) same ∙ absent in
    let last : new ≡ ks ++ k ∷ [] = added ∙ ap (λ (b : Bool). if b then ks else ks ++ k ∷ []) there in
    ap (map name) last ∙ map-append name ks (k ∷ []) ∙ ap (λ (x : List ℕ). map name ks ++ x ∷ []) is ∙ ap (λ (x : List (List ℕ)). x ++ key ∷ []) same
