-- The first file of a name, in a longer list and after a write.
use Rattle.std.proofs.Common.{◌≡◌, ℕ, zero, suc, ◌+◌, ◌-◌, ◌^◌, ◌<◌, ◌≤◌, inl, inr, Bool, true, false, cond, List, [], ◌∷◌, ◌++◌, length, take, Option, Some, None, refl, sym, ◌∙◌, ap, arith, get_or, set, add-one, drop, zero-add}
use Rattle.std.specs.Prelude.{◌==◌}
use Rattle.std.specs.Str.{bytes_eq}
use Rattle.std.specs.Cmp.Lexicographic.{bytes_decides}
use Rattle.tool_io.specs.Memory.{Stored, file_in}

same_bytes : (xs : List ℕ) → bytes_eq xs xs ≡ true
same_bytes xs = (bytes_decides xs xs).1 refl

not_true : (b : Bool) → (b ≡ true → ⊥) → b ≡ false
not_true true h = absurd (h refl)
not_true false h = refl

other_bytes : (xs ys : List ℕ) → (xs ≡ ys → ⊥) → bytes_eq xs ys ≡ false
other_bytes xs ys h = not_true (bytes_eq xs ys) (λ e. h ((bytes_decides xs ys).0 e))

cond_none : {A : Type 0} (b : Bool) (x : A) (o : Option A) → cond b (Some x) o ≡ None → (b ≡ false) × (o ≡ None)
cond_none true x o e = cc
cond_none false x o e = (refl, e)

-- one more file of another name
pub file_in-take_more : (files : List Stored) (name : List ℕ) (i : ℕ) (d : Stored) → i < length files → file_in (take i files) name ≡ None → bytes_eq (get_or files i d).0 name ≡ false → file_in (take (i + 1) files) name ≡ None
file_in-take_more [] name i d h none other = absurd (omega arith)
file_in-take_more (f ∷ fs) name zero d h none other = rw other refl
file_in-take_more (f ∷ fs) name (suc i) d h none other =
    let split = cond_none (bytes_eq f.0 name) f.1.items (file_in (take i fs) name) none in
    let within : i < length fs = omega arith in
    let rest : file_in (take (suc i) fs) name ≡ None = rw (← add-one) (file_in-take_more fs name i d within split.1 other) in
    rw (add-one, split.0) rest

-- the first file of the name stands at i
pub file_in-at : (files : List Stored) (name : List ℕ) (i : ℕ) (d : Stored) → i < length files → file_in (take i files) name ≡ None → (get_or files i d).0 ≡ name → file_in files name ≡ Some (get_or files i d).1.items
file_in-at [] name i d h none here = absurd (omega arith)
file_in-at (f ∷ fs) name zero d h none here = rw ((bytes_decides f.0 name).1 here) refl
file_in-at (f ∷ fs) name (suc i) d h none here =
    let split = cond_none (bytes_eq f.0 name) f.1.items (file_in (take i fs) name) none in
    let within : i < length fs = omega arith in
    rw split.0 (file_in-at fs name i d within split.1 here)

-- other bytes for the file at i
pub file_in-set_same : (files : List Stored) (name : List ℕ) (i : ℕ) (d f' : Stored) → i < length files → file_in (take i files) name ≡ None → f'.0 ≡ name → file_in (set files i f') name ≡ Some f'.1.items
file_in-set_same [] name i d f' h none here = absurd (omega arith)
file_in-set_same (f ∷ fs) name zero d f' h none here = rw ((bytes_decides f'.0 name).1 here) refl
file_in-set_same (f ∷ fs) name (suc i) d f' h none here =
    let split = cond_none (bytes_eq f.0 name) f.1.items (file_in (take i fs) name) none in
    let within : i < length fs = omega arith in
    rw split.0 (file_in-set_same fs name i d f' within split.1 here)

pub file_in-set_other : (files : List Stored) (name other : List ℕ) (i : ℕ) (d f' : Stored) → i < length files → (get_or files i d).0 ≡ name → f'.0 ≡ name → (other ≡ name → ⊥) → file_in (set files i f') other ≡ file_in files other
file_in-set_other [] name other i d f' h was here ne = absurd (omega arith)
file_in-set_other (f ∷ fs) name other zero d f' h was here ne =
    let old : bytes_eq f.0 other ≡ false = other_bytes f.0 other (λ e. ne (sym e ∙ was)) in
    let new : bytes_eq f'.0 other ≡ false = other_bytes f'.0 other (λ e. ne (sym e ∙ here)) in
    rw (old, new) refl
file_in-set_other (f ∷ fs) name other (suc i) d f' h was here ne =
    let within : i < length fs = omega arith in
    ap (cond (bytes_eq f.0 other) (Some f.1.items)) (file_in-set_other fs name other i d f' within was here ne)

-- one more file at the end
pub file_in-append_same : (files : List Stored) (name : List ℕ) (f' : Stored) → file_in files name ≡ None → f'.0 ≡ name → file_in (files ++ f' ∷ []) name ≡ Some f'.1.items
file_in-append_same [] name f' none here = rw ((bytes_decides f'.0 name).1 here) refl
file_in-append_same (f ∷ fs) name f' none here =
    let split = cond_none (bytes_eq f.0 name) f.1.items (file_in fs name) none in
    rw split.0 (file_in-append_same fs name f' split.1 here)

pub file_in-append_other : (files : List Stored) (name other : List ℕ) (f' : Stored) → f'.0 ≡ name → (other ≡ name → ⊥) → file_in (files ++ f' ∷ []) other ≡ file_in files other
file_in-append_other [] name other f' here ne = rw (other_bytes f'.0 other (λ e. ne (sym e ∙ here))) refl
file_in-append_other (f ∷ fs) name other f' here ne = ap (cond (bytes_eq f.0 other) (Some f.1.items)) (file_in-append_other fs name other f' here ne)

take-none : (n : ℕ) → take {A = ℕ} n [] ≡ []
take-none zero = refl
take-none (suc n) = refl

-- a piece and the piece after it
pub take-split : (xs : List ℕ) (i n : ℕ) → take i xs ++ take n (drop i xs) ≡ take (i + n) xs
take-split xs zero n = ap (λ k. take k xs) (sym (zero-add n))
take-split [] (suc i) n =
    let more : suc i + n ≡ suc (i + n) = omega arith in
    rw more (take-none n)
take-split (x ∷ xs) (suc i) n =
    let more : suc i + n ≡ suc (i + n) = omega arith in
    rw more (ap (λ ys. x ∷ ys) (take-split xs i n))
