-- A name has one number, and a descriptor spells one list of kinds.
use Rattle.std.proofs.Common.{◌≡◌, ℕ, List, [], ◌∷◌, ◌++◌, Option, Some, None, refl, sym, ap, ◌∙◌, subst, arith, append_assoc, append-nil}
use Rattle.std.specs.Prelude.{flat_map}
use Rattle.std.specs.List.{AllZip, list_all}
use Rattle.std.proofs.lemmas.Bool.{false≢true}
use Rattle.vm_model.specs.declared.value.Kind.{Kind}
use Rattle.vm_model.specs.declared.value.Kind.TheVariants as kind
use Rattle.jasmin_lines.specs.Plain.{PlainClassText, PlainMethodText}
use Rattle.jasmin_lines.specs.Words.{is_class_byte, is_filled}
use Rattle.shape_laws.proofs.Tests.{both}
use Rattle.linking_laws.specs.Declared.{IsClass, BuiltIn, OfText}
use Rattle.linking_laws.specs.Links.{Spells, SpellsResult, SpellsMethod, IsSignature, OfMain, Spelled}
use Rattle.linking_laws.proofs.Keys.{Without, tested, parted_first}
use Rattle.linking_laws.proofs.Numbered.{none_some, some_same}

-- ---- classes

pub same_class : (classes : List PlainClassText) (name : List ℕ) (n m : ℕ) → IsClass classes name n → IsClass classes name m → n ≡ m
same_class classes name n m (BuiltIn a) (BuiltIn b) = some_same n m (sym a ∙ b)
same_class classes name n m (BuiltIn a) (OfText b c) = absurd (none_some n (sym b ∙ a))
same_class classes name n m (OfText a b) (BuiltIn c) = absurd (none_some m (sym a ∙ c))
same_class classes name n m (OfText a b) (OfText c d) = some_same n m (sym b ∙ d)

-- ---- kinds

-- the first bytes of equal words
heads : (x y : ℕ) (xs ys : List ℕ) → x ∷ xs ≡ y ∷ ys → x ≡ y
heads x y xs ys e = cc

tails : (x y : ℕ) (xs ys : List ℕ) → x ∷ xs ≡ y ∷ ys → xs ≡ ys
tails x y xs ys e = cc

-- how a kind's spelling begins, before what comes after it
record Begins (classes : List PlainClassText) (n : ℕ) (x after : List ℕ) : Type 0 where
  name : List ℕ
  plain : Without 59 name
  is : x ++ after ≡ 76 ∷ (name ++ 59 ∷ after)
  class : IsClass classes name n

of_class : (classes : List PlainClassText) (n : ℕ) (x after : List ℕ) → Spells classes (kind.Ref n) x → Begins classes n x after
of_class classes n x after s = record {
  name = s.0;
  plain = tested is_class_byte 59 s.0 refl (both (is_filled s.0) (list_all is_class_byte s.0) s.1).1;
  is = ap (λ (w : List ℕ). w ++ after) s.2 ∙ ap (λ (w : List ℕ). 76 ∷ w) (append_assoc s.0 (59 ∷ []) after);
  class = s.3;
}

of_int : (classes : List PlainClassText) (x after : List ℕ) → Spells classes kind.Int x → x ++ after ≡ 73 ∷ after
of_int classes x after s = ap (λ (w : List ℕ). w ++ after) s

of_array : (classes : List PlainClassText) (x after : List ℕ) → Spells classes kind.Arr x → x ++ after ≡ 91 ∷ 73 ∷ after
of_array classes x after s = ap (λ (w : List ℕ). w ++ after) s

-- two kinds at the front of one word are the same, and so is what comes after them
pub same_front : (classes : List PlainClassText) (k j : Kind) (x y u v : List ℕ) → Spells classes k x → Spells classes j y → x ++ u ≡ y ++ v → (k ≡ j) × (u ≡ v)
same_front classes kind.Int kind.Int x y u v s t e = (refl, tails 73 73 u v (sym (of_int classes x u s) ∙ e ∙ of_int classes y v t))
same_front classes kind.Int kind.Arr x y u v s t e = absurd (omega (arith, heads 73 91 u (73 ∷ v) (sym (of_int classes x u s) ∙ e ∙ of_array classes y v t)))
same_front classes kind.Int (kind.Ref n) x y u v s t e =
    let b : Begins classes n y v = of_class classes n y v t in absurd (omega (arith, heads 73 76 u (b.name ++ 59 ∷ v) (sym (of_int classes x u s) ∙ e ∙ b.is)))
same_front classes kind.Arr kind.Int x y u v s t e = absurd (omega (arith, heads 91 73 (73 ∷ u) v (sym (of_array classes x u s) ∙ e ∙ of_int classes y v t)))
same_front classes kind.Arr kind.Arr x y u v s t e = (refl, tails 73 73 u v (tails 91 91 (73 ∷ u) (73 ∷ v) (sym (of_array classes x u s) ∙ e ∙ of_array classes y v t)))
same_front classes kind.Arr (kind.Ref n) x y u v s t e =
    let b : Begins classes n y v = of_class classes n y v t in absurd (omega (arith, heads 91 76 (73 ∷ u) (b.name ++ 59 ∷ v) (sym (of_array classes x u s) ∙ e ∙ b.is)))
same_front classes (kind.Ref n) kind.Int x y u v s t e =
    let a : Begins classes n x u = of_class classes n x u s in absurd (omega (arith, heads 76 73 (a.name ++ 59 ∷ u) v (sym a.is ∙ e ∙ of_int classes y v t)))
same_front classes (kind.Ref n) kind.Arr x y u v s t e =
    let a : Begins classes n x u = of_class classes n x u s in absurd (omega (arith, heads 76 91 (a.name ++ 59 ∷ u) (73 ∷ v) (sym a.is ∙ e ∙ of_array classes y v t)))
same_front classes (kind.Ref n) (kind.Ref m) x y u v s t e =
    let a : Begins classes n x u = of_class classes n x u s in
    let b : Begins classes m y v = of_class classes m y v t in
    let parts : (a.name ≡ b.name) × (u ≡ v) = parted_first 59 a.name b.name u v a.plain b.plain (tails 76 76 (a.name ++ 59 ∷ u) (b.name ++ 59 ∷ v) (sym a.is ∙ e ∙ b.is)) in
    (ap kind.Ref (same_class classes b.name n m (subst (λ (w : List ℕ). IsClass classes w n) parts.0 a.class) b.class), parts.1)
same_front classes kind.Null j x y u v s t e = absurd s
same_front classes kind.Args j x y u v s t e = absurd s
same_front classes kind.Int kind.Null x y u v s t e = absurd t
same_front classes kind.Int kind.Args x y u v s t e = absurd t
same_front classes kind.Arr kind.Null x y u v s t e = absurd t
same_front classes kind.Arr kind.Args x y u v s t e = absurd t
same_front classes (kind.Ref n) kind.Null x y u v s t e = absurd t
same_front classes (kind.Ref n) kind.Args x y u v s t e = absurd t

-- a descriptor spells one kind
pub same_kind : (classes : List PlainClassText) (k j : Kind) (desc : List ℕ) → Spells classes k desc → Spells classes j desc → k ≡ j
same_kind classes k j desc s t = (same_front classes k j desc desc [] [] s t refl).0

-- no kind is spelled by another first byte
not_front : (classes : List PlainClassText) (k : Kind) (b : ℕ) (x u v : List ℕ) → (b ≡ 73 → ⊥) → (b ≡ 91 → ⊥) → (b ≡ 76 → ⊥) → Spells classes k x → x ++ u ≡ b ∷ v → ⊥
not_front classes kind.Int b x u v i a l s e = i (sym (heads 73 b u v (sym (of_int classes x u s) ∙ e)))
not_front classes kind.Arr b x u v i a l s e = a (sym (heads 91 b (73 ∷ u) v (sym (of_array classes x u s) ∙ e)))
not_front classes (kind.Ref n) b x u v i a l s e = let c : Begins classes n x u = of_class classes n x u s in l (sym (heads 76 b (c.name ++ 59 ∷ u) v (sym c.is ∙ e)))
not_front classes kind.Null b x u v i a l s e = s
not_front classes kind.Args b x u v i a l s e = s

-- the closing bracket isn't the first byte of a kind
no_bracket : (classes : List PlainClassText) (k : Kind) (x u v : List ℕ) → Spells classes k x → x ++ u ≡ 41 ∷ v → ⊥
no_bracket classes k x u v s e = not_front classes k 41 x u v (λ h. absurd (omega (arith, h))) (λ h. absurd (omega (arith, h))) (λ h. absurd (omega (arith, h))) s e

-- ---- parameters

-- all parts of a list in one
abbrev joined : List (List ℕ) → List ℕ
joined parts = flat_map (λ part. part) parts

pub same_params : (classes : List PlainClassText) (ks js : List Kind) (xs ys : List (List ℕ)) (u v : List ℕ) → AllZip (Spells classes) ks xs → AllZip (Spells classes) js ys → joined xs ++ 41 ∷ u ≡ joined ys ++ 41 ∷ v → (ks ≡ js) × (u ≡ v)
same_params classes [] [] [] [] u v s t e = (refl, tails 41 41 u v e)
same_params classes [] (j ∷ js) [] (y ∷ ys) u v s t e = absurd (no_bracket classes j y (joined ys ++ 41 ∷ v) u t.0 (sym (append_assoc y (joined ys) (41 ∷ v)) ∙ sym e))
same_params classes (k ∷ ks) [] (x ∷ xs) [] u v s t e = absurd (no_bracket classes k x (joined xs ++ 41 ∷ u) v s.0 (sym (append_assoc x (joined xs) (41 ∷ u)) ∙ e))
same_params classes (k ∷ ks) (j ∷ js) (x ∷ xs) (y ∷ ys) u v s t e =
    let first : (k ≡ j) × (joined xs ++ 41 ∷ u ≡ joined ys ++ 41 ∷ v) = same_front classes k j x y (joined xs ++ 41 ∷ u) (joined ys ++ 41 ∷ v) s.0 t.0 (sym (append_assoc x (joined xs) (41 ∷ u)) ∙ e ∙ append_assoc y (joined ys) (41 ∷ v)) in
    let rest : (ks ≡ js) × (u ≡ v) = same_params classes ks js xs ys u v s.1 t.1 first.1 in
    (ap (λ (l : Kind). l ∷ ks) first.0 ∙ ap (λ (ls : List Kind). j ∷ ls) rest.0, rest.1)
same_params classes [] [] (x ∷ xs) ys u v s t e = absurd s
same_params classes [] [] [] (y ∷ ys) u v s t e = absurd t
same_params classes [] (j ∷ js) (x ∷ xs) ys u v s t e = absurd s
same_params classes [] (j ∷ js) [] [] u v s t e = absurd t
same_params classes (k ∷ ks) js [] ys u v s t e = absurd s
same_params classes (k ∷ ks) [] (x ∷ xs) (y ∷ ys) u v s t e = absurd t
same_params classes (k ∷ ks) (j ∷ js) (x ∷ xs) [] u v s t e = absurd t

-- what is given back
same_result : (classes : List PlainClassText) (a b : Option Kind) (text : List ℕ) → SpellsResult classes a text → SpellsResult classes b text → a ≡ b
same_result classes None None text s t = refl
same_result classes None (Some j) text s t = absurd (not_front classes j 86 text [] [] (λ h. absurd (omega (arith, h))) (λ h. absurd (omega (arith, h))) (λ h. absurd (omega (arith, h))) t (append-nil text ∙ s))
same_result classes (Some k) None text s t = absurd (not_front classes k 86 text [] [] (λ h. absurd (omega (arith, h))) (λ h. absurd (omega (arith, h))) (λ h. absurd (omega (arith, h))) s (append-nil text ∙ t))
same_result classes (Some k) (Some j) text s t = ap Some (same_kind classes k j text s t)

same_types : (classes : List PlainClassText) (desc : List ℕ) (ks js : List Kind) (a b : Option Kind) → SpellsMethod classes desc ks a → SpellsMethod classes desc js b → (ks ≡ js) × (a ≡ b)
same_types classes desc ks js a b s t =
    let params : (ks ≡ js) × (s.result ≡ t.result) = same_params classes ks js s.parts t.parts s.result t.result s.takes t.takes (tails 40 40 (joined s.parts ++ 41 ∷ s.result) (joined t.parts ++ 41 ∷ t.result) (sym s.is ∙ t.is)) in
    (params.0, same_result classes a b t.result (subst (SpellsResult classes a) params.1 s.gives_back) t.gives_back)

-- a method has one signature
pub same_signature : (classes : List PlainClassText) (m : PlainMethodText) (ks js : List Kind) (a b : Option Kind) → IsSignature classes m ks a → IsSignature classes m js b → (ks ≡ js) × (a ≡ b)
same_signature classes m ks js a b (OfMain i p g) (OfMain j q h) = (p ∙ sym q, g ∙ sym h)
same_signature classes m ks js a b (OfMain i p g) (Spelled j t) = absurd (false≢true (sym j ∙ i))
same_signature classes m ks js a b (Spelled i s) (OfMain j q h) = absurd (false≢true (sym i ∙ j))
same_signature classes m ks js a b (Spelled i s) (Spelled j t) = same_types classes m.desc ks js a b s t
