-- Tests of lists, and which kind of fault is the lesser one.
use Rattle.std.proofs.Common.{◌≡◌, ℕ, zero, ◌≤◌, Bool, true, false, ◌||◌, List, [], ◌∷◌, Result, Ok, Err, refl, arith, ap, sym, ◌∙◌, cond, nat_eq}
use Rattle.std.specs.Prelude.{Contains, bytes_eq}
use Rattle.std.specs.List.{AllByRecursion, list_any}
use Rattle.std.proofs.lemmas.List.Elements.{All-from_recursion, All-contains, Contains-append_right}
use Rattle.std.proofs.lemmas.Slice.Eq.{bytes_eq-Decides}
use Rattle.jasmin_lines.specs.declared.fault.ReadKind.{ReadKind}
use Rattle.jasmin_lines.specs.declared.fault.ReadKind.TheVariants.{NoClass, BadDirective, BadMnemonic, BadOperand, BadName, OutsideMethod, InMethod, NoSuper, LabelTwice, EndMissing, TooMany, Repeat}
use Rattle.jasmin_lines.specs.declared.form.Form.{Form}
use Rattle.jasmin_lines.specs.Faults.{kind_number}
use Rattle.text_laws.proofs.Tests.{or-first, or-second}

-- ---- tests of lists

pub any-found : {X : Type 0} (p : X → Bool) (xs : List X) → list_any p xs ≡ true → (x : X) × Contains xs x × (p x ≡ true)
any-found p [] e = absurd (cc)
any-found {X = X} p (x ∷ xs) e = by_first (any-found p xs) (p x) refl e
  where
    by_first : (list_any p xs ≡ true → (y : X) × Contains xs y × (p y ≡ true)) → (c : Bool) → p x ≡ c → (c || list_any p xs) ≡ true → (y : X) × Contains (x ∷ xs) y × (p y ≡ true)
    by_first again true h e' = (x, (zero, omega arith, refl), h)
    by_first again false h e' = let f = again e' in (f.0, Contains-append_right (x ∷ []) xs f.0 f.1, f.2)

pub none-any : {X : Type 0} (p : X → Bool) (xs : List X) → list_any p xs ≡ false → AllByRecursion (λ (x : X). p x ≡ false) xs
none-any p [] e = tt
none-any p (x ∷ xs) e = (or-first (p x) (list_any p xs) e, none-any p xs (or-second (p x) (list_any p xs) e))

pub any-there : {X : Type 0} (p : X → Bool) (xs : List X) (x : X) → Contains xs x → p x ≡ true → list_any p xs ≡ true
any-there {X = X} p xs x c h = by_any (list_any p xs) refl
  where
    by_any : (b : Bool) → list_any p xs ≡ b → list_any p xs ≡ true
    by_any true e = e
    by_any false e = let not_so : p x ≡ false = All-contains (λ (y : X). p y ≡ false) xs x (All-from_recursion (λ (y : X). p y ≡ false) xs (none-any p xs e)) c in absurd (cc)

pub same-label : (x y : List ℕ) → bytes_eq x y ≡ true → x ≡ y
same-label x y h = (bytes_eq-Decides x y).0 h

-- ---- kinds

-- what holds of the fault, if there is one
abbrev pub OfResult : (ReadKind → Type 0) → Result Form ReadKind → Type 0
OfResult P (Ok f) = Unit {0}
OfResult P (Err kind) = P kind

-- what is named is no greater
abbrev pub FaultAtMost : ℕ → Result Form ReadKind → Type 0
FaultAtMost n (Ok f) = ⊥
FaultAtMost n (Err kind) = kind_number kind ≤ n

pub positive : (kind : ReadKind) → 1 ≤ kind_number kind
positive NoClass = omega arith
positive BadDirective = omega arith
positive BadMnemonic = omega arith
positive BadOperand = omega arith
positive BadName = omega arith
positive OutsideMethod = omega arith
positive InMethod = omega arith
positive NoSuper = omega arith
positive LabelTwice = omega arith
positive EndMissing = omega arith
positive TooMany = omega arith
positive Repeat = omega arith

-- the kind of a number
abbrev kind_of : ℕ → ReadKind
kind_of n =
    cond (nat_eq n 1) NoClass (cond (nat_eq n 2) BadDirective (cond (nat_eq n 3) BadMnemonic (cond (nat_eq n 4) BadOperand (cond (nat_eq n 5) BadName (cond (nat_eq n 6) OutsideMethod
    (cond (nat_eq n 7) InMethod (cond (nat_eq n 8) NoSuper (cond (nat_eq n 9) LabelTwice (cond (nat_eq n 10) EndMissing (cond (nat_eq n 11) TooMany Repeat))))))))))

kind-back : (kind : ReadKind) → kind_of (kind_number kind) ≡ kind
kind-back NoClass = refl
kind-back BadDirective = refl
kind-back BadMnemonic = refl
kind-back BadOperand = refl
kind-back BadName = refl
kind-back OutsideMethod = refl
kind-back InMethod = refl
kind-back NoSuper = refl
kind-back LabelTwice = refl
kind-back EndMissing = refl
kind-back TooMany = refl
kind-back Repeat = refl

pub same-kind : (a b : ReadKind) → kind_number a ≤ kind_number b → kind_number b ≤ kind_number a → a ≡ b
same-kind a b le ge = let same : kind_number a ≡ kind_number b = omega (arith, le, ge) in sym (kind-back a) ∙ ap kind_of same ∙ kind-back b
