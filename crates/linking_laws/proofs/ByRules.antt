-- Linking names the first of the faults that the rules name.
use Rattle.std.proofs.Common.{◌≡◌, ℕ, ◌<◌, ◌≤◌, Bool, true, false, List, [], ◌∷◌, refl, subst, arith}
use Rattle.std.specs.Prelude.{◌≢◌, ◌↔◌, ◌||◌, ◌&&◌, ◌==◌, nat_lt, Contains}
use Rattle.std.proofs.lemmas.Bool.Decides.{nat_tests}
use Rattle.jasmin_lines.specs.Plain.{PlainClassText}
use Rattle.name_resolver.specs.declared.fault.LinkKind.{LinkKind}
use Rattle.name_resolver.specs.declared.fault.LinkKind.TheVariants as kinds
use Rattle.class_linker.specs.declared.fault.Refusal.{Refusal}
use Rattle.name_resolver.specs.Faults.{kind_number}
use Rattle.class_linker.specs.Faults.{is_before}
use Rattle.linking_laws.specs.LinkFaults.{IsFirst, declaration_faults}
use Rattle.linking_laws.specs.Named.{AreNamed}
use Rattle.linking_laws.specs.FirstFault.{number_of, IsFirstOf}
use Rattle.linking_laws.specs.Rules.{HasDeclarationFault, IsCountable}
use Rattle.linking_laws.proofs.First.{before_same}
use Rattle.linking_laws.proofs.Chains.{Has}
use Rattle.linking_laws.proofs.Declared.{listed_by_rule, rule_listed}

-- ---- the order

same_number : (kind : LinkKind) → number_of kind ≡ kind_number kind
same_number kinds.NoMain = refl
same_number kinds.UnknownClass = refl
same_number kinds.UnknownField = refl
same_number kinds.UnknownMethod = refl
same_number kinds.UnknownLabel = refl
same_number kinds.Twice = refl
same_number kinds.BadDescriptor = refl
same_number kinds.TooMany = refl
same_number kinds.OutOfProfile = refl

numbers_line : (l k m j : ℕ) → (nat_lt l m || (l == m && nat_lt k j)) ≡ false → m ≤ l
numbers_line l k m j e = grind (arith, nat_tests)

numbers_kind : (l k m j : ℕ) → (nat_lt l m || (l == m && nat_lt k j)) ≡ false → l ≡ m → j ≤ k
numbers_kind l k m j e same = grind (arith, nat_tests)

numbers_before : (l k m j : ℕ) → m ≤ l → (l ≡ m → j ≤ k) → (nat_lt l m || (l == m && nat_lt k j)) ≡ false
numbers_before l k m j h g = by (nat_lt l m) refl (l == m) refl (nat_lt k j) refl
  where
    by : (a : Bool) → nat_lt l m ≡ a → (b : Bool) → (l == m) ≡ b → (c : Bool) → nat_lt k j ≡ c → (a || (b && c)) ≡ false
    by false e false f c i = refl
    by false e true f false i = refl
    by false e true f true i =
        let same : l ≡ m = grind (arith, nat_tests) in
        let less : k < j = grind (arith, nat_tests) in
        let most : j ≤ k = g same in
        absurd (omega (arith, less, most))
    by true e b f c i = let less : l < m = grind (arith, nat_tests) in absurd (omega (arith, less, h))

-- ---- two ways to be the first

-- what is listed has the faults of a relation: each that is listed is one, and each has one of its line that is listed, of a kind that is at most its own
pub record Lists (faults : List Refusal) (has_fault : ℕ → LinkKind → Type 0) : Type 0 where
  pub each : (f : Refusal) → Contains faults f → has_fault f.line f.kind
  pub all : (line : ℕ) (kind : LinkKind) → has_fault line kind → Has faults line kind

pub first_by : (faults : List Refusal) (has_fault : ℕ → LinkKind → Type 0) (f : Refusal) → Lists faults has_fault → IsFirst faults f → IsFirstOf has_fault f
first_by faults has_fault f lists first = record {
  is_one = lists.each f first.is_one;
  no_lesser_line = λ line kind h.
      let g : Has faults line kind = lists.all line kind h in
      subst (λ (l : ℕ). f.line ≤ l) g.same_line (numbers_line g.fault.line (kind_number g.fault.kind) f.line (kind_number f.kind) (first.none_before g.fault g.is_one));
  no_lesser_kind = λ kind h.
      let g : Has faults f.line kind = lists.all f.line kind h in
      let less : kind_number f.kind ≤ kind_number g.fault.kind = numbers_kind g.fault.line (kind_number g.fault.kind) f.line (kind_number f.kind) (first.none_before g.fault g.is_one) g.same_line in
      omega (arith, less, g.at_most, same_number f.kind, same_number kind);
}

pub by_first : (faults : List Refusal) (has_fault : ℕ → LinkKind → Type 0) (f : Refusal) → Lists faults has_fault → IsFirstOf has_fault f → IsFirst faults f
by_first faults has_fault f lists first = record { is_one = subst (Contains faults) same own.is_one; none_before = λ g there. before g there }
  where
    before : (g : Refusal) → Contains faults g → is_before g f ≡ false
    before g there =
        numbers_before g.line (kind_number g.kind) f.line (kind_number f.kind) (first.no_lesser_line g.line g.kind (lists.each g there))
        (λ same. let less : number_of f.kind ≤ number_of g.kind = first.no_lesser_kind g.kind (subst (λ (l : ℕ). has_fault l g.kind) same (lists.each g there)) in omega (arith, less, same_number f.kind, same_number g.kind))

    own : Has faults f.line f.kind
    own = lists.all f.line f.kind first.is_one

    same : own.fault ≡ f
    same =
        before_same own.fault f (before own.fault own.is_one)
        (numbers_before f.line (kind_number f.kind) own.fault.line (kind_number own.fault.kind) (let line : own.fault.line ≡ f.line = own.same_line in omega (arith, line)) (λ e. own.at_most))

-- no fault is listed exactly where there is none
pub none_listed : (faults : List Refusal) (has_fault : ℕ → LinkKind → Type 0) → Lists faults has_fault → (faults ≡ []) ↔ ((line : ℕ) (kind : LinkKind) → has_fault line kind → ⊥)
none_listed faults has_fault lists = (λ e line kind h. no_member faults (lists.all line kind h).fault e (lists.all line kind h).is_one, λ none. by faults (λ f there. none f.line f.kind (lists.each f there)))
  where
    no_member : (xs : List Refusal) (f : Refusal) → xs ≡ [] → Contains xs f → ⊥
    no_member xs f e h = let at : Contains [] f = subst (λ (ys : List Refusal). Contains ys f) e h in absurd (omega (arith, at.1))

    by : (xs : List Refusal) → ((f : Refusal) → Contains xs f → ⊥) → xs ≡ []
    by [] h = refl
    by (x ∷ xs) h = absurd (h x (0, omega arith, refl))

-- ---- declarations

pub declarations_listed : (classes : List PlainClassText) → AreNamed classes → IsCountable classes → Lists (declaration_faults classes) (HasDeclarationFault classes)
declarations_listed classes named few = record { each = λ f there. listed_by_rule classes f named few there; all = λ line kind h. rule_listed classes line kind named few h }

pub some_listed : (faults : List Refusal) (has_fault : ℕ → LinkKind → Type 0) (line : ℕ) (kind : LinkKind) → Lists faults has_fault → has_fault line kind → faults ≢ []
some_listed faults has_fault line kind lists h e = (none_listed faults has_fault lists).0 e line kind h
