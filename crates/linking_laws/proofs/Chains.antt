-- Tests of a line one after another: what holds first is the least of all that hold.
use Rattle.std.proofs.Common.{◌≡◌, ℕ, zero, suc, ◌≤◌, Bool, true, false, List, ◌++◌, Option, Some, None, refl, sym, ap, arith, ◌⊎◌, inl, inr}
use Rattle.std.specs.Prelude.{Contains}
use Rattle.std.proofs.lemmas.Bool.{false≢true}
use Rattle.std.proofs.lemmas.List.Elements.{Contains-append_left, Contains-append_right}
use Rattle.name_resolver.specs.declared.fault.LinkKind.{LinkKind}
use Rattle.class_linker.specs.declared.fault.Refusal.{Refusal}
use Rattle.name_resolver.specs.Faults.{kind_number}
use Rattle.class_linker.specs.Faults.{only_if}
use Rattle.linking_laws.specs.LinkFaults.{of_line}

-- a fault is found, of a kind that is at most this one
abbrev pub Within : LinkKind → Option LinkKind → Type 0
Within kind None = ⊥
Within kind (Some found) = kind_number found ≤ kind_number kind

-- a test that holds finds its own
pub here : (kind : LinkKind) (b : Bool) (rest : Option LinkKind) → b ≡ true → Within kind (only_if kind b rest)
here kind true rest e = omega arith
here kind false rest e = absurd (false≢true e)

-- one before it finds a lesser one
pub behind : (kind lesser : LinkKind) (b : Bool) (rest : Option LinkKind) → kind_number lesser ≤ kind_number kind → Within kind rest → Within kind (only_if lesser b rest)
behind kind lesser true rest h w = h
behind kind lesser false rest h w = w

-- what is found is of the first test, or that fails
pub first_or : (kind found : LinkKind) (b : Bool) (rest : Option LinkKind) → only_if kind b rest ≡ Some found → ((b ≡ true) × (kind ≡ found)) ⊎ ((b ≡ false) × (rest ≡ Some found))
first_or kind found true rest e = inl (refl, some_same kind found e)
  where
    some_same : (x y : LinkKind) → Some x ≡ Some y → x ≡ y
    some_same x y e = cc
first_or kind found false rest e = inr (refl, e)

pub no_fault : (found : LinkKind) → None ≡ Some found → ⊥
no_fault found e = cc

-- ---- lines

-- a fault of a line is what was found of it
pub of_line_fault : (line : ℕ) (o : Option LinkKind) (f : Refusal) → Contains (of_line line o) f → (f.line ≡ line) × (o ≡ Some f.kind)
of_line_fault line None f h = absurd (omega (arith, h.1))
of_line_fault line (Some kind) f (zero, lt, e) = (sym (ap (λ (g : Refusal). g.line) e), ap (λ (g : Refusal). Some g.kind) e)
of_line_fault line (Some kind) f (suc k, lt, e) = absurd (omega (arith, lt))

-- these faults have one of this line, of a kind that is at most this one
pub record Has (faults : List Refusal) (line : ℕ) (kind : LinkKind) : Type 0 where
  pub fault : Refusal
  pub is_one : Contains faults fault
  pub same_line : fault.line ≡ line
  pub at_most : kind_number fault.kind ≤ kind_number kind

pub has_line : (line : ℕ) (kind : LinkKind) (o : Option LinkKind) → Within kind o → Has (of_line line o) line kind
has_line line kind None w = absurd w
has_line line kind (Some found) w = record { fault = record { kind = found; line = line }; is_one = (0, omega arith, refl); same_line = refl; at_most = w }

pub has_left : (xs ys : List Refusal) (line : ℕ) (kind : LinkKind) → Has xs line kind → Has (xs ++ ys) line kind
has_left xs ys line kind h = record { fault = h.fault; is_one = Contains-append_left xs ys h.fault h.is_one; same_line = h.same_line; at_most = h.at_most }

pub has_right : (xs ys : List Refusal) (line : ℕ) (kind : LinkKind) → Has ys line kind → Has (xs ++ ys) line kind
has_right xs ys line kind h = record { fault = h.fault; is_one = Contains-append_right xs ys h.fault h.is_one; same_line = h.same_line; at_most = h.at_most }
