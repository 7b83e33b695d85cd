-- Which of the faults of a text counts: first those of declarations, then those of bodies, and last that there is no main.
use Rattle.std.specs.Prelude.{◌≡◌, ◌≤◌, ℕ, List, codes, Contains}
use Rattle.jasmin_lines.specs.Plain.{PlainClassText, PlainMethodText}
use Rattle.name_resolver.specs.declared.fault.LinkKind.{LinkKind}
use Rattle.name_resolver.specs.declared.fault.LinkKind.TheVariants.{NoMain, UnknownClass, UnknownField, UnknownMethod, UnknownLabel, Twice, BadDescriptor, TooMany, OutOfProfile}
use Rattle.class_linker.specs.declared.fault.Refusal.{Refusal}
use Rattle.linking_laws.specs.Rules.{IsMain, HasDeclarationFault}
use Rattle.linking_laws.specs.BodyRules.{HasBodyFault}

-- kinds have numbers, and of a line the least counts
abbrev pub number_of : LinkKind → ℕ
number_of NoMain = 1
number_of UnknownClass = 2
number_of UnknownField = 3
number_of UnknownMethod = 4
number_of UnknownLabel = 5
number_of Twice = 6
number_of BadDescriptor = 7
number_of TooMany = 8
number_of OutOfProfile = 9

-- the first of the faults that lines have: that of the least line, and of this line the one of the least number
pub record IsFirstOf (has_fault : ℕ → LinkKind → Type 0) (f : Refusal) : Type 0 where
  pub is_one : has_fault f.line f.kind
  pub no_lesser_line : (line : ℕ) (kind : LinkKind) → has_fault line kind → f.line ≤ line
  pub no_lesser_kind : (kind : LinkKind) → has_fault f.line kind → number_of f.kind ≤ number_of kind

-- no line has one
abbrev pub NoneOf : (ℕ → LinkKind → Type 0) → Type 0
NoneOf has_fault = (line : ℕ) (kind : LinkKind) → has_fault line kind → ⊥

-- a method that a program begins with
pub record HasMain (text : List PlainClassText) : Type 0 where
  pub class : PlainClassText
  pub method : PlainMethodText
  pub declared : Contains text class
  pub there : Contains class.methods method
  pub is_main : IsMain method
  pub is_public : Contains method.flags (codes "public")
  pub is_static : Contains method.flags (codes "static")

-- the fault that counts; that there is no main stands at line 0
pub data IsFirstFault (text : List PlainClassText) (f : Refusal) : Type 0 where
  OfDeclarations : IsFirstOf (HasDeclarationFault text) f → IsFirstFault text f
  OfBodies : NoneOf (HasDeclarationFault text) → IsFirstOf (HasBodyFault text) f → IsFirstFault text f
  OfMain : NoneOf (HasDeclarationFault text) → NoneOf (HasBodyFault text) → (HasMain text → ⊥) → f.kind ≡ NoMain → f.line ≡ 0 → IsFirstFault text f

-- a text without a fault
pub record IsFaultless (text : List PlainClassText) : Type 0 where
  pub declarations : NoneOf (HasDeclarationFault text)
  pub bodies : NoneOf (HasBodyFault text)
  pub main : HasMain text
