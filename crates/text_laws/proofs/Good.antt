-- What holds of classes that were read: each of their lines is read again, and no label of a method stands twice.
use Rattle.std.specs.Prelude.{◌≡◌, ℕ, false, nat_eq, List, [], ◌∷◌, ◌++◌, length, bytes_eq, Option, Some, None}
use Rattle.std.specs.List.{AllByRecursion, flat_map, list_any}
use Rattle.jasmin_lines.specs.declared.form.Form.TheVariants as form
use Rattle.jasmin_lines.specs.Directives.{empty_class}
use Rattle.jasmin_lines.specs.Plain.{PlainLineText, PlainMethodText, PlainClassText}
use Rattle.jasmin_reader.specs.Assembly.{PlainBody, PlainMembers}
use Rattle.text_laws.proofs.CanonicalForms.{unlabelled, head_form, super_of}
use Rattle.text_laws.proofs.Again.{IsAgain}

-- labels that stand neither among those seen nor twice
abbrev pub AreFresh : List (List ℕ) → List (List ℕ) → Type 0
AreFresh seen [] = Unit {0}
AreFresh seen (label ∷ labels) = (list_any (bytes_eq label) seen ≡ false) × AreFresh (seen ++ label ∷ []) labels

abbrev pub labels_of : List PlainLineText → List (List ℕ) → List (List ℕ)
labels_of lines end_labels = flat_map (λ l. l.labels) lines ++ end_labels

abbrev pub IsLabel : List ℕ → Type 0
IsLabel label = IsAgain (form.Label label)

pub record IsGoodLine (l : PlainLineText) : Type 0 where
  pub labels : AllByRecursion IsLabel l.labels
  pub code : IsAgain (form.Code (unlabelled l))

abbrev pub IsStack : Option ℕ → Type 0
IsStack None = Unit {0}
IsStack (Some n) = IsAgain (form.StackLimit n)

abbrev pub IsLocals : Option ℕ → Type 0
IsLocals None = Unit {0}
IsLocals (Some n) = IsAgain (form.LocalsLimit n)

pub record IsGoodBody (b : PlainBody) : Type 0 where
  pub stack : IsStack b.stack
  pub locals : IsLocals b.locals
  pub lines : AllByRecursion IsGoodLine b.lines
  pub ends : AllByRecursion IsLabel b.end_labels
  pub catches : AllByRecursion (λ c. IsAgain (form.Catch c)) b.catches

abbrev pub body_of : PlainMethodText → PlainBody
body_of m = record { stack = m.stack; locals = m.locals; lines = m.lines; end_labels = m.end_labels; catches = m.catches }

pub record IsGoodMethod (m : PlainMethodText) : Type 0 where
  pub head : IsAgain (head_form m)
  pub body : IsGoodBody (body_of m)
  pub fresh : AreFresh [] (labels_of m.lines m.end_labels)

pub record AreGoodMembers (m : PlainMembers) : Type 0 where
  pub implements : AllByRecursion (λ n. IsAgain (form.Implements n)) m.implements
  pub fields : AllByRecursion (λ f. IsAgain (form.Field f)) m.fields
  pub methods : AllByRecursion IsGoodMethod m.methods

abbrev pub members_of : PlainClassText → PlainMembers
members_of c = record { super_line = c.super_line; super_name = c.super_name; implements = c.implements; fields = c.fields; methods = c.methods }

pub record IsGoodNamed (c : PlainClassText) : Type 0 where
  pub filled : nat_eq (length c.name) 0 ≡ false
  pub head : IsAgain (form.Class (empty_class c.line c.flags c.name))
  pub super : IsAgain (form.Super (super_of c))
  pub members : AreGoodMembers (members_of c)

pub data IsGoodClass (c : PlainClassText) : Type 0 where
  Interface : c ≡ empty_class c.line [] [] → IsGoodClass c
  Named : IsGoodNamed c → IsGoodClass c
