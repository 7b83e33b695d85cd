-- All faults of classes, in the order of the text: those of declarations, each line's with its least kind, and those of
-- bodies. An instruction past the limit has a fault of its own, beside that of its line.
use Rattle.std.specs.Prelude.{◌≡◌, ℕ, Bool, false, nat_le, List, [], ◌∷◌, ◌++◌, map, fold, flat_map, Contains, Option, Some, None}
use Rattle.std.specs.List.{list_any}
use Rattle.vm_model.specs.declared.limits.TheConstants.{MOST_INSTRUCTIONS}
use Rattle.jasmin_lines.specs.declared.class_text.CatchText.{CatchText}
use Rattle.jasmin_lines.specs.declared.class_text.NameAt.{NameAt}
use Rattle.jasmin_lines.specs.Plain.{PlainClassText, PlainFieldText, PlainMethodText, PlainLineText}
use Rattle.name_resolver.specs.declared.fault.LinkKind.{LinkKind}
use Rattle.name_resolver.specs.declared.fault.LinkKind.TheVariants.{NoMain, TooMany, OutOfProfile}
use Rattle.class_linker.specs.declared.fault.Refusal.{Refusal}
use Rattle.name_resolver.specs.declared.names.Counts.{Counts}
use Rattle.name_resolver.specs.declared.names.Names.{Names}
use Rattle.class_linker.specs.Faults.{is_before, only_if}
use Rattle.name_resolver.specs.Index.{Rows}
use Rattle.name_resolver.specs.Names.{next, no_counts, names_of, is_named, is_main, class_begun, field_counted, method_counted, counted_if}
use Rattle.class_linker.specs.Linked.{linked}
use Rattle.class_linker.specs.Judging.{class_fault, super_fault, has_run, implements_fault, field_fault, is_full, taken, judged_method}
use Rattle.class_linker.specs.Bodies.{texts_of, labels_of, fault_in}

-- the first of faults: it is one of them, and none of them comes before it
pub record IsFirst (faults : List Refusal) (f : Refusal) : Type 0 where
  pub is_one : Contains faults f
  pub none_before : (g : Refusal) → Contains faults g → is_before g f ≡ false

-- the fault of a line, if it has one
abbrev pub of_line : ℕ → Option LinkKind → List Refusal
of_line line None = []
of_line line (Some kind) = record { kind = kind; line = line } ∷ []

-- ---- declarations

-- `.class`, `.super` and `.implements`
abbrev pub implements_faults : Bool → List NameAt → List Refusal
implements_faults has_run xs = flat_map (λ x. of_line x.line (implements_fault has_run x)) xs

abbrev pub head_faults : Names → PlainClassText → Counts → List Refusal
head_faults names c n = of_line c.line (class_fault names c n) ++ of_line c.super_line (super_fault c) ++ implements_faults (has_run c) c.implements

-- what is counted after the fields of a class, its methods, and the class itself
abbrev pub fields_counted : List PlainFieldText → Counts → Counts
fields_counted fs n = fold (λ counts f. field_counted f counts) n fs

abbrev pub methods_counted : List PlainMethodText → Counts → Counts
methods_counted ms n = fold (λ counts m. method_counted counts) n ms

abbrev pub whole_counted : PlainClassText → Counts → Counts
whole_counted c n = counted_if (is_named c) (methods_counted c.methods (fields_counted c.fields (class_begun c n)))

-- `.field`, each by what is counted before it
unfoldable pub fields_faults : Names → List ℕ → ℕ → List PlainFieldText → Counts → List Refusal
fields_faults names class taken [] n = []
fields_faults names class taken (f ∷ fs) n = of_line f.line (field_fault names class f n (is_full taken f n)) ++ fields_faults names class taken fs (field_counted f n)

-- `.method`, with its limits
unfoldable pub methods_faults : Names → List ℕ → List PlainMethodText → Counts → List Refusal
methods_faults names class [] n = []
methods_faults names class (m ∷ ms) n = of_line m.line (judged_method names class m n) ++ methods_faults names class ms (method_counted n)

abbrev pub class_faults : Names → PlainClassText → Counts → List Refusal
class_faults names c n =
    head_faults names c n ++ fields_faults names c.name (taken c) c.fields (class_begun c n) ++ methods_faults names c.name c.methods (fields_counted c.fields (class_begun c n))

unfoldable pub classes_faults : Names → List PlainClassText → Counts → List Refusal
classes_faults names [] n = []
classes_faults names (c ∷ cs) n = class_faults names c n ++ classes_faults names cs (whole_counted c n)

abbrev pub declaration_faults : List PlainClassText → List Refusal
declaration_faults classes = classes_faults (names_of classes).1 classes no_counts

-- ---- bodies

-- an instruction that isn't linked, and one past the limit
abbrev pub line_faults : Names → ℕ → Rows → Rows → PlainLineText → ℕ → List Refusal
line_faults names thread_run texts labels l n = of_line l.line (fault_in (linked names thread_run texts labels l)) ++ of_line l.line (only_if TooMany (nat_le MOST_INSTRUCTIONS n) None)

-- the lines of a method, which are numbered from 0
unfoldable pub code_faults : Names → ℕ → Rows → Rows → List PlainLineText → ℕ → List Refusal
code_faults names thread_run texts labels [] n = []
code_faults names thread_run texts labels (l ∷ ls) n = line_faults names thread_run texts labels l n ++ code_faults names thread_run texts labels ls (next n)

-- each line of an exception table
abbrev pub catches_faults : List CatchText → List Refusal
catches_faults cs = map (λ c. record { kind = OutOfProfile; line = c.line }) cs

abbrev pub method_faults : Names → ℕ → Rows → PlainMethodText → List Refusal
method_faults names thread_run texts m = code_faults names thread_run texts (labels_of m) m.lines 0 ++ catches_faults m.catches

abbrev pub bodies_faults : Names → ℕ → Rows → List PlainClassText → List Refusal
bodies_faults names thread_run texts classes = flat_map (λ c. flat_map (method_faults names thread_run texts) c.methods) classes

abbrev pub body_faults : List PlainClassText → List Refusal
body_faults classes = bodies_faults (names_of classes).1 (names_of classes).0.methods (texts_of classes).rows classes

-- ---- main

-- whether a method is the one that a program begins with
abbrev pub has_main : List PlainClassText → Bool
has_main classes = list_any (λ c. list_any is_main c.methods) classes

abbrev pub no_main : Refusal
no_main = record { kind = NoMain; line = 0 }
