-- Text constants, labels, and what is wrong with bodies.
use Rattle.std.specs.Prelude.{ℕ, if◌then◌else◌, nat_le, List, [], ◌∷◌, ◌++◌, is_some, Option, Some, None, Result, Ok, Err}
use Rattle.vm_model.specs.declared.limits.TheConstants.{MOST_INSTRUCTIONS}
use Rattle.jasmin_lines.specs.declared.class_text.Operand.{Operand}
use Rattle.jasmin_lines.specs.declared.class_text.Operand.TheVariants as operand
use Rattle.jasmin_lines.specs.declared.class_text.CatchText.{CatchText}
use Rattle.jasmin_lines.specs.Plain.{PlainClassText, PlainMethodText, PlainLineText}
use Rattle.vm_model.specs.declared.instr.Instr.{Instr}
use Rattle.name_resolver.specs.declared.fault.LinkKind.{LinkKind}
use Rattle.name_resolver.specs.declared.fault.LinkKind.TheVariants.{TooMany, OutOfProfile}
use Rattle.class_linker.specs.declared.fault.Refusal.{Refusal}
use Rattle.name_resolver.specs.declared.names.Names.{Names}
use Rattle.class_linker.specs.Faults.{noted, only_if}
use Rattle.name_resolver.specs.Index.{Rows, value_of, with_row}
use Rattle.name_resolver.specs.Names.{next}
use Rattle.class_linker.specs.Linked.{linked}

-- ---- text constants, each once, in the order of the text

pub record PlainTexts : Type 0 where
  pub rows : Rows
  pub names : List (List ℕ)
  pub count : ℕ

abbrev pub no_texts : PlainTexts
no_texts = record { rows = []; names = []; count = 0 }

abbrev pub added_text : List ℕ → PlainTexts → PlainTexts
added_text text t = record { rows = with_row text t.count t.rows; names = t.names ++ text ∷ []; count = next t.count }

abbrev pub with_text : List ℕ → PlainTexts → PlainTexts
with_text text t = if is_some (value_of text t.rows) then t else added_text text t

abbrev pub with_operand : Operand → PlainTexts → PlainTexts
with_operand (operand.Text text) t = with_text text t
with_operand (operand.Number n) t = t
with_operand (operand.Word word) t = t

unfoldable pub with_operands : List Operand → PlainTexts → PlainTexts
with_operands [] t = t
with_operands (x ∷ xs) t = with_operands xs (with_operand x t)

unfoldable pub with_lines : List PlainLineText → PlainTexts → PlainTexts
with_lines [] t = t
with_lines (l ∷ ls) t = with_lines ls (with_operands l.operands t)

unfoldable pub with_bodies : List PlainMethodText → PlainTexts → PlainTexts
with_bodies [] t = t
with_bodies (m ∷ ms) t = with_bodies ms (with_lines m.lines t)

unfoldable pub with_all : List PlainClassText → PlainTexts → PlainTexts
with_all [] t = t
with_all (c ∷ cs) t = with_all cs (with_bodies c.methods t)

abbrev pub texts_of : List PlainClassText → PlainTexts
texts_of classes = with_all classes no_texts

-- ---- labels, each with the number of the instruction after it

unfoldable pub with_labels : List (List ℕ) → ℕ → Rows → Rows
with_labels [] n rows = rows
with_labels (label ∷ labels) n rows = with_labels labels n (with_row label n rows)

unfoldable pub labelled : List PlainLineText → ℕ → Rows → ℕ × Rows
labelled [] n rows = (n, rows)
labelled (l ∷ ls) n rows = labelled ls (next n) (with_labels l.labels n rows)

abbrev pub ended : List (List ℕ) → ℕ × Rows → Rows
ended labels s = with_labels labels s.0 s.1

abbrev pub labels_of : PlainMethodText → Rows
labels_of m = ended m.end_labels (labelled m.lines 0 [])

-- ---- faults

abbrev pub fault_in : Result Instr LinkKind → Option LinkKind
fault_in (Ok i) = None
fault_in (Err kind) = Some kind

-- a method has at most 16,384 instructions
abbrev pub line_judged : Names → ℕ → Rows → Rows → PlainLineText → ℕ → Option Refusal → Option Refusal
line_judged names thread_run texts labels l n found =
    noted (noted found l.line (fault_in (linked names thread_run texts labels l))) l.line (only_if TooMany (nat_le MOST_INSTRUCTIONS n) None)

unfoldable pub code_judged : Names → ℕ → Rows → Rows → List PlainLineText → ℕ → Option Refusal → Option Refusal
code_judged names thread_run texts labels [] n found = found
code_judged names thread_run texts labels (l ∷ ls) n found =
    code_judged names thread_run texts labels ls (next n) (line_judged names thread_run texts labels l n found)

-- exception tables are out of the profile
unfoldable pub catches_judged : List CatchText → Option Refusal → Option Refusal
catches_judged [] found = found
catches_judged (c ∷ cs) found = catches_judged cs (noted found c.line (Some OutOfProfile))

abbrev pub body_judged : Names → ℕ → Rows → PlainMethodText → Option Refusal → Option Refusal
body_judged names thread_run texts m found = catches_judged m.catches (code_judged names thread_run texts (labels_of m) m.lines 0 found)

unfoldable pub methods_judged : Names → ℕ → Rows → List PlainMethodText → Option Refusal → Option Refusal
methods_judged names thread_run texts [] found = found
methods_judged names thread_run texts (m ∷ ms) found = methods_judged names thread_run texts ms (body_judged names thread_run texts m found)

unfoldable pub bodies_judged : Names → ℕ → Rows → List PlainClassText → Option Refusal → Option Refusal
bodies_judged names thread_run texts [] found = found
bodies_judged names thread_run texts (c ∷ cs) found = bodies_judged names thread_run texts cs (methods_judged names thread_run texts c.methods found)
