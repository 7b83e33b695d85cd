-- Each line of a body in which nothing is found wrong is linked, and its text constant is short.
use Rattle.std.proofs.Common.{◌≡◌, ℕ, ◌≤◌, Bool, true, false, List, [], ◌∷◌, Option, Some, None, Result, Ok, Err, refl, arith}
use Rattle.std.specs.Prelude.{if◌then◌else◌, nat_lt, nat_le, length, is_some, flat_map}
use Rattle.std.specs.List.{AllByRecursion}
use Rattle.vm_model.specs.declared.instr.Instr.{Instr}
use Rattle.vm_model.specs.declared.instr.Instr.TheVariants as instr
use Rattle.vm_model.specs.Failures.{◌>>=◌, or_fault}
use Rattle.jasmin_lines.specs.declared.class_text.Operand.{Operand}
use Rattle.jasmin_lines.specs.declared.class_text.Operand.TheVariants as operand
use Rattle.jasmin_lines.specs.declared.class_text.CatchText.{CatchText}
use Rattle.jasmin_lines.specs.Plain.{PlainClassText, PlainMethodText, PlainLineText}
use Rattle.name_resolver.specs.declared.fault.LinkKind.{LinkKind}
use Rattle.name_resolver.specs.declared.fault.LinkKind.TheVariants as kinds
use Rattle.class_linker.specs.declared.fault.Refusal.{Refusal}
use Rattle.name_resolver.specs.declared.names.Names.{Names}
use Rattle.class_linker.specs.Faults.{noted, only_if}
use Rattle.name_resolver.specs.Index.{Rows, value_of}
use Rattle.name_resolver.specs.Names.{next}
use Rattle.class_linker.specs.Linked.{texted, linked_by, linked}
use Rattle.class_linker.specs.Bodies.{PlainTexts, no_texts, added_text, with_operand, with_operands, with_lines, with_bodies, with_all, labels_of, fault_in, line_judged, code_judged, catches_judged, body_judged, methods_judged, bodies_judged}
use Rattle.linking_laws.specs.Declared.{text_in}
use Rattle.shape_laws.proofs.Tests.{all_both}
use Rattle.linking_laws.proofs.Judged.{noted_none, at_most}

-- ---- linked lines

-- a line gives an instruction
abbrev pub Given : Names → ℕ → Rows → Rows → PlainLineText → Type 0
Given names thread_run texts labels l = (i : Instr) × (linked names thread_run texts labels l ≡ Ok i)

-- a fault isn't nothing
some_none : {A : Type 0} (x : A) → Some x ≡ None → ⊥
some_none x e = cc

-- what has no fault is an instruction
no_fault : (r : Result Instr LinkKind) → fault_in r ≡ None → (i : Instr) × (r ≡ Ok i)
no_fault (Ok i) e = (i, refl)
no_fault (Err kind) e = absurd (some_none kind e)

-- nothing is wrong with a line only where it is linked
line_given : (names : Names) (thread_run : ℕ) (texts labels : Rows) (l : PlainLineText) (n : ℕ) (found : Option Refusal) → line_judged names thread_run texts labels l n found ≡ None → (found ≡ None) × Given names thread_run texts labels l
line_given names thread_run texts labels l n found e =
    let many : _ = noted_none (noted found l.line (fault_in (linked names thread_run texts labels l))) l.line (only_if kinds.TooMany (nat_le 16384 n) None) e in
    let own : _ = noted_none found l.line (fault_in (linked names thread_run texts labels l)) many.0 in
    (own.0, no_fault (linked names thread_run texts labels l) own.1)

-- the same of the lines of a method
code_given : (names : Names) (thread_run : ℕ) (texts labels : Rows) (ls : List PlainLineText) (n : ℕ) (found : Option Refusal) → code_judged names thread_run texts labels ls n found ≡ None → (found ≡ None) × AllByRecursion (Given names thread_run texts labels) ls
unfolding code_judged
code_given names thread_run texts labels [] n found e = (e, tt)
code_given names thread_run texts labels (l ∷ ls) n found e =
    let rest : (line_judged names thread_run texts labels l n found ≡ None) × AllByRecursion (Given names thread_run texts labels) ls = code_given names thread_run texts labels ls (next n) (line_judged names thread_run texts labels l n found) e in
    let here : (found ≡ None) × Given names thread_run texts labels l = line_given names thread_run texts labels l n found rest.0 in
    (here.0, (here.1, rest.1))

-- an exception table is empty, or something is wrong
catches_none : (cs : List CatchText) (found : Option Refusal) → catches_judged cs found ≡ None → found ≡ None
unfolding catches_judged
catches_none [] found e = e
catches_none (c ∷ cs) found e = (noted_none found c.line (Some kinds.OutOfProfile) (catches_none cs (noted found c.line (Some kinds.OutOfProfile)) e)).0

-- each line of a method is linked
abbrev pub IsGiven : Names → ℕ → Rows → PlainMethodText → Type 0
IsGiven names thread_run texts m = AllByRecursion (Given names thread_run texts (labels_of m)) m.lines

-- the methods of a class
methods_given : (names : Names) (thread_run : ℕ) (texts : Rows) (ms : List PlainMethodText) (found : Option Refusal) → methods_judged names thread_run texts ms found ≡ None → (found ≡ None) × AllByRecursion (IsGiven names thread_run texts) ms
unfolding methods_judged
methods_given names thread_run texts [] found e = (e, tt)
methods_given names thread_run texts (m ∷ ms) found e =
    let rest : (body_judged names thread_run texts m found ≡ None) × AllByRecursion (IsGiven names thread_run texts) ms = methods_given names thread_run texts ms (body_judged names thread_run texts m found) e in
    let here : (found ≡ None) × IsGiven names thread_run texts m = code_given names thread_run texts (labels_of m) m.lines 0 found (catches_none m.catches _ rest.0) in
    (here.0, (here.1, rest.1))

-- the methods of all classes
abbrev pub AllGiven : Names → ℕ → Rows → List PlainClassText → Type 0
AllGiven names thread_run texts cs = AllByRecursion (λ (c : PlainClassText). AllByRecursion (IsGiven names thread_run texts) c.methods) cs

classes_given : (names : Names) (thread_run : ℕ) (texts : Rows) (cs : List PlainClassText) (found : Option Refusal) → bodies_judged names thread_run texts cs found ≡ None → (found ≡ None) × AllGiven names thread_run texts cs
unfolding bodies_judged
classes_given names thread_run texts [] found e = (e, tt)
classes_given names thread_run texts (c ∷ cs) found e =
    let rest : (methods_judged names thread_run texts c.methods found ≡ None) × AllGiven names thread_run texts cs = classes_given names thread_run texts cs (methods_judged names thread_run texts c.methods found) e in
    let here : (found ≡ None) × AllByRecursion (IsGiven names thread_run texts) c.methods = methods_given names thread_run texts c.methods found rest.0 in
    (here.0, (here.1, rest.1))

-- all lines of bodies in which nothing is wrong are linked
pub bodies_given : (names : Names) (thread_run : ℕ) (texts : Rows) (cs : List PlainClassText) → bodies_judged names thread_run texts cs None ≡ None → AllGiven names thread_run texts cs
bodies_given names thread_run texts cs e = (classes_given names thread_run texts cs None e).1

-- ---- text constants

-- at most 200 bytes
abbrev pub IsShortText : List ℕ → Type 0
IsShortText text = length text ≤ 200

-- an operand that is a text constant is short
abbrev IsShortOperand : Operand → Type 0
IsShortOperand (operand.Text text) = IsShortText text
IsShortOperand (operand.Number n) = Unit {0}
IsShortOperand (operand.Word word) = Unit {0}

-- a fault is no instruction
err_ok : {A : Type 0} (kind : LinkKind) (x : A) → Err kind ≡ Ok x → ⊥
err_ok kind x e = cc

-- a text that is linked is short
text_short : (texts : Rows) (text : List ℕ) (i : Instr) → texted texts text ≡ Ok i → IsShortText text
unfolding texted
text_short texts text i e = by (nat_lt 200 (length text)) refl e
  where
    by : (b : Bool) → nat_lt 200 (length text) ≡ b → (if b then Err kinds.TooMany else (or_fault kinds.OutOfProfile (value_of text texts) >>= λ n. Ok (instr.PushText n))) ≡ Ok i → IsShortText text
    by true is h = absurd (err_ok kinds.TooMany i h)
    by false is h = at_most 200 (length text) is

-- so are the operands of a line that is linked
operands_short : (names : Names) (thread_run : ℕ) (texts labels : Rows) (word : List ℕ) (operands : List Operand) (i : Instr) → linked_by names thread_run texts labels word operands ≡ Ok i → AllByRecursion IsShortOperand operands
operands_short names thread_run texts labels word [] i e = tt
operands_short names thread_run texts labels word (operand.Number n ∷ []) i e = (tt, tt)
operands_short names thread_run texts labels word (operand.Text text ∷ []) i e = (text_short texts text i e, tt)
operands_short names thread_run texts labels word (operand.Word x ∷ []) i e = (tt, tt)
operands_short names thread_run texts labels word (operand.Number n ∷ operand.Number by ∷ []) i e = (tt, (tt, tt))
operands_short names thread_run texts labels word (operand.Number n ∷ operand.Number by ∷ x ∷ xs) i e = absurd (err_ok kinds.OutOfProfile i e)
operands_short names thread_run texts labels word (operand.Number n ∷ operand.Text text ∷ xs) i e = absurd (err_ok kinds.OutOfProfile i e)
operands_short names thread_run texts labels word (operand.Number n ∷ operand.Word x ∷ xs) i e = absurd (err_ok kinds.OutOfProfile i e)
operands_short names thread_run texts labels word (operand.Word x ∷ operand.Word desc ∷ []) i e = (tt, (tt, tt))
operands_short names thread_run texts labels word (operand.Word x ∷ operand.Word desc ∷ y ∷ ys) i e = absurd (err_ok kinds.OutOfProfile i e)
operands_short names thread_run texts labels word (operand.Word x ∷ operand.Text text ∷ ys) i e = absurd (err_ok kinds.OutOfProfile i e)
operands_short names thread_run texts labels word (operand.Word x ∷ operand.Number n ∷ ys) i e = absurd (err_ok kinds.OutOfProfile i e)
operands_short names thread_run texts labels word (operand.Text text ∷ x ∷ xs) i e = absurd (err_ok kinds.OutOfProfile i e)

-- all text constants so far are short
abbrev AllShort : PlainTexts → Type 0
AllShort t = AllByRecursion IsShortText t.names

-- an operand more
operand_adds : (x : Operand) (t : PlainTexts) → IsShortOperand x → AllShort t → AllShort (with_operand x t)
operand_adds (operand.Number n) t short all = all
operand_adds (operand.Word word) t short all = all
operand_adds (operand.Text text) t short all = by (is_some (value_of text t.rows))
  where
    by : (b : Bool) → AllShort (if b then t else added_text text t)
    by true = all
    by false = all_both IsShortText t.names (text ∷ []) all (short, tt)

-- the operands of a line
operands_add : (xs : List Operand) (t : PlainTexts) → AllByRecursion IsShortOperand xs → AllShort t → AllShort (with_operands xs t)
unfolding with_operands
operands_add [] t short all = all
operands_add (x ∷ xs) t short all = operands_add xs (with_operand x t) short.1 (operand_adds x t short.0 all)

-- the lines of a method
lines_add : (names : Names) (thread_run : ℕ) (texts labels : Rows) (ls : List PlainLineText) (t : PlainTexts) → AllByRecursion (Given names thread_run texts labels) ls → AllShort t → AllShort (with_lines ls t)
unfolding with_lines
lines_add names thread_run texts labels [] t given all = all
lines_add names thread_run texts labels (l ∷ ls) t given all =
    lines_add names thread_run texts labels ls (with_operands l.operands t) given.1 (operands_add l.operands t (operands_short names thread_run texts labels l.word l.operands given.0.0 given.0.1) all)

-- the methods of a class
bodies_add : (names : Names) (thread_run : ℕ) (texts : Rows) (ms : List PlainMethodText) (t : PlainTexts) → AllByRecursion (IsGiven names thread_run texts) ms → AllShort t → AllShort (with_bodies ms t)
unfolding with_bodies
bodies_add names thread_run texts [] t given all = all
bodies_add names thread_run texts (m ∷ ms) t given all = bodies_add names thread_run texts ms (with_lines m.lines t) given.1 (lines_add names thread_run texts (labels_of m) m.lines t given.0 all)

-- all classes
classes_add : (names : Names) (thread_run : ℕ) (texts : Rows) (cs : List PlainClassText) (t : PlainTexts) → AllGiven names thread_run texts cs → AllShort t → AllShort (with_all cs t)
unfolding with_all
classes_add names thread_run texts [] t given all = all
classes_add names thread_run texts (c ∷ cs) t given all = classes_add names thread_run texts cs (with_bodies c.methods t) given.1 (bodies_add names thread_run texts c.methods t given.0 all)

-- the text constants of bodies that are linked
pub texts_short : (names : Names) (thread_run : ℕ) (texts : Rows) (cs : List PlainClassText) → AllGiven names thread_run texts cs → AllByRecursion IsShortText (with_all cs no_texts).names
texts_short names thread_run texts cs given = classes_add names thread_run texts cs no_texts given tt

-- a line that is linked has at most one
pub operands_few : (names : Names) (thread_run : ℕ) (texts labels : Rows) (word : List ℕ) (operands : List Operand) (i : Instr) → linked_by names thread_run texts labels word operands ≡ Ok i → length (flat_map text_in operands) ≤ 1
operands_few names thread_run texts labels word [] i e = omega arith
operands_few names thread_run texts labels word (operand.Number n ∷ []) i e = omega arith
operands_few names thread_run texts labels word (operand.Text text ∷ []) i e = omega arith
operands_few names thread_run texts labels word (operand.Word x ∷ []) i e = omega arith
operands_few names thread_run texts labels word (operand.Number n ∷ operand.Number by ∷ []) i e = omega arith
operands_few names thread_run texts labels word (operand.Number n ∷ operand.Number by ∷ x ∷ xs) i e = absurd (err_ok kinds.OutOfProfile i e)
operands_few names thread_run texts labels word (operand.Number n ∷ operand.Text text ∷ xs) i e = absurd (err_ok kinds.OutOfProfile i e)
operands_few names thread_run texts labels word (operand.Number n ∷ operand.Word x ∷ xs) i e = absurd (err_ok kinds.OutOfProfile i e)
operands_few names thread_run texts labels word (operand.Word x ∷ operand.Word desc ∷ []) i e = omega arith
operands_few names thread_run texts labels word (operand.Word x ∷ operand.Word desc ∷ y ∷ ys) i e = absurd (err_ok kinds.OutOfProfile i e)
operands_few names thread_run texts labels word (operand.Word x ∷ operand.Text text ∷ ys) i e = absurd (err_ok kinds.OutOfProfile i e)
operands_few names thread_run texts labels word (operand.Word x ∷ operand.Number n ∷ ys) i e = absurd (err_ok kinds.OutOfProfile i e)
operands_few names thread_run texts labels word (operand.Text text ∷ x ∷ xs) i e = absurd (err_ok kinds.OutOfProfile i e)
