-- How long the code of methods is.
use Rattle.std.proofs.Common.{◌≡◌, ℕ, ◌+◌, ◌<◌, ◌≤◌, List, [], ◌∷◌, Option, Some, None, Result, Ok, Err, arith, length-append}
use Rattle.std.specs.Prelude.{length, nat_le}
use Rattle.std.specs.List.{AllByRecursion}
use Rattle.vm_model.specs.declared.instr.Instr.{Instr}
use Rattle.vm_model.specs.Program.{PlainMethod}
use Rattle.jasmin_lines.specs.declared.class_text.CatchText.{CatchText}
use Rattle.jasmin_lines.specs.Plain.{PlainClassText, PlainMethodText, PlainLineText}
use Rattle.name_resolver.specs.declared.fault.LinkKind.{LinkKind}
use Rattle.name_resolver.specs.declared.fault.LinkKind.TheVariants.{TooMany, OutOfProfile}
use Rattle.class_linker.specs.declared.fault.Refusal.{Refusal}
use Rattle.name_resolver.specs.declared.names.Names.{Names}
use Rattle.class_linker.specs.Faults.{noted, only_if}
use Rattle.name_resolver.specs.Index.{Rows}
use Rattle.name_resolver.specs.Names.{next}
use Rattle.class_linker.specs.Linked.{linked}
use Rattle.class_linker.specs.Bodies.{labels_of, fault_in, line_judged, code_judged, catches_judged, body_judged, methods_judged, bodies_judged}
use Rattle.class_linker.specs.Programs.{kept, code_of, methods_in, methods_of}
use Rattle.shape_laws.proofs.Tests.{all_both}
use Rattle.linking_laws.proofs.Judged.{noted_none, only_none, fewer_than}
use Rattle.linking_laws.proofs.Numbered.{next_number}

-- ---- lines

-- nothing is wrong with a line only where nothing was before it, and it is one of the first 16,384
line_none : (names : Names) (thread_run : ℕ) (texts labels : Rows) (l : PlainLineText) (n : ℕ) (found : Option Refusal) → line_judged names thread_run texts labels l n found ≡ None → (found ≡ None) × (n < 16384)
line_none names thread_run texts labels l n found e =
    let many : _ = noted_none (noted found l.line (fault_in (linked names thread_run texts labels l))) l.line (only_if TooMany (nat_le 16384 n) None) e in
    ((noted_none found l.line (fault_in (linked names thread_run texts labels l)) many.0).0, fewer_than 16384 n (only_none TooMany (nat_le 16384 n) None many.1).0)

-- the same of all lines of a method
code_none : (names : Names) (thread_run : ℕ) (texts labels : Rows) (ls : List PlainLineText) (n : ℕ) (found : Option Refusal) → code_judged names thread_run texts labels ls n found ≡ None → (found ≡ None) × (n ≤ 16384 → n + length ls ≤ 16384)
unfolding code_judged
code_none names thread_run texts labels [] n found e = (e, λ h. omega (arith, h))
code_none names thread_run texts labels (l ∷ ls) n found e =
    let rest : (line_judged names thread_run texts labels l n found ≡ None) × (next n ≤ 16384 → next n + length ls ≤ 16384) = code_none names thread_run texts labels ls (next n) (line_judged names thread_run texts labels l n found) e in
    let here : (found ≡ None) × (n < 16384) = line_none names thread_run texts labels l n found rest.0 in
    let counted : next n ≡ n + 1 = next_number n (omega (arith, here.1)) in
    let more : next n + length ls ≤ 16384 = rest.1 (omega (arith, counted, here.1)) in
    (here.0, λ h. omega (arith, more, counted))

-- and of its exception table
catches_none : (cs : List CatchText) (found : Option Refusal) → catches_judged cs found ≡ None → found ≡ None
unfolding catches_judged
catches_none [] found e = e
catches_none (c ∷ cs) found e = (noted_none found c.line (Some OutOfProfile) (catches_none cs (noted found c.line (Some OutOfProfile)) e)).0

-- ---- methods

-- a method has at most 16,384 instructions
abbrev pub IsShort : PlainMethodText → Type 0
IsShort m = length m.lines ≤ 16384

-- nothing is wrong with a method's body only where it is short
body_none : (names : Names) (thread_run : ℕ) (texts : Rows) (m : PlainMethodText) (found : Option Refusal) → body_judged names thread_run texts m found ≡ None → (found ≡ None) × IsShort m
body_none names thread_run texts m found e =
    let code : (found ≡ None) × (0 ≤ 16384 → 0 + length m.lines ≤ 16384) = code_none names thread_run texts (labels_of m) m.lines 0 found (catches_none m.catches _ e) in
    (code.0, omega (arith, code.1 (omega arith)))

-- the same of the methods of a class
methods_none : (names : Names) (thread_run : ℕ) (texts : Rows) (ms : List PlainMethodText) (found : Option Refusal) → methods_judged names thread_run texts ms found ≡ None → (found ≡ None) × AllByRecursion IsShort ms
unfolding methods_judged
methods_none names thread_run texts [] found e = (e, tt)
methods_none names thread_run texts (m ∷ ms) found e =
    let rest : (body_judged names thread_run texts m found ≡ None) × AllByRecursion IsShort ms = methods_none names thread_run texts ms (body_judged names thread_run texts m found) e in
    let here : (found ≡ None) × IsShort m = body_none names thread_run texts m found rest.0 in
    (here.0, (here.1, rest.1))

-- and of all classes
pub bodies_none : (names : Names) (thread_run : ℕ) (texts : Rows) (cs : List PlainClassText) (found : Option Refusal) → bodies_judged names thread_run texts cs found ≡ None → (found ≡ None) × AllByRecursion (λ (c : PlainClassText). AllByRecursion IsShort c.methods) cs
unfolding bodies_judged
bodies_none names thread_run texts [] found e = (e, tt)
bodies_none names thread_run texts (c ∷ cs) found e =
    let rest : (methods_judged names thread_run texts c.methods found ≡ None) × AllByRecursion (λ (x : PlainClassText). AllByRecursion IsShort x.methods) cs = bodies_none names thread_run texts cs (methods_judged names thread_run texts c.methods found) e in
    let here : (found ≡ None) × AllByRecursion IsShort c.methods = methods_none names thread_run texts c.methods found rest.0 in
    (here.0, (here.1, rest.1))

-- ---- linked code

-- a line gives at most one instruction
kept_short : (r : Result Instr LinkKind) → length (kept r) ≤ 1
kept_short (Ok i) = omega arith
kept_short (Err kind) = omega arith

-- so the code has at most as many as there are lines
code_short : (names : Names) (thread_run : ℕ) (texts labels : Rows) (ls : List PlainLineText) → length (code_of names thread_run texts labels ls) ≤ length ls
unfolding code_of
code_short names thread_run texts labels [] = omega arith
code_short names thread_run texts labels (l ∷ ls) =
    omega (arith, length-append (kept (linked names thread_run texts labels l)) (code_of names thread_run texts labels ls), kept_short (linked names thread_run texts labels l), code_short names thread_run texts labels ls)

-- the same of a linked method
abbrev pub IsShortCode : PlainMethod → Type 0
IsShortCode m = length m.code ≤ 16384

-- short methods of a class are linked to short ones
all_short : (names : Names) (thread_run : ℕ) (texts : Rows) (number : ℕ) (ms : List PlainMethodText) → AllByRecursion IsShort ms → AllByRecursion IsShortCode (methods_in names thread_run texts number ms)
unfolding methods_in
all_short names thread_run texts number [] all = tt
all_short names thread_run texts number (m ∷ ms) all = (omega (arith, code_short names thread_run texts (labels_of m) m.lines, all.0), all_short names thread_run texts number ms all.1)

-- and those of all classes
classes_short : (names : Names) (thread_run : ℕ) (texts : Rows) (n : ℕ) (cs : List PlainClassText) → AllByRecursion (λ (c : PlainClassText). AllByRecursion IsShort c.methods) cs → AllByRecursion IsShortCode (methods_of names thread_run texts n cs)
unfolding methods_of
classes_short names thread_run texts n [] all = tt
classes_short names thread_run texts n (c ∷ cs) all =
    all_both IsShortCode (methods_in names thread_run texts n c.methods) (methods_of names thread_run texts (next n) cs) (all_short names thread_run texts n c.methods all.0) (classes_short names thread_run texts (next n) cs all.1)

-- the methods of bodies in which nothing is wrong
pub bodies_short : (names : Names) (thread_run : ℕ) (texts : Rows) (n : ℕ) (cs : List PlainClassText) → bodies_judged names thread_run texts cs None ≡ None → AllByRecursion IsShortCode (methods_of names thread_run texts n cs)
bodies_short names thread_run texts n cs e = classes_short names thread_run texts n cs (bodies_none names thread_run texts cs None e).1
