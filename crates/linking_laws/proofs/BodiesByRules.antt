-- The faults that are listed of bodies are those that the rules name, and linking names the first of them.
use Rattle.std.proofs.Common.{◌≡◌, ℕ, ◌+◌, ◌≤◌, Bool, true, false, List, [], ◌∷◌, ◌++◌, Some, None, refl, sym, ap, ◌∙◌, subst, arith, ◌⊎◌, inl, inr, ⊎_elim, length-append}
use Rattle.std.specs.Prelude.{if◌then◌else◌, nat_le, nat_lt, length, flat_map, bytes_eq, is_some, Contains}
use Rattle.std.proofs.lemmas.Bool.Decides.{nat_tests}
use Rattle.std.proofs.lemmas.List.Elements.{Contains-append_cases, Contains-append_right}
use Rattle.jasmin_lines.specs.declared.class_text.CatchText.{CatchText}
use Rattle.jasmin_lines.specs.declared.class_text.Operand.{Operand}
use Rattle.jasmin_lines.specs.declared.class_text.Operand.TheVariants as operand
use Rattle.jasmin_lines.specs.Plain.{PlainClassText, PlainMethodText, PlainLineText}
use Rattle.name_resolver.specs.declared.fault.LinkKind.{LinkKind}
use Rattle.name_resolver.specs.declared.fault.LinkKind.TheVariants as kinds
use Rattle.class_linker.specs.declared.fault.Refusal.{Refusal}
use Rattle.class_linker.specs.Faults.{only_if}
use Rattle.name_resolver.specs.Index.{value_of}
use Rattle.name_resolver.specs.Names.{next, names_of}
use Rattle.class_linker.specs.Bodies.{PlainTexts, no_texts, added_text, with_text, with_operand, with_operands, with_lines, with_bodies, with_all, texts_of, labels_of, fault_in}
use Rattle.class_linker.specs.Linked.{linked}
use Rattle.shape_laws.proofs.Tests.{on_left, on_right, at_most}
use Rattle.linking_laws.specs.LinkFaults.{of_line, line_faults, code_faults, catches_faults, method_faults, body_faults}
use Rattle.linking_laws.specs.BodyRules.{LineFault, HasMethodFault, OfLine, ManyInstructions, OfCatch, HasBodyFault}
use Rattle.linking_laws.proofs.There.{at_least}
use Rattle.linking_laws.proofs.Members.{contains_first, contains_cases, contains_none, bytes_same, there_joined, joined_there, there_map, map_there}
use Rattle.linking_laws.proofs.Chains.{of_line_fault, Has, has_line, has_left, has_right, first_or, no_fault, here}
use Rattle.linking_laws.proofs.Counting.{next_split}
use Rattle.linking_laws.proofs.Presence.{there_with}
use Rattle.linking_laws.proofs.LineFaults.{Constants, line_rule, rule_line}

-- ---- text constants

-- what is there stays there
abbrev Keeps : PlainTexts → PlainTexts → Type 0
Keeps t u = (key : List ℕ) → is_some (value_of key t.rows) ≡ true → is_some (value_of key u.rows) ≡ true

text_keeps : (text : List ℕ) (t : PlainTexts) → Keeps t (with_text text t)
text_keeps text t key e = by (is_some (value_of text t.rows))
  where
    by : (b : Bool) → is_some (value_of key (if b then t else added_text text t).rows) ≡ true
    by true = e
    by false = there_with key text t.count t.rows ∙ on_left (is_some (value_of key t.rows)) (bytes_eq key text) e

text_there : (text : List ℕ) (t : PlainTexts) → is_some (value_of text (with_text text t).rows) ≡ true
text_there text t = by (is_some (value_of text t.rows)) refl
  where
    by : (b : Bool) → is_some (value_of text t.rows) ≡ b → is_some (value_of text (if b then t else added_text text t).rows) ≡ true
    by true e = e
    by false e = there_with text text t.count t.rows ∙ on_right (is_some (value_of text t.rows)) (bytes_eq text text) (bytes_same text text refl)

operand_keeps : (x : Operand) (t : PlainTexts) → Keeps t (with_operand x t)
operand_keeps (operand.Text text) t = text_keeps text t
operand_keeps (operand.Number n) t = λ key e. e
operand_keeps (operand.Word word) t = λ key e. e

operands_keep : (xs : List Operand) (t : PlainTexts) → Keeps t (with_operands xs t)
unfolding with_operands
operands_keep [] t = λ key e. e
operands_keep (x ∷ xs) t = λ key e. operands_keep xs (with_operand x t) key (operand_keeps x t key e)

lines_keep : (ls : List PlainLineText) (t : PlainTexts) → Keeps t (with_lines ls t)
unfolding with_lines
lines_keep [] t = λ key e. e
lines_keep (l ∷ ls) t = λ key e. lines_keep ls (with_operands l.operands t) key (operands_keep l.operands t key e)

bodies_keep : (ms : List PlainMethodText) (t : PlainTexts) → Keeps t (with_bodies ms t)
unfolding with_bodies
bodies_keep [] t = λ key e. e
bodies_keep (m ∷ ms) t = λ key e. bodies_keep ms (with_lines m.lines t) key (lines_keep m.lines t key e)

all_keep : (cs : List PlainClassText) (t : PlainTexts) → Keeps t (with_all cs t)
unfolding with_all
all_keep [] t = λ key e. e
all_keep (c ∷ cs) t = λ key e. all_keep cs (with_bodies c.methods t) key (bodies_keep c.methods t key e)

line_there : (l : PlainLineText) (text : List ℕ) (t : PlainTexts) → l.operands ≡ operand.Text text ∷ [] → is_some (value_of text (with_operands l.operands t).rows) ≡ true
unfolding with_operands
line_there l text t e = ap (λ (xs : List Operand). is_some (value_of text (with_operands xs t).rows)) e ∙ text_there text t

lines_there : (ls : List PlainLineText) (t : PlainTexts) (l : PlainLineText) → Contains ls l → Constants (with_lines ls t).rows l
unfolding with_lines
lines_there [] t l h text e = absurd (contains_none l h)
lines_there (x ∷ ls) t l h text e =
    ⊎_elim (λ (same : x ≡ l). lines_keep ls (with_operands x.operands t) text (line_there x text t (ap (λ (k : PlainLineText). k.operands) same ∙ e)))
    (λ (later : Contains ls l). lines_there ls (with_operands x.operands t) l later text e) (contains_cases x l ls h)

bodies_there : (ms : List PlainMethodText) (t : PlainTexts) (m : PlainMethodText) (l : PlainLineText) → Contains ms m → Contains m.lines l → Constants (with_bodies ms t).rows l
unfolding with_bodies
bodies_there [] t m l h k text e = absurd (contains_none m h)
bodies_there (x ∷ ms) t m l h k text e =
    ⊎_elim (λ (same : x ≡ m). bodies_keep ms (with_lines x.lines t) text (lines_there x.lines t l (subst (λ (y : PlainMethodText). Contains y.lines l) (sym same) k) text e))
    (λ (later : Contains ms m). bodies_there ms (with_lines x.lines t) m l later k text e) (contains_cases x m ms h)

all_there : (cs : List PlainClassText) (t : PlainTexts) (c : PlainClassText) (m : PlainMethodText) (l : PlainLineText) → Contains cs c → Contains c.methods m → Contains m.lines l → Constants (with_all cs t).rows l
unfolding with_all
all_there [] t c m l g h k text e = absurd (contains_none c g)
all_there (x ∷ cs) t c m l g h k text e =
    ⊎_elim (λ (same : x ≡ c). all_keep cs (with_bodies x.methods t) text (bodies_there x.methods t m l (subst (λ (y : PlainClassText). Contains y.methods m) (sym same) h) k text e))
    (λ (later : Contains cs c). all_there cs (with_bodies x.methods t) c m l later h k text e) (contains_cases x c cs g)

-- ---- the lines of a method

-- counted exactly, up to far above the limit
abbrev Counts : ℕ → ℕ → Type 0
Counts n k = (n ≡ k) ⊎ ((16384 ≤ n) × (16384 ≤ k))

next_counts : (n k : ℕ) → Counts n k → Counts (next n) (k + 1)
next_counts n k (inl e) = by (nat_lt n 2147483647) refl
  where
    by : (b : Bool) → nat_lt n 2147483647 ≡ b → Counts (if b then n + 1 else n) (k + 1)
    by true lt = inl (omega (arith, e))
    by false lt = let most : 2147483647 ≤ n = grind (arith, nat_tests) in inr (omega (arith, most), omega (arith, most, e))
next_counts n k (inr h) = by (nat_lt n 2147483647)
  where
    by : (b : Bool) → Counts (if b then n + 1 else n) (k + 1)
    by true = inr (omega (arith, h.0), omega (arith, h.1))
    by false = inr (h.0, omega (arith, h.1))

counts_many : (n k : ℕ) → Counts n k → 16384 ≤ n → 16384 ≤ k
counts_many n k (inl e) h = omega (arith, e, h)
counts_many n k (inr both) h = both.1

many_counts : (n k : ℕ) → Counts n k → 16384 ≤ k → 16384 ≤ n
many_counts n k (inl e) h = omega (arith, e, h)
many_counts n k (inr both) h = both.0

-- a method of the text
record Inside (text : List PlainClassText) (m : PlainMethodText) : Type 0 where
  pub class : PlainClassText
  pub declared : Contains text class
  pub there : Contains class.methods m

constants : (text : List PlainClassText) (m : PlainMethodText) (l : PlainLineText) → Inside text m → Contains m.lines l → Constants (texts_of text).rows l
constants text m l h k = all_there text no_texts h.class m l h.declared h.there k

length_end : {A : Type 0} (xs : List A) (x : A) → length (xs ++ x ∷ []) ≡ length xs + 1
length_end xs x = length-append xs (x ∷ [])

-- a line of its code
code_rules : (text : List PlainClassText) (m : PlainMethodText) (earlier rest : List PlainLineText) (n : ℕ) (f : Refusal) → Inside text m → m.lines ≡ earlier ++ rest → Counts n (length earlier)
    → Contains (code_faults (names_of text).1 (names_of text).0.methods (texts_of text).rows (labels_of m) rest n) f → HasMethodFault text m f.line f.kind
unfolding code_faults
code_rules text m earlier [] n f h split s there = absurd (contains_none f there)
code_rules text m earlier (l ∷ rest) n f h split s there =
    ⊎_elim (λ (own : Contains (first ++ second) f). ⊎_elim in_first in_second (Contains-append_cases first second f own))
    (λ (later : Contains (code_faults (names_of text).1 (names_of text).0.methods (texts_of text).rows (labels_of m) rest (next n)) f).
    code_rules text m (earlier ++ l ∷ []) rest (next n) f h (next_split m.lines earlier l rest split) (subst (Counts (next n)) (sym (length_end earlier l)) (next_counts n (length earlier) s)) later)
    (Contains-append_cases (first ++ second) (code_faults (names_of text).1 (names_of text).0.methods (texts_of text).rows (labels_of m) rest (next n)) f there)
  where
    first : List Refusal
    first = of_line l.line (fault_in (linked (names_of text).1 (names_of text).0.methods (texts_of text).rows (labels_of m) l))

    second : List Refusal
    second = of_line l.line (only_if kinds.TooMany (nat_le 16384 n) None)

    in_text : Contains m.lines l
    in_text = subst (λ (ls : List PlainLineText). Contains ls l) (sym split) (Contains-append_right earlier (l ∷ rest) l (contains_first l rest))

    in_first : Contains first f → HasMethodFault text m f.line f.kind
    in_first own =
        let is : _ = of_line_fault l.line (fault_in (linked (names_of text).1 (names_of text).0.methods (texts_of text).rows (labels_of m) l)) f own in
        OfLine l in_text is.0 (line_rule text (names_of text).0.methods (texts_of text).rows m l f.kind (constants text m l h in_text) is.1)

    in_second : Contains second f → HasMethodFault text m f.line f.kind
    in_second own =
        let is : _ = of_line_fault l.line (only_if kinds.TooMany (nat_le 16384 n) None) f own in
        ⊎_elim (λ (x : (nat_le 16384 n ≡ true) × (kinds.TooMany ≡ f.kind)). ManyInstructions earlier rest l split (counts_many n (length earlier) s (at_most 16384 n x.0)) is.0 (sym x.1))
        (λ (x : (nat_le 16384 n ≡ false) × (None ≡ Some f.kind)). absurd (no_fault f.kind x.1)) (first_or kinds.TooMany f.kind (nat_le 16384 n) None is.1)

-- and the other way round
rules_code : (text : List PlainClassText) (m : PlainMethodText) (ls : List PlainLineText) (n : ℕ) (l : PlainLineText) (kind : LinkKind) → Contains ls l → LineFault text m l kind
    → Has (code_faults (names_of text).1 (names_of text).0.methods (texts_of text).rows (labels_of m) ls n) l.line kind
unfolding code_faults
rules_code text m [] n l kind there fault = absurd (contains_none l there)
rules_code text m (x ∷ ls) n l kind there fault = by (contains_cases x l ls there) (λ later. rules_code text m ls (next n) l kind later fault)
  where
    faults : PlainLineText → List Refusal
    faults y = line_faults (names_of text).1 (names_of text).0.methods (texts_of text).rows (labels_of m) y n

    rest : List Refusal
    rest = code_faults (names_of text).1 (names_of text).0.methods (texts_of text).rows (labels_of m) ls (next n)

    own : Has (faults l) l.line kind
    own =
        has_left (of_line l.line (fault_in (linked (names_of text).1 (names_of text).0.methods (texts_of text).rows (labels_of m) l))) (of_line l.line (only_if kinds.TooMany (nat_le 16384 n) None)) l.line kind
        (has_line l.line kind (fault_in (linked (names_of text).1 (names_of text).0.methods (texts_of text).rows (labels_of m) l)) (rule_line text (names_of text).0.methods (texts_of text).rows m l kind fault))

    by : (x ≡ l) ⊎ Contains ls l → (Contains ls l → Has rest l.line kind) → Has (faults x ++ rest) l.line kind
    by (inl same) more = has_left (faults x) rest l.line kind (subst (λ (y : PlainLineText). Has (faults y) l.line kind) (sym same) own)
    by (inr later) more = has_right (faults x) rest l.line kind (more later)

rules_many : (text : List PlainClassText) (m : PlainMethodText) (front : List PlainLineText) (l : PlainLineText) (later : List PlainLineText) (n k : ℕ) → Counts n k → 16384 ≤ k + length front
    → Has (code_faults (names_of text).1 (names_of text).0.methods (texts_of text).rows (labels_of m) (front ++ l ∷ later) n) l.line kinds.TooMany
unfolding code_faults
rules_many text m [] l later n k s h =
    has_left (first ++ second) (code_faults (names_of text).1 (names_of text).0.methods (texts_of text).rows (labels_of m) later (next n)) l.line kinds.TooMany
    (has_right first second l.line kinds.TooMany (has_line l.line kinds.TooMany (only_if kinds.TooMany (nat_le 16384 n) None) (here kinds.TooMany (nat_le 16384 n) None (at_least 16384 n (many_counts n k s (omega (arith, h)))))))
  where
    first : List Refusal
    first = of_line l.line (fault_in (linked (names_of text).1 (names_of text).0.methods (texts_of text).rows (labels_of m) l))

    second : List Refusal
    second = of_line l.line (only_if kinds.TooMany (nat_le 16384 n) None)
rules_many text m (x ∷ front) l later n k s h =
    has_right (line_faults (names_of text).1 (names_of text).0.methods (texts_of text).rows (labels_of m) x n) (code_faults (names_of text).1 (names_of text).0.methods (texts_of text).rows (labels_of m) (front ++ l ∷ later) (next n)) l.line kinds.TooMany
    (rules_many text m front l later (next n) (k + 1) (next_counts n k s) (omega (arith, h)))

-- ---- a method

method_rules : (text : List PlainClassText) (m : PlainMethodText) (f : Refusal) → Inside text m → Contains (method_faults (names_of text).1 (names_of text).0.methods (texts_of text).rows m) f → HasMethodFault text m f.line f.kind
method_rules text m f h there =
    ⊎_elim (λ (own : Contains code f). code_rules text m [] m.lines 0 f h refl (inl refl) own)
    (λ (own : Contains (catches_faults m.catches) f).
    let c : _ = there_map (λ (c : CatchText). record { kind = kinds.OutOfProfile; line = c.line }) m.catches f own in
    OfCatch c.0 c.1 (ap (λ (g : Refusal). g.line) (sym c.2)) (ap (λ (g : Refusal). g.kind) (sym c.2)))
    (Contains-append_cases code (catches_faults m.catches) f there)
  where
    code : List Refusal
    code = code_faults (names_of text).1 (names_of text).0.methods (texts_of text).rows (labels_of m) m.lines 0

rules_method : (text : List PlainClassText) (m : PlainMethodText) (line : ℕ) (kind : LinkKind) → HasMethodFault text m line kind → Has (method_faults (names_of text).1 (names_of text).0.methods (texts_of text).rows m) line kind
rules_method text m line kind fault = by fault
  where
    code : List Refusal
    code = code_faults (names_of text).1 (names_of text).0.methods (texts_of text).rows (labels_of m) m.lines 0

    moved : (faults : List Refusal) (other : ℕ) (k : LinkKind) → line ≡ other → kind ≡ k → Has faults other k → Has faults line kind
    moved faults other k e i h = subst (λ (x : ℕ). Has faults x kind) (sym e) (subst (Has faults other) (sym i) h)

    by : HasMethodFault text m line kind → Has (code ++ catches_faults m.catches) line kind
    by (OfLine l there e x) = has_left code (catches_faults m.catches) line kind (moved code l.line kind e refl (rules_code text m m.lines 0 l kind there x))
    by (ManyInstructions earlier later l split long e k) =
        has_left code (catches_faults m.catches) line kind (moved code l.line kinds.TooMany e k
        (subst (λ (ls : List PlainLineText). Has (code_faults (names_of text).1 (names_of text).0.methods (texts_of text).rows (labels_of m) ls 0) l.line kinds.TooMany) (sym split) (rules_many text m earlier l later 0 0 (inl refl) (omega (arith, long)))))
    by (OfCatch c there e k) =
        has_right code (catches_faults m.catches) line kind (moved (catches_faults m.catches) c.line kinds.OutOfProfile e k
        (record { fault = record { kind = kinds.OutOfProfile; line = c.line }; is_one = map_there (λ (d : CatchText). record { kind = kinds.OutOfProfile; line = d.line }) m.catches c there; same_line = refl; at_most = omega arith }))

-- ---- all bodies

pub body_listed_by_rule : (text : List PlainClassText) (f : Refusal) → Contains (body_faults text) f → HasBodyFault text f.line f.kind
body_listed_by_rule text f there =
    let c : _ = there_joined (λ (c : PlainClassText). flat_map (method_faults (names_of text).1 (names_of text).0.methods (texts_of text).rows) c.methods) text f there in
    let m : _ = there_joined (method_faults (names_of text).1 (names_of text).0.methods (texts_of text).rows) c.0.methods f c.2 in
    record { class = c.0; method = m.0; declared = c.1; there = m.1; fault = method_rules text m.0 f (record { class = c.0; declared = c.1; there = m.1 }) m.2 }

pub body_rule_listed : (text : List PlainClassText) (line : ℕ) (kind : LinkKind) → HasBodyFault text line kind → Has (body_faults text) line kind
body_rule_listed text line kind h =
    let own : Has (method_faults (names_of text).1 (names_of text).0.methods (texts_of text).rows h.method) line kind = rules_method text h.method line kind h.fault in
    record {
      fault = own.fault;
      is_one =
          joined_there (λ (c : PlainClassText). flat_map (method_faults (names_of text).1 (names_of text).0.methods (texts_of text).rows) c.methods) text h.class own.fault h.declared
          (joined_there (method_faults (names_of text).1 (names_of text).0.methods (texts_of text).rows) h.class.methods h.method own.fault h.there own.is_one);
      same_line = own.same_line;
      at_most = own.at_most;
    }
