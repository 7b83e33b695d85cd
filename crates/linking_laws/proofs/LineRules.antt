-- What linking says of a line with an instruction is what the rules say.
use Rattle.std.proofs.Common.{◌≡◌, ℕ, Bool, true, false, List, [], ◌∷◌, ◌++◌, Option, Some, None, Result, Ok, Err, refl, sym, ap, ◌∙◌, subst, arith, ◌⊎◌, ⊎_elim}
use Rattle.std.specs.Prelude.{◌||◌, if◌then◌else◌, map, codes, bytes_eq, is_some, ℤ, unsigned_abs, Contains}
use Rattle.std.specs.List.{list_any}
use Rattle.std.proofs.lemmas.Bool.{false≢true}
use Rattle.std.proofs.lemmas.List.Folds.{list_any-append}
use Rattle.vm_model.specs.declared.instr.Instr.{Instr}
use Rattle.vm_model.specs.declared.instr.Instr.TheVariants as instr
use Rattle.vm_model.specs.Failures.{◌>>=◌, or_fault}
use Rattle.jasmin_lines.specs.Plain.{PlainClassText, PlainMethodText, PlainLineText}
use Rattle.jasmin_lines.specs.Mnemonics as mnemonics
use Rattle.name_resolver.specs.declared.calls.Target.{Target}
use Rattle.name_resolver.specs.declared.fault.LinkKind.{LinkKind}
use Rattle.name_resolver.specs.declared.fault.LinkKind.TheVariants as kinds
use Rattle.name_resolver.specs.Index.{value_of}
use Rattle.name_resolver.specs.Names.{names_of}
use Rattle.class_linker.specs.Bodies.{fault_in, labels_of}
use Rattle.name_resolver.specs.Descriptors.{class_of}
use Rattle.name_resolver.specs.Calls.{known, class_or}
use Rattle.jasmin_lines.specs.Tables.{row_of}
use Rattle.class_linker.specs.Linked.{alone, int_jump, pair_jump, other_jump, or_else, jump_to, numbered}
use Rattle.shape_laws.proofs.Tests.{either, on_left, on_right}
use Rattle.linking_laws.specs.BodyRules as rules
use Rattle.linking_laws.specs.BodyRules.{FindsMethod, FindsField, IsOut, HasLabel, Before, AtEnd, calls, without_objects, AreOperands, Alone, OfNumber, OfConstant, OfWord, OfNumbers, OfWords, IsUnknown, LineFault, OtherOperands, NotAlone, NotNumbered, LongText, NewOfUnknown, NewWithout, CallOfUnknown, CallWithUnknown, CallOfNone, JumpNowhere, NoJump, AccessOfUnknown, AccessWithUnknown, AccessOfNone}
use Rattle.linking_laws.proofs.There.{names_within}
use Rattle.linking_laws.proofs.Members.{any_one, any_there, same_bytes, bytes_same, is_false, word_there, there_word}
use Rattle.linking_laws.proofs.Chains.{Within}
use Rattle.linking_laws.proofs.ClassRules.{true_false}
use Rattle.linking_laws.proofs.Presence.{method_label}
use Rattle.linking_laws.proofs.BuiltInRules.{Numbers, several}

pub same_some : {A : Type 0} (x y : A) → Some x ≡ Some y → x ≡ y
same_some x y e = cc

pub none_found : {A : Type 0} (x : A) → None ≡ Some x → ⊥
none_found x e = cc

abbrev pub missing : LinkKind → Bool → Option LinkKind
missing kind found = if found then None else Some kind

-- what isn't found is a fault
pub missing_is : (kind found : LinkKind) (b : Bool) → missing kind b ≡ Some found → (b ≡ false) × (kind ≡ found)
missing_is kind found true e = absurd (none_found found e)
missing_is kind found false e = (refl, same_some kind found e)

pub is_missing : (kind : LinkKind) (b : Bool) → b ≡ false → Within kind (missing kind b)
is_missing kind true e = absurd (false≢true (sym e))
is_missing kind false e = omega arith

pub or_missing : (kind : LinkKind) (o : Option Instr) → fault_in (or_fault kind o) ≡ missing kind (is_some o)
or_missing kind None = refl
or_missing kind (Some i) = refl

-- ---- tables

-- the first row of a word is there where the word is
row_there : (word : List ℕ) (rows : List (List ℕ × Instr)) → is_some (row_of word rows) ≡ list_any (λ (key : List ℕ). bytes_eq key word) (map (λ (row : List ℕ × Instr). row.0) rows)
row_there word [] = refl
row_there word (row ∷ rows) = by (bytes_eq row.0 word) (row_there word rows)
  where
    by : (b : Bool) → is_some (row_of word rows) ≡ list_any (λ (key : List ℕ). bytes_eq key word) (map (λ (row : List ℕ × Instr). row.0) rows) → is_some (if b then Some row.1 else row_of word rows) ≡ (b || list_any (λ (key : List ℕ). bytes_eq key word) (map (λ (row : List ℕ × Instr). row.0) rows))
    by true more = refl
    by false more = more

alone_words : map (λ (row : List ℕ × Instr). row.0) alone ≡ mnemonics.alone
unfolding alone
alone_words = refl

pub alone_rule : (word : List ℕ) → is_some (row_of word alone) ≡ false → Contains mnemonics.alone word → ⊥
alone_rule word e h =
    true_false (list_any (λ (key : List ℕ). bytes_eq key word) mnemonics.alone) (any_there (λ (key : List ℕ). bytes_eq key word) mnemonics.alone word h (bytes_same word word refl))
    (ap (list_any (λ (key : List ℕ). bytes_eq key word)) (sym alone_words) ∙ sym (row_there word alone) ∙ e)

pub rule_alone : (word : List ℕ) → (Contains mnemonics.alone word → ⊥) → is_some (row_of word alone) ≡ false
rule_alone word none =
    row_there word alone ∙ ap (list_any (λ (key : List ℕ). bytes_eq key word)) alone_words
    ∙ is_false (list_any (λ (key : List ℕ). bytes_eq key word) mnemonics.alone) (λ e. let x : _ = any_one (λ (key : List ℕ). bytes_eq key word) mnemonics.alone e in none (subst (Contains mnemonics.alone) (same_bytes x.0 word x.2) x.1))

numbered_step : (b c : Bool) (i : Instr) (rest : Result Instr LinkKind) → fault_in rest ≡ missing kinds.OutOfProfile c → fault_in (if b then Ok i else rest) ≡ missing kinds.OutOfProfile (b || c)
numbered_step true c i rest e = refl
numbered_step false c i rest e = e

pub numbered_is : (word : List ℕ) (n : ℤ) → fault_in (numbered word n) ≡ missing kinds.OutOfProfile (list_any (bytes_eq word) rules.numbered)
numbered_is word n =
    numbered_step (bytes_eq word (codes "ldc")) _ (instr.Push n) _ (numbered_step (bytes_eq word (codes "iload")) _ (instr.Iload (unsigned_abs n)) _ (numbered_step (bytes_eq word (codes "istore")) _ (instr.Istore (unsigned_abs n)) _
    (numbered_step (bytes_eq word (codes "aload")) _ (instr.Aload (unsigned_abs n)) _ (numbered_step (bytes_eq word (codes "astore")) false (instr.Astore (unsigned_abs n)) (Err kinds.OutOfProfile) refl))))

-- jumps
some_else : (a b : Option Instr) → is_some (or_else a b) ≡ (is_some a || is_some b)
some_else None b = refl
some_else (Some i) b = refl

abbrev int_jumps : List (List ℕ)
int_jumps = codes "ifeq" ∷ codes "ifne" ∷ codes "iflt" ∷ codes "ifge" ∷ codes "ifgt" ∷ codes "ifle" ∷ []

abbrev pair_jumps : List (List ℕ)
pair_jumps = codes "if_icmpeq" ∷ codes "if_icmpne" ∷ codes "if_icmplt" ∷ codes "if_icmpge" ∷ codes "if_icmpgt" ∷ codes "if_icmple" ∷ []

abbrev other_jumps : List (List ℕ)
other_jumps = codes "if_acmpeq" ∷ codes "if_acmpne" ∷ codes "ifnull" ∷ codes "ifnonnull" ∷ codes "goto" ∷ []

int_is : (word : List ℕ) (to : ℕ) → is_some (int_jump word to) ≡ list_any (bytes_eq word) int_jumps
int_is word to =
    several (bytes_eq word (codes "ifeq")) _ (instr.Ifeq to) _ (several (bytes_eq word (codes "ifne")) _ (instr.Ifne to) _ (several (bytes_eq word (codes "iflt")) _ (instr.Iflt to) _ (several (bytes_eq word (codes "ifge")) _ (instr.Ifge to) _
    (several (bytes_eq word (codes "ifgt")) _ (instr.Ifgt to) _ (several (bytes_eq word (codes "ifle")) false (instr.Ifle to) None refl)))))

pair_is : (word : List ℕ) (to : ℕ) → is_some (pair_jump word to) ≡ list_any (bytes_eq word) pair_jumps
pair_is word to =
    several (bytes_eq word (codes "if_icmpeq")) _ (instr.IfIcmpeq to) _ (several (bytes_eq word (codes "if_icmpne")) _ (instr.IfIcmpne to) _ (several (bytes_eq word (codes "if_icmplt")) _ (instr.IfIcmplt to) _ (several (bytes_eq word (codes "if_icmpge")) _ (instr.IfIcmpge to) _
    (several (bytes_eq word (codes "if_icmpgt")) _ (instr.IfIcmpgt to) _ (several (bytes_eq word (codes "if_icmple")) false (instr.IfIcmple to) None refl)))))

other_is : (word : List ℕ) (to : ℕ) → is_some (other_jump word to) ≡ list_any (bytes_eq word) other_jumps
other_is word to =
    several (bytes_eq word (codes "if_acmpeq")) _ (instr.IfAcmpeq to) _ (several (bytes_eq word (codes "if_acmpne")) _ (instr.IfAcmpne to) _ (several (bytes_eq word (codes "ifnull")) _ (instr.Ifnull to) _ (several (bytes_eq word (codes "ifnonnull")) _ (instr.Ifnonnull to) _
    (several (bytes_eq word (codes "goto")) false (instr.Goto to) None refl))))

pub jump_is : (word : List ℕ) (to : ℕ) → is_some (jump_to word to) ≡ list_any (bytes_eq word) mnemonics.jumps
jump_is word to =
    some_else (int_jump word to) (or_else (pair_jump word to) (other_jump word to)) ∙ ap (λ (b : Bool). b || is_some (or_else (pair_jump word to) (other_jump word to))) (int_is word to)
    ∙ ap (λ (b : Bool). list_any (bytes_eq word) int_jumps || b) (some_else (pair_jump word to) (other_jump word to) ∙ ap (λ (b : Bool). b || is_some (other_jump word to)) (pair_is word to) ∙ ap (λ (b : Bool). list_any (bytes_eq word) pair_jumps || b) (other_is word to)
    ∙ sym (list_any-append (bytes_eq word) pair_jumps other_jumps))
    ∙ sym (list_any-append (bytes_eq word) int_jumps (pair_jumps ++ other_jumps))

-- ---- three questions

-- a class, types and what is asked for, of a call
pub data CallFault (o : Option ℕ) (unknown : Bool) (found : ℕ → Bool) : LinkKind → Type 0 where
  NoClass : o ≡ None → CallFault o unknown found kinds.UnknownClass
  NoType : unknown ≡ true → CallFault o unknown found kinds.UnknownClass
  NoMethod : (n : ℕ) → o ≡ Some n → found n ≡ false → CallFault o unknown found kinds.UnknownMethod

pub call_fault : (o : Option ℕ) (unknown : Bool) (tgt : ℕ → Target) (by : Target → Option Instr) (kind : LinkKind)
    → fault_in ((or_fault kinds.UnknownClass o >>= λ n. known unknown >>= λ checked. Ok (tgt n)) >>= λ t. or_fault kinds.UnknownMethod (by t)) ≡ Some kind → CallFault o unknown (λ n. is_some (by (tgt n))) kind
call_fault None unknown tgt by kind e = subst (CallFault None unknown (λ n. is_some (by (tgt n)))) (same_some kinds.UnknownClass kind e) (NoClass refl)
call_fault (Some n) true tgt by kind e = subst (CallFault (Some n) true (λ n. is_some (by (tgt n)))) (same_some kinds.UnknownClass kind e) (NoType refl)
call_fault (Some n) false tgt by kind e =
    let m : _ = missing_is kinds.UnknownMethod kind (is_some (by (tgt n))) (sym (or_missing kinds.UnknownMethod (by (tgt n))) ∙ e) in
    subst (CallFault (Some n) false (λ n. is_some (by (tgt n)))) m.1 (NoMethod n refl m.0)

pub fault_call : (o : Option ℕ) (unknown : Bool) (tgt : ℕ → Target) (by : Target → Option Instr)
    → ((o ≡ None) ⊎ (unknown ≡ true) → Within kinds.UnknownClass (fault_in ((or_fault kinds.UnknownClass o >>= λ n. known unknown >>= λ checked. Ok (tgt n)) >>= λ t. or_fault kinds.UnknownMethod (by t))))
    × (((n : ℕ) → o ≡ Some n → is_some (by (tgt n)) ≡ false) → Within kinds.UnknownMethod (fault_in ((or_fault kinds.UnknownClass o >>= λ n. known unknown >>= λ checked. Ok (tgt n)) >>= λ t. or_fault kinds.UnknownMethod (by t))))
fault_call None unknown tgt by = (λ h. omega arith, λ h. omega arith)
fault_call (Some n) true tgt by = (λ h. omega arith, λ h. omega arith)
fault_call (Some n) false tgt by = (λ h. absurd (⊎_elim (λ (e : Some n ≡ None). some_is n e) (λ (e : false ≡ true). false≢true e) h), λ h. subst (Within kinds.UnknownMethod) (sym (or_missing kinds.UnknownMethod (by (tgt n)))) (is_missing kinds.UnknownMethod (is_some (by (tgt n))) (h n refl)))
  where
    some_is : (n : ℕ) → Some n ≡ None → ⊥
    some_is n e = cc

-- the same of an access
pub data AccessFault (o : Option ℕ) (out unknown : Bool) (found : ℕ → Bool) : LinkKind → Type 0 where
  NoOwner : o ≡ None → out ≡ false → AccessFault o out unknown found kinds.UnknownClass
  NoKind : unknown ≡ true → AccessFault o out unknown found kinds.UnknownClass
  NoField : (n : ℕ) → found n ≡ false → AccessFault o out unknown found kinds.UnknownField

access_ok : (o : Option ℕ) (out unknown : Bool) (n : ℕ) (by : ℕ → Option Instr) (kind : LinkKind) → fault_in (known unknown >>= λ checked. or_fault kinds.UnknownField (by n)) ≡ Some kind → AccessFault o out unknown (λ n. is_some (by n)) kind
access_ok o out true n by kind e = subst (AccessFault o out true (λ n. is_some (by n))) (same_some kinds.UnknownClass kind e) (NoKind refl)
access_ok o out false n by kind e =
    let m : _ = missing_is kinds.UnknownField kind (is_some (by n)) (sym (or_missing kinds.UnknownField (by n)) ∙ e) in
    subst (AccessFault o out false (λ n. is_some (by n))) m.1 (NoField n m.0)

pub access_fault : (o : Option ℕ) (out unknown : Bool) (by : ℕ → Option Instr) (kind : LinkKind)
    → fault_in (class_or out o >>= λ n. known unknown >>= λ checked. or_fault kinds.UnknownField (by n)) ≡ Some kind → AccessFault o out unknown (λ n. is_some (by n)) kind
access_fault (Some n) out unknown by kind e = access_ok (Some n) out unknown n by kind e
access_fault None true unknown by kind e = access_ok None true unknown 0 by kind e
access_fault None false unknown by kind e = subst (AccessFault None false unknown (λ n. is_some (by n))) (same_some kinds.UnknownClass kind e) (NoOwner refl refl)

pub fault_access : (o : Option ℕ) (out unknown : Bool) (by : ℕ → Option Instr)
    → (((o ≡ None) × (out ≡ false)) ⊎ (unknown ≡ true) → Within kinds.UnknownClass (fault_in (class_or out o >>= λ n. known unknown >>= λ checked. or_fault kinds.UnknownField (by n))))
    × (((n : ℕ) → is_some (by n) ≡ false) → Within kinds.UnknownField (fault_in (class_or out o >>= λ n. known unknown >>= λ checked. or_fault kinds.UnknownField (by n))))
fault_access None false unknown by = (λ h. omega arith, λ h. omega arith)
fault_access None true true by = (λ h. omega arith, λ h. omega arith)
fault_access None true false by =
    (λ h. absurd (⊎_elim (λ (e : (None ≡ None) × (true ≡ false)). false≢true (sym e.1)) (λ (e : false ≡ true). false≢true e) h), λ h. subst (Within kinds.UnknownField) (sym (or_missing kinds.UnknownField (by 0))) (is_missing kinds.UnknownField (is_some (by 0)) (h 0)))
fault_access (Some n) out true by = (λ h. omega arith, λ h. omega arith)
fault_access (Some n) out false by =
    (λ h. absurd (⊎_elim (λ (e : (Some n ≡ None) × (out ≡ false)). some_is n e.0) (λ (e : false ≡ true). false≢true e) h), λ h. subst (Within kinds.UnknownField) (sym (or_missing kinds.UnknownField (by n))) (is_missing kinds.UnknownField (is_some (by n)) (h n)))
  where
    some_is : (n : ℕ) → Some n ≡ None → ⊥
    some_is n e = cc

-- ---- each form

pub numbers_at : (text : List PlainClassText) (class : List ℕ) (n : ℕ) → class_of (names_of text).1.classes class ≡ Some n → Numbers text class n
numbers_at text class n e = record { high = _; within = names_within text; is = e }

-- labels
pub label_rule : (m : PlainMethodText) (label : List ℕ) → is_some (value_of label (labels_of m)) ≡ true → HasLabel m label
label_rule m label e =
    ⊎_elim (λ (h : list_any (λ (l : PlainLineText). list_any (bytes_eq label) l.labels) m.lines ≡ true).
    let l : _ = any_one (λ (l : PlainLineText). list_any (bytes_eq label) l.labels) m.lines h in Before l.0 l.1 (word_there label l.0.labels l.2))
    (λ (h : list_any (bytes_eq label) m.end_labels ≡ true). AtEnd (word_there label m.end_labels h))
    (either (list_any (λ (l : PlainLineText). list_any (bytes_eq label) l.labels) m.lines) (list_any (bytes_eq label) m.end_labels) (sym (method_label label m) ∙ e))

pub rule_label : (m : PlainMethodText) (label : List ℕ) → HasLabel m label → is_some (value_of label (labels_of m)) ≡ true
rule_label m label (Before l there h) =
    method_label label m ∙ on_left (list_any (λ (l : PlainLineText). list_any (bytes_eq label) l.labels) m.lines) (list_any (bytes_eq label) m.end_labels) (any_there (λ (l : PlainLineText). list_any (bytes_eq label) l.labels) m.lines l there (there_word label l.labels h))
rule_label m label (AtEnd h) = method_label label m ∙ on_right (list_any (λ (l : PlainLineText). list_any (bytes_eq label) l.labels) m.lines) (list_any (bytes_eq label) m.end_labels) (there_word label m.end_labels h)
