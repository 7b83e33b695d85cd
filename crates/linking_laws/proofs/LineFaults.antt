-- A line with an instruction has the faults that the rules name: what linking says of it is one of them, and the least.
use Rattle.std.proofs.Common.{◌≡◌, ℕ, ◌<◌, Bool, true, false, List, [], ◌∷◌, Option, Some, None, Result, Ok, Err, refl, sym, ap, ◌∙◌, subst, arith, ◌⊎◌, inl, inr}
use Rattle.std.specs.Prelude.{not, ◌||◌, if◌then◌else◌, nat_lt, length, codes, bytes_eq, is_some, Contains}
use Rattle.std.specs.List.{list_any}
use Rattle.std.proofs.lemmas.Bool.{false≢true}
use Rattle.vm_model.specs.declared.instr.Instr.{Instr}
use Rattle.vm_model.specs.declared.instr.Instr.TheVariants as instr
use Rattle.vm_model.specs.Failures.{◌>>=◌, or_fault}
use Rattle.jasmin_lines.specs.declared.class_text.Operand.{Operand}
use Rattle.jasmin_lines.specs.declared.class_text.Operand.TheVariants as operand
use Rattle.jasmin_lines.specs.Plain.{PlainClassText, PlainMethodText, PlainLineText}
use Rattle.jasmin_lines.specs.Mnemonics as mnemonics
use Rattle.name_resolver.specs.declared.fault.LinkKind.{LinkKind}
use Rattle.name_resolver.specs.declared.fault.LinkKind.TheVariants as kinds
use Rattle.name_resolver.specs.declared.names.Names.{Names}
use Rattle.name_resolver.specs.Index.{Rows, value_of}
use Rattle.name_resolver.specs.Words.{member}
use Rattle.name_resolver.specs.Names.{names_of}
use Rattle.class_linker.specs.Bodies.{fault_in, labels_of}
use Rattle.name_resolver.specs.Descriptors.{class_of, type_of, is_unknown, method_signature, in_signature}
use Rattle.name_resolver.specs.Calls.{target_of, call, call_by, class_part, name_part, desc_part, is_out, field, field_by}
use Rattle.jasmin_lines.specs.Tables.{row_of}
use Rattle.class_linker.specs.Linked.{alone, jump_to, texted, made, jumped, is_call, worded, linked_by, linked}
use Rattle.built_in_classes.specs.Classes.{has_objects}
use Rattle.shape_laws.proofs.Tests.{below_true, true_below}
use Rattle.linking_laws.specs.Types.{IsUnknownType, Says}
use Rattle.linking_laws.specs.BodyRules as rules
use Rattle.linking_laws.specs.BodyRules.{FindsMethod, FindsField, IsOut, HasLabel, calls, without_objects, AreOperands, Alone, OfNumber, OfConstant, OfWord, OfNumbers, OfWords, IsUnknown, LineFault, OtherOperands, NotAlone, NotNumbered, LongText, NewOfUnknown, NewWithout, CallOfUnknown, CallWithUnknown, CallOfNone, JumpNowhere, NoJump, AccessOfUnknown, AccessWithUnknown, AccessOfNone}
use Rattle.linking_laws.proofs.Members.{same_bytes, bytes_other, is_false, word_there, there_word, contains_later, contains_cases}
use Rattle.linking_laws.proofs.Chains.{Within}
use Rattle.linking_laws.proofs.There.{names_within}
use Rattle.linking_laws.proofs.ClassRules.{not_true, false_not, true_false}
use Rattle.linking_laws.proofs.Spelled.{reads_unknown, unknown_reads}
use Rattle.linking_laws.proofs.Declared.{known_classes}
use Rattle.linking_laws.proofs.Presence.{or_grouped}
use Rattle.linking_laws.proofs.BuiltInRules.{told, tells_objects}
use Rattle.linking_laws.proofs.CallRules.{some_none, unknown_rule, rule_unknown, types_rule, rule_types, target_at, call_rule, rule_call, no_out, out_rule, access_rule, rule_access}
use Rattle.linking_laws.proofs.LineRules.{same_some, none_found, missing, missing_is, is_missing, or_missing, alone_rule, rule_alone, numbered_is, jump_is, CallFault, NoClass, NoType, NoMethod, call_fault, fault_call, AccessFault, NoOwner, NoKind, NoField, access_fault, fault_access, numbers_at, label_rule, rule_label}

-- ---- calls are three

or_false : (a : Bool) → a ≡ (a || false)
or_false true = refl
or_false false = refl

is_call_is : (word : List ℕ) → is_call word ≡ list_any (bytes_eq word) calls
is_call_is word =
    or_grouped (bytes_eq word (codes "invokestatic")) (bytes_eq word (codes "invokevirtual")) (bytes_eq word (codes "invokespecial"))
    ∙ ap (λ (b : Bool). bytes_eq word (codes "invokestatic") || (bytes_eq word (codes "invokevirtual") || b)) (or_false (bytes_eq word (codes "invokespecial")))

-- the word takes a word that is no label, where it is one of these
not_worded : (word : List ℕ) → bytes_eq word (codes "new") ≡ false → bytes_eq word (codes "newarray") ≡ false → is_call word ≡ false → Contains rules.worded word → ⊥
not_worded word n a c h =
    true_false (list_any (bytes_eq word) rules.worded) (there_word word rules.worded h)
    (ap (λ (b : Bool). b || (bytes_eq word (codes "newarray") || list_any (bytes_eq word) calls)) n ∙ ap (λ (b : Bool). b || list_any (bytes_eq word) calls) a ∙ sym (is_call_is word) ∙ c)

-- ---- one word

-- `new`
made_rule : (text : List PlainClassText) (m : PlainMethodText) (l : PlainLineText) (class : List ℕ) (kind : LinkKind) → l.word ≡ codes "new" → l.operands ≡ operand.Word class ∷ [] → fault_in (made (names_of text).1 class) ≡ Some kind → LineFault text m l kind
unfolding made
made_rule text m l class kind word is e = by (class_of (names_of text).1.classes class) refl e
  where
    object : (n : ℕ) → class_of (names_of text).1.classes class ≡ Some n → (b : Bool) → has_objects n ≡ b → fault_in (if b then Ok (instr.New n) else Err kinds.OutOfProfile) ≡ Some kind → LineFault text m l kind
    object n found true has h = absurd (none_found kind h)
    object n found false has h =
        subst (LineFault text m l) (same_some kinds.OutOfProfile kind h)
        (NewWithout class word is (word_there class without_objects (sym (told _ (names_of text).1.classes (λ (k : ℕ). not (has_objects k)) without_objects class n tells_objects (names_within text) found) ∙ false_not (has_objects n) has)))

    by : (o : Option ℕ) → class_of (names_of text).1.classes class ≡ o → fault_in (or_fault kinds.UnknownClass o >>= λ n. if has_objects n then Ok (instr.New n) else Err kinds.OutOfProfile) ≡ Some kind → LineFault text m l kind
    by None found h = subst (LineFault text m l) (same_some kinds.UnknownClass kind h) (NewOfUnknown class word is (unknown_rule text class found))
    by (Some n) found h = object n found (has_objects n) refl h

rule_made : (text : List PlainClassText) (class : List ℕ) → (IsUnknown text class → Within kinds.UnknownClass (fault_in (made (names_of text).1 class))) × (Contains without_objects class → Within kinds.OutOfProfile (fault_in (made (names_of text).1 class)))
unfolding made
rule_made text class = (λ u. unknown (rule_unknown text class u), λ c. without (class_of (names_of text).1.classes class) refl c)
  where
    unknown : class_of (names_of text).1.classes class ≡ None → Within kinds.UnknownClass (fault_in (or_fault kinds.UnknownClass (class_of (names_of text).1.classes class) >>= λ n. if has_objects n then Ok (instr.New n) else Err kinds.OutOfProfile))
    unknown e = subst (λ (o : Option ℕ). Within kinds.UnknownClass (fault_in (or_fault kinds.UnknownClass o >>= λ n. if has_objects n then Ok (instr.New n) else Err kinds.OutOfProfile))) (sym e) (omega arith)

    refused : (n : ℕ) → has_objects n ≡ false → Within kinds.OutOfProfile (fault_in (if has_objects n then Ok (instr.New n) else Err kinds.OutOfProfile))
    refused n e = subst (λ (b : Bool). Within kinds.OutOfProfile (fault_in (if b then Ok (instr.New n) else Err kinds.OutOfProfile))) (sym e) (omega arith)

    without : (o : Option ℕ) → class_of (names_of text).1.classes class ≡ o → Contains without_objects class → Within kinds.OutOfProfile (fault_in (or_fault kinds.UnknownClass o >>= λ n. if has_objects n then Ok (instr.New n) else Err kinds.OutOfProfile))
    without None found c = omega arith
    without (Some n) found c =
        refused n (not_true (has_objects n) (told _ (names_of text).1.classes (λ (k : ℕ). not (has_objects k)) without_objects class n tells_objects (names_within text) found ∙ there_word class without_objects c))

-- a call
called_rule : (text : List PlainClassText) (thread_run : ℕ) (m : PlainMethodText) (l : PlainLineText) (word : List ℕ) (kind : LinkKind) → Contains calls l.word → l.operands ≡ operand.Word word ∷ [] → fault_in (call (names_of text).1 thread_run l.word word) ≡ Some kind → LineFault text m l kind
unfolding call target_of
called_rule text thread_run m l word kind called is e =
    by kind (call_fault (class_of (names_of text).1.classes (class_part word)) (in_signature is_unknown (method_signature (names_of text).1.classes (name_part word) (desc_part word))) (target_at text word) (call_by (names_of text).1 thread_run l.word) kind e)
  where
    by : (kind : LinkKind) → CallFault (class_of (names_of text).1.classes (class_part word)) (in_signature is_unknown (method_signature (names_of text).1.classes (name_part word) (desc_part word))) (λ n. is_some (call_by (names_of text).1 thread_run l.word (target_at text word n))) kind → LineFault text m l kind
    by kind (NoClass h) = CallOfUnknown word called is (unknown_rule text (class_part word) h)
    by kind (NoType h) = let t : _ = types_rule text word h in CallWithUnknown word t.0 called is t.1 t.2
    by kind (NoMethod n h missing) = CallOfNone word called is (λ finds. true_false (is_some (call_by (names_of text).1 thread_run l.word (target_at text word n))) (rule_call text thread_run l.word word n called (numbers_at text (class_part word) n h) finds) missing)

rule_called : (text : List PlainClassText) (thread_run : ℕ) (mnemonic word : List ℕ) → Contains calls mnemonic
    → (IsUnknown text (class_part word) ⊎ ((type : List ℕ) × Says (desc_part word) type × IsUnknownType text type) → Within kinds.UnknownClass (fault_in (call (names_of text).1 thread_run mnemonic word)))
    × ((FindsMethod text mnemonic word → ⊥) → Within kinds.UnknownMethod (fault_in (call (names_of text).1 thread_run mnemonic word)))
unfolding call target_of
rule_called text thread_run mnemonic word called =
    let both : _ = fault_call (class_of (names_of text).1.classes (class_part word)) (in_signature is_unknown (method_signature (names_of text).1.classes (name_part word) (desc_part word))) (target_at text word) (call_by (names_of text).1 thread_run mnemonic) in
    (λ h. both.0 (unknown h), λ none. both.1 (λ n found. is_false (is_some (call_by (names_of text).1 thread_run mnemonic (target_at text word n))) (λ e. none (call_rule text thread_run mnemonic word n called (numbers_at text (class_part word) n found) e))))
  where
    unknown : IsUnknown text (class_part word) ⊎ ((type : List ℕ) × Says (desc_part word) type × IsUnknownType text type)
        → (class_of (names_of text).1.classes (class_part word) ≡ None) ⊎ (in_signature is_unknown (method_signature (names_of text).1.classes (name_part word) (desc_part word)) ≡ true)
    unknown (inl u) = inl (rule_unknown text (class_part word) u)
    unknown (inr t) = inr (rule_types text word t.0 t.1 t.2)

-- a jump
jumped_rule : (text : List PlainClassText) (m : PlainMethodText) (l : PlainLineText) (label : List ℕ) (kind : LinkKind) → (Contains rules.worded l.word → ⊥) → l.operands ≡ operand.Word label ∷ [] → fault_in (jumped (labels_of m) l.word label) ≡ Some kind → LineFault text m l kind
unfolding jumped
jumped_rule text m l label kind other is e = by (value_of label (labels_of m)) refl e
  where
    by : (o : Option ℕ) → value_of label (labels_of m) ≡ o → fault_in (or_fault kinds.UnknownLabel o >>= λ to. or_fault kinds.OutOfProfile (jump_to l.word to)) ≡ Some kind → LineFault text m l kind
    by None found h = subst (LineFault text m l) (same_some kinds.UnknownLabel kind h) (JumpNowhere label other is (λ has. true_false (is_some (value_of label (labels_of m))) (rule_label m label has) (ap (λ (o : Option ℕ). is_some o) found)))
    by (Some to) found h =
        let x : _ = missing_is kinds.OutOfProfile kind (is_some (jump_to l.word to)) (sym (or_missing kinds.OutOfProfile (jump_to l.word to)) ∙ h) in
        subst (LineFault text m l) x.1 (NoJump label other is (λ jump. true_false (list_any (bytes_eq l.word) mnemonics.jumps) (there_word l.word mnemonics.jumps jump) (sym (jump_is l.word to) ∙ x.0)))

rule_jumped : (m : PlainMethodText) (word label : List ℕ) → ((HasLabel m label → ⊥) → Within kinds.UnknownLabel (fault_in (jumped (labels_of m) word label))) × ((Contains mnemonics.jumps word → ⊥) → Within kinds.OutOfProfile (fault_in (jumped (labels_of m) word label)))
unfolding jumped
rule_jumped m word label = (λ none. nowhere (some_none (value_of label (labels_of m)) (is_false (is_some (value_of label (labels_of m))) (λ e. none (label_rule m label e)))), λ none. no_jump (value_of label (labels_of m)) none)
  where
    nowhere : value_of label (labels_of m) ≡ None → Within kinds.UnknownLabel (fault_in (or_fault kinds.UnknownLabel (value_of label (labels_of m)) >>= λ to. or_fault kinds.OutOfProfile (jump_to word to)))
    nowhere e = subst (λ (o : Option ℕ). Within kinds.UnknownLabel (fault_in (or_fault kinds.UnknownLabel o >>= λ to. or_fault kinds.OutOfProfile (jump_to word to)))) (sym e) (omega arith)

    no_jump : (o : Option ℕ) → (Contains mnemonics.jumps word → ⊥) → Within kinds.OutOfProfile (fault_in (or_fault kinds.UnknownLabel o >>= λ to. or_fault kinds.OutOfProfile (jump_to word to)))
    no_jump None none = omega arith
    no_jump (Some to) none =
        subst (Within kinds.OutOfProfile) (sym (or_missing kinds.OutOfProfile (jump_to word to)))
        (is_missing kinds.OutOfProfile (is_some (jump_to word to)) (jump_is word to ∙ is_false (list_any (bytes_eq word) mnemonics.jumps) (λ e. none (word_there word mnemonics.jumps e))))

-- any of them
worded_rule : (text : List PlainClassText) (thread_run : ℕ) (m : PlainMethodText) (l : PlainLineText) (word : List ℕ) (kind : LinkKind) → l.operands ≡ operand.Word word ∷ [] → fault_in (worded (names_of text).1 thread_run (labels_of m) l.word word) ≡ Some kind → LineFault text m l kind
worded_rule text thread_run m l word kind is e = by (bytes_eq l.word (codes "new")) refl (bytes_eq l.word (codes "newarray")) refl (is_call l.word) refl e
  where
    by : (n : Bool) → bytes_eq l.word (codes "new") ≡ n → (a : Bool) → bytes_eq l.word (codes "newarray") ≡ a → (c : Bool) → is_call l.word ≡ c
        → fault_in (if n then made (names_of text).1 word else if a then Ok instr.NewArray else if c then call (names_of text).1 thread_run l.word word else jumped (labels_of m) l.word word) ≡ Some kind → LineFault text m l kind
    by true n a b c d h = made_rule text m l word kind (same_bytes l.word (codes "new") n) is h
    by false n true b c d h = absurd (none_found kind h)
    by false n false b true d h = called_rule text thread_run m l word kind (word_there l.word calls (sym (is_call_is l.word) ∙ d)) is h
    by false n false b false d h = jumped_rule text m l word kind (not_worded l.word n b d) is h

as_new : (names : Names) (thread_run : ℕ) (labels : Rows) (mnemonic word : List ℕ) → mnemonic ≡ codes "new" → worded names thread_run labels mnemonic word ≡ made names word
as_new names thread_run labels mnemonic word e = ap (λ (w : List ℕ). worded names thread_run labels w word) e

as_call : (names : Names) (thread_run : ℕ) (labels : Rows) (mnemonic word : List ℕ) → Contains calls mnemonic → worded names thread_run labels mnemonic word ≡ call names thread_run mnemonic word
as_call names thread_run labels mnemonic word h = by (contains_cases (codes "invokestatic") mnemonic (codes "invokevirtual" ∷ codes "invokespecial" ∷ []) h)
  where
    one : (w : List ℕ) → w ≡ mnemonic → worded names thread_run labels w word ≡ call names thread_run w word → worded names thread_run labels mnemonic word ≡ call names thread_run mnemonic word
    one w e so = subst (λ (x : List ℕ). worded names thread_run labels x word ≡ call names thread_run x word) e so

    last : (codes "invokespecial" ≡ mnemonic) ⊎ Contains [] mnemonic → worded names thread_run labels mnemonic word ≡ call names thread_run mnemonic word
    last (inl e) = one (codes "invokespecial") e refl
    last (inr none) = absurd (omega (arith, none.1))

    second : (codes "invokevirtual" ≡ mnemonic) ⊎ Contains (codes "invokespecial" ∷ []) mnemonic → worded names thread_run labels mnemonic word ≡ call names thread_run mnemonic word
    second (inl e) = one (codes "invokevirtual") e refl
    second (inr more) = last (contains_cases (codes "invokespecial") mnemonic [] more)

    by : (codes "invokestatic" ≡ mnemonic) ⊎ Contains (codes "invokevirtual" ∷ codes "invokespecial" ∷ []) mnemonic → worded names thread_run labels mnemonic word ≡ call names thread_run mnemonic word
    by (inl e) = one (codes "invokestatic") e refl
    by (inr more) = second (contains_cases (codes "invokevirtual") mnemonic (codes "invokespecial" ∷ []) more)

as_jump : (names : Names) (thread_run : ℕ) (labels : Rows) (mnemonic word : List ℕ) → (Contains rules.worded mnemonic → ⊥) → worded names thread_run labels mnemonic word ≡ jumped labels mnemonic word
as_jump names thread_run labels mnemonic word none =
    ap (λ (b : Bool). if b then made names word else if bytes_eq mnemonic (codes "newarray") then Ok instr.NewArray else if is_call mnemonic then call names thread_run mnemonic word else jumped labels mnemonic word) (bytes_other mnemonic (codes "new") (λ e. none (0, omega arith, sym e)))
    ∙ ap (λ (b : Bool). if b then Ok instr.NewArray else if is_call mnemonic then call names thread_run mnemonic word else jumped labels mnemonic word) (bytes_other mnemonic (codes "newarray") (λ e. none (1, omega arith, sym e)))
    ∙ ap (λ (b : Bool). if b then call names thread_run mnemonic word else jumped labels mnemonic word) (is_call_is mnemonic ∙ is_false (list_any (bytes_eq mnemonic) calls) (λ e. none (contains_later (codes "new") mnemonic (codes "newarray" ∷ calls) (contains_later (codes "newarray") mnemonic calls (word_there mnemonic calls e)))))

-- ---- a word and a descriptor

field_rule : (text : List PlainClassText) (m : PlainMethodText) (l : PlainLineText) (word desc : List ℕ) (kind : LinkKind) → l.operands ≡ operand.Word word ∷ operand.Word desc ∷ [] → fault_in (field (names_of text).1 l.word word desc) ≡ Some kind → LineFault text m l kind
unfolding field
field_rule text m l word desc kind is e =
    by kind (access_fault (class_of (names_of text).1.classes (member word).0) (is_out word desc) (is_unknown (type_of (names_of text).1.classes desc)) (field_by (names_of text).1 l.word word desc) kind e)
  where
    by : (kind : LinkKind) → AccessFault (class_of (names_of text).1.classes (member word).0) (is_out word desc) (is_unknown (type_of (names_of text).1.classes desc)) (λ n. is_some (field_by (names_of text).1 l.word word desc n)) kind → LineFault text m l kind
    by kind (NoOwner h out) = AccessOfUnknown word desc is (unknown_rule text (member word).0 h) (no_out word desc out)
    by kind (NoKind h) = AccessWithUnknown word desc is (reads_unknown text (names_of text).1.classes desc (known_classes text) h)
    by kind (NoField n h) = AccessOfNone word desc is (λ finds. true_false (is_some (field_by (names_of text).1 l.word word desc n)) (rule_access text l.word word desc n finds) h)

rule_field : (text : List PlainClassText) (mnemonic word desc : List ℕ)
    → ((IsUnknown text (member word).0 × (IsOut word desc → ⊥)) ⊎ IsUnknownType text desc → Within kinds.UnknownClass (fault_in (field (names_of text).1 mnemonic word desc)))
    × ((FindsField text mnemonic word desc → ⊥) → Within kinds.UnknownField (fault_in (field (names_of text).1 mnemonic word desc)))
unfolding field
rule_field text mnemonic word desc =
    let two : _ = fault_access (class_of (names_of text).1.classes (member word).0) (is_out word desc) (is_unknown (type_of (names_of text).1.classes desc)) (field_by (names_of text).1 mnemonic word desc) in
    (λ h. two.0 (unknown h), λ none. two.1 (λ n. is_false (is_some (field_by (names_of text).1 mnemonic word desc n)) (λ e. none (access_rule text mnemonic word desc n e))))
  where
    out_so : (IsOut word desc → ⊥) → is_out word desc ≡ false
    out_so none = is_false (is_out word desc) (λ e. none (out_rule word desc e))

    unknown : (IsUnknown text (member word).0 × (IsOut word desc → ⊥)) ⊎ IsUnknownType text desc → ((class_of (names_of text).1.classes (member word).0 ≡ None) × (is_out word desc ≡ false)) ⊎ (is_unknown (type_of (names_of text).1.classes desc) ≡ true)
    unknown (inl u) = inl (rule_unknown text (member word).0 u.0, out_so u.1)
    unknown (inr t) = inr (unknown_reads text (names_of text).1.classes desc (known_classes text) t)

-- ---- operands

-- whether operands are of a form that instructions have
are_form : List Operand → Bool
are_form [] = true
are_form (operand.Number n ∷ []) = true
are_form (operand.Text text ∷ []) = true
are_form (operand.Word word ∷ []) = true
are_form (operand.Number n ∷ operand.Number by ∷ []) = true
are_form (operand.Word word ∷ operand.Word desc ∷ []) = true
are_form _ = false

are_so : (ops : List Operand) → AreOperands ops → are_form ops ≡ true
unfolding are_form
are_so ops Alone = refl
are_so ops (OfNumber n) = refl
are_so ops (OfConstant text) = refl
are_so ops (OfWord word) = refl
are_so ops (OfNumbers n by) = refl
are_so ops (OfWords word desc) = refl

-- ---- a line

-- its text constants are known
abbrev pub Constants : Rows → PlainLineText → Type 0
Constants texts l = (text : List ℕ) → l.operands ≡ operand.Text text ∷ [] → is_some (value_of text texts) ≡ true

texted_rule : (text : List PlainClassText) (m : PlainMethodText) (l : PlainLineText) (texts : Rows) (constant : List ℕ) (kind : LinkKind) → l.operands ≡ operand.Text constant ∷ [] → is_some (value_of constant texts) ≡ true → fault_in (texted texts constant) ≡ Some kind → LineFault text m l kind
unfolding texted
texted_rule text m l texts constant kind is there e = by (nat_lt 200 (length constant)) refl (value_of constant texts) there e
  where
    by : (b : Bool) → nat_lt 200 (length constant) ≡ b → (o : Option ℕ) → is_some o ≡ true → fault_in (if b then Err kinds.TooMany else (or_fault kinds.OutOfProfile o >>= λ n. Ok (instr.PushText n))) ≡ Some kind → LineFault text m l kind
    by true long o found h = subst (LineFault text m l) (same_some kinds.TooMany kind h) (LongText constant is (true_below 200 (length constant) long))
    by false long None found h = absurd (false≢true found)
    by false long (Some n) found h = absurd (none_found kind h)

rule_texted : (texts : Rows) (constant : List ℕ) → 200 < length constant → Within kinds.TooMany (fault_in (texted texts constant))
unfolding texted
rule_texted texts constant h = subst (λ (b : Bool). Within kinds.TooMany (fault_in (if b then Err kinds.TooMany else (or_fault kinds.OutOfProfile (value_of constant texts) >>= λ n. Ok (instr.PushText n))))) (sym (below_true 200 (length constant) h)) (omega arith)

pub line_rule : (text : List PlainClassText) (thread_run : ℕ) (texts : Rows) (m : PlainMethodText) (l : PlainLineText) (kind : LinkKind) → Constants texts l → fault_in (linked (names_of text).1 thread_run texts (labels_of m) l) ≡ Some kind → LineFault text m l kind
unfolding are_form
line_rule text thread_run texts m l kind constants e = by l.operands refl e
  where
    others : (ops : List Operand) → l.operands ≡ ops → are_form ops ≡ false → Some kinds.OutOfProfile ≡ Some kind → LineFault text m l kind
    others ops is form h = subst (LineFault text m l) (same_some kinds.OutOfProfile kind h) (OtherOperands (λ are. true_false (are_form ops) (are_so ops (subst AreOperands is are)) form))

    by : (ops : List Operand) → l.operands ≡ ops → fault_in (linked_by (names_of text).1 thread_run texts (labels_of m) l.word ops) ≡ Some kind → LineFault text m l kind
    by [] is h =
        let x : _ = missing_is kinds.OutOfProfile kind (is_some (row_of l.word alone)) (sym (or_missing kinds.OutOfProfile (row_of l.word alone)) ∙ h) in
        subst (LineFault text m l) x.1 (NotAlone is (alone_rule l.word x.0))
    by (operand.Number n ∷ []) is h =
        let x : _ = missing_is kinds.OutOfProfile kind (list_any (bytes_eq l.word) rules.numbered) (sym (numbered_is l.word n) ∙ h) in
        subst (LineFault text m l) x.1 (NotNumbered n is (λ c. true_false (list_any (bytes_eq l.word) rules.numbered) (there_word l.word rules.numbered c) x.0))
    by (operand.Text constant ∷ []) is h = texted_rule text m l texts constant kind is (constants constant is) h
    by (operand.Word word ∷ []) is h = worded_rule text thread_run m l word kind is h
    by (operand.Number n ∷ operand.Number k ∷ []) is h = absurd (none_found kind h)
    by (operand.Word word ∷ operand.Word desc ∷ []) is h = field_rule text m l word desc kind is h
    by (operand.Number n ∷ operand.Number k ∷ x ∷ rest) is h = others _ is refl h
    by (operand.Number n ∷ operand.Text t ∷ rest) is h = others _ is refl h
    by (operand.Number n ∷ operand.Word w ∷ rest) is h = others _ is refl h
    by (operand.Text t ∷ x ∷ rest) is h = others _ is refl h
    by (operand.Word w ∷ operand.Number n ∷ rest) is h = others _ is refl h
    by (operand.Word w ∷ operand.Text t ∷ rest) is h = others _ is refl h
    by (operand.Word w ∷ operand.Word d ∷ x ∷ rest) is h = others _ is refl h

pub rule_line : (text : List PlainClassText) (thread_run : ℕ) (texts : Rows) (m : PlainMethodText) (l : PlainLineText) (kind : LinkKind) → LineFault text m l kind → Within kind (fault_in (linked (names_of text).1 thread_run texts (labels_of m) l))
rule_line text thread_run texts m l kind fault = by kind fault
  where
    moved : (kind : LinkKind) (ops : List Operand) → l.operands ≡ ops → Within kind (fault_in (linked_by (names_of text).1 thread_run texts (labels_of m) l.word ops)) → Within kind (fault_in (linked (names_of text).1 thread_run texts (labels_of m) l))
    moved kind ops is w = subst (λ (os : List Operand). Within kind (fault_in (linked_by (names_of text).1 thread_run texts (labels_of m) l.word os))) (sym is) w

    one : (kind : LinkKind) (word : List ℕ) (r : Result Instr LinkKind) → l.operands ≡ operand.Word word ∷ [] → worded (names_of text).1 thread_run (labels_of m) l.word word ≡ r → Within kind (fault_in r) → Within kind (fault_in (linked (names_of text).1 thread_run texts (labels_of m) l))
    one kind word r is e w = moved kind (operand.Word word ∷ []) is (subst (λ (x : Result Instr LinkKind). Within kind (fault_in x)) (sym e) w)

    new_of : (kind : LinkKind) (class : List ℕ) → l.word ≡ codes "new" → l.operands ≡ operand.Word class ∷ [] → Within kind (fault_in (made (names_of text).1 class)) → Within kind (fault_in (linked (names_of text).1 thread_run texts (labels_of m) l))
    new_of kind class word is w = one kind class (made (names_of text).1 class) is (as_new (names_of text).1 thread_run (labels_of m) l.word class word) w

    call_of : (kind : LinkKind) (word : List ℕ) → Contains calls l.word → l.operands ≡ operand.Word word ∷ [] → Within kind (fault_in (call (names_of text).1 thread_run l.word word)) → Within kind (fault_in (linked (names_of text).1 thread_run texts (labels_of m) l))
    call_of kind word called is w = one kind word (call (names_of text).1 thread_run l.word word) is (as_call (names_of text).1 thread_run (labels_of m) l.word word called) w

    jump_of : (kind : LinkKind) (label : List ℕ) → (Contains rules.worded l.word → ⊥) → l.operands ≡ operand.Word label ∷ [] → Within kind (fault_in (jumped (labels_of m) l.word label)) → Within kind (fault_in (linked (names_of text).1 thread_run texts (labels_of m) l))
    jump_of kind label none is w = one kind label (jumped (labels_of m) l.word label) is (as_jump (names_of text).1 thread_run (labels_of m) l.word label none) w

    others : (ops : List Operand) → (AreOperands ops → ⊥) → Within kinds.OutOfProfile (fault_in (linked_by (names_of text).1 thread_run texts (labels_of m) l.word ops))
    others [] none = absurd (none Alone)
    others (operand.Number n ∷ []) none = absurd (none (OfNumber n))
    others (operand.Text t ∷ []) none = absurd (none (OfConstant t))
    others (operand.Word w ∷ []) none = absurd (none (OfWord w))
    others (operand.Number n ∷ operand.Number k ∷ []) none = absurd (none (OfNumbers n k))
    others (operand.Word w ∷ operand.Word d ∷ []) none = absurd (none (OfWords w d))
    others (operand.Number n ∷ operand.Number k ∷ x ∷ rest) none = omega arith
    others (operand.Number n ∷ operand.Text t ∷ rest) none = omega arith
    others (operand.Number n ∷ operand.Word w ∷ rest) none = omega arith
    others (operand.Text t ∷ x ∷ rest) none = omega arith
    others (operand.Word w ∷ operand.Number n ∷ rest) none = omega arith
    others (operand.Word w ∷ operand.Text t ∷ rest) none = omega arith
    others (operand.Word w ∷ operand.Word d ∷ x ∷ rest) none = omega arith

    by : (kind : LinkKind) → LineFault text m l kind → Within kind (fault_in (linked (names_of text).1 thread_run texts (labels_of m) l))
    by kind (OtherOperands none) = others l.operands none
    by kind (NotAlone is none) =
        moved kinds.OutOfProfile [] is (subst (Within kinds.OutOfProfile) (sym (or_missing kinds.OutOfProfile (row_of l.word alone))) (is_missing kinds.OutOfProfile (is_some (row_of l.word alone)) (rule_alone l.word none)))
    by kind (NotNumbered n is none) =
        moved kinds.OutOfProfile (operand.Number n ∷ []) is (subst (Within kinds.OutOfProfile) (sym (numbered_is l.word n)) (is_missing kinds.OutOfProfile (list_any (bytes_eq l.word) rules.numbered) (is_false (list_any (bytes_eq l.word) rules.numbered) (λ e. none (word_there l.word rules.numbered e)))))
    by kind (LongText constant is long) = moved kinds.TooMany (operand.Text constant ∷ []) is (rule_texted texts constant long)
    by kind (NewOfUnknown class word is u) = new_of kinds.UnknownClass class word is ((rule_made text class).0 u)
    by kind (NewWithout class word is c) = new_of kinds.OutOfProfile class word is ((rule_made text class).1 c)
    by kind (CallOfUnknown word called is u) = call_of kinds.UnknownClass word called is ((rule_called text thread_run l.word word called).0 (inl u))
    by kind (CallWithUnknown word type called is says u) = call_of kinds.UnknownClass word called is ((rule_called text thread_run l.word word called).0 (inr (type, says, u)))
    by kind (CallOfNone word called is none) = call_of kinds.UnknownMethod word called is ((rule_called text thread_run l.word word called).1 none)
    by kind (JumpNowhere label other is none) = jump_of kinds.UnknownLabel label other is ((rule_jumped m l.word label).0 none)
    by kind (NoJump label other is none) = jump_of kinds.OutOfProfile label other is ((rule_jumped m l.word label).1 none)
    by kind (AccessOfUnknown word desc is u out) = moved kinds.UnknownClass (operand.Word word ∷ operand.Word desc ∷ []) is ((rule_field text l.word word desc).0 (inl (u, out)))
    by kind (AccessWithUnknown word desc is u) = moved kinds.UnknownClass (operand.Word word ∷ operand.Word desc ∷ []) is ((rule_field text l.word word desc).0 (inr u))
    by kind (AccessOfNone word desc is none) = moved kinds.UnknownField (operand.Word word ∷ operand.Word desc ∷ []) is ((rule_field text l.word word desc).1 none)
