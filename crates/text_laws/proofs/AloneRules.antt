-- The fault of a line by itself is the least that its words have by the rules.
use Rattle.std.proofs.Common.{◌≡◌, ◌≢◌, ℕ, ◌-◌, ◌≤◌, Bool, true, false, List, [], ◌∷◌, ◌++◌, Option, Some, None, Result, Ok, Err, length, take, refl, arith, ap, sym, ◌∙◌, subst, cond, nat_eq, inl, inr}
use Rattle.std.specs.Prelude.{◌↔◌, Contains, slice_index}
use Rattle.std.proofs.lemmas.List.{length-append}
use Rattle.std.proofs.Math.Seq.{take-append_seam}
use Rattle.vm_model.specs.Failures.{◌>>=◌}
use Rattle.jasmin_lines.specs.declared.fault.ReadKind.{ReadKind}
use Rattle.jasmin_lines.specs.declared.fault.ReadKind.TheVariants.{BadDirective, BadMnemonic, BadOperand, BadName}
use Rattle.jasmin_lines.specs.declared.form.Form.{Form}
use Rattle.jasmin_lines.specs.declared.form.Form.TheVariants as form
use Rattle.jasmin_lines.specs.declared.lexeme.Lexeme.{Lexeme}
use Rattle.jasmin_lines.specs.declared.lexeme.Lexeme.TheVariants as lexeme
use Rattle.jasmin_lines.specs.declared.mnemonic.Mnemonic.{Mnemonic}
use Rattle.jasmin_lines.specs.Directives.{directive_form}
use Rattle.jasmin_lines.specs.Faults.{kind_number}
use Rattle.jasmin_lines.specs.Forms.{code, unlabelled_form, labelled_form, label_of, coded, begins_with_dot, form_of}
use Rattle.jasmin_lines.specs.Instructions.{instruction}
use Rattle.jasmin_lines.specs.Said.{PlainSaid}
use Rattle.jasmin_lines.specs.Words.{named, is_name}
use Rattle.text_laws.specs.LineRules.{IsLeast, HasNone}
use Rattle.text_laws.specs.WordRules.{directives, FollowsDirective, FollowsMnemonic, IsDotted, IsDirectiveLine, IsLabelLine, IsBareLine, HasInstruction, Bare, Labelled, BeginsWith, IsSpoiled, UnknownDirective, WrongWords, WrongName, UnknownMnemonic, WrongOperands, WrongOperandName, WrongLabel}
use Rattle.text_laws.proofs.DirectiveAnswers.{directive-answers}
use Rattle.text_laws.proofs.DirectiveRules.{DirectedAt, DirectedSo, directed}
use Rattle.text_laws.proofs.FaultTests.{FaultAtMost, same-kind}
use Rattle.text_laws.proofs.InstructionRules.{InstructedSo, instructed, instruction-answers, instruction-judged, same-word, no-word}
use Rattle.text_laws.proofs.Labels.{form-start, label-is, colon}
use Rattle.text_laws.proofs.Tests.{is}
use Rattle.text_laws.proofs.WordSteps.{JudgedSo, AnswersSo}

-- ---- how a line begins

dotted-so : (first : List ℕ) → begins_with_dot first ≡ true → IsDotted first
dotted-so [] h = absurd (cc)
dotted-so (b ∷ rest) h = is b 46 h

so-dotted : (first : List ℕ) → IsDotted first → begins_with_dot first ≡ true
so-dotted [] h = absurd h
so-dotted (b ∷ rest) h = rw h refl

undotted : (first : List ℕ) → (IsDotted first → ⊥) → begins_with_dot first ≡ false
undotted first h = by_dot (begins_with_dot first) refl
  where
    by_dot : (c : Bool) → begins_with_dot first ≡ c → begins_with_dot first ≡ false
    by_dot true e = absurd (h (dotted-so first e))
    by_dot false e = e

not-dotted : (first : List ℕ) → begins_with_dot first ≡ false → IsDotted first → ⊥
not-dotted first e h = let dotted : begins_with_dot first ≡ true = so-dotted first h in absurd (cc)

-- the last byte, and those before it
ends-with : (b : ℕ) (rest : List ℕ) → (front : List ℕ) × (last : ℕ) × (b ∷ rest ≡ front ++ last ∷ [])
ends-with b [] = ([], b, refl)
ends-with b (c ∷ rest) = let e = ends-with c rest in (b ∷ e.0, e.1, ap (λ (x : List ℕ). b ∷ x) e.2)

last-at : (front : List ℕ) (b : ℕ) → slice_index (front ++ b ∷ []) (length front) ≡ b
last-at [] b = refl
last-at (x ∷ front) b = last-at front b

abbrev label_if : List ℕ → List ℕ → ℕ → Option (List ℕ)
label_if bytes front b = cond (nat_eq b 58) (Some front) None

label-of-last : (front : List ℕ) (b : ℕ) → label_of (front ++ b ∷ []) ≡ label_if (front ++ b ∷ []) front b
label-of-last front b =
    let bytes : List ℕ = front ++ b ∷ [] in
    let size : length (front ++ b ∷ []) - 1 ≡ length front = omega (arith, length-append front (b ∷ [])) in
    ap (λ (n : ℕ). label_if bytes (take n bytes) (slice_index bytes n)) size
    ∙ ap (λ (x : ℕ). label_if bytes (take (length front) bytes) x) (last-at front b)
    ∙ ap (λ (xs : List ℕ). label_if bytes xs b) (take-append_seam front (b ∷ []))

colon-last : (front label : List ℕ) (b : ℕ) → label_of (front ++ b ∷ []) ≡ Some label → front ++ b ∷ [] ≡ label ++ 58 ∷ []
colon-last front label b e = by_byte (nat_eq b 58) refl (sym (label-of-last front b) ∙ e)
  where
    by_byte : (c : Bool) → nat_eq b 58 ≡ c → cond c (Some front) None ≡ Some label → front ++ b ∷ [] ≡ label ++ 58 ∷ []
    by_byte true h e' = let same : front ≡ label = cc in ap (λ (x : List ℕ). x ++ b ∷ []) same ∙ ap (λ (x : ℕ). label ++ x ∷ []) (is b 58 h)
    by_byte false h e' = absurd (cc)

label-so : (first label : List ℕ) → label_of first ≡ Some label → first ≡ label ++ 58 ∷ []
label-so [] label e = absurd (cc)
label-so (b ∷ rest) label e =
    let p = ends-with b rest in
    p.2 ∙ colon-last p.0 label p.1 (ap label_of (sym p.2) ∙ e)

pub data View (words : List Lexeme) : Type 0 where
  Dots : (first : List ℕ) (rest : List Lexeme) → IsDirectiveLine words first rest → View words
  Labels : (label : List ℕ) (rest : List Lexeme) → IsLabelLine words label rest → View words
  Else : IsBareLine words → View words

same-rest : (a b : List ℕ) (xs ys : List Lexeme) → lexeme.Word a ∷ xs ≡ lexeme.Word b ∷ ys → xs ≡ ys
same-rest a b xs ys e = cc

bare-word : (first : List ℕ) (rest : List Lexeme) → begins_with_dot first ≡ false → label_of first ≡ None → IsBareLine (lexeme.Word first ∷ rest)
bare-word first rest dot none = (
  (λ (f : List ℕ) (r : List Lexeme) (h : IsDirectiveLine (lexeme.Word first ∷ rest) f r). not-dotted first dot (subst IsDotted (sym (same-word first f rest r h.0)) h.1)),
  (λ (l : List ℕ) (r : List Lexeme) (h : IsLabelLine (lexeme.Word first ∷ rest) l r).
      let some : Some l ≡ None = sym (label-is l) ∙ ap label_of (sym (same-word first (colon l) rest r h.0)) ∙ none in absurd (cc)),
)

bare-other : (w : Lexeme) (rest : List Lexeme) → ((a : List ℕ) → w ≡ lexeme.Word a → ⊥) → IsBareLine (w ∷ rest)
bare-other w rest n = (
  (λ (f : List ℕ) (r : List Lexeme) (h : IsDirectiveLine (w ∷ rest) f r). no-word w f rest r n h.0),
  (λ (l : List ℕ) (r : List Lexeme) (h : IsLabelLine (w ∷ rest) l r). no-word w (colon l) rest r n h.0),
)

nothing-first : (a : List ℕ) (xs : List Lexeme) → [] ≡ lexeme.Word a ∷ xs → ⊥
nothing-first a xs e = cc

pub view : (words : List Lexeme) → View words
view [] = Else ((λ (f : List ℕ) (r : List Lexeme) (h : IsDirectiveLine [] f r). nothing-first f r h.0), (λ (l : List ℕ) (r : List Lexeme) (h : IsLabelLine [] l r). nothing-first (colon l) r h.0))
view (lexeme.Number n ∷ rest) = Else (bare-other (lexeme.Number n) rest (λ (a : List ℕ) (e : lexeme.Number n ≡ lexeme.Word a). absurd (cc)))
view (lexeme.Text text ∷ rest) = Else (bare-other (lexeme.Text text) rest (λ (a : List ℕ) (e : lexeme.Text text ≡ lexeme.Word a). absurd (cc)))
view (lexeme.Word first ∷ rest) = by_dot (begins_with_dot first) refl
  where
    by_label : begins_with_dot first ≡ false → (o : Option (List ℕ)) → label_of first ≡ o → View (lexeme.Word first ∷ rest)
    by_label dot (Some label) e =
        let same : first ≡ label ++ 58 ∷ [] = label-so first label e in
        Labels label rest (ap (λ (x : List ℕ). lexeme.Word x ∷ rest) same, subst (λ (x : List ℕ). IsDotted x → ⊥) same (not-dotted first dot))
    by_label dot None e = Else (bare-word first rest dot e)

    by_dot : (c : Bool) → begins_with_dot first ≡ c → View (lexeme.Word first ∷ rest)
    by_dot true e = Dots first rest (refl, dotted-so first e)
    by_dot false e = by_label e (label_of first) refl

-- ---- the form of each line

dot-start : (line : ℕ) (first : List ℕ) (rest : List Lexeme) → begins_with_dot first ≡ true → form_of line (lexeme.Word first ∷ rest) ≡ directive_form line first rest
unfolding form_of
dot-start line first rest dot = ap (λ (b : Bool). cond b (directive_form line first rest) (coded line (label_of first) rest (lexeme.Word first ∷ rest))) dot

pub directive-line : (line : ℕ) (words : List Lexeme) (first : List ℕ) (rest : List Lexeme) → IsDirectiveLine words first rest → form_of line words ≡ directive_form line first rest
directive-line line words first rest h = ap (form_of line) h.0 ∙ dot-start line first rest (so-dotted first h.1)

pub label-line : (line : ℕ) (words : List Lexeme) (label : List ℕ) (rest : List Lexeme) → IsLabelLine words label rest → form_of line words ≡ labelled_form line label rest
label-line line words label rest h = ap (form_of line) h.0 ∙ form-start line (colon label) rest (Some label) (undotted (colon label) h.1) (label-is label)

pub bare-line : (line : ℕ) (words : List Lexeme) → IsBareLine words → form_of line words ≡ unlabelled_form line words
unfolding form_of
bare-line line [] h = refl
bare-line line (lexeme.Number n ∷ rest) h = refl
bare-line line (lexeme.Text text ∷ rest) h = refl
bare-line line (lexeme.Word first ∷ rest) h = by_label (label_of first) refl
  where
    dot : begins_with_dot first ≡ false
    dot = undotted first (λ (d : IsDotted first). h.0 first rest (refl, d))

    by_label : (o : Option (List ℕ)) → label_of first ≡ o → form_of line (lexeme.Word first ∷ rest) ≡ unlabelled_form line (lexeme.Word first ∷ rest)
    by_label None e = form-start line first rest None dot e
    by_label (Some label) e =
        let same : first ≡ label ++ 58 ∷ [] = label-so first label e in
        absurd (h.1 label rest (ap (λ (x : List ℕ). lexeme.Word x ∷ rest) same, subst (λ (x : List ℕ). IsDotted x → ⊥) same (not-dotted first dot)))

-- ---- instructions

unlabelled-error : (line : ℕ) (words : List Lexeme) (kind : ReadKind) → instruction words ≡ Err kind → unlabelled_form line words ≡ Err kind
unfolding unlabelled_form
unlabelled-error line words kind e = ap (λ (r : Result PlainSaid ReadKind). r >>= λ said. Ok (code line [] said)) e

abbrev pub named_code : ℕ → List ℕ → PlainSaid → Result Form ReadKind
named_code line label said = named (is_name label) label >>= λ name. Ok (code line (name ∷ []) said)

pub labelled-so : (line : ℕ) (label : List ℕ) (w : Lexeme) (rest : List Lexeme) → labelled_form line label (w ∷ rest) ≡ (instruction (w ∷ rest) >>= named_code line label)
unfolding labelled_form
labelled-so line label w rest = refl

pub label-alone : (line : ℕ) (label : List ℕ) → labelled_form line label [] ≡ (named (is_name label) label >>= λ name. Ok (form.Label name))
unfolding labelled_form
label-alone line label = refl

labelled-error : (line : ℕ) (label : List ℕ) (said : List Lexeme) (kind : ReadKind) → said ≢ [] → instruction said ≡ Err kind → labelled_form line label said ≡ Err kind
labelled-error line label [] kind n e = absurd (n refl)
labelled-error line label (w ∷ rest) kind n e = labelled-so line label w rest ∙ ap (λ (r : Result PlainSaid ReadKind). r >>= named_code line label) e

instruction-error : (line : ℕ) (words said : List Lexeme) (kind : ReadKind) → HasInstruction words said → instruction said ≡ Err kind → form_of line words ≡ Err kind
instruction-error line words said kind (Bare b e) i = bare-line line words b ∙ unlabelled-error line words kind (ap instruction (sym e) ∙ i)
instruction-error line words said kind (Labelled label h n) i = label-line line words label said h ∙ labelled-error line label said kind n i

-- ---- a fault that is named holds

no-operand : (A : Type 0) (x : A) (good : Bool) → AnswersSo x good (Err BadOperand) → ⊥
no-operand A x true h = h
no-operand A x false h = absurd (cc)

judged-spoiled : (words said : List Lexeme) (kind : ReadKind) (word : List ℕ) (m : Mnemonic) (rest : List Lexeme) → HasInstruction words said → BeginsWith said word m rest → instruction said ≡ Err kind → JudgedSo {A = PlainSaid} (FollowsMnemonic word m rest) (Err kind) → IsSpoiled words kind
judged-spoiled words said kind word m rest i b e (inl k) =
    subst (IsSpoiled words) (sym k) (WrongOperands said word m rest i b (λ (x : PlainSaid) (good : Bool) (f : FollowsMnemonic word m rest x good). no-operand PlainSaid x good (subst (AnswersSo x good) (e ∙ ap Err k) (instruction-answers said word m rest x good b f))))
judged-spoiled words said kind word m rest i b e (inr h) = subst (IsSpoiled words) (sym h.0) (WrongOperandName said word m rest h.1.0 i b h.1.1)

pub err-kind : {A : Type 0} (a b : ReadKind) (r : Result A ReadKind) → r ≡ Err a → r ≡ Err b → a ≡ b
err-kind a b r e h = let same : Err a ≡ Err b = sym e ∙ h in cc

instruction-spoiled : (words said : List Lexeme) (kind : ReadKind) → HasInstruction words said → instruction said ≡ Err kind → IsSpoiled words kind
instruction-spoiled words said kind i e = by_row (instructed said)
  where
    by_row : InstructedSo said (instruction said) → IsSpoiled words kind
    by_row (inl h) = judged-spoiled words said kind h.0 h.1 h.2 i h.3 e (subst (JudgedSo (FollowsMnemonic h.0 h.1 h.2)) e h.4)
    by_row (inr h) = subst (IsSpoiled words) (err-kind BadMnemonic kind (instruction said) h.1 e) (UnknownMnemonic said i h.0)

directed-spoiled : (line : ℕ) (words : List Lexeme) (first : List ℕ) (rest : List Lexeme) (kind : ReadKind) → IsDirectiveLine words first rest → Contains directives first → directive_form line first rest ≡ Err kind → JudgedSo {A = Form} (DirectedAt line first rest) (Err kind) → IsSpoiled words kind
directed-spoiled line words first rest kind h c e (inl k) =
    subst (IsSpoiled words) (sym k) (WrongWords first rest h c (λ (says : ℕ → Form) (good : Bool) (f : FollowsDirective first rest says good). no-operand Form (says line) good (subst (AnswersSo (says line) good) (e ∙ ap Err k) (directive-answers line first rest says good f))))
directed-spoiled line words first rest kind h c e (inr p) = subst (IsSpoiled words) (sym p.0) (WrongName first rest p.1.1.0 h p.1.1.2)

directive-spoiled : (line : ℕ) (words : List Lexeme) (first : List ℕ) (rest : List Lexeme) (kind : ReadKind) → IsDirectiveLine words first rest → directive_form line first rest ≡ Err kind → IsSpoiled words kind
directive-spoiled line words first rest kind h e = by_word (directed line first rest)
  where
    by_word : DirectedSo line first rest (directive_form line first rest) → IsSpoiled words kind
    by_word (inl d) = directed-spoiled line words first rest kind h d.0 e (subst (JudgedSo (DirectedAt line first rest)) e d.1)
    by_word (inr d) = subst (IsSpoiled words) (err-kind BadDirective kind (directive_form line first rest) d.1 e) (UnknownDirective first rest h d.0)

-- a name that is refused
bad-name : {A : Type 0} (good : Bool) (bytes : List ℕ) (f : List ℕ → A) (kind : ReadKind) → (named good bytes >>= λ name. Ok (f name)) ≡ Err kind → (good ≡ false) × (BadName ≡ kind)
bad-name true bytes f kind e = absurd (cc)
bad-name false bytes f kind e = (refl, cc)

cons-some : (x : Lexeme) (xs : List Lexeme) → x ∷ xs ≢ []
cons-some x xs e = absurd (cc)

label-spoiled : (line : ℕ) (words : List Lexeme) (label : List ℕ) (rest : List Lexeme) (kind : ReadKind) → IsLabelLine words label rest → labelled_form line label rest ≡ Err kind → IsSpoiled words kind
label-spoiled line words label [] kind h e =
    let b = bad-name (is_name label) label (λ name. form.Label name) kind (sym (label-alone line label) ∙ e) in
    subst (IsSpoiled words) b.1 (WrongLabel label [] h b.0)
label-spoiled line words label (w ∷ rest) kind h e = by_said (instruction (w ∷ rest)) refl (sym (labelled-so line label w rest) ∙ e)
  where
    by_said : (r : Result PlainSaid ReadKind) → instruction (w ∷ rest) ≡ r → (r >>= named_code line label) ≡ Err kind → IsSpoiled words kind
    by_said (Err k) i e' = instruction-spoiled words (w ∷ rest) kind (Labelled label h (cons-some w rest)) (i ∙ (let same : k ≡ kind = cc in ap Err same))
    by_said (Ok said) i e' =
        let b = bad-name (is_name label) label (λ name. code line (name ∷ []) said) kind e' in
        subst (IsSpoiled words) b.1 (WrongLabel label (w ∷ rest) h b.0)

bare-spoiled : (line : ℕ) (words : List Lexeme) (kind : ReadKind) → IsBareLine words → unlabelled_form line words ≡ Err kind → IsSpoiled words kind
unfolding unlabelled_form
bare-spoiled line words kind h e = by_said (instruction words) refl e
  where
    by_said : (r : Result PlainSaid ReadKind) → instruction words ≡ r → (r >>= λ said. Ok (code line [] said)) ≡ Err kind → IsSpoiled words kind
    by_said (Err k) i e' = instruction-spoiled words words kind (Bare h refl) (i ∙ (let same : k ≡ kind = cc in ap Err same))
    by_said (Ok said) i e' = absurd (cc)

spoiled-by : (line : ℕ) (words : List Lexeme) (kind : ReadKind) → form_of line words ≡ Err kind → View words → IsSpoiled words kind
spoiled-by line words kind e (Dots first rest h) = directive-spoiled line words first rest kind h (sym (directive-line line words first rest h) ∙ e)
spoiled-by line words kind e (Labels label rest h) = label-spoiled line words label rest kind h (sym (label-line line words label rest h) ∙ e)
spoiled-by line words kind e (Else h) = bare-spoiled line words kind h (sym (bare-line line words h) ∙ e)

pub err-spoiled : (line : ℕ) (words : List Lexeme) (kind : ReadKind) → form_of line words ≡ Err kind → IsSpoiled words kind
err-spoiled line words kind e = spoiled-by line words kind e (view words)

-- ---- no fault that holds is less

judged-wrong : {A : Type 0} (P : A → Bool → Type 0) (r : Result A ReadKind) → JudgedSo P r → ((x : A) (good : Bool) → P x good → ⊥) → r ≡ Err BadOperand
judged-wrong P (Ok x) j none = absurd (none x true j)
judged-wrong P (Err kind) (inl e) none = ap Err e
judged-wrong P (Err kind) (inr h) none = absurd (none h.1.0 false h.1.1)

badly-named : {A : Type 0} (x : A) (r : Result A ReadKind) → AnswersSo x false r → r ≡ Err BadName
badly-named x (Ok y) h = absurd h
badly-named x (Err kind) h = ap Err h

err-most : (n : ℕ) (kind : ReadKind) (r : Result Form ReadKind) → r ≡ Err kind → kind_number kind ≤ n → FaultAtMost n r
err-most n kind r e le = subst (FaultAtMost n) (sym e) le

unknown-least : (line : ℕ) (first : List ℕ) (rest : List Lexeme) → (Contains directives first → ⊥) → directive_form line first rest ≡ Err BadDirective
unknown-least line first rest n = by_word (directed line first rest)
  where
    by_word : DirectedSo line first rest (directive_form line first rest) → directive_form line first rest ≡ Err BadDirective
    by_word (inl d) = absurd (n d.0)
    by_word (inr d) = d.1

wrong-least : (line : ℕ) (first : List ℕ) (rest : List Lexeme) → Contains directives first → ((says : ℕ → Form) (good : Bool) → FollowsDirective first rest says good → ⊥) → directive_form line first rest ≡ Err BadOperand
wrong-least line first rest c none = by_word (directed line first rest)
  where
    by_word : DirectedSo line first rest (directive_form line first rest) → directive_form line first rest ≡ Err BadOperand
    by_word (inl d) = judged-wrong (DirectedAt line first rest) (directive_form line first rest) d.1 (λ (f : Form) (good : Bool) (p : DirectedAt line first rest f good). none p.0 good p.2)
    by_word (inr d) = absurd (d.0 c)

no-mnemonic : (said : List Lexeme) → ((word : List ℕ) (m : Mnemonic) (rest : List Lexeme) → BeginsWith said word m rest → ⊥) → instruction said ≡ Err BadMnemonic
no-mnemonic said none = by_row (instructed said)
  where
    by_row : InstructedSo said (instruction said) → instruction said ≡ Err BadMnemonic
    by_row (inl h) = absurd (none h.0 h.1 h.2 h.3)
    by_row (inr h) = h.1

judged-low : (P : PlainSaid → Bool → Type 0) (kind : ReadKind) → JudgedSo {A = PlainSaid} P (Err kind) → kind_number kind ≤ 5
judged-low P kind (inl e) = subst (λ (k : ReadKind). kind_number k ≤ 5) (sym e) (omega arith)
judged-low P kind (inr h) = subst (λ (k : ReadKind). kind_number k ≤ 5) (sym h.0) (omega arith)

instruction-low : (said : List Lexeme) (kind : ReadKind) → instruction said ≡ Err kind → kind_number kind ≤ 5
instruction-low said kind e = by_row (instructed said)
  where
    by_row : InstructedSo said (instruction said) → kind_number kind ≤ 5
    by_row (inl h) = judged-low (FollowsMnemonic h.0 h.1 h.2) kind (subst (JudgedSo (FollowsMnemonic h.0 h.1 h.2)) e h.4)
    by_row (inr h) = subst (λ (k : ReadKind). kind_number k ≤ 5) (err-kind BadMnemonic kind (instruction said) h.1 e) (omega arith)

refused-name : {A : Type 0} (good : Bool) (bytes : List ℕ) (f : List ℕ → A) → good ≡ false → (named good bytes >>= λ name. Ok (f name)) ≡ Err BadName
refused-name true bytes f e = absurd (cc)
refused-name false bytes f e = refl

label-least : (line : ℕ) (label : List ℕ) (rest : List Lexeme) → is_name label ≡ false → FaultAtMost 5 (labelled_form line label rest)
label-least line label [] bad = err-most 5 BadName (labelled_form line label []) (label-alone line label ∙ refused-name (is_name label) label (λ name. form.Label name) bad) (omega arith)
label-least line label (w ∷ rest) bad = subst (FaultAtMost 5) (sym (labelled-so line label w rest)) (by_said (instruction (w ∷ rest)) refl)
  where
    by_said : (r : Result PlainSaid ReadKind) → instruction (w ∷ rest) ≡ r → FaultAtMost 5 (r >>= named_code line label)
    by_said (Err kind) e = instruction-low (w ∷ rest) kind e
    by_said (Ok said) e = err-most 5 BadName (named_code line label said) (refused-name (is_name label) label (λ name. code line (name ∷ []) said) bad) (omega arith)

pub spoiled-least : (line : ℕ) (words : List Lexeme) (kind : ReadKind) → IsSpoiled words kind → FaultAtMost (kind_number kind) (form_of line words)
spoiled-least line words kind (UnknownDirective first rest h n) = err-most 2 BadDirective (form_of line words) (directive-line line words first rest h ∙ unknown-least line first rest n) (omega arith)
spoiled-least line words kind (WrongWords first rest h c none) = err-most 4 BadOperand (form_of line words) (directive-line line words first rest h ∙ wrong-least line first rest c none) (omega arith)
spoiled-least line words kind (WrongName first rest says h f) = err-most 5 BadName (form_of line words) (directive-line line words first rest h ∙ badly-named (says line) (directive_form line first rest) (directive-answers line first rest says false f)) (omega arith)
spoiled-least line words kind (UnknownMnemonic said i none) = err-most 3 BadMnemonic (form_of line words) (instruction-error line words said BadMnemonic i (no-mnemonic said none)) (omega arith)
spoiled-least line words kind (WrongOperands said word m rest i b none) =
    err-most 4 BadOperand (form_of line words) (instruction-error line words said BadOperand i (judged-wrong (FollowsMnemonic word m rest) (instruction said) (instruction-judged said word m rest b) none)) (omega arith)
spoiled-least line words kind (WrongOperandName said word m rest what i b f) =
    err-most 5 BadName (form_of line words) (instruction-error line words said BadName i (badly-named what (instruction said) (instruction-answers said word m rest what false b f))) (omega arith)
spoiled-least line words kind (WrongLabel label rest h bad) = subst (FaultAtMost 5) (sym (label-line line words label rest h)) (label-least line label rest bad)

-- ---- both ways

least-so : (line : ℕ) (words : List Lexeme) (kind : ReadKind) → form_of line words ≡ Err kind → IsLeast (IsSpoiled words) kind
least-so line words kind e = record {
  holds = err-spoiled line words kind e;
  least = λ other h. subst (FaultAtMost (kind_number other)) e (spoiled-least line words other h);
}

so-least : (line : ℕ) (words : List Lexeme) (kind : ReadKind) → IsLeast (IsSpoiled words) kind → form_of line words ≡ Err kind
so-least line words kind h = by_form (form_of line words) refl
  where
    by_form : (r : Result Form ReadKind) → form_of line words ≡ r → form_of line words ≡ Err kind
    by_form (Ok f) e = absurd (subst (FaultAtMost (kind_number kind)) e (spoiled-least line words kind h.holds))
    by_form (Err other) e =
        let l : IsLeast (IsSpoiled words) other = least-so line words other e in
        e ∙ ap Err (same-kind other kind (l.least kind h.holds) (h.least other l.holds))

pub alone-named : (line : ℕ) (words : List Lexeme) (kind : ReadKind) → (form_of line words ≡ Err kind) ↔ IsLeast (IsSpoiled words) kind
alone-named line words kind = (least-so line words kind, so-least line words kind)

formed : (line : ℕ) (words : List Lexeme) → HasNone (IsSpoiled words) → (f : Form) × (form_of line words ≡ Ok f)
formed line words h = by_form (form_of line words) refl
  where
    by_form : (r : Result Form ReadKind) → form_of line words ≡ r → (f : Form) × (form_of line words ≡ Ok f)
    by_form (Ok f) e = (f, e)
    by_form (Err kind) e = absurd (h kind (err-spoiled line words kind e))

pub alone-formed : (line : ℕ) (words : List Lexeme) → ((f : Form) × (form_of line words ≡ Ok f)) ↔ HasNone (IsSpoiled words)
alone-formed line words = (
  (λ (g : (f : Form) × (form_of line words ≡ Ok f)) (kind : ReadKind) (h : IsSpoiled words kind). subst (FaultAtMost (kind_number kind)) g.1 (spoiled-least line words kind h)),
  formed line words,
)
