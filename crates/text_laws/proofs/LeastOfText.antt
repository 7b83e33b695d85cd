-- What reading names is the least fault of the text, by its line and then by its kind.
use Rattle.std.proofs.Common.{◌≡◌, ℕ, ◌+◌, ◌≤◌, ◌<◌, Bool, true, false, nat_lt, List, [], ◌∷◌, ◌++◌, Option, Some, None, Result, Ok, Err, length, refl, arith, ap, sym, ◌∙◌, subst, inl, inr, ◌⊎◌}
use Rattle.std.specs.Prelude.{◌↔◌}
use Rattle.std.specs.List.{filter}
use Rattle.std.proofs.lemmas.Bool.Decides.{nat_tests}
use Rattle.std.proofs.lemmas.List.{length-append}
use Rattle.std.proofs.lemmas.List.Elements.{filter-append}
use Rattle.jasmin_text.specs.declared.token.Token.{Token}
use Rattle.jasmin_text.specs.declared.token.TokenKind.{TokenKind}
use Rattle.jasmin_text.specs.declared.token.TokenKind.TheVariants as token
use Rattle.jasmin_text.specs.Spans.{Says, IsLineEnd}
use Rattle.jasmin_text.specs.Texts.{tokens_of}
use Rattle.jasmin_lines.specs.declared.fault.ReadKind.{ReadKind}
use Rattle.jasmin_lines.specs.declared.fault.ReadKind.TheVariants.{NoSuper}
use Rattle.jasmin_reader.specs.declared.fault.Refusal.{Refusal}
use Rattle.jasmin_lines.specs.declared.form.Form.{Form}
use Rattle.jasmin_lines.specs.declared.form.Form.TheVariants as form
use Rattle.jasmin_lines.specs.declared.lexeme.Lexeme.{Lexeme}
use Rattle.jasmin_lines.specs.Faults.{kind_number}
use Rattle.jasmin_reader.specs.Grammar.{form_among}
use Rattle.jasmin_lines.specs.Lexemes.{PlainLine, lexeme_by, lexeme_of, filled, lines_after}
use Rattle.jasmin_reader.specs.Reading.{last_line, reading}
use Rattle.text_laws.specs.LineRules.{is_class, is_method, is_stack_limit, is_locals_limit, comes_after_super, ends_method, Stands, IsMethodOpen, IsSuperSaid, IsSuperToCome, SetsAgain, IsMisplaced, OfMethod, OfClass, BeforeSuper, LabelAgain, NeverEnded, SuperAgain, StackAgain, LocalsAgain, HasFault, BeforeClasses, ByItself, Misplaced, IsLeast, HasNone, IsFirstFault, IsFaultOfText, AreSaidWith, SaysForm, IsAnyFault, IsAnyOfText, IsNoLater, IsLeastOfText, state_after}
use Rattle.text_laws.specs.Tokens.{is_feed, lines_ended, AreTokensAfter}
use Rattle.text_laws.specs.WordRules.{HasForm, IsSpoiled, UnknownDirective, WrongWords, WrongName, UnknownMnemonic, WrongOperands, WrongOperandName, WrongLabel}
use Rattle.text_laws.proofs.FaultTests.{same-kind}
use Rattle.text_laws.proofs.FirstFault.{last-so, last-is, of-text, refused-first}
use Rattle.text_laws.proofs.LineForms.{form-related, said-with}
use Rattle.text_laws.proofs.LineOrder.{Between, lines-between, tokens-ascend}
use Rattle.text_laws.proofs.LineRules.{err-least, ok-none}
use Rattle.text_laws.proofs.Lines.{goes_on}
use Rattle.text_laws.proofs.NamedLine.{among-alone}
use Rattle.text_laws.proofs.TokensRelated.{related}

-- ---- each line stands after the one before it

-- the line after a token
abbrev line_behind : TokenKind → ℕ → ℕ
line_behind token.LineEnd n = n + 1
line_behind token.Word n = n
line_behind (token.Number x) n = n
line_behind (token.Str text) n = n

abbrev Climb : ℕ → List Token → Type 0
Climb n [] = Unit {0}
Climb n (t ∷ ts) = (n ≤ t.line) × Climb (line_behind t.kind t.line) ts

climb-lower : (m n : ℕ) (ts : List Token) → m ≤ n → Climb n ts → Climb m ts
climb-lower m n [] le h = tt
climb-lower m n (t ∷ ts) le h = (omega (arith, le, h.0), h.1)

ended-both : (xs ys : List ℕ) → lines_ended (xs ++ ys) ≡ lines_ended xs + lines_ended ys
ended-both xs ys = ap length (filter-append is_feed xs ys) ∙ length-append (filter is_feed xs) (filter is_feed ys)

one-end : (bytes behind : List ℕ) → (bytes ≡ [] → ⊥) → IsLineEnd bytes behind → lines_ended bytes ≡ 1
one-end [] behind n h = absurd (n refl)
one-end (b ∷ rest) behind n h = ap lines_ended (ap (λ (x : ℕ). x ∷ rest) h.0 ∙ ap (λ (xs : List ℕ). 10 ∷ xs) h.1)

line-over : (kind : TokenKind) (bytes behind : List ℕ) (n : ℕ) → (bytes ≡ [] → ⊥) → Says kind bytes behind → line_behind kind n ≤ n + lines_ended bytes
line-over token.LineEnd bytes behind n some h = let one : lines_ended bytes ≡ 1 = one-end bytes behind some h in omega (arith, one)
line-over token.Word bytes behind n some h = omega arith
line-over (token.Number x) bytes behind n some h = omega arith
line-over (token.Str text) bytes behind n some h = omega arith

climbs : (front rest : List ℕ) (ts : List Token) → AreTokensAfter front rest ts → Climb (lines_ended front + 1) ts
climbs front rest [] h = tt
climbs front rest (t ∷ ts) (inl h) =
    let both : lines_ended (front ++ rest) ≡ lines_ended front + lines_ended rest = ended-both front rest in
    let here : t.line ≡ lines_ended (front ++ rest) + 1 = h.0.stands.line in
    (omega (arith, both, here), subst (Climb (line_behind t.kind t.line)) (sym h.1) tt)
climbs front rest (t ∷ ts) (inr h) =
    let gap : List ℕ = h.0 in
    let bytes : List ℕ = h.1 in
    let before : lines_ended (front ++ gap) ≡ lines_ended front + lines_ended gap = ended-both front gap in
    let after : lines_ended (front ++ gap ++ bytes) ≡ lines_ended (front ++ gap) + lines_ended bytes = ended-both (front ++ gap) bytes in
    let here : t.line ≡ lines_ended (front ++ gap) + 1 = h.4.stands.line in
    let over : line_behind t.kind t.line ≤ t.line + lines_ended bytes = line-over t.kind bytes h.2 t.line h.4.some h.4.says in
    (omega (arith, before, here), climb-lower (line_behind t.kind t.line) (lines_ended (front ++ gap ++ bytes) + 1) ts (omega (arith, after, here, over)) (climbs (front ++ gap ++ bytes) h.2 ts h.5))

-- lines with rising numbers
abbrev Strict : ℕ → List PlainLine → Type 0
Strict n [] = Unit {0}
Strict n (line ∷ lines) = (n ≤ line.number) × Strict (line.number + 1) lines

strict-lower : (m n : ℕ) (lines : List PlainLine) → m ≤ n → Strict n lines → Strict m lines
strict-lower m n [] le h = tt
strict-lower m n (line ∷ lines) le h = (omega (arith, le, h.0), h.1)

strict-filled : (m n : ℕ) (words : List Lexeme) (lines : List PlainLine) → m ≤ n → Strict (n + 1) lines → Strict m (filled n words ++ lines)
strict-filled m n [] lines le h = strict-lower m (n + 1) lines (omega (arith, le)) h
strict-filled m n (w ∷ ws) lines le h = (le, h)

behind-word : (kind : TokenKind) (bytes : List ℕ) (w : Lexeme) (n : ℕ) → lexeme_by kind bytes ≡ Some w → line_behind kind n ≡ n
behind-word token.LineEnd bytes w n e = absurd (cc)
behind-word token.Word bytes w n e = refl
behind-word (token.Number x) bytes w n e = refl
behind-word (token.Str text) bytes w n e = refl

behind-end : (kind : TokenKind) (bytes : List ℕ) (n : ℕ) → lexeme_by kind bytes ≡ None → line_behind kind n ≡ n + 1
behind-end token.LineEnd bytes n e = refl
behind-end token.Word bytes n e = absurd (cc)
behind-end (token.Number x) bytes n e = absurd (cc)
behind-end (token.Str text) bytes n e = absurd (cc)

strict-lines : (text : List ℕ) (n : ℕ) (words : List Lexeme) (ts : List Token) → Climb n ts → Strict n (lines_after text words ts)
unfolding lines_after
strict-lines text n words [] h = tt
strict-lines text n words (t ∷ ts) h = by_word (λ (ws : List Lexeme). strict-lines text (line_behind t.kind t.line) ws ts h.1) (lexeme_of text t) refl
  where
    by_word : ((ws : List Lexeme) → Strict (line_behind t.kind t.line) (lines_after text ws ts)) → (o : Option Lexeme) → lexeme_of text t ≡ o → Strict n (goes_on text words t ts o)
    by_word again (Some w) e =
        let same : line_behind t.kind t.line ≡ t.line = behind-word t.kind _ w t.line e in
        strict-lower n (line_behind t.kind t.line) (lines_after text (words ++ w ∷ []) ts) (omega (arith, same, h.0)) (again (words ++ w ∷ []))
    by_word again None e =
        let same : line_behind t.kind t.line ≡ t.line + 1 = behind-end t.kind _ t.line e in
        strict-filled n t.line words (lines_after text [] ts) h.0 (subst (λ (k : ℕ). Strict k (lines_after text [] ts)) same (again []))

between-last : (n last : ℕ) (lines : List PlainLine) → Between n last lines → n ≤ last
between-last n last [] h = h
between-last n last (line ∷ lines) h = let more : line.number ≤ last = between-last line.number last lines h.1 in omega (arith, more, h.0)

-- ---- at the end of the text

-- where a method is open, the class has its super
abbrev IsSaidInside : List Form → Type 0
IsSaidInside before = IsMethodOpen before → IsSuperToCome before → ⊥

still-to-come : (f : Form) (before : List Form) → is_class f ≡ false → IsSuperToCome (f ∷ before) → IsSuperToCome before
still-to-come f before n h = (begun h.0, λ (s : IsSuperSaid before). h.1 (inr (n, s)))
  where
    begun : Stands is_class (λ _. false) (f ∷ before) → Stands is_class (λ _. false) before
    begun (inl e) = absurd (cc)
    begun (inr s) = s.1

unended : (f : Form) → ends_method f ≡ false → is_class f ≡ false
unended (form.Class c) e = absurd (cc)
unended f e = refl

method-no-class : (f : Form) → is_method f ≡ true → is_class f ≡ false
method-no-class (form.Class c) e = absurd (cc)
method-no-class f e = refl

method-after-super : (f : Form) → is_method f ≡ true → comes_after_super f ≡ true
method-after-super (form.Method m) e = refl
method-after-super f e = absurd (cc)

stack-no-class : (f : Form) → is_stack_limit f ≡ true → is_class f ≡ false
stack-no-class (form.Class c) e = absurd (cc)
stack-no-class f e = refl

locals-no-class : (f : Form) → is_locals_limit f ≡ true → is_class f ≡ false
locals-no-class (form.Class c) e = absurd (cc)
locals-no-class f e = refl

label-no-class : (f : Form) (before : List Form) → SetsAgain before f → is_class f ≡ false
label-no-class (form.Class c) before h = absurd (let below : h.1.0 < 0 = h.1.1 in omega (arith, below))
label-no-class f before h = refl

inside-next : (f : Form) (before : List Form) → IsSaidInside before → (IsSuperToCome before → comes_after_super f ≡ true → ⊥) → IsMethodOpen (f ∷ before) → IsSuperToCome (f ∷ before) → ⊥
inside-next f before inside none (inl m) c = none (still-to-come f before (method-no-class f m) c) (method-after-super f m)
inside-next f before inside none (inr m) c = inside m.1 (still-to-come f before (unended f m.0) c)

said-next : (before : List Form) (line : PlainLine) (lines : List PlainLine) (f : Form) → HasForm line.number line.words f → IsSaidInside before → HasNone (HasFault before line lines) → IsSaidInside (f ∷ before)
said-next before line lines f e inside none = λ (h : IsMethodOpen (f ∷ before)) (c : IsSuperToCome (f ∷ before)). inside-next f before inside (λ t m. none NoSuper (Misplaced f e (BeforeSuper t m))) h c

spoiled-low : (words : List Lexeme) (kind : ReadKind) → IsSpoiled words kind → kind_number kind ≤ 8
spoiled-low words kind (UnknownDirective first rest h n) = omega arith
spoiled-low words kind (WrongWords first rest h c n) = omega arith
spoiled-low words kind (WrongName first rest says h f) = omega arith
spoiled-low words kind (UnknownMnemonic said i n) = omega arith
spoiled-low words kind (WrongOperands said word m rest i b n) = omega arith
spoiled-low words kind (WrongOperandName said word m rest what i b f) = omega arith
spoiled-low words kind (WrongLabel label rest h b) = omega arith

misplaced-low : (before : List Form) (line : PlainLine) (behind : List PlainLine) (f : Form) (kind : ReadKind) → IsSaidInside before → HasForm line.number line.words f → IsSuperToCome (f ∷ before) → ((other : ReadKind) → HasFault before line behind other → kind_number kind ≤ kind_number other) → IsMisplaced before behind f kind → kind_number kind ≤ 8
misplaced-low before line behind f kind inside e c least (OfMethod h i) = omega arith
misplaced-low before line behind f kind inside e c least (OfClass h i) = omega arith
misplaced-low before line behind f kind inside e c least (BeforeSuper h i) = omega arith
misplaced-low before line behind f kind inside e c least (LabelAgain h i) = absurd (inside h (still-to-come f before (label-no-class f before i) c))
misplaced-low before line behind f kind inside e c least (NeverEnded h i) = least NoSuper (Misplaced f e (BeforeSuper (still-to-come f before (method-no-class f i) c) (method-after-super f i)))
misplaced-low before line behind f kind inside e c least (SuperAgain h i) = absurd (c.1 (inl i))
misplaced-low before line behind f kind inside e c least (StackAgain h k i) = absurd (inside h (still-to-come f before (stack-no-class f i) c))
misplaced-low before line behind f kind inside e c least (LocalsAgain h k i) = absurd (inside h (still-to-come f before (locals-no-class f i) c))

fault-low : (before : List Form) (line : PlainLine) (behind : List PlainLine) (said : List Form) (kind : ReadKind) → IsSaidInside before → AreSaidWith before line said → IsSuperToCome said → ((other : ReadKind) → HasFault before line behind other → kind_number kind ≤ kind_number other) → HasFault before line behind kind → kind_number kind ≤ 8
fault-low before line behind said kind inside w c least (BeforeClasses n b) = omega arith
fault-low before line behind said kind inside w c least (ByItself h) = spoiled-low line.words kind h
fault-low before line behind said kind inside w c least (Misplaced f e m) = misplaced-low before line behind f kind inside e (subst IsSuperToCome (said-with before line said f e w) c) least m

-- ---- the first is the least

any-from : (n last : ℕ) (before : List Form) (lines : List PlainLine) (g : Refusal) → Between n last lines → IsAnyFault last before lines g → n ≤ g.line
any-from n last before [] g h i = let here : g.line ≡ last = ap (λ (x : Refusal). x.line) i.1 in omega (arith, here, h)
any-from n last before (line ∷ lines) g h (inl i) = omega (arith, h.0, i.1)
any-from n last before (line ∷ lines) g h (inr i) = let more : line.number ≤ g.line = any-from line.number last i.0 lines g h.1 i.2 in omega (arith, more, h.0)

before-or-at : (a b : ℕ) → a ≤ b → (a < b) ⊎ (a ≡ b)
before-or-at a b le = by_test (nat_lt a b) refl
  where
    by_test : (c : Bool) → nat_lt a b ≡ c → (a < b) ⊎ (a ≡ b)
    by_test true e = inl (grind (arith, nat_tests))
    by_test false e = inr (grind (arith, nat_tests))

first-before-end : (last : ℕ) (before said : List Form) (line : PlainLine) (lines : List PlainLine) (f g : Refusal) → AreSaidWith before line said → Strict (line.number + 1) lines → Between line.number last lines → IsSaidInside before → IsLeast (HasFault before line lines) f.kind → f.line ≡ line.number → IsAnyFault last said lines g → IsNoLater f g
first-before-end last before said line [] f g w s b inside l e i = by_line (before-or-at line.number last b)
  where
    by_line : (line.number < last) ⊎ (line.number ≡ last) → IsNoLater f g
    by_line (inl less) = let there : g.line ≡ last = ap (λ (x : Refusal). x.line) i.1 in inl (omega (arith, less, there, e))
    by_line (inr same) =
        let there : g.line ≡ last = ap (λ (x : Refusal). x.line) i.1 in
        let eight : kind_number g.kind ≡ 8 = ap (λ (x : Refusal). kind_number x.kind) i.1 in
        let low : kind_number f.kind ≤ 8 = fault-low before line [] said f.kind inside w i.0 l.least l.holds in
        inr (e ∙ same ∙ sym there, omega (arith, eight, low))
first-before-end last before said line (next ∷ lines) f g w s b inside l e i =
    let more : line.number + 1 ≤ g.line = any-from (line.number + 1) last said (next ∷ lines) g (s.0, b.1) i in
    inl (omega (arith, more, e))

first-least : (n last : ℕ) (before : List Form) (lines : List PlainLine) (f g : Refusal) → Strict n lines → Between n last lines → IsSaidInside before → IsFirstFault last before lines f → IsAnyFault last before lines g → IsNoLater f g
first-least n last before [] f g s b inside h i = let same : f ≡ g = h.1 ∙ sym i.1 in inr (ap (λ (x : Refusal). x.line) same, (let kinds : kind_number f.kind ≡ kind_number g.kind = ap (λ (x : Refusal). kind_number x.kind) same in omega (arith, kinds)))
first-least n last before (line ∷ lines) f g s b inside (inl h) (inl i) = inr (h.1 ∙ sym i.1, h.0.least g.kind i.0)
first-least n last before (line ∷ lines) f g s b inside (inl h) (inr i) = first-before-end last before i.0 line lines f g i.1 s.1 b.1 inside h.0 h.1 i.2
first-least n last before (line ∷ lines) f g s b inside (inr h) (inl i) = absurd (h.0 g.kind i.0)
first-least n last before (line ∷ lines) f g s b inside (inr h) (inr i) =
    first-least line.number last (h.1 ∷ before) lines f g (strict-lower line.number (line.number + 1) lines (omega arith) s.1) b.1 (said-next before line lines h.1 h.2 inside h.0) h.3
    (subst (λ (said : List Form). IsAnyFault last said lines g) (said-with before line i.0 h.1 h.2 i.1) i.2)

first-any : (last : ℕ) (before : List Form) (lines : List PlainLine) (f : Refusal) → IsFirstFault last before lines f → IsAnyFault last before lines f
first-any last before [] f h = h
first-any last before (line ∷ lines) f (inl h) = inl (h.0.holds, h.1)
first-any last before (line ∷ lines) f (inr h) = inr (h.1 ∷ before, SaysForm h.1 h.2 refl, first-any last (h.1 ∷ before) lines f h.3)

any-first : (last : ℕ) (before : List Form) (lines : List PlainLine) (g : Refusal) → IsAnyFault last before lines g → (f : Refusal) × IsFirstFault last before lines f
any-first last before [] g i = (g, i)
any-first last before (line ∷ lines) g i = by_form (λ (said : List Form) (j : IsAnyFault last said lines g). any-first last said lines g j) (form_among (state_after before) line lines) refl i
  where
    by_form : ((said : List Form) → IsAnyFault last said lines g → (f : Refusal) × IsFirstFault last said lines f) → (r : Result Form ReadKind) → form_among (state_after before) line lines ≡ r → IsAnyFault last before (line ∷ lines) g → (f : Refusal) × IsFirstFault last before (line ∷ lines) f
    by_form again (Err kind) e j = (record { kind = kind; line = line.number }, inl (err-least before line lines kind e, refl))
    by_form again (Ok f) e (inl j) = absurd (ok-none before line lines f e g.kind j.0)
    by_form again (Ok f) e (inr j) =
        let has : HasForm line.number line.words f = (form-related line.number line.words f).0 (among-alone (state_after before) line lines f e) in
        let k = again (f ∷ before) (subst (λ (said : List Form). IsAnyFault last said lines g) (said-with before line j.0 f has j.1) j.2) in
        (k.0, inr (ok-none before line lines f e, f, has, k.1))

-- ---- the law

any-of-text : (text : List ℕ) (tokens : List Token) (f : Refusal) → IsAnyOfText text tokens f → IsAnyFault (last_line tokens) [] (lines_after text [] tokens) f
any-of-text text tokens f h = subst (λ (n : ℕ). IsAnyFault n [] (lines_after text [] tokens) f) (last-is tokens h.0 h.1) h.2

least-first : (text : List ℕ) (tokens : List Token) (f : Refusal) → tokens_of text ≡ Ok tokens → IsFaultOfText text tokens f → IsLeastOfText text tokens f
least-first text tokens f e h =
    let lines : List PlainLine = lines_after text [] tokens in
    let climb : Climb 0 tokens = climb-lower 0 1 tokens (omega arith) (climbs [] text tokens (related text tokens e)) in
    record {
      holds = (last_line tokens, last-so tokens, first-any (last_line tokens) [] lines f (of-text text tokens f h));
      least = λ g i. first-least 0 (last_line tokens) [] lines f g (strict-lines text 0 [] tokens climb) (lines-between text 0 [] tokens (tokens-ascend text tokens e)) (λ o _. o) (of-text text tokens f h) (any-of-text text tokens g i);
    }

abbrev refusal : ReadKind → ℕ → Refusal
refusal kind n = record { kind = kind; line = n }

same-parts : (k l : ReadKind) (m n : ℕ) → k ≡ l → m ≡ n → refusal k m ≡ refusal l n
same-parts k l m n x y = rw (x, y) refl

same-fault : (f g : Refusal) → IsNoLater f g → IsNoLater g f → f ≡ g
same-fault f g (inl a) (inl b) = absurd (omega (arith, a, b))
same-fault f g (inl a) (inr b) = absurd (let same : g.line ≡ f.line = b.0 in omega (arith, a, same))
same-fault f g (inr a) (inl b) = absurd (let same : f.line ≡ g.line = a.0 in omega (arith, b, same))
same-fault f g (inr a) (inr b) = same-parts f.kind g.kind f.line g.line (same-kind f.kind g.kind a.1 b.1) a.0

pub refused-least : (text : List ℕ) (tokens : List Token) (f : Refusal) → tokens_of text ≡ Ok tokens → (reading text tokens ≡ Err f) ↔ IsLeastOfText text tokens f
refused-least text tokens f e = (
  (λ (r : reading text tokens ≡ Err f). least-first text tokens f e ((refused-first text tokens f).0 r)),
  (λ (h : IsLeastOfText text tokens f).
      let g = any-first (last_line tokens) [] (lines_after text [] tokens) f (any-of-text text tokens f h.holds) in
      let there : IsFaultOfText text tokens g.0 = (last_line tokens, last-so tokens, g.1) in
      let l : IsLeastOfText text tokens g.0 = least-first text tokens g.0 e there in
      let same : g.0 ≡ f = same-fault g.0 f (l.least f h.holds) (h.least g.0 l.holds) in
      (refused-first text tokens f).1 (subst (IsFaultOfText text tokens) same there)),
)
