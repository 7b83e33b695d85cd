-- The fault that reading names of a line is the least that the line has where it stands.
use Rattle.std.proofs.Common.{◌≡◌, ◌≢◌, ℕ, ◌≤◌, ◌<◌, Bool, true, false, not, ◌&&◌, ◌||◌, List, [], ◌∷◌, Option, Some, None, Result, Ok, Err, refl, arith, ap, sym, ◌∙◌, subst, cond}
use Rattle.std.specs.Prelude.{bytes_eq, codes}
use Rattle.std.specs.List.{list_any}
use Rattle.vm_model.specs.Failures.{◌>>=◌}
use Rattle.jasmin_lines.specs.declared.fault.ReadKind.{ReadKind}
use Rattle.jasmin_lines.specs.declared.fault.ReadKind.TheVariants.{NoClass, OutsideMethod, InMethod, NoSuper, LabelTwice, EndMissing, Repeat}
use Rattle.jasmin_lines.specs.declared.form.Form.{Form}
use Rattle.jasmin_lines.specs.declared.form.Form.TheVariants as form
use Rattle.jasmin_lines.specs.declared.lexeme.Lexeme.{Lexeme}
use Rattle.jasmin_lines.specs.declared.lexeme.Lexeme.TheVariants as lexeme
use Rattle.jasmin_lines.specs.Faults.{kind_number}
use Rattle.jasmin_reader.specs.Grammar.{PlainState, only_if, outside_methods, inside_method, lacks_super, has_label, misplaced, may_stand_first, is_end, is_end_of, placed, form_among}
use Rattle.jasmin_lines.specs.Lexemes.{PlainLine}
use Rattle.jasmin_lines.specs.Words.{is_word}
use Rattle.text_laws.specs.LineFaults.{form_alone}
use Rattle.text_laws.specs.LineRules.{is_class, is_of_class, is_of_method, comes_after_super, is_method, is_super, is_stack_limit, is_locals_limit, begins_as_first, begins_anew, end_words, IsMethodOpen, NoEndComes, SetsAgain, IsMisplaced, OfMethod, OfClass, BeforeSuper, LabelAgain, NeverEnded, SuperAgain, StackAgain, LocalsAgain, HasFault, BeforeClasses, ByItself, Misplaced, IsLeast, HasNone, state_after}
use Rattle.text_laws.specs.WordRules.{HasForm}
use Rattle.text_laws.proofs.AloneRules.{err-spoiled, spoiled-least}
use Rattle.text_laws.proofs.FaultTests.{same-label, OfResult, FaultAtMost, positive, same-kind}
use Rattle.text_laws.proofs.LineForms.{has-form, form-related}
use Rattle.text_laws.proofs.Standing.{so, so-not, is-so, is-not, class-kept, super-kept, stack-kept, locals-kept, method-open, no-method, is-inside, is-outside, to-come, lacking, label-shared, shared-label}
use Rattle.text_laws.proofs.Tests.{and-first, and-second, or-first, or-second, not-true}

-- ---- words

word-is : (d : List ℕ) (w : Lexeme) → is_word d w ≡ true → w ≡ lexeme.Word d
word-is d (lexeme.Word w) h = ap (λ (x : List ℕ). lexeme.Word x) (same-label w d h)
word-is d (lexeme.Number n) h = absurd (cc)
word-is d (lexeme.Text text) h = absurd (cc)

are-end-words : (words : List Lexeme) → is_end_of words ≡ true → words ≡ end_words
are-end-words [] h = absurd (cc)
are-end-words (a ∷ []) h = absurd (cc)
are-end-words (a ∷ b ∷ []) h =
    let first : a ≡ lexeme.Word (codes ".end") = word-is (codes ".end") a (and-first (is_word (codes ".end") a) (is_word (codes "method") b) h) in
    let second : b ≡ lexeme.Word (codes "method") = word-is (codes "method") b (and-second (is_word (codes ".end") a) (is_word (codes "method") b) h) in
    ap (λ (x : Lexeme). x ∷ b ∷ []) first ∙ ap (λ (y : Lexeme). lexeme.Word (codes ".end") ∷ y ∷ []) second
are-end-words (a ∷ b ∷ c ∷ words) h = absurd (cc)

no-end-words : (words : List Lexeme) → is_end_of words ≡ false → words ≢ end_words
no-end-words words h e = let is_so : is_end_of words ≡ true = ap is_end_of e in absurd (cc)

no-end-comes : (behind : List PlainLine) → list_any is_end behind ≡ false → NoEndComes behind
no-end-comes [] h = tt
no-end-comes (l ∷ behind) h = (no-end-words l.words (or-first (is_end l) (list_any is_end behind) h), no-end-comes behind (or-second (is_end l) (list_any is_end behind) h))

none-ends : (behind : List PlainLine) → NoEndComes behind → list_any is_end behind ≡ false
none-ends [] h = refl
none-ends (l ∷ behind) h = by_first (none-ends behind h.1) (is_end l) refl
  where
    by_first : list_any is_end behind ≡ false → (c : Bool) → is_end l ≡ c → (is_end l || list_any is_end behind) ≡ false
    by_first none true e = absurd (h.0 (are-end-words l.words e))
    by_first none false e = rw e none

four : (a b c d : Bool) → (a || b || c || d) ≡ (a || (b || (c || (d || false))))
four true b c d = refl
four false true c d = refl
four false false true d = refl
four false false false true = refl
four false false false false = refl

first-words : (words : List Lexeme) → may_stand_first words ≡ begins_as_first words
first-words [] = refl
first-words (lexeme.Word w ∷ words) = four (bytes_eq w (codes ".source")) (bytes_eq w (codes ".bytecode")) (bytes_eq w (codes ".interface")) (bytes_eq w (codes ".class"))
first-words (lexeme.Number n ∷ words) = refl
first-words (lexeme.Text text ∷ words) = refl

-- ---- a fault that is named holds

abbrev OfOption : (ReadKind → Type 0) → Option ReadKind → Type 0
OfOption P None = Unit {0}
OfOption P (Some kind) = P kind

unless : (P : ReadKind → Type 0) (kind : ReadKind) (c : Bool) (rest : Option ReadKind) → (c ≡ true → P kind) → (c ≡ false → OfOption P rest) → OfOption P (only_if kind c rest)
unless P kind true rest h more = h refl
unless P kind false rest h more = more refl

not-false : (b : Bool) → not b ≡ false → b ≡ true
not-false true e = refl
not-false false e = absurd (cc)

-- a line of a class, and one of a method
class-line : (before : List Form) (behind : List PlainLine) (f : Form) (rest : Option ReadKind) → is_of_class f ≡ true → OfOption (IsMisplaced before behind f) rest → OfOption (IsMisplaced before behind f) (outside_methods (state_after before) rest)
class-line before behind f rest h more = unless (IsMisplaced before behind f) InMethod (state_after before).is_inside rest (λ i. OfClass (method-open before i) h) (λ _. more)

method-line : (before : List Form) (behind : List PlainLine) (f : Form) (rest : Option ReadKind) → is_of_method f ≡ true → (IsMethodOpen before → OfOption (IsMisplaced before behind f) rest) → OfOption (IsMisplaced before behind f) (inside_method (state_after before) rest)
method-line before behind f rest h more =
    let inside : Bool = (state_after before).is_inside in
    unless (IsMisplaced before behind f) OutsideMethod (not inside) rest (λ i. OfMethod (no-method before (not-true inside i)) h) (λ i. more (method-open before (not-false inside i)))

after-super : (before : List Form) (behind : List PlainLine) (f : Form) (rest : Option ReadKind) → comes_after_super f ≡ true → OfOption (IsMisplaced before behind f) rest → OfOption (IsMisplaced before behind f) (only_if NoSuper (lacks_super (state_after before)) rest)
after-super before behind f rest h more = unless (IsMisplaced before behind f) NoSuper (lacks_super (state_after before)) rest (λ i. BeforeSuper (to-come before i) h) (λ _. more)

-- the last test of a line
last-test : (before : List Form) (behind : List PlainLine) (f : Form) (kind : ReadKind) (c : Bool) → (c ≡ true → IsMisplaced before behind f kind) → OfOption (IsMisplaced before behind f) (only_if kind c None)
last-test before behind f kind c h = unless (IsMisplaced before behind f) kind c None h (λ _. tt)

misplaced-so : (before : List Form) (behind : List PlainLine) (f : Form) → OfOption (IsMisplaced before behind f) (misplaced (list_any is_end behind) (state_after before) f)
misplaced-so before behind form.Skipped = tt
misplaced-so before behind (form.Interface line) = class-line before behind (form.Interface line) None refl tt
misplaced-so before behind (form.Class c) = class-line before behind (form.Class c) _ refl (after-super before behind (form.Class c) None refl tt)
misplaced-so before behind (form.Super name) =
    class-line before behind (form.Super name) _ refl (last-test before behind (form.Super name) Repeat (state_after before).has_super (λ i. SuperAgain (so is_super is_class before (state_after before).has_super (super-kept before) i) refl))
misplaced-so before behind (form.Implements name) = class-line before behind (form.Implements name) None refl tt
misplaced-so before behind (form.Field x) = class-line before behind (form.Field x) _ refl (after-super before behind (form.Field x) None refl tt)
misplaced-so before behind (form.Method m) =
    class-line before behind (form.Method m) _ refl (after-super before behind (form.Method m) _ refl
    (last-test before behind (form.Method m) EndMissing (not (list_any is_end behind)) (λ i. NeverEnded (no-end-comes behind (not-true (list_any is_end behind) i)) refl)))
misplaced-so before behind (form.StackLimit n) =
    method-line before behind (form.StackLimit n) _ refl
    (λ opened. last-test before behind (form.StackLimit n) Repeat (state_after before).has_stack (λ i. StackAgain opened (so is_stack_limit begins_anew before (state_after before).has_stack (stack-kept before) i) refl))
misplaced-so before behind (form.LocalsLimit n) =
    method-line before behind (form.LocalsLimit n) _ refl
    (λ opened. last-test before behind (form.LocalsLimit n) Repeat (state_after before).has_locals (λ i. LocalsAgain opened (so is_locals_limit begins_anew before (state_after before).has_locals (locals-kept before) i) refl))
misplaced-so before behind form.Ignored = method-line before behind form.Ignored None refl (λ _. tt)
misplaced-so before behind (form.Catch c) = method-line before behind (form.Catch c) None refl (λ _. tt)
misplaced-so before behind form.End = method-line before behind form.End None refl (λ _. tt)
misplaced-so before behind (form.Label label) =
    method-line before behind (form.Label label) _ refl (λ opened. last-test before behind (form.Label label) LabelTwice (has_label (state_after before) (label ∷ [])) (λ i. LabelAgain opened (label-shared before (label ∷ []) i)))
misplaced-so before behind (form.Code l) =
    method-line before behind (form.Code l) _ refl (λ opened. last-test before behind (form.Code l) LabelTwice (has_label (state_after before) l.labels) (λ i. LabelAgain opened (label-shared before l.labels i)))

placed-so : (before : List Form) (line : PlainLine) (behind : List PlainLine) (f : Form) (o : Option ReadKind) → HasForm line.number line.words f → OfOption (IsMisplaced before behind f) o → OfResult (HasFault before line behind) (placed o f)
placed-so before line behind f None e h = tt
placed-so before line behind f (Some kind) e h = Misplaced f e h

-- a line that may stand first, or after a class
abbrev among : PlainState → PlainLine → List PlainLine → Bool → Result Form ReadKind → Result Form ReadKind
among s line behind is_early r = cond is_early (Err NoClass) (r >>= λ f. placed (misplaced (list_any is_end behind) s f) f)

among-so : (s : PlainState) (line : PlainLine) (behind : List PlainLine) → form_among s line behind ≡ among s line behind (not s.has_class && not (may_stand_first line.words)) (form_alone line)
unfolding form_among
among-so s line behind = refl

abbrev is_early : PlainState → PlainLine → Bool
is_early s line = not s.has_class && not (may_stand_first line.words)

named-holds : (before : List Form) (line : PlainLine) (behind : List PlainLine) → OfResult (HasFault before line behind) (form_among (state_after before) line behind)
named-holds before line behind = subst (OfResult (HasFault before line behind)) (sym (among-so s line behind)) (by_early (is_early s line) refl)
  where
    s : PlainState
    s = state_after before

    by_form : (r : Result Form ReadKind) → form_alone line ≡ r → OfResult (HasFault before line behind) (r >>= λ f. placed (misplaced (list_any is_end behind) (state_after before) f) f)
    by_form (Ok f) e = placed-so before line behind f (misplaced (list_any is_end behind) (state_after before) f) ((form-related line.number line.words f).0 e) (misplaced-so before behind f)
    by_form (Err kind) e = ByItself (err-spoiled line.number line.words kind e)

    by_early : (c : Bool) → is_early (state_after before) line ≡ c → OfResult (HasFault before line behind) (among (state_after before) line behind c (form_alone line))
    by_early true h =
        let has_class : Bool = (state_after before).has_class in
        BeforeClasses (so-not is_class (λ _. false) before has_class (class-kept before) (not-true has_class (and-first (not has_class) (not (may_stand_first line.words)) h)))
        (sym (first-words line.words) ∙ not-true (may_stand_first line.words) (and-second (not has_class) (not (may_stand_first line.words)) h))
    by_early false h = by_form (form_alone line) refl

-- ---- no fault that holds is less

abbrev AtMost : ℕ → Option ReadKind → Type 0
AtMost n None = ⊥
AtMost n (Some kind) = kind_number kind ≤ n

at-once : (kind : ReadKind) (c : Bool) (rest : Option ReadKind) (n : ℕ) → c ≡ true → kind_number kind ≤ n → AtMost n (only_if kind c rest)
at-once kind true rest n h le = le
at-once kind false rest n h le = absurd (cc)

or-later : (kind : ReadKind) (c : Bool) (rest : Option ReadKind) (n : ℕ) → kind_number kind ≤ n → AtMost n rest → AtMost n (only_if kind c rest)
or-later kind true rest n le more = le
or-later kind false rest n le more = more

outside-least : (ends : Bool) (s : PlainState) (f : Form) → s.is_inside ≡ false → is_of_method f ≡ true → AtMost 6 (misplaced ends s f)
outside-least ends s (form.StackLimit n) h e = at-once OutsideMethod (not s.is_inside) _ 6 (rw h refl) (omega arith)
outside-least ends s (form.LocalsLimit n) h e = at-once OutsideMethod (not s.is_inside) _ 6 (rw h refl) (omega arith)
outside-least ends s form.Ignored h e = at-once OutsideMethod (not s.is_inside) _ 6 (rw h refl) (omega arith)
outside-least ends s (form.Catch c) h e = at-once OutsideMethod (not s.is_inside) _ 6 (rw h refl) (omega arith)
outside-least ends s form.End h e = at-once OutsideMethod (not s.is_inside) _ 6 (rw h refl) (omega arith)
outside-least ends s (form.Label label) h e = at-once OutsideMethod (not s.is_inside) _ 6 (rw h refl) (omega arith)
outside-least ends s (form.Code l) h e = at-once OutsideMethod (not s.is_inside) _ 6 (rw h refl) (omega arith)
outside-least ends s f h e = absurd (cc)

inside-least : (ends : Bool) (s : PlainState) (f : Form) → s.is_inside ≡ true → is_of_class f ≡ true → AtMost 7 (misplaced ends s f)
inside-least ends s (form.Interface line) h e = at-once InMethod s.is_inside _ 7 h (omega arith)
inside-least ends s (form.Class c) h e = at-once InMethod s.is_inside _ 7 h (omega arith)
inside-least ends s (form.Super name) h e = at-once InMethod s.is_inside _ 7 h (omega arith)
inside-least ends s (form.Implements name) h e = at-once InMethod s.is_inside _ 7 h (omega arith)
inside-least ends s (form.Field x) h e = at-once InMethod s.is_inside _ 7 h (omega arith)
inside-least ends s (form.Method m) h e = at-once InMethod s.is_inside _ 7 h (omega arith)
inside-least ends s f h e = absurd (cc)

super-least : (ends : Bool) (s : PlainState) (f : Form) → lacks_super s ≡ true → comes_after_super f ≡ true → AtMost 8 (misplaced ends s f)
super-least ends s (form.Class c) h e = or-later InMethod s.is_inside _ 8 (omega arith) (at-once NoSuper (lacks_super s) _ 8 h (omega arith))
super-least ends s (form.Field x) h e = or-later InMethod s.is_inside _ 8 (omega arith) (at-once NoSuper (lacks_super s) _ 8 h (omega arith))
super-least ends s (form.Method m) h e = or-later InMethod s.is_inside _ 8 (omega arith) (at-once NoSuper (lacks_super s) _ 8 h (omega arith))
super-least ends s f h e = absurd (cc)

label-least : (ends : Bool) (before : List Form) (f : Form) → SetsAgain before f → AtMost 9 (misplaced ends (state_after before) f)
label-least ends before (form.Label label) h =
    or-later OutsideMethod (not (state_after before).is_inside) _ 9 (omega arith) (at-once LabelTwice (has_label (state_after before) (label ∷ [])) _ 9 (shared-label before (label ∷ []) h.0 h.1 h.2) (omega arith))
label-least ends before (form.Code l) h =
    or-later OutsideMethod (not (state_after before).is_inside) _ 9 (omega arith) (at-once LabelTwice (has_label (state_after before) l.labels) _ 9 (shared-label before l.labels h.0 h.1 h.2) (omega arith))
label-least ends before f h = absurd (let below : h.1.0 < 0 = h.1.1 in omega (arith, below))

end-least : (ends : Bool) (s : PlainState) (f : Form) → ends ≡ false → is_method f ≡ true → AtMost 10 (misplaced ends s f)
end-least ends s (form.Method m) h e = or-later InMethod s.is_inside _ 10 (omega arith) (or-later NoSuper (lacks_super s) _ 10 (omega arith) (at-once EndMissing (not ends) _ 10 (rw h refl) (omega arith)))
end-least ends s f h e = absurd (cc)

super-again-least : (ends : Bool) (s : PlainState) (f : Form) → s.has_super ≡ true → is_super f ≡ true → AtMost 12 (misplaced ends s f)
super-again-least ends s (form.Super name) h e = or-later InMethod s.is_inside _ 12 (omega arith) (at-once Repeat s.has_super _ 12 h (omega arith))
super-again-least ends s f h e = absurd (cc)

stack-again-least : (ends : Bool) (s : PlainState) (f : Form) → s.has_stack ≡ true → is_stack_limit f ≡ true → AtMost 12 (misplaced ends s f)
stack-again-least ends s (form.StackLimit n) h e = or-later OutsideMethod (not s.is_inside) _ 12 (omega arith) (at-once Repeat s.has_stack _ 12 h (omega arith))
stack-again-least ends s f h e = absurd (cc)

locals-again-least : (ends : Bool) (s : PlainState) (f : Form) → s.has_locals ≡ true → is_locals_limit f ≡ true → AtMost 12 (misplaced ends s f)
locals-again-least ends s (form.LocalsLimit n) h e = or-later OutsideMethod (not s.is_inside) _ 12 (omega arith) (at-once Repeat s.has_locals _ 12 h (omega arith))
locals-again-least ends s f h e = absurd (cc)

misplaced-least : (before : List Form) (behind : List PlainLine) (f : Form) (kind : ReadKind) → IsMisplaced before behind f kind → AtMost (kind_number kind) (misplaced (list_any is_end behind) (state_after before) f)
misplaced-least before behind f kind (OfMethod h e) = outside-least (list_any is_end behind) (state_after before) f (is-outside before h) e
misplaced-least before behind f kind (OfClass h e) = inside-least (list_any is_end behind) (state_after before) f (is-inside before h) e
misplaced-least before behind f kind (BeforeSuper h e) = super-least (list_any is_end behind) (state_after before) f (lacking before h) e
misplaced-least before behind f kind (LabelAgain h e) = label-least (list_any is_end behind) before f e
misplaced-least before behind f kind (NeverEnded h e) = end-least (list_any is_end behind) (state_after before) f (none-ends behind h) e
misplaced-least before behind f kind (SuperAgain h e) = super-again-least (list_any is_end behind) (state_after before) f (is-so is_super is_class before (state_after before).has_super (super-kept before) h) e
misplaced-least before behind f kind (StackAgain opened h e) = stack-again-least (list_any is_end behind) (state_after before) f (is-so is_stack_limit begins_anew before (state_after before).has_stack (stack-kept before) h) e
misplaced-least before behind f kind (LocalsAgain opened h e) = locals-again-least (list_any is_end behind) (state_after before) f (is-so is_locals_limit begins_anew before (state_after before).has_locals (locals-kept before) h) e

placed-least : (n : ℕ) (o : Option ReadKind) (f : Form) → AtMost n o → FaultAtMost n (placed o f)
placed-least n None f h = absurd h
placed-least n (Some kind) f h = h

early-least : (s : PlainState) (line : PlainLine) (behind : List PlainLine) (kind : ReadKind) (c : Bool) (r : Result Form ReadKind) → FaultAtMost (kind_number kind) (r >>= λ f. placed (misplaced (list_any is_end behind) s f) f) → FaultAtMost (kind_number kind) (among s line behind c r)
early-least s line behind kind true r h = positive kind
early-least s line behind kind false r h = h

-- what is at most so much stays so, whatever comes after
still-least : (n : ℕ) (r : Result Form ReadKind) (g : Form → Result Form ReadKind) → FaultAtMost n r → FaultAtMost n (r >>= g)
still-least n (Ok f) g h = absurd h
still-least n (Err kind) g h = h

named-least : (before : List Form) (line : PlainLine) (behind : List PlainLine) (kind : ReadKind) → HasFault before line behind kind → FaultAtMost (kind_number kind) (form_among (state_after before) line behind)
named-least before line behind kind (BeforeClasses none other) =
    let s : PlainState = state_after before in
    let unbegun : s.has_class ≡ false = is-not is_class (λ _. false) before s.has_class (class-kept before) none in
    let early : is_early (state_after before) line ≡ true = rw (unbegun, first-words line.words, other) refl in
    subst (FaultAtMost 1) (sym (among-so s line behind ∙ ap (λ (c : Bool). among (state_after before) line behind c (form_alone line)) early)) (omega arith)
named-least before line behind kind (ByItself h) =
    let s : PlainState = state_after before in
    subst (FaultAtMost (kind_number kind)) (sym (among-so s line behind))
    (early-least s line behind kind (is_early s line) (form_alone line) (still-least (kind_number kind) (form_alone line) _ (spoiled-least line.number line.words kind h)))
named-least before line behind kind (Misplaced f e m) =
    let s : PlainState = state_after before in
    subst (FaultAtMost (kind_number kind)) (sym (among-so s line behind ∙ ap (among s line behind (is_early s line)) (has-form line.number line.words f e)))
    (early-least s line behind kind (is_early s line) (Ok f) (placed-least (kind_number kind) (misplaced (list_any is_end behind) s f) f (misplaced-least before behind f kind m)))

-- ---- both ways

pub err-least : (before : List Form) (line : PlainLine) (behind : List PlainLine) (kind : ReadKind) → form_among (state_after before) line behind ≡ Err kind → IsLeast (HasFault before line behind) kind
err-least before line behind kind e = record {
  holds = subst (OfResult (HasFault before line behind)) e (named-holds before line behind);
  least = λ other h. subst (FaultAtMost (kind_number other)) e (named-least before line behind other h);
}

pub ok-none : (before : List Form) (line : PlainLine) (behind : List PlainLine) (f : Form) → form_among (state_after before) line behind ≡ Ok f → HasNone (HasFault before line behind)
ok-none before line behind f e = λ kind h. subst (FaultAtMost (kind_number kind)) e (named-least before line behind kind h)

by-result : (before : List Form) (line : PlainLine) (behind : List PlainLine) (kind : ReadKind) (r : Result Form ReadKind) → form_among (state_after before) line behind ≡ r → IsLeast (HasFault before line behind) kind → r ≡ Err kind
by-result before line behind kind (Ok f) e h = absurd (ok-none before line behind f e kind h.holds)
by-result before line behind kind (Err other) e h =
    let l : IsLeast (HasFault before line behind) other = err-least before line behind other e in
    ap Err (same-kind other kind (l.least kind h.holds) (h.least other l.holds))

pub least-err : (before : List Form) (line : PlainLine) (behind : List PlainLine) (kind : ReadKind) → IsLeast (HasFault before line behind) kind → form_among (state_after before) line behind ≡ Err kind
least-err before line behind kind h = by-result before line behind kind (form_among (state_after before) line behind) refl h

pub none-ok : (before : List Form) (line : PlainLine) (behind : List PlainLine) → HasNone (HasFault before line behind) → (f : Form) × (form_among (state_after before) line behind ≡ Ok f)
none-ok before line behind h = by_form (form_among (state_after before) line behind) refl
  where
    by_form : (r : Result Form ReadKind) → form_among (state_after before) line behind ≡ r → (f : Form) × (form_among (state_after before) line behind ≡ Ok f)
    by_form (Ok f) e = (f, e)
    by_form (Err kind) e = absurd (h kind (subst (OfResult (HasFault before line behind)) e (named-holds before line behind)))
