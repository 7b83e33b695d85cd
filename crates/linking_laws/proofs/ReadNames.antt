-- The names of classes that the reader gives.
use Rattle.std.proofs.Common.{◌≡◌, ℕ, suc, ◌+◌, ◌<◌, Bool, true, false, List, [], ◌∷◌, Option, Some, None, Result, Ok, Err, refl, sym, ap, ◌∙◌, subst, arith}
use Rattle.std.specs.Prelude.{length, take, drop, not, ◌&&◌, ◌||◌, ◌==◌, if◌then◌else◌, position, ℤ, pos, unsigned_abs, bytes_eq, codes}
use Rattle.std.specs.List.{AllByRecursion, list_any, position_or_len}
use Rattle.std.proofs.lemmas.Bool.{false≢true}
use Rattle.vm_model.specs.Failures.{◌>>=◌}
use Rattle.jasmin_text.specs.declared.token.Token.{Token}
use Rattle.jasmin_text.proofs.Skipping.{position-found}
use Rattle.jasmin_lines.specs.declared.fault.ReadKind.{ReadKind}
use Rattle.jasmin_lines.specs.declared.fault.ReadKind.TheVariants.{BadDirective, BadOperand, BadName, NoClass, NoSuper}
use Rattle.jasmin_reader.specs.declared.fault.Refusal.{Refusal}
use Rattle.jasmin_lines.specs.declared.form.Form.{Form}
use Rattle.jasmin_lines.specs.declared.form.Form.TheVariants as form
use Rattle.jasmin_lines.specs.declared.lexeme.Lexeme.{Lexeme}
use Rattle.jasmin_lines.specs.declared.lexeme.Lexeme.TheVariants as lexeme
use Rattle.jasmin_lines.specs.Plain.{PlainClassText}
use Rattle.jasmin_lines.specs.Lexemes.{PlainLine, lines_after}
use Rattle.jasmin_lines.specs.Words.{two, number_of, is_word, name_of, word_of, named, is_class_name, is_method_name, is_name, class_name_of, split_at, described, one}
use Rattle.jasmin_lines.specs.Instructions.{instruction}
use Rattle.jasmin_lines.specs.Directives.{split_last, class_flags, field_flags, method_flags, source_form, class_form, name_at, field_of, valued, field_form, empty_method, method_form, limit_form, end_form, catch_of, catch_form, class_directive, method_directive, directive_form}
use Rattle.jasmin_lines.specs.Forms.{unlabelled_form, labelled_form, label_of, coded, begins_with_dot, form_of}
use Rattle.jasmin_reader.specs.Grammar.{PlainState, nothing_begun, next_state, lacks_super, is_end, may_stand_first, misplaced, placed, form_among}
use Rattle.jasmin_reader.specs.Assembly.{PlainParts, no_parts, with_form, parts_of, classes_of}
use Rattle.jasmin_reader.specs.Reading.{at_line, forms_after, last_line, reading}
use Rattle.linking_laws.specs.Named.{IsNamedMethod, AreNamed, IsWrittenLine}
use Rattle.linking_laws.proofs.WrittenLines.{Written, instruction_written}

-- ---- forms of lines

-- a form's name, of a class or of a method, is as the reader lets it through
abbrev pub GoodForm : Form → Type 0
GoodForm form.Skipped = Unit {0}
GoodForm (form.Interface line) = Unit {0}
GoodForm (form.Class c) = (is_class_name c.name || length c.name == 0) ≡ true
GoodForm (form.Super n) = Unit {0}
GoodForm (form.Implements n) = Unit {0}
GoodForm (form.Field f) = is_name f.name ≡ true
GoodForm (form.Method m) = IsNamedMethod m
GoodForm (form.StackLimit n) = Unit {0}
GoodForm (form.LocalsLimit n) = Unit {0}
GoodForm form.Ignored = Unit {0}
GoodForm (form.Catch c) = Unit {0}
GoodForm form.End = Unit {0}
GoodForm (form.Label label) = Unit {0}
GoodForm (form.Code l) = IsWrittenLine l

-- the same of a line that isn't refused
abbrev pub Good : Result Form ReadKind → Type 0
Good (Ok f) = GoodForm f
Good (Err kind) = Unit {0}

-- ---- choices

-- a form by a test
if_good : (b : Bool) (x y : Result Form ReadKind) → Good x → Good y → Good (if b then x else y)
if_good true x y h k = h
if_good false x y h k = k

-- a form by what comes before
then_good : {A : Type 0} (r : Result A ReadKind) (f : A → Result Form ReadKind) → ((x : A) → r ≡ Ok x → Good (f x)) → Good (r >>= f)
then_good (Ok x) f h = h x refl
then_good (Err kind) f h = tt

-- a fault is no answer
refused : {A : Type 0} (kind : ReadKind) (x : A) → Err kind ≡ Ok x → ⊥
refused kind x e = cc

-- one answer
same_ok : {A E : Type 0} (r : Result A E) (x y : A) → r ≡ Ok x → r ≡ Ok y → x ≡ y
same_ok r x y e h = cc

-- a name that is let through passes the test
named_so : (b : Bool) (bytes name : List ℕ) → named b bytes ≡ Ok name → (b ≡ true) × (bytes ≡ name)
named_so true bytes name e = (refl, cc)
named_so false bytes name e = absurd (refused BadName name e)

-- ---- the line of a class

-- a class's name that is let through has the form of one
class_named : (word : Lexeme) (name : List ℕ) → class_name_of word ≡ Ok name → is_class_name name ≡ true
class_named (lexeme.Word bytes) name e =
    let so : (is_class_name bytes ≡ true) × (bytes ≡ name) = named_so (is_class_name bytes) bytes name e in
    subst (λ (x : List ℕ). is_class_name x ≡ true) so.1 so.0
class_named (lexeme.Number n) name e = absurd (refused BadOperand name e)
class_named (lexeme.Text text) name e = absurd (refused BadOperand name e)

-- one of two tests
true_or : (a b : Bool) → a ≡ true → (a || b) ≡ true
true_or true b e = refl
true_or false b e = absurd (false≢true e)

-- `.class`
class_good : (line : ℕ) (words : List Lexeme) → Good (class_form line words)
unfolding class_form
class_good line words =
    then_good (split_last words) _ (λ last is_last. then_good (class_flags last.0) _ (λ flags is_flags. then_good (class_name_of last.1) _ (λ name is_name. true_or (is_class_name name) (length name == 0) (class_named last.1 name is_name))))

-- ---- the line of a method

-- what begins where the first bracket stands
from_bracket : (bytes : List ℕ) → position_or_len (λ (b : ℕ). b == 40) bytes < length bytes → (rest : List ℕ) × (drop (position_or_len (λ (b : ℕ). b == 40) bytes) bytes ≡ 40 ∷ rest)
from_bracket [] h = absurd (omega (arith, h))
from_bracket (b ∷ bytes) h = by (b == 40) refl h (from_bracket bytes)
  where
    by : (c : Bool) → (b == 40) ≡ c → (if not c then 1 + position_or_len (λ (x : ℕ). x == 40) bytes else 0) < length (b ∷ bytes)
        → (position_or_len (λ (x : ℕ). x == 40) bytes < length bytes → (rest : List ℕ) × (drop (position_or_len (λ (x : ℕ). x == 40) bytes) bytes ≡ 40 ∷ rest))
        → (rest : List ℕ) × (drop (if not c then 1 + position_or_len (λ (x : ℕ). x == 40) bytes else 0) (b ∷ bytes) ≡ 40 ∷ rest)
    by true is k more = let same : b ≡ 40 = same_number b 40 is in (bytes, ap (λ (x : ℕ). x ∷ bytes) same)
      where
        same_number : (x y : ℕ) → (x == y) ≡ true → x ≡ y
        same_number x y e = grind arith
    by false is k more =
        let next : 1 + position_or_len (λ (x : ℕ). x == 40) bytes ≡ suc (position_or_len (λ (x : ℕ). x == 40) bytes) = omega arith in
        let found : (rest : List ℕ) × (drop (position_or_len (λ (x : ℕ). x == 40) bytes) bytes ≡ 40 ∷ rest) = more (omega (arith, k)) in
        (found.0, ap (λ (n : ℕ). drop n (b ∷ bytes)) next ∙ found.1)

-- the descriptor of a method's word
parts_so : (bytes : List ℕ) (n : ℕ) (c : Bool) (parts : List ℕ × List ℕ) → (if c then Ok (take n bytes, drop n bytes) else Err BadOperand) ≡ Ok parts → drop n bytes ≡ parts.1
parts_so bytes n false parts h = absurd (refused BadOperand parts h)
parts_so bytes n true parts h =
    let whole : Result (List ℕ × List ℕ) ReadKind = Ok (take n bytes, drop n bytes) in
    ap (λ (z : List ℕ × List ℕ). z.1) (same_ok whole (take n bytes, drop n bytes) parts refl h)

-- a descriptor begins with a bracket
described_so : (bytes : List ℕ) (o : Option ℕ) (parts : List ℕ × List ℕ) → position (λ (b : ℕ). b == 40) bytes ≡ o → split_at bytes o ≡ Ok parts → (rest : List ℕ) × (parts.1 ≡ 40 ∷ rest)
described_so bytes None parts is e = absurd (refused BadOperand parts e)
described_so bytes (Some n) parts is e =
    let place : (n ≡ position_or_len (λ (b : ℕ). b == 40) bytes) × (position_or_len (λ (b : ℕ). b == 40) bytes < length bytes) = position-found (λ b. b == 40) bytes n is in
    let found : (rest : List ℕ) × (drop (position_or_len (λ (b : ℕ). b == 40) bytes) bytes ≡ 40 ∷ rest) = from_bracket bytes place.1 in
    (found.0, sym (parts_so bytes n (list_any (λ b. b == 41) (drop n bytes)) parts e) ∙ ap (λ (k : ℕ). drop k bytes) place.0 ∙ found.1)

-- `.method`
method_good : (line : ℕ) (words : List Lexeme) → Good (method_form line words)
unfolding method_form
method_good line words =
    then_good (split_last words) _ (λ last is_last. then_good (method_flags last.0) _ (λ flags is_flags. then_good (word_of last.1) _ (λ bytes is_bytes. then_good (described bytes) _ (λ parts is_parts. then_good (named (is_method_name parts.0) parts.0) _ (λ name is_name. good line flags name bytes parts is_parts is_name)))))
  where
    good : (at : ℕ) (flags : List (List ℕ)) (name bytes : List ℕ) (parts : List ℕ × List ℕ) → described bytes ≡ Ok parts → named (is_method_name parts.0) parts.0 ≡ Ok name → IsNamedMethod (empty_method at flags name parts.1)
    good at flags name bytes parts e h =
        let so : (is_method_name parts.0 ≡ true) × (parts.0 ≡ name) = named_so (is_method_name parts.0) parts.0 name h in
        let desc : (rest : List ℕ) × (parts.1 ≡ 40 ∷ rest) = described_so bytes (position (λ b. b == 40) bytes) parts refl e in
        record { name = subst (λ (x : List ℕ). is_method_name x ≡ true) so.1 so.0; rest = desc.0; desc = desc.1 }

-- ---- the other lines that begin with a dot

-- `.source` and `.bytecode`
source_good : (words : List Lexeme) → Good (source_form words)
unfolding source_form
source_good words = then_good (one words) _ (λ word is_word. tt)

-- a field's name that is let through has the form of one
field_named : (word : Lexeme) (name : List ℕ) → name_of word ≡ Ok name → is_name name ≡ true
field_named (lexeme.Word bytes) name e =
    let so : (is_name bytes ≡ true) × (bytes ≡ name) = named_so (is_name bytes) bytes name e in
    subst (λ (x : List ℕ). is_name x ≡ true) so.1 so.0
field_named (lexeme.Number n) name e = absurd (refused BadOperand name e)
field_named (lexeme.Text text) name e = absurd (refused BadOperand name e)

-- `.field`
field_good : (line : ℕ) (words : List Lexeme) → Good (field_form line words)
unfolding field_of
field_good line words =
    then_good (split_last (valued words).0) _ (λ last a. then_good (split_last last.0) _ (λ before b. then_good (field_flags before.0) _ (λ flags c. then_good (word_of last.1) _ (λ desc d. then_good (name_of before.1) _ (λ name f. field_named before.1 name f)))))

-- `.limit`
limit_good : (words : List Lexeme) → Good (limit_form words)
unfolding limit_form
limit_good words = then_good (two words) _ (λ pair a. then_good (number_of (pos 0) (pos 2147483647) pair.1) _ (λ n b. by n (is_word (codes "stack") pair.0) (is_word (codes "locals") pair.0)))
  where
    by : (n : ℤ) (b c : Bool) → Good (if b then Ok (form.StackLimit (unsigned_abs n)) else if c then Ok (form.LocalsLimit (unsigned_abs n)) else Err BadOperand)
    by n true c = tt
    by n false true = tt
    by n false false = tt

-- `.end`
end_good : (words : List Lexeme) → Good (end_form words)
unfolding end_form
end_good words = then_good (one words) _ (λ word a. by (is_word (codes "method") word))
  where
    by : (b : Bool) → Good (if b then Ok form.End else Err BadOperand)
    by true = tt
    by false = tt

-- `.catch` with its words
caught_good : (line : ℕ) (class from to using : Lexeme) → Good (catch_of line class from to using)
unfolding catch_of
caught_good line class from to using =
    then_good (word_of class) _ (λ c a. then_good (word_of from) _ (λ f b. then_good (word_of to) _ (λ t d. then_good (word_of using) _ (λ u g.
    then_good (named (is_class_name c) c) _ (λ good_class h. then_good (named (is_name f) f) _ (λ good_from i. then_good (named (is_name t) t) _ (λ good_to j. then_good (named (is_name u) u) _ (λ good_using k. tt))))))))

-- `.catch`
catch_good : (line : ℕ) (words : List Lexeme) → Good (catch_form line words)
catch_good line (class ∷ a ∷ from ∷ b ∷ to ∷ c ∷ using ∷ []) = if_good _ (catch_of line class from to using) (Err BadOperand) (caught_good line class from to using) tt
catch_good line _ = tt

-- lines of a class
class_directive_good : (line : ℕ) (first : List ℕ) (words : List Lexeme) → Good (class_directive line first words)
class_directive_good line first words = by (bytes_eq first (codes ".class")) (bytes_eq first (codes ".super")) (bytes_eq first (codes ".implements")) (bytes_eq first (codes ".field")) (bytes_eq first (codes ".method"))
  where
    by : (a b c d e : Bool)
        → Good (if a then class_form line words else if b then (name_at line words >>= λ x. Ok (form.Super x)) else if c then (name_at line words >>= λ x. Ok (form.Implements x)) else if d then field_form line words else if e then method_form line words else Err BadDirective)
    by true b c d e = class_good line words
    by false true c d e = then_good (name_at line words) (λ x. Ok (form.Super x)) (λ x a. tt)
    by false false true d e = then_good (name_at line words) (λ x. Ok (form.Implements x)) (λ x a. tt)
    by false false false true e = field_good line words
    by false false false false true = method_good line words
    by false false false false false = tt

-- lines of a method
method_directive_good : (line : ℕ) (first : List ℕ) (words : List Lexeme) → Good (method_directive line first words)
method_directive_good line first words =
    by (bytes_eq first (codes ".limit")) (bytes_eq first (codes ".line") || bytes_eq first (codes ".var") || bytes_eq first (codes ".throws")) (bytes_eq first (codes ".catch")) (bytes_eq first (codes ".end"))
  where
    by : (a b c d : Bool) → Good (if a then limit_form words else if b then Ok form.Ignored else if c then catch_form line words else if d then end_form words else class_directive line first words)
    by true b c d = limit_good words
    by false true c d = tt
    by false false true d = catch_good line words
    by false false false true = end_good words
    by false false false false = class_directive_good line first words

-- lines that begin with a dot
directive_good : (line : ℕ) (first : List ℕ) (words : List Lexeme) → Good (directive_form line first words)
directive_good line first words = by (bytes_eq first (codes ".source") || bytes_eq first (codes ".bytecode")) (bytes_eq first (codes ".interface"))
  where
    by : (a b : Bool) → Good (if a then source_form words else if b then Ok (form.Interface line) else method_directive line first words)
    by true b = source_good words
    by false true = tt
    by false false = method_directive_good line first words

-- ---- all lines

-- an instruction
unlabelled_good : (line : ℕ) (words : List Lexeme) → Good (unlabelled_form line words)
unfolding unlabelled_form
unlabelled_good line words = then_good (instruction words) _ (λ said is_said. subst Written is_said (instruction_written words))

-- a label, alone or before an instruction
labelled_good : (line : ℕ) (label : List ℕ) (words : List Lexeme) → Good (labelled_form line label words)
unfolding labelled_form
labelled_good line label [] = then_good (named (is_name label) label) _ (λ name is_name. tt)
labelled_good line label (word ∷ words) = then_good (instruction (word ∷ words)) _ (λ said is_said. then_good (named (is_name label) label) _ (λ name is_name. subst Written is_said (instruction_written (word ∷ words))))

-- the lines of a body
coded_good : (line : ℕ) (o : Option (List ℕ)) (words all : List Lexeme) → Good (coded line o words all)
coded_good line (Some label) words all = labelled_good line label words
coded_good line None words all = unlabelled_good line all

-- each line by itself
form_good : (line : ℕ) (words : List Lexeme) → Good (form_of line words)
unfolding form_of
form_good line (lexeme.Word first ∷ words) =
    if_good (begins_with_dot first) (directive_form line first words) (coded line (label_of first) words (lexeme.Word first ∷ words)) (directive_good line first words) (coded_good line (label_of first) words (lexeme.Word first ∷ words))
form_good line _ = unlabelled_good line _

-- each line among others
among_good : (s : PlainState) (line : PlainLine) (behind : List PlainLine) → Good (form_among s line behind)
unfolding form_among
among_good s line behind =
    if_good (not s.has_class && not (may_stand_first line.words)) (Err NoClass) (form_of line.number line.words >>= λ f. placed (misplaced (list_any is_end behind) s f) f) tt (then_both (form_of line.number line.words) (form_good line.number line.words))
  where
    placed_good : (o : Option ReadKind) (f : Form) → GoodForm f → Good (placed o f)
    placed_good None f h = h
    placed_good (Some kind) f h = tt

    then_both : (r : Result Form ReadKind) → Good r → Good (r >>= λ f. placed (misplaced (list_any is_end behind) s f) f)
    then_both (Ok f) h = placed_good _ f h
    then_both (Err kind) h = tt

-- ---- a text

-- the same of all lines of a text that isn't refused
abbrev pub GoodForms : Result (List Form) Refusal → Type 0
GoodForms (Ok fs) = AllByRecursion GoodForm fs
GoodForms (Err f) = Unit {0}

-- one line more
more_good : (line : ℕ) (r : Result Form ReadKind) (next : Form → Result (List Form) Refusal) → Good r → ((f : Form) → GoodForms (next f)) → GoodForms (at_line line r >>= λ f. next f >>= λ fs. Ok (f ∷ fs))
more_good line (Err kind) next h k = tt
more_good line (Ok f) next h k = by (next f) (k f)
  where
    by : (r : Result (List Form) Refusal) → GoodForms r → GoodForms (r >>= λ fs. Ok (f ∷ fs))
    by (Ok fs) all = (h, all)
    by (Err e) all = tt

-- all lines
pub forms_good : (last : ℕ) (s : PlainState) (lines : List PlainLine) → GoodForms (forms_after last s lines)
unfolding forms_after
forms_good last s [] = by (lacks_super s)
  where
    by : (b : Bool) → GoodForms (if b then Err (record { kind = NoSuper; line = last }) else Ok [])
    by true = tt
    by false = tt
forms_good last s (line ∷ lines) = more_good line.number (form_among s line lines) (λ f. forms_after last (next_state f s) lines) (among_good s line lines) (λ f. forms_good last (next_state f s) lines)

-- classes and methods so far have names
pub record GoodParts (p : PlainParts) : Type 0 where
  pub methods : AllByRecursion IsNamedMethod p.members.methods
  pub classes : AreNamed p.classes

-- a line more leaves it so
form_adds : (f : Form) (p : PlainParts) → GoodForm f → GoodParts p → GoodParts (with_form f p)
form_adds form.Skipped p h all = all
form_adds form.Ignored p h all = all
form_adds form.End p h all = all
form_adds (form.Interface line) p h all = record { methods = all.methods; classes = (record { name = refl; methods = tt }, all.classes) }
form_adds (form.Class c) p h all = record { methods = tt; classes = (record { name = h; methods = all.methods }, all.classes) }
form_adds (form.Super n) p h all = record { methods = all.methods; classes = all.classes }
form_adds (form.Implements n) p h all = record { methods = all.methods; classes = all.classes }
form_adds (form.Field f) p h all = record { methods = all.methods; classes = all.classes }
form_adds (form.Method m) p h all = record { methods = (record { name = h.name; rest = h.rest; desc = h.desc }, all.methods); classes = all.classes }
form_adds (form.StackLimit n) p h all = record { methods = all.methods; classes = all.classes }
form_adds (form.LocalsLimit n) p h all = record { methods = all.methods; classes = all.classes }
form_adds (form.Catch c) p h all = record { methods = all.methods; classes = all.classes }
form_adds (form.Label label) p h all = record { methods = all.methods; classes = all.classes }
form_adds (form.Code l) p h all = record { methods = all.methods; classes = all.classes }

-- all lines together
parts_good : (fs : List Form) → AllByRecursion GoodForm fs → GoodParts (parts_of fs no_parts)
unfolding parts_of
parts_good [] all = record { methods = tt; classes = tt }
parts_good (f ∷ fs) all = form_adds f (parts_of fs no_parts) all.0 (parts_good fs all.1)

-- the classes of these lines
read_named : (r : Result (List Form) Refusal) (classes : List PlainClassText) → GoodForms r → (r >>= λ fs. Ok (classes_of fs)) ≡ Ok classes → AreNamed classes
read_named (Err f) classes h e = absurd (refused_so f classes e)
  where
    refused_so : {A : Type 0} (x : Refusal) (y : A) → Err x ≡ Ok y → ⊥
    refused_so x y k = cc
read_named (Ok fs) classes h e =
    let whole : Result (List PlainClassText) Refusal = Ok (classes_of fs) in
    subst AreNamed (same_ok whole (classes_of fs) classes refl e) (parts_good fs h).classes

-- the names of classes and methods of a text that is read have the forms of names
pub read_are_named : (text : List ℕ) (tokens : List Token) (classes : List PlainClassText) → reading text tokens ≡ Ok classes → AreNamed classes
unfolding reading
read_are_named text tokens classes e =
    read_named (forms_after (last_line tokens) nothing_begun (lines_after text [] tokens)) classes (forms_good (last_line tokens) nothing_begun (lines_after text [] tokens)) e
