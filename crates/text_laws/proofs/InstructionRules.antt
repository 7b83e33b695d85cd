-- An instruction is read where its words follow the rules, and else has the fault that they give it.
use Rattle.std.proofs.Common.{◌≡◌, ◌≢◌, ℕ, ◌-◌, Bool, true, false, ◌&&◌, List, [], ◌∷◌, Option, Some, None, Result, Ok, Err, refl, ap, sym, ◌∙◌, subst, cond, ℤ, pos, negsuc, inl, inr, ◌⊎◌}
use Rattle.std.specs.Prelude.{codes}
use Rattle.vm_model.specs.declared.limits.TheConstants.{MOST_LOCALS}
use Rattle.vm_model.specs.Failures.{◌>>=◌, or_fault}
use Rattle.jasmin_lines.specs.declared.class_text.Operand.{Operand}
use Rattle.jasmin_lines.specs.declared.class_text.Operand.TheVariants as operand
use Rattle.jasmin_lines.specs.declared.fault.ReadKind.{ReadKind}
use Rattle.jasmin_lines.specs.declared.fault.ReadKind.TheVariants.{BadMnemonic}
use Rattle.jasmin_lines.specs.declared.lexeme.Lexeme.{Lexeme}
use Rattle.jasmin_lines.specs.declared.lexeme.Lexeme.TheVariants as lexeme
use Rattle.jasmin_lines.specs.declared.mnemonic.Access.{Access}
use Rattle.jasmin_lines.specs.declared.mnemonic.Access.TheVariants as access
use Rattle.jasmin_lines.specs.declared.mnemonic.Mnemonic.{Mnemonic}
use Rattle.jasmin_lines.specs.declared.mnemonic.Mnemonic.TheVariants as mnemonic
use Rattle.jasmin_lines.specs.Instructions.{alone, pushed, access_word, on_local, is_int, constant_of, constant, push, local, increment, jump, field, call, class, array, said_by, instruction}
use Rattle.jasmin_lines.specs.Mnemonics.{mnemonic_of}
use Rattle.jasmin_lines.specs.Said.{PlainSaid}
use Rattle.jasmin_lines.specs.Words.{none, one, two, word_of, in_range, number_of, is_name, is_class_name, is_method_name, is_member, described}
use Rattle.text_laws.specs.WordRules.{IsFrom, saying, local_word, ints, IsArray, IsConstant, IsDescribed, IsMemberOf, FollowsMnemonic, BeginsWith}
use Rattle.text_laws.proofs.Successes.{none-is, one-is, two-is, word-is, number-is, is-word}
use Rattle.text_laws.proofs.WordParts.{described-is, described-again, member-is, member-again}
use Rattle.text_laws.proofs.WordSteps.{JudgedSo, passes, names, name-word, AnswersSo, known, last-name, none-lacks, one-lacks, two-lacks, word-lacks, number-lacks, described-lacks, member-lacks, from-range, in-range}
use Rattle.text_laws.proofs.DirectiveAnswers.{settled}

-- ---- parts of instructions

access-same : (a : Access) → access_word a ≡ local_word a
access-same access.Iload = refl
access-same access.Istore = refl
access-same access.Aload = refl
access-same access.Astore = refl

local-same : (a : Access) (n : ℤ) → on_local a n ≡ saying (local_word a) (operand.Number n ∷ [])
local-same a n = ap (λ (w : List ℕ). saying w (operand.Number n ∷ [])) (access-same a)

ints-are : (words : List Lexeme) → is_int words ≡ true → words ≡ ints
ints-are [] h = absurd (cc)
ints-are (w ∷ []) h = ap (λ (x : Lexeme). x ∷ []) (is-word (codes "int") w h)
ints-are (w ∷ v ∷ words) h = absurd (cc)

no-ints : (words : List Lexeme) → is_int words ≡ false → words ≢ ints
no-ints words h e = let same : is_int words ≡ true = ap is_int e in absurd (cc)

not-ints : (words : List Lexeme) → words ≢ ints → is_int words ≡ false
not-ints words n = by (is_int words) refl
  where
    by : (c : Bool) → is_int words ≡ c → is_int words ≡ false
    by true e = absurd (n (ints-are words e))
    by false e = e

abbrev array_if : List ℕ → Bool → PlainSaid
array_if word c = cond c (saying word (operand.Word (codes "int") ∷ [])) (saying word [])

array-so : (word : List ℕ) (words : List Lexeme) → IsArray word words (array word words)
array-so word words = by (is_int words) refl
  where
    by : (c : Bool) → is_int words ≡ c → IsArray word words (array_if word c)
    by true e = inl (ints-are words e, refl)
    by false e = inr (no-ints words e, refl)

array-is : (word : List ℕ) (words : List Lexeme) (said : PlainSaid) → IsArray word words said → said ≡ array word words
array-is word words said (inl h) = let is : is_int words ≡ true = ap is_int h.0 in h.1 ∙ ap (array_if word) (sym is)
array-is word words said (inr h) = h.1 ∙ ap (array_if word) (sym (not-ints words h.0))

-- ---- what is read follows

none-judged : (words : List Lexeme) (said other : PlainSaid) → said ≡ other → JudgedSo (λ (x : PlainSaid) (good : Bool). (words ≡ []) × (x ≡ other) × (good ≡ true)) (none words >>= λ u. Ok said)
none-judged words said other e = passes (λ (x : PlainSaid) (good : Bool). (words ≡ []) × (x ≡ other) × (good ≡ true)) (none words) (λ u. Ok said) (none-lacks words) (λ (u : Unit {0}) (i : none words ≡ Ok u). (none-is words u i, e, refl))

push-judged : (word : List ℕ) (low high : ℤ) (words : List Lexeme) → JudgedSo (FollowsMnemonic word (mnemonic.Push low high) words) (push low high words)
unfolding push
push-judged word low high words =
    let P : PlainSaid → Bool → Type 0 = FollowsMnemonic word (mnemonic.Push low high) words in
    passes P (one words) _ (one-lacks words) (λ (w : Lexeme) (e : one words ≡ Ok w).
    passes P (number_of low high w) _ (number-lacks low high w) (λ (n : ℤ) (k : number_of low high w ≡ Ok n).
    let is = number-is low high w n k in (n, one-is words w e ∙ ap (λ (x : Lexeme). x ∷ []) is.0, from-range low high n is.1, refl, refl)))

constant-so : (word : List ℕ) (words : List Lexeme) (w : Lexeme) → words ≡ w ∷ [] → JudgedSo (FollowsMnemonic word mnemonic.Constant words) (constant_of w)
constant-so word words (lexeme.Number n) e = (lexeme.Number n, operand.Number n, e, refl, refl, refl)
constant-so word words (lexeme.Text text) e = (lexeme.Text text, operand.Text text, e, refl, refl, refl)
constant-so word words (lexeme.Word bytes) e = inl refl

constant-judged : (word : List ℕ) (words : List Lexeme) → JudgedSo (FollowsMnemonic word mnemonic.Constant words) (constant words)
unfolding constant
constant-judged word words = passes (FollowsMnemonic word mnemonic.Constant words) (one words) constant_of (one-lacks words) (λ (w : Lexeme) (e : one words ≡ Ok w). constant-so word words w (one-is words w e))

local-judged : (word : List ℕ) (a : Access) (words : List Lexeme) → JudgedSo (FollowsMnemonic word (mnemonic.Local a) words) (local a words)
unfolding local
local-judged word a words =
    let P : PlainSaid → Bool → Type 0 = FollowsMnemonic word (mnemonic.Local a) words in
    let most : ℤ = pos (MOST_LOCALS - 1) in
    passes P (one words) _ (one-lacks words) (λ (w : Lexeme) (e : one words ≡ Ok w).
    passes P (number_of (pos 0) most w) _ (number-lacks (pos 0) most w) (λ (n : ℤ) (k : number_of (pos 0) most w ≡ Ok n).
    let is = number-is (pos 0) most w n k in (n, one-is words w e ∙ ap (λ (x : Lexeme). x ∷ []) is.0, from-range (pos 0) most n is.1, local-same a n, refl)))

abbrev pair_of : Lexeme → Lexeme → List Lexeme
pair_of a b = a ∷ b ∷ []

increment-judged : (word : List ℕ) (words : List Lexeme) → JudgedSo (FollowsMnemonic word mnemonic.Increment words) (increment words)
unfolding increment
increment-judged word words =
    let P : PlainSaid → Bool → Type 0 = FollowsMnemonic word mnemonic.Increment words in
    let most : ℤ = pos (MOST_LOCALS - 1) in
    passes P (two words) _ (two-lacks words) (λ (p : Lexeme × Lexeme) (e : two words ≡ Ok p).
    passes P (number_of (pos 0) most p.0) _ (number-lacks (pos 0) most p.0) (λ (n : ℤ) (k : number_of (pos 0) most p.0 ≡ Ok n).
    passes P (number_of (negsuc 127) (pos 127) p.1) _ (number-lacks (negsuc 127) (pos 127) p.1) (λ (by : ℤ) (l : number_of (negsuc 127) (pos 127) p.1 ≡ Ok by).
    let first = number-is (pos 0) most p.0 n k in
    let second = number-is (negsuc 127) (pos 127) p.1 by l in
    (n, by, two-is words p e ∙ ap (λ (x : Lexeme). pair_of x p.1) first.0 ∙ ap (pair_of (lexeme.Number n)) second.0, from-range (pos 0) most n first.1, from-range (negsuc 127) (pos 127) by second.1, refl, refl))))

jump-judged : (word : List ℕ) (words : List Lexeme) → JudgedSo (FollowsMnemonic word mnemonic.Jump words) (jump word words)
unfolding jump
jump-judged word words =
    let P : PlainSaid → Bool → Type 0 = FollowsMnemonic word mnemonic.Jump words in
    passes P (one words) _ (one-lacks words) (λ (w : Lexeme) (e : one words ≡ Ok w).
    name-word P is_name w _
    (λ (label : List ℕ) (i : w ≡ lexeme.Word label) (good : is_name label ≡ true). (label, one-is words w e ∙ ap (λ (x : Lexeme). x ∷ []) i, refl, sym good))
    (λ (label : List ℕ) (i : w ≡ lexeme.Word label) (bad : is_name label ≡ false). (saying word (operand.Word label ∷ []), (label, one-is words w e ∙ ap (λ (x : Lexeme). x ∷ []) i, refl, sym bad))))

class-judged : (word : List ℕ) (words : List Lexeme) → JudgedSo (FollowsMnemonic word mnemonic.Class words) (class word words)
unfolding class
class-judged word words =
    let P : PlainSaid → Bool → Type 0 = FollowsMnemonic word mnemonic.Class words in
    passes P (one words) _ (one-lacks words) (λ (w : Lexeme) (e : one words ≡ Ok w).
    name-word P is_class_name w _
    (λ (name : List ℕ) (i : w ≡ lexeme.Word name) (good : is_class_name name ≡ true). (name, one-is words w e ∙ ap (λ (x : Lexeme). x ∷ []) i, refl, sym good))
    (λ (name : List ℕ) (i : w ≡ lexeme.Word name) (bad : is_class_name name ≡ false). (saying word (operand.Word name ∷ []), (name, one-is words w e ∙ ap (λ (x : Lexeme). x ∷ []) i, refl, sym bad))))

field-judged : (word : List ℕ) (words : List Lexeme) → JudgedSo (FollowsMnemonic word mnemonic.Field words) (field word words)
unfolding field
field-judged word words =
    let P : PlainSaid → Bool → Type 0 = FollowsMnemonic word mnemonic.Field words in
    passes P (two words) _ (two-lacks words) (λ (p : Lexeme × Lexeme) (e : two words ≡ Ok p).
    passes P (word_of p.0) _ (word-lacks p.0) (λ (member : List ℕ) (a : word_of p.0 ≡ Ok member).
    passes P (word_of p.1) _ (word-lacks p.1) (λ (desc : List ℕ) (b : word_of p.1 ≡ Ok desc).
    passes P (is_member is_name member) _ (member-lacks is_name member) (λ (good : Bool) (g : is_member is_name member ≡ Ok good).
    let m = member-is is_name member good g in
    let shape : words ≡ pair_of (lexeme.Word member) (lexeme.Word desc) = two-is words p e ∙ ap (λ (x : Lexeme). pair_of x p.1) (word-is p.0 member a) ∙ ap (pair_of (lexeme.Word member)) (word-is p.1 desc b) in
    names P good member _
    (λ (t : good ≡ true). (member, desc, m.0, m.1, shape, m.2, refl, sym t ∙ m.3))
    (λ (f : good ≡ false). (saying word (operand.Word member ∷ operand.Word desc ∷ []), (member, desc, m.0, m.1, shape, m.2, refl, sym f ∙ m.3)))))))

call-judged : (word : List ℕ) (words : List Lexeme) → JudgedSo (FollowsMnemonic word mnemonic.Call words) (call word words)
unfolding call
call-judged word words =
    let P : PlainSaid → Bool → Type 0 = FollowsMnemonic word mnemonic.Call words in
    passes P (one words) _ (one-lacks words) (λ (w : Lexeme) (e : one words ≡ Ok w).
    passes P (word_of w) _ (word-lacks w) (λ (bytes : List ℕ) (a : word_of w ≡ Ok bytes).
    passes P (described bytes) _ (described-lacks bytes) (λ (parts : List ℕ × List ℕ) (d : described bytes ≡ Ok parts).
    passes P (is_member is_method_name parts.0) _ (member-lacks is_method_name parts.0) (λ (good : Bool) (g : is_member is_method_name parts.0 ≡ Ok good).
    let m = member-is is_method_name parts.0 good g in
    let shape : words ≡ lexeme.Word bytes ∷ [] = one-is words w e ∙ ap (λ (x : Lexeme). x ∷ []) (word-is w bytes a) in
    names P good bytes _
    (λ (t : good ≡ true). (bytes, parts.0, parts.1, m.0, m.1, shape, described-is bytes parts d, m.2, refl, sym t ∙ m.3))
    (λ (f : good ≡ false). (saying word (operand.Word bytes ∷ []), (bytes, parts.0, parts.1, m.0, m.1, shape, described-is bytes parts d, m.2, refl, sym f ∙ m.3)))))))

said-judged : (word : List ℕ) (words : List Lexeme) (m : Mnemonic) → JudgedSo (FollowsMnemonic word m words) (said_by word words m)
said-judged word words mnemonic.Alone = none-judged words (alone word) (alone word) refl
said-judged word words (mnemonic.PushOf n) = none-judged words (pushed n) (pushed n) refl
said-judged word words (mnemonic.Push low high) = push-judged word low high words
said-judged word words mnemonic.Constant = constant-judged word words
said-judged word words (mnemonic.Local a) = local-judged word a words
said-judged word words (mnemonic.LocalOf a n) = none-judged words (on_local a n) (saying (local_word a) (operand.Number n ∷ [])) (local-same a n)
said-judged word words mnemonic.Increment = increment-judged word words
said-judged word words mnemonic.Jump = jump-judged word words
said-judged word words mnemonic.Field = field-judged word words
said-judged word words mnemonic.Call = call-judged word words
said-judged word words mnemonic.Class = class-judged word words
said-judged word words mnemonic.Array = (array-so word words, refl)
said-judged word words mnemonic.Outside = (refl, refl)

-- ---- what follows is read

none-answers : (x : PlainSaid) (good : Bool) (words : List Lexeme) (said other : PlainSaid) → said ≡ other → (words ≡ []) × (x ≡ other) × (good ≡ true) → AnswersSo x good (none words >>= λ u. Ok said)
none-answers x good words said other e h = settled x said good true words [] (λ ws. none ws >>= λ u. Ok said) h.0 (h.1 ∙ sym e) h.2 refl

push-answers : (low high n : ℤ) → IsFrom low high n → AnswersSo (pushed n) true (push low high (lexeme.Number n ∷ []))
unfolding push
push-answers low high n h = known (pushed n) true (in_range low high n) _ n (in-range low high n h) refl

constant-answers : (w : Lexeme) (x : Operand) → IsConstant w x → AnswersSo (saying (codes "ldc") (x ∷ [])) true (constant (w ∷ []))
unfolding constant
constant-answers (lexeme.Number n) x h = ap (λ (y : Operand). saying (codes "ldc") (y ∷ [])) (sym h)
constant-answers (lexeme.Text text) x h = ap (λ (y : Operand). saying (codes "ldc") (y ∷ [])) (sym h)
constant-answers (lexeme.Word bytes) x h = absurd h

local-answers : (a : Access) (n : ℤ) → IsFrom (pos 0) (pos (MOST_LOCALS - 1)) n → AnswersSo (on_local a n) true (local a (lexeme.Number n ∷ []))
unfolding local
local-answers a n h = known (on_local a n) true (in_range (pos 0) (pos (MOST_LOCALS - 1)) n) _ n (in-range (pos 0) (pos (MOST_LOCALS - 1)) n h) refl

abbrev stepped : ℤ → ℤ → PlainSaid
stepped n by = saying (codes "iinc") (operand.Number n ∷ operand.Number by ∷ [])

increment-answers : (n by : ℤ) → IsFrom (pos 0) (pos (MOST_LOCALS - 1)) n → IsFrom (negsuc 127) (pos 127) by → AnswersSo (stepped n by) true (increment (pair_of (lexeme.Number n) (lexeme.Number by)))
unfolding increment
increment-answers n by h i =
    known (stepped n by) true (in_range (pos 0) (pos (MOST_LOCALS - 1)) n) _ n (in-range (pos 0) (pos (MOST_LOCALS - 1)) n h)
    (known (stepped n by) true (in_range (negsuc 127) (pos 127) by) _ by (in-range (negsuc 127) (pos 127) by i) refl)

abbrev worded : List ℕ → List ℕ → PlainSaid
worded word x = saying word (operand.Word x ∷ [])

jump-answers : (word label : List ℕ) → AnswersSo (worded word label) (is_name label) (jump word (lexeme.Word label ∷ []))
unfolding jump
jump-answers word label = last-name (is_name label) label (worded word)

class-answers : (word name : List ℕ) → AnswersSo (worded word name) (is_class_name name) (class word (lexeme.Word name ∷ []))
unfolding class
class-answers word name = last-name (is_class_name name) name (worded word)

abbrev accessing : List ℕ → List ℕ → List ℕ → PlainSaid
accessing word desc member = saying word (operand.Word member ∷ operand.Word desc ∷ [])

field-answers : (word member desc of name : List ℕ) → IsMemberOf member of name → AnswersSo (accessing word desc member) (is_class_name of && is_name name) (field word (pair_of (lexeme.Word member) (lexeme.Word desc)))
unfolding field
field-answers word member desc of name h =
    known (accessing word desc member) (is_class_name of && is_name name) (is_member is_name member) _ (is_class_name of && is_name name) (member-again is_name member of name h) (last-name (is_class_name of && is_name name) member (accessing word desc))

call-answers : (word bytes member desc of name : List ℕ) → IsDescribed bytes member desc → IsMemberOf member of name → AnswersSo (worded word bytes) (is_class_name of && is_method_name name) (call word (lexeme.Word bytes ∷ []))
unfolding call
call-answers word bytes member desc of name d h =
    let good : Bool = is_class_name of && is_method_name name in
    known (worded word bytes) good (described bytes) _ (member, desc) (described-again bytes member desc d)
    (known (worded word bytes) good (is_member is_method_name member) _ good (member-again is_method_name member of name h) (last-name good bytes (worded word)))

said-answers : (word : List ℕ) (words : List Lexeme) (m : Mnemonic) (x : PlainSaid) (good : Bool) → FollowsMnemonic word m words x good → AnswersSo x good (said_by word words m)
said-answers word words mnemonic.Alone x good h = none-answers x good words (alone word) (alone word) refl h
said-answers word words (mnemonic.PushOf n) x good h = none-answers x good words (pushed n) (pushed n) refl h
said-answers word words (mnemonic.LocalOf a n) x good h = none-answers x good words (on_local a n) (saying (local_word a) (operand.Number n ∷ [])) (local-same a n) h
said-answers word words (mnemonic.Push low high) x good h = settled x (pushed h.0) good true words (lexeme.Number h.0 ∷ []) (push low high) h.1 h.3 h.4 (push-answers low high h.0 h.2)
said-answers word words mnemonic.Constant x good h = settled x (saying (codes "ldc") (h.1 ∷ [])) good true words (h.0 ∷ []) constant h.2 h.4 h.5 (constant-answers h.0 h.1 h.3)
said-answers word words (mnemonic.Local a) x good h = settled x (on_local a h.0) good true words (lexeme.Number h.0 ∷ []) (local a) h.1 (h.3 ∙ sym (local-same a h.0)) h.4 (local-answers a h.0 h.2)
said-answers word words mnemonic.Increment x good h = settled x (stepped h.0 h.1) good true words (pair_of (lexeme.Number h.0) (lexeme.Number h.1)) increment h.2 h.5 h.6 (increment-answers h.0 h.1 h.3 h.4)
said-answers word words mnemonic.Jump x good h = settled x (worded word h.0) good (is_name h.0) words (lexeme.Word h.0 ∷ []) (jump word) h.1 h.2 h.3 (jump-answers word h.0)
said-answers word words mnemonic.Field x good h = settled x (accessing word h.1 h.0) good (is_class_name h.2 && is_name h.3) words (pair_of (lexeme.Word h.0) (lexeme.Word h.1)) (field word) h.4 h.6 h.7 (field-answers word h.0 h.1 h.2 h.3 h.5)
said-answers word words mnemonic.Call x good h = settled x (worded word h.0) good (is_class_name h.3 && is_method_name h.4) words (lexeme.Word h.0 ∷ []) (call word) h.5 h.8 h.9 (call-answers word h.0 h.1 h.2 h.3 h.4 h.6 h.7)
said-answers word words mnemonic.Class x good h = settled x (worded word h.0) good (is_class_name h.0) words (lexeme.Word h.0 ∷ []) (class word) h.1 h.2 h.3 (class-answers word h.0)
said-answers word words mnemonic.Array x good h = settled x (array word words) good true words words (λ ws. Ok (array word words)) refl (array-is word words x h.0) h.1 refl
said-answers word words mnemonic.Outside x good h = settled x (alone word) good true words words (λ ws. Ok (alone word)) refl h.0 h.1 refl

-- ---- the mnemonic

abbrev said_if : List ℕ → List Lexeme → Option Mnemonic → Result PlainSaid ReadKind
said_if word rest (Some m) = said_by word rest m
said_if word rest None = Err BadMnemonic

by-mnemonic : (word : List ℕ) (rest : List Lexeme) (o : Option Mnemonic) → (or_fault BadMnemonic (elim o [ Some m ↦ Some (word, m) | None ↦ None ]) >>= λ (x : List ℕ × Mnemonic). said_by x.0 rest x.1) ≡ said_if word rest o
by-mnemonic word rest (Some m) = refl
by-mnemonic word rest None = refl

on-mnemonic : (word : List ℕ) (rest : List Lexeme) (o : Option Mnemonic) → mnemonic_of word ≡ o → instruction (lexeme.Word word ∷ rest) ≡ said_if word rest o
on-mnemonic word rest o e = by-mnemonic word rest (mnemonic_of word) ∙ ap (said_if word rest) e

-- a known mnemonic, and what its words are judged as, or none
abbrev pub InstructedSo : List Lexeme → Result PlainSaid ReadKind → Type 0
InstructedSo said r =
    ((word : List ℕ) × (m : Mnemonic) × (rest : List Lexeme) × BeginsWith said word m rest × JudgedSo (FollowsMnemonic word m rest) r)
    ⊎ (((word : List ℕ) (m : Mnemonic) (rest : List Lexeme) → BeginsWith said word m rest → ⊥) × (r ≡ Err BadMnemonic))

pub same-word : (a b : List ℕ) (xs ys : List Lexeme) → lexeme.Word a ∷ xs ≡ lexeme.Word b ∷ ys → a ≡ b
same-word a b xs ys e = let first : lexeme.Word a ≡ lexeme.Word b = cc in cc

pub no-word : (w : Lexeme) (a : List ℕ) (xs ys : List Lexeme) → ((b : List ℕ) → w ≡ lexeme.Word b → ⊥) → w ∷ xs ≡ lexeme.Word a ∷ ys → ⊥
no-word w a xs ys h e = let first : w ≡ lexeme.Word a = cc in h a first

pub instructed : (said : List Lexeme) → InstructedSo said (instruction said)
instructed [] = inr ((λ (a : List ℕ) (m : Mnemonic) (rest : List Lexeme) (b : BeginsWith [] a m rest). absurd (let e : [] ≡ lexeme.Word a ∷ rest = b.0 in cc)), refl)
instructed (lexeme.Number n ∷ words) = inr ((λ (a : List ℕ) (m : Mnemonic) (rest : List Lexeme) (b : BeginsWith (lexeme.Number n ∷ words) a m rest). no-word (lexeme.Number n) a words rest (λ (c : List ℕ) (e : lexeme.Number n ≡ lexeme.Word c). absurd (cc)) b.0), refl)
instructed (lexeme.Text text ∷ words) = inr ((λ (a : List ℕ) (m : Mnemonic) (rest : List Lexeme) (b : BeginsWith (lexeme.Text text ∷ words) a m rest). no-word (lexeme.Text text) a words rest (λ (c : List ℕ) (e : lexeme.Text text ≡ lexeme.Word c). absurd (cc)) b.0), refl)
instructed (lexeme.Word word ∷ words) = by_row (mnemonic_of word) refl
  where
    by_row : (o : Option Mnemonic) → mnemonic_of word ≡ o → InstructedSo (lexeme.Word word ∷ words) (instruction (lexeme.Word word ∷ words))
    by_row (Some m) e = inl (word, m, words, (refl, e), subst (JudgedSo (FollowsMnemonic word m words)) (sym (on-mnemonic word words (Some m) e)) (said-judged word words m))
    by_row None e = inr (
      (λ (a : List ℕ) (m : Mnemonic) (rest : List Lexeme) (b : BeginsWith (lexeme.Word word ∷ words) a m rest).
          let same : word ≡ a = same-word word a words rest b.0 in
          let none : Some m ≡ None = sym b.1 ∙ ap mnemonic_of (sym same) ∙ e in absurd (cc)),
      on-mnemonic word words None e,
    )

pub instruction-answers : (said : List Lexeme) (word : List ℕ) (m : Mnemonic) (rest : List Lexeme) (x : PlainSaid) (good : Bool) → BeginsWith said word m rest → FollowsMnemonic word m rest x good → AnswersSo x good (instruction said)
instruction-answers said word m rest x good b h =
    subst (λ (y : List Lexeme). AnswersSo x good (instruction y)) (sym b.0) (subst (AnswersSo x good) (sym (on-mnemonic word rest (Some m) b.1)) (said-answers word rest m x good h))

pub instruction-judged : (said : List Lexeme) (word : List ℕ) (m : Mnemonic) (rest : List Lexeme) → BeginsWith said word m rest → JudgedSo (FollowsMnemonic word m rest) (instruction said)
instruction-judged said word m rest b =
    subst (λ (x : List Lexeme). JudgedSo (FollowsMnemonic word m rest) (instruction x)) (sym b.0) (subst (JudgedSo (FollowsMnemonic word m rest)) (sym (on-mnemonic word rest (Some m) b.1)) (said-judged word rest m))
