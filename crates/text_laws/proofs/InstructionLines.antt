-- Instructions that were read are read again.
use Rattle.std.proofs.Common.{◌≡◌, ℕ, Bool, true, false, List, [], ◌∷◌, Option, Some, None, Result, Ok, ℤ, pos, negsuc, map, refl, ap, ◌∙◌, subst}
use Rattle.std.specs.Prelude.{codes}
use Rattle.std.specs.List.{AllByRecursion}
use Rattle.vm_model.specs.Failures.{◌>>=◌, or_fault}
use Rattle.jasmin_lines.specs.declared.class_text.Operand.{Operand}
use Rattle.jasmin_lines.specs.declared.class_text.Operand.TheVariants as operand
use Rattle.jasmin_lines.specs.declared.fault.ReadKind.{ReadKind}
use Rattle.jasmin_lines.specs.declared.fault.ReadKind.TheVariants.{BadMnemonic}
use Rattle.jasmin_lines.specs.declared.lexeme.Lexeme.{Lexeme}
use Rattle.jasmin_lines.specs.declared.lexeme.Lexeme.TheVariants as lexeme
use Rattle.jasmin_lines.specs.declared.mnemonic.Access.{Access}
use Rattle.jasmin_lines.specs.declared.mnemonic.Access.TheVariants as access
use Rattle.jasmin_lines.specs.declared.mnemonic.Mnemonic.{Mnemonic}
use Rattle.jasmin_lines.specs.declared.mnemonic.Mnemonic.TheVariants as mnemonic
use Rattle.jasmin_lines.specs.Said.{PlainSaid}
use Rattle.jasmin_lines.specs.Words.{none, one, two, word_of, in_range, number_of, named, is_name, is_class_name, is_method_name, name_of, class_name_of, is_member, described}
use Rattle.jasmin_lines.specs.Mnemonics.{table, mnemonic_of}
use Rattle.jasmin_lines.specs.Instructions.{with_one, with_two, pushed, access_word, on_local, constant_of, constant, push, local, increment, jump, field, call, class, is_int, array, said_by, instruction}
use Rattle.jasmin_lines.specs.Forms.{label_of, begins_with_dot}
use Rattle.text_laws.specs.Sizes.{IsSmall, is_quotable}
use Rattle.text_laws.specs.Spelled.{IsSpellable, IsSpellableLine}
use Rattle.text_laws.specs.OfText.{is_text, IsFound, AreFound}
use Rattle.text_laws.proofs.Tests.{tested}
use Rattle.text_laws.proofs.CanonicalForms.{operand_word}
use Rattle.text_laws.proofs.Names.{good-word}
use Rattle.text_laws.proofs.Successes.{Holds, behind, step, one-is, two-is, word-is, named-is, named-again, IsNamed, number-is, name-is, class-name-is}
use Rattle.text_laws.proofs.ClassLines.{found-small}
use Rattle.text_laws.proofs.TableWords.{IsMnemonic, is-mnemonic, push-small, local-small, local-range}

-- an instruction that is read again from its own words, which begin no directive and end no label
pub record IsSaidAgain (said : PlainSaid) : Type 0 where
  pub fit : IsSpellableLine (lexeme.Word said.word ∷ map operand_word said.operands)
  pub read : instruction (lexeme.Word said.word ∷ map operand_word said.operands) ≡ Ok said
  pub undotted : begins_with_dot said.word ≡ false
  pub unlabelled : label_of said.word ≡ None

abbrev begun_by : List ℕ → Option Mnemonic → Option (List ℕ × Mnemonic)
begun_by word (Some m) = Some (word, m)
begun_by word None = None

abbrev said_of : List ℕ → List Lexeme → Option Mnemonic → Result PlainSaid ReadKind
said_of word words o = or_fault BadMnemonic (begun_by word o) >>= λ m. said_by m.0 words m.1

instruction-by : (word : List ℕ) (words : List Lexeme) (m : Mnemonic) → mnemonic_of word ≡ Some m → instruction (lexeme.Word word ∷ words) ≡ said_by word words m
instruction-by word words m e = ap (said_of word words) e

again-by : (word : List ℕ) (m : Mnemonic) (operands : List Operand) → mnemonic_of word ≡ Some m → AllByRecursion IsSpellable (map operand_word operands) → said_by word (map operand_word operands) m ≡ Ok (record { word = word; operands = operands }) → IsSaidAgain (record { word = word; operands = operands })
again-by word m operands e fit read =
    let is : IsMnemonic word = is-mnemonic word m e in
    record {
      fit = (is.fits, fit);
      read = instruction-by word (map operand_word operands) m e ∙ read;
      undotted = is.undotted;
      unlabelled = is.unlabelled;
    }

-- the first operand stands after a word
spellable : (w : Lexeme) → IsFound false w → IsSpellable w
spellable (lexeme.Word b) h = h
spellable (lexeme.Number n) h = h
spellable (lexeme.Text t) h = h

first-operand : (words : List Lexeme) (w : Lexeme) → AreFound false words → one words ≡ Ok w → IsSpellable w
first-operand words w found e = let all : AreFound false (w ∷ []) = subst (AreFound false) (one-is words w e) found in spellable w all.0

-- ---- pushes

ldc-is : mnemonic_of (codes "ldc") ≡ Some mnemonic.Constant
unfolding mnemonic_of table
ldc-is = refl

number-read : (n : ℤ) → constant (lexeme.Number n ∷ []) ≡ Ok (pushed n)
unfolding constant
number-read n = refl

text-read : (text : List ℕ) → constant (lexeme.Text text ∷ []) ≡ Ok (with_one (codes "ldc") (operand.Text text))
unfolding constant
text-read text = refl

pushed-again : (n : ℤ) → IsSmall n → IsSaidAgain (pushed n)
pushed-again n small = again-by (codes "ldc") mnemonic.Constant (operand.Number n ∷ []) ldc-is (small, tt) (number-read n)

text-again : (text : List ℕ) → is_quotable text ≡ true → IsSaidAgain (with_one (codes "ldc") (operand.Text text))
text-again text held = again-by (codes "ldc") mnemonic.Constant (operand.Text text ∷ []) ldc-is (held, tt) (text-read text)

constant-found : (words : List Lexeme) → AreFound false words → Holds IsSaidAgain (constant words)
unfolding constant
constant-found words found = behind IsSaidAgain (one words) constant_of (λ (w : Lexeme) (e : one words ≡ Ok w). by w (first-operand words w found e))
  where
    by : (w : Lexeme) → IsSpellable w → Holds IsSaidAgain (constant_of w)
    by (lexeme.Number n) h = pushed-again n h
    by (lexeme.Text text) h = text-again text h
    by (lexeme.Word b) h = tt

push-found : (low high : ℤ) (words : List Lexeme) → AreFound false words → Holds IsSaidAgain (push low high words)
unfolding push
push-found low high words found =
    behind IsSaidAgain (one words) _ (λ (w : Lexeme) (e : one words ≡ Ok w).
    behind IsSaidAgain (number_of low high w) _ (λ (n : ℤ) (k : number_of low high w ≡ Ok n).
    pushed-again n (subst IsSpellable (number-is low high w n k).0 (first-operand words w found e))))

-- ---- local variables

access-is : (a : Access) → mnemonic_of (access_word a) ≡ Some (mnemonic.Local a)
unfolding mnemonic_of table
access-is access.Iload = refl
access-is access.Istore = refl
access-is access.Aload = refl
access-is access.Astore = refl

local-read : (a : Access) (n : ℤ) → in_range (pos 0) (pos 255) n ≡ Ok n → local a (lexeme.Number n ∷ []) ≡ Ok (on_local a n)
unfolding local
local-read a n e = step (in_range (pos 0) (pos 255) n) _ n e

local-again : (a : Access) (n : ℤ) → IsSmall n → in_range (pos 0) (pos 255) n ≡ Ok n → IsSaidAgain (on_local a n)
local-again a n small e = again-by (access_word a) (mnemonic.Local a) (operand.Number n ∷ []) (access-is a) (small, tt) (local-read a n e)

local-found : (a : Access) (words : List Lexeme) → AreFound false words → Holds IsSaidAgain (local a words)
unfolding local
local-found a words found =
    behind IsSaidAgain (one words) _ (λ (w : Lexeme) (e : one words ≡ Ok w).
    behind IsSaidAgain (number_of (pos 0) (pos 255) w) _ (λ (n : ℤ) (k : number_of (pos 0) (pos 255) w ≡ Ok n).
    let is : (w ≡ lexeme.Number n) × (in_range (pos 0) (pos 255) n ≡ Ok n) = number-is (pos 0) (pos 255) w n k in
    local-again a n (subst IsSpellable is.0 (first-operand words w found e)) is.1))

iinc-is : mnemonic_of (codes "iinc") ≡ Some mnemonic.Increment
unfolding mnemonic_of table
iinc-is = refl

increment-read : (n by : ℤ) → in_range (pos 0) (pos 255) n ≡ Ok n → in_range (negsuc 127) (pos 127) by ≡ Ok by → increment (lexeme.Number n ∷ lexeme.Number by ∷ []) ≡ Ok (with_two (codes "iinc") (operand.Number n) (operand.Number by))
unfolding increment
increment-read n by e f = step (in_range (pos 0) (pos 255) n) _ n e ∙ step (in_range (negsuc 127) (pos 127) by) _ by f

increment-found : (words : List Lexeme) → AreFound false words → Holds IsSaidAgain (increment words)
unfolding increment
increment-found words found =
    behind IsSaidAgain (two words) _ (λ (p : Lexeme × Lexeme) (e : two words ≡ Ok p).
    behind IsSaidAgain (number_of (pos 0) (pos 255) p.0) _ (λ (n : ℤ) (k : number_of (pos 0) (pos 255) p.0 ≡ Ok n).
    behind IsSaidAgain (number_of (negsuc 127) (pos 127) p.1) _ (λ (by : ℤ) (l : number_of (negsuc 127) (pos 127) p.1 ≡ Ok by).
    let first : (p.0 ≡ lexeme.Number n) × (in_range (pos 0) (pos 255) n ≡ Ok n) = number-is (pos 0) (pos 255) p.0 n k in
    let second : (p.1 ≡ lexeme.Number by) × (in_range (negsuc 127) (pos 127) by ≡ Ok by) = number-is (negsuc 127) (pos 127) p.1 by l in
    let all : AreFound false (p.0 ∷ p.1 ∷ []) = subst (AreFound false) (two-is words p e) found in
    let small : IsSmall n = found-small false n (subst (IsFound false) first.0 all.0) in
    let small' : IsSmall by = found-small (is_text p.0) by (subst (IsFound (is_text p.0)) second.0 all.1.0) in
    again-by (codes "iinc") mnemonic.Increment (operand.Number n ∷ operand.Number by ∷ []) iinc-is (small, (small', tt)) (increment-read n by first.1 second.1))))

-- ---- names

jump-read : (mnemonic' label : List ℕ) → is_name label ≡ true → jump mnemonic' (lexeme.Word label ∷ []) ≡ Ok (with_one mnemonic' (operand.Word label))
unfolding jump
jump-read mnemonic' label good = step (name_of (lexeme.Word label)) _ label (named-again (is_name label) label good)

jump-found : (word : List ℕ) (words : List Lexeme) → mnemonic_of word ≡ Some mnemonic.Jump → AreFound false words → Holds IsSaidAgain (jump word words)
unfolding jump
jump-found word words m found =
    behind IsSaidAgain (one words) _ (λ (w : Lexeme) (e : one words ≡ Ok w).
    behind IsSaidAgain (name_of w) _ (λ (label : List ℕ) (n : name_of w ≡ Ok label).
    let is : IsNamed is_name w label = name-is w label n in
    again-by word mnemonic.Jump (operand.Word label ∷ []) m (subst IsSpellable is.0 (first-operand words w found e), tt) (jump-read word label is.1)))

class-read : (mnemonic' name : List ℕ) → is_class_name name ≡ true → class mnemonic' (lexeme.Word name ∷ []) ≡ Ok (with_one mnemonic' (operand.Word name))
unfolding class
class-read mnemonic' name good = step (class_name_of (lexeme.Word name)) _ name (named-again (is_class_name name) name good)

class-found : (word : List ℕ) (words : List Lexeme) → mnemonic_of word ≡ Some mnemonic.Class → AreFound false words → Holds IsSaidAgain (class word words)
unfolding class
class-found word words m found =
    behind IsSaidAgain (one words) _ (λ (w : Lexeme) (e : one words ≡ Ok w).
    behind IsSaidAgain (class_name_of w) _ (λ (name : List ℕ) (n : class_name_of w ≡ Ok name).
    let is : IsNamed is_class_name w name = class-name-is w name n in
    again-by word mnemonic.Class (operand.Word name ∷ []) m (subst IsSpellable is.0 (first-operand words w found e), tt) (class-read word name is.1)))

field-read : (mnemonic' member desc : List ℕ) (good : Bool) → is_member is_name member ≡ Ok good → good ≡ true → field mnemonic' (lexeme.Word member ∷ lexeme.Word desc ∷ []) ≡ Ok (with_two mnemonic' (operand.Word member) (operand.Word desc))
unfolding field
field-read mnemonic' member desc good e is = step (is_member is_name member) _ good e ∙ step (named good member) _ member (named-again good member is)

field-found : (word : List ℕ) (words : List Lexeme) → mnemonic_of word ≡ Some mnemonic.Field → AreFound false words → Holds IsSaidAgain (field word words)
unfolding field
field-found word words m found =
    behind IsSaidAgain (two words) _ (λ (p : Lexeme × Lexeme) (e : two words ≡ Ok p).
    behind IsSaidAgain (word_of p.0) _ (λ (member : List ℕ) (a : word_of p.0 ≡ Ok member).
    behind IsSaidAgain (word_of p.1) _ (λ (desc : List ℕ) (b : word_of p.1 ≡ Ok desc).
    behind IsSaidAgain (is_member is_name member) _ (λ (good : Bool) (g : is_member is_name member ≡ Ok good).
    behind IsSaidAgain (named good member) _ (λ (name : List ℕ) (n : named good member ≡ Ok name).
    let is : (good ≡ true) × (member ≡ name) = named-is good member name n in
    let all : AreFound false (p.0 ∷ p.1 ∷ []) = subst (AreFound false) (two-is words p e) found in
    let first : p.0 ≡ lexeme.Word member = word-is p.0 member a in
    let second : p.1 ≡ lexeme.Word desc = word-is p.1 desc b in
    let member_fits : IsSpellable (lexeme.Word member) = subst (IsFound false) first all.0 in
    let desc_fits : IsSpellable (lexeme.Word desc) = subst (λ (x : Lexeme). IsFound (is_text x) (lexeme.Word desc)) first (subst (IsFound (is_text p.0)) second all.1.0) in
    subst (λ (x : List ℕ). IsSaidAgain (with_two word (operand.Word x) (operand.Word desc))) is.1
    (again-by word mnemonic.Field (operand.Word member ∷ operand.Word desc ∷ []) m (member_fits, (desc_fits, tt)) (field-read word member desc good g is.0)))))))

call-read : (mnemonic' bytes : List ℕ) (parts : List ℕ × List ℕ) (good : Bool) → described bytes ≡ Ok parts → is_member is_method_name parts.0 ≡ Ok good → good ≡ true → call mnemonic' (lexeme.Word bytes ∷ []) ≡ Ok (with_one mnemonic' (operand.Word bytes))
unfolding call
call-read mnemonic' bytes parts good d e is = step (described bytes) _ parts d ∙ step (is_member is_method_name parts.0) _ good e ∙ step (named good bytes) _ bytes (named-again good bytes is)

call-found : (word : List ℕ) (words : List Lexeme) → mnemonic_of word ≡ Some mnemonic.Call → AreFound false words → Holds IsSaidAgain (call word words)
unfolding call
call-found word words m found =
    behind IsSaidAgain (one words) _ (λ (w : Lexeme) (e : one words ≡ Ok w).
    behind IsSaidAgain (word_of w) _ (λ (bytes : List ℕ) (a : word_of w ≡ Ok bytes).
    behind IsSaidAgain (described bytes) _ (λ (parts : List ℕ × List ℕ) (d : described bytes ≡ Ok parts).
    behind IsSaidAgain (is_member is_method_name parts.0) _ (λ (good : Bool) (g : is_member is_method_name parts.0 ≡ Ok good).
    behind IsSaidAgain (named good bytes) _ (λ (name : List ℕ) (n : named good bytes ≡ Ok name).
    let is : (good ≡ true) × (bytes ≡ name) = named-is good bytes name n in
    let fits : IsSpellable (lexeme.Word bytes) = subst IsSpellable (word-is w bytes a) (first-operand words w found e) in
    subst (λ (x : List ℕ). IsSaidAgain (with_one word (operand.Word x))) is.1
    (again-by word mnemonic.Call (operand.Word bytes ∷ []) m (fits, tt) (call-read word bytes parts good d g is.0)))))))

-- ---- all

array-found : (word : List ℕ) (words : List Lexeme) → mnemonic_of word ≡ Some mnemonic.Array → IsSaidAgain (array word words)
array-found word words m =
    tested IsSaidAgain (is_int words) _ _
    (λ (_ : is_int words ≡ true). again-by word mnemonic.Array (operand.Word (codes "int") ∷ []) m (good-word (codes "int") refl, tt) refl)
    (λ (_ : is_int words ≡ false). again-by word mnemonic.Array [] m tt refl)

said-found : (word : List ℕ) (words : List Lexeme) (m : Mnemonic) → mnemonic_of word ≡ Some m → AreFound false words → Holds IsSaidAgain (said_by word words m)
said-found word words mnemonic.Alone e found = behind IsSaidAgain (none words) _ (λ (u : Unit {0}) (_ : none words ≡ Ok u). again-by word mnemonic.Alone [] e tt refl)
said-found word words (mnemonic.PushOf n) e found = behind IsSaidAgain (none words) _ (λ (u : Unit {0}) (_ : none words ≡ Ok u). pushed-again n (push-small word n e))
said-found word words (mnemonic.Push low high) e found = push-found low high words found
said-found word words mnemonic.Constant e found = constant-found words found
said-found word words (mnemonic.Local a) e found = local-found a words found
said-found word words (mnemonic.LocalOf a n) e found = behind IsSaidAgain (none words) _ (λ (u : Unit {0}) (_ : none words ≡ Ok u). local-again a n (local-small word a n e) (local-range word a n e))
said-found word words mnemonic.Increment e found = increment-found words found
said-found word words mnemonic.Jump e found = jump-found word words e found
said-found word words mnemonic.Field e found = field-found word words e found
said-found word words mnemonic.Call e found = call-found word words e found
said-found word words mnemonic.Class e found = class-found word words e found
said-found word words mnemonic.Array e found = array-found word words e
said-found word words mnemonic.Outside e found = again-by word mnemonic.Outside [] e tt refl

pub instruction-found : (words : List Lexeme) → AreFound false words → Holds IsSaidAgain (instruction words)
instruction-found [] found = tt
instruction-found (lexeme.Number n ∷ words) found = tt
instruction-found (lexeme.Text t ∷ words) found = tt
instruction-found (lexeme.Word word ∷ words) found = by (mnemonic_of word) refl
  where
    by : (o : Option Mnemonic) → mnemonic_of word ≡ o → Holds IsSaidAgain (said_of word words o)
    by (Some m) e = said-found word words m e found.1
    by None e = tt
