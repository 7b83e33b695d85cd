-- What a line says by itself, and what is wrong with it. Which words may follow its first word, and what they say, is told
-- by one case for each line of the grammar. A line that has such words may still have a name of another form than names
-- have, and each case says by "good" whether all of its names are as they should be.
use Rattle.std.specs.Prelude.{◌⊎◌, ◌≡◌, ◌≢◌, ℕ, ◌-◌, Bool, true, false, ◌&&◌, ◌==◌, List, [], ◌∷◌, ◌++◌, Contains, codes, ℤ, pos, negsuc, int_le, Some, None}
use Rattle.std.specs.List.{AllByRecursion, list_any}
use Rattle.vm_model.specs.declared.limits.TheConstants.{MOST_LOCALS}
use Rattle.jasmin_lines.specs.declared.class_text.Operand.{Operand}
use Rattle.jasmin_lines.specs.declared.class_text.Operand.TheVariants as operand
use Rattle.jasmin_lines.specs.declared.fault.ReadKind.{ReadKind}
use Rattle.jasmin_lines.specs.declared.fault.ReadKind.TheVariants.{BadDirective, BadMnemonic, BadOperand, BadName}
use Rattle.jasmin_lines.specs.declared.form.Form.{Form}
use Rattle.jasmin_lines.specs.declared.form.Form.TheVariants as form
use Rattle.jasmin_lines.specs.declared.lexeme.Lexeme.{Lexeme}
use Rattle.jasmin_lines.specs.declared.lexeme.Lexeme.TheVariants as lexeme
use Rattle.jasmin_lines.specs.declared.mnemonic.Access.{Access}
use Rattle.jasmin_lines.specs.declared.mnemonic.Access.TheVariants as access
use Rattle.jasmin_lines.specs.declared.mnemonic.Mnemonic.{Mnemonic}
use Rattle.jasmin_lines.specs.declared.mnemonic.Mnemonic.TheVariants as mnemonic
use Rattle.jasmin_lines.specs.Lexemes.{PlainLine}
use Rattle.jasmin_lines.specs.Mnemonics.{mnemonic_of}
use Rattle.jasmin_lines.specs.Plain.{PlainClassText, PlainMethodText}
use Rattle.jasmin_lines.specs.Said.{PlainSaid}
use Rattle.jasmin_lines.specs.Words.{is_name, is_class_name, is_method_name}

-- ---- parts of a line

-- flags, each one of those that are known
abbrev pub AreFlags : List (List ℕ) → List Lexeme → Type 0
AreFlags known words = AllByRecursion (λ (w : Lexeme). (flag : List ℕ) × Contains known flag × (w ≡ lexeme.Word flag)) words

-- what is kept of them: each known one that is among the words, once, in the order of the known ones
unfoldable pub AreKept : List Lexeme → List (List ℕ) → List (List ℕ) → Type 0
AreKept words [] kept = kept ≡ []
AreKept words (flag ∷ known) kept =
    (Contains words (lexeme.Word flag) × (rest : List (List ℕ)) × (kept ≡ flag ∷ rest) × AreKept words known rest)
    ⊎ ((Contains words (lexeme.Word flag) → ⊥) × AreKept words known kept)

abbrev pub HasFlags : List (List ℕ) → List Lexeme → List (List ℕ) → Type 0
HasFlags known words kept = AreFlags known words × AreKept words known kept

abbrev pub flags_of_classes : List (List ℕ)
flags_of_classes = codes "public" ∷ codes "final" ∷ codes "super" ∷ codes "abstract" ∷ codes "interface" ∷ codes "native" ∷ []

abbrev pub flags_of_fields : List (List ℕ)
flags_of_fields = codes "public" ∷ codes "private" ∷ codes "protected" ∷ codes "static" ∷ codes "final" ∷ codes "volatile" ∷ codes "transient" ∷ codes "abstract" ∷ codes "interface" ∷ codes "native" ∷ []

abbrev pub flags_of_methods : List (List ℕ)
flags_of_methods = codes "public" ∷ codes "private" ∷ codes "protected" ∷ codes "static" ∷ codes "final" ∷ codes "synchronized" ∷ codes "abstract" ∷ codes "interface" ∷ codes "native" ∷ []

abbrev pub is_among : ℕ → List ℕ → Bool
is_among b bytes = list_any (λ x. x == b) bytes

-- NAME(PARAMS)RET: up to the first bracket a name, and from there a descriptor, with a closing one
abbrev pub IsDescribed : List ℕ → List ℕ → List ℕ → Type 0
IsDescribed bytes name desc = (behind : List ℕ) × (bytes ≡ name ++ 40 ∷ behind) × (is_among 40 name ≡ false) × (desc ≡ 40 ∷ behind) × (is_among 41 behind ≡ true)

-- CLASS/NAME, parted at the last slash
abbrev pub IsMemberOf : List ℕ → List ℕ → List ℕ → Type 0
IsMemberOf bytes class name = (bytes ≡ class ++ 47 ∷ name) × (is_among 47 name ≡ false)

abbrev pub IsFrom : ℤ → ℤ → ℤ → Type 0
IsFrom low high n = (int_le low n ≡ true) × (int_le n high ≡ true)

-- ---- lines that begin with a dot

abbrev pub directives : List (List ℕ)
directives =
    codes ".source" ∷ codes ".bytecode" ∷ codes ".interface" ∷ codes ".class" ∷ codes ".super" ∷ codes ".implements" ∷ codes ".field" ∷ codes ".method" ∷
    codes ".limit" ∷ codes ".line" ∷ codes ".var" ∷ codes ".throws" ∷ codes ".catch" ∷ codes ".end" ∷ []

-- a class and a method without anything in them
abbrev pub bare_class : ℕ → List (List ℕ) → List ℕ → PlainClassText
bare_class line flags name = record {
  line = line;
  flags = flags;
  name = name;
  super_line = 0;
  super_name = [];
  implements = [];
  fields = [];
  methods = [];
}

abbrev pub bare_method : ℕ → List (List ℕ) → List ℕ → List ℕ → PlainMethodText
bare_method line flags name desc = record {
  line = line;
  flags = flags;
  name = name;
  desc = desc;
  stack = None;
  locals = None;
  lines = [];
  end_labels = [];
  catches = [];
}

-- This directive is followed by these words, and that says this on each line.
pub data FollowsDirective (first : List ℕ) (words : List Lexeme) (says : ℕ → Form) (good : Bool) : Type 0 where
  -- `.source X`
  Source : (word : Lexeme) → first ≡ codes ".source" → words ≡ word ∷ [] → says ≡ (λ line. form.Skipped) → good ≡ true → FollowsDirective first words says good
  -- `.bytecode X`
  Bytecode : (word : Lexeme) → first ≡ codes ".bytecode" → words ≡ word ∷ [] → says ≡ (λ line. form.Skipped) → good ≡ true → FollowsDirective first words says good
  -- `.interface`, with whatever follows
  Interface : first ≡ codes ".interface" → says ≡ (λ line. form.Interface line) → good ≡ true → FollowsDirective first words says good
  -- `.class {flag} NAME`
  Class : (flags : List Lexeme) (kept : List (List ℕ)) (name : List ℕ) → first ≡ codes ".class" → HasFlags flags_of_classes flags kept → words ≡ flags ++ lexeme.Word name ∷ [] → says ≡ (λ line. form.Class (bare_class line kept name)) → good ≡ is_class_name name → FollowsDirective first words says good
  -- `.super NAME`
  Super : (name : List ℕ) → first ≡ codes ".super" → words ≡ lexeme.Word name ∷ [] → says ≡ (λ line. form.Super (record { line = line; name = name })) → good ≡ is_class_name name → FollowsDirective first words says good
  -- `.implements NAME`
  Implements : (name : List ℕ) → first ≡ codes ".implements" → words ≡ lexeme.Word name ∷ [] → says ≡ (λ line. form.Implements (record { line = line; name = name })) → good ≡ is_class_name name → FollowsDirective first words says good
  -- `.field {flag} NAME DESC`
  Field : (flags : List Lexeme) (kept : List (List ℕ)) (name desc : List ℕ) → first ≡ codes ".field" → HasFlags flags_of_fields flags kept → words ≡ flags ++ lexeme.Word name ∷ [] ++ lexeme.Word desc ∷ [] → says ≡ (λ line. form.Field (record { line = line; flags = kept; name = name; desc = desc; value = None })) → good ≡ is_name name → FollowsDirective first words says good
  -- `.field {flag} NAME DESC = NUMBER`
  ValuedField : (flags : List Lexeme) (kept : List (List ℕ)) (name desc : List ℕ) (n : ℤ) → first ≡ codes ".field" → HasFlags flags_of_fields flags kept → words ≡ flags ++ lexeme.Word name ∷ [] ++ lexeme.Word desc ∷ [] ++ lexeme.Word (codes "=") ∷ [] ++ lexeme.Number n ∷ [] → says ≡ (λ line. form.Field (record { line = line; flags = kept; name = name; desc = desc; value = Some n })) → good ≡ is_name name → FollowsDirective first words says good
  -- `.method {flag} NAME(PARAMS)RET`
  Method : (flags : List Lexeme) (kept : List (List ℕ)) (bytes name desc : List ℕ) → first ≡ codes ".method" → HasFlags flags_of_methods flags kept → words ≡ flags ++ lexeme.Word bytes ∷ [] → IsDescribed bytes name desc → says ≡ (λ line. form.Method (bare_method line kept name desc)) → good ≡ is_method_name name → FollowsDirective first words says good
  -- `.limit stack N`
  StackLimit : (n : ℕ) → first ≡ codes ".limit" → words ≡ lexeme.Word (codes "stack") ∷ lexeme.Number (pos n) ∷ [] → IsFrom (pos 0) (pos 2147483647) (pos n) → says ≡ (λ line. form.StackLimit n) → good ≡ true → FollowsDirective first words says good
  -- `.limit locals N`
  LocalsLimit : (n : ℕ) → first ≡ codes ".limit" → words ≡ lexeme.Word (codes "locals") ∷ lexeme.Number (pos n) ∷ [] → IsFrom (pos 0) (pos 2147483647) (pos n) → says ≡ (λ line. form.LocalsLimit n) → good ≡ true → FollowsDirective first words says good
  -- `.line`, `.var` and `.throws`, each with whatever follows
  Line : first ≡ codes ".line" → says ≡ (λ line. form.Ignored) → good ≡ true → FollowsDirective first words says good
  Var : first ≡ codes ".var" → says ≡ (λ line. form.Ignored) → good ≡ true → FollowsDirective first words says good
  Throws : first ≡ codes ".throws" → says ≡ (λ line. form.Ignored) → good ≡ true → FollowsDirective first words says good
  -- `.catch NAME from L to L using L`
  Catch : (class from to using : List ℕ) → first ≡ codes ".catch" → words ≡ lexeme.Word class ∷ lexeme.Word (codes "from") ∷ lexeme.Word from ∷ lexeme.Word (codes "to") ∷ lexeme.Word to ∷ lexeme.Word (codes "using") ∷ lexeme.Word using ∷ [] → says ≡ (λ line. form.Catch (record { line = line; class = class; from = from; to = to; using = using })) → good ≡ (is_class_name class && (is_name from && (is_name to && is_name using))) → FollowsDirective first words says good
  -- `.end method`
  End : first ≡ codes ".end" → words ≡ lexeme.Word (codes "method") ∷ [] → says ≡ (λ line. form.End) → good ≡ true → FollowsDirective first words says good

-- ---- instructions

-- an instruction in its canonical form
abbrev pub saying : List ℕ → List Operand → PlainSaid
saying word operands = record { word = word; operands = operands }

abbrev pub local_word : Access → List ℕ
local_word access.Iload = codes "iload"
local_word access.Istore = codes "istore"
local_word access.Aload = codes "aload"
local_word access.Astore = codes "astore"

-- a number or a text
abbrev pub IsConstant : Lexeme → Operand → Type 0
IsConstant (lexeme.Number n) x = x ≡ operand.Number n
IsConstant (lexeme.Text text) x = x ≡ operand.Text text
IsConstant (lexeme.Word word) x = ⊥

-- ints are the only elements that an array may have; of others nothing is kept
abbrev pub ints : List Lexeme
ints = lexeme.Word (codes "int") ∷ []

abbrev pub IsArray : List ℕ → List Lexeme → PlainSaid → Type 0
IsArray word words said = ((words ≡ ints) × (said ≡ saying word (operand.Word (codes "int") ∷ []))) ⊎ ((words ≢ ints) × (said ≡ saying word []))

-- This mnemonic, which asks for this, is followed by these words, and that is this instruction.
abbrev pub FollowsMnemonic : List ℕ → Mnemonic → List Lexeme → PlainSaid → Bool → Type 0
FollowsMnemonic word mnemonic.Alone words said good = (words ≡ []) × (said ≡ saying word []) × (good ≡ true)
FollowsMnemonic word (mnemonic.PushOf n) words said good = (words ≡ []) × (said ≡ saying (codes "ldc") (operand.Number n ∷ [])) × (good ≡ true)
FollowsMnemonic word (mnemonic.LocalOf a n) words said good = (words ≡ []) × (said ≡ saying (local_word a) (operand.Number n ∷ [])) × (good ≡ true)
FollowsMnemonic word (mnemonic.Push low high) words said good =
    (n : ℤ) × (words ≡ lexeme.Number n ∷ []) × IsFrom low high n × (said ≡ saying (codes "ldc") (operand.Number n ∷ [])) × (good ≡ true)
FollowsMnemonic word mnemonic.Constant words said good =
    (constant : Lexeme) × (x : Operand) × (words ≡ constant ∷ []) × IsConstant constant x × (said ≡ saying (codes "ldc") (x ∷ [])) × (good ≡ true)
FollowsMnemonic word (mnemonic.Local a) words said good =
    (n : ℤ) × (words ≡ lexeme.Number n ∷ []) × IsFrom (pos 0) (pos (MOST_LOCALS - 1)) n × (said ≡ saying (local_word a) (operand.Number n ∷ [])) × (good ≡ true)
FollowsMnemonic word mnemonic.Increment words said good =
    (n : ℤ) × (by : ℤ) × (words ≡ lexeme.Number n ∷ lexeme.Number by ∷ []) × IsFrom (pos 0) (pos (MOST_LOCALS - 1)) n × IsFrom (negsuc 127) (pos 127) by
    × (said ≡ saying (codes "iinc") (operand.Number n ∷ operand.Number by ∷ [])) × (good ≡ true)
FollowsMnemonic word mnemonic.Jump words said good = (label : List ℕ) × (words ≡ lexeme.Word label ∷ []) × (said ≡ saying word (operand.Word label ∷ [])) × (good ≡ is_name label)
FollowsMnemonic word mnemonic.Field words said good =
    (member : List ℕ) × (desc : List ℕ) × (class : List ℕ) × (name : List ℕ)
    × (words ≡ lexeme.Word member ∷ lexeme.Word desc ∷ []) × IsMemberOf member class name × (said ≡ saying word (operand.Word member ∷ operand.Word desc ∷ [])) × (good ≡ (is_class_name class && is_name name))
FollowsMnemonic word mnemonic.Call words said good =
    (bytes : List ℕ) × (member : List ℕ) × (desc : List ℕ) × (class : List ℕ) × (name : List ℕ)
    × (words ≡ lexeme.Word bytes ∷ []) × IsDescribed bytes member desc × IsMemberOf member class name × (said ≡ saying word (operand.Word bytes ∷ [])) × (good ≡ (is_class_name class && is_method_name name))
FollowsMnemonic word mnemonic.Class words said good = (name : List ℕ) × (words ≡ lexeme.Word name ∷ []) × (said ≡ saying word (operand.Word name ∷ [])) × (good ≡ is_class_name name)
FollowsMnemonic word mnemonic.Array words said good = IsArray word words said × (good ≡ true)
FollowsMnemonic word mnemonic.Outside words said good = (said ≡ saying word []) × (good ≡ true)

-- ---- how a line begins

abbrev pub IsDotted : List ℕ → Type 0
IsDotted [] = ⊥
IsDotted (b ∷ rest) = b ≡ 46

-- with a word that has a dot in front
abbrev pub IsDirectiveLine : List Lexeme → List ℕ → List Lexeme → Type 0
IsDirectiveLine words first rest = (words ≡ lexeme.Word first ∷ rest) × IsDotted first

-- with another word, and a colon at its end
abbrev pub IsLabelLine : List Lexeme → List ℕ → List Lexeme → Type 0
IsLabelLine words label rest = (words ≡ lexeme.Word (label ++ 58 ∷ []) ∷ rest) × (IsDotted (label ++ 58 ∷ []) → ⊥)

-- with neither of them
abbrev pub IsBareLine : List Lexeme → Type 0
IsBareLine words = ((first : List ℕ) (rest : List Lexeme) → IsDirectiveLine words first rest → ⊥) × ((label : List ℕ) (rest : List Lexeme) → IsLabelLine words label rest → ⊥)

-- The instruction of a line is all of it, or what comes after its label.
pub data HasInstruction (words said : List Lexeme) : Type 0 where
  Bare : IsBareLine words → said ≡ words → HasInstruction words said
  Labelled : (label : List ℕ) → IsLabelLine words label said → said ≢ [] → HasInstruction words said

abbrev pub BeginsWith : List Lexeme → List ℕ → Mnemonic → List Lexeme → Type 0
BeginsWith said word m rest = (said ≡ lexeme.Word word ∷ rest) × (mnemonic_of word ≡ Some m)

-- ---- faults of a line by itself

-- A line of these words has this fault, wherever it stands.
pub data IsSpoiled (words : List Lexeme) : ReadKind → Type 0 where
  -- a first word with a dot that is no directive
  UnknownDirective : (first : List ℕ) (rest : List Lexeme) → IsDirectiveLine words first rest → (Contains directives first → ⊥) → IsSpoiled words BadDirective
  -- a directive with too few or too many words, or others than it asks for
  WrongWords : (first : List ℕ) (rest : List Lexeme) → IsDirectiveLine words first rest → Contains directives first → ((says : ℕ → Form) (good : Bool) → FollowsDirective first rest says good → ⊥) → IsSpoiled words BadOperand
  -- a directive with a name of another form
  WrongName : (first : List ℕ) (rest : List Lexeme) (says : ℕ → Form) → IsDirectiveLine words first rest → FollowsDirective first rest says false → IsSpoiled words BadName
  -- an instruction whose first word is no mnemonic
  UnknownMnemonic : (said : List Lexeme) → HasInstruction words said → ((word : List ℕ) (m : Mnemonic) (rest : List Lexeme) → BeginsWith said word m rest → ⊥) → IsSpoiled words BadMnemonic
  -- an instruction with other operands than its mnemonic asks for
  WrongOperands : (said : List Lexeme) (word : List ℕ) (m : Mnemonic) (rest : List Lexeme) → HasInstruction words said → BeginsWith said word m rest → ((what : PlainSaid) (good : Bool) → FollowsMnemonic word m rest what good → ⊥) → IsSpoiled words BadOperand
  -- an instruction with a name of another form
  WrongOperandName : (said : List Lexeme) (word : List ℕ) (m : Mnemonic) (rest : List Lexeme) (what : PlainSaid) → HasInstruction words said → BeginsWith said word m rest → FollowsMnemonic word m rest what false → IsSpoiled words BadName
  -- a label of another form
  WrongLabel : (label : List ℕ) (rest : List Lexeme) → IsLabelLine words label rest → is_name label ≡ false → IsSpoiled words BadName

-- ---- forms of lines without a fault

-- These words are this instruction, and all names in it are as they should be.
pub record IsInstruction (said : List Lexeme) (what : PlainSaid) : Type 0 where
  pub word : List ℕ
  pub asks : Mnemonic
  pub rest : List Lexeme
  pub begins : BeginsWith said word asks rest
  pub follows : FollowsMnemonic word asks rest what true

abbrev pub coded_at : ℕ → List (List ℕ) → PlainSaid → Form
coded_at line labels what = form.Code (record { line = line; labels = labels; word = what.word; operands = what.operands })

-- A line of this number and these words has this form.
pub data HasForm (line : ℕ) (words : List Lexeme) (f : Form) : Type 0 where
  -- a directive
  Directed : (first : List ℕ) (rest : List Lexeme) (says : ℕ → Form) → IsDirectiveLine words first rest → FollowsDirective first rest says true → f ≡ says line → HasForm line words f
  -- a label alone
  LabelAlone : (label : List ℕ) → IsLabelLine words label [] → is_name label ≡ true → f ≡ form.Label label → HasForm line words f
  -- an instruction after a label
  LabelledCode : (label : List ℕ) (said : List Lexeme) (what : PlainSaid) → IsLabelLine words label said → said ≢ [] → is_name label ≡ true → IsInstruction said what → f ≡ coded_at line (label ∷ []) what → HasForm line words f
  -- an instruction without one
  BareCode : (what : PlainSaid) → IsBareLine words → IsInstruction words what → f ≡ coded_at line [] what → HasForm line words f

-- These lines have these forms, one each.
abbrev pub HaveForms : List PlainLine → List Form → Type 0
HaveForms [] [] = Unit {0}
HaveForms (line ∷ lines) (f ∷ forms) = HasForm line.number line.words f × HaveForms lines forms
HaveForms _ _ = ⊥
