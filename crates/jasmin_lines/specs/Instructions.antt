-- Instructions in their canonical form.
use Rattle.std.specs.Prelude.{ℕ, ◌-◌, Bool, false, if◌then◌else◌, List, [], ◌∷◌, codes, ℤ, pos, negsuc, Option, Some, None, Result, Ok, Err}
use Rattle.vm_model.specs.declared.limits.TheConstants.{MOST_LOCALS}
use Rattle.vm_model.specs.Failures.{◌>>=◌, or_fault}
use Rattle.jasmin_lines.specs.declared.class_text.Operand.{Operand}
use Rattle.jasmin_lines.specs.declared.class_text.Operand.TheVariants as operand
use Rattle.jasmin_lines.specs.declared.lexeme.Lexeme.{Lexeme}
use Rattle.jasmin_lines.specs.declared.lexeme.Lexeme.TheVariants as lexeme
use Rattle.jasmin_lines.specs.declared.mnemonic.Access.{Access}
use Rattle.jasmin_lines.specs.declared.mnemonic.Access.TheVariants as access
use Rattle.jasmin_lines.specs.declared.mnemonic.Mnemonic.{Mnemonic}
use Rattle.jasmin_lines.specs.declared.mnemonic.Mnemonic.TheVariants as mnemonic
use Rattle.jasmin_lines.specs.declared.fault.ReadKind.{ReadKind}
use Rattle.jasmin_lines.specs.declared.fault.ReadKind.TheVariants.{BadMnemonic, BadOperand}
use Rattle.jasmin_lines.specs.Said.{PlainSaid}
use Rattle.jasmin_lines.specs.Words.{none, one, two, word_of, number_of, is_word, name_of, class_name_of, named, is_name, is_method_name, is_member, described}
use Rattle.jasmin_lines.specs.Mnemonics.{mnemonic_of}

abbrev pub alone : List ℕ → PlainSaid
alone word = record { word = word; operands = [] }

abbrev pub with_one : List ℕ → Operand → PlainSaid
with_one word x = record { word = word; operands = x ∷ [] }

abbrev pub with_two : List ℕ → Operand → Operand → PlainSaid
with_two word x y = record { word = word; operands = x ∷ y ∷ [] }

abbrev pub pushed : ℤ → PlainSaid
pushed n = with_one (codes "ldc") (operand.Number n)

abbrev pub access_word : Access → List ℕ
access_word access.Iload = codes "iload"
access_word access.Istore = codes "istore"
access_word access.Aload = codes "aload"
access_word access.Astore = codes "astore"

abbrev pub on_local : Access → ℤ → PlainSaid
on_local a n = with_one (access_word a) (operand.Number n)

abbrev pub constant_of : Lexeme → Result PlainSaid ReadKind
constant_of (lexeme.Number n) = Ok (pushed n)
constant_of (lexeme.Text text) = Ok (with_one (codes "ldc") (operand.Text text))
constant_of (lexeme.Word bytes) = Err BadOperand

-- an int or a text
unfoldable pub constant : List Lexeme → Result PlainSaid ReadKind
constant words = one words >>= constant_of

unfoldable pub push : ℤ → ℤ → List Lexeme → Result PlainSaid ReadKind
push low high words = do
  word ← one words
  n ← number_of low high word
  Ok (pushed n)

unfoldable pub local : Access → List Lexeme → Result PlainSaid ReadKind
local a words = do
  word ← one words
  n ← number_of (pos 0) (pos (MOST_LOCALS - 1)) word
  Ok (on_local a n)

unfoldable pub increment : List Lexeme → Result PlainSaid ReadKind
increment words = do
  pair ← two words
  n ← number_of (pos 0) (pos (MOST_LOCALS - 1)) pair.0
  by ← number_of (negsuc 127) (pos 127) pair.1
  Ok (with_two (codes "iinc") (operand.Number n) (operand.Number by))

unfoldable pub jump : List ℕ → List Lexeme → Result PlainSaid ReadKind
jump mnemonic words = do
  word ← one words
  label ← name_of word
  Ok (with_one mnemonic (operand.Word label))

-- a field of a class, and its descriptor
unfoldable pub field : List ℕ → List Lexeme → Result PlainSaid ReadKind
field mnemonic words = do
  pair ← two words
  member ← word_of pair.0
  desc ← word_of pair.1
  is_good ← is_member is_name member
  good ← named is_good member
  Ok (with_two mnemonic (operand.Word good) (operand.Word desc))

-- a method of a class with its descriptor
unfoldable pub call : List ℕ → List Lexeme → Result PlainSaid ReadKind
call mnemonic words = do
  word ← one words
  bytes ← word_of word
  parts ← described bytes
  is_good ← is_member is_method_name parts.0
  good ← named is_good bytes
  Ok (with_one mnemonic (operand.Word good))

unfoldable pub class : List ℕ → List Lexeme → Result PlainSaid ReadKind
class mnemonic words = do
  word ← one words
  name ← class_name_of word
  Ok (with_one mnemonic (operand.Word name))

abbrev pub is_int : List Lexeme → Bool
is_int (word ∷ []) = is_word (codes "int") word
is_int _ = false

-- of ints; any other is out of the profile, and keeps no operand
abbrev pub array : List ℕ → List Lexeme → PlainSaid
array mnemonic words = if is_int words then with_one mnemonic (operand.Word (codes "int")) else alone mnemonic

-- what an instruction's operands make of it
abbrev pub said_by : List ℕ → List Lexeme → Mnemonic → Result PlainSaid ReadKind
said_by word words mnemonic.Alone = none words >>= λ u. Ok (alone word)
said_by word words (mnemonic.PushOf n) = none words >>= λ u. Ok (pushed n)
said_by word words (mnemonic.Push low high) = push low high words
said_by word words mnemonic.Constant = constant words
said_by word words (mnemonic.Local a) = local a words
said_by word words (mnemonic.LocalOf a n) = none words >>= λ u. Ok (on_local a n)
said_by word words mnemonic.Increment = increment words
said_by word words mnemonic.Jump = jump word words
said_by word words mnemonic.Field = field word words
said_by word words mnemonic.Call = call word words
said_by word words mnemonic.Class = class word words
said_by word words mnemonic.Array = Ok (array word words)
said_by word words mnemonic.Outside = Ok (alone word)

abbrev pub mnemonic_in : Lexeme → Option (List ℕ × Mnemonic)
mnemonic_in (lexeme.Word bytes) = elim (mnemonic_of bytes) [ Some m ↦ Some (bytes, m) | None ↦ None ]
mnemonic_in _ = None

-- the instruction of these words
abbrev pub instruction : List Lexeme → Result PlainSaid ReadKind
instruction [] = Err BadMnemonic
instruction (first ∷ words) = or_fault BadMnemonic (mnemonic_in first) >>= λ m. said_by m.0 words m.1
