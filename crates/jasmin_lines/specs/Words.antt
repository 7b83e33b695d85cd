-- What a line's words are, and the forms of names.
use Rattle.std.specs.Prelude.{ℕ, ◌+◌, Bool, false, not, ◌&&◌, ◌||◌, if◌then◌else◌, ◌==◌, List, [], ◌∷◌, length, take, drop, filter, position, codes, bytes_eq, ℤ, int_le, Option, Some, None, Result, Ok, Err}
use Rattle.std.specs.Char.{is_ascii_alphanumeric}
use Rattle.std.specs.List.{list_all, list_any}
use Rattle.vm_model.specs.Failures.{◌>>=◌}
use Rattle.jasmin_lines.specs.declared.lexeme.Lexeme.{Lexeme}
use Rattle.jasmin_lines.specs.declared.lexeme.Lexeme.TheVariants as lexeme
use Rattle.jasmin_lines.specs.declared.fault.ReadKind.{ReadKind}
use Rattle.jasmin_lines.specs.declared.fault.ReadKind.TheVariants.{BadOperand, BadName}

-- ---- words

-- a line's words where it has none, one or two of them
abbrev pub none : List Lexeme → Result (Unit {0}) ReadKind
none [] = Ok tt
none (word ∷ words) = Err BadOperand

abbrev pub one : List Lexeme → Result Lexeme ReadKind
one (word ∷ []) = Ok word
one _ = Err BadOperand

abbrev pub two : List Lexeme → Result (Lexeme × Lexeme) ReadKind
two (first ∷ second ∷ []) = Ok (first, second)
two _ = Err BadOperand

abbrev pub word_of : Lexeme → Result (List ℕ) ReadKind
word_of (lexeme.Word bytes) = Ok bytes
word_of _ = Err BadOperand

abbrev pub in_range : ℤ → ℤ → ℤ → Result ℤ ReadKind
in_range low high n = if int_le low n && int_le n high then Ok n else Err BadOperand

-- a number from low to high
abbrev pub number_of : ℤ → ℤ → Lexeme → Result ℤ ReadKind
number_of low high (lexeme.Number n) = in_range low high n
number_of low high _ = Err BadOperand

-- whether a word is spelled so
abbrev pub is_word : List ℕ → Lexeme → Bool
is_word bytes (lexeme.Word word) = bytes_eq word bytes
is_word bytes _ = false

-- ---- names

abbrev pub is_name_byte : ℕ → Bool
is_name_byte b = is_ascii_alphanumeric b || b == 95 || b == 36 || b == 45

abbrev pub is_class_byte : ℕ → Bool
is_class_byte b = is_name_byte b || b == 47

abbrev pub is_filled : List ℕ → Bool
is_filled bytes = not (length bytes == 0)

-- letters, digits, `_`, `$` and `-`
abbrev pub is_name : List ℕ → Bool
is_name bytes = is_filled bytes && list_all is_name_byte bytes

-- the same of a class, which may have `/` too
abbrev pub is_class_name : List ℕ → Bool
is_class_name bytes = is_filled bytes && list_all is_class_byte bytes

-- the same of a method, which may be a constructor or a class initialiser too
abbrev pub is_method_name : List ℕ → Bool
is_method_name bytes = is_name bytes || bytes_eq bytes (codes "<init>") || bytes_eq bytes (codes "<clinit>")

abbrev pub named : Bool → List ℕ → Result (List ℕ) ReadKind
named is_good bytes = if is_good then Ok bytes else Err BadName

-- a word that is a name
abbrev pub name_of : Lexeme → Result (List ℕ) ReadKind
name_of word = word_of word >>= λ bytes. named (is_name bytes) bytes

abbrev pub class_name_of : Lexeme → Result (List ℕ) ReadKind
class_name_of word = word_of word >>= λ bytes. named (is_class_name bytes) bytes

-- ---- members

-- how many bytes come before the last slash
abbrev pub slash_from : ℕ → List ℕ → Option ℕ → Option ℕ
slash_from n [] found = found
slash_from n (b ∷ rest) found = slash_from (n + 1) rest (if b == 47 then Some n else found)

abbrev pub last_slash : List ℕ → Option ℕ
last_slash bytes = slash_from 0 bytes None

-- the name of a class and that of a member of it, with a slash between them
abbrev pub is_member_at : (List ℕ → Bool) → List ℕ → Option ℕ → Result Bool ReadKind
is_member_at is_good bytes None = Err BadOperand
is_member_at is_good bytes (Some n) = Ok (is_class_name (take n bytes) && is_good (drop (n + 1) bytes))

-- whether a member's word has names of the right form
abbrev pub is_member : (List ℕ → Bool) → List ℕ → Result Bool ReadKind
is_member is_good bytes = is_member_at is_good bytes (last_slash bytes)

-- the name of a method, and its descriptor, which begins with a bracket and has a closing one
abbrev pub split_at : List ℕ → Option ℕ → Result (List ℕ × List ℕ) ReadKind
split_at bytes None = Err BadOperand
split_at bytes (Some n) = if list_any (λ b. b == 41) (drop n bytes) then Ok (take n bytes, drop n bytes) else Err BadOperand

abbrev pub described : List ℕ → Result (List ℕ × List ℕ) ReadKind
described bytes = split_at bytes (position (λ b. b == 40) bytes)

-- ---- flags

-- the flags among these words, once each and in the order of the known ones; none where another word is there
abbrev pub flags_of : List (List ℕ) → List Lexeme → Result (List (List ℕ)) ReadKind
flags_of known words =
    if list_all (λ word. list_any (λ flag. is_word flag word) known) words
    then Ok (filter (λ flag. list_any (is_word flag) words) known)
    else Err BadOperand
