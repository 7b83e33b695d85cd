-- No instruction that is read has two words but those that name a field.
use Rattle.std.proofs.Common.{◌≡◌, ℕ, Bool, true, false, List, [], ◌∷◌, Option, Some, None, Result, Ok, Err, refl, subst}
use Rattle.std.specs.Prelude.{pos, negsuc, not, ◌||◌, if◌then◌else◌, bytes_eq}
use Rattle.std.specs.List.{list_all, list_any}
use Rattle.std.proofs.lemmas.Slice.Eq.{bytes_eq-Decides}
use Rattle.vm_model.specs.Failures.{◌>>=◌, or_fault}
use Rattle.jasmin_lines.specs.declared.class_text.Operand.TheVariants as operand
use Rattle.jasmin_lines.specs.declared.fault.ReadKind.{ReadKind}
use Rattle.jasmin_lines.specs.declared.fault.ReadKind.TheVariants.{BadMnemonic}
use Rattle.jasmin_lines.specs.declared.lexeme.Lexeme.{Lexeme}
use Rattle.jasmin_lines.specs.declared.lexeme.Lexeme.TheVariants as lexeme
use Rattle.jasmin_lines.specs.declared.mnemonic.Mnemonic.{Mnemonic}
use Rattle.jasmin_lines.specs.declared.mnemonic.Mnemonic.TheVariants as mnemonic
use Rattle.jasmin_lines.specs.Tables.{row_of}
use Rattle.jasmin_lines.specs.Mnemonics.{table, mnemonic_of}
use Rattle.jasmin_lines.specs.Said.{PlainSaid}
use Rattle.jasmin_lines.specs.Instructions.{constant_of, constant, push, local, increment, jump, field, call, class, is_int, said_by, instruction, alone, with_one}
use Rattle.jasmin_lines.specs.Words.{none, one, two, word_of, number_of, name_of, class_name_of, named, is_name, is_method_name, is_member, described}
use Rattle.shape_laws.proofs.Tests.{both}
use Rattle.linking_laws.specs.Named.{accesses, IsWrittenBy}

-- ---- the table of mnemonics

-- a mnemonic that asks for a field
abbrev is_field : Mnemonic → Bool
is_field mnemonic.Field = true
is_field _ = false

-- a row that asks for a field is of an access
abbrev is_right : List ℕ × Mnemonic → Bool
is_right row = not (is_field row.1) || list_any (λ other. bytes_eq row.0 other) accesses

table_right : list_all is_right table ≡ true
unfolding table
table_right = refl

none_some : {A : Type 0} (x : A) → None ≡ Some x → ⊥
none_some x e = cc

some_same : {A : Type 0} (x y : A) → Some x ≡ Some y → x ≡ y
some_same x y e = cc

-- the row that is found
row_right : (word : List ℕ) (rows : List (List ℕ × Mnemonic)) (m : Mnemonic) → list_all is_right rows ≡ true → row_of word rows ≡ Some m → (not (is_field m) || list_any (λ other. bytes_eq word other) accesses) ≡ true
row_right word [] m all e = absurd (none_some m e)
row_right word (row ∷ rows) m all e = by (bytes_eq row.0 word) refl e (row_right word rows m parts.1)
  where
    parts : (is_right row ≡ true) × (list_all is_right rows ≡ true)
    parts = both (is_right row) (list_all is_right rows) all

    by : (b : Bool) → bytes_eq row.0 word ≡ b → (if b then Some row.1 else row_of word rows) ≡ Some m → (row_of word rows ≡ Some m → (not (is_field m) || list_any (λ other. bytes_eq word other) accesses) ≡ true) → (not (is_field m) || list_any (λ other. bytes_eq word other) accesses) ≡ true
    by true is h more =
        subst (λ (k : Mnemonic). (not (is_field k) || list_any (λ other. bytes_eq word other) accesses) ≡ true) (some_same row.1 m h)
        (subst (λ (w : List ℕ). (not (is_field row.1) || list_any (λ other. bytes_eq w other) accesses) ≡ true) ((bytes_eq-Decides row.0 word).0 is) parts.0)
    by false is h more = more h

-- a word that asks for a field is an access
field_word : (word : List ℕ) → mnemonic_of word ≡ Some mnemonic.Field → list_any (λ other. bytes_eq word other) accesses ≡ true
unfolding mnemonic_of
field_word word e = row_right word table mnemonic.Field table_right e

-- ---- instructions

-- what is said has two words only where they name a field
abbrev pub Written : Result PlainSaid ReadKind → Type 0
Written (Ok said) = IsWrittenBy said.word said.operands
Written (Err kind) = Unit {0}

then_written : {A : Type 0} (r : Result A ReadKind) (f : A → Result PlainSaid ReadKind) → ((x : A) → Written (f x)) → Written (r >>= f)
then_written (Ok x) f h = h x
then_written (Err kind) f h = tt

constant_written : (word : Lexeme) → Written (constant_of word)
constant_written (lexeme.Number n) = tt
constant_written (lexeme.Text text) = tt
constant_written (lexeme.Word bytes) = tt

array_written : (word : List ℕ) (b : Bool) (x : _) → Written (Ok (if b then with_one word x else alone word))
array_written word true (operand.Number n) = tt
array_written word true (operand.Text n) = tt
array_written word true (operand.Word n) = tt
array_written word false x = tt

said_written : (word : List ℕ) (words : List Lexeme) (m : Mnemonic) → mnemonic_of word ≡ Some m → Written (said_by word words m)
unfolding constant push local increment jump field call class
said_written word words mnemonic.Alone e = then_written (none words) _ (λ u. tt)
said_written word words (mnemonic.PushOf n) e = then_written (none words) _ (λ u. tt)
said_written word words (mnemonic.Push low high) e = then_written (one words) _ (λ w. then_written (number_of low high w) _ (λ n. tt))
said_written word words mnemonic.Constant e = then_written (one words) constant_of constant_written
said_written word words (mnemonic.Local a) e = then_written (one words) _ (λ w. then_written (number_of (pos 0) (pos 255) w) _ (λ n. tt))
said_written word words (mnemonic.LocalOf a n) e = then_written (none words) _ (λ u. tt)
said_written word words mnemonic.Increment e = then_written (two words) _ (λ pair. then_written (number_of (pos 0) (pos 255) pair.0) _ (λ n. then_written (number_of (negsuc 127) (pos 127) pair.1) _ (λ by. tt)))
said_written word words mnemonic.Jump e = then_written (one words) _ (λ w. then_written (name_of w) _ (λ label. tt))
said_written word words mnemonic.Field e =
    then_written (two words) _ (λ pair. then_written (word_of pair.0) _ (λ member. then_written (word_of pair.1) _ (λ desc. then_written (is_member is_name member) _ (λ good. then_written (named good member) _ (λ name. field_word word e)))))
said_written word words mnemonic.Call e =
    then_written (one words) _ (λ w. then_written (word_of w) _ (λ bytes. then_written (described bytes) _ (λ parts. then_written (is_member is_method_name parts.0) _ (λ good. then_written (named good bytes) _ (λ name. tt)))))
said_written word words mnemonic.Class e = then_written (one words) _ (λ w. then_written (class_name_of w) _ (λ name. tt))
said_written word words mnemonic.Array e = array_written word (is_int words) _
said_written word words mnemonic.Outside e = tt

-- a line's instruction
pub instruction_written : (words : List Lexeme) → Written (instruction words)
instruction_written [] = tt
instruction_written (lexeme.Number n ∷ words) = tt
instruction_written (lexeme.Text text ∷ words) = tt
instruction_written (lexeme.Word bytes ∷ words) = by (mnemonic_of bytes) refl
  where
    found : Option Mnemonic → Option (List ℕ × Mnemonic)
    found o = elim o [ Some m ↦ Some (bytes, m) | None ↦ None ]

    by : (o : Option Mnemonic) → mnemonic_of bytes ≡ o → Written (or_fault BadMnemonic (found o) >>= λ m. said_by m.0 words m.1)
    by (Some m) is = said_written bytes words m is
    by None is = tt
