-- Which instructions that are read are out of the profile.
use Rattle.std.proofs.Common.{◌≡◌, ℕ, Bool, true, false, List, [], ◌∷◌, Option, Some, None, Result, Ok, Err, refl, subst}
use Rattle.std.specs.Prelude.{pos, negsuc, if◌then◌else◌, codes}
use Rattle.vm_model.specs.Failures.{◌>>=◌, or_fault}
use Rattle.jasmin_lines.specs.declared.class_text.Operand.TheVariants as operand
use Rattle.jasmin_lines.specs.declared.fault.ReadKind.{ReadKind}
use Rattle.jasmin_lines.specs.declared.fault.ReadKind.TheVariants.{BadMnemonic}
use Rattle.jasmin_lines.specs.declared.lexeme.Lexeme.{Lexeme}
use Rattle.jasmin_lines.specs.declared.lexeme.Lexeme.TheVariants as lexeme
use Rattle.jasmin_lines.specs.declared.mnemonic.Mnemonic.{Mnemonic}
use Rattle.jasmin_lines.specs.declared.mnemonic.Mnemonic.TheVariants as mnemonic
use Rattle.jasmin_lines.specs.Mnemonics.{mnemonic_of}
use Rattle.jasmin_lines.specs.Plain.{PlainClassText}
use Rattle.jasmin_lines.specs.Said.{PlainSaid}
use Rattle.jasmin_lines.specs.Instructions.{constant_of, constant, push, local, increment, jump, field, call, class, is_int, said_by, instruction, alone, with_one}
use Rattle.jasmin_lines.specs.Words.{none, one, two, word_of, number_of, name_of, class_name_of, named, is_name, is_method_name, is_member, described}
use Rattle.name_resolver.specs.declared.names.Names.{Names}
use Rattle.name_resolver.specs.Index.{Rows}
use Rattle.name_resolver.specs.Names.{names_of}
use Rattle.linking_laws.specs.Outside.{IsKnownText}
use Rattle.linking_laws.proofs.OutOfProfile.{Says, AreUsers, alone_says, outside_says, push_says, local_says, increment_says, text_says, call_says, jump_says, ints_say, others_say, field_says, new_says}
use Rattle.linking_laws.proofs.There.{names_within}

-- where what is said is out of the profile
abbrev SaidSo : Names → ℕ → Rows → Rows → Result PlainSaid ReadKind → Type 0
SaidSo names run texts labels (Ok said) = IsKnownText texts said.operands → Says names run texts labels said.word said.operands
SaidSo names run texts labels (Err kind) = Unit {0}

then_said : {A : Type 0} (names : Names) (run : ℕ) (texts labels : Rows) (r : Result A ReadKind) (f : A → Result PlainSaid ReadKind) → ((x : A) → SaidSo names run texts labels (f x)) → SaidSo names run texts labels (r >>= f)
then_said names run texts labels (Ok x) f h = h x
then_said names run texts labels (Err kind) f h = tt

constant_so : (names : Names) (run : ℕ) (texts labels : Rows) (word : Lexeme) → SaidSo names run texts labels (constant_of word)
constant_so names run texts labels (lexeme.Number n) = λ known. push_says names run texts labels n
constant_so names run texts labels (lexeme.Text text) = λ known. text_says names run texts labels (codes "ldc") text known
constant_so names run texts labels (lexeme.Word bytes) = tt

array_so : (names : Names) (run : ℕ) (texts labels : Rows) (word : List ℕ) (b : Bool) → mnemonic_of word ≡ Some mnemonic.Array → SaidSo names run texts labels (Ok (if b then with_one word (operand.Word (codes "int")) else alone word))
array_so names run texts labels word true e = λ known. ints_say names run texts labels word e
array_so names run texts labels word false e = λ known. others_say names run texts labels word e

said_so : (names : Names) (run : ℕ) (texts labels : Rows) (word : List ℕ) (words : List Lexeme) (m : Mnemonic) → AreUsers names.classes → mnemonic_of word ≡ Some m → SaidSo names run texts labels (said_by word words m)
unfolding constant push local increment jump field call class
said_so names run texts labels word words mnemonic.Alone users e = then_said names run texts labels (none words) _ (λ u known. alone_says names run texts labels word e)
said_so names run texts labels word words (mnemonic.PushOf n) users e = then_said names run texts labels (none words) _ (λ u known. push_says names run texts labels n)
said_so names run texts labels word words (mnemonic.Push low high) users e =
    then_said names run texts labels (one words) _ (λ w. then_said names run texts labels (number_of low high w) _ (λ n known. push_says names run texts labels n))
said_so names run texts labels word words mnemonic.Constant users e = then_said names run texts labels (one words) constant_of (constant_so names run texts labels)
said_so names run texts labels word words (mnemonic.Local a) users e =
    then_said names run texts labels (one words) _ (λ w. then_said names run texts labels (number_of (pos 0) (pos 255) w) _ (λ n known. local_says names run texts labels a n))
said_so names run texts labels word words (mnemonic.LocalOf a n) users e = then_said names run texts labels (none words) _ (λ u known. local_says names run texts labels a n)
said_so names run texts labels word words mnemonic.Increment users e =
    then_said names run texts labels (two words) _ (λ pair. then_said names run texts labels (number_of (pos 0) (pos 255) pair.0) _ (λ n. then_said names run texts labels (number_of (negsuc 127) (pos 127) pair.1) _ (λ by known. increment_says names run texts labels (codes "iinc") n by)))
said_so names run texts labels word words mnemonic.Jump users e = then_said names run texts labels (one words) _ (λ w. then_said names run texts labels (name_of w) _ (λ label known. jump_says names run texts labels word label e))
said_so names run texts labels word words mnemonic.Field users e =
    then_said names run texts labels (two words) _ (λ pair. then_said names run texts labels (word_of pair.0) _ (λ member. then_said names run texts labels (word_of pair.1) _ (λ desc. then_said names run texts labels (is_member is_name member) _ (λ good.
    then_said names run texts labels (named good member) _ (λ name known. field_says names run texts labels word name desc)))))
said_so names run texts labels word words mnemonic.Call users e =
    then_said names run texts labels (one words) _ (λ w. then_said names run texts labels (word_of w) _ (λ bytes. then_said names run texts labels (described bytes) _ (λ parts. then_said names run texts labels (is_member is_method_name parts.0) _ (λ good.
    then_said names run texts labels (named good bytes) _ (λ name known. call_says names run texts labels word name e)))))
said_so names run texts labels word words mnemonic.Class users e = then_said names run texts labels (one words) _ (λ w. then_said names run texts labels (class_name_of w) _ (λ name known. new_says names run texts labels word name users e))
said_so names run texts labels word words mnemonic.Array users e = array_so names run texts labels word (is_int words) e
said_so names run texts labels word words mnemonic.Outside users e = λ known. outside_says names run texts labels word e

-- an instruction, by its mnemonic
instruction_so : (names : Names) (run : ℕ) (texts labels : Rows) (words : List Lexeme) → AreUsers names.classes → SaidSo names run texts labels (instruction words)
instruction_so names run texts labels [] users = tt
instruction_so names run texts labels (lexeme.Number n ∷ words) users = tt
instruction_so names run texts labels (lexeme.Text text ∷ words) users = tt
instruction_so names run texts labels (lexeme.Word bytes ∷ words) users = by (mnemonic_of bytes) refl
  where
    found : Option Mnemonic → Option (List ℕ × Mnemonic)
    found o = elim o [ Some m ↦ Some (bytes, m) | None ↦ None ]

    by : (o : Option Mnemonic) → mnemonic_of bytes ≡ o → SaidSo names run texts labels (or_fault BadMnemonic (found o) >>= λ m. said_by m.0 words m.1)
    by (Some m) is = said_so names run texts labels bytes words m users is
    by None is = tt

-- the classes of a text have numbers from 32 on
pub read_outside : (classes : List PlainClassText) (words : List Lexeme) (said : PlainSaid) (run : ℕ) (texts labels : Rows) → instruction words ≡ Ok said → IsKnownText texts said.operands → Says (names_of classes).1 run texts labels said.word said.operands
read_outside classes words said run texts labels e known = subst (SaidSo (names_of classes).1 run texts labels) e (instruction_so (names_of classes).1 run texts labels words (λ key n found. (names_within classes key n found).0)) known
