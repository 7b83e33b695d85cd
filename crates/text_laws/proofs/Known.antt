-- The flags that the grammar knows can be spelled.
use Rattle.std.proofs.Common.{◌≡◌, ℕ, List, [], ◌∷◌, Ok, refl, map}
use Rattle.std.specs.Prelude.{codes}
use Rattle.std.specs.List.{AllByRecursion}
use Rattle.jasmin_lines.specs.declared.lexeme.Lexeme.{Lexeme}
use Rattle.jasmin_lines.specs.Directives.{class_flags, field_flags, method_flags}
use Rattle.text_laws.specs.Spelled.{IsSpellable}
use Rattle.text_laws.proofs.CanonicalForms.{word}
use Rattle.text_laws.proofs.Names.{good-words}
use Rattle.text_laws.proofs.Flags.{flags-again, flags-spellable}

abbrev class_known : List (List ℕ)
class_known = codes "public" ∷ codes "final" ∷ codes "super" ∷ codes "abstract" ∷ codes "interface" ∷ codes "native" ∷ []

abbrev field_known : List (List ℕ)
field_known = codes "public" ∷ codes "private" ∷ codes "protected" ∷ codes "static" ∷ codes "final" ∷ codes "volatile" ∷ codes "transient" ∷ codes "abstract" ∷ codes "interface" ∷ codes "native" ∷ []

abbrev method_known : List (List ℕ)
method_known = codes "public" ∷ codes "private" ∷ codes "protected" ∷ codes "static" ∷ codes "final" ∷ codes "synchronized" ∷ codes "abstract" ∷ codes "interface" ∷ codes "native" ∷ []

pub class-flags-again : (flags : List (List ℕ)) (words : List Lexeme) → class_flags words ≡ Ok flags → class_flags (map word flags) ≡ Ok flags
class-flags-again flags words e = flags-again class_known flags words e

pub field-flags-again : (flags : List (List ℕ)) (words : List Lexeme) → field_flags words ≡ Ok flags → field_flags (map word flags) ≡ Ok flags
field-flags-again flags words e = flags-again field_known flags words e

pub method-flags-again : (flags : List (List ℕ)) (words : List Lexeme) → method_flags words ≡ Ok flags → method_flags (map word flags) ≡ Ok flags
method-flags-again flags words e = flags-again method_known flags words e

pub class-flags-fit : (flags : List (List ℕ)) (words : List Lexeme) → class_flags words ≡ Ok flags → AllByRecursion IsSpellable (map word flags)
class-flags-fit flags words e = flags-spellable class_known flags words (good-words class_known refl) e

pub field-flags-fit : (flags : List (List ℕ)) (words : List Lexeme) → field_flags words ≡ Ok flags → AllByRecursion IsSpellable (map word flags)
field-flags-fit flags words e = flags-spellable field_known flags words (good-words field_known refl) e

pub method-flags-fit : (flags : List (List ℕ)) (words : List Lexeme) → method_flags words ≡ Ok flags → AllByRecursion IsSpellable (map word flags)
method-flags-fit flags words e = flags-spellable method_known flags words (good-words method_known refl) e
