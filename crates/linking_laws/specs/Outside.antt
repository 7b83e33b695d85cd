-- Which lines are out of the profile.
use Rattle.std.specs.Prelude.{◌≡◌, ℕ, Bool, true, false, is_some, ◌&&◌, List, [], ◌∷◌, codes, bytes_eq}
use Rattle.jasmin_lines.specs.declared.class_text.Operand.{Operand}
use Rattle.jasmin_lines.specs.declared.class_text.Operand.TheVariants as operand
use Rattle.jasmin_lines.specs.Mnemonics.{out_of_profile}
use Rattle.name_resolver.specs.Index.{Rows, value_of}
use Rattle.linking_laws.specs.Declared.{is_among}

-- the classes of which no object is made
abbrev pub without_objects : List (List ℕ)
without_objects =
    codes "java/lang/Runnable" ∷ codes "java/lang/String" ∷ codes "java/io/PrintStream" ∷ codes "java/lang/VirtualMachineError" ∷ []

-- the mnemonics that are no part of the language, `newarray` of anything but ints, which keeps no operand, and `new` of a
-- class without objects
abbrev pub is_out_of_profile : List ℕ → List Operand → Bool
is_out_of_profile word [] = is_among word (codes "newarray" ∷ out_of_profile)
is_out_of_profile word (operand.Word x ∷ []) = bytes_eq word (codes "new") && is_among x without_objects
is_out_of_profile word _ = false

-- a text constant of the line has a number
abbrev pub IsKnownText : Rows → List Operand → Type 0
IsKnownText texts (operand.Text text ∷ []) = is_some (value_of text texts) ≡ true
IsKnownText texts _ = Unit {0}
