-- The canonical text of classes: one item a line, single spaces, each line ended by a line feed.
use Rattle.std.specs.Prelude.{ℕ, ◌==◌, if◌then◌else◌, List, [], ◌∷◌, ◌++◌, length, codes, decimal, ℤ, Option, Some, None}
use Rattle.std.specs.Fmt.{signed_decimal}
use Rattle.std.specs.List.{flat_map}
use Rattle.jasmin_lines.specs.declared.class_text.Operand.{Operand}
use Rattle.jasmin_lines.specs.declared.class_text.Operand.TheVariants as operand
use Rattle.jasmin_lines.specs.declared.class_text.NameAt.{NameAt}
use Rattle.jasmin_lines.specs.declared.class_text.CatchText.{CatchText}
use Rattle.jasmin_lines.specs.Plain.{PlainLineText, PlainFieldText, PlainMethodText, PlainClassText}

-- a byte of a text between quotes
abbrev pub quoted_byte : ℕ → List ℕ
quoted_byte b =
    if b == 10 then 92 ∷ 110 ∷ [] else
    if b == 9 then 92 ∷ 116 ∷ [] else
    if b == 13 then 92 ∷ 114 ∷ [] else
    if b == 34 then 92 ∷ 34 ∷ [] else
    if b == 92 then 92 ∷ 92 ∷ [] else b ∷ []

abbrev pub quoted : List ℕ → List ℕ
quoted text = (34 ∷ []) ++ flat_map quoted_byte text ++ (34 ∷ [])

abbrev pub operand_text : Operand → List ℕ
operand_text (operand.Number n) = signed_decimal n
operand_text (operand.Word word) = word
operand_text (operand.Text text) = quoted text

-- words with a space before or after each
abbrev pub spaced_operand : Operand → List ℕ
spaced_operand x = codes " " ++ operand_text x

abbrev pub spaced_word : List ℕ → List ℕ
spaced_word word = codes " " ++ word

-- ---- lines

abbrev pub label_line : List ℕ → List ℕ
label_line label = label ++ 58 ∷ 10 ∷ []

abbrev pub code_lines : PlainLineText → List ℕ
code_lines l = flat_map label_line l.labels ++ l.word ++ flat_map spaced_operand l.operands ++ (10 ∷ [])

abbrev pub catch_line : CatchText → List ℕ
catch_line c = codes ".catch " ++ c.class ++ codes " from " ++ c.from ++ codes " to " ++ c.to ++ codes " using " ++ c.using ++ (10 ∷ [])

abbrev pub limit_line : List ℕ → Option ℕ → List ℕ
limit_line directive None = []
limit_line directive (Some n) = directive ++ decimal n ++ (10 ∷ [])

-- the first words of a line, its flags, and a space
unfoldable pub begun : List ℕ → List (List ℕ) → List ℕ
begun directive flags = directive ++ flat_map spaced_word flags ++ codes " "

unfoldable pub method_head : PlainMethodText → List ℕ
method_head m = begun (codes ".method") m.flags ++ m.name ++ m.desc ++ (10 ∷ [])

unfoldable pub method_limits : PlainMethodText → List ℕ
method_limits m = limit_line (codes ".limit stack ") m.stack ++ limit_line (codes ".limit locals ") m.locals

unfoldable pub method_body : PlainMethodText → List ℕ
method_body m = flat_map code_lines m.lines ++ flat_map label_line m.end_labels ++ flat_map catch_line m.catches

unfoldable pub method_lines : PlainMethodText → List ℕ
method_lines m = method_head m ++ method_limits m ++ method_body m ++ codes ".end method" ++ (10 ∷ [])

abbrev pub value_text : Option ℤ → List ℕ
value_text None = []
value_text (Some n) = codes " = " ++ signed_decimal n

unfoldable pub field_line : PlainFieldText → List ℕ
field_line f = begun (codes ".field") f.flags ++ f.name ++ codes " " ++ f.desc ++ value_text f.value ++ (10 ∷ [])

-- a directive, a name, and the line's end
unfoldable pub name_line : List ℕ → List ℕ → List ℕ
name_line directive name = directive ++ name ++ (10 ∷ [])

abbrev pub implements_line : NameAt → List ℕ
implements_line n = name_line (codes ".implements ") n.name

unfoldable pub members : PlainClassText → List ℕ
members c = flat_map implements_line c.implements ++ flat_map field_line c.fields ++ flat_map method_lines c.methods

unfoldable pub class_lines : PlainClassText → List ℕ
class_lines c = begun (codes ".class") c.flags ++ c.name ++ (10 ∷ []) ++ name_line (codes ".super ") c.super_name ++ members c

-- a class without a name stands for an interface
abbrev pub class_text : PlainClassText → List ℕ
class_text c = if length c.name == 0 then codes ".interface" ++ (10 ∷ []) else class_lines c

unfoldable pub canonical : List PlainClassText → List ℕ
canonical classes = flat_map class_text classes
