-- A text that reads as given lines of words, or as given classes in all but the numbers of lines.
use Rattle.std.specs.Prelude.{◌≡◌, ℕ, List, [], map, Ok}
use Rattle.jasmin_text.specs.declared.token.Token.{Token}
use Rattle.jasmin_text.specs.Texts.{tokens_of}
use Rattle.jasmin_lines.specs.declared.class_text.NameAt.{NameAt}
use Rattle.jasmin_lines.specs.declared.class_text.CatchText.{CatchText}
use Rattle.jasmin_lines.specs.declared.lexeme.Lexeme.{Lexeme}
use Rattle.jasmin_lines.specs.Lexemes.{lines_after}
use Rattle.jasmin_lines.specs.Plain.{PlainLineText, PlainFieldText, PlainMethodText, PlainClassText}
use Rattle.jasmin_reader.specs.Reading.{reading}
use Rattle.text_laws.specs.Spelled.{numbered}

-- ---- lines

-- a text has these lines of words, numbered from 1 on
abbrev pub HasLines : List ℕ → List (List Lexeme) → Type 0
HasLines bytes lines = (tokens : List Token) × (tokens_of bytes ≡ Ok tokens) × (lines_after bytes [] tokens ≡ numbered 1 lines)

-- ---- each item as if it stood on line 0

abbrev pub name_without_line : NameAt → NameAt
name_without_line n = record { line = 0; name = n.name }

abbrev pub catch_without_line : CatchText → CatchText
catch_without_line c = record { line = 0; class = c.class; from = c.from; to = c.to; «using» = c.using }

abbrev pub code_without_line : PlainLineText → PlainLineText
code_without_line l = record { line = 0; labels = l.labels; word = l.word; operands = l.operands }

abbrev pub field_without_line : PlainFieldText → PlainFieldText
field_without_line f = record { line = 0; flags = f.flags; name = f.name; desc = f.desc; value = f.value }

abbrev pub method_without_lines : PlainMethodText → PlainMethodText
method_without_lines m = record {
  line = 0;
  flags = m.flags;
  name = m.name;
  desc = m.desc;
  stack = m.stack;
  locals = m.locals;
  lines = map code_without_line m.lines;
  end_labels = m.end_labels;
  catches = map catch_without_line m.catches;
}

abbrev pub without_lines : PlainClassText → PlainClassText
without_lines c = record {
  line = 0;
  flags = c.flags;
  name = c.name;
  super_line = 0;
  super_name = c.super_name;
  implements = map name_without_line c.implements;
  fields = map field_without_line c.fields;
  methods = map method_without_lines c.methods;
}

-- ---- classes

abbrev pub AreAlike : List PlainClassText → List PlainClassText → Type 0
AreAlike classes others = map without_lines classes ≡ map without_lines others

abbrev pub ReadsAlike : List ℕ → List PlainClassText → Type 0
ReadsAlike bytes classes = (tokens : List Token) × (others : List PlainClassText) × (tokens_of bytes ≡ Ok tokens) × (reading bytes tokens ≡ Ok others) × AreAlike others classes
