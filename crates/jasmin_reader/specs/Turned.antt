-- Instructions whose last one came first, and so did the last label of each, in their own order.
use Rattle.std.specs.Prelude.{List, map, reverse}
use Rattle.jasmin_lines.specs.Plain.{PlainLineText}

abbrev pub turned_line : PlainLineText → PlainLineText
turned_line l = record { line = l.line; labels = reverse l.labels; word = l.word; operands = l.operands }

abbrev pub turned_lines : List PlainLineText → List PlainLineText
turned_lines lines = map turned_line (reverse lines)
