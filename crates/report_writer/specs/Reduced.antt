-- The printed text of a reduction.
use Rattle.std.specs.Prelude.{ℕ, List, ◌++◌, length, codes, decimal}
use Rattle.report_writer.specs.Texts.{counted, line_feed}

-- how many of how many times were kept, on a line
abbrev pub kept_line : ℕ → ℕ → List ℕ
kept_line kept given = codes "kept " ++ decimal kept ++ codes " of " ++ decimal given ++ line_feed

-- how many times are left of those that were given, and how many tests were made and unresolved
abbrev pub reduced_text : List ℕ → List ℕ → ℕ → ℕ → List ℕ
reduced_text given left asked unresolved =
    kept_line (length left) (length given) ++ counted (codes "asked") asked ++ counted (codes "unresolved") unresolved
