-- The one line that a refusal prints.
use Rattle.std.specs.Prelude.{ℕ, List, [], ◌∷◌, ◌++◌, Option, Some, None, codes, decimal}
use Rattle.vm_model.specs.Program.{PlainProgram}
use Rattle.vm_model.specs.declared.ends.End.{End}
use Rattle.report_writer.specs.Names.{method_name}
use Rattle.report_writer.specs.Texts.{end_text}

abbrev pub named : List ℕ → List ℕ → List ℕ
named word name = word ++ name ++ 10 ∷ []

abbrev pub usage_line : List ℕ
usage_line = codes "usage\n"

abbrev pub absent_line : List ℕ → List ℕ
absent_line name = named (codes "absent ") name

abbrev pub read_fault_line : List ℕ → List ℕ
read_fault_line name = named (codes "read fault ") name

-- the number of a fault, and its line
abbrev pub fault_at : List ℕ → ℕ → ℕ → List ℕ
fault_at word kind line = word ++ decimal kind ++ codes " line " ++ decimal line

abbrev pub text_line : ℕ → ℕ → ℕ → List ℕ
text_line kind line column = fault_at (codes "program refused: text ") kind line ++ codes " column " ++ decimal column ++ 10 ∷ []

abbrev pub read_line : ℕ → ℕ → List ℕ
read_line kind line = fault_at (codes "program refused: read ") kind line ++ 10 ∷ []

abbrev pub link_line : ℕ → ℕ → List ℕ
link_line kind line = fault_at (codes "program refused: link ") kind line ++ 10 ∷ []

-- the number of a fault of shapes, the method, and the number of the instruction there
abbrev pub shape_line : PlainProgram → ℕ → ℕ → ℕ → List ℕ
shape_line p kind method at =
    codes "program refused: shape " ++ decimal kind ++ codes " in " ++ method_name p method ++ codes " at " ++ decimal at ++ 10 ∷ []

-- the number of the fault and the offset of its byte
abbrev pub log_refused_line : ℕ → ℕ → List ℕ
log_refused_line kind offset = codes "log refused: " ++ decimal kind ++ codes " at " ++ decimal offset ++ 10 ∷ []

-- the number of the fault and the offset of its byte
abbrev pub schedule_refused_line : ℕ → ℕ → List ℕ
schedule_refused_line kind offset = codes "schedule refused: " ++ decimal kind ++ codes " at " ++ decimal offset ++ 10 ∷ []

-- a schedule would need too many times from this clock on
abbrev pub too_many_line : ℕ → List ℕ
too_many_line clock = codes "schedule refused: 2 at clock " ++ decimal clock ++ 10 ∷ []

abbrev pub not_passing_line : PlainProgram → End → List ℕ
not_passing_line p e = codes "not passing: " ++ end_text p e

abbrev pub not_failing_line : PlainProgram → End → List ℕ
not_failing_line p e = codes "not failing: " ++ end_text p e

abbrev pub tests_spent_line : ℕ → List ℕ
tests_spent_line asked = codes "tests spent " ++ decimal asked ++ 10 ∷ []

abbrev pub not_found_line : ℕ → List ℕ
not_found_line tries = codes "not found in " ++ decimal tries ++ codes " tries" ++ 10 ∷ []

abbrev pub at_thread : Option ℕ → List ℕ
at_thread None = codes " at the end"
at_thread (Some thread) = codes " thread " ++ decimal thread

abbrev pub diverged_line : ℕ → Option ℕ → List ℕ
diverged_line clock thread = codes "diverged at " ++ decimal clock ++ at_thread thread ++ 10 ∷ []
