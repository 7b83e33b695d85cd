-- What is printed of a linked program.
use Rattle.std.specs.Prelude.{ℕ, ◌+◌, ◌-◌, List, [], ◌∷◌, ◌++◌, length, take, codes, decimal}
use Rattle.vm_model.specs.Program.{PlainMethod, PlainProgram}

-- how many instructions methods have
abbrev pub instructions_of : List PlainMethod → ℕ
instructions_of [] = 0
instructions_of (m ∷ ms) = length m.code + instructions_of ms

-- the methods of the text: after them stands Thread's own
abbrev pub text_methods : List PlainMethod → List PlainMethod
text_methods methods = take (length methods - 1) methods

unfoldable pub count_line : List ℕ → ℕ → List ℕ
count_line word n = word ++ decimal n ++ 10 ∷ []

-- its classes, methods and instructions
unfoldable pub check_text : PlainProgram → List ℕ
check_text p =
    count_line (codes "classes ") (length p.classes) ++ count_line (codes "methods ") (length (text_methods p.methods))
    ++ count_line (codes "instructions ") (instructions_of (text_methods p.methods))
