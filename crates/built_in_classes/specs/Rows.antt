-- The rows of the table in code as plain records.
use Rattle.std.specs.Prelude.{ℕ, List, map, Option}
use denote.Ref.{Bor}
use Rattle.built_in_classes.specs.declared.table.Constructors.{Constructors}
use Rattle.built_in_classes.specs.Classes.{BuiltInClass, class}

abbrev pub classes_of : List (Bor (List ℕ) × Option ℕ × Constructors) → List BuiltInClass
classes_of rows = map (λ row. class row.0.now row.1 row.2) rows

-- the columns of such a table
abbrev pub name_column : List (Bor (List ℕ) × Option ℕ × Constructors) → List (List ℕ)
name_column rows = map (λ row. row.0.now) rows

abbrev pub super_column : List (Bor (List ℕ) × Option ℕ × Constructors) → List (Option ℕ)
super_column rows = map (λ row. row.1) rows

abbrev pub constructor_column : List (Bor (List ℕ) × Option ℕ × Constructors) → List Constructors
constructor_column rows = map (λ row. row.2) rows
