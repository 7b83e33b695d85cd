-- The labels that stand in a line, and whether they are new.
use Rattle.std.specs.Prelude.{ℕ, Bool, true, not, ◌&&◌, List, [], ◌∷◌, ◌++◌, bytes_eq}
use Rattle.std.specs.List.{list_any}
use Rattle.jasmin_lines.specs.declared.form.Form.{Form}
use Rattle.jasmin_lines.specs.declared.form.Form.TheVariants as form

abbrev pub labels_in : Form → List (List ℕ)
labels_in (form.Label label) = label ∷ []
labels_in (form.Code l) = l.labels
labels_in _ = []

-- none of the labels stands among those before it
abbrev pub are_new : List (List ℕ) → List (List ℕ) → Bool
are_new before [] = true
are_new before (label ∷ labels) = not (list_any (bytes_eq label) before) && are_new (before ++ label ∷ []) labels
