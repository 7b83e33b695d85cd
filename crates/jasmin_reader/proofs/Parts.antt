-- Forms that are added from the last one to the first.
use Rattle.std.proofs.Common.{◌≡◌, List, [], ◌∷◌, ◌++◌, refl, ap}
use Rattle.jasmin_lines.specs.declared.form.Form.{Form}
use Rattle.jasmin_reader.specs.Assembly.{PlainParts, parts_of, with_form}

pub parts-last : (forms : List Form) (f : Form) (p : PlainParts) → parts_of (forms ++ f ∷ []) p ≡ parts_of forms (with_form f p)
unfolding parts_of
parts-last [] f p = refl
parts-last (g ∷ forms) f p = ap (with_form g) (parts-last forms f p)
