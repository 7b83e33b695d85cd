-- The fields and the lines of classes that are read are written as they should be.
use Rattle.std.proofs.Common.{◌≡◌, ℕ, true, List, [], ◌∷◌, Result, Ok, Err, subst}
use Rattle.std.specs.List.{AllByRecursion}
use Rattle.vm_model.specs.Failures.{◌>>=◌}
use Rattle.jasmin_text.specs.declared.token.Token.{Token}
use Rattle.jasmin_reader.specs.declared.fault.Refusal.{Refusal}
use Rattle.jasmin_lines.specs.declared.form.Form.{Form}
use Rattle.jasmin_lines.specs.declared.form.Form.TheVariants as form
use Rattle.jasmin_reader.specs.Assembly.{PlainParts, no_parts, labelled_lines, with_form, parts_of, classes_of}
use Rattle.jasmin_reader.specs.Grammar.{nothing_begun}
use Rattle.jasmin_lines.specs.Lexemes.{lines_after}
use Rattle.jasmin_lines.specs.Plain.{PlainClassText, PlainFieldText, PlainLineText, PlainMethodText}
use Rattle.jasmin_reader.specs.Reading.{forms_after, last_line, reading}
use Rattle.jasmin_lines.specs.Words.{is_name}
use Rattle.linking_laws.specs.Named.{IsWrittenLine, AreWritten}
use Rattle.linking_laws.proofs.ReadNames.{GoodForm, GoodForms, forms_good}

-- fields and lines so far
record WrittenParts (p : PlainParts) : Type 0 where
  lines : AllByRecursion IsWrittenLine p.body.lines
  fields : AllByRecursion (λ (f : PlainFieldText). is_name f.name ≡ true) p.members.fields
  methods : AllByRecursion (λ (m : PlainMethodText). AllByRecursion IsWrittenLine m.lines) p.members.methods
  classes : AreWritten p.classes

-- a label leaves a line's words
labels_leave : (label : List ℕ) (ls : List PlainLineText) → AllByRecursion IsWrittenLine ls → AllByRecursion IsWrittenLine (labelled_lines label ls)
labels_leave label [] all = tt
labels_leave label (l ∷ ls) all = (all.0, all.1)

-- a line more leaves it so
form_adds : (f : Form) (p : PlainParts) → GoodForm f → WrittenParts p → WrittenParts (with_form f p)
form_adds form.Skipped p h all = all
form_adds form.Ignored p h all = all
form_adds form.End p h all = all
form_adds (form.Interface line) p h all = record { lines = all.lines; fields = all.fields; methods = all.methods; classes = (record { fields = tt; lines = tt }, all.classes) }
form_adds (form.Class c) p h all = record { lines = tt; fields = tt; methods = tt; classes = (record { fields = all.fields; lines = all.methods }, all.classes) }
form_adds (form.Super n) p h all = record { lines = all.lines; fields = all.fields; methods = all.methods; classes = all.classes }
form_adds (form.Implements n) p h all = record { lines = all.lines; fields = all.fields; methods = all.methods; classes = all.classes }
form_adds (form.Field f) p h all = record { lines = all.lines; fields = (h, all.fields); methods = all.methods; classes = all.classes }
form_adds (form.Method m) p h all = record { lines = tt; fields = all.fields; methods = (all.lines, all.methods); classes = all.classes }
form_adds (form.StackLimit n) p h all = record { lines = all.lines; fields = all.fields; methods = all.methods; classes = all.classes }
form_adds (form.LocalsLimit n) p h all = record { lines = all.lines; fields = all.fields; methods = all.methods; classes = all.classes }
form_adds (form.Catch c) p h all = record { lines = all.lines; fields = all.fields; methods = all.methods; classes = all.classes }
form_adds (form.Label label) p h all = record { lines = labels_leave label p.body.lines all.lines; fields = all.fields; methods = all.methods; classes = all.classes }
form_adds (form.Code l) p h all = record { lines = (h, all.lines); fields = all.fields; methods = all.methods; classes = all.classes }

-- all lines together
parts_written : (fs : List Form) → AllByRecursion GoodForm fs → WrittenParts (parts_of fs no_parts)
unfolding parts_of
parts_written [] all = record { lines = tt; fields = tt; methods = tt; classes = tt }
parts_written (f ∷ fs) all = form_adds f (parts_of fs no_parts) all.0 (parts_written fs all.1)

-- the classes of these lines
classes_written : (r : Result (List Form) Refusal) (classes : List PlainClassText) → GoodForms r → (r >>= λ fs. Ok (classes_of fs)) ≡ Ok classes → AreWritten classes
classes_written (Err f) classes h e = absurd (refused f classes e)
  where
    refused : {A : Type 0} (x : Refusal) (y : A) → Err x ≡ Ok y → ⊥
    refused x y k = cc
classes_written (Ok fs) classes h e = subst AreWritten (same_ok (classes_of fs) classes e) (parts_written fs h).classes
  where
    done : List PlainClassText → Result (List PlainClassText) Refusal
    done x = Ok x

    same_ok : (x y : List PlainClassText) → done x ≡ done y → x ≡ y
    same_ok x y k = cc

-- the classes of a text that is read
pub read_are_written : (text : List ℕ) (tokens : List Token) (classes : List PlainClassText) → reading text tokens ≡ Ok classes → AreWritten classes
unfolding reading
read_are_written text tokens classes e =
    classes_written (forms_after (last_line tokens) nothing_begun (lines_after text [] tokens)) classes (forms_good (last_line tokens) nothing_begun (lines_after text [] tokens)) e
