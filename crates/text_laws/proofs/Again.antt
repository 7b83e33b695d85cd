-- A form that is read again from its own words.
use Rattle.std.specs.Prelude.{◌≡◌, ℕ, false, nat_eq, List, [], ◌∷◌, length, Ok}
use Rattle.std.specs.List.{AllByRecursion}
use Rattle.jasmin_lines.specs.declared.form.Form.{Form}
use Rattle.jasmin_lines.specs.declared.form.Form.TheVariants as form
use Rattle.jasmin_lines.specs.Directives.{empty_class, empty_method}
use Rattle.jasmin_lines.specs.Forms.{form_of}
use Rattle.text_laws.specs.Spelled.{IsSpellableLine}
use Rattle.text_laws.proofs.CanonicalForms.{words_of, unlabelled}

-- the same on another line
abbrev pub on_line : ℕ → Form → Form
on_line n form.Skipped = form.Skipped
on_line n form.Ignored = form.Ignored
on_line n form.End = form.End
on_line n (form.Interface line) = form.Interface n
on_line n (form.Class c) = form.Class (record {
  line = n;
  flags = c.flags;
  name = c.name;
  super_line = c.super_line;
  super_name = c.super_name;
  implements = c.implements;
  fields = c.fields;
  methods = c.methods;
})
on_line n (form.Super x) = form.Super (record { line = n; name = x.name })
on_line n (form.Implements x) = form.Implements (record { line = n; name = x.name })
on_line n (form.Field f) = form.Field (record { line = n; flags = f.flags; name = f.name; desc = f.desc; value = f.value })
on_line n (form.Method m) = form.Method (record {
  line = n;
  flags = m.flags;
  name = m.name;
  desc = m.desc;
  stack = m.stack;
  locals = m.locals;
  lines = m.lines;
  end_labels = m.end_labels;
  catches = m.catches;
})
on_line n (form.StackLimit k) = form.StackLimit k
on_line n (form.LocalsLimit k) = form.LocalsLimit k
on_line n (form.Catch c) = form.Catch (record { line = n; class = c.class; from = c.from; to = c.to; using = c.using })
on_line n (form.Label label) = form.Label label
on_line n (form.Code l) = form.Code (record { line = n; labels = l.labels; word = l.word; operands = l.operands })

-- its words can be spelled, and say it
pub record IsAgain (f : Form) : Type 0 where
  pub fit : IsSpellableLine (words_of f)
  pub read : (n : ℕ) → form_of n (words_of f) ≡ Ok (on_line n f)

-- a line has one label at most
abbrev pub IsOneAtMost : List (List ℕ) → Type 0
IsOneAtMost [] = Unit {0}
IsOneAtMost (x ∷ []) = Unit {0}
IsOneAtMost (x ∷ y ∷ xs) = ⊥

-- The parts of a form that was read are read again: its head, and each label on a line of its own.
abbrev pub AreAgain : Form → Type 0
AreAgain form.Skipped = Unit {0}
AreAgain form.Ignored = Unit {0}
AreAgain form.End = Unit {0}
AreAgain (form.Interface line) = Unit {0}
AreAgain (form.Class c) = IsAgain (form.Class (empty_class c.line c.flags c.name)) × (nat_eq (length c.name) 0 ≡ false)
AreAgain (form.Super x) = IsAgain (form.Super x)
AreAgain (form.Implements x) = IsAgain (form.Implements x)
AreAgain (form.Field f) = IsAgain (form.Field f)
AreAgain (form.Method m) = IsAgain (form.Method (empty_method m.line m.flags m.name m.desc))
AreAgain (form.StackLimit n) = IsAgain (form.StackLimit n)
AreAgain (form.LocalsLimit n) = IsAgain (form.LocalsLimit n)
AreAgain (form.Catch c) = IsAgain (form.Catch c)
AreAgain (form.Label label) = IsAgain (form.Label label)
AreAgain (form.Code l) = AllByRecursion (λ label. IsAgain (form.Label label)) l.labels × IsAgain (form.Code (unlabelled l)) × IsOneAtMost l.labels
