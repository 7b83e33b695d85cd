-- The lines that begin with a dot: one definition for each.
use Rattle.std.specs.Prelude.{ℕ, ◌-◌, ◌&&◌, ◌||◌, if◌then◌else◌, List, [], ◌∷◌, length, take, slice_get, codes, bytes_eq, ℤ, pos, unsigned_abs, Option, Some, None, Result, Ok, Err}
use Rattle.vm_model.specs.Failures.{◌>>=◌}
use Rattle.jasmin_lines.specs.declared.class_text.NameAt.{NameAt}
use Rattle.jasmin_lines.specs.declared.fault.ReadKind.{ReadKind}
use Rattle.jasmin_lines.specs.declared.fault.ReadKind.TheVariants.{BadDirective, BadOperand}
use Rattle.jasmin_lines.specs.declared.form.Form.{Form}
use Rattle.jasmin_lines.specs.declared.form.Form.TheVariants as form
use Rattle.jasmin_lines.specs.declared.lexeme.Lexeme.{Lexeme}
use Rattle.jasmin_lines.specs.declared.lexeme.Lexeme.TheVariants as lexeme
use Rattle.jasmin_lines.specs.Plain.{PlainClassText, PlainMethodText}
use Rattle.jasmin_lines.specs.Words.{one, two, word_of, number_of, is_word, named, is_name, is_class_name, is_method_name, name_of, class_name_of, described, flags_of}

-- ---- flags, in the order in which they are kept

abbrev pub class_flags : List Lexeme → Result (List (List ℕ)) ReadKind
class_flags words = flags_of (codes "public" ∷ codes "final" ∷ codes "super" ∷ codes "abstract" ∷ codes "interface" ∷ codes "native" ∷ []) words

abbrev pub field_flags : List Lexeme → Result (List (List ℕ)) ReadKind
field_flags words = flags_of (codes "public" ∷ codes "private" ∷ codes "protected" ∷ codes "static" ∷ codes "final" ∷ codes "volatile" ∷ codes "transient" ∷ codes "abstract" ∷ codes "interface" ∷ codes "native" ∷ []) words

abbrev pub method_flags : List Lexeme → Result (List (List ℕ)) ReadKind
method_flags words = flags_of (codes "public" ∷ codes "private" ∷ codes "protected" ∷ codes "static" ∷ codes "final" ∷ codes "synchronized" ∷ codes "abstract" ∷ codes "interface" ∷ codes "native" ∷ []) words

-- ---- lines of a class

-- the words before the last one, and the last one
abbrev pub with_last : List Lexeme → Option Lexeme → Result (List Lexeme × Lexeme) ReadKind
with_last front None = Err BadOperand
with_last front (Some last) = Ok (front, last)

abbrev pub split_last : List Lexeme → Result (List Lexeme × Lexeme) ReadKind
split_last words = with_last (take (length words - 1) words) (slice_get words (length words - 1))

-- `.source X` and `.bytecode X`
unfoldable pub source_form : List Lexeme → Result Form ReadKind
source_form words = one words >>= λ word. Ok form.Skipped

abbrev pub empty_class : ℕ → List (List ℕ) → List ℕ → PlainClassText
empty_class line flags name = record {
  line = line;
  flags = flags;
  name = name;
  super_line = 0;
  super_name = [];
  implements = [];
  fields = [];
  methods = [];
}

-- `.class {flag} NAME`
unfoldable pub class_form : ℕ → List Lexeme → Result Form ReadKind
class_form line words = do
  last ← split_last words
  flags ← class_flags last.0
  name ← class_name_of last.1
  Ok (form.Class (empty_class line flags name))

-- the name of a class, alone in its line
unfoldable pub name_at : ℕ → List Lexeme → Result NameAt ReadKind
name_at line words = do
  word ← one words
  name ← class_name_of word
  Ok (record { line = line; name = name })

-- an int that comes after an equals sign at the end, and what comes before that
abbrev pub after_sign : List Lexeme → ℤ → Result (List Lexeme × Lexeme) ReadKind → List Lexeme × Option ℤ
after_sign words n (Err kind) = (words, None)
after_sign words n (Ok last) = if is_word (codes "=") last.1 then (last.0, Some n) else (words, None)

abbrev pub valued_by : List Lexeme → Result (List Lexeme × Lexeme) ReadKind → List Lexeme × Option ℤ
valued_by words (Ok (front, lexeme.Number n)) = after_sign words n (split_last front)
valued_by words _ = (words, None)

abbrev pub valued : List Lexeme → List Lexeme × Option ℤ
valued words = valued_by words (split_last words)

-- `.field {flag} NAME DESC`
unfoldable pub field_of : ℕ → List Lexeme → Option ℤ → Result Form ReadKind
field_of line words value = do
  last ← split_last words
  before ← split_last last.0
  flags ← field_flags before.0
  desc ← word_of last.1
  name ← name_of before.1
  Ok (form.Field (record { line = line; flags = flags; name = name; desc = desc; value = value }))

-- the same with `= NUMBER` after it or not
abbrev pub field_form : ℕ → List Lexeme → Result Form ReadKind
field_form line words = field_of line (valued words).0 (valued words).1

abbrev pub empty_method : ℕ → List (List ℕ) → List ℕ → List ℕ → PlainMethodText
empty_method line flags name desc = record {
  line = line;
  flags = flags;
  name = name;
  desc = desc;
  stack = None;
  locals = None;
  lines = [];
  end_labels = [];
  catches = [];
}

-- `.method {flag} NAME(PARAMS)RET`
unfoldable pub method_form : ℕ → List Lexeme → Result Form ReadKind
method_form line words = do
  last ← split_last words
  flags ← method_flags last.0
  bytes ← word_of last.1
  parts ← described bytes
  name ← named (is_method_name parts.0) parts.0
  Ok (form.Method (empty_method line flags name parts.1))

-- ---- lines of a method

abbrev pub limit_of : Lexeme → ℤ → Result Form ReadKind
limit_of kind n =
    if is_word (codes "stack") kind then Ok (form.StackLimit (unsigned_abs n)) else
    if is_word (codes "locals") kind then Ok (form.LocalsLimit (unsigned_abs n)) else Err BadOperand

-- `.limit stack N` and `.limit locals N`
unfoldable pub limit_form : List Lexeme → Result Form ReadKind
limit_form words = do
  pair ← two words
  n ← number_of (pos 0) (pos 2147483647) pair.1
  limit_of pair.0 n

-- `.end method`
unfoldable pub end_form : List Lexeme → Result Form ReadKind
end_form words = one words >>= λ word. if is_word (codes "method") word then Ok form.End else Err BadOperand

unfoldable pub catch_of : ℕ → Lexeme → Lexeme → Lexeme → Lexeme → Result Form ReadKind
catch_of line class from to using = do
  c ← word_of class
  f ← word_of from
  t ← word_of to
  u ← word_of using
  good_class ← named (is_class_name c) c
  good_from ← named (is_name f) f
  good_to ← named (is_name t) t
  good_using ← named (is_name u) u
  Ok (form.Catch (record { line = line; class = good_class; from = good_from; to = good_to; using = good_using }))

-- `.catch NAME from L to L using L`
abbrev pub catch_form : ℕ → List Lexeme → Result Form ReadKind
catch_form line (class ∷ a ∷ from ∷ b ∷ to ∷ c ∷ using ∷ []) =
    if is_word (codes "from") a && is_word (codes "to") b && is_word (codes "using") c then catch_of line class from to using else Err BadOperand
catch_form line _ = Err BadOperand

-- ---- by the directive

abbrev pub class_directive : ℕ → List ℕ → List Lexeme → Result Form ReadKind
class_directive line first words =
    if bytes_eq first (codes ".class") then class_form line words else
    if bytes_eq first (codes ".super") then (name_at line words >>= λ x. Ok (form.Super x)) else
    if bytes_eq first (codes ".implements") then (name_at line words >>= λ x. Ok (form.Implements x)) else
    if bytes_eq first (codes ".field") then field_form line words else
    if bytes_eq first (codes ".method") then method_form line words else Err BadDirective

abbrev pub method_directive : ℕ → List ℕ → List Lexeme → Result Form ReadKind
method_directive line first words =
    if bytes_eq first (codes ".limit") then limit_form words else
    if bytes_eq first (codes ".line") || bytes_eq first (codes ".var") || bytes_eq first (codes ".throws") then Ok form.Ignored else
    if bytes_eq first (codes ".catch") then catch_form line words else
    if bytes_eq first (codes ".end") then end_form words else class_directive line first words

abbrev pub directive_form : ℕ → List ℕ → List Lexeme → Result Form ReadKind
directive_form line first words =
    if bytes_eq first (codes ".source") || bytes_eq first (codes ".bytecode") then source_form words else
    if bytes_eq first (codes ".interface") then Ok (form.Interface line) else method_directive line first words
