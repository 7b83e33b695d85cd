-- What is wrong with a line where it stands: one case for each rule. The lines before it are told by what each says, the
-- nearest first, and of those after it counts whether one ends a method.
use Rattle.std.specs.Prelude.{◌≡◌, ◌≢◌, ◌≤◌, ◌<◌, ◌⊎◌, ℕ, Bool, true, false, List, [], ◌∷◌, Contains, codes, bytes_eq}
use Rattle.std.specs.List.{AllByRecursion, list_any}
use Rattle.jasmin_text.specs.declared.token.Token.{Token}
use Rattle.jasmin_lines.specs.declared.fault.ReadKind.{ReadKind}
use Rattle.jasmin_lines.specs.declared.fault.ReadKind.TheVariants.{NoClass, OutsideMethod, InMethod, NoSuper, LabelTwice, EndMissing, Repeat}
use Rattle.jasmin_reader.specs.declared.fault.Refusal.{Refusal}
use Rattle.jasmin_lines.specs.declared.form.Form.{Form}
use Rattle.jasmin_lines.specs.declared.form.Form.TheVariants as form
use Rattle.jasmin_lines.specs.declared.lexeme.Lexeme.{Lexeme}
use Rattle.jasmin_lines.specs.declared.lexeme.Lexeme.TheVariants as lexeme
use Rattle.jasmin_lines.specs.Faults.{kind_number}
use Rattle.jasmin_reader.specs.Grammar.{PlainState, nothing_begun, next_state}
use Rattle.jasmin_lines.specs.Lexemes.{PlainLine, lines_after}
use Rattle.text_laws.specs.WordRules.{IsSpoiled, HasForm}

-- ---- lines

-- what stands outside methods
abbrev pub is_of_class : Form → Bool
is_of_class (form.Interface line) = true
is_of_class (form.Class c) = true
is_of_class (form.Super name) = true
is_of_class (form.Implements name) = true
is_of_class (form.Field f) = true
is_of_class (form.Method m) = true
is_of_class _ = false

-- what stands in a method: its limits, what is said of it, its labels and instructions, and its end
abbrev pub is_of_method : Form → Bool
is_of_method (form.StackLimit n) = true
is_of_method (form.LocalsLimit n) = true
is_of_method form.Ignored = true
is_of_method (form.Catch c) = true
is_of_method form.End = true
is_of_method (form.Label label) = true
is_of_method (form.Code l) = true
is_of_method _ = false

-- a field, a method and the next class come after the class's super
abbrev pub comes_after_super : Form → Bool
comes_after_super (form.Class c) = true
comes_after_super (form.Field f) = true
comes_after_super (form.Method m) = true
comes_after_super _ = false

abbrev pub is_method : Form → Bool
is_method (form.Method m) = true
is_method _ = false

abbrev pub is_super : Form → Bool
is_super (form.Super name) = true
is_super _ = false

abbrev pub is_stack_limit : Form → Bool
is_stack_limit (form.StackLimit n) = true
is_stack_limit _ = false

abbrev pub is_locals_limit : Form → Bool
is_locals_limit (form.LocalsLimit n) = true
is_locals_limit _ = false

-- the labels that a line sets
abbrev pub labels_set : Form → List (List ℕ)
labels_set (form.Label label) = label ∷ []
labels_set (form.Code l) = l.labels
labels_set _ = []

abbrev pub begins_with : List (List ℕ) → List Lexeme → Bool
begins_with known (lexeme.Word word ∷ words) = list_any (bytes_eq word) known
begins_with known _ = false

-- `.source`, `.bytecode`, `.interface` and `.class` may stand before the first class
abbrev pub begins_as_first : List Lexeme → Bool
begins_as_first words = begins_with (codes ".source" ∷ codes ".bytecode" ∷ codes ".interface" ∷ codes ".class" ∷ []) words

abbrev pub end_words : List Lexeme
end_words = lexeme.Word (codes ".end") ∷ lexeme.Word (codes "method") ∷ []

-- ---- what stands before and after

abbrev pub is_class : Form → Bool
is_class (form.Class c) = true
is_class _ = false

-- a method goes up to its end, or to the next class
abbrev pub ends_method : Form → Bool
ends_method form.End = true
ends_method (form.Class c) = true
ends_method _ = false

abbrev pub begins_anew : Form → Bool
begins_anew (form.Class c) = true
begins_anew (form.Method m) = true
begins_anew _ = false

abbrev pub sets : List ℕ → Form → Bool
sets label f = list_any (bytes_eq label) (labels_set f)

-- One of these lines begins something, and none that is nearer ends it.
abbrev pub Stands : (Form → Bool) → (Form → Bool) → List Form → Type 0
Stands begins ends [] = ⊥
Stands begins ends (f ∷ earlier) = (begins f ≡ true) ⊎ ((ends f ≡ false) × Stands begins ends earlier)

abbrev pub IsClassBegun : List Form → Type 0
IsClassBegun before = Stands is_class (λ _. false) before

abbrev pub IsSuperSaid : List Form → Type 0
IsSuperSaid before = Stands is_super is_class before

abbrev pub IsMethodOpen : List Form → Type 0
IsMethodOpen before = Stands is_method ends_method before

-- a class has begun, and its super is still to come
abbrev pub IsSuperToCome : List Form → Type 0
IsSuperToCome before = IsClassBegun before × (IsSuperSaid before → ⊥)

-- no `.end method` comes after
abbrev pub NoEndComes : List PlainLine → Type 0
NoEndComes behind = AllByRecursion (λ (l : PlainLine). l.words ≢ end_words) behind

-- a label that the line sets stands before in the method
abbrev pub SetsAgain : List Form → Form → Type 0
SetsAgain before f = (label : List ℕ) × Contains (labels_set f) label × Stands (sets label) begins_anew before

-- ---- faults of a line among others

-- A line that says this has this fault.
pub data IsMisplaced (before : List Form) (behind : List PlainLine) (f : Form) : ReadKind → Type 0 where
  -- a line of a method stands outside methods
  OfMethod : (IsMethodOpen before → ⊥) → is_of_method f ≡ true → IsMisplaced before behind f OutsideMethod
  -- a line of a class stands inside a method
  OfClass : IsMethodOpen before → is_of_class f ≡ true → IsMisplaced before behind f InMethod
  -- a field, a method or the next class comes before the class's super
  BeforeSuper : IsSuperToCome before → comes_after_super f ≡ true → IsMisplaced before behind f NoSuper
  -- a second label of one name in a method
  LabelAgain : IsMethodOpen before → SetsAgain before f → IsMisplaced before behind f LabelTwice
  -- a method without a later `.end method`
  NeverEnded : NoEndComes behind → is_method f ≡ true → IsMisplaced before behind f EndMissing
  -- a second super of a class
  SuperAgain : IsSuperSaid before → is_super f ≡ true → IsMisplaced before behind f Repeat
  -- a second limit of the stack in a method, and of the locals
  StackAgain : IsMethodOpen before → Stands is_stack_limit begins_anew before → is_stack_limit f ≡ true → IsMisplaced before behind f Repeat
  LocalsAgain : IsMethodOpen before → Stands is_locals_limit begins_anew before → is_locals_limit f ≡ true → IsMisplaced before behind f Repeat

-- A line has this fault, after lines that say this, and before these lines.
pub data HasFault (before : List Form) (line : PlainLine) (behind : List PlainLine) : ReadKind → Type 0 where
  -- before the first class stands another line than may stand there
  BeforeClasses : (IsClassBegun before → ⊥) → begins_as_first line.words ≡ false → HasFault before line behind NoClass
  -- what the line has wherever it stands
  ByItself : {kind : ReadKind} → IsSpoiled line.words kind → HasFault before line behind kind
  -- what a line that says this has where it stands
  Misplaced : {kind : ReadKind} (f : Form) → HasForm line.number line.words f → IsMisplaced before behind f kind → HasFault before line behind kind

-- the least of all kinds of which something holds
pub record IsLeast (P : ReadKind → Type 0) (kind : ReadKind) : Type 0 where
  pub holds : P kind
  pub least : (other : ReadKind) → P other → kind_number kind ≤ kind_number other

abbrev pub HasNone : (ReadKind → Type 0) → Type 0
HasNone P = (kind : ReadKind) → P kind → ⊥

-- ---- faults of a text

-- the first line with a fault, and the least that it has; at the end of the text a super is still to come. A line without
-- a fault has a form, which stands before the next line.
abbrev pub IsFirstFault : ℕ → List Form → List PlainLine → Refusal → Type 0
IsFirstFault last before [] f = IsSuperToCome before × (f ≡ record { kind = NoSuper; line = last })
IsFirstFault last before (line ∷ lines) f =
    (IsLeast (HasFault before line lines) f.kind × (f.line ≡ line.number))
    ⊎ (HasNone (HasFault before line lines) × (said : Form) × HasForm line.number line.words said × IsFirstFault last (said ∷ before) lines f)

-- the number of a text's last line is that of its last token, and 0 where it has none
abbrev pub IsLastLine : List Token → ℕ → Type 0
IsLastLine [] n = n ≡ 0
IsLastLine (t ∷ []) n = n ≡ t.line
IsLastLine (t ∷ u ∷ ts) n = IsLastLine (u ∷ ts) n

abbrev pub IsFaultOfText : List ℕ → List Token → Refusal → Type 0
IsFaultOfText text tokens f = (last : ℕ) × IsLastLine tokens last × IsFirstFault last [] (lines_after text [] tokens) f

-- What the lines up to this one say, the nearest first. A line that has no form says nothing.
pub data AreSaidWith (before : List Form) (line : PlainLine) (said : List Form) : Type 0 where
  SaysForm : (f : Form) → HasForm line.number line.words f → said ≡ f ∷ before → AreSaidWith before line said
  SaysNothing : ((f : Form) → HasForm line.number line.words f → ⊥) → said ≡ before → AreSaidWith before line said

-- a line of these has this fault, or the text's end does
abbrev pub IsAnyFault : ℕ → List Form → List PlainLine → Refusal → Type 0
IsAnyFault last before [] f = IsSuperToCome before × (f ≡ record { kind = NoSuper; line = last })
IsAnyFault last before (line ∷ lines) f =
    (HasFault before line lines f.kind × (f.line ≡ line.number))
    ⊎ ((said : List Form) × AreSaidWith before line said × IsAnyFault last said lines f)

abbrev pub IsAnyOfText : List ℕ → List Token → Refusal → Type 0
IsAnyOfText text tokens f = (last : ℕ) × IsLastLine tokens last × IsAnyFault last [] (lines_after text [] tokens) f

-- at an earlier line, or at the same with no greater kind
abbrev pub IsNoLater : Refusal → Refusal → Type 0
IsNoLater f g = (f.line < g.line) ⊎ ((f.line ≡ g.line) × (kind_number f.kind ≤ kind_number g.kind))

-- the least of all faults of a text, by the line and then by the kind
pub record IsLeastOfText (text : List ℕ) (tokens : List Token) (f : Refusal) : Type 0 where
  pub holds : IsAnyOfText text tokens f
  pub least : (g : Refusal) → IsAnyOfText text tokens g → IsNoLater f g

-- ---- what the code keeps of the lines before

abbrev pub state_after : List Form → PlainState
state_after [] = nothing_begun
state_after (f ∷ earlier) = next_state f (state_after earlier)
