-- What classes declare, in the order of the text. The number of a name is the place of what it names in such a list.
use Rattle.std.specs.Prelude.{◌≡◌, ℕ, Bool, not, ◌&&◌, ◌||◌, if◌then◌else◌, List, [], ◌∷◌, ◌++◌, map, filter, flat_map, codes, bytes_eq, Option, Some, None}
use Rattle.std.specs.List.{list_any, position_from}
use Rattle.vm_model.specs.declared.limits.TheConstants.{FIRST_USER_CLASS}
use Rattle.built_in_classes.specs.Classes.{built_in_classes, names_of}
use Rattle.jasmin_lines.specs.declared.class_text.Operand.{Operand}
use Rattle.jasmin_lines.specs.declared.class_text.Operand.TheVariants as operand
use Rattle.jasmin_lines.specs.Plain.{PlainClassText, PlainFieldText, PlainLineText, PlainMethodText}

-- whether a word is one of these
abbrev pub is_among : List ℕ → List (List ℕ) → Bool
is_among word words = list_any (λ other. bytes_eq other word) words

-- ---- classes

-- the class of a name in the text
abbrev pub class_of_text : List PlainClassText → List ℕ → Option ℕ
class_of_text classes name = position_from (λ c. bytes_eq name c.name) FIRST_USER_CLASS classes

-- the built-in class of a name
abbrev pub class_built_in : List ℕ → Option ℕ
class_built_in name = position_from (λ other. bytes_eq name other) 0 (names_of built_in_classes)

-- the number of a class: its place in the table of built-in classes, or its place in the text, from 32 on
pub data IsClass (classes : List PlainClassText) (name : List ℕ) (n : ℕ) : Type 0 where
  BuiltIn : class_built_in name ≡ Some n → IsClass classes name n
  OfText : class_built_in name ≡ None → class_of_text classes name ≡ Some n → IsClass classes name n

-- a class of the text whose objects are threads
abbrev pub extends_thread : PlainClassText → Bool
extends_thread c = bytes_eq c.super_name (codes "java/lang/Thread")

-- Thread itself, and the classes of the text that extend it
abbrev pub is_thread_name : List PlainClassText → List ℕ → Bool
is_thread_name classes name = bytes_eq name (codes "java/lang/Thread") || list_any (λ c. extends_thread c && bytes_eq name c.name) classes

-- ---- methods, each with the name of its class

abbrev pub methods_declared : List PlainClassText → List (List ℕ × PlainMethodText)
methods_declared classes = flat_map (λ c. map (λ m. (c.name, m)) c.methods) classes

-- a method as an instruction names it: CLASS/NAME with its descriptor
abbrev pub method_word : List ℕ × PlainMethodText → List ℕ
method_word d = d.0 ++ 47 ∷ d.1.name ++ d.1.desc

abbrev pub is_static_method : List ℕ × PlainMethodText → Bool
is_static_method d = is_among (codes "static") d.1.flags

-- the static method of this word, and the one that isn't static
abbrev pub static_method : List PlainClassText → List ℕ → Option ℕ
static_method classes word = position_from (λ d. is_static_method d && bytes_eq word (method_word d)) 0 (methods_declared classes)

abbrev pub instance_method : List PlainClassText → List ℕ → Option ℕ
instance_method classes word = position_from (λ d. not (is_static_method d) && bytes_eq word (method_word d)) 0 (methods_declared classes)

-- the method that a program begins with
abbrev pub is_main_method : List ℕ × PlainMethodText → Bool
is_main_method d =
    bytes_eq d.1.name (codes "main") && bytes_eq d.1.desc (codes "([Ljava/lang/String;)V") && is_among (codes "public") d.1.flags && is_among (codes "static") d.1.flags

-- ---- fields

abbrev pub is_static_field : PlainFieldText → Bool
is_static_field f = is_among (codes "static") f.flags

-- a field as an instruction names it: CLASS/NAME and its descriptor
abbrev pub field_words : List ℕ → PlainFieldText → List ℕ
field_words class f = (class ++ 47 ∷ f.name) ++ 32 ∷ f.desc

-- statics, each with the name of its class
abbrev pub statics_declared : List PlainClassText → List (List ℕ × PlainFieldText)
statics_declared classes = flat_map (λ c. map (λ f. (c.name, f)) (filter is_static_field c.fields)) classes

-- the static of these words
abbrev pub static_field : List PlainClassText → List ℕ → Option ℕ
static_field classes words = position_from (λ d. bytes_eq words (field_words d.0 d.1)) 0 (statics_declared classes)

-- the fields that an object of a class has, in the order of the text
abbrev pub own_fields : PlainClassText → List PlainFieldText
own_fields c = filter (λ f. not (is_static_field f)) c.fields

-- the place of a field in an object of its class: a thread has its target at place 0
abbrev pub place_in : PlainClassText → List ℕ → Option ℕ
place_in c words = position_from (λ f. bytes_eq words (field_words c.name f)) (if extends_thread c then 1 else 0) (own_fields c)

-- what is found first
abbrev pub or_later : Option ℕ → Option ℕ → Option ℕ
or_later (Some place) rest = Some place
or_later None rest = rest

-- the place that the first class with such a field gives it
abbrev pub object_field : List PlainClassText → List ℕ → Option ℕ
object_field [] words = None
object_field (c ∷ classes) words = or_later (place_in c words) (object_field classes words)

-- ---- labels

-- the labels before each instruction, and those after the last one
abbrev pub labels_before : PlainMethodText → List (List (List ℕ))
labels_before m = map (λ (l : PlainLineText). l.labels) m.lines ++ m.end_labels ∷ []

-- the number of the instruction that a label stands before
abbrev pub label_place : PlainMethodText → List ℕ → Option ℕ
label_place m label = position_from (λ labels. list_any (λ other. bytes_eq label other) labels) 0 (labels_before m)

-- ---- text constants

abbrev pub text_in : Operand → List (List ℕ)
text_in (operand.Text text) = text ∷ []
text_in (operand.Number n) = []
text_in (operand.Word word) = []

-- all text constants, as often as they are used
abbrev pub texts_used : List PlainClassText → List (List ℕ)
texts_used classes = flat_map (λ c. flat_map (λ m. flat_map (λ l. flat_map text_in l.operands) m.lines) c.methods) classes

-- each once, where it stands first
abbrev pub each_once : List (List ℕ) → List (List ℕ)
each_once [] = []
each_once (text ∷ texts) = text ∷ filter (λ other. not (bytes_eq other text)) (each_once texts)

-- the number of a text constant
abbrev pub text_place : List PlainClassText → List ℕ → Option ℕ
text_place classes text = position_from (λ other. bytes_eq text other) 0 (each_once (texts_used classes))
