-- Words that are made of several: members of classes, and flags.
use Rattle.std.specs.Prelude.{ℕ, ◌+◌, Bool, ◌||◌, ◌==◌, List, [], ◌∷◌, ◌++◌, take, drop, position, codes, bytes_eq, Option, Some, None}
use Rattle.std.specs.List.{list_any}
use Rattle.jasmin_lines.specs.Words.{last_slash}

-- whether a name is among these
abbrev pub has : List ℕ → List (List ℕ) → Bool
has wanted names = list_any (λ name. bytes_eq name wanted) names

-- flags that are read, and that the language hasn't
abbrev pub has_foreign_flag : List (List ℕ) → Bool
has_foreign_flag flags = has (codes "abstract") flags || has (codes "interface") flags || has (codes "native") flags

abbrev pub split_at : List ℕ → Option ℕ → List ℕ × List ℕ
split_at word None = (word, [])
split_at word (Some n) = (take n word, drop n word)

-- a method's word up to its descriptor, and the descriptor, which begins with a bracket
abbrev pub described : List ℕ → List ℕ × List ℕ
described word = split_at word (position (λ b. b == 40) word)

abbrev pub parted : List ℕ → Option ℕ → List ℕ × List ℕ
parted word None = ([], word)
parted word (Some n) = (take n word, drop (n + 1) word)

-- the class and the name of a member's word
abbrev pub member : List ℕ → List ℕ × List ℕ
member word = parted word (last_slash word)

-- the word of a method of a class, with its descriptor; of a field; of a field with its descriptor
abbrev pub method_key : List ℕ → List ℕ → List ℕ → List ℕ
method_key class name desc = class ++ 47 ∷ name ++ desc

abbrev pub field_word : List ℕ → List ℕ → List ℕ
field_word class name = class ++ 47 ∷ name

abbrev pub field_key : List ℕ → List ℕ → List ℕ
field_key word desc = word ++ 32 ∷ desc

-- whether a method's name is that of constructors
abbrev pub is_init : List ℕ → Bool
is_init name = bytes_eq name (codes "<init>")
