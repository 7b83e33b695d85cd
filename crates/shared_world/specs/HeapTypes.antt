-- A heap with the room that it has for more items.
use Rattle.std.specs.Prelude.{ℕ, Bool, ◌+◌, ◌&&◌, nat_lt, nat_le, List, length}
use Rattle.vm_model.specs.declared.limits.TheConstants.{MOST_HEAP_WORDS, MOST_OBJECTS}
use Rattle.machine_model.specs.Shared.{HeapItem, words_of}

pub record HeapState : Type 0 where
  pub items : List HeapItem
  -- so many items can be added without taking memory
  pub room : ℕ

-- one more object or array of so many words, itself included, keeps the limits
abbrev pub has_words : List HeapItem → ℕ → Bool
has_words items words = nat_lt (length items) MOST_OBJECTS && nat_le (words_of items + words) MOST_HEAP_WORDS
