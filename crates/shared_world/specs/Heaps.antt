-- The heap as the code keeps it: its items, and the room for more.
use Rattle.std.specs.Prelude.{◌≡◌, ◌≤◌, ◌-◌, length, vec_len, vec_capacity}
use Rattle.vm_model.specs.declared.limits.TheConstants.{MOST_HEAP_WORDS, MOST_OBJECTS}
use Rattle.machine_model.specs.Shared.{words_of}
use Rattle.shared_world.specs.HeapTypes.{HeapState}
use Rattle.shared_world.specs.declared.heap.Heap.TheInside.{Inside}

abbrev pub view_of : Inside → HeapState
view_of h = record { items = h.items.items; room = vec_capacity h.items - vec_len h.items }

-- the number of words is that of the items, and the limits hold
pub record IsCounted (h : Inside) : Type 0 where
  pub words : h.words ≡ words_of h.items.items
  pub few_words : h.words ≤ MOST_HEAP_WORDS
  pub few_items : length h.items.items ≤ MOST_OBJECTS
