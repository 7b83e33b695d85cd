-- Faults, and which of two comes first.
use Rattle.std.specs.Prelude.{ℕ, ◌&&◌, ◌||◌, Bool, ◌==◌, nat_lt, if◌then◌else◌, Option, Some, None}
use Rattle.name_resolver.specs.declared.fault.LinkKind.{LinkKind}
use Rattle.class_linker.specs.declared.fault.Refusal.{Refusal}
use Rattle.name_resolver.specs.Faults.{kind_number}

-- the first of two faults: that of the lesser line, and on one line that of the lesser kind
abbrev pub is_before : Refusal → Refusal → Bool
is_before a b = nat_lt a.line b.line || (a.line == b.line && nat_lt (kind_number a.kind) (kind_number b.kind))

abbrev pub first_of : Option Refusal → Refusal → Option Refusal
first_of None new = Some new
first_of (Some found) new = if is_before new found then Some new else Some found

-- the first of the faults so far and that of a line, if it has one
abbrev pub noted : Option Refusal → ℕ → Option LinkKind → Option Refusal
noted found line None = found
noted found line (Some kind) = first_of found (record { kind = kind; line = line })

-- a fault where a test holds, else what the rest says: so the least kind stands first
abbrev pub only_if : LinkKind → Bool → Option LinkKind → Option LinkKind
only_if kind is_fault rest = if is_fault then Some kind else rest
