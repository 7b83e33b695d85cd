-- Where a byte of a text stands.
use Rattle.std.specs.Prelude.{ℕ, ◌+◌}
use Rattle.jasmin_text.specs.declared.place.Place.{Place}

-- n bytes further on in the same line
abbrev pub along : ℕ → Place → Place
along n p = record { offset = p.offset + n; line = p.line; column = p.column + n }

-- after a line feed
abbrev pub next_line : Place → Place
next_line p = record { offset = p.offset + 1; line = p.line + 1; column = 1 }

abbrev pub first_place : Place
first_place = record { offset = 0; line = 1; column = 1 }
