-- Which numbers have 32 bits, and which bytes stand in a text between quotes.
use Rattle.std.specs.Prelude.{ℕ, ◌≤◌, Bool, ◌&&◌, ◌||◌, ◌==◌, nat_le, List, ℤ, pos, negsuc}
use Rattle.std.specs.List.{list_all}

abbrev pub IsSmall : ℤ → Type 0
IsSmall (pos n) = n ≤ 2147483647
IsSmall (negsuc n) = n ≤ 2147483647

-- the tab, the line feed, the carriage return, and the bytes from the space to `~`
abbrev pub is_held : ℕ → Bool
is_held b = b == 9 || b == 10 || b == 13 || (nat_le 32 b && nat_le b 126)

abbrev pub is_quotable : List ℕ → Bool
is_quotable text = list_all is_held text
