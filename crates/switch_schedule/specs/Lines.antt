-- A line of a schedule file, and its number digit by digit.
use Rattle.std.specs.Prelude.{◌≡◌, ◌<◌, ◌≤◌, ◌+◌, ◌*◌, ◌-◌, ℕ, if◌then◌else◌, nat_le, List, [], ◌∷◌, ◌++◌, Option, Some, None}
use Rattle.std.specs.Char.{is_ascii_digit}
use Rattle.vm_model.specs.declared.limits.TheConstants.{MOST_SWITCHES}
use Rattle.switch_schedule.specs.Texts.{time_line}

-- the number that digits spell after n, where it has at most 7 digits
abbrev pub number_from : ℕ → List ℕ → Option ℕ
number_from n [] = Some n
number_from n (b ∷ rest) = if is_ascii_digit b then (if nat_le (10 * n + (b - 48)) 9999999 then number_from (10 * n + (b - 48)) rest else None) else None

abbrev pub number_in : List ℕ → Option ℕ
number_in digits = number_from 0 digits

-- the bytes begin with the line of a time, which is allowed after so many lines
pub record IsLine (time events lines : ℕ) (after bytes : List ℕ) : Type 0 where
  pub parted : bytes ≡ time_line time ++ after
  pub short : time ≤ 9999999
  pub within : time ≤ events
  pub few : lines < MOST_SWITCHES
