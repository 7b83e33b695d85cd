-- What the words of the command line ask for.
use Rattle.std.specs.Prelude.{ℕ, Bool, true, false, List, [], ◌∷◌, Option, Some, None, if◌then◌else◌, unwrap_or, codes}
use Rattle.std.specs.Str.Parse.{digits_value, without_leading_plus}
use Rattle.vm_model.specs.declared.limits.TheConstants.{MOST_DRILL_WORKERS, MOST_EVENTS, MOST_LANES, MOST_TESTS, MOST_TRIES, MOST_WORKERS}
use Rattle.clap.specs.Words.{App, Kinds, Row, fault_of, first_of, matches_of}
use Rattle.clap.specs.ValueTests.{is_unsigned_in}
use Rattle.command_line.specs.Commands.{Word, app_of_word, word_of}
use Rattle.command_line.specs.Commands as word

-- a command with its values: names of files as bytes, and numbers
pub data Request : Type 0 where
  -- a program
  Check : List ℕ → Request
  -- a program, a log, how many lanes and events
  Record : List ℕ → List ℕ → ℕ → ℕ → Request
  -- a program, a log, how many lanes
  Replay : List ℕ → List ℕ → ℕ → Request
  -- a program, a log, a clock
  Show : List ℕ → List ℕ → ℕ → Request
  -- a program, a log, a schedule
  Derive : List ℕ → List ℕ → List ℕ → Request
  -- a program, a schedule, how many events
  Run : List ℕ → List ℕ → ℕ → Request
  -- a program, a seed, how many tries, a schedule, how many events
  Seek : List ℕ → ℕ → ℕ → List ℕ → ℕ → Request
  -- a program, a passing and a failing schedule, how many tests, workers and events
  Isolate : List ℕ → List ℕ → List ℕ → ℕ → ℕ → ℕ → Request
  -- a program, a failing schedule, the name for the reduced one, how many tests and events
  Reduce : List ℕ → List ℕ → List ℕ → ℕ → ℕ → Request
  -- a program, a log
  Races : List ℕ → List ℕ → Request
  -- a log
  Tiles : List ℕ → Request
  -- how many workers, a program
  Drill : ℕ → List ℕ → Request
  -- no command
  Unknown : Request

-- ---- values

-- the text that clap found for an argument
abbrev pub text_in : List ℕ → List Row → List ℕ
text_in id rows = unwrap_or (first_of id rows) []

-- the number that a text spells, within its bounds; clap lets no other text through
abbrev pub spelled : ℕ → ℕ → List ℕ → ℕ
spelled least most text = if is_unsigned_in least most text then digits_value 10 (without_leading_plus text) else least

abbrev pub number_in : List ℕ → ℕ → ℕ → List Row → ℕ
number_in id least most rows = spelled least most (text_in id rows)

abbrev pub events_in : List Row → ℕ
events_in rows = number_in (codes "events") 1 MOST_EVENTS rows

abbrev pub lanes_in : List Row → ℕ
lanes_in rows = number_in (codes "lanes") 1 MOST_LANES rows

abbrev pub tests_in : List Row → ℕ
tests_in rows = number_in (codes "tests") 1 MOST_TESTS rows

-- ---- requests

-- the request of a command, with the values that clap found
abbrev pub request_with : Word → List Row → Request
request_with word.Check rows = Check (text_in (codes "P") rows)
request_with word.Record rows = Record (text_in (codes "P") rows) (text_in (codes "LOG") rows) (lanes_in rows) (events_in rows)
request_with word.Replay rows = Replay (text_in (codes "P") rows) (text_in (codes "LOG") rows) (lanes_in rows)
request_with word.Show rows = Show (text_in (codes "P") rows) (text_in (codes "LOG") rows) (number_in (codes "CLOCK") 0 MOST_EVENTS rows)
request_with word.Derive rows = Derive (text_in (codes "P") rows) (text_in (codes "LOG") rows) (text_in (codes "SCHED") rows)
request_with word.Run rows = Run (text_in (codes "P") rows) (text_in (codes "SCHED") rows) (events_in rows)
request_with word.Seek rows =
    Seek (text_in (codes "P") rows) (number_in (codes "SEED") 0 18446744073709551615 rows) (number_in (codes "TRIES") 1 MOST_TRIES rows) (text_in (codes "SCHED") rows) (events_in rows)
request_with word.Isolate rows =
    Isolate (text_in (codes "P") rows) (text_in (codes "PASS") rows) (text_in (codes "FAIL") rows) (tests_in rows) (number_in (codes "workers") 1 MOST_WORKERS rows) (events_in rows)
request_with word.Reduce rows = Reduce (text_in (codes "P") rows) (text_in (codes "FAIL") rows) (text_in (codes "OUT") rows) (tests_in rows) (events_in rows)
request_with word.Races rows = Races (text_in (codes "P") rows) (text_in (codes "LOG") rows)
request_with word.Tiles rows = Tiles (text_in (codes "LOG") rows)
request_with word.Drill rows = Drill (number_in (codes "K") 1 MOST_DRILL_WORKERS rows) (text_in (codes "P") rows)

abbrev pub is_none : Kinds → Bool
is_none [] = true
is_none (kind ∷ kinds) = false

-- clap takes the words of this command: it has no fault to find with them
abbrev pub is_taken : App → List (List ℕ) → Bool
is_taken app words = is_none (fault_of app words)

abbrev pub request_for : Option Word → List (List ℕ) → Request
request_for None words = Unknown
request_for (Some w) words = if is_taken (app_of_word w) words then request_with w (matches_of (app_of_word w) words) else Unknown

-- The request of the words after the program's name: the first word names the command, and clap's own function of the words
-- says whether it takes them and with which values.
unfoldable pub request_of : List (List ℕ) → Request
request_of [] = Unknown
request_of (first ∷ rest) = request_for (word_of first) (first ∷ rest)
