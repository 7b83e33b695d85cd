-- The commands of the tool and the arguments that each takes, as clap reads them.
use Rattle.std.specs.Prelude.{ℕ, true, List, [], ◌∷◌, Option, Some, None, if◌then◌else◌, codes}
use Rattle.std.specs.Str.{bytes_eq}
use Rattle.vm_model.specs.declared.limits.TheConstants.{MOST_DRILL_WORKERS, MOST_EVENTS, MOST_LANES, MOST_TESTS, MOST_TRIES, MOST_WORKERS}
use Rattle.clap.specs.Words.{App, Rule, new_app, new_rule, with_rule}
use Rattle.clap.specs.Simple.{on_top}
use Rattle.clap.specs.declared.builder.value_parser.ValueParser.TheVariants as parser

-- ---- arguments

-- any text, which must be there
abbrev pub text_rule : List ℕ → Rule
text_rule id = record (new_rule id) { required = true }

-- a whole number from the one to the other, which must be there
abbrev pub number_rule : List ℕ → ℕ → ℕ → Rule
number_rule id least most = record (new_rule id) { required = true; parser = Some (parser.Unsigned least most) }

-- such a number after `--id`, or else the default
abbrev pub option_rule : List ℕ → ℕ → ℕ → List ℕ → Rule
option_rule id least most default = record (new_rule id) { long = Some id; parser = Some (parser.Unsigned least most); defaults = default ∷ [] }

-- ---- commands

-- no help flag: a command has the arguments of its row and no others
abbrev pub bare : List ℕ → App
bare word = on_top (λ s. record s { disable_help_flag = true }) (new_app word)

abbrev pub with_text : List ℕ → App → App
with_text id a = with_rule a (text_rule id)

abbrev pub with_number : List ℕ → ℕ → ℕ → App → App
with_number id least most a = with_rule a (number_rule id least most)

abbrev pub with_option : List ℕ → ℕ → ℕ → List ℕ → App → App
with_option id least most default a = with_rule a (option_rule id least most default)

-- how many events a run may make
abbrev pub with_events : App → App
with_events a = with_option (codes "events") 1 MOST_EVENTS (codes "1048576") a

-- on how many lanes a program runs
abbrev pub with_lanes : App → App
with_lanes a = with_option (codes "lanes") 1 MOST_LANES (codes "1") a

-- how many tests a search may ask for
abbrev pub with_tests : App → App
with_tests a = with_option (codes "tests") 1 MOST_TESTS (codes "1048576") a

unfoldable pub check_app : App
check_app = with_text (codes "P") (bare (codes "check"))

unfoldable pub record_app : App
record_app = with_events (with_lanes (with_text (codes "LOG") (with_text (codes "P") (bare (codes "record")))))

unfoldable pub replay_app : App
replay_app = with_lanes (with_text (codes "LOG") (with_text (codes "P") (bare (codes "replay"))))

unfoldable pub show_app : App
show_app = with_number (codes "CLOCK") 0 MOST_EVENTS (with_text (codes "LOG") (with_text (codes "P") (bare (codes "show"))))

unfoldable pub derive_app : App
derive_app = with_text (codes "SCHED") (with_text (codes "LOG") (with_text (codes "P") (bare (codes "derive"))))

unfoldable pub run_app : App
run_app = with_events (with_text (codes "SCHED") (with_text (codes "P") (bare (codes "run"))))

unfoldable pub seek_app : App
seek_app =
    with_events (with_text (codes "SCHED")
    (with_number (codes "TRIES") 1 MOST_TRIES (with_number (codes "SEED") 0 18446744073709551615 (with_text (codes "P") (bare (codes "seek"))))))

unfoldable pub isolate_app : App
isolate_app =
    with_events (with_option (codes "workers") 1 MOST_WORKERS (codes "1") (with_tests
    (with_text (codes "FAIL") (with_text (codes "PASS") (with_text (codes "P") (bare (codes "isolate")))))))

unfoldable pub reduce_app : App
reduce_app = with_events (with_tests (with_text (codes "OUT") (with_text (codes "FAIL") (with_text (codes "P") (bare (codes "reduce"))))))

unfoldable pub races_app : App
races_app = with_text (codes "LOG") (with_text (codes "P") (bare (codes "races")))

unfoldable pub tiles_app : App
tiles_app = with_text (codes "LOG") (bare (codes "tiles"))

unfoldable pub drill_app : App
drill_app = with_text (codes "P") (with_number (codes "K") 1 MOST_DRILL_WORKERS (bare (codes "drill")))

-- ---- the table: the first word of a command, and the command

pub data Word : Type 0 where
  Check : Word
  Record : Word
  Replay : Word
  Show : Word
  Derive : Word
  Run : Word
  Seek : Word
  Isolate : Word
  Reduce : Word
  Races : Word
  Tiles : Word
  Drill : Word

-- the command of a first word, which is compared exactly
abbrev pub word_of : List ℕ → Option Word
word_of first =
    if bytes_eq first (codes "check") then Some Check else
    if bytes_eq first (codes "record") then Some Record else
    if bytes_eq first (codes "replay") then Some Replay else
    if bytes_eq first (codes "show") then Some Show else
    if bytes_eq first (codes "derive") then Some Derive else
    if bytes_eq first (codes "run") then Some Run else
    if bytes_eq first (codes "seek") then Some Seek else
    if bytes_eq first (codes "isolate") then Some Isolate else
    if bytes_eq first (codes "reduce") then Some Reduce else
    if bytes_eq first (codes "races") then Some Races else
    if bytes_eq first (codes "tiles") then Some Tiles else
    if bytes_eq first (codes "drill") then Some Drill else None

abbrev pub app_of_word : Word → App
app_of_word Check = check_app
app_of_word Record = record_app
app_of_word Replay = replay_app
app_of_word Show = show_app
app_of_word Derive = derive_app
app_of_word Run = run_app
app_of_word Seek = seek_app
app_of_word Isolate = isolate_app
app_of_word Reduce = reduce_app
app_of_word Races = races_app
app_of_word Tiles = tiles_app
app_of_word Drill = drill_app
