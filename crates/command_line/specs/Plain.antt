-- Commands as the code has them, and the requests that they are.
use Rattle.std.specs.Prelude.{◌≡◌, ◌≤◌, ℕ, List, if◌then◌else◌}
use Rattle.vm_model.specs.declared.limits.TheConstants.{MOST_DRILL_WORKERS, MOST_EVENTS, MOST_LANES, MOST_TESTS, MOST_TRIES, MOST_WORKERS}
use Rattle.clap.specs.Words.{App, matches_of}
use Rattle.command_line.specs.declared.command.Command as code
use Rattle.command_line.specs.declared.command.Command.TheVariants as command
use Rattle.command_line.specs.Commands.{Word}
use Rattle.command_line.specs.Requests.{Request, is_taken, request_with}
use Rattle.command_line.specs.Requests as request

abbrev pub plain_command : code.Command → Request
plain_command (command.Check program) = request.Check program.now
plain_command (command.Record program log lanes events) = request.Record program.now log.now lanes events
plain_command (command.Replay program log lanes) = request.Replay program.now log.now lanes
plain_command (command.Show program log clock) = request.Show program.now log.now clock
plain_command (command.Derive program log schedule) = request.Derive program.now log.now schedule.now
plain_command (command.Run program schedule events) = request.Run program.now schedule.now events
plain_command (command.Seek program seed tries schedule events) = request.Seek program.now seed tries schedule.now events
plain_command (command.Isolate program pass fail tests workers events) = request.Isolate program.now pass.now fail.now tests workers events
plain_command (command.Reduce program fail schedule tests events) = request.Reduce program.now fail.now schedule.now tests events
plain_command (command.Races program log) = request.Races program.now log.now
plain_command (command.Tiles log) = request.Tiles log.now
plain_command (command.Drill workers program) = request.Drill workers program.now
plain_command command.Unknown = request.Unknown

abbrev pub IsEvents : ℕ → Type 0
IsEvents events = (1 ≤ events) × (events ≤ MOST_EVENTS)

abbrev pub IsLanes : ℕ → Type 0
IsLanes lanes = (1 ≤ lanes) × (lanes ≤ MOST_LANES)

-- the numbers of a command are within their bounds
abbrev pub IsWithin : code.Command → Type 0
IsWithin (command.Check program) = Unit {0}
IsWithin (command.Record program log lanes events) = IsLanes lanes × IsEvents events
IsWithin (command.Replay program log lanes) = IsLanes lanes
IsWithin (command.Show program log clock) = clock ≤ MOST_EVENTS
IsWithin (command.Derive program log schedule) = Unit {0}
IsWithin (command.Run program schedule events) = IsEvents events
IsWithin (command.Seek program seed tries schedule events) = (1 ≤ tries) × (tries ≤ MOST_TRIES) × (1 ≤ events) × (events ≤ MOST_EVENTS)
IsWithin (command.Isolate program pass fail tests workers events) = (1 ≤ tests) × (tests ≤ MOST_TESTS) × (1 ≤ workers) × (workers ≤ MOST_WORKERS) × (1 ≤ events) × (events ≤ MOST_EVENTS)
IsWithin (command.Reduce program fail schedule tests events) = (1 ≤ tests) × (tests ≤ MOST_TESTS) × (1 ≤ events) × (events ≤ MOST_EVENTS)
IsWithin (command.Races program log) = Unit {0}
IsWithin (command.Tiles log) = Unit {0}
IsWithin (command.Drill workers program) = (1 ≤ workers) × (workers ≤ MOST_DRILL_WORKERS)
IsWithin command.Unknown = Unit {0}

-- the command is that of the words, as far as clap takes them
abbrev pub Reads : App → Word → List (List ℕ) → code.Command → Type 0
Reads app word words c = plain_command c ≡ (if is_taken app words then request_with word (matches_of app words) else request.Unknown)
