-- The printed texts, as functions of plain data.
use Rattle.std.specs.Prelude.{ℕ, ◌==◌, if◌then◌else◌, List, [], ◌∷◌, ◌++◌, length, slice_index, codes, decimal}
use Rattle.std.specs.List.{flat_map, range_with_len}
use Rattle.vm_model.specs.declared.ends.End.{End}
use Rattle.vm_model.specs.declared.ends.End.TheVariants as end
use Rattle.vm_model.specs.declared.ends.Fault.{Fault}
use Rattle.vm_model.specs.declared.ends.FaultKind.{FaultKind}
use Rattle.vm_model.specs.declared.ends.FaultKind.TheVariants as fault
use Rattle.vm_model.specs.Program.{PlainProgram}
use Rattle.race_report.specs.declared.place.Place.{Place}
use Rattle.race_report.specs.declared.place.Place.TheVariants as place
use Rattle.race_report.specs.declared.race.Race.{Race}
use Rattle.report_writer.specs.Names.{class_name, method_name, static_name}

abbrev pub line_feed : List ℕ
line_feed = 10 ∷ []

-- what kind of fault it was
abbrev pub fault_word : PlainProgram → FaultKind → List ℕ
fault_word p fault.NullPointer = codes "null"
fault_word p fault.Arithmetic = codes "arithmetic"
fault_word p fault.ArrayIndex = codes "index"
fault_word p fault.NegativeSize = codes "negative-size"
fault_word p fault.MonitorState = codes "monitor-state"
fault_word p fault.ThreadState = codes "thread-state"
fault_word p (fault.Thrown class) = codes "thrown " ++ class_name p class
fault_word p fault.StackOverflow = codes "stack-overflow"
fault_word p fault.HeapFull = codes "heap-full"
fault_word p fault.OutputFull = codes "output-full"
fault_word p fault.ThreadsFull = codes "threads-full"

abbrev pub fault_words : PlainProgram → Fault → List ℕ
fault_words p f =
    codes "fault " ++ fault_word p f.kind ++ codes " thread " ++ decimal f.thread ++ codes " in " ++ method_name p f.method ++ codes " at " ++ decimal f.at

abbrev pub end_words : PlainProgram → End → List ℕ
end_words p end.Done = codes "done"
end_words p (end.Fault f) = fault_words p f
end_words p end.Stuck = codes "stuck"
end_words p end.Spent = codes "spent"

-- the line that says how a run ended
abbrev pub end_text : PlainProgram → End → List ℕ
end_text p e = codes "end " ++ end_words p e ++ line_feed

-- a word and a number on a line
abbrev pub counted : List ℕ → ℕ → List ℕ
counted word n = word ++ codes " " ++ decimal n ++ line_feed

-- a run: its events, its intervals, its end, and its output, of which the length comes first
abbrev pub run_text : PlainProgram → ℕ → ℕ → End → List ℕ → List ℕ
run_text p events intervals e output =
    counted (codes "events") events ++ counted (codes "intervals") intervals ++ end_text p e ++ counted (codes "output") (length output) ++ output

-- ---- isolations

-- a time after a space
abbrev pub time_word : ℕ → List ℕ
time_word time = codes " " ++ decimal time

-- a word and the times of a schedule on a line
abbrev pub times_line : List ℕ → List ℕ → List ℕ
times_line word times = word ++ flat_map time_word times ++ line_feed

-- a place and its times in both schedules, on a line, where they differ
abbrev pub place_line : List ℕ → List ℕ → ℕ → List ℕ
place_line passing failing place =
    if slice_index passing place == slice_index failing place then [] else codes "place" ++ time_word place ++ time_word (slice_index passing place) ++ time_word (slice_index failing place) ++ line_feed

abbrev pub place_lines : List ℕ → List ℕ → List ℕ
place_lines passing failing = flat_map (place_line passing failing) (range_with_len 0 (length passing))

-- an isolation: both schedules, the places where they differ, by how many units, and how many tests were made and unresolved
abbrev pub isolated_text : List ℕ → List ℕ → ℕ → ℕ → ℕ → List ℕ
isolated_text passing failing units asked unresolved =
    times_line (codes "pass") passing ++ times_line (codes "fail") failing ++ place_lines passing failing
    ++ counted (codes "units") units ++ counted (codes "asked") asked ++ counted (codes "unresolved") unresolved

-- ---- races

abbrev pub place_words : PlainProgram → Place → List ℕ
place_words p (place.Static slot) = codes "static " ++ static_name p slot
place_words p (place.Field obj number) = codes "obj " ++ decimal obj ++ codes " place " ++ decimal number
place_words p (place.Item arr index) = codes "arr " ++ decimal arr ++ codes " index " ++ decimal index

-- an access: its clock and its thread
abbrev pub access_words : ℕ → ℕ → List ℕ
access_words clock thread = decimal clock ++ codes " thread " ++ decimal thread

abbrev pub race_line : PlainProgram → Race → List ℕ
race_line p r =
    codes "race " ++ place_words p r.place ++ codes " first " ++ access_words r.first r.first_thread ++ codes " second " ++ access_words r.second r.second_thread ++ line_feed

-- a report of races: how many there are, and a line for each
abbrev pub races_text : PlainProgram → List Race → List ℕ
races_text p found = counted (codes "races") (length found) ++ flat_map (race_line p) found
