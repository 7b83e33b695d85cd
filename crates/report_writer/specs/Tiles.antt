-- The printed text of a log.
use Rattle.std.specs.Prelude.{ℕ, List, ◌++◌, codes, decimal}
use Rattle.std.specs.List.{flat_map}
use Rattle.vm_model.specs.declared.ends.EndKind.{EndKind}
use Rattle.vm_model.specs.declared.ends.EndKind.TheVariants as kind
use Rattle.schedule_log.specs.declared.interval.Interval.{Interval}
use Rattle.schedule_log.specs.Logs.{PlainLog, events}
use Rattle.report_writer.specs.Texts.{counted, line_feed}

-- how a log says that its run ended
abbrev pub kind_line : EndKind → List ℕ
kind_line kind.Done = codes "end done" ++ line_feed
kind_line kind.Fault = codes "end fault" ++ line_feed
kind_line kind.Stuck = codes "end stuck" ++ line_feed
kind_line kind.Spent = codes "end spent" ++ line_feed

-- an interval: its thread, and its first and last clock
abbrev pub interval_line : Interval → List ℕ
interval_line i = codes "interval " ++ decimal i.thread ++ codes " " ++ decimal i.first ++ codes " " ++ decimal i.last ++ line_feed

-- a log: its budget, its number of events, its end, and each interval in its order
abbrev pub tiles_text : PlainLog → List ℕ
tiles_text log = counted (codes "budget") log.budget ++ counted (codes "events") (events log) ++ kind_line log.end ++ flat_map interval_line log.intervals
