-- The first words as the code has them.
use Rattle.command_line.specs.declared.apps.Word as code
use Rattle.command_line.specs.declared.apps.Word.TheVariants as word
use Rattle.command_line.specs.Commands as spec

abbrev pub plain_word : code.Word → spec.Word
plain_word word.Check = spec.Check
plain_word word.Record = spec.Record
plain_word word.Replay = spec.Replay
plain_word word.Show = spec.Show
plain_word word.Derive = spec.Derive
plain_word word.Run = spec.Run
plain_word word.Seek = spec.Seek
plain_word word.Isolate = spec.Isolate
plain_word word.Reduce = spec.Reduce
plain_word word.Races = spec.Races
plain_word word.Tiles = spec.Tiles
plain_word word.Drill = spec.Drill
