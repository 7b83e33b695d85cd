-- What a part of the reader answers: what the definition of the same part says, unless memory runs out.
use Rattle.std.specs.Prelude.{◌≡◌, Result, Ok, Err}
use Rattle.jasmin_text.specs.declared.fault.Broken.{Broken}
use Rattle.jasmin_text.specs.declared.fault.TextFault.{TextFault}
use Rattle.jasmin_text.specs.declared.fault.TextFault.TheVariants as fault
use Rattle.jasmin_text.specs.declared.piece.Piece.{Piece}
use Rattle.jasmin_text.specs.declared.place.Place.{Place}
use Rattle.jasmin_text.specs.Texts.{spoiled}

-- what a part of the text says, where the piece stands at a place
abbrev pub FailsAt : Place → TextFault → Result Piece Broken → Type 0
FailsAt p fault.NoMemory read = Unit {0}
FailsAt p (fault.At kind line column) read = (broken : Broken) × (read ≡ Err broken) × (record { kind = kind; line = line; column = column } ≡ spoiled p broken)

abbrev pub GivesAt : Place → Result Piece TextFault → Result Piece Broken → Type 0
GivesAt p (Ok piece) read = read ≡ Ok piece
GivesAt p (Err f) read = FailsAt p f read
