-- What a part of the reader answers of a text's lines, whose faults stand at a line.
use Rattle.std.specs.Prelude.{◌≡◌, Result, Err}
use Rattle.jasmin_reader.specs.declared.fault.ReadFault.{ReadFault}
use Rattle.jasmin_reader.specs.declared.fault.ReadFault.TheVariants as fault
use Rattle.jasmin_reader.specs.declared.fault.Refusal.{Refusal}

-- what a part of the reader returned is what the definition of the same part says, unless memory ran out
abbrev pub Refuses : {Y : Type 0} → Result Y Refusal → ReadFault → Type 0
Refuses read (fault.At kind line) = read ≡ Err (record { kind = kind; line = line })
Refuses read fault.NoMemory = Unit {0}
