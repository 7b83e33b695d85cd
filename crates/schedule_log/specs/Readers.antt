-- What the functions that read the groups of a number return.
use Rattle.std.specs.Prelude.{◌≡◌, Result, Ok, Err}
use Rattle.schedule_log.specs.declared.fault.LogKind.{LogKind}

-- what the groups of a number give, seen by view: they take no memory
abbrev pub RawGives : {X Y : Type 0} → (X → Y) → Result X LogKind → Result Y LogKind → Type 0
RawGives view (Ok x) read = read ≡ Ok (view x)
RawGives view (Err e) read = read ≡ Err e
