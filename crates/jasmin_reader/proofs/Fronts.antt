-- Lists that are read from the front on.
use Rattle.std.proofs.Common.{List, ◌++◌, Result, Ok, Err}
use Rattle.jasmin_reader.specs.declared.fault.Refusal.{Refusal}

-- what is read after what was read already
abbrev pub with_front : {A : Type 0} → List A → Result (List A) Refusal → Result (List A) Refusal
with_front front (Ok xs) = Ok (front ++ xs)
with_front front (Err f) = Err f
