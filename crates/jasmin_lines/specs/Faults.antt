-- Faults of a line, and what a part of a line is read to.
use Rattle.std.specs.Prelude.{◌≡◌, ℕ, Result, Ok, Err, Option, Some, None}
use Rattle.jasmin_lines.specs.declared.fault.ReadKind.{ReadKind}
use Rattle.jasmin_lines.specs.declared.fault.ReadKind.TheVariants.{NoClass, BadDirective, BadMnemonic, BadOperand, BadName, OutsideMethod, InMethod, NoSuper, LabelTwice, EndMissing, TooMany, Repeat}

abbrev pub kind_number : ReadKind → ℕ
kind_number NoClass = 1
kind_number BadDirective = 2
kind_number BadMnemonic = 3
kind_number BadOperand = 4
kind_number BadName = 5
kind_number OutsideMethod = 6
kind_number InMethod = 7
kind_number NoSuper = 8
kind_number LabelTwice = 9
kind_number EndMissing = 10
kind_number TooMany = 11
kind_number Repeat = 12
