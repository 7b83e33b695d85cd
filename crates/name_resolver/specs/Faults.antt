-- The number by which a kind of fault is printed.
use Rattle.std.specs.Prelude.{ℕ}
use Rattle.name_resolver.specs.declared.fault.LinkKind.{LinkKind}
use Rattle.name_resolver.specs.declared.fault.LinkKind.TheVariants.{NoMain, UnknownClass, UnknownField, UnknownMethod, UnknownLabel, Twice, BadDescriptor, TooMany, OutOfProfile}

abbrev pub kind_number : LinkKind → ℕ
kind_number NoMain = 1
kind_number UnknownClass = 2
kind_number UnknownField = 3
kind_number UnknownMethod = 4
kind_number UnknownLabel = 5
kind_number Twice = 6
kind_number BadDescriptor = 7
kind_number TooMany = 8
kind_number OutOfProfile = 9
