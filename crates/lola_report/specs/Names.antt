-- The numbers and names of refusals, of malformed lines and of faults.
use Rattle.std.specs.Prelude.{ℕ, List, codes}
use Rattle.lola_value.specs.declared.front.Code.{Code}
use Rattle.lola_value.specs.declared.front.Code.TheVariants as code
use Rattle.lola_value.specs.declared.value.FaultKind.{FaultKind}
use Rattle.lola_value.specs.declared.value.FaultKind.TheVariants as fault
use Rattle.lola_model.specs.declared.source.MalformedKind.{MalformedKind}
use Rattle.lola_model.specs.declared.source.MalformedKind.TheVariants as malformed
pub use Rattle.lola_model.specs.Refusals.{code_number}

abbrev pub code_name : Code → List ℕ
code_name code.TooLong = codes "TooLong"
code_name code.BadToken = codes "BadToken"
code_name code.Unexpected = codes "Unexpected"
code_name code.TooDeep = codes "TooDeep"
code_name code.Duplicate = codes "Duplicate"
code_name code.Unknown = codes "Unknown"
code_name code.TooMany = codes "TooMany"
code_name code.BadArity = codes "BadArity"
code_name code.WrongType = codes "WrongType"
code_name code.LiteralRange = codes "LiteralRange"
code_name code.NotImplied = codes "NotImplied"
code_name code.NoPacing = codes "NoPacing"
code_name code.PacingTooWide = codes "PacingTooWide"
code_name code.DirectToFiltered = codes "DirectToFiltered"
code_name code.WindowOutsidePeriodic = codes "WindowOutsidePeriodic"
code_name code.WindowTooFine = codes "WindowTooFine"
code_name code.PeriodTooShort = codes "PeriodTooShort"
code_name code.WindowNeedsWholePeriod = codes "WindowNeedsWholePeriod"
code_name code.ZeroCycle = codes "ZeroCycle"
code_name code.LocalWithoutSpawn = codes "LocalWithoutSpawn"

-- the number of a kind of malformed line
abbrev pub malformed_number : MalformedKind → ℕ
malformed_number malformed.BadHeading = 1
malformed_number malformed.FieldCount = 2
malformed_number malformed.BadTime = 3
malformed_number malformed.BadValue = 4
malformed_number malformed.BadText = 5
malformed_number malformed.BareCr = 6
malformed_number malformed.RowTooLong = 7
malformed_number malformed.TooManyRows = 8

abbrev pub malformed_name : MalformedKind → List ℕ
malformed_name malformed.BadHeading = codes "BadHeading"
malformed_name malformed.FieldCount = codes "FieldCount"
malformed_name malformed.BadTime = codes "BadTime"
malformed_name malformed.BadValue = codes "BadValue"
malformed_name malformed.BadText = codes "BadText"
malformed_name malformed.BareCr = codes "BareCr"
malformed_name malformed.RowTooLong = codes "RowTooLong"
malformed_name malformed.TooManyRows = codes "TooManyRows"

-- the number of a kind of fault
abbrev pub fault_number : FaultKind → ℕ
fault_number fault.Overflow = 1
fault_number fault.DivZero = 2
fault_number fault.TooManyInstances = 3

abbrev pub fault_name : FaultKind → List ℕ
fault_name fault.Overflow = codes "Overflow"
fault_name fault.DivZero = codes "DivZero"
fault_name fault.TooManyInstances = codes "TooManyInstances"
