-- The number of a halt.
use Rattle.std.specs.Prelude.{ℕ}
use Rattle.rpg_program.specs.declared.halt.Halt.{Halt}
use Rattle.rpg_program.specs.declared.halt.Halt.TheVariants.{ZeroDivisor, BadIndex, NoRecordType, BadDigit, AllowanceSpent, IndicatorOn, BadRecord, OutOfSequence}

-- the number of a halt
abbrev pub halt_number : Halt → ℕ
halt_number ZeroDivisor = 1
halt_number BadIndex = 2
halt_number NoRecordType = 3
halt_number BadDigit = 4
halt_number AllowanceSpent = 5
halt_number IndicatorOn = 6
halt_number BadRecord = 7
halt_number OutOfSequence = 8
