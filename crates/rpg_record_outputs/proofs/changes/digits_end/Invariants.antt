use Rattle.std.proofs.Common.{◌≡◌, drop}
use Rattle.rpg_record_outputs.specs.Digits.{digits_end}
use Rattle.rpg_record_outputs.proofs.changes.digits_end.Given as goal

abbrev pub invariant-loop-number : goal.invariant-loop-number
invariant-loop-number l = digits_end l.end (drop l.number-index l.numbers) l.field ≡ digits_end l.length l.numbers l.field
