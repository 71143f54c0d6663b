use Rattle.std.proofs.Common.{◌≡◌, drop}
use Rattle.rpg_csv_values.proofs.NumberLemmas.{digits_after}
use Rattle.rpg_csv_values.specs.Numbers.{digits_number}
use Rattle.rpg_csv_values.proofs.number.digits_number.Given as goal

abbrev pub invariant-loop-byte : goal.invariant-loop-byte
invariant-loop-byte l = digits_after l.group l.number (drop l.byte-index l.text) ≡ digits_number l.group l.text
