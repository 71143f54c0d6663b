use Rattle.std.proofs.Common.{◌≡◌, drop}
use Rattle.std.specs.List.{list_any}
use Rattle.rpg_records.specs.declared.layout.NumberField.{NumberField}
use Rattle.rpg_record_outputs.specs.Digits.{is_same}
use Rattle.rpg_record_outputs.proofs.line.has_same.Given as goal

abbrev pub invariant-loop-number : goal.invariant-loop-number
invariant-loop-number l =
    list_any (λ (number : NumberField). is_same number l.field) (drop l.number-index l.numbers) ≡ list_any (λ (number : NumberField). is_same number l.field) l.numbers
