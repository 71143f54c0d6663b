use Rattle.std.proofs.Common.{◌≡◌, drop, map}
use Rattle.rpg_sheet_specs.specs.Tables.{card_operations, letters_of, operation}
use Rattle.rpg_sheet_specs.specs.Values.{one_of}
use Rattle.rpg_sheet_values.proofs.words.operation.Given as goal

abbrev pub invariant-loop-operation : goal.invariant-loop-operation
invariant-loop-operation l = operation l.text ≡ one_of (map (λ o. (letters_of o, o)) (drop l.operation-index card_operations)) l.text
