use Rattle.std.proofs.Common.{◌≡◌, ◌++◌, drop}
use Rattle.rpg_record_outputs.specs.Digits.{line_changes}
use Rattle.rpg_record_outputs.proofs.changes.add_line.Given as goal

abbrev pub invariant-loop-field : goal.invariant-loop-field
invariant-loop-field l =
    l.changes.items ++ line_changes l.length l.line.numbers.items (drop l.field-index l.line.fields.items)
    ≡ l.initial.changes.items ++ line_changes l.length l.line.numbers.items l.line.fields.items
