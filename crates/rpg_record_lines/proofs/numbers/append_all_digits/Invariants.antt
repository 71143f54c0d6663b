use Rattle.std.proofs.Common.{◌≡◌, drop, Ok}
use Rattle.rpg_record_lines.specs.Numbers.{digits_of_fields}
use Rattle.rpg_record_lines.specs.Outcomes.{joined_texts}
use Rattle.rpg_record_lines.proofs.numbers.append_all_digits.Given as goal

abbrev pub invariant-loop-field : goal.invariant-loop-field
invariant-loop-field l =
    joined_texts (Ok l.line.items) (digits_of_fields l.bytes (drop l.field-index l.fields)) ≡ joined_texts (Ok l.initial.line.items) (digits_of_fields l.bytes l.fields)
