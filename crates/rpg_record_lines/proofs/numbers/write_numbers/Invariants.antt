use Rattle.std.proofs.Common.{◌≡◌, drop, length}
use Rattle.rpg_record_lines.specs.Numbers.{with_numbers}
use Rattle.rpg_record_lines.proofs.numbers.write_numbers.Given as goal

abbrev pub invariant-loop-field : goal.invariant-loop-field
invariant-loop-field l =
    with_numbers l.line (drop l.field-index l.fields) l.place l.bytes ≡ with_numbers l.line l.fields (length l.initial.bytes) l.initial.bytes
