use Rattle.std.proofs.Common.{◌≡◌, ◌+◌, ◌^◌, ◌<◌, drop, sum_by}
use Rattle.rpg_records.specs.Sizes.{counted, digits_after, field_digits}
use Rattle.rpg_records.proofs.layout.RecordType.digit_count.Given as goal

abbrev pub invariant-loop-field : goal.invariant-loop-field
invariant-loop-field l = record {
  in_range : l.digits < 2 ^ 64;
  sum : counted (l.digits + sum_by field_digits (drop l.field-index l.self.numbers.items)) ≡ digits_after l.self;
}
