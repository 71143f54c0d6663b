use Rattle.std.proofs.Common.{◌≡◌, ◌≤◌, drop, true}
use Rattle.rpg_csv_values.specs.Numbers.{is_grouped}
use Rattle.rpg_csv_values.proofs.number.is_grouped.Given as goal

abbrev pub invariant-loop-byte : goal.invariant-loop-byte
invariant-loop-byte l = record {
  few : l.digits ≤ 3;
  same : is_grouped l.group l.is_first l.digits (drop l.byte-index l.text) ≡ is_grouped l.group true 0 l.text;
}
