use Rattle.std.proofs.Common.{◌≡◌, ◌++◌, drop, take}
use Rattle.rpg_csv_values.specs.Numbers.{after_point, before_point}
use Rattle.rpg_csv_values.proofs.number.split_point.Given as goal

abbrev pub invariant-loop-place : goal.invariant-loop-place
invariant-loop-place l = record {
  before : before_point l.decimal l.digits ≡ take l.place l.digits ++ before_point l.decimal (drop l.place l.digits);
  after : after_point l.decimal l.digits ≡ after_point l.decimal (drop l.place l.digits);
}
