use Rattle.std.proofs.Common.{◌≡◌, drop}
use Rattle.rpg_csv_values.specs.Contents.{without_leading_zeros}
use Rattle.rpg_csv_values.proofs.column.without_leading_zeros.Given as goal

abbrev pub invariant-loop-place : goal.invariant-loop-place
invariant-loop-place l = without_leading_zeros (drop l.place l.digits) ≡ without_leading_zeros l.digits
