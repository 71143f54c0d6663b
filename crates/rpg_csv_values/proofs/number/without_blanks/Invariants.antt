use Rattle.std.proofs.Common.{◌≡◌, drop}
use Rattle.rpg_csv_values.specs.Numbers.{without_blanks}
use Rattle.rpg_csv_values.proofs.number.without_blanks.Given as goal

abbrev pub invariant-loop-place : goal.invariant-loop-place
invariant-loop-place l = without_blanks (drop l.place l.text) ≡ without_blanks l.text
