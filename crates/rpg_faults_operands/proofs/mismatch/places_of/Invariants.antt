use Rattle.std.proofs.Common.{◌≡◌, ◌-◌}
use Rattle.std.specs.List.{range_with_len}
use Rattle.rpg_faults_operands.specs.Mismatches.{first_fitting}
use Rattle.rpg_faults_operands.proofs.mismatch.places_of.Given as goal

abbrev pub invariant-loop-digits : goal.invariant-loop-digits
invariant-loop-digits l = first_fitting l.word (range_with_len 0 25) ≡ first_fitting l.word (range_with_len l.digits (25 - l.digits))
