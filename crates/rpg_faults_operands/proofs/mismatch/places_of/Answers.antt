use Rattle.std.proofs.Common.{◌≡◌, ◌-◌, ◌∙◌, sym, ap, arith}
use Rattle.std.specs.List.{range_with_len}
use Rattle.rpg_faults_operands.specs.Mismatches.{first_fitting}
use Rattle.rpg_faults_operands.proofs.mismatch.places_of.Goals as goal

pub returns : goal.returns
returns c =
    let end : c.loop-digits.digits ≡ 25 = omega arith in
    sym (c.loop-digits.invariant ∙ ap (λ d. first_fitting c.args.word.now (range_with_len d (25 - d))) end)
