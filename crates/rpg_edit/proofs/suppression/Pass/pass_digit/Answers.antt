use Rattle.std.proofs.Common.{◌∙◌, ap, ◌/◌, arith}
use Rattle.rpg_edit.proofs.Written.{quotient_next}
use Rattle.rpg_edit.proofs.suppression.Pass.pass_digit.Goals as goal

pub invariant_of-self : goal.invariant_of-self
invariant_of-self c =
    let self = c.args.self.now in
    record { few = omega arith; is_rest = c.requires.rest ∙ ap (λ n. n / 10) self.is_rest ∙ quotient_next self.number.size self.after }
