use Rattle.std.proofs.Common.{arith}
use Rattle.rpg_verify.proofs.Sizes.{bound_few}
use Rattle.rpg_verify.proofs.verified.Verified.bound.Goals as goal

pub returns-clause-few : goal.returns-clause-few
returns-clause-few c =
    let few = bound_few c.self.inside.program c.self.invariant.program in
    let same = c.self.invariant.bound in
    omega (arith, few, same)
