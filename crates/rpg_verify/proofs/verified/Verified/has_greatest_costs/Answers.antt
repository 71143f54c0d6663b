use Rattle.std.proofs.Common.{rules, ◌≡◌, subst}
use Rattle.rpg_verify.proofs.Most.{greatest}
use Rattle.rpg_verify.specs.Greatest.{AreGreatest}
use Rattle.rpg_verify.proofs.verified.Verified.has_greatest_costs.Goals as goal

pub returns : goal.returns
returns c =
    let same : c.self.inside.program ≡ c.args.self.now = search rules in
    subst AreGreatest same (greatest c.self.inside.program c.self.invariant.program)
