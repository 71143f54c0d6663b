use Rattle.std.proofs.Common.{rules, ◌≡◌, subst}
use Rattle.rpg_verify_rules.proofs.Soundness.{sound}
use Rattle.rpg_verify_rules.specs.Sound.{IsSound}
use Rattle.rpg_verify.proofs.verified.Verified.is_sound.Goals as goal

pub returns : goal.returns
returns c =
    let same : c.self.inside.program ≡ c.args.self.now = search rules in
    subst IsSound same (sound c.self.inside.program c.self.invariant.accepted)
