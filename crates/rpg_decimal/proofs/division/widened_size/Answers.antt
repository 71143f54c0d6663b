use Rattle.std.proofs.Common.{ap, ◌∙◌, unsigned_abs, to_z-of_z}
use Rattle.rpg_decimal.proofs.WholeLemmas.{shifted-below}
use Rattle.rpg_decimal.proofs.division.widened_size.Goals as goal

pub returns-clause-bound : goal.returns-clause-bound
returns-clause-bound c =
    let size_is = c.from.ensures ∙ c.unsigned_abs.ensures.value ∙ ap unsigned_abs (to_z-of_z c.ranges.value) in
    rw (size_is, c.from-2.ensures, c.power_of_ten.ensures.value) (shifted-below (unsigned_abs c.args.value) c.args.scale c.requires.value_in c.requires.scale_in)
