use Rattle.std.proofs.Common.{◌∙◌}
use Rattle.rpg_faults_places.proofs.JoinRule.{valid_lengths-is}
use Rattle.rpg_faults_places.specs.Joins.{matched}
use Rattle.rpg_faults_places.proofs.joins.valid_matches.Goals as goal

pub returns : goal.returns
returns c = c.valid_lengths.ensures ∙ valid_lengths-is (matched c.args.cards.now)
