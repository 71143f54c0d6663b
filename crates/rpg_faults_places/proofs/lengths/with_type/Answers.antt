use Rattle.std.proofs.Common.{◌∙◌, rules, sym}
use Rattle.rpg_cards.specs.Groups.{followers, input_role}
use Rattle.rpg_faults_places.proofs.JoinedLemmas.{first_stays}
use Rattle.rpg_faults_places.proofs.lengths.with_type.Goals as goal

pub returns-else-has_level : goal.returns-else-has_level
returns-else-has_level c = first_stays c.args.first (followers input_role c.args.after.now) (search rules) (sym c.has_level.ensures ∙ c.if-has_level.false)
