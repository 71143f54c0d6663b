use Rattle.std.proofs.Common.{◌∙◌, sym, None}
use Rattle.rpg_cards.specs.Groups.{input_role, open_group}
use Rattle.rpg_faults_places.proofs.MatchLemmas.{matches_open}
use Rattle.rpg_faults_places.proofs.matches.Matches.of_open_type.Goals as goal

pub returns-in-None : goal.returns-in-None
returns-in-None c = λ before is. matches_open (open_group input_role before) None (sym c.in-None.is ∙ is)

pub returns-in-Some : goal.returns-in-Some
returns-in-Some c = λ before is. matches_open (open_group input_role before) _ (sym c.in-Some.is ∙ is)
