use Rattle.rpg_program.proofs.Renaming.Worlds.{by_names, names_agree}
use Rattle.rpg_program.proofs.renaming_laws.numbers_have_names.Goals as goal

pub returns : goal.returns
returns g c = λ old new at r back knows gives w. (by_names r back knows gives w, names_agree r back knows gives w)
