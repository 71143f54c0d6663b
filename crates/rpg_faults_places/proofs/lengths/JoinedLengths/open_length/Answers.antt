use Rattle.std.proofs.Common.{◌∙◌, sym}
use Rattle.rpg_cards.specs.Groups.{input_role, open_group}
use Rattle.rpg_faults_places.proofs.TypeLemmas.{length_in}
use Rattle.rpg_faults_places.proofs.lengths.JoinedLengths.open_length.Goals as goal

pub returns-in-Some : goal.returns-in-Some
returns-in-Some c = λ before is. length_in (open_group input_role before) c.in-Some.lengths c.args.level c.requires.low c.requires.high (sym c.in-Some.is ∙ is)
