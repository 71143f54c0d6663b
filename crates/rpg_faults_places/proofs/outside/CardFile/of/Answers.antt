use Rattle.std.proofs.Common.{◌∙◌, ap}
use Rattle.rpg_faults_limits.specs.FileCauses.{placed_file}
use Rattle.rpg_faults_places.proofs.CardFiles.{card_file_is}
use Rattle.rpg_faults_places.proofs.outside.CardFile.of.Goals as goal

pub returns : goal.returns
returns c = λ before are.
    ap (placed_file c.args.source.now) c.place_on-place.ensures ∙ card_file_is c.args.source.now before c.args.card.now c.args.sheets.now are
