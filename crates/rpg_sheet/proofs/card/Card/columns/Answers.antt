use Rattle.std.proofs.Common.{◌-◌}
use Rattle.std.specs.Prelude.{drop}
use Rattle.rpg_text.specs.Texts.{is_character}
use Rattle.rpg_sheet_values.proofs.Characters.{all-take, all-drop}
use Rattle.rpg_sheet.proofs.card.Card.columns.Goals as goal

pub returns-clause-characters : goal.returns-clause-characters
returns-clause-characters g c =
    let before = c.args.columns.first - 1 in
    all-take is_character _ (drop before c.self.inside.characters) (all-drop is_character before c.self.inside.characters c.self.invariant.1)
