use Rattle.std.proofs.Common.{◌≡◌, ◌++◌, ◌∷◌, ◌∙◌, [], ap, sym, subst}
use Rattle.std.specs.Prelude.{option_copied}
use Rattle.rpg_cards.specs.Groups.{Apart, input_card_role, input_role, output_card_role, output_role, role_on}
use Rattle.rpg_faults_limits.proofs.SheetLemmas.{groups_with}
use Rattle.rpg_faults_limits.specs.Sheets.{HasGroups, with_role}
use Rattle.rpg_faults_limits.proofs.sheets.Sheets.pass.Goals as goal

pub returns-in_default-output : goal.returns-in_default-output
returns-in_default-output c =
    let cards = c.args.source.now in
    let before = c.args.before.now in
    let card = c.args.card.now in
    let sheets = c.args.self.now in
    let was = c.requires.sheets in
    let no_input : input_role card.spec ≡ Apart = ap (role_on input_card_role) (sym c.input.ensures ∙ ap option_copied c.in_default.is) in
    let no_output : output_role card.spec ≡ Apart = ap (role_on output_card_role) (sym c.output.ensures ∙ ap option_copied c.in_default-output.is) in
    record {
      types = subst (λ r. HasGroups _ _ input_role cards (before ++ card ∷ []) (with_role cards r sheets.types)) no_input (groups_with cards input_role before card sheets.types was.types);
      lines = subst (λ r. HasGroups _ _ output_role cards (before ++ card ∷ []) (with_role cards r sheets.lines)) no_output (groups_with cards output_role before card sheets.lines was.lines);
    }
