use Rattle.std.proofs.Common.{◌++◌, ◌∷◌, [], sym, subst}
use Rattle.rpg_cards.specs.Groups.{input_role, output_role}
use Rattle.rpg_faults_limits.proofs.SheetLemmas.{groups_with}
use Rattle.rpg_faults_limits.specs.Sheets.{HasGroups}
use Rattle.rpg_faults_limits.proofs.sheets.Sheets.with.Goals as goal

pub returns : goal.returns
returns c =
    let cards = c.args.source.now in
    let before = c.args.before.now in
    let card = c.args.card.now in
    let was = c.requires.sheets in
    record {
      types = subst (λ g. HasGroups _ _ input_role cards (before ++ card ∷ []) g) (sym c.with_input.ensures) (groups_with cards input_role before card _ was.types);
      lines = subst (λ g. HasGroups _ _ output_role cards (before ++ card ∷ []) g) (sym c.with_output.ensures) (groups_with cards output_role before card _ was.lines);
    }
