use Rattle.std.proofs.Common.{◌||◌, ◌∙◌, ap, get_or, false}
use Rattle.rpg_cli_warnings.proofs.Marking.{or_two}
use Rattle.rpg_cli_warnings.specs.Indicators.{condition_tests, level_tests}
use Rattle.rpg_cli_warnings.proofs.marks.note_tested.Goals as goal

pub returns : goal.returns
returns c = λ n.
    let s = c.args.card.now.spec in
    c.note_conditions.ensures n ∙ ap (λ b. b || condition_tests n s) (c.note_level.ensures n)
    ∙ or_two (get_or c.args.marks.now n false) (level_tests n s) (condition_tests n s)
