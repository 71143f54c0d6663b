use Rattle.std.proofs.Common.{◌||◌, ◌∙◌, ap, get_or, false}
use Rattle.std.specs.Option.{option_map_or}
use Rattle.rpg_cli_warnings.proofs.Marking.{or_three}
use Rattle.rpg_cli_warnings.specs.Indicators.{any_tests, one_tests}
use Rattle.rpg_cli_warnings.proofs.marks.note_conditions.Goals as goal

pub returns-in-Some : goal.returns-in-Some
returns-in-Some c = λ n.
    let t = c.in-Some.conditions in
    c.mark_tested-in-Some-2.ensures n ∙ ap (λ b. b || one_tests n t.third) (c.mark_tested-in-Some.ensures n ∙ ap (λ b. b || one_tests n t.second) (c.mark_tested.ensures n))
    ∙ or_three (get_or c.args.marks.now n false) (one_tests n t.first) (one_tests n t.second) (one_tests n t.third)
    ∙ ap (λ o. get_or c.args.marks.now n false || option_map_or (any_tests n) o false) c.in-Some.ensures
