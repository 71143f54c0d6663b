use Rattle.std.proofs.Common.{◌||◌, ◌∙◌, ap, get_or, false}
use Rattle.std.specs.Option.{option_map_or}
use Rattle.rpg_cli_warnings.proofs.Marking.{or_three}
use Rattle.rpg_cli_warnings.specs.Indicators.{any_is, is_number}
use Rattle.rpg_cli_warnings.proofs.marks.note_shown.Goals as goal

pub returns-in-Some : goal.returns-in-Some
returns-in-Some c = λ n.
    let t = c.in-Some.shown in
    c.mark_shown-in-Some-2.ensures n ∙ ap (λ b. b || is_number n t.third) (c.mark_shown-in-Some.ensures n ∙ ap (λ b. b || is_number n t.second) (c.mark_shown.ensures n))
    ∙ or_three (get_or c.args.marks.now n false) (is_number n t.first) (is_number n t.second) (is_number n t.third)
    ∙ ap (λ o. get_or c.args.marks.now n false || option_map_or (any_is n) o false) c.in-Some.ensures
