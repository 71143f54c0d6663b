use Rattle.std.proofs.Common.{◌∙◌, ◌++◌, Option, ap, sym}
use Rattle.std.specs.Option.{option_to_list}
use Rattle.rpg_cli_warnings.proofs.Unnamed.{if_tested, if_neither, if_shown}
use Rattle.rpg_warnings_lines.specs.declared.warning.Warning.{Warning}
use Rattle.rpg_cli_warnings.proofs.indicators.put_of.Goals as goal

pub returns-in_ok-put_warning-2 : goal.returns-in_ok-put_warning-2
returns-in_ok-put_warning-2 c =
    if_tested c.args.warnings.now.items c.args.indicator c.args.cards.now c.put_warning.new.warnings.items _ (sym c.requires.tested ∙ c.if-is_tested.true)
    (c.in_ok-put_warning.ensures ∙ ap (λ (w : Option Warning). c.args.warnings.now.items ++ option_to_list w) c.never_on.ensures)
    (c.in_ok-put_warning-2.ensures ∙ ap (λ (w : Option Warning). c.put_warning.new.warnings.items ++ option_to_list w) c.no_level.ensures)

pub returns-in_ok-put_warning-3 : goal.returns-in_ok-put_warning-3
returns-in_ok-put_warning-3 c =
    if_shown c.args.warnings.now.items c.args.indicator c.args.cards.now _ (sym c.requires.tested ∙ c.if-is_tested.false)
    (c.in_ok-put_warning-3.ensures ∙ ap (λ (w : Option Warning). c.args.warnings.now.items ++ option_to_list w) c.never_tested.ensures)

pub returns-else-is_shown : goal.returns-else-is_shown
returns-else-is_shown c = if_neither c.args.warnings.now.items c.args.indicator c.args.cards.now (sym c.requires.tested ∙ c.if-is_tested.false) (sym c.requires.shown ∙ c.if-is_shown.false)
