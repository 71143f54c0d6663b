use Rattle.std.proofs.Common.{◌∙◌, ◌+◌, List, ◌++◌, ap, sym, append-nil, append_assoc, arith}
use Rattle.rpg_cli_warnings.specs.Indicators.{indicator_warnings, warnings_up_to}
use Rattle.rpg_warnings_lines.specs.declared.warning.Warning.{Warning}
use Rattle.rpg_cli_warnings.proofs.UpTo.{up_to_next, up_to_none}
use Rattle.rpg_cli_warnings.proofs.indicators.put_indicators.Goals as goal

pub loop-indicator-init : goal.loop-indicator-init
loop-indicator-init c = record {
  within = omega arith;
  so_far = sym (ap (λ (ws : List Warning). c.args.warnings.now.items ++ ws) (up_to_none c.args.cards.now) ∙ append-nil c.args.warnings.now.items);
}

pub loop-indicator-preserved : goal.loop-indicator-preserved
loop-indicator-preserved c =
    let cards = c.args.cards.now in
    let n = c.loop-indicator.indicator in
    record {
      within = omega (arith, c.loop-indicator-test.true);
      so_far = c.in_ok-put_of.ensures ∙ ap (λ (ws : List Warning). ws ++ indicator_warnings (n + 1) cards) c.loop-indicator.invariant.so_far
          ∙ append_assoc c.args.warnings.now.items (warnings_up_to n cards) (indicator_warnings (n + 1) cards)
          ∙ ap (λ (ws : List Warning). c.args.warnings.now.items ++ ws) (sym (up_to_next n cards));
    }
