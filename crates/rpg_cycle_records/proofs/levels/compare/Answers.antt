use Rattle.std.proofs.Common.{◌∙◌, sym}
use Rattle.rpg_cycle_records.specs.Keeping.{seen_levels}
use Rattle.rpg_cycle_records.proofs.Lasting.{all_last, none_broken, none_renewed}
use Rattle.rpg_cycle_records.proofs.levels.compare.Goals as goal

pub returns-then-are_all_last-clause-broken : goal.returns-then-are_all_last-clause-broken
returns-then-are_all_last-clause-broken c = sym (none_broken (seen_levels c.args.levels.now) c.args.text.now c.args.fields.now 9 (all_last _ _ _ (sym c.are_all_last.ensures ∙ c.if-are_all_last.true)))

pub returns-then-are_all_last-clause-kept : goal.returns-then-are_all_last-clause-kept
returns-then-are_all_last-clause-kept c = sym (none_renewed (seen_levels c.args.levels.now) c.args.text.now c.args.fields.now 9 (all_last _ _ _ (sym c.are_all_last.ensures ∙ c.if-are_all_last.true)))
