use Rattle.rpg_compile.proofs.LimitsKept.{keeps_limits}
use Rattle.rpg_compile.proofs.limits.faultless_sources_keep_limits.Goals as goal

pub returns : goal.returns
returns c = λ none few. keeps_limits c.args.cards.now none few c.cards_are_in_range.ensures
