use Rattle.rpg_compile.proofs.Kept.{keeps_rules}
use Rattle.rpg_compile.proofs.acceptance.faultless_sources_are_accepted.Goals as goal

pub returns : goal.returns
returns c = λ allowance none. c.programs_are_accepted.ensures c.args.cards.now allowance (keeps_rules c.args.cards.now none) c.cards_are_in_range.ensures
