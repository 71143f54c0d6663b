use Rattle.std.proofs.Common.{◌+◌, get_or, ap, ◌∙◌}
use Rattle.rpg_decimal.specs.declared.order.TheConstants.{RANKS}
use Rattle.rpg_decimal.proofs.Ranks.{rank_beyond, rank_in_table}
use Rattle.rpg_decimal.proofs.order.rank.Goals as goal

pub returns-then-c-lt128 : goal.returns-then-c-lt128
returns-then-c-lt128 c = c.from-then-c-lt128.ensures ∙ ap (λ n. get_or RANKS n 0) c.from.ensures ∙ rank_in_table c.args.c c.if-c-lt128.true

pub returns-else-c-lt128 : goal.returns-else-c-lt128
returns-else-c-lt128 c = ap (λ n. 95 + n) c.from-else-c-lt128.ensures ∙ rank_beyond c.args.c c.if-c-lt128.false
