use Rattle.std.proofs.Common.{◌≡◌}
use Rattle.rpg_decimal_words.specs.Order.{text_cmp}
use Rattle.rpg_decimal.proofs.OrderLemmas.{compared_from}
use Rattle.rpg_decimal.proofs.order.compare_text.Given as goal

abbrev pub invariant-loop-place : goal.invariant-loop-place
invariant-loop-place l = compared_from l.a l.b l.place ≡ text_cmp l.a l.b
