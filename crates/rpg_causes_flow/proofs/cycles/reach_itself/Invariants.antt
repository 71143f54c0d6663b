use Rattle.std.proofs.Common.{◌≡◌, ◌+◌, ◌<◌, ℕ, get_or}
use Rattle.std.specs.Prelude.{◌==◌}
use Rattle.rpg_causes_flow.specs.Index.{has_word_bit}
use Rattle.rpg_causes_flow.proofs.cycles.reach_itself.Given as goal

abbrev pub invariant-loop-number : goal.invariant-loop-number
invariant-loop-number l = (x i : ℕ) → x < l.number → i < 64 → has_word_bit (get_or l.words x 0) i ≡ (x == l.first + i)
