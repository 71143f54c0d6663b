use Rattle.std.proofs.Common.{◌≡◌, ◌<◌, ℕ, ◌&&◌, ◌||◌, get_or, length, take}
use Rattle.std.specs.List.{list_any}
use Rattle.std.specs.Prelude.{◌==◌}
use Rattle.rpg_causes_flow.specs.Index.{has_word_bit}
use Rattle.rpg_symbols.specs.Chains.{Call}
use Rattle.rpg_causes_flow.proofs.cycles.spread.Given as goal

abbrev pub invariant-loop-call : goal.invariant-loop-call
invariant-loop-call l = (x i : ℕ) → x < length l.words
    → has_word_bit (get_or l.next x 0) i ≡ (has_word_bit (get_or l.initial.next x 0) i || list_any (λ (p : Call). p.0 == x && has_word_bit (get_or l.fn.words p.1 0) i) (take l.call-index l.calls))
