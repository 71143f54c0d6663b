use Rattle.std.proofs.Common.{ℕ, ◌<◌, ◌≤◌}
use Rattle.rpg_fit_terms.specs.Fresh.{IsTaken}
use Rattle.rpg_fit_terms.proofs.fresh.FreshNames.find.Given as goal

abbrev pub invariant-loop-number : goal.invariant-loop-number
invariant-loop-number l = (n : ℕ) → n < l.number → l.names.next ≤ n → IsTaken l.view l.names n
