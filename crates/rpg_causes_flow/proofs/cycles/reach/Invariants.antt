use Rattle.std.proofs.Common.{length}
use Rattle.rpg_causes_flow.specs.Index.{IsReaching}
use Rattle.rpg_causes_flow.proofs.cycles.reach.Given as goal

abbrev pub invariant-loop : goal.invariant-loop
invariant-loop l = IsReaching l.counter l.calls l.first (length l.initial.words) l.words
