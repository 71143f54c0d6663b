use Rattle.std.proofs.Common.{◌≡◌, ◌==◌, drop, find}
use Rattle.rpg_record_decks.specs.declared.fitted.CardChange.{CardChange}
use Rattle.rpg_record_decks.proofs.fitted.change_on.Given as goal

abbrev pub invariant-loop-change : goal.invariant-loop-change
invariant-loop-change l = find (λ (c : CardChange). c.card == l.number) (drop l.change-index l.changes) ≡ find (λ (c : CardChange). c.card == l.number) l.changes
