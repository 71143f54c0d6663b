use Rattle.std.proofs.Common.{◌≡◌, ◌+◌, ◌≤◌, None, drop, length}
use Rattle.std.specs.Prelude.{IfSome, option_copied}
use Rattle.rpg_faults_data.specs.Causes.{first_wrong, on_deck}
use Rattle.rpg_faults_data.proofs.wrong_entry.first_wrong.Given as goal

abbrev pub invariant-loop-card : goal.invariant-loop-card
invariant-loop-card l = record {
  same : first_wrong l.table 1 None (on_deck l.layout l.entries l.deck)
      ≡ first_wrong l.table l.first (option_copied l.before) (on_deck l.layout l.left (drop l.card-index l.deck));
  size : IfSome l.before (λ b. length b.now ≡ l.layout.length);
  one : 1 ≤ l.first;
  number : l.first + l.left ≡ l.entries + 1;
}
