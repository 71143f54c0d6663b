use Rattle.std.proofs.Common.{◌≡◌, ◌+◌, ◌-◌, map, length}
use Rattle.std.specs.List.{range_with_len}
use Rattle.std.specs.Prelude.{IfSome, option_copied}
use Rattle.rpg_faults_data.specs.Causes.{data_card, first_wrong, entries_on_card, placed_entry_on}
use Rattle.rpg_faults_data.proofs.wrong_entry.wrong_on.Given as goal

abbrev pub invariant-loop-i : goal.invariant-loop-i
invariant-loop-i l = record {
  same : first_wrong l.table l.first (option_copied l.fn.before) (entries_on_card l.layout (data_card l.card l.text) l.count)
      ≡ first_wrong l.table (l.first + l.i) (option_copied l.before)
      (map (placed_entry_on l.layout.width l.layout.from l.layout.length (data_card l.card l.text)) (range_with_len l.i (l.count - l.i)));
  size : IfSome l.before (λ b. length b.now ≡ l.layout.length);
}
