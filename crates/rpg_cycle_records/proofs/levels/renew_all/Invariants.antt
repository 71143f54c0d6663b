use Rattle.std.proofs.Common.{◌≡◌, ◌≤◌, ◌-◌, length, None}
use Rattle.std.specs.Prelude.{slice_index_or}
use Rattle.rpg_cycle_records.specs.Keeping.{renewed, seen_levels}
use Rattle.rpg_cycle_records.specs.Levels as spec
use Rattle.rpg_cycle_records.proofs.levels.renew_all.Given as goal

abbrev pub invariant-loop-i : goal.invariant-loop-i
invariant-loop-i l = record {
  broken : l.broken ≡ spec.highest_broken (λ k. spec.differs (slice_index_or (seen_levels l.initial.levels) (k - 1) None) (spec.level_bytes l.fields l.text k)) l.i;
  low : l.broken ≤ l.i;
  kept : seen_levels l.levels ≡ renewed l.fields l.text l.i (seen_levels l.initial.levels);
  nine : length l.levels ≡ 9;
}
