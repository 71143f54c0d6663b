use Rattle.std.proofs.Common.{◌≡◌, ◌+◌, ◌<◌, ◌≤◌, ℕ, None, length}
use Rattle.std.specs.Option.{option_or}
use Rattle.std.specs.Prelude.{slice_index_or}
use Rattle.rpg_cards.specs.Groups.{followers, input_role}
use Rattle.rpg_faults_places.specs.Places.{level_length}
use Rattle.rpg_faults_places.proofs.lengths.with_levels.Given as goal

abbrev pub invariant-loop-level : goal.invariant-loop-level
invariant-loop-level l = record {
  long : length l.first ≡ 9;
  done : (k : ℕ) → k + 1 < l.level → slice_index_or l.first k None ≡ option_or (slice_index_or l.fn.first k None) (level_length (k + 1) (followers input_role l.after));
  left : (k : ℕ) → l.level ≤ k + 1 → slice_index_or l.first k None ≡ slice_index_or l.fn.first k None;
}
