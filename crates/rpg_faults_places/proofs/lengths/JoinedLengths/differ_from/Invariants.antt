use Rattle.std.proofs.Common.{◌≡◌, ◌-◌, None}
use Rattle.std.specs.List.{list_any, range_with_len}
use Rattle.std.specs.Prelude.{slice_index_or}
use Rattle.rpg_cards.specs.Groups.{followers, input_role}
use Rattle.rpg_faults_places.specs.Places.{lengths_differ, level_length, levels}
use Rattle.rpg_faults_places.proofs.lengths.JoinedLengths.differ_from.Given as goal

abbrev pub invariant-loop-level : goal.invariant-loop-level
invariant-loop-level l =
    list_any (λ level. lengths_differ (slice_index_or l.self.first (level - 1) None) (level_length level (followers input_role l.after))) levels
    ≡ list_any (λ level. lengths_differ (slice_index_or l.self.first (level - 1) None) (level_length level (followers input_role l.after))) (range_with_len l.level (10 - l.level))
