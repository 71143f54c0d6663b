use Rattle.std.proofs.Common.{◌∙◌, ◌-◌, None, ap, arith, get_or}
use Rattle.std.specs.List.{list_any}
use Rattle.rpg_cards.specs.Groups.{followers, input_role}
use Rattle.rpg_faults_places.proofs.LevelLemmas.{levels-is, not_at}
use Rattle.rpg_faults_places.specs.Places.{lengths_differ, level_length}
use Rattle.rpg_faults_places.proofs.lengths.JoinedLengths.differ_from.Goals as goal

pub loop-level-init : goal.loop-level-init
loop-level-init c = ap (list_any (λ level. lengths_differ (get_or c.args.self.now.first (level - 1) None) (level_length level (followers input_role c.args.after.now)))) levels-is

pub loop-level-preserved : goal.loop-level-preserved
loop-level-preserved c =
    not_at (λ level. lengths_differ (get_or c.args.self.now.first (level - 1) None) (level_length level (followers input_role c.args.after.now))) c.loop-level.level c.is_other.result _ (omega arith) c.loop-level.invariant
    (c.is_other.ensures ∙ ap (lengths_differ (get_or c.args.self.now.first (c.loop-level.level - 1) None)) c.level_length.ensures) c.if-is_other.false
