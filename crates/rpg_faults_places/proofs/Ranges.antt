-- The first of a range of levels with a cause, one by one.
use Rattle.std.proofs.Common.{◌≡◌, ℕ, ◌+◌, ◌-◌, ◌<◌, suc, List, ap, arith}
use Rattle.std.specs.List.{range_with_len}
use Rattle.std.specs.Option.{option_or}
use Rattle.rpg_cards.specs.declared.spec_card.SpecCard.{SpecCard}
use Rattle.rpg_faults_places.specs.Joins.{first_cause_in_list, of_level}

pub level_from : (before after : List SpecCard) (level : ℕ) → level < 10
    → first_cause_in_list (of_level before after) (range_with_len level (10 - level)) ≡ option_or (of_level before after level) (first_cause_in_list (of_level before after) (range_with_len (level + 1) (10 - (level + 1))))
level_from before after level less =
    let one_more : 10 - level ≡ suc (10 - (level + 1)) = omega arith in
    ap (λ k. first_cause_in_list (of_level before after) (range_with_len level k)) one_more
