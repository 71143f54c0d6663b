use Rattle.std.proofs.Common.{◌≡◌, ◌∙◌, ◌+◌, ◌-◌, ◌≢◌, None, ap, arith, get_or, sym}
use Rattle.std.proofs.lemmas.List.{get_or-set_other, length-set}
use Rattle.std.specs.Option.{option_or}
use Rattle.rpg_cards.specs.Groups.{followers, input_role}
use Rattle.rpg_faults_places.proofs.LevelLemmas.{filled, set_next}
use Rattle.rpg_faults_places.specs.Places.{level_length}
use Rattle.rpg_faults_places.proofs.lengths.with_levels.Goals as goal

pub loop-level-preserved : goal.loop-level-preserved
loop-level-preserved c =
    let level = c.loop-level.level in
    let same : (level - 1) + 1 ≡ level = omega arith in
    let left = c.loop-level.invariant.left (level - 1) (omega arith) in
    record {
      long = length-set c.loop-level.first (level - 1) c.or.result ∙ c.loop-level.invariant.long;
      done = set_next c.loop-level.first (λ k. option_or (get_or c.args.first k None) (level_length (k + 1) (followers input_role c.args.after.now))) level c.or.result None
          c.loop-level.invariant.long (omega arith) (omega arith)
          (c.or.ensures ∙ ap (λ x. option_or x c.level_length.result) left ∙ ap (option_or (get_or c.args.first (level - 1) None)) (c.level_length.ensures ∙ ap (λ n. level_length n (followers input_role c.args.after.now)) (sym same)))
          c.loop-level.invariant.done;
      left = λ k high.
          let other : k ≢ level - 1 = omega arith in
          get_or-set_other c.loop-level.first (level - 1) k c.or.result None other ∙ c.loop-level.invariant.left k (omega arith);
    }

pub returns : goal.returns
returns c =
    filled (λ level. option_or (get_or c.args.first (level - 1) None) (level_length level (followers input_role c.args.after.now))) c.loop-level.first None c.loop-level.invariant.long
    (λ k less. c.loop-level.invariant.done k (omega arith) ∙ ap (λ i. option_or (get_or c.args.first i None) (level_length (k + 1) (followers input_role c.args.after.now))) (omega arith))
