use Rattle.std.proofs.Common.{◌≡◌, ◌∙◌, ◌∷◌, ap, rules, sym}
use Rattle.std.specs.Prelude.{option_copied}
use Rattle.rpg_cards.proofs.GroupEnds.{group_end-next}
use Rattle.rpg_cards.specs.Calculations.{group_end}
use Rattle.rpg_cards.proofs.groups.+group_end.Goals as goal

pub returns-then-joins : goal.returns-then-joins
returns-then-joins t c =
    let card = c.in-Some.next.now in
    let following = c.in-Some.following.now in
    let split : c.args.after.now ≡ card ∷ following = search rules in
    let is = sym c.calculation.ensures ∙ ap option_copied c.in-Some-calculation.is in
    let goes = sym c.joins.ensures ∙ c.if-joins.true in
    c.group_end.ensures ∙ sym (ap (group_end c.args.card.now) split ∙ group_end-next c.args.card.now _ card following is goes)
