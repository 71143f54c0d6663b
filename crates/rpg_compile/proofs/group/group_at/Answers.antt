use Rattle.std.proofs.Common.{◌≡◌, ◌+◌, ◌∷◌, sym, ap, ◌∙◌, drop, take}
use Rattle.rpg_cards.specs.Calculations.{calculation_of, calculations}
use Rattle.rpg_compile.proofs.Walk.{front_group}
use Rattle.rpg_compile.specs.Walk.{group_of, joining}
use Rattle.rpg_compile.proofs.group.group_at.Goals as goal

pub returns-clause-groups : goal.returns-clause-groups
returns-clause-groups c =
    let first = c.args.first.now in
    let cards = c.args.cards.now in
    let count : joining (drop 1 cards) ≡ c.followers_of-count.result.0 = ap joining (sym c.requires.following) ∙ sym c.followers_of-count.ensures.count in
    front_group first cards c.requires.first
    ∙ ap (λ n. calculation_of (group_of first (take (n + 1) cards)) ∷ calculations (drop (n + 1) cards)) count
    ∙ ap (λ cs. calculation_of (group_of first cs) ∷ calculations (drop (c.followers_of-count.result.0 + 1) cards)) (sym c.split_at.ensures.front)
    ∙ ap (λ cs. calculation_of (group_of first c.split_at.result.0.now) ∷ calculations cs) (sym c.split_at.ensures.back)
