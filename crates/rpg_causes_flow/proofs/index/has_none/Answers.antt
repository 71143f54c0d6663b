use Rattle.std.proofs.Common.{◌≡◌, ℕ, List, [], ◌∷◌, length, sym, ◌∙◌}
use Rattle.rpg_cards.specs.Keys.{Name}
use Rattle.rpg_cards.specs.declared.spec_card.SpecCard.{SpecCard}
use Rattle.rpg_causes_flow.specs.Index.{DefineNothing, IsIndexOf}
use Rattle.rpg_causes_flow.specs.declared.index.FirstLabel.{FirstLabel}
use Rattle.rpg_causes_flow.proofs.index.has_none.Goals as goal

pub returns : goal.returns
returns c = λ cards is none. nothing c.args.names.now.entries cards is (c.is_empty.ensures.0 none)
  where
    nothing : (names : List (Name × FirstLabel)) (cards : List SpecCard) → IsIndexOf names cards [] → length names ≡ 0 → DefineNothing cards
    nothing [] cards is e = λ q. sym (is.givers q)
    nothing (n ∷ ns) cards is e = absurd cc
