-- Cards that belong together, and ranges that are filled.
use Rattle.std.specs.Prelude.{◌++◌, Bool, List, [], ◌∷◌, Option, if◌then◌else◌}
use Rattle.std.specs.Option.{option_to_list}
use Rattle.rpg_cards.specs.declared.spec_card.SpecCard.{SpecCard}
use Rattle.rpg_sheet_specs.specs.declared.indicator.Three.{Three}
use Rattle.rpg_sheet_specs.specs.declared.spec.Spec.{Spec}

-- the cards before the first one that passes the test
abbrev pub cards_before : (Spec → Bool) → List SpecCard → List SpecCard
cards_before test [] = []
cards_before test (c ∷ cs) = if test c.spec then [] else c ∷ cards_before test cs

-- the values of those ranges of three that are filled
abbrev pub filled_values : {X : Type 0} → Three (Option X) → List X
filled_values t = option_to_list t.first ++ option_to_list t.second ++ option_to_list t.third
