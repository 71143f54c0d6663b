-- Names with their data, of which the first of a name count.
use Rattle.std.specs.Cmp.Lexicographic.{pointwise}
use Rattle.std.specs.Map.{lookup}
use Rattle.std.specs.Prelude.{◌≡◌, ℕ, ◌∷◌, ◌++◌, List, Option, nat_eq}
use Rattle.rpg_cards.specs.Groups.{data_role, followers}
use Rattle.rpg_cards.specs.Names.{tables_on}
use Rattle.rpg_cards.specs.declared.spec_card.SpecCard.{SpecCard}
use Rattle.rpg_program.specs.Values.{Value}
use Rattle.rpg_sheet_specs.specs.declared.extension.ExtensionSpec.{ExtensionSpec}
use Rattle.rpg_compile_program.specs.Data.{Loaded, all_loaded, decks, tables_loaded}

-- the values that have been read for a name
abbrev pub loaded_values : List ℕ → List Loaded → Option (List Value)
loaded_values name ls = lookup (pointwise nat_eq name) ls

-- each name has the same data in both
abbrev pub HasSameData : List Loaded → List Loaded → Type 0
HasSameData xs ys = (name : List ℕ) → loaded_values name xs ≡ loaded_values name ys

-- the tables of an E card, on the deck that these cards begin with
abbrev pub tables_after : ExtensionSpec → ℕ → List SpecCard → List Loaded
tables_after e per_card deck = tables_loaded e per_card (followers data_role deck) 0 (tables_on e)

-- what an E card takes goes over from the data that are still to come
abbrev pub TakesDeck : ExtensionSpec → List Loaded → List SpecCard → List Loaded → List SpecCard → Type 0
TakesDeck e old cards new rest = (es : List ExtensionSpec) → HasSameData (old ++ all_loaded (e ∷ es) (decks cards)) (new ++ all_loaded es (decks rest))
