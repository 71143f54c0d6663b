-- How what is kept of the cards before a card changes, whichever cards they are.
use Rattle.std.specs.Prelude.{◌≡◌, List, [], ◌∷◌, ◌++◌, Bool, false, Option}
use Rattle.std.specs.Option.{option_map, option_map_or}
use Rattle.rpg_cards.specs.Cards.{input_on}
use Rattle.rpg_cards.specs.declared.spec_card.SpecCard.{SpecCard}
use Rattle.rpg_sheet_specs.specs.declared.input.InputFieldSpec.{InputFieldSpec}
use Rattle.rpg_sheet_specs.specs.declared.input.InputSpec.{InputSpec}
use Rattle.rpg_sheet_specs.specs.declared.input.InputSpec.TheVariants as input

module _ {X : Type 0} (Kept : List SpecCard → List SpecCard → X → Type 0) where
  -- with the card it becomes what is kept of the cards including that one
  abbrev pub IncludesCard : SpecCard → List SpecCard → X → X → Type 0
  IncludesCard c after old new = (before : List SpecCard) → Kept (before ++ c ∷ after) before old → Kept (before ++ c ∷ after) (before ++ c ∷ []) new

  -- it determines whether an input card breaks a rule
  abbrev pub DetectsInput : (List SpecCard → List SpecCard → InputSpec → Bool) → SpecCard → List SpecCard → X → Bool → Type 0
  DetectsInput breaks c after kept answer = (before : List SpecCard) → Kept (before ++ c ∷ after) before kept → answer ≡ option_map_or (breaks before after) (input_on c.spec) false

-- what is kept of the open type, with one more field
abbrev pub IncludesField : {X : Type 0} → (List InputSpec → X) → InputFieldSpec → Option X → Option X → Type 0
IncludesField kept_of f old new = (specs : Option (List InputSpec)) → old ≡ option_map kept_of specs → new ≡ option_map (λ fs. kept_of (fs ++ input.Field f ∷ [])) specs
