-- What a card means.
use Rattle.std.specs.Prelude.{List, [], ◌∷◌, ℕ, Bool, false, Option, None, Some, option_and_then, option_map, if◌then◌else◌, ◌||◌}
use Rattle.std.specs.Result.{result_ok}
use Rattle.rpg_sheet_specs.specs.declared.data.DataSpec.{DataSpec}
use Rattle.rpg_sheet_specs.specs.declared.data.DataSpec.TheVariants as data_spec
use Rattle.rpg_sheet_specs.specs.declared.form_type.FormType.{FormType}
use Rattle.rpg_sheet_specs.specs.declared.form_type.FormType.TheVariants as form
use Rattle.rpg_sheet_specs.specs.declared.spec.Spec.{Spec}
use Rattle.rpg_sheet_specs.specs.declared.spec.Spec.TheVariants as spec
use Rattle.rpg_sheet_specs.specs.Cards.{begins_data, ends_source, form_type, is_sheet}
use Rattle.rpg_sheet_specs.specs.Columns.{Columns, values, ◌⊛◌}
use Rattle.rpg_sheet_specs.specs.Tables.{header, file, extension, form_card, input_card, calculation_card, output_card}

-- a card on this sheet
abbrev pub card_on : FormType → Columns Spec
card_on form.Header = values spec.Header ⊛ header
card_on form.File = values spec.File ⊛ file
card_on form.Extension = values spec.Extension ⊛ extension
card_on form.Form = values spec.Form ⊛ form_card
card_on form.Input = values spec.Input ⊛ input_card
card_on form.Calculation = values spec.Calculation ⊛ calculation_card
card_on form.Output = values spec.Output ⊛ output_card

-- the meaning of a card that belongs to no sheet; `data_begun` says whether one before it begins data
abbrev pub data_spec_of : Bool → List ℕ → Option DataSpec
data_spec_of data_begun card =
    if ends_source card then None
    else if begins_data card then Some data_spec.Begin
    else if data_begun then Some (data_spec.Card card)
    else None

-- what a card means: nothing if a column is bad, if it is skipped or if it ends the source
abbrev pub spec_of : Bool → List ℕ → Option Spec
spec_of data_begun card =
    if is_sheet data_begun card then option_and_then (λ sheet. result_ok ((card_on sheet).reading card)) (form_type card)
    else option_map spec.Data (data_spec_of data_begun card)

-- what cards mean
abbrev pub specs_from : Bool → List (List ℕ) → List (Option Spec)
specs_from data_begun [] = []
specs_from data_begun (card ∷ cards) = spec_of data_begun card ∷ specs_from (data_begun || begins_data card) cards

-- what the cards of a source mean; none for a card without a meaning
abbrev pub specs_of : List (List ℕ) → List (Option Spec)
specs_of cards = specs_from false cards
