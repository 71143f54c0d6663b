-- F5: an index that is missing or not allowed, a literal out of range, or a field that can't be an index.
use Rattle.std.specs.Prelude.{◌^◌, List, Bool, true, false, not, ◌&&◌, ◌||◌, nat_lt, Option, None, Some}
use Rattle.std.specs.List.{list_any}
use Rattle.std.specs.Option.{option_and_then, option_map_or}
use Rattle.rpg_sheet_specs.specs.declared.operations.Content.{Content}
use Rattle.rpg_sheet_specs.specs.declared.operations.Content.TheVariants.{Value, WholeArray, Searched}
use Rattle.rpg_cards.specs.Names.{form_in, form_of_name}
use Rattle.rpg_cards.specs.declared.spec_card.SpecCard.{SpecCard}
use Rattle.rpg_program.specs.Forms.{is_array, is_index_form}
use Rattle.rpg_program.specs.declared.form.FieldForm.{FieldForm}
use Rattle.rpg_sheet_specs.specs.declared.entry.Entry.{Entry}
use Rattle.rpg_sheet_specs.specs.declared.entry.EntryIndex.{EntryIndex}
use Rattle.rpg_sheet_specs.specs.declared.entry.EntryIndex.TheVariants as index
use Rattle.rpg_text.specs.Texts.{is_between}
use Rattle.rpg_faults_operands.specs.Names.{index_name}
use Rattle.rpg_faults_operands.specs.Operands.{Operand, card_entry_form, operands_on}

-- a plain number without decimals
abbrev pub can_index : FieldForm → Bool
can_index form = is_index_form (Some form)

-- an array isn't a value; only its entries are
abbrev pub needs_index : Content → FieldForm → Bool
needs_index Value form = is_array form.class
needs_index _ form = false

-- XFOOT takes an array without an index
abbrev pub takes_index : Content → FieldForm → Bool
takes_index WholeArray form = false
takes_index _ form = is_array form.class

-- what LOKUP searches
abbrev pub is_searched_content : Content → Bool
is_searched_content Searched = true
is_searched_content _ = false

-- an index field that LOKUP writes is too short for the number of the last entry
abbrev pub is_too_short : Content → FieldForm → FieldForm → Bool
is_too_short content form field = is_searched_content content && is_array form.class && can_index field && not (nat_lt form.entries (10 ^ field.length))

-- an index of a field of that form, if the form of the field that it names is known
abbrev pub bad_entry : Content → FieldForm → EntryIndex → Option FieldForm → Bool
bad_entry content form (index.Literal n) field = not (is_between 1 form.entries n)
bad_entry content form (index.Name x) field = option_map_or (is_too_short content form) field false

-- an index is missing, or isn't allowed, or is out of range
abbrev pub misindexed : Content → Option EntryIndex → Option FieldForm → FieldForm → Bool
misindexed content None field form = needs_index content form
misindexed content (Some i) field form = not (takes_index content form) || bad_entry content form i field

-- the form of the field that indexes an entry, if it is known
abbrev pub index_form : List SpecCard → Entry → Option FieldForm
index_form cards e = option_and_then (λ x. form_in (form_of_name x cards)) (index_name e)

-- an index field that isn't a plain number without decimals
abbrev pub bad_index_field : Option FieldForm → Bool
bad_index_field field = option_map_or (λ form. not (can_index form)) field false

-- an operand whose index is wrong
abbrev pub bad_index_of : List SpecCard → Operand → Bool
bad_index_of cards o =
    option_map_or (misindexed o.content o.field.index (index_form cards o.field)) (card_entry_form cards o.field) false || bad_index_field (index_form cards o.field)

-- F5: an operand on the card has a wrong index
abbrev pub bad_index : List SpecCard → SpecCard → List SpecCard → Bool
bad_index cards c after = list_any (bad_index_of cards) (operands_on c after)
