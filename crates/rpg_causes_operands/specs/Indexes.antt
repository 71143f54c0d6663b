-- F5: what is wrong with an index.
use Rattle.std.specs.Prelude.{ℕ, List, Option, None, Some, option_and_then, if◌then◌else◌}
use Rattle.std.specs.Option.{option_or}
use Rattle.rpg_cards.specs.Names.{form_in, form_of_name}
use Rattle.rpg_sheet_specs.specs.declared.operations.Content.{Content}
use Rattle.rpg_cards.specs.declared.spec_card.SpecCard.{SpecCard}
use Rattle.rpg_causes_operands.specs.Names.{definer, first_some}
use Rattle.rpg_causes_operands.specs.declared.indexes.IndexCause.{IndexCause}
use Rattle.rpg_causes_operands.specs.declared.indexes.IndexCause.TheVariants.{Missing, NoArray, NoIndex, OutOfRange, TooShort, Whole}
use Rattle.rpg_program.specs.Forms.{is_array}
use Rattle.rpg_program.specs.declared.form.FieldForm.{FieldForm}
use Rattle.rpg_faults_operands.specs.Indexes.{can_index, index_form, is_too_short, needs_index, takes_index}
use Rattle.rpg_faults_operands.specs.Names.{index_name}
use Rattle.rpg_faults_operands.specs.Operands.{Operand, card_entry_form, operands_on}
use Rattle.rpg_sheet_specs.specs.declared.entry.Entry.{Entry}
use Rattle.rpg_sheet_specs.specs.declared.entry.EntryIndex.{EntryIndex}
use Rattle.rpg_sheet_specs.specs.declared.entry.EntryIndex.TheVariants as index
use Rattle.rpg_text.specs.Texts.{is_between}

-- ---- the field that is the index

-- a field that can be no index, with the card that defines it
abbrev pub unless_index : List SpecCard → List ℕ → FieldForm → Option IndexCause
unless_index cards name form = if can_index form then None else Some (NoIndex name form (definer name cards))

-- of the field that indexes an entry
abbrev pub of_index_field : List SpecCard → Entry → Option IndexCause
of_index_field cards e = option_and_then (λ x. option_and_then (unless_index cards x) (form_in (form_of_name x cards))) (index_name e)

-- ---- the index of a field of that form

-- an index that isn't allowed: of a field that isn't an array, or of a whole array
abbrev pub superfluous : List ℕ → FieldForm → IndexCause
superfluous name form = if is_array form.class then Whole name else NoArray name

-- a field that has no room for the number of the last entry
abbrev pub if_too_short : Content → List ℕ → FieldForm → List ℕ → FieldForm → Option IndexCause
if_too_short content name form x field = if is_too_short content form field then Some (TooShort name form.entries x) else None

-- a number that no entry has
abbrev pub if_out_of_range : List ℕ → FieldForm → ℕ → Option IndexCause
if_out_of_range name form n = if is_between 1 form.entries n then None else Some (OutOfRange name form.entries n)

-- an index that is allowed, but is a number that no entry has, or such a field
abbrev pub of_entry : Content → List ℕ → FieldForm → EntryIndex → Option FieldForm → Option IndexCause
of_entry content name form (index.Literal n) field = if_out_of_range name form n
of_entry content name form (index.Name x) field = option_and_then (if_too_short content name form x) field

-- an index that is missing, not allowed, or wrong
abbrev pub of_index : Content → List ℕ → Option EntryIndex → Option FieldForm → FieldForm → Option IndexCause
of_index content name None field form = if needs_index content form then Some (Missing name form.entries) else None
of_index content name (Some i) field form = if takes_index content form then of_entry content name form i field else Some (superfluous name form)

-- ---- F5

-- of an operand
abbrev pub of_operand : List SpecCard → Operand → Option IndexCause
of_operand cards o =
    option_or (of_index_field cards o.field)
    (option_and_then (of_index o.content o.field.name o.field.index (index_form cards o.field)) (card_entry_form cards o.field))

-- F5 of a card: of the first operand whose index is wrong
abbrev pub index_cause : List SpecCard → SpecCard → List SpecCard → Option IndexCause
index_cause cards c after = first_some (of_operand cards) (operands_on c after)
