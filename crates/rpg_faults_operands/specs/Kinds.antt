-- F4: an operand or output field of the wrong kind, a field that can't be written, a table with too few entries.
use Rattle.std.specs.Prelude.{List, Bool, false, not, ◌&&◌, ◌||◌, nat_lt, Option, None, Some, is_some}
use Rattle.std.specs.Option.{option_map_or}
use Rattle.rpg_cards.specs.Calculations.{card_ending}
use Rattle.rpg_sheet_specs.specs.Operations.{card_columns}
use Rattle.rpg_sheet_specs.specs.declared.operations.Content.{Content}
use Rattle.rpg_sheet_specs.specs.declared.operations.Content.TheVariants.{Value, WholeArray, Searched, Table}
use Rattle.rpg_sheet_specs.specs.declared.operations.Kinds.{Kinds}
use Rattle.rpg_sheet_specs.specs.declared.operations.Kinds.TheVariants.{Numbers, Alike, Any}
use Rattle.rpg_sheet_specs.specs.declared.operations.OperationColumns.{OperationColumns}
use Rattle.rpg_cards.specs.Cards.{output_field_on}
use Rattle.rpg_cards.specs.declared.spec_card.SpecCard.{SpecCard}
use Rattle.rpg_program.specs.Forms.{is_array, is_table, is_writable, same_kind}
use Rattle.rpg_program.specs.declared.form.FieldForm.{FieldForm}
use Rattle.rpg_program.specs.declared.form.Kind.TheVariants as kind
use Rattle.rpg_sheet_specs.specs.declared.calculation.CalculationSpec.{CalculationSpec}
use Rattle.rpg_sheet_specs.specs.declared.output.OutputField.{OutputField}
use Rattle.rpg_faults_operands.specs.Operands.{factor_form, field_content, output_form, result_form}

-- ---- classes

-- XFOOT takes an array, LOKUP searches a table or an array and finds in a table
abbrev pub is_wrong_class : Content → FieldForm → Bool
is_wrong_class WholeArray form = not (is_array form.class)
is_wrong_class Searched form = not (is_array form.class || is_table form.class)
is_wrong_class Table form = not (is_table form.class)
is_wrong_class _ form = false

-- likewise for the contents of a column
abbrev pub has_wrong_class : Option Content → Option FieldForm → Bool
has_wrong_class None form = false
has_wrong_class (Some c) form = option_map_or (is_wrong_class c) form false

-- ---- kinds

-- a field of characters
abbrev pub is_text : FieldForm → Bool
is_text form = same_kind form.kind kind.Text

-- a known field of characters
abbrev pub has_text : Option FieldForm → Bool
has_text form = option_map_or is_text form false

-- a number and a text
abbrev pub kinds_differ : Option FieldForm → Option FieldForm → Bool
kinds_differ None g = false
kinds_differ (Some f) None = false
kinds_differ (Some f) (Some g) = not (same_kind f.kind g.kind)

-- texts if the operation requires numbers, or a number and a text if it requires one kind
abbrev pub wrong_kinds : Kinds → Option FieldForm → Option FieldForm → Option FieldForm → Bool
wrong_kinds Numbers f g r = has_text f || has_text g || has_text r
wrong_kinds Alike f g r = kinds_differ f g
wrong_kinds Any f g r = false

-- ---- results

-- the date and constants are never written
abbrev pub is_unwritable : FieldForm → Bool
is_unwritable form = not (is_writable form.class)

-- a table that a search finds in has fewer entries than what is searched
abbrev pub has_too_few : FieldForm → FieldForm → Bool
has_too_few searched found = is_table found.class && (is_array searched.class || is_table searched.class) && nat_lt found.entries searched.entries

-- the result of LOKUP is a table with fewer entries than factor 2
abbrev pub finds_too_few : Option FieldForm → Option FieldForm → Bool
finds_too_few None r = false
finds_too_few (Some g) None = false
finds_too_few (Some g) (Some r) = has_too_few g r

-- a result field that takes a value must be writable; a table must have enough entries for the search
abbrev pub wrong_result : Content → Option FieldForm → Option FieldForm → Bool
wrong_result Value g r = option_map_or is_unwritable r false
wrong_result Table g r = finds_too_few g r
wrong_result _ g r = false

-- ---- cards

-- the forms of factor 1, factor 2 and the result field
abbrev pub wrong_forms : OperationColumns → Option FieldForm → Option FieldForm → Option FieldForm → Bool
wrong_forms t f g r =
    has_wrong_class (field_content t.factor_1) f
    || has_wrong_class (field_content t.factor_2) g
    || has_wrong_class (field_content t.result_field) r
    || wrong_kinds t.kinds f g r
    || option_map_or (λ c. wrong_result c g r) (field_content t.result_field) false

-- F4 of a calculation with these columns
abbrev pub wrong_by : List SpecCard → CalculationSpec → OperationColumns → Bool
wrong_by cards k t =
    wrong_forms t (factor_form cards t.factor_1 k.factor_1) (factor_form cards t.factor_2 k.factor_2) (result_form cards t.result_field k.result_field)

-- F4 of a calculation, by the columns of its operation
abbrev pub wrong_in_calculation : List SpecCard → CalculationSpec → Bool
wrong_in_calculation cards k = option_map_or (λ o. wrong_by cards k (card_columns o)) k.operation false

-- a text that is edited, or the date that is blanked
abbrev pub wrong_as_output : OutputField → FieldForm → Bool
wrong_as_output f form = ((is_some f.code || is_some f.text) && is_text form) || (f.blank_after && is_unwritable form)

-- F4 of an output field: a text that is edited, or a field that may not be blanked
abbrev pub wrong_in_output : List SpecCard → OutputField → Bool
wrong_in_output cards f = option_map_or (wrong_as_output f) (output_form cards f) false

-- F4 of the operation that ends on the card, or of an output field
abbrev pub wrong_operand : List SpecCard → SpecCard → List SpecCard → Bool
wrong_operand cards c after =
    option_map_or (wrong_in_calculation cards) (card_ending c after) false || option_map_or (wrong_in_output cards) (output_field_on c.spec) false
