-- The law of each card, one line for each range of columns.
use Rattle.std.proofs.Common.{ℕ, ◌+◌, ◌≤◌, lit≤}
use Rattle.rpg_sheet_specs.specs.Columns.{Columns, also, past}
use Rattle.rpg_sheet_specs.specs.Tables.{conditions, three_indicators, header, is_output_card, overflow, file_overflow, file, alternating_table, has_no_name, alternating, extension, form_card, record_codes, type_card, has_no_codes, and_codes, type_and_card, field_card, is_field_card, is_and_card, type_or_field_card, input_card, calculation_card, movement, record_card, line_conditions, output_field_card, line_or_field_card, is_or_card, line_or_card, output_card}
use Rattle.rpg_sheet.proofs.Laws.{IsTable, IsTable-lower, values_law, at_law, blank_law, also_law, past_law, where_law}

infixl 7 ◌⊛◌
infixl 7 ◌⊘◌
abbrev ◌⊛◌ : {X Y : Type 0} {f : Columns (X → Y)} {g : Columns X} {a b c : _} → IsTable f a b → IsTable g b c → IsTable (also f g) a c
p ⊛ q = also_law p q

abbrev ◌⊘◌ : {X Y : Type 0} {f : Columns X} {g : Columns Y} {a b c : _} → IsTable f a b → IsTable g b c → IsTable (past f g) a c
p ⊘ q = past_law p q

-- three conditions, a to b, c to d, e to f
conditions_law : {low a b c d e f : ℕ} → low ≤ a → a ≤ b → b + 1 ≤ c → c ≤ d → d + 1 ≤ e → e ≤ f → IsTable (conditions a b c d e f) low (f + 1)
unfolding conditions
conditions_law {low} h1 h2 h3 h4 h5 h6 = values_law _ low ⊛ at_law _ h1 h2 ⊛ at_law _ h3 h4 ⊛ at_law _ h5 h6

-- three indicators
indicators_law : {low a b c d e f : ℕ} → low ≤ a → a ≤ b → b + 1 ≤ c → c ≤ d → d + 1 ≤ e → e ≤ f → IsTable (three_indicators a b c d e f) low (f + 1)
unfolding three_indicators
indicators_law {low} h1 h2 h3 h4 h5 h6 = values_law _ low ⊛ at_law _ h1 h2 ⊛ at_law _ h3 h4 ⊛ at_law _ h5 h6

pub header_law : IsTable header 7 75
unfolding header
header_law = values_law _ 7
    ⊘ blank_law (lit≤ tt) (lit≤ tt) (lit≤ tt)

overflow_law : IsTable overflow 33 35
unfolding overflow
overflow_law = where_law is_output_card (values_law _ 33 ⊛ at_law _ (lit≤ tt) (lit≤ tt)) (values_law _ 33 ⊘ at_law _ (lit≤ tt) (lit≤ tt))

file_overflow_law : IsTable file_overflow 28 39
unfolding file_overflow
file_overflow_law = values_law _ 28
    ⊘ blank_law (lit≤ tt) (lit≤ tt) (lit≤ tt)
    ⊛ IsTable-lower 33 33 35 overflow (lit≤ tt) overflow_law
    ⊘ blank_law (lit≤ tt) (lit≤ tt) (lit≤ tt)

pub file_law : IsTable file 7 75
unfolding file
file_law = values_law _ 7
    ⊛ at_law _ (lit≤ tt) (lit≤ tt)
    ⊘ at_law _ (lit≤ tt) (lit≤ tt)
    ⊛ at_law _ (lit≤ tt) (lit≤ tt)
    ⊛ at_law _ (lit≤ tt) (lit≤ tt)
    ⊛ at_law _ (lit≤ tt) (lit≤ tt)
    ⊘ at_law _ (lit≤ tt) (lit≤ tt)
    ⊛ at_law _ (lit≤ tt) (lit≤ tt)
    ⊛ file_overflow_law
    ⊛ at_law _ (lit≤ tt) (lit≤ tt)
    ⊛ at_law _ (lit≤ tt) (lit≤ tt)
    ⊘ blank_law (lit≤ tt) (lit≤ tt) (lit≤ tt)

alternating_table_law : IsTable alternating_table 46 58
unfolding alternating_table
alternating_table_law = values_law _ 46
    ⊛ at_law _ (lit≤ tt) (lit≤ tt)
    ⊛ at_law _ (lit≤ tt) (lit≤ tt)
    ⊘ blank_law (lit≤ tt) (lit≤ tt) (lit≤ tt)
    ⊛ at_law _ (lit≤ tt) (lit≤ tt)
    ⊛ at_law _ (lit≤ tt) (lit≤ tt)

alternating_law : IsTable alternating 46 58
unfolding alternating
alternating_law = where_law has_no_name (values_law _ 46 ⊘ blank_law (lit≤ tt) (lit≤ tt) (lit≤ tt)) (values_law _ 46 ⊛ alternating_table_law)

pub extension_law : IsTable extension 7 58
unfolding extension
extension_law = values_law _ 7
    ⊘ blank_law (lit≤ tt) (lit≤ tt) (lit≤ tt)
    ⊛ at_law _ (lit≤ tt) (lit≤ tt)
    ⊛ at_law _ (lit≤ tt) (lit≤ tt)
    ⊛ at_law _ (lit≤ tt) (lit≤ tt)
    ⊛ at_law _ (lit≤ tt) (lit≤ tt)
    ⊘ blank_law (lit≤ tt) (lit≤ tt) (lit≤ tt)
    ⊛ at_law _ (lit≤ tt) (lit≤ tt)
    ⊛ at_law _ (lit≤ tt) (lit≤ tt)
    ⊛ alternating_law

pub form_card_law : IsTable form_card 7 75
unfolding form_card
form_card_law = values_law _ 7
    ⊛ at_law _ (lit≤ tt) (lit≤ tt)
    ⊛ at_law _ (lit≤ tt) (lit≤ tt)
    ⊘ at_law _ (lit≤ tt) (lit≤ tt)
    ⊛ at_law _ (lit≤ tt) (lit≤ tt)
    ⊘ at_law _ (lit≤ tt) (lit≤ tt)
    ⊘ blank_law (lit≤ tt) (lit≤ tt) (lit≤ tt)

record_codes_law : IsTable record_codes 21 42
unfolding record_codes
record_codes_law = values_law _ 21
    ⊛ at_law _ (lit≤ tt) (lit≤ tt)
    ⊛ at_law _ (lit≤ tt) (lit≤ tt)
    ⊛ at_law _ (lit≤ tt) (lit≤ tt)

type_card_law : IsTable type_card 7 75
unfolding type_card
type_card_law = values_law _ 7
    ⊛ at_law _ (lit≤ tt) (lit≤ tt)
    ⊛ at_law _ (lit≤ tt) (lit≤ tt)
    ⊘ blank_law (lit≤ tt) (lit≤ tt) (lit≤ tt)
    ⊛ at_law _ (lit≤ tt) (lit≤ tt)
    ⊛ record_codes_law
    ⊘ blank_law (lit≤ tt) (lit≤ tt) (lit≤ tt)

further_codes_law : IsTable and_codes 21 42
unfolding and_codes
further_codes_law = where_law has_no_codes (values_law _ 21 ⊛ at_law _ (lit≤ tt) (lit≤ tt)) record_codes_law

type_and_card_law : IsTable type_and_card 7 75
unfolding type_and_card
type_and_card_law = values_law _ 7
    ⊘ blank_law (lit≤ tt) (lit≤ tt) (lit≤ tt)
    ⊛ further_codes_law
    ⊘ blank_law (lit≤ tt) (lit≤ tt) (lit≤ tt)

field_card_law : IsTable field_card 7 75
unfolding field_card
field_card_law = values_law _ 7
    ⊘ blank_law (lit≤ tt) (lit≤ tt) (lit≤ tt)
    ⊛ at_law _ (lit≤ tt) (lit≤ tt)
    ⊛ at_law _ (lit≤ tt) (lit≤ tt)
    ⊛ at_law _ (lit≤ tt) (lit≤ tt)
    ⊛ at_law _ (lit≤ tt) (lit≤ tt)
    ⊛ at_law _ (lit≤ tt) (lit≤ tt)
    ⊛ at_law _ (lit≤ tt) (lit≤ tt)
    ⊘ blank_law (lit≤ tt) (lit≤ tt) (lit≤ tt)
    ⊛ indicators_law (lit≤ tt) (lit≤ tt) (lit≤ tt) (lit≤ tt) (lit≤ tt) (lit≤ tt)
    ⊘ blank_law (lit≤ tt) (lit≤ tt) (lit≤ tt)

pub calculation_card_law : IsTable calculation_card 7 60
unfolding calculation_card
calculation_card_law = values_law _ 7
    ⊛ at_law _ (lit≤ tt) (lit≤ tt)
    ⊛ conditions_law (lit≤ tt) (lit≤ tt) (lit≤ tt) (lit≤ tt) (lit≤ tt) (lit≤ tt)
    ⊛ at_law _ (lit≤ tt) (lit≤ tt)
    ⊛ at_law _ (lit≤ tt) (lit≤ tt)
    ⊛ at_law _ (lit≤ tt) (lit≤ tt)
    ⊛ at_law _ (lit≤ tt) (lit≤ tt)
    ⊛ at_law _ (lit≤ tt) (lit≤ tt)
    ⊛ at_law _ (lit≤ tt) (lit≤ tt)
    ⊛ at_law _ (lit≤ tt) (lit≤ tt)
    ⊛ indicators_law (lit≤ tt) (lit≤ tt) (lit≤ tt) (lit≤ tt) (lit≤ tt) (lit≤ tt)

movement_law : IsTable movement 17 23
unfolding movement
movement_law = values_law _ 17
    ⊛ at_law _ (lit≤ tt) (lit≤ tt)
    ⊛ at_law _ (lit≤ tt) (lit≤ tt)
    ⊛ at_law _ (lit≤ tt) (lit≤ tt)
    ⊛ at_law _ (lit≤ tt) (lit≤ tt)

record_card_law : IsTable record_card 7 71
unfolding record_card
record_card_law = values_law _ 7
    ⊛ at_law _ (lit≤ tt) (lit≤ tt)
    ⊛ at_law _ (lit≤ tt) (lit≤ tt)
    ⊘ blank_law (lit≤ tt) (lit≤ tt) (lit≤ tt)
    ⊛ movement_law
    ⊛ conditions_law (lit≤ tt) (lit≤ tt) (lit≤ tt) (lit≤ tt) (lit≤ tt) (lit≤ tt)
    ⊘ blank_law (lit≤ tt) (lit≤ tt) (lit≤ tt)

line_conditions_law : IsTable line_conditions 17 71
unfolding line_conditions
line_conditions_law = values_law _ 17
    ⊘ blank_law (lit≤ tt) (lit≤ tt) (lit≤ tt)
    ⊛ conditions_law (lit≤ tt) (lit≤ tt) (lit≤ tt) (lit≤ tt) (lit≤ tt) (lit≤ tt)
    ⊘ blank_law (lit≤ tt) (lit≤ tt) (lit≤ tt)

output_field_card_law : IsTable output_field_card 7 71
unfolding output_field_card
output_field_card_law = values_law _ 7
    ⊘ blank_law (lit≤ tt) (lit≤ tt) (lit≤ tt)
    ⊛ conditions_law (lit≤ tt) (lit≤ tt) (lit≤ tt) (lit≤ tt) (lit≤ tt) (lit≤ tt)
    ⊛ at_law _ (lit≤ tt) (lit≤ tt)
    ⊛ at_law _ (lit≤ tt) (lit≤ tt)
    ⊛ at_law _ (lit≤ tt) (lit≤ tt)
    ⊛ at_law _ (lit≤ tt) (lit≤ tt)
    ⊘ blank_law (lit≤ tt) (lit≤ tt) (lit≤ tt)
    ⊛ at_law _ (lit≤ tt) (lit≤ tt)

type_or_field_card_law : IsTable type_or_field_card 7 75
unfolding type_or_field_card
type_or_field_card_law = where_law is_field_card (values_law _ 7 ⊛ field_card_law) (values_law _ 7 ⊛ type_card_law)

pub input_card_law : IsTable input_card 7 75
unfolding input_card
input_card_law = where_law is_and_card (values_law _ 7 ⊛ type_and_card_law) type_or_field_card_law

line_or_field_card_law : IsTable line_or_field_card 7 71
unfolding line_or_field_card
line_or_field_card_law = where_law is_field_card (values_law _ 7 ⊛ output_field_card_law) (values_law _ 7 ⊛ record_card_law)

line_or_card_law : IsTable line_or_card 7 71
unfolding line_or_card
line_or_card_law = where_law is_or_card (values_law _ 7 ⊘ blank_law (lit≤ tt) (lit≤ tt) (lit≤ tt) ⊛ line_conditions_law) line_or_field_card_law

pub output_card_law : IsTable output_card 7 71
unfolding output_card
output_card_law = where_law is_and_card (values_law _ 7 ⊛ IsTable-lower 7 17 71 line_conditions (lit≤ tt) line_conditions_law) line_or_card_law
