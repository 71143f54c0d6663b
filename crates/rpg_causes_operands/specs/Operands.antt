-- F4: which operand is of the wrong kind, and what it is.
use Rattle.std.specs.Prelude.{ℕ, List, Bool, false, Option, None, Some, is_some, option_and_then, ◌&&◌, ◌||◌, if◌then◌else◌}
use Rattle.std.specs.Option.{option_map, option_map_or, option_or}
use Rattle.rpg_cards.specs.Calculations.{card_ending}
use Rattle.rpg_cards.specs.Cards.{output_field_on}
use Rattle.rpg_sheet_specs.specs.Operations.{card_columns}
use Rattle.rpg_sheet_specs.specs.declared.operations.Column.{Column}
use Rattle.rpg_sheet_specs.specs.declared.operations.Content.{Content}
use Rattle.rpg_sheet_specs.specs.declared.operations.Content.TheVariants.{Value, Table}
use Rattle.rpg_sheet_specs.specs.declared.operations.Kinds.{Kinds}
use Rattle.rpg_sheet_specs.specs.declared.operations.Kinds.TheVariants.{Numbers, Alike, Any}
use Rattle.rpg_sheet_specs.specs.declared.operations.OperationColumns.{OperationColumns}
use Rattle.rpg_cards.specs.declared.spec_card.SpecCard.{SpecCard}
use Rattle.rpg_causes_operands.specs.Names.{definer}
use Rattle.rpg_causes_operands.specs.declared.kinds.Held.{Held}
use Rattle.rpg_causes_operands.specs.declared.kinds.OperandCause.{OperandCause}
use Rattle.rpg_causes_operands.specs.declared.kinds.OperandCause.TheVariants.{BlankedDate, EditedText, TextOperand, TooFew, Unlike, Unwritable, WrongClass}
use Rattle.rpg_causes_operands.specs.declared.kinds.TextField.{TextField}
use Rattle.rpg_program.specs.declared.form.FieldForm.{FieldForm}
use Rattle.rpg_faults_operands.specs.Kinds.{has_too_few, has_wrong_class, is_text, is_unwritable, is_wrong_class, kinds_differ, wrong_kinds, wrong_result}
use Rattle.rpg_faults_operands.specs.Operands.{card_entry_form, factor_entry, factor_form, field_content, result_form}
use Rattle.rpg_sheet_specs.specs.declared.calculation.CalculationSpec.{CalculationSpec}
use Rattle.rpg_sheet_specs.specs.declared.column_range.ColumnRange.{ColumnRange}
use Rattle.rpg_sheet_specs.specs.declared.column_range.ColumnRange.TheVariants as range
use Rattle.rpg_sheet_specs.specs.declared.entry.Entry.{Entry}
use Rattle.rpg_sheet_specs.specs.declared.literal.Factor.{Factor}
use Rattle.rpg_sheet_specs.specs.declared.output.OutputField.{OutputField}

-- ---- what an operand by itself may be

-- what a column takes, and the field isn't: an array, or a table
abbrev pub of_content : ColumnRange → Content → FieldForm → Option OperandCause
of_content at c form = if is_wrong_class c form then Some (WrongClass at c) else None

-- an operand of another class than its column takes
abbrev pub of_class : Held → Option OperandCause
of_class h = option_and_then (λ c. option_and_then (of_content h.at c) h.form) h.content

-- a text, with the card that defines it; a literal has no name
abbrev pub text_with : List SpecCard → Option (List ℕ) → FieldForm → TextField
text_with cards name form = record { name = name; length = form.length; definer = option_and_then (λ x. definer x cards) name }

-- a text if a number is required
abbrev pub if_text : List SpecCard → Held → FieldForm → Option OperandCause
if_text cards h form = if is_text form then Some (TextOperand h.at (text_with cards h.name form)) else None

-- a text if the operation requires numbers
abbrev pub of_number : List SpecCard → Kinds → Held → Option OperandCause
of_number cards Numbers h = option_and_then (if_text cards h) h.form
of_number cards Alike h = None
of_number cards Any h = None

-- an operand that is wrong by itself
abbrev pub of_one : List SpecCard → Kinds → Held → Option OperandCause
of_one cards kinds h = option_or (of_class h) (of_number cards kinds h)

-- ---- what factors 1 and 2 may be together

-- a number and a text
abbrev pub if_unlike : Option FieldForm → Option FieldForm → Option OperandCause
if_unlike f g = if kinds_differ f g then option_and_then (λ m. option_map (Unlike m) g) f else None

-- a number and a text if the operation requires one kind
abbrev pub of_pair : Kinds → Option FieldForm → Option FieldForm → Option OperandCause
of_pair Numbers f g = None
of_pair Alike f g = if_unlike f g
of_pair Any f g = None

-- ---- what a result field may be

-- the date and constants are never written
abbrev pub if_unwritable : FieldForm → Option OperandCause
if_unwritable form = if is_unwritable form then Some Unwritable else None

-- a table that is found in with fewer entries than what is searched
abbrev pub if_too_few : FieldForm → FieldForm → Option OperandCause
if_too_few searched found = if has_too_few searched found then Some (TooFew found.entries searched.entries) else None

-- of a result field of that content
abbrev pub of_result : Content → Option FieldForm → Option FieldForm → Option OperandCause
of_result Value g r = option_and_then if_unwritable r
of_result Table g r = option_and_then (λ searched. option_and_then (if_too_few searched) r) g
of_result _ g r = None

-- ---- cards

-- factor 2, after factor 1
abbrev pub of_second : List SpecCard → Kinds → Held → Held → Option OperandCause
of_second cards kinds f g = option_or (of_one cards kinds g) (of_pair kinds f.form g.form)

-- the result field, after factor 2
abbrev pub of_third : List SpecCard → Kinds → Held → Held → Option OperandCause
of_third cards kinds g r = option_or (of_one cards kinds r) (option_and_then (λ c. of_result c g.form r.form) r.content)

-- the first that is wrong by itself, or together with those before it
abbrev pub of_operands : List SpecCard → Kinds → Held → Held → Held → Option OperandCause
of_operands cards kinds f g r = option_or (of_one cards kinds f) (option_or (of_second cards kinds f g) (of_third cards kinds g r))

-- the same as tests: of an operand by itself, of factors 1 and 2 together, and of the result
abbrev pub is_wrong_operand : Kinds → Held → Bool
is_wrong_operand kinds h = has_wrong_class h.content h.form || wrong_kinds kinds h.form None None

-- factor 2 holds what it may not, by itself or beside factor 1
abbrev pub is_wrong_second : Kinds → Held → Held → Bool
is_wrong_second kinds f g = is_wrong_operand kinds g || is_some (of_pair kinds f.form g.form)

-- the result field holds what it may not, by itself or beside factor 2
abbrev pub is_wrong_third : Kinds → Held → Held → Bool
is_wrong_third kinds g r = is_wrong_operand kinds r || option_map_or (λ c. wrong_result c g.form r.form) r.content false

-- one of three operands holds what it may not
abbrev pub are_wrong : Kinds → Held → Held → Held → Bool
are_wrong kinds f g r = is_wrong_operand kinds f || (is_wrong_second kinds f g || is_wrong_third kinds g r)

-- the name of an entry, if there is one
abbrev pub entry_name : Option Entry → Option (List ℕ)
entry_name e = option_map (λ (x : Entry). x.name) e

-- what a factor holds
abbrev pub held_factor : List SpecCard → ColumnRange → Column → Option Factor → Held
held_factor cards at column f =
    record { at = at; content = field_content column; name = entry_name (option_and_then factor_entry f); form = factor_form cards column f }

-- what the result field holds
abbrev pub held_result : List SpecCard → Column → Option Entry → Held
held_result cards column e = record { at = range.ResultName; content = field_content column; name = entry_name e; form = result_form cards column e }

-- F4 of a calculation with these columns
abbrev pub by_columns : List SpecCard → CalculationSpec → OperationColumns → Option OperandCause
by_columns cards k t =
    of_operands cards t.kinds (held_factor cards range.FirstFactor t.factor_1 k.factor_1)
    (held_factor cards range.SecondFactor t.factor_2 k.factor_2)
    (held_result cards t.result_field k.result_field)

-- F4 of a calculation, by the columns of its operation
abbrev pub in_calculation : List SpecCard → CalculationSpec → Option OperandCause
in_calculation cards k = option_and_then (λ o. by_columns cards k (card_columns o)) k.operation

-- a text that is edited, otherwise the date that is blanked
abbrev pub as_output : List SpecCard → List ℕ → OutputField → FieldForm → Option OperandCause
as_output cards name f form =
    if (is_some f.code || is_some f.text) && is_text form then Some (EditedText (text_with cards (Some name) form))
    else if f.blank_after && is_unwritable form then Some (BlankedDate name)
    else None

-- F4 of an output field
abbrev pub in_output : List SpecCard → OutputField → Option OperandCause
in_output cards f = option_and_then (λ (e : Entry). option_and_then (as_output cards e.name f) (card_entry_form cards e)) f.operand

-- F4 of the operation that ends on the card, or of an output field
abbrev pub operand_cause : List SpecCard → SpecCard → List SpecCard → Option OperandCause
operand_cause cards c after =
    option_or (option_and_then (in_calculation cards) (card_ending c after))
    (option_and_then (in_output cards) (output_field_on c.spec))

-- ---- the columns that a cause is about

-- the code if there is one, otherwise the word
abbrev pub edited_range : Option OutputField → ColumnRange
edited_range None = range.OutputText
edited_range (Some f) = if is_some f.code then range.OutputCode else range.OutputText

-- those of a cause, by the output field on the card
abbrev pub operand_range : Option OutputField → OperandCause → ColumnRange
operand_range f (WrongClass at wanted) = at
operand_range f (TextOperand at text) = at
operand_range f (Unlike first second) = range.SecondFactor
operand_range f Unwritable = range.ResultName
operand_range f (TooFew found searched) = range.ResultName
operand_range f (EditedText text) = edited_range f
operand_range f (BlankedDate name) = range.BlankAfter
