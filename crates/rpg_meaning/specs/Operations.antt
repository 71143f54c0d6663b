-- What each operation of a C card does, an equation for each: the result field and the indicators, in terms of factor 1, factor 2 and the
-- result field of the card. Numbers are the columns of a C card.
use Rattle.std.specs.Prelude.{◌≡◌, ℕ, ◌+◌, ◌-◌, ◌==◌, nat_lt, ℤ, pos, neg_ℤ, Bool, true, false, List, [], ◌∷◌, Option, None, Some, is_some, if◌then◌else◌}
use Rattle.std.specs.FinSet as set
use Rattle.std.specs.List.{list_all}
use Rattle.std.specs.Option.{option_map, option_to_list}
use Rattle.std.specs.Ordering.{int_eq, nat_cmp}
use Rattle.rpg_cards.specs.Keys.{Key, Named, key_cmp}
use Rattle.rpg_decimal_words.specs.Fraction.{Fraction, fraction_cmp, minus, over, plus, times}
use Rattle.rpg_decimal_words.specs.Order.{text_cmp}
use Rattle.rpg_decimal_words.specs.Zoned.{number_in, zoned_text}
use Rattle.rpg_program.specs.Act.{exact, found_in, index_set, left_over, made_current, made_current_if_any, store, stored_value, summed}
use Rattle.rpg_program.specs.Entries.{entry_of, position_of}
use Rattle.rpg_program.specs.Forms.{decimals_of, kind_of, length_of}
use Rattle.rpg_program.specs.Lines.{exception_output}
use Rattle.rpg_program.specs.Rows.{holds_position}
use Rattle.rpg_program.specs.Showing.{all_on, named_off, shown}
use Rattle.rpg_program.specs.Values.{Number, Text, Value}
use Rattle.rpg_program.specs.World.{Data, characters_at, number_at, set_value, with_data}
use Rattle.rpg_program.specs.declared.form.FieldForm.{FieldForm}
use Rattle.rpg_program.specs.declared.form.Kind.{Kind}
use Rattle.rpg_program.specs.declared.form.Kind.TheVariants as kinds
use Rattle.rpg_program.specs.declared.operation.Entry.{Entry}
use Rattle.rpg_program.specs.declared.operation.Found.{Found}
use Rattle.rpg_program.specs.declared.operation.Operand.{Operand}
use Rattle.rpg_program.specs.declared.operation.Shows.{Shows}
use Rattle.rpg_meaning.specs.Sheets.Calculations.{done_by, entry_named, first_or, meant_factor, meant_indicators, meant_name, meant_result}
use Rattle.rpg_machine.specs.Config.{no_output}
use Rattle.rpg_meaning.specs.Calculations.Meaning.{MeantOutcome, On, Source, State, Stops, affected, at_next, statement_done}
use Rattle.rpg_meaning.specs.Calculations.Parts.{InSubroutine, Part, calculations_in, label_position}
use Rattle.rpg_sheet_specs.specs.declared.calculation.CalculationSpec.{CalculationSpec}
use Rattle.rpg_sheet_specs.specs.declared.calculation.Operation.{Operation}
use Rattle.rpg_sheet_specs.specs.declared.calculation.Operation.TheVariants as op

-- the negative of a number
abbrev pub negative : Fraction → Fraction
negative p = record p { top = neg_ℤ p.top }

-- the number is zero
abbrev pub is_zero : Fraction → Bool
is_zero p = int_eq p.top (pos 0)

-- a C card, in the state that the earlier calculations left
module _ (source : Source) (s : State) (k : CalculationSpec) where
  -- ---- the contents of the card

  -- factor 1, 18-27
  abbrev pub factor_1 : Operand Key
  factor_1 = meant_factor k.factor_1

  -- factor 1, or the result field if that is blank
  abbrev pub factor_1_or_result : Operand Key
  factor_1_or_result = first_or k.factor_1 k.result_field

  -- factor 2, 33-42
  abbrev pub factor_2 : Operand Key
  factor_2 = meant_factor k.factor_2

  -- the result field, 43-48
  abbrev pub result : Operand Key
  result = meant_result k.result_field

  -- the result field of LOKUP, which may be blank
  abbrev pub table_operand : Option (Operand Key)
  table_operand = option_map entry_named k.result_field

  -- the table that LOKUP finds an entry of
  abbrev pub table_field : Option Key
  table_field = option_map (λ e. Named e.name) k.result_field

  -- the resulting indicators, 54-55, 56-57 and 58-59
  abbrev pub indicators : Shows
  indicators = meant_indicators k

  -- ---- their present values

  -- the entry that an operand names
  abbrev pub operand_entry : Operand Key → Entry Key
  operand_entry o = entry_of source.forms s.world.data.fields o

  -- the form of an operand
  abbrev pub form : Operand Key → Option FieldForm
  form o = source.forms o.field

  -- a number or a text
  abbrev pub kind : Operand Key → Kind
  kind o = kind_of (form o)

  -- its length in digits or characters
  abbrev pub len : Operand Key → ℕ
  len o = length_of (form o)

  -- its number, with the decimal point
  abbrev pub operand_number : Operand Key → Fraction
  operand_number o = exact source.forms s.world.data (operand_entry o)

  -- the numbers of the factors
  abbrev pub first : Fraction
  first = operand_number factor_1_or_result

  -- the number of factor 2
  abbrev pub second : Fraction
  second = operand_number factor_2

  -- its number, without the decimal point
  abbrev pub operand_digits : Operand Key → ℤ
  operand_digits o = number_at s.world.data o.field (operand_entry o).position

  -- the characters of an operand
  abbrev pub operand_characters : Operand Key → List ℕ
  operand_characters o = characters_at s.world.data o.field (operand_entry o).position

  -- the sum of the array in factor 2
  abbrev pub sum : Fraction
  sum = summed source.forms s.world.data (operand_entry factor_2)

  -- what LOKUP finds: factor 1 among the entries of factor 2, from its index on
  abbrev pub found : Option Found
  found = found_in source.forms s.world.data (operand_entry factor_1) (operand_entry factor_2) indicators

  -- the remainder of a division: its quotient has the decimals of the result field
  abbrev pub remainder_left : Fraction
  remainder_left = left_over first (decimals_of (form factor_1_or_result)) second (decimals_of (form factor_2)) (decimals_of (form result))

  -- ---- the outcome

  -- the next calculation follows, with this data
  abbrev pub goes_to_next : Data key_cmp → MeantOutcome
  goes_to_next d = On (record s { world = with_data d s.world; next = s.next + 1 }) no_output

  -- the job halts with that number
  abbrev pub halts : ℕ → MeantOutcome
  halts n = Stops n s no_output

  -- halt 2 if an index of these operands is out of range
  abbrev pub unless_out_of_range : List (Operand Key) → MeantOutcome → MeantOutcome
  unless_out_of_range os outcome = if list_all (λ o. is_some (position_of source.forms s.world.data.fields o)) os then outcome else halts 2

  -- the operands of ADD, SUB, MULT and DIV; of Z-ADD, Z-SUB, XFOOT and the moves; of MVR; of COMP; of LOKUP
  abbrev pub computing : MeantOutcome → MeantOutcome
  computing = unless_out_of_range (factor_1_or_result ∷ factor_2 ∷ result ∷ [])

  -- halt 2 in its place, if the index of factor 2 or of the result field is out of range
  abbrev pub assigning : MeantOutcome → MeantOutcome
  assigning = unless_out_of_range (factor_2 ∷ result ∷ [])

  -- likewise for the result field alone
  abbrev pub taking : MeantOutcome → MeantOutcome
  taking = unless_out_of_range (result ∷ [])

  -- likewise for both factors
  abbrev pub comparing : MeantOutcome → MeantOutcome
  comparing = unless_out_of_range (factor_1 ∷ factor_2 ∷ [])

  -- likewise for both factors and the table
  abbrev pub searching : MeantOutcome → MeantOutcome
  searching = unless_out_of_range (factor_1 ∷ factor_2 ∷ option_to_list table_operand)

  -- The result field becomes this number: its decimals too many are cut off or half adjusted, and its digits too many on the left are lost. The
  -- indicators show its sign.
  abbrev pub becomes_in : Data key_cmp → Bool → Fraction → MeantOutcome
  becomes_in d half n = goes_to_next (store d (operand_entry result) indicators (stored_value half (form result) n))

  -- with an H in 53 half adjusted
  abbrev pub becomes : Fraction → MeantOutcome
  becomes n = becomes_in s.world.data k.half_adjust n

  -- the result field takes a value
  abbrev pub takes : Value → MeantOutcome
  takes v = goes_to_next (set_value s.world.data result.field (operand_entry result).position v)

  -- the result field takes the number that a text spells; halt 4 if it spells none
  abbrev pub takes_number : Option ℤ → MeantOutcome
  takes_number None = halts 4
  takes_number (Some n) = takes (Number n)

  -- indicators turn on or off
  abbrev pub turned : (set.FinSet nat_cmp → set.FinSet nat_cmp) → Data key_cmp → Data key_cmp
  turned f d = record d { on = f d.on }

  -- a position that LOKUP finds: it becomes the index of factor 2, and the current entry of a table in factor 2 and in the result field
  abbrev pub pointing_at : ℕ → Data key_cmp
  pointing_at n = made_current_if_any source.forms table_field n (made_current source.forms factor_2.field n (index_set factor_2.index n s.world.data))

  -- one of the allowance is spent; halt 5 if none is left
  abbrev pub spends_one : State → MeantOutcome
  spends_one t = if s.allowance == 0 then halts 5 else On (record t { allowance = s.allowance - 1 }) no_output

  -- the card, with an operation in 28-32
  abbrev pub does : Operation → MeantOutcome
  does operation = statement_done source s (done_by k (Some operation))

  -- ---- ADD, SUB, MULT, DIV, MVR, Z-ADD, Z-SUB, XFOOT

  -- ADD, SUB, MULT, Z-ADD, Z-SUB, XFOOT, MVR
  pub record Computes : Type 0 where
    -- the result field becomes factor 1 plus, minus, or times factor 2
    pub add : does op.Add ≡ computing (becomes (plus first second))
    pub subtract : does op.Subtract ≡ computing (becomes (minus first second))
    pub multiply : does op.Multiply ≡ computing (becomes (times first second))
    -- it becomes factor 2, or factor 2 with the other sign
    pub zero_add : does op.ZeroAdd ≡ assigning (becomes second)
    pub zero_subtract : does op.ZeroSubtract ≡ assigning (becomes (negative second))
    -- it becomes the sum of the array in factor 2
    pub cross_foot : does op.CrossFoot ≡ assigning (becomes sum)
    -- it becomes what the last division has left, cut off
    pub move_remainder : does op.MoveRemainder ≡ taking (becomes_in s.world.data false s.world.data.remainder)

  -- DIV
  pub record Divides : Type 0 where
    -- halt 1 if factor 2 is zero
    pub by_zero : is_zero second ≡ true → does op.Divide ≡ computing (halts 1)
    -- the result field becomes factor 1 divided by factor 2, and what is left is kept for MVR
    pub exactly : is_zero second ≡ false → k.half_adjust ≡ false → does op.Divide
        ≡ computing (becomes_in (record s.world.data { remainder = remainder_left }) false (over first second))
    -- half adjusted it leaves nothing new
    pub half_adjusted : is_zero second ≡ false → k.half_adjust ≡ true → does op.Divide
        ≡ computing (becomes_in s.world.data true (over first second))

  -- ---- MOVE and MOVEL

  -- the places of factor 2 over those of the result field: how places come over others, and how the digits of one number over those of another
  pub record Moves (operation : Operation) (places : List ℕ → List ℕ → List ℕ) (number_places : ℕ → ℤ → ℕ → ℤ → ℤ) : Type 0 where
    -- number to number: digits over digits
    pub number_to_number : kind factor_2 ≡ kinds.Number → kind result ≡ kinds.Number → does operation
        ≡ assigning (takes (Number (number_places (len factor_2) (operand_digits factor_2) (len result) (operand_digits result))))
    -- number to text: the characters that are written for it
    pub number_to_text : kind factor_2 ≡ kinds.Number → kind result ≡ kinds.Text → does operation
        ≡ assigning (takes (Text (places (zoned_text (len factor_2) (operand_digits factor_2)) (operand_characters result))))
    pub text_to_text : kind factor_2 ≡ kinds.Text → kind result ≡ kinds.Text → does operation
        ≡ assigning (takes (Text (places (operand_characters factor_2) (operand_characters result))))
    -- text to number: over the characters that are written for the number; halt 4 if they then spell no number
    pub text_to_number : kind factor_2 ≡ kinds.Text → kind result ≡ kinds.Number → does operation
        ≡ assigning (takes_number (number_in (places (operand_characters factor_2) (zoned_text (len result) (operand_digits result)))))

  -- ---- COMP and LOKUP

  -- of the indicators that are named only the one for high, low or equal is on then
  pub record Compares : Type 0 where
    -- numbers by their values
    pub numbers : kind factor_1 ≡ kinds.Number → does op.Compare
        ≡ comparing (goes_to_next (turned (shown indicators (fraction_cmp (operand_number factor_1) (operand_number factor_2))) s.world.data))
    -- texts by the order of characters
    pub texts : kind factor_1 ≡ kinds.Text → does op.Compare
        ≡ comparing (goes_to_next (turned (shown indicators (text_cmp (operand_characters factor_1) (operand_characters factor_2))) s.world.data))

  -- LOKUP
  pub record LooksUp : Type 0 where
    -- nothing is found: all named indicators turn off, and the index of factor 2 becomes 1
    pub nothing : found ≡ None → does op.LookUp
        ≡ searching (goes_to_next (turned (named_off indicators) (index_set factor_2.index 1 s.world.data)))
    -- something is found: its position goes where it belongs, and the indicator for high, low or equal turns on
    pub something : (f : Found) → found ≡ Some f → holds_position source.forms factor_2.index table_field f.position ≡ true
        → does op.LookUp ≡ searching (goes_to_next (turned (shown indicators f.order) (pointing_at f.position)))

  -- ---- SETON, SETOF, EXCPT

  -- SETON, SETOF and EXCPT
  pub record Sets : Type 0 where
    -- all named indicators turn on, or off
    pub on : does op.SetOn ≡ goes_to_next (turned (all_on indicators) s.world.data)
    pub off : does op.SetOff ≡ goes_to_next (turned (named_off indicators) s.world.data)
    -- the lines of time E are output
    pub except : does op.Except ≡ affected s (exception_output source.forms source.words source.overflow source.lines s.world)

  -- ---- GOTO, TAG, EXSR, BEGSR, ENDSR

  -- where the label in factor 2 stands among the calculations of the section
  abbrev pub target : ℕ
  target = label_position (meant_name k.factor_2) (calculations_in source.sections s.part)

  -- GOTO, TAG, EXSR, BEGSR and ENDSR
  pub record TransfersControl : Type 0 where
    -- a label after this calculation is next
    pub go_to_later : nat_lt target s.next ≡ false → does op.GoTo ≡ On (at_next s target) no_output
    -- an earlier one costs one of the allowance
    pub go_to_earlier : nat_lt target s.next ≡ true → does op.GoTo ≡ spends_one (at_next s target)
    -- the subroutine in factor 2 begins, for one of the allowance, and its ENDSR comes back to the next calculation
    pub call : does op.Call ≡ spends_one (record s { part = InSubroutine (meant_name k.factor_2); next = 0; back = (s.part, s.next + 1) ∷ s.back })
    pub end_subroutine : (part : Part) (next : ℕ) (others : List (Part × ℕ)) → s.back ≡ (part, next) ∷ others → does op.EndSubroutine
        ≡ On (record s { part = part; next = next; back = others }) no_output
    -- these do nothing
    pub label : does op.Label ≡ goes_to_next s.world.data
    pub begin_subroutine : does op.BeginSubroutine ≡ goes_to_next s.world.data
