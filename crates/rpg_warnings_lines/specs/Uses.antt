-- Which names cards use, by their places among the different names of the source.
use Rattle.std.specs.Prelude.{ℕ, List, [], ◌∷◌, Bool, true, false, not, ◌&&◌, ◌||◌, nat_eq, Option, None, Some, is_none, is_some, position, if◌then◌else◌}
use Rattle.std.specs.Cmp.Lexicographic.{pointwise}
use Rattle.std.specs.Option.{option_and_then, option_map_or}
use Rattle.rpg_cards.specs.Names.{is_of, names}
use Rattle.rpg_cards.specs.declared.spec_card.SpecCard.{SpecCard}
use Rattle.rpg_sheet_specs.specs.declared.calculation.CalculationSpec.{CalculationSpec}
use Rattle.rpg_sheet_specs.specs.declared.calculation.Operation.{Operation}
use Rattle.rpg_sheet_specs.specs.declared.calculation.Operation.TheVariants as operation
use Rattle.rpg_sheet_specs.specs.declared.entry.Entry.{Entry}
use Rattle.rpg_sheet_specs.specs.declared.entry.EntryIndex.{EntryIndex}
use Rattle.rpg_sheet_specs.specs.declared.entry.EntryIndex.TheVariants as index
use Rattle.rpg_sheet_specs.specs.declared.extension.ExtensionSpec.{ExtensionSpec}
use Rattle.rpg_sheet_specs.specs.declared.extension.TableSpec.{TableSpec}
use Rattle.rpg_sheet_specs.specs.declared.input.InputSpec.TheVariants as input
use Rattle.rpg_sheet_specs.specs.declared.literal.Factor.{Factor}
use Rattle.rpg_sheet_specs.specs.declared.literal.Factor.TheVariants as factor
use Rattle.rpg_sheet_specs.specs.declared.output.OutputSpec.TheVariants as output
use Rattle.rpg_sheet_specs.specs.declared.spec.Spec.{Spec}
use Rattle.rpg_sheet_specs.specs.declared.spec.Spec.TheVariants as spec

module _ (cards : List SpecCard) where
  -- a name's place among the different names; none if no card defines it
  abbrev pub place : List ℕ → Option ℕ
  place name = position (is_of name) (names cards)

  -- the place of a field, or of an entry's array
  abbrev pub entry_place : Option Entry → Option ℕ
  entry_place e = option_and_then (λ (x : Entry). place x.name) e

  -- the place of a name that is an index
  abbrev pub index_named : Option EntryIndex → Option ℕ
  index_named None = None
  index_named (Some (index.Literal n)) = None
  index_named (Some (index.Name name)) = place name

  -- the place of the field that has an entry's index
  abbrev pub named_index : Entry → Option ℕ
  named_index e = index_named e.index

  -- likewise, if there is an entry
  abbrev pub index_place : Option Entry → Option ℕ
  index_place e = option_and_then named_index e

  -- the place of a factor
  abbrev pub factor_place : Option Factor → Option ℕ
  factor_place None = None
  factor_place (Some (factor.Entry e)) = place e.name
  factor_place (Some (factor.Literal l)) = None

  -- the place of the field that has a factor's index
  abbrev pub factor_index : Option Factor → Option ℕ
  factor_index None = None
  factor_index (Some (factor.Entry e)) = named_index e
  factor_index (Some (factor.Literal l)) = None

-- ADD and SUB
abbrev pub is_sum : Option Operation → Bool
is_sum (Some operation.Add) = true
is_sum (Some operation.Subtract) = true
is_sum o = false

-- a factor and a result field of one name
abbrev pub is_result : Option Factor → Option Entry → Bool
is_result (Some (factor.Entry f)) (Some r) = pointwise nat_eq f.name r.name
is_result (Some (factor.Entry f)) None = false
is_result (Some (factor.Literal l)) r = false
is_result None r = false

-- ADD or SUB whose result is one of its factors; a blank factor 1 stands for the result
abbrev pub is_own_sum : CalculationSpec → Bool
is_own_sum k = is_sum k.operation && (is_none k.factor_1 || is_result k.factor_1 k.result_field || is_result k.factor_2 k.result_field)

-- XFOOT, LOKUP and MVR
abbrev pub needs_result : Option Operation → Bool
needs_result (Some operation.CrossFoot) = true
needs_result (Some operation.LookUp) = true
needs_result (Some operation.MoveRemainder) = true
needs_result _ = false

-- a result that nothing has to read: of XFOOT, LOKUP or MVR, or with indicators
abbrev pub counts_as_read : CalculationSpec → Bool
counts_as_read k = needs_result k.operation || (is_some k.resulting_indicators.first || is_some k.resulting_indicators.second || is_some k.resulting_indicators.third)

-- a factor that is a field
abbrev pub is_field : Option Factor → Bool
is_field (Some (factor.Entry e)) = true
is_field (Some (factor.Literal l)) = false
is_field None = false

-- an entry with an index
abbrev pub has_index : Option Entry → Bool
has_index e = option_map_or (λ (x : Entry). is_some x.index) e false

-- neither a factor nor an index is a field, and the result doesn't count as read
abbrev pub reads_nothing : CalculationSpec → Bool
reads_nothing k = not (is_field k.factor_1) && not (is_field k.factor_2) && not (has_index k.result_field) && not (counts_as_read k)

-- up to two names, among six
abbrev pub two_of_six : Option ℕ → Option ℕ → List (Option ℕ)
two_of_six a b = a ∷ b ∷ None ∷ None ∷ None ∷ None ∷ []

-- up to two names
abbrev pub two : Option ℕ → Option ℕ → List (Option ℕ)
two a b = a ∷ b ∷ []

module _ (cards : List SpecCard) where
  -- the place of a factor, unless it is the result of ADD or SUB
  abbrev pub factor_read : CalculationSpec → Option Factor → Option ℕ
  factor_read k f = if is_sum k.operation && is_result f k.result_field then None else factor_place cards f

  -- the place of a result that counts as read
  abbrev pub result_read : CalculationSpec → Option ℕ
  result_read k = if counts_as_read k then entry_place cards k.result_field else None

  -- the names that a calculation reads: the indexes, the factors, and a result that counts as read
  abbrev pub read_by : CalculationSpec → List (Option ℕ)
  read_by k =
      factor_index cards k.factor_1 ∷ factor_index cards k.factor_2 ∷ index_place cards k.result_field ∷ factor_read k k.factor_1 ∷ factor_read k k.factor_2 ∷ result_read k ∷ []

  -- the place of a second table
  abbrev pub table_place : Option TableSpec → Option ℕ
  table_place t = option_and_then (λ (x : TableSpec). place cards x.name) t

  -- the place of the first
  abbrev pub own_table : ExtensionSpec → Option ℕ
  own_table e = place cards e.table.name

  -- the names that an output field prints
  abbrev pub printed_on : Spec → List (Option ℕ)
  printed_on (spec.Output (output.Field f)) = two (entry_place cards f.operand) (index_place cards f.operand)
  printed_on s = two None None

  -- the names that other cards read; tables, and input fields, which describe records, count as read
  abbrev pub read_on : Spec → List (Option ℕ)
  read_on (spec.Extension e) = two_of_six (own_table e) (table_place e.alternating)
  read_on (spec.Input (input.Field f)) = two_of_six (place cards f.name) None
  read_on (spec.Calculation k) = read_by k
  read_on s = two_of_six None None

  -- the result field of a card
  abbrev pub result_on : Spec → Option ℕ
  result_on (spec.Calculation k) = entry_place cards k.result_field
  result_on s = None

  -- the result field that a card adds to
  abbrev pub sum_on : Spec → Option ℕ
  sum_on (spec.Calculation k) = if is_own_sum k then entry_place cards k.result_field else None
  sum_on s = None

  -- the result field that a calculation sets, other than by adding to it
  abbrev pub set_by : CalculationSpec → Option ℕ
  set_by k = if is_own_sum k then None else entry_place cards k.result_field

  -- the names that a card sets: by blank after, with a record, with data, or by a calculation that doesn't add to them
  abbrev pub set_on : Spec → List (Option ℕ)
  set_on (spec.Extension e) = if is_some e.entries_per_card then two (own_table e) (table_place e.alternating) else two None None
  set_on (spec.Input (input.Field f)) = two (place cards f.name) None
  set_on (spec.Calculation k) = two (set_by k) None
  set_on (spec.Output (output.Field f)) = if f.blank_after then two (entry_place cards f.operand) None else two None None
  set_on s = two None None
