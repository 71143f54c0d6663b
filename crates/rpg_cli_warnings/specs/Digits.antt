-- W4: which results have fewer digits before their point than what they are made of.
use Rattle.std.specs.Prelude.{ℕ, ◌-◌, List, Bool, false, ◌||◌, ◌==◌, nat_le, nat_lt, Option, None, Some, if◌then◌else◌}
use Rattle.std.specs.Option.{option_and_then, option_map, option_map_or}
use Rattle.rpg_cards.specs.Cards.{calculation_on}
use Rattle.rpg_cards.specs.Constants.{form_of_factor}
use Rattle.rpg_cards.specs.Names.{form_of_name}
use Rattle.rpg_cards.specs.declared.names.Defined.{Defined}
use Rattle.rpg_cards.specs.declared.names.Defined.TheVariants as defined
use Rattle.rpg_cards.specs.declared.spec_card.SpecCard.{SpecCard}
use Rattle.rpg_program.specs.declared.form.FieldForm.{FieldForm}
use Rattle.rpg_program.specs.declared.form.Kind.{Kind}
use Rattle.rpg_program.specs.declared.form.Kind.TheVariants as of_field
use Rattle.rpg_sheet_specs.specs.declared.calculation.CalculationSpec.{CalculationSpec}
use Rattle.rpg_sheet_specs.specs.declared.calculation.Operation.{Operation}
use Rattle.rpg_sheet_specs.specs.declared.calculation.Operation.TheVariants as operation
use Rattle.rpg_sheet_specs.specs.declared.entry.Entry.{Entry}
use Rattle.rpg_sheet_specs.specs.declared.literal.Factor.{Factor}
use Rattle.rpg_warnings_lines.specs.Unused.{result_columns}
use Rattle.rpg_warnings_lines.specs.declared.warning.Warning.{Warning}
use Rattle.rpg_warnings_lines.specs.declared.warning.WarningKind.{WarningKind}
use Rattle.rpg_warnings_lines.specs.declared.warning.WarningKind.TheVariants as kind

-- the digits before the decimal point of a number; a text has none
abbrev pub digits_by : Kind → FieldForm → Option ℕ
digits_by of_field.Number f = Some (f.length - f.decimals)
digits_by of_field.Text f = None

-- the digits of a number before its point
abbrev pub whole_digits : FieldForm → Option ℕ
whole_digits f = digits_by f.kind f

-- likewise for a name or constant, if it has a form
abbrev pub whole_digits_of : Defined → Option ℕ
whole_digits_of (defined.Valid f) = whole_digits f
whole_digits_of defined.Missing = None
whole_digits_of defined.Bad = None

-- likewise for a factor
unfoldable pub factor_digits : List SpecCard → Option Factor → Option ℕ
factor_digits cards f = option_and_then (λ x. whole_digits_of (form_of_factor x cards)) f

-- likewise for the result field
unfoldable pub result_digits : List SpecCard → Option Entry → Option ℕ
result_digits cards r = option_and_then (λ (e : Entry). whole_digits_of (form_of_name e.name cards)) r

-- the greater of two, or the only one
abbrev pub greater_of : Option ℕ → Option ℕ → Option ℕ
greater_of (Some a) (Some b) = Some (if nat_le a b then b else a)
greater_of (Some a) None = Some a
greater_of None b = b

-- a product with a fraction is mostly the shorter
abbrev pub is_fraction : Option ℕ → Bool
is_fraction n = option_map_or (λ x. x == 0) n false

-- the least that a product has: as many as its longer factor, unless one may be below 1
abbrev pub product_digits : Option ℕ → Option ℕ → Option ℕ
product_digits a b = if is_fraction a || is_fraction b then None else greater_of a b

-- the digits that the result needs, by the operation
abbrev pub wanted_by : Option Operation → Option ℕ → Option ℕ → Option ℕ
wanted_by (Some operation.Add) a b = greater_of a b
wanted_by (Some operation.Subtract) a b = greater_of a b
wanted_by (Some operation.ZeroAdd) a b = greater_of a b
wanted_by (Some operation.ZeroSubtract) a b = greater_of a b
wanted_by (Some operation.Multiply) a b = product_digits a b
wanted_by o a b = None

-- the digits of the longest factor
unfoldable pub wanted_digits : List SpecCard → CalculationSpec → Option ℕ
wanted_digits cards k = wanted_by k.operation (factor_digits cards k.factor_1) (factor_digits cards k.factor_2)

-- a warning if the result field has fewer digits than it needs
abbrev pub shorter : Option ℕ → Option ℕ → Option WarningKind
shorter (Some f) (Some r) = if nat_lt r f then Some (kind.Shorter r f) else None
shorter (Some f) None = None
shorter None r = None

-- a warning on the result field of a card
abbrev pub warned_of : SpecCard → WarningKind → Warning
warned_of c k = record { card = c.number; columns = result_columns; kind = k }

-- the warning on a C card about digits that may be lost
abbrev pub shorter_by : List SpecCard → CalculationSpec → Option WarningKind
shorter_by cards k = shorter (wanted_digits cards k) (result_digits cards k.result_field)

-- the warning on a card about digits that may be lost
unfoldable pub shorter_on : List SpecCard → SpecCard → Option Warning
shorter_on cards c = option_map (warned_of c) (option_and_then (shorter_by cards) (calculation_on c.spec))
