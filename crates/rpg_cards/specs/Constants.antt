-- The constants on the cards themselves.
use Rattle.std.specs.Prelude.{◌≤◌, ◌<◌, ◌^◌, unsigned_abs, IsTrue, List, [], ◌∷◌, ◌++◌, length, Bool, false, ◌&&◌, ◌==◌, nat_eq, Option, None, Some, is_none, if◌then◌else◌}
use Rattle.std.specs.List.{list_all}
use Rattle.std.specs.Option.{option_and_then, option_map, option_to_list}
use Rattle.std.specs.Ordering.{int_eq}
use Rattle.std.specs.Cmp.Lexicographic.{pointwise}
use Rattle.rpg_cards.specs.Insertions.{insert_all}
use Rattle.rpg_cards.specs.Cards.{calculation_on, output_field_on}
use Rattle.rpg_cards.specs.Names.{form_of_name}
use Rattle.rpg_cards.specs.declared.constants.Constant.{Constant}
use Rattle.rpg_cards.specs.declared.constants.Constant.TheVariants.{Number, Text}
use Rattle.rpg_cards.specs.declared.names.Defined.{Defined}
use Rattle.rpg_cards.specs.declared.names.Defined.TheVariants.{Valid}
use Rattle.rpg_cards.specs.declared.spec_card.SpecCard.{SpecCard}
use Rattle.rpg_program.specs.declared.form.Class.TheVariants as class
use Rattle.rpg_program.specs.declared.form.FieldForm.{FieldForm}
use Rattle.rpg_program.specs.declared.form.Kind.TheVariants as kind
use Rattle.rpg_sheet_specs.specs.declared.calculation.CalculationSpec.{CalculationSpec}
use Rattle.rpg_sheet_specs.specs.declared.literal.Factor.{Factor}
use Rattle.rpg_sheet_specs.specs.declared.literal.Factor.TheVariants as factor
use Rattle.rpg_sheet_specs.specs.declared.literal.Literal.{Literal}
use Rattle.rpg_sheet_specs.specs.declared.literal.Literal.TheVariants as literal
use Rattle.rpg_sheet_specs.specs.declared.output.OutputField.{OutputField}
use Rattle.rpg_sheet_specs.specs.declared.spec.Spec.{Spec}
use Rattle.rpg_text.specs.Texts.{is_character}

-- a literal as a constant
abbrev pub constant_of : Literal → Constant
constant_of (literal.Number n) = Number n
constant_of (literal.Text text) = Text text

-- the constant in a factor
abbrev pub factor_constant : Factor → Option Constant
factor_constant (factor.Entry e) = None
factor_constant (factor.Literal l) = Some (constant_of l)

-- the form of a constant
abbrev pub constant_form : Constant → FieldForm
constant_form (Number n) = record { kind = kind.Number; class = class.Constant; length = n.length; decimals = n.decimals; is_ascending = false; entries = 1 }
constant_form (Text text) = record { kind = kind.Text; class = class.Constant; length = length text; decimals = 0; is_ascending = false; entries = 1 }

-- a number of 1 to 15 digits, or a text of 1 to 24 characters
abbrev pub IsConstant : Constant → Type 0
IsConstant (Number n) = (1 ≤ n.length) × (n.length ≤ 15) × (n.decimals ≤ 9) × (n.decimals ≤ n.length) × (unsigned_abs n.value < 10 ^ n.length)
IsConstant (Text text) = (1 ≤ length text) × (length text ≤ 24) × IsTrue (list_all is_character text)

-- one constant serves for all of the same kind, length, decimals and value
abbrev pub is_same : Constant → Constant → Bool
is_same (Number m) (Number n) = int_eq m.value n.value && (m.length == n.length) && (m.decimals == n.decimals)
is_same (Number m) (Text t) = false
is_same (Text s) (Number n) = false
is_same (Text s) (Text t) = pointwise nat_eq s t

-- ---- the constants of a card: those of the factors, or the constant or edit word of an output field (the fill of a code isn't one)

-- the constant or edit word of an output field
abbrev pub text_constant : OutputField → Option Constant
text_constant f = if is_none f.code then option_map Text f.text else None

-- the constants in the two factors of a calculation
abbrev pub factor_constants : CalculationSpec → List Constant
factor_constants k = option_to_list (option_and_then factor_constant k.factor_1) ++ option_to_list (option_and_then factor_constant k.factor_2)

-- the constants on a card
abbrev pub constants_on : Spec → List Constant
constants_on s =
    option_to_list (option_and_then (λ k. option_and_then factor_constant k.factor_1) (calculation_on s))
    ++ option_to_list (option_and_then (λ k. option_and_then factor_constant k.factor_2) (calculation_on s))
    ++ option_to_list (option_and_then text_constant (output_field_on s))

-- the constants on these cards, with duplicates
abbrev pub constants_in : List SpecCard → List Constant
constants_in [] = []
constants_in (c ∷ cs) = constants_on c.spec ++ constants_in cs

-- without duplicates: each where it comes first
abbrev pub constants : List SpecCard → List Constant
constants cards = insert_all is_same [] (constants_in cards)

-- the form of a factor
abbrev pub form_of_factor : Factor → List SpecCard → Defined
form_of_factor (factor.Entry e) cards = form_of_name e.name cards
form_of_factor (factor.Literal l) cards = Valid (constant_form (constant_of l))
