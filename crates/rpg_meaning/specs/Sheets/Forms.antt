-- The forms of names and constants: kind, length, decimals, and how many entries they have.
use Rattle.std.specs.Prelude.{ℕ, ◌+◌, ◌-◌, ◌==◌, nat_eq, nat_le, Bool, false, ◌&&◌, ◌||◌, List, [], ◌∷◌, Option, None, Some, codes, length, take, if◌then◌else◌}
use Rattle.std.specs.Cmp.Lexicographic.{pointwise}
use Rattle.std.specs.List.{filter_map, flat_map, list_any, slice_get}
use Rattle.std.specs.Option.{option_map, option_map_or, option_or, option_to_list}
use Rattle.std.specs.Ordering.{int_eq}
use Rattle.rpg_cards.specs.Keys.{Fixed, Key, Named, Nowhere}
use Rattle.rpg_cards.specs.declared.constants.Constant.{Constant}
use Rattle.rpg_cards.specs.declared.constants.Constant.TheVariants as constant
use Rattle.rpg_cards.specs.declared.names.Definition.{Definition}
use Rattle.rpg_cards.specs.declared.spec_card.SpecCard.{SpecCard}
use Rattle.rpg_program.specs.declared.form.Class.{Class}
use Rattle.rpg_program.specs.declared.form.Class.TheVariants as class
use Rattle.rpg_program.specs.declared.form.FieldForm.{FieldForm}
use Rattle.rpg_program.specs.declared.form.Kind.TheVariants as kind
use Rattle.rpg_edit_marks.specs.declared.code.EditCode.{EditCode}
use Rattle.rpg_sheet_specs.specs.declared.entry.Entry.{Entry}
use Rattle.rpg_sheet_specs.specs.declared.extension.TableSpec.{TableSpec}
use Rattle.rpg_sheet_specs.specs.declared.input.InputFieldSpec.{InputFieldSpec}
use Rattle.rpg_sheet_specs.specs.declared.input.InputSpec.{InputSpec}
use Rattle.rpg_sheet_specs.specs.declared.input.InputSpec.TheVariants as input
use Rattle.rpg_sheet_specs.specs.declared.literal.Factor.{Factor}
use Rattle.rpg_sheet_specs.specs.declared.literal.Factor.TheVariants as factor
use Rattle.rpg_sheet_specs.specs.declared.literal.Literal.{Literal}
use Rattle.rpg_sheet_specs.specs.declared.literal.Literal.TheVariants as literal
use Rattle.rpg_sheet_specs.specs.declared.output.OutputSpec.{OutputSpec}
use Rattle.rpg_sheet_specs.specs.declared.output.OutputSpec.TheVariants as output
use Rattle.rpg_sheet_specs.specs.declared.spec.Spec.{Spec}
use Rattle.rpg_sheet_specs.specs.declared.spec.Spec.TheVariants as spec
use Rattle.rpg_text.specs.Texts.{is_between}

-- the form of a number
abbrev pub a_number : Class → ℕ → ℕ → FieldForm
a_number c len decimals = record { kind = kind.Number; class = c; length = len; decimals = decimals; is_ascending = false; entries = 1 }

-- ---- a length and decimals: if the decimals are blank a text of 1 to 256 characters, otherwise a number of 1 to 15 digits with at most 9
-- decimals

-- a form of that length: a text if the decimals are blank; none if the length is out of its limits
abbrev pub sized_as : Class → ℕ → Bool → ℕ → Option ℕ → Option FieldForm
sized_as c entries ascending len None =
    if is_between 1 256 len then Some (record { kind = kind.Text; class = c; length = len; decimals = 0; is_ascending = ascending; entries = entries }) else None
sized_as c entries ascending len (Some d) =
    if is_between 1 15 len && nat_le d 9 && nat_le d len then Some (record { kind = kind.Number; class = c; length = len; decimals = d; is_ascending = ascending; entries = entries }) else None

-- ---- the cards that define a name

-- an I card: the name 53-58, as long as the columns 44-47 to 48-51, with the decimals 52
abbrev pub meant_field_form : InputFieldSpec → Option FieldForm
meant_field_form f = if nat_le f.from f.to then sized_as class.Plain 1 false (f.to + 1 - f.from) f.decimals else None

-- what an I card defines
abbrev pub given_by_input : InputSpec → List Definition
given_by_input (input.Type t) = []
given_by_input (input.And codes) = []
given_by_input (input.Field f) = record { name = f.name; form = meant_field_form f } ∷ []

-- a C card with a length in 49-51: the result field 43-48, with the decimals 52
abbrev pub given_by_result : Option Entry → Option ℕ → Option ℕ → List Definition
given_by_result (Some e) (Some len) decimals = record { name = e.name; form = sized_as class.Plain 1 false len decimals } ∷ []
given_by_result None len decimals = []
given_by_result (Some e) None decimals = []

-- an E card: a name that begins with TAB is a table, any other an array; 36-39 entries of the length 40-42, with the decimals 44; 45 ascending
abbrev pub meant_class : List ℕ → Class
meant_class name = if pointwise nat_eq (codes "TAB") (take 3 name) then class.Table else class.Array

-- what an E card defines by one of its names
abbrev pub given_by_table : ℕ → TableSpec → Definition
given_by_table entries t = record { name = t.name; form = if is_between 1 9999 entries then sized_as (meant_class t.name) entries t.ascending t.length t.decimals else None }

-- what a card defines
abbrev pub given_on : Spec → List Definition
given_on (spec.Extension e) = given_by_table e.entries e.table ∷ option_to_list (option_map (given_by_table e.entries) e.alternating)
given_on (spec.Input x) = given_by_input x
given_on (spec.Calculation k) = given_by_result k.result_field k.length k.decimals
given_on _ = []

-- ---- names

-- UDATE and PAGE are predefined
abbrev pub standing_form : List ℕ → Option FieldForm
standing_form name = if pointwise nat_eq name (codes "UDATE") then Some (a_number class.Date 6 0) else (if pointwise nat_eq name (codes "PAGE") then Some (a_number class.Plain 4 0) else None)

-- the form that a definition gives a name
abbrev pub form_given : List ℕ → Definition → Option FieldForm
form_given name d = if pointwise nat_eq name d.name then d.form else None

-- a name has the form that the first card defining it gives it
abbrev pub form_of_named : List SpecCard → List ℕ → Option FieldForm
form_of_named cards name = option_or (standing_form name) (slice_get (filter_map (form_given name) (flat_map (λ c. given_on c.spec) cards)) 0)

-- ---- constants

-- the form of a constant
abbrev pub form_of_constant : Constant → FieldForm
form_of_constant (constant.Number n) = record { kind = kind.Number; class = class.Constant; length = n.length; decimals = n.decimals; is_ascending = false; entries = 1 }
form_of_constant (constant.Text text) = record { kind = kind.Text; class = class.Constant; length = length text; decimals = 0; is_ascending = false; entries = 1 }

-- ---- the constants of a source: the literals in factors, and the texts in 45-70 of O cards, except the fill of an edit code

-- the constant has the literal's value
abbrev pub is_literal : Constant → Literal → Bool
is_literal (constant.Number m) (literal.Number n) = int_eq m.value n.value && (m.length == n.length) && (m.decimals == n.decimals)
is_literal (constant.Number m) (literal.Text t) = false
is_literal (constant.Text s) (literal.Number n) = false
is_literal (constant.Text s) (literal.Text t) = pointwise nat_eq s t

-- the constant is in the factor
abbrev pub is_in_factor : Constant → Option Factor → Bool
is_in_factor c None = false
is_in_factor c (Some (factor.Entry e)) = false
is_in_factor c (Some (factor.Literal l)) = is_literal c l

-- a text is a constant of that text
abbrev pub is_constant_of_text : Constant → List ℕ → Bool
is_constant_of_text (constant.Number n) text = false
is_constant_of_text (constant.Text t) text = pointwise nat_eq t text

-- the constant is in the output field, which has no edit code
abbrev pub is_in_field : Constant → Option EditCode → Option (List ℕ) → Bool
is_in_field c None text = option_map_or (is_constant_of_text c) text false
is_in_field c (Some code) text = false

-- the constant is on the O card
abbrev pub is_on_output : Constant → OutputSpec → Bool
is_on_output c (output.Field f) = is_in_field c f.code f.text
is_on_output c _ = false

-- the constant is on the card
abbrev pub is_on_card : Constant → Spec → Bool
is_on_card c (spec.Calculation k) = is_in_factor c k.factor_1 || is_in_factor c k.factor_2
is_on_card c (spec.Output x) = is_on_output c x
is_on_card c _ = false

-- the constant is on one of the cards
abbrev pub stands_on : List SpecCard → Constant → Bool
stands_on cards c = list_any (λ card. is_on_card c card.spec) cards

-- ---- keys

-- the form of each name and constant of a source
abbrev pub meant_forms : List SpecCard → Key → Option FieldForm
meant_forms cards (Named name) = form_of_named cards name
meant_forms cards (Fixed c) = if stands_on cards c then Some (form_of_constant c) else None
meant_forms cards Nowhere = None

-- a text on the cards is an edit word of its characters
abbrev pub meant_words : List SpecCard → Key → List ℕ
meant_words cards (Fixed (constant.Text text)) = if stands_on cards (constant.Text text) then text else []
meant_words cards _ = []
