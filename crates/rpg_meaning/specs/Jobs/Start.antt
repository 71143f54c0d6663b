-- What a job starts with, by names.
use Rattle.std.specs.Prelude.{◌≡◌, ℕ, zero, suc, ℤ, pos, ◌==◌, Bool, true, false, ◌&&◌, List, [], ◌∷◌, Option, None, Some, if◌then◌else◌}
use Rattle.std.specs.FinMap as map
use Rattle.std.specs.FinSet as set
use Rattle.std.specs.Option.{option_and_then, option_map_or}
use Rattle.rpg_cards.specs.Keys.{Fixed, Key, Named, Nowhere, key_cmp}
use Rattle.rpg_cards.specs.declared.constants.Constant.{Constant}
use Rattle.rpg_cards.specs.declared.spec_card.SpecCard.{SpecCard}
use Rattle.rpg_cycle.specs.Indicators.{first_page, level_zero}
use Rattle.rpg_decimal_words.specs.Fraction.{with_decimals}
use Rattle.rpg_program.specs.Forms.{has_field, is_date, is_table_form}
use Rattle.rpg_program.specs.Values.{Number, Value}
use Rattle.rpg_program.specs.World.{World, value_in}
use Rattle.rpg_program.specs.declared.form.FieldForm.{FieldForm}
use Rattle.rpg_meaning.specs.Sheets.FirstValues.{meant_constant, meant_named_value}
use Rattle.rpg_meaning.specs.Sheets.Forms.{meant_forms, stands_on}

-- a name has its data, otherwise zeros or blanks; a constant its own value. Entries are counted from 1
abbrev pub meant_first_value : List SpecCard → Key → ℕ → Option Value
meant_first_value cards k zero = None
meant_first_value cards (Named name) (suc n) = option_and_then (λ form. meant_named_value cards name form n) (meant_forms cards (Named name))
meant_first_value cards (Fixed c) (suc zero) = Some (meant_constant c)
meant_first_value cards (Fixed c) (suc (suc n)) = None
meant_first_value cards Nowhere (suc n) = None

-- the field has the date
abbrev pub takes_date : Option FieldForm → Bool
takes_date form = option_map_or (λ f. is_date f.class) form false

-- the date is in UDATE
abbrev pub start_value : List SpecCard → ℤ → Key → ℕ → Option Value
start_value cards date k n = if takes_date (meant_forms cards k) && n == 1 then Some (Number date) else meant_first_value cards k n

-- each constant on the cards has the value as written
abbrev pub ConstantsStand : List SpecCard → World key_cmp → Type 0
ConstantsStand cards w = (c : Constant) → stands_on cards c ≡ true → value_in w.data.fields (Fixed c, 1) ≡ Some (meant_constant c)

-- the first values, the first entry of each table, L0 and 1P on, no remainder, and the form at line 1 of page 1
pub record IsStart (cards : List SpecCard) (date : ℤ) (w : World key_cmp) : Type 0 where
  pub values : (k : Key) → has_field (meant_forms cards k) ≡ true → (n : ℕ) → value_in w.data.fields (k, n) ≡ start_value cards date k n
  pub current : (k : Key) → has_field (meant_forms cards k) ≡ true → map.get w.data.fields.current k ≡ (if is_table_form (meant_forms cards k) then Some 1 else None)
  pub on : w.data.on ≡ set.from_list (level_zero ∷ first_page ∷ [])
  pub remainder : w.data.remainder ≡ with_decimals (pos 0) 0
  pub paper : w.paper ≡ record { here = record { page = 1; line = 1 }; was_overflow = false; has_turned_on = false }
