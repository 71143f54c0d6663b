-- The start that the compiler gives a job, by names.
use Rattle.std.specs.Prelude.{◌≡◌, ℕ, zero, suc, ℤ, pos, ◌==◌, Bool, true, false, ◌&&◌, List, [], ◌∷◌, Option, None, Some, slice_get, if◌then◌else◌}
use Rattle.std.specs.FinMap as map
use Rattle.std.specs.FinSet as set
use Rattle.std.specs.Option.{option_map_or}
use Rattle.rpg_cards.specs.Keys.{Fixed, Key, Named, Nowhere, key_cmp}
use Rattle.rpg_cards.specs.declared.spec_card.SpecCard.{SpecCard}
use Rattle.rpg_cycle.specs.Indicators.{first_page, level_zero}
use Rattle.rpg_program.specs.Forms.{has_field, is_date, is_table_form}
use Rattle.rpg_program.specs.Values.{Number, Value}
use Rattle.rpg_program.specs.World.{World, value_in}
use Rattle.rpg_program.specs.declared.form.FieldForm.{FieldForm}
use Rattle.rpg_decimal_words.specs.Fraction.{with_decimals}
use Rattle.rpg_symbols.specs.Fields.{defined_form}
use Rattle.rpg_compile_program.specs.Data.{constant_values, field_values, loaded}
use Rattle.rpg_compile_program.specs.Table.{defined_fields, key_form, table_of}

-- a name has its data, else zeros or blanks; a constant its own value
abbrev pub first_values : List SpecCard → Key → List Value
first_values cards (Named name) = option_map_or (λ f. field_values (loaded cards) (name, f)) (defined_form (defined_fields cards) name) []
first_values cards (Fixed c) = constant_values c
first_values cards Nowhere = []

-- entries are counted from 1
abbrev pub first_value_at : List Value → ℕ → Option Value
first_value_at vs zero = None
first_value_at vs (suc n) = slice_get vs n

abbrev pub takes_date : Option FieldForm → Bool
takes_date form = option_map_or (λ f. is_date f.class) form false

-- the date is in UDATE
abbrev pub taken_value : List SpecCard → ℤ → Key → ℕ → Option Value
taken_value cards date k n = if takes_date (key_form (table_of cards) k) && n == 1 then Some (Number date) else first_value_at (first_values cards k) n

-- the first values, the first entry of each table, L0 and 1P on, no remainder, and the form at line 1 of page 1
pub record IsTakenStart (cards : List SpecCard) (date : ℤ) (w : World key_cmp) : Type 0 where
  pub values : (k : Key) → has_field (key_form (table_of cards) k) ≡ true → (n : ℕ) → value_in w.data.fields (k, n) ≡ taken_value cards date k n
  pub current : (k : Key) → has_field (key_form (table_of cards) k) ≡ true → map.get w.data.fields.current k ≡ (if is_table_form (key_form (table_of cards) k) then Some 1 else None)
  pub on : w.data.on ≡ set.from_list (level_zero ∷ first_page ∷ [])
  pub remainder : w.data.remainder ≡ with_decimals (pos 0) 0
  pub paper : w.paper ≡ record { here = record { page = 1; line = 1 }; was_overflow = false; has_turned_on = false }
