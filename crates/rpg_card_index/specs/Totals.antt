-- How many different names and constants there are, and the bytes that they take.
use Rattle.std.specs.Prelude.{◌≡◌, ℕ, ◌+◌, ◌*◌, ◌≤◌, List, [], length, take, sum_by, Bool}
use Rattle.std.specs.Option.{option_map_or}
use Rattle.rpg_cards.specs.Constants.{constant_form, is_same}
use Rattle.rpg_cards.specs.Insertions.{insert_all}
use Rattle.rpg_cards.specs.Names.{given_names, same_name}
use Rattle.rpg_cards.specs.declared.constants.Constant.{Constant}
use Rattle.rpg_cards.specs.declared.names.Definition.{Definition}
use Rattle.rpg_program.specs.Forms.{size_of}
use Rattle.rpg_symbols.specs.Totals.{TotalsByItem, first_totals}
use Rattle.rpg_symbols.specs.declared.totals.Totals.{Totals}

-- the bytes that a defined name takes; 0 without a form
abbrev pub definition_bytes : Definition → ℕ
definition_bytes d = option_map_or size_of d.form 0

-- the bytes of a constant
abbrev pub constant_size : Constant → ℕ
constant_size c = size_of (constant_form c)

-- how many known and other items there are without duplicates, and the bytes that they take
abbrev pub totals_of : {X : Type 0} → (X → X → Bool) → (X → ℕ) → List X → List X → Totals
totals_of same size known items = record { number = length (insert_all same known items); bytes = sum_by size (insert_all same known items) }

-- those of the names that these define, with the names that every program has
abbrev pub name_totals : List Definition → Totals
name_totals ds = totals_of same_name definition_bytes given_names ds

-- those of these constants
abbrev pub constant_totals : List Constant → Totals
constant_totals xs = totals_of is_same constant_size [] xs

-- the totals of the first n of the items for each n, and of all
pub record AreRunning (X : Type 0) (totals : List X → Totals) (items : List X) (r : TotalsByItem) : Type 0 where
  pub count : length r.before ≡ length items
  pub each : (n : ℕ) → first_totals r n ≡ totals (take n items)
  pub all : r.all ≡ totals items
  pub few : r.all.number ≤ 2 + length items
  pub few_bytes : r.all.bytes ≤ 10 + 4294967295 * length items
