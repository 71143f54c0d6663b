-- W10: which totals are never set back.
use Rattle.std.specs.Prelude.{ℕ, ◌-◌, List, [], ◌∷◌, ◌++◌, ◌&&◌, ◌==◌, nat_lt, Option, None, Some, if◌then◌else◌}
use Rattle.std.specs.List.{filter_map}
use Rattle.std.specs.Option.{option_map_or}
use Rattle.rpg_cards.specs.Cards.{calculation_on}
use Rattle.rpg_cards.specs.declared.spec_card.SpecCard.{SpecCard}
use Rattle.rpg_sheet_specs.specs.declared.calculation.CalculationSpec.{CalculationSpec}
use Rattle.rpg_sheet_specs.specs.declared.calculation.ControlLevel.{ControlLevel}
use Rattle.rpg_sheet_specs.specs.declared.calculation.ControlLevel.TheVariants as control
use Rattle.rpg_sheet_specs.specs.declared.column.ColumnFault.{ColumnFault}
use Rattle.rpg_sheet_specs.specs.declared.spec.Spec.{Spec}
use Rattle.rpg_warnings_lines.specs.Marks.{AreLeast, least, least_at, mark_of, marks_of}
use Rattle.rpg_warnings_lines.specs.Totals.{totals_of}
use Rattle.rpg_warnings_lines.specs.Uses.{set_on, sum_on}
use Rattle.rpg_warnings_lines.specs.declared.marks.Mark.{Mark}
use Rattle.rpg_warnings_lines.specs.declared.sums.NameSums.{NameSums}
use Rattle.rpg_warnings_lines.specs.declared.totals.Noted.TheVariants as noted
use Rattle.rpg_warnings_lines.specs.declared.warning.Warning.{Warning}
use Rattle.rpg_warnings_lines.specs.declared.warning.WarningKind.TheVariants as kind

-- the level of a calculation: 0 in detail calculations, 10 at LR; nothing is known of a subroutine; AN and OR cards belong to the one before
abbrev pub level_at : ℕ → ControlLevel → ℕ
level_at level control.Detail = 0
level_at level (control.Total n) = n - 100
level_at level control.Subroutine = 65535
level_at level _ = level

-- the level of a card, after one of that level
abbrev pub level_with : ℕ → Spec → ℕ
level_with level s = option_map_or (λ (k : CalculationSpec). level_at level k.control_level) (calculation_on s) level

module _ (cards : List SpecCard) where
  -- the results that these cards add to, with their levels
  abbrev pub sums_from : ℕ → List SpecCard → List Mark
  sums_from level [] = []
  sums_from level (c ∷ cs) = mark_of (level_with level c.spec) (sum_on cards c.spec) ++ sums_from (level_with level c.spec) cs

  -- those of all cards
  abbrev pub sums_of : List Mark
  sums_of = sums_from 0 cards

  -- the names that these cards set, with the cards
  abbrev pub set_from : List SpecCard → List Mark
  set_from [] = []
  set_from (c ∷ cs) = marks_of c.number (set_on cards c.spec) ++ set_from cs

  -- the least level at which each name is added to
  abbrev pub AreAdded : List ℕ → Type 0
  AreAdded values = AreLeast values sums_of

  -- the first card that sets each name
  abbrev pub AreSet : List ℕ → Type 0
  AreSet values = AreLeast values (set_from cards)

  -- the least level at which each name is printed
  abbrev pub AreLevels : List ℕ → Type 0
  AreLevels values = AreLeast values (totals_of noted.Level cards)

  -- what is known of all names
  pub record AreSums (known : NameSums) : Type 0 where
    pub added : AreAdded known.added.items
    pub set : AreSet known.set.items
    pub levels : AreLevels known.levels.items
    pub printed : AreLeast known.printed.items (totals_of noted.Card cards)

-- the column of blank after
abbrev pub blank_after_columns : ColumnFault
blank_after_columns = record { column = 39; last = 39 }

-- the warning about a field on a total line
abbrev pub unreset_at : ℕ → Warning
unreset_at number = record { card = number; columns = blank_after_columns; kind = kind.NotReset }

-- A name on a total line: the first card that prints it, if no card sets it, and it is added to at a lower level than each of its lines waits
-- for.
abbrev pub unreset_by : List SpecCard → Mark → Option Warning
unreset_by cards m =
    if least m.place (totals_of noted.Card cards) == m.value && least m.place (set_from cards cards) == 65535 && nat_lt (least m.place (sums_of cards)) (least m.place (totals_of noted.Level cards))
    then Some (unreset_at m.value) else None

-- the same, by what is known of the names
abbrev pub unreset_with : NameSums → Mark → Option Warning
unreset_with known m =
    if least_at m.place known.printed.items == m.value && least_at m.place known.set.items == 65535 && nat_lt (least_at m.place known.added.items) (least_at m.place known.levels.items)
    then Some (unreset_at m.value) else None

-- the totals that are never set back
abbrev pub unreset : List SpecCard → List Warning
unreset cards = filter_map (unreset_by cards) (totals_of noted.Card cards)
