-- The fields of total lines, and the control levels of their lines.
use Rattle.std.specs.Prelude.{ℕ, ◌-◌, List, [], ◌∷◌, ◌++◌, Bool, true, false, not, ◌&&◌, nat_le, max, min, Option, None, if◌then◌else◌}
use Rattle.std.specs.Option.{option_and_then, option_map_or}
use Rattle.rpg_cards.specs.Cards.{output_field_on, output_on}
use Rattle.rpg_cards.specs.declared.spec_card.SpecCard.{SpecCard}
use Rattle.rpg_sheet_specs.specs.declared.indicator.ConditionSpec.{ConditionSpec}
use Rattle.rpg_sheet_specs.specs.declared.indicator.Three.{Three}
use Rattle.rpg_sheet_specs.specs.declared.output.LineTime.{LineTime}
use Rattle.rpg_sheet_specs.specs.declared.output.LineTime.TheVariants as time
use Rattle.rpg_sheet_specs.specs.declared.output.OutputField.{OutputField}
use Rattle.rpg_sheet_specs.specs.declared.output.OutputRecord.{OutputRecord}
use Rattle.rpg_sheet_specs.specs.declared.output.OutputSpec.{OutputSpec}
use Rattle.rpg_sheet_specs.specs.declared.output.OutputSpec.TheVariants as output
use Rattle.rpg_sheet_specs.specs.declared.spec.Spec.{Spec}
use Rattle.rpg_warnings_lines.specs.Marks.{mark_of}
use Rattle.rpg_warnings_lines.specs.Uses.{entry_place}
use Rattle.rpg_warnings_lines.specs.declared.marks.Mark.{Mark}
use Rattle.rpg_warnings_lines.specs.declared.totals.LineSoFar.{LineSoFar}
use Rattle.rpg_warnings_lines.specs.declared.totals.Noted.{Noted}
use Rattle.rpg_warnings_lines.specs.declared.totals.Noted.TheVariants as noted

-- the control level L1 to L9 that a condition waits for; 0 if it waits for none
abbrev pub level_by : ConditionSpec → ℕ
level_by c = if not c.negated && nat_le 101 c.indicator && nat_le c.indicator 109 then c.indicator - 100 else 0

-- likewise, if there is a condition
abbrev pub level_of : Option ConditionSpec → ℕ
level_of c = option_map_or level_by c 0

-- the greatest of three conditions
abbrev pub level_in : Three (Option ConditionSpec) → ℕ
level_in t = max (level_of t.first) (max (level_of t.second) (level_of t.third))

-- a line of type T
abbrev pub is_total : LineTime → Bool
is_total time.Total = true
is_total _ = false

-- a line with one alternative, that of its card
abbrev pub begun : OutputRecord → LineSoFar
begun r = record { is_total = is_total r.time; least = 65535; own = level_in r.conditions }

-- the line with one more card: an AND card goes on with the last alternative, an OR card begins one
abbrev pub line_by : LineSoFar → OutputSpec → LineSoFar
line_by s (output.Record r) = begun r
line_by s (output.And t) = record { is_total = s.is_total; least = s.least; own = max s.own (level_in t) }
line_by s (output.Or t) = record { is_total = s.is_total; least = min s.least s.own; own = level_in t }
line_by s (output.Field f) = s

-- the same for any card
abbrev pub line_with : LineSoFar → Spec → LineSoFar
line_with s c = option_map_or (line_by s) (output_on c) s

-- the name that a field of a total line prints
abbrev pub total_place : List SpecCard → LineSoFar → Spec → Option ℕ
total_place cards s c = option_and_then (λ (f : OutputField). if s.is_total then entry_place cards f.operand else None) (output_field_on c)

-- the field's card, or the least level that an alternative of its line waits for
abbrev pub value_of : Noted → LineSoFar → SpecCard → ℕ
value_of noted.Card s c = c.number
value_of noted.Level s c = min s.least s.own

-- the names that total lines print, after these cards of a line
abbrev pub totals_from : Noted → List SpecCard → LineSoFar → List SpecCard → List Mark
totals_from n cards s [] = []
totals_from n cards s (c ∷ cs) = mark_of (value_of n (line_with s c.spec) c) (total_place cards (line_with s c.spec) c.spec) ++ totals_from n cards (line_with s c.spec) cs

-- before the first line
abbrev pub no_line : LineSoFar
no_line = record { is_total = false; least = 65535; own = 0 }

-- the names that total lines print
abbrev pub totals_of : Noted → List SpecCard → List Mark
totals_of n cards = totals_from n cards no_line cards
