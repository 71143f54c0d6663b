-- W6: page numbers that are output under conditions.
use Rattle.std.specs.Prelude.{Bool, false, not, ◌&&◌, nat_eq, Option, None, Some, codes, if◌then◌else◌}
use Rattle.std.specs.Cmp.Lexicographic.{pointwise}
use Rattle.std.specs.Option.{option_and_then, option_map_or}
use Rattle.rpg_cards.specs.Cards.{output_field_on}
use Rattle.rpg_cards.specs.declared.spec_card.SpecCard.{SpecCard}
use Rattle.rpg_sheet_specs.specs.declared.column.ColumnFault.{ColumnFault}
use Rattle.rpg_sheet_specs.specs.declared.entry.Entry.{Entry}
use Rattle.rpg_sheet_specs.specs.declared.output.OutputField.{OutputField}
use Rattle.rpg_warnings_lines.specs.Overlaps.{is_always_out}
use Rattle.rpg_warnings_lines.specs.declared.warning.Warning.{Warning}
use Rattle.rpg_warnings_lines.specs.declared.warning.WarningKind.TheVariants as kind

-- the page number
abbrev pub is_page_entry : Option Entry → Bool
is_page_entry e = option_map_or (λ (x : Entry). pointwise nat_eq x.name (codes "PAGE")) e false

-- the columns of an output field's name
abbrev pub output_name_columns : ColumnFault
output_name_columns = record { column = 32; last = 37 }

-- the warning about PAGE at a card
abbrev pub page_at : SpecCard → Warning
page_at c = record { card = c.number; columns = output_name_columns; kind = kind.PageConditions }

-- the warning about an output field that is PAGE under conditions
abbrev pub page_by : SpecCard → OutputField → Option Warning
page_by c f = if is_page_entry f.operand && not (is_always_out f) then Some (page_at c) else None

-- PAGE with a condition of its own: here it is left out or output, and never set back
unfoldable pub page_on : SpecCard → Option Warning
page_on c = option_and_then (page_by c) (output_field_on c.spec)
