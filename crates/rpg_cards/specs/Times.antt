-- When a line is output.
use Rattle.std.specs.Prelude.{Option}
use Rattle.rpg_program.specs.declared.line.Time.{Time}
use Rattle.rpg_program.specs.declared.line.Time.TheVariants as times
use Rattle.rpg_sheet_specs.specs.declared.indicator.ConditionSpec.{ConditionSpec}
use Rattle.rpg_sheet_specs.specs.declared.indicator.Three.{Three}
use Rattle.rpg_sheet_specs.specs.declared.output.LineTime.{LineTime}
use Rattle.rpg_sheet_specs.specs.declared.output.LineTime.TheVariants as time
use Rattle.rpg_sheet_specs.specs.declared.output.OutputSpec.{OutputSpec}
use Rattle.rpg_sheet_specs.specs.declared.output.OutputSpec.TheVariants as output

-- the time of a line, as a program has it
abbrev pub time_of : LineTime → Time
time_of time.Heading = times.Heading
time_of time.Detail = times.Detail
time_of time.Total = times.Total
time_of time.Exception = times.Exception

-- the conditions of a card of a line, of an AND or OR, or of a field
abbrev pub line_conditions_on : OutputSpec → Three (Option ConditionSpec)
line_conditions_on (output.Record r) = r.conditions
line_conditions_on (output.And t) = t
line_conditions_on (output.Or t) = t
line_conditions_on (output.Field f) = f.conditions
