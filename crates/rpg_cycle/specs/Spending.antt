-- The greatest costs of a cycle's phases.
use Rattle.std.specs.Option.{ForSome}
use Rattle.rpg_cycle_records.specs.Earlier.{control_fields, file_of}
use Rattle.std.specs.Prelude.{ℕ, ◌≡◌, List, slice_get, ◌+◌, ◌*◌, ◌≤◌, length, Option, None, Some, is_some, if◌then◌else◌}
use Rattle.rpg_cycle_records.specs.Identifying.{trial_weight}
use Rattle.rpg_cycle_records.specs.Paying.{match_field_count}
use Rattle.rpg_program.specs.declared.input.InputFile.{InputFile}
use Rattle.rpg_program.specs.Weights.{types_weight}
use Rattle.rpg_machine.specs.Outputs.{inputs_at, output_weight}
use Rattle.rpg_machine.specs.Running.{Running}
use Rattle.rpg_machine.specs.declared.time.OutputTime.TheVariants as times
use Rattle.rpg_program.specs.Object.{Object}
use Rattle.rpg_program.specs.Sections.{first_place}
use Rattle.rpg_program.specs.declared.section.Section.{Section}
use Rattle.rpg_program.specs.declared.section.Section.TheVariants as sections
use Rattle.rpg_verify.specs.Bound.{cost, most}

-- the steps used, and those that the remaining allowance can still lead to
abbrev pub reach : Object → Running → ℕ
reach p r = r.config.steps + r.config.allowance * most p

-- the reach grew by no more than n
pub record Spends (p : Object) (n : ℕ) (old new : Running) : Type 0 where
  pub few : reach p new ≤ reach p old + n

-- the cost of a section's first place
abbrev pub section_cost : Object → Section → ℕ
section_cost p s = cost p (record { section = s; number = first_place p s })

-- the fields that a selected record fills
abbrev pub fields_weight : Object → Option ℕ → ℕ
fields_weight p None = 0
fields_weight p (Some t) = length (inputs_at p t)

-- the control fields of the selected record's type
abbrev pub compared_weight : Object → Option ℕ → ℕ
compared_weight p None = 0
compared_weight p (Some t) = length (control_fields p t)

-- a record was selected, and filling its fields is still to be paid
pub record SpendsSelecting (p : Object) (t : Option ℕ) (old new : Running) : Type 0 where
  pub few : reach p new + fields_weight p t ≤ reach p old + types_weight p.types

-- the match fields of a row, if there is one
abbrev pub matched_weight : Object → Option ℕ → ℕ
matched_weight p None = 0
matched_weight p (Some t) = match_field_count p.types t

-- the greatest cost of reading a file's record: trying its types on a text, and the match fields of one of them, or of none
pub record SpendsTakingIn (p : Object) (f : InputFile) (old new : Running) : Type 0 where
  pub text : List ℕ
  pub row : Option ℕ
  pub own : ForSome row (λ t. file_of (slice_get p.types t) ≡ f)
  pub few : reach p new ≤ reach p old + (trial_weight f p.types text + matched_weight p row)

-- the lines of a full page
abbrev pub full_page_weight : Object → ℕ
full_page_weight p = if is_some p.overflow.indicator then output_weight p times.Overflow else 0

-- total calculations and total lines
abbrev pub totals_weight : Object → ℕ
totals_weight p = section_cost p sections.Total + output_weight p times.Total

-- the phases from overflow lines on
abbrev pub detail_time_weight : Object → Option ℕ → ℕ
detail_time_weight p t = full_page_weight p + (fields_weight p t + section_cost p sections.Detail)

-- the phases after the selection of a record, or of none
abbrev pub record_weight : Object → Option ℕ → ℕ
record_weight p t = totals_weight p + detail_time_weight p t

-- all phases of a cycle; the weight of the types pays for the fields of the selected record
abbrev pub phases_weight : Object → ℕ
phases_weight p = output_weight p times.Detail + (types_weight p.types + (totals_weight p + (full_page_weight p + section_cost p sections.Detail)))

-- all phases of a cycle, and what the allowance can lead to
abbrev pub cycle_weight : Object → ℕ
cycle_weight p =
    p.allowance * most p + output_weight p times.Detail + types_weight p.types + totals_weight p + full_page_weight p
    + section_cost p sections.Detail
