-- What a job starts with.
use Rattle.std.specs.Prelude.{ℕ, ℤ, pos, ◌+◌, false, ◌&&◌, ◌==◌, List, [], ◌∷◌, length, Option, None, if◌then◌else◌}
use Rattle.std.specs.List.{list_all}
use Rattle.std.specs.FinMap as map
use Rattle.std.specs.FinSet as set
use Rattle.std.specs.Ordering.{nat_cmp}
use Rattle.rpg_cycle.specs.Indicators.{first_page, level_zero}
use Rattle.rpg_decimal_words.specs.Fraction.{with_decimals}
use Rattle.rpg_decimal_words.specs.Zoned.{is_digit, number_in}
use Rattle.rpg_program.specs.Forms.{is_date}
use Rattle.rpg_program.specs.Values.{Number}
use Rattle.rpg_program.specs.World.{Fields, World, with_value}
use Rattle.rpg_program.specs.declared.form.FieldForm.{FieldForm}
use Rattle.rpg_machine.specs.Config.{Config}
use Rattle.rpg_program.specs.Object.{Object}
use Rattle.rpg_program.specs.declared.section.Section.TheVariants.{Detail}

-- the number in a text of exactly six digits
abbrev pub date_in : List ℕ → Option ℤ
date_in text = if (length text == 6) && list_all is_digit text then number_in text else None

-- the date is stored in each date field; fields are numbered from here on
abbrev pub dated : ℤ → ℕ → List FieldForm → Fields nat_cmp → Fields nat_cmp
dated date field [] fields = fields
dated date field (f ∷ fs) fields = dated date (field + 1) fs (if is_date f.class then with_value (field, 1) (Number date) fields else fields)

-- L0 and 1P are on, there is no remainder yet, and the form is at line 1 of page 1
abbrev pub job_first_world : Fields nat_cmp → World nat_cmp
job_first_world fields = record {
  «data» = record { fields = fields; on = set.from_list (level_zero ∷ first_page ∷ []); remainder = with_decimals (pos 0) 0 };
  paper = record { here = record { page = 1; line = 1 }; was_overflow = false; has_turned_on = false };
}

-- a job's configuration before its first cycle, with these values and current entries: after detail calculations, as before any other
abbrev pub job_start : Object → ℤ → Fields nat_cmp → Config
job_start p date fields = record {
  world = job_first_world (dated date 1 p.fields fields);
  section = Detail;
  place = length p.detail;
  cells = map.empty;
  allowance = p.allowance;
  steps = 0;
}
