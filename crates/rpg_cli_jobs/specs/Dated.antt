-- The date of a job.
use Rattle.std.specs.Prelude.{◌==◌, ◌&&◌, Bool, ℕ, List, codes, length, Option, None, Some, Result, Ok, Err, if◌then◌else◌}
use Rattle.std.specs.Char.{is_ascii_digit}
use Rattle.std.specs.List.{list_all}
use Rattle.rpg_cli_answers.specs.declared.answer.Answer.{Answer}
use Rattle.rpg_cli_answers.specs.declared.answer.Answer.TheVariants as answers
use Rattle.rpg_cli_show_fields.specs.DateUse.{uses_date}
use Rattle.rpg_cli_values.specs.declared.date.DateArgument.{DateArgument}
use Rattle.rpg_cli_values.specs.declared.date.DateArgument.TheVariants as dates
use Rattle.rpg_engine.specs.Object.{Object}

-- without a date the program may not use it
abbrev pub date_answer : Option DateArgument → Object → Result (Unit {0}) Answer
date_answer None p = if uses_date p then Err answers.DateWanted else Ok tt
date_answer (Some date) p = Ok tt

-- what a date is: zeros for a job that has none; today's is one only once it is read from the clock
abbrev pub date_text : Option DateArgument → List ℕ
date_text None = codes "000000"
date_text (Some (dates.Written text)) = text.now
date_text (Some (dates.Today order)) = codes "today"
date_text (Some (dates.Clock digits)) = digits

-- six digits
abbrev pub are_six_digits : List ℕ → Bool
are_six_digits text = (length text == 6) && list_all is_ascii_digit text
