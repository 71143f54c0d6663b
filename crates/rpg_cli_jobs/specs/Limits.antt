-- The answers for a program that the arguments keep from running: by its date, its rules or its bound.
use Rattle.std.specs.Prelude.{Bool, ℕ, ◌-◌, ◌^◌, Option, None, Some, Result, Ok, Err, nat_lt, if◌then◌else◌}
use Rattle.rpg_engine.specs.Bound.{bound}
use Rattle.rpg_engine.specs.Object.{Object}
use Rattle.rpg_engine.specs.declared.fault.RunFault.TheVariants as runs
use Rattle.rpg_engine.specs.declared.object.ObjectFault.{ObjectFault}
use Rattle.rpg_cli_answers.specs.declared.answer.Answer.{Answer}
use Rattle.rpg_cli_answers.specs.declared.answer.Answer.TheVariants as answers
use Rattle.rpg_cli_jobs.specs.Dated.{are_six_digits, date_text}
use Rattle.rpg_cli_values.specs.declared.date.DateArgument.{DateArgument}
use Rattle.rpg_cli_words.specs.declared.request.Request.{Request}

-- the answer for an accepted program: first its date is checked, then its bound
abbrev pub bound_answer : Object → Option DateArgument → (most : ℕ) → Result (Unit {0}) Answer
bound_answer p date most =
    if are_six_digits (date_text date) then (if nat_lt most (bound p) then Err (answers.OverLimit (bound p)) else Ok tt) else Err (answers.Run runs.BadDate)

-- that for one that may have been rejected
abbrev pub limit_answer : Result Object ObjectFault → Option DateArgument → (most : ℕ) → Result (Unit {0}) Answer
limit_answer (Ok p) date most = bound_answer p date most
limit_answer (Err fault) date most = Err (answers.Object fault)

-- the greatest bound that the arguments allow; where files keep their contents, any bound is checked before they are opened
abbrev pub limit_by : (most : Option ℕ) → (keeps : Bool) → Option ℕ
limit_by (Some most) keeps = Some most
limit_by None keeps = if keeps then Some (2 ^ 64 - 1) else None

abbrev pub limit_of : Request → Option ℕ
limit_of request = limit_by request.most request.keeps

-- the answer if there is a limit
abbrev pub asked_answer : (limit : Option ℕ) → Result Object ObjectFault → Option DateArgument → Result (Unit {0}) Answer
asked_answer None accepted date = Ok tt
asked_answer (Some most) accepted date = limit_answer accepted date most
