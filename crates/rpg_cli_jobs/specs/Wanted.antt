-- What a run needs besides the files of every run, and why it may not begin.
use Rattle.std.specs.Prelude.{◌≡◌, Bool, true, false, ◌⊎◌, ℕ, List, nat_lt, Option, None, Some, Result, Ok, Err, IfErr, IfOk}
use Rattle.rpg_engine.specs.Object.{Object}
use Rattle.rpg_engine.specs.Objects.{HasObjectFault, IsRefused, SpellsProgram}
use Rattle.rpg_engine.specs.declared.object.ObjectFault.{ObjectFault}
use Rattle.rpg_engine.specs.declared.object.ObjectFault.TheVariants as objects
use Rattle.rpg_verify_rules.specs.Accepted.{IsAccepted}
use Rattle.rpg_verify_rules.specs.declared.rule.BrokenRule.{BrokenRule}
use Rattle.rpg_cli_answers.specs.declared.answer.Answer.{Answer}
use Rattle.rpg_cli_answers.specs.declared.answer.Answer.TheVariants as answers
use Rattle.rpg_cli_jobs.specs.Dated.{date_answer}
use Rattle.rpg_cli_jobs.specs.Limits.{asked_answer, limit_of}
use Rattle.rpg_cli_jobs.specs.declared.limits.WantedFiles.{WantedFiles}
use Rattle.rpg_cli_words.specs.declared.request.Request.{Request}

-- the path of a file that the program has; one that it hasn't is ignored
abbrev pub path_answer : {A : Type 0} → (is_wanted : Bool) → Option A → (missing : Answer) → Result (Option A) Answer
path_answer false named missing = Ok None
path_answer true None missing = Err missing
path_answer true (Some path) missing = Ok (Some path)

-- the next step, if the one before it ended well
abbrev pub then_answer : {A B : Type 0} → Result A Answer → (A → Result B Answer) → Result B Answer
then_answer (Ok x) next = next x
then_answer (Err answer) next = Err answer

-- the disk file is checked first, then the secondary file, and the date last
abbrev pub files_answer : Object → Request → Result WantedFiles Answer
files_answer p request =
    then_answer (path_answer (nat_lt 0 p.disk_length) request.disk answers.DiskFileWanted) (λ disk.
    then_answer (path_answer (nat_lt 0 p.secondary_length) request.secondary answers.SecondaryFileWanted) (λ secondary.
    then_answer (date_answer request.date p) (λ dated. Ok (record { secondary = secondary; disk = disk }))))

-- what a compiled source's program needs; the limit is checked last
abbrev pub source_answer : Object → Request → Result WantedFiles Answer
source_answer p request = then_answer (files_answer p request) (λ files. then_answer (asked_answer (limit_of request) (Ok p) request.date) (λ kept. Ok files))

-- The object's bytes are this program's, which is accepted or rejected, and needs these files.
pub record IsJudged (object : List ℕ) (request : Request) (accepted : Result Object ObjectFault) (files : WantedFiles) : Type 0 where
  pub program : Object
  pub spelled : SpellsProgram object program
  pub same : IfOk accepted (λ verified. verified ≡ program)
  pub obeys : IfOk accepted IsAccepted
  pub refused : IfErr accepted (λ fault. IsRefused fault program)
  pub wanted : files_answer program request ≡ Ok files

-- and no limit keeps it from running
pub record IsReady (object : List ℕ) (request : Request) (accepted : Result Object ObjectFault) (files : WantedFiles) : Type 0 where
  pub judged : IsJudged object request accepted files
  pub kept : asked_answer (limit_of request) accepted request.date ≡ Ok tt

-- why the object isn't run, before any other file is opened: its bytes are no program's; or its program needs what the arguments don't
-- name; or, if they ask for a limit, a broken rule, the date or the limit
abbrev pub StopsRun : (object : List ℕ) → Request → Answer → Type 0
StopsRun object request answer =
    ((fault : ObjectFault) × HasObjectFault fault object × ((broken : BrokenRule) → fault ≡ objects.Refused broken → ⊥) × (answer ≡ answers.Object fault))
    ⊎ ((p : Object) × SpellsProgram object p × (files_answer p request ≡ Err answer))
    ⊎ ((accepted : Result Object ObjectFault) × (files : WantedFiles) × IsJudged object request accepted files
    × (asked_answer (limit_of request) accepted request.date ≡ Err answer))
