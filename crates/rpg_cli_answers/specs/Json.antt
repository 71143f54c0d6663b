-- The object of JSON that is printed for an answer.
use Rattle.std.specs.Prelude.{ℕ, List, [], ◌++◌, codes, decimal, Option, Some, None}
use Rattle.rpg_engine.specs.Halts.{halt_number}
use Rattle.rpg_engine.specs.JobEnd.{JobEnd}
use Rattle.rpg_engine.specs.JobEnd.TheVariants as endings
use Rattle.rpg_engine.specs.declared.report.Report.{Report}
use Rattle.rpg_cli_answers.specs.Answers.{line_text}
use Rattle.rpg_cli_answers.specs.declared.answer.Answer.{Answer}
use Rattle.rpg_cli_answers.specs.declared.answer.Answer.TheVariants as answers

-- the text before the value of a member
abbrev pub member_name : List ℕ → List ℕ
member_name name = codes ",\"" ++ name ++ codes "\":"

-- a member whose value is a number
abbrev pub member : (name : List ℕ) → ℕ → List ℕ
member name n = member_name name ++ decimal n

-- the number of the halt, if the job halted
abbrev pub halt_member : JobEnd → List ℕ
halt_member endings.EndOfJob = []
halt_member (endings.Halt halt) = member (codes "halt") (halt_number halt)

-- how a job ended, the number of cycles, the most steps of one, and the steps that none can pass
abbrev pub report_members : Report → List ℕ
report_members report = halt_member report.ending ++ member (codes "cycles") report.cycles ++ member (codes "steps") report.most ++ member (codes "bound") report.bound

-- how many sources couldn't be read, if any
abbrev pub unread_member : Option ℕ → List ℕ
unread_member None = []
unread_member (Some unread) = member (codes "unread") unread

-- how many sources, how many of them are rejected, and how many not read
abbrev pub checked_members : (sources rejected : ℕ) → (unread : Option ℕ) → List ℕ
checked_members sources rejected unread = member (codes "sources") sources ++ member (codes "rejected") rejected ++ unread_member unread

-- how many records were converted, how many left out, and how many columns a line has at most
abbrev pub record_members : (records dropped columns : ℕ) → List ℕ
record_members records dropped columns = member (codes "records") records ++ member (codes "dropped") dropped ++ member (codes "columns") columns

-- the numbers of an answer that counts
abbrev pub count_members : Answer → List ℕ
count_members (answers.Ended report) = report_members report
count_members (answers.Checked sources rejected unread status) = checked_members sources rejected unread
count_members (answers.Accepted bound) = member (codes "bound") bound
count_members (answers.OverLimit bound) = member (codes "bound") bound
count_members (answers.Records records dropped columns) = record_members records dropped columns
count_members (answers.Fitted changes) = member (codes "changes") changes
count_members a = []

-- the answer in words
abbrev pub answer_member : List ℕ → List ℕ
answer_member answer = codes "{\"answer\":\"" ++ answer ++ codes "\""

-- the line that is printed without JSON, which has no character that is escaped, the counts, and the exit status
abbrev pub json_text : Answer → (status : ℕ) → List ℕ
json_text a status = answer_member (line_text a) ++ count_members a ++ member (codes "status") status ++ codes "}"
