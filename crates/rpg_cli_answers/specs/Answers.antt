-- The line and the exit status of each answer.
use Rattle.std.specs.Prelude.{ℕ, List, [], ◌++◌, codes, decimal, Option, Some, None}
use Rattle.rpg_faults.specs.SourceCodes.{source_code_text}
use Rattle.rpg_faults.specs.declared.source_fault.SourceFault.{SourceFault}
use Rattle.rpg_faults.specs.declared.source_fault.SourceFault.TheVariants as sources
use Rattle.rpg_cli_files.specs.declared.files.FileFault.{FileFault}
use Rattle.rpg_cli_files.specs.declared.files.FileFault.TheVariants as files
use Rattle.rpg_engine.specs.CodeTexts.{code_text}
use Rattle.rpg_engine.specs.Halts.{halt_number}
use Rattle.rpg_engine.specs.JobEnd.{JobEnd}
use Rattle.rpg_engine.specs.JobEnd.TheVariants as endings
use Rattle.rpg_engine.specs.Rules.{rule_number}
use Rattle.rpg_engine.specs.declared.fault.RunFault.{RunFault}
use Rattle.rpg_engine.specs.declared.fault.RunFault.TheVariants as runs
use Rattle.rpg_engine.specs.declared.object.ObjectFault.{ObjectFault}
use Rattle.rpg_engine.specs.declared.object.ObjectFault.TheVariants as objects
use Rattle.rpg_engine.specs.declared.report.Report.{Report}
use Rattle.rpg_cli_answers.specs.declared.answer.Answer.{Answer}
use Rattle.rpg_cli_answers.specs.declared.answer.Answer.TheVariants as answer
use Rattle.rpg_cli_answers.specs.declared.answer.RefusedRow.{RefusedRow}
use Rattle.rpg_cli_answers.specs.declared.answer.RefusedRow.TheVariants as rows
use Rattle.rpg_cli_values.specs.Codes.{warning_code_text as warning_text}
use Rattle.rpg_cli_values.specs.declared.code.WarningCode.{WarningCode}

-- ---- lines

-- how a job has ended
abbrev pub ending_text : JobEnd → List ℕ
ending_text endings.EndOfJob = codes "end of job"
ending_text (endings.Halt halt) = codes "halt " ++ decimal (halt_number halt)

-- how the job ended, the number of cycles, the most steps of one, and the steps that none can pass
abbrev pub report_text : Report → List ℕ
report_text report = ending_text report.ending ++ codes ", cycles " ++ decimal report.cycles ++ codes ", steps " ++ decimal report.most ++ codes " of " ++ decimal report.bound

-- why a source isn't compiled
abbrev pub source_fault_text : SourceFault → List ℕ
source_fault_text (sources.At card code columns) = codes "card " ++ decimal card ++ codes ": " ++ source_code_text code
source_fault_text sources.NoMemory = codes "no memory"

-- why bytes aren't an accepted program
abbrev pub object_text : ObjectFault → List ℕ
object_text (objects.NotAnObject offset code) = codes "refused: " ++ code_text code ++ codes " at " ++ decimal offset
object_text (objects.Refused broken) = codes "refused: V" ++ decimal (rule_number broken.rule) ++ codes " row " ++ decimal broken.row
object_text objects.NoMemory = codes "no memory"

-- why a run has stopped
abbrev pub run_text : RunFault → List ℕ
run_text (runs.Object fault) = object_text fault
run_text runs.BadDate = codes "bad date"
run_text (runs.Read file fault) = codes "input failed"
run_text (runs.Write file sent) = codes "output failed"
run_text (runs.NoMemory cycles) = codes "no memory"

-- why a file can't be read or written
abbrev pub file_text : FileFault → List ℕ
file_text (files.Input reason) = codes "input failed"
file_text (files.Output reason) = codes "output failed"
file_text (files.Beside reason) = codes "output failed"
file_text files.TooLarge = codes "file too large"
file_text files.NoMemory = codes "no memory"

-- how many records, how many of them left out, and how many columns a line has at most
abbrev pub counts_text : ℕ → ℕ → ℕ → List ℕ
counts_text records dropped columns = codes "records " ++ decimal records ++ codes ", dropped " ++ decimal dropped ++ codes ", columns " ++ decimal columns

-- the card, before the message about it
abbrev pub card_text : ℕ → List ℕ
card_text card = codes "card " ++ decimal card ++ codes ": "

-- the first card with a warning that is denied, and its code
abbrev pub denied_text : ℕ → WarningCode → List ℕ
denied_text card code = card_text card ++ warning_text code

-- how many sources couldn't be read, if any
abbrev pub unread_text : Option ℕ → List ℕ
unread_text None = []
unread_text (Some unread) = codes ", unread " ++ decimal unread

-- how many sources were checked, how many rejected, and how many not read
abbrev pub checked_text : ℕ → ℕ → Option ℕ → List ℕ
checked_text sources rejected unread = codes "sources " ++ decimal sources ++ codes ", rejected " ++ decimal rejected ++ unread_text unread

-- why a deck isn't rewritten
abbrev pub refused_deck_text : Option ℕ → List ℕ
refused_deck_text (Some card) = codes "card " ++ decimal card ++ codes ": refused"
refused_deck_text None = codes "refused"

-- which row or line isn't converted
abbrev pub refused_place : RefusedRow → List ℕ
refused_place rows.Header = codes "header"
refused_place (rows.Row number) = codes "row " ++ decimal number
refused_place (rows.Line number) = codes "line " ++ decimal number

abbrev pub refused_row_text : RefusedRow → List ℕ
refused_row_text row = refused_place row ++ codes ": refused"

-- the card of an old deck, and the number of the rule that rejects it
abbrev pub refused_card_text : ℕ → ℕ → List ℕ
refused_card_text card rule = codes "card " ++ decimal card ++ codes ": A" ++ decimal rule

-- the page of a print that is rejected
abbrev pub refused_page_text : ℕ → List ℕ
refused_page_text page = codes "page " ++ decimal page ++ codes ": refused"

-- the line that a command prints about its result
abbrev pub line_text : Answer → List ℕ
line_text answer.Compiled = codes "compiled"
line_text answer.Faultless = codes "no fault"
line_text (answer.Checked sources rejected unread status) = checked_text sources rejected unread
line_text (answer.Denied card code) = denied_text card code
line_text (answer.Accepted bound) = codes "accepted, bound " ++ decimal bound
line_text (answer.Ended report) = report_text report
line_text (answer.Unsorted record_number) = codes "record " ++ decimal record_number ++ codes ": not sorted"
line_text (answer.Source fault) = source_fault_text fault
line_text (answer.Object fault) = object_text fault
line_text answer.OtherSource = codes "not the object's source"
line_text answer.DiskFileWanted = codes "disk file wanted"
line_text answer.SecondaryFileWanted = codes "secondary file wanted"
line_text answer.DateWanted = codes "date wanted"
line_text (answer.OverLimit bound) = codes "refused: bound " ++ decimal bound
line_text (answer.Run fault) = run_text fault
line_text (answer.File argument fault) = file_text fault
line_text answer.Explained = []
line_text answer.Deck = codes "/*"
line_text (answer.NoCard line) = codes "line " ++ decimal line ++ codes ": no card"
line_text (answer.Records records dropped columns) = counts_text records dropped columns
line_text (answer.DeckRefused card) = refused_deck_text card
line_text (answer.RecordRefused number) = codes "record " ++ decimal number ++ codes ": refused"
line_text (answer.RowRefused number) = refused_row_text number
line_text (answer.Fitted changes) = codes "changes " ++ decimal changes
line_text (answer.FitRefused card rule) = refused_card_text card rule
line_text (answer.NewDeck fault) = codes "new " ++ source_fault_text fault
line_text (answer.Paper pages) = codes "pages " ++ decimal pages
line_text (answer.PageRefused page) = refused_page_text page
line_text answer.NoSuchCode = codes "no such code"
line_text answer.NoMemory = codes "no memory"

-- ---- statuses

-- the exit status of a job's end
abbrev pub ending_status : JobEnd → ℕ
ending_status endings.EndOfJob = 0
ending_status (endings.Halt halt) = 5

-- the exit status of a source that isn't compiled
abbrev pub source_status : SourceFault → ℕ
source_status (sources.At card code columns) = 3
source_status sources.NoMemory = 1

-- the exit status of bytes that aren't an accepted program
abbrev pub object_status : ObjectFault → ℕ
object_status (objects.NotAnObject offset code) = 4
object_status (objects.Refused broken) = 4
object_status objects.NoMemory = 1

-- the exit status of a run that has stopped
abbrev pub run_status : RunFault → ℕ
run_status (runs.Object fault) = object_status fault
run_status runs.BadDate = 2
run_status (runs.Read file fault) = 1
run_status (runs.Write file sent) = 1
run_status (runs.NoMemory cycles) = 1

-- the exit status of a command
abbrev pub exit_status : Answer → ℕ
exit_status answer.Compiled = 0
exit_status answer.Faultless = 0
exit_status (answer.Checked sources rejected unread status) = status
exit_status (answer.Denied card code) = 3
exit_status (answer.Accepted bound) = 0
exit_status (answer.Ended report) = ending_status report.ending
exit_status (answer.Unsorted record_number) = 5
exit_status (answer.Source fault) = source_status fault
exit_status (answer.Object fault) = object_status fault
exit_status answer.OtherSource = 3
exit_status answer.DiskFileWanted = 2
exit_status answer.SecondaryFileWanted = 2
exit_status answer.DateWanted = 2
exit_status (answer.OverLimit bound) = 4
exit_status (answer.Run fault) = run_status fault
exit_status (answer.File argument fault) = 1
exit_status answer.Explained = 0
exit_status answer.Deck = 0
exit_status (answer.NoCard line) = 3
exit_status (answer.Records records dropped columns) = 0
exit_status (answer.DeckRefused card) = 3
exit_status (answer.RecordRefused number) = 3
exit_status (answer.RowRefused number) = 3
exit_status (answer.Fitted changes) = 0
exit_status (answer.FitRefused card rule) = 3
exit_status (answer.Paper pages) = 0
exit_status (answer.PageRefused page) = 3
exit_status (answer.NewDeck fault) = source_status fault
exit_status answer.NoSuchCode = 2
exit_status answer.NoMemory = 1
