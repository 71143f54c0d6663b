-- The writers of a run that gave a report, after they are flushed.
use Rattle.std.specs.Prelude.{◌≡◌, ℕ, List, Option, Result, Ok, Err}
use Rattle.std.specs.Io.KnownBytes.{Keeps}
use Rattle.rpg_cli_answers.specs.declared.answer.Answer.{Answer}
use Rattle.rpg_cli_answers.specs.declared.answer.Answer.TheVariants as answers
use Rattle.rpg_cli_files.specs.declared.files.FileFault.{FileFault}
use Rattle.rpg_cli_words.specs.declared.files.FileArgument.TheVariants as arguments
use Rattle.rpg_engine.specs.Devices.{file_contents}
use Rattle.rpg_engine.specs.Faults.{write_faults}
use Rattle.rpg_engine.specs.declared.files.OutputFile.{OutputFile}
use Rattle.rpg_engine.specs.declared.files.OutputFile.TheVariants.{Print, Disk}
use Rattle.rpg_engine.specs.declared.files.Writers.{Writers}
use Rattle.rpg_engine.specs.declared.report.Report.{Report}
use Rattle.rpg_files.specs.Counting.{faults_after}

-- how a flush ended
abbrev pub Flush : Type 0
Flush = Result (Unit {0}) FileFault

-- The printer is flushed, and if that ended well the disk file.
abbrev pub flushed : Report → (print disk : Flush) → Result Report Answer
flushed report (Err fault) disk = Err (answers.File arguments.Print fault)
flushed report (Ok u) (Err fault) = Err (answers.File arguments.Disk fault)
flushed report (Ok u) (Ok v) = Ok report

-- how often calls of a file's writer have failed then
abbrev pub flush_faults : (print disk : Flush) → OutputFile → ℕ → ℕ
flush_faults print disk Print n = faults_after n print
flush_faults (Err fault) disk Disk n = n
flush_faults (Ok u) disk Disk n = faults_after n disk

-- The answer is that of both flushes, and so are the counts. The writers keep what they have.
pub record Flushes {P D : Type 0} (contents : P → Option (List ℕ)) (stored : D → Option (List ℕ)) (report : Report) (given : Result Report Answer)
    (before after : Writers P D) : Type 0 where
  pub printer : Flush
  pub file : Flush
  pub answer : given ≡ flushed report printer file
  pub counts : (written : OutputFile) → write_faults after written ≡ flush_faults printer file written (write_faults before written)
  pub kept : (file : OutputFile) → Keeps (file_contents contents stored before file) (file_contents contents stored after file)
