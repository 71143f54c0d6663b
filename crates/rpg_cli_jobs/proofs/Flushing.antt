-- Writers that are flushed after a run: what is reported of them, and how often their calls failed.
use Rattle.std.proofs.Common.{◌≡◌, ℕ, ◌+◌, ◌⊎◌, List, Option, Result, Ok, Err, ap, inl, inr, refl, ◌∙◌}
use Rattle.rpg_cli_jobs.specs.Flushing.{Flush, flush_faults, flushed}
use Rattle.rpg_cli_jobs.specs.Running.{ReportsFaults}
use Rattle.rpg_cli_answers.specs.declared.answer.Answer.{Answer}
use Rattle.rpg_cli_answers.specs.declared.answer.Answer.TheVariants as answers
use Rattle.rpg_cli_files.specs.declared.files.FileFault.{FileFault}
use Rattle.rpg_cli_words.specs.declared.files.FileArgument.{FileArgument}
use Rattle.rpg_cli_words.specs.declared.files.FileArgument.TheVariants as arguments
use Rattle.rpg_engine.proofs.Outputs.{each_file}
use Rattle.rpg_engine.proofs.Whose.{none_rises, only_rises}
use Rattle.rpg_engine.specs.Faults.{Counts, NoneRises, OnlyRises, Reader, Writer}
use Rattle.rpg_engine.specs.declared.files.OutputFile.{OutputFile}
use Rattle.rpg_engine.specs.declared.files.OutputFile.TheVariants.{Print, Disk}
use Rattle.rpg_engine.specs.declared.report.Report.{Report}
use Rattle.rpg_program.specs.declared.input.InputFile.TheVariants.{Primary, Secondary}

-- ---- how often calls failed

-- how often each device had failed after a run that gave a report, in which none did, and how often once its writers were flushed
module _ (old mid new : Counts) (same : NoneRises old mid) (primary : new (Reader Primary) ≡ mid (Reader Primary)) (secondary : new (Reader Secondary) ≡ mid (Reader Secondary)) where
  -- the flush of one file failed, and no other
  one_failed : (failed : OutputFile) → new (Writer failed) ≡ mid (Writer failed) + 1 → ((file : OutputFile) → (Writer file ≡ Writer failed → ⊥) → new (Writer file) ≡ mid (Writer file)) → OnlyRises (Writer failed) old new
  one_failed failed more stays = only_rises (Writer failed) old new (more ∙ ap (λ n. n + 1) (same (Writer failed)))
      (λ _. primary ∙ same (Reader Primary)) (λ _. secondary ∙ same (Reader Secondary)) (λ file other. stays file other ∙ same (Writer file))

  -- the answer says which it is
  pub faults_reported : (report : Report) (printer file : Flush) (given left others rest : Option (List ℕ))
      → ((written : OutputFile) → new (Writer written) ≡ flush_faults printer file written (mid (Writer written))) → ReportsFaults (flushed report printer file) given left others rest old new
  faults_reported report (Err fault) file given left others rest counts =
      one_failed Print (counts Print) (each_file (λ f. (Writer f ≡ Writer Print → ⊥) → new (Writer f) ≡ mid (Writer f)) (λ other. absurd (other refl)) (λ _. counts Disk))
  faults_reported report (Ok u) (Err fault) given left others rest counts =
      one_failed Disk (counts Disk) (each_file (λ f. (Writer f ≡ Writer Disk → ⊥) → new (Writer f) ≡ mid (Writer f)) (λ _. counts Print) (λ other. absurd (other refl)))
  faults_reported report (Ok u) (Ok v) given left others rest counts = none_rises old new (primary ∙ same (Reader Primary)) (secondary ∙ same (Reader Secondary))
      (each_file (λ f. new (Writer f) ≡ old (Writer f)) (counts Print ∙ same (Writer Print)) (counts Disk ∙ same (Writer Disk)))

-- ---- the answer of a run that gave a report

-- it is the report, or the fault of a file
abbrev pub Ended : Report → Result Report Answer → Type 0
Ended report given = (given ≡ Ok report) ⊎ ((argument : FileArgument) × (fault : FileFault) × (given ≡ Err (answers.File argument fault)))

pub ended : (report : Report) (printer file : Flush) (given : Result Report Answer) → given ≡ flushed report printer file → Ended report given
ended report (Err fault) file given is = inr (arguments.Print, fault, is)
ended report (Ok u) (Err fault) given is = inr (arguments.Disk, fault, is)
ended report (Ok u) (Ok v) given is = inl is
