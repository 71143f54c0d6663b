use Rattle.std.proofs.Common.{◌≡◌, arith, inl, inr, refl}
use Rattle.rpg_files.specs.Counting.{faults_of}
use Rattle.rpg_engine.proofs.Flushing.{run_kept}
use Rattle.rpg_engine.specs.Faults.{Writer}
use Rattle.rpg_engine.specs.declared.files.OutputFile.TheVariants.{Print, Disk}
use Rattle.rpg_cli_jobs.proofs.Flushing.{ended, faults_reported}
use Rattle.rpg_cli_jobs.proofs.running.run_over.Goals as goal

-- ---- a run that gave a report: its writers are flushed

pub flushed-requires-clause-printer : goal.flushed-requires-clause-printer
flushed-requires-clause-printer g c =
    let same : faults_of c.watch_program-ran.new.writers.printer ≡ faults_of c.args.writers.now.printer = c.in-Ok.ensures.faults (Writer Print) in
    omega (arith, same, c.requires.printer_faults)

pub flushed-requires-clause-disk : goal.flushed-requires-clause-disk
flushed-requires-clause-disk g c =
    let same : faults_of c.watch_program-ran.new.writers.disk ≡ faults_of c.args.writers.now.disk = c.in-Ok.ensures.faults (Writer Disk) in
    omega (arith, same, c.requires.disk_faults)

pub returns-clause-runs : goal.returns-clause-runs
returns-clause-runs g c =
    let f = c.flushed.ensures in
    let kept = run_kept _ _ _ _ c.args.program.now c.args.date.now _ _ _ _ _ c.in-Ok.report f.kept c.in-Ok.ensures.runs in
    elim (ended c.in-Ok.report f.printer f.file c.flushed.result f.answer) [
      | inl e ↦ rw e kept
      | inr e ↦ rw e.2 (c.in-Ok.report, kept)
    ]

pub returns-clause-faults : goal.returns-clause-faults
returns-clause-faults g c =
    let f = c.flushed.ensures in
    rw f.answer (faults_reported _ _ _ c.in-Ok.ensures.faults refl refl c.in-Ok.report f.printer f.file _ _ _ _ f.counts)
