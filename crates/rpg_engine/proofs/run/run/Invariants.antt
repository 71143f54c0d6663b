use Rattle.std.proofs.Common.{◌≡◌, ◌≤◌, ◌-◌, ◌+◌, ◌*◌}
use Rattle.rpg_files.specs.Counting.{device_of, faults_of}
use Rattle.rpg_files.specs.Reading.{reader_of}
use Rattle.rpg_files.specs.Records.{max_records}
use Rattle.rpg_verify.specs.Bound.{bound}
use Rattle.rpg_engine.specs.Sending.{none_sent, sent_to, written}
use Rattle.rpg_engine.specs.declared.files.OutputFile.{OutputFile}
use Rattle.rpg_engine.proofs.Flows.{Flows}
use Rattle.rpg_engine.proofs.Taking.{AreReady, source_of}
use Rattle.rpg_engine.proofs.run.run.Given as goal

abbrev pub invariant-cycles : goal.invariant-cycles
invariant-cycles g l = record {
  flows : Flows l.initial.job (g.R1.Read.remaining (device_of (reader_of l.initial.primary))) (g.R2.Read.remaining (device_of (reader_of l.initial.secondary)))
      l.job (source_of g.R1.Read.remaining l.primary) (source_of g.R2.Read.remaining l.secondary) l.cycles l.most
      (written g.W1.Write.contents g.W2.Write.contents l.initial.writers none_sent)
      (written g.W1.Write.contents g.W2.Write.contents l.writers l.sent);
  ready : AreReady l.job l.primary l.secondary;
  same_primary : l.primary.reader.ghost_name ≡ l.initial.primary.reader.ghost_name;
  same_secondary : l.secondary.reader.ghost_name ≡ l.initial.secondary.reader.ghost_name;
  watching : g.W.Watcher.has_begun l.watcher;
  alone : l.initial.job.program.secondary_length ≡ 0 → l.secondary ≡ l.initial.secondary;
  few : l.cycles ≤ max_records + max_records;
  few_sent : (file : OutputFile) → sent_to l.sent file ≤ l.cycles * 36893488147419103232;
  bounded : l.most ≤ bound l.initial.job.program;
  primary : faults_of (reader_of l.primary) ≡ faults_of (reader_of l.initial.primary);
  secondary : faults_of (reader_of l.secondary) ≡ faults_of (reader_of l.initial.secondary);
}

abbrev pub decreases-cycles : goal.decreases-cycles
decreases-cycles g l = max_records + max_records + 1 - l.cycles
