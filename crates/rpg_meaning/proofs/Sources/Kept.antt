-- What holds for a run of cards stays true once its writers have kept what they hold.
use Rattle.std.proofs.Common.{ℕ, ℤ, List, Option, Ok}
use Rattle.std.proofs.KnownBytes.{Appends-kept}
use Rattle.std.specs.Io.KnownBytes.{Keeps}
use Rattle.rpg_cards.specs.declared.spec_card.SpecCard.{SpecCard}
use Rattle.rpg_engine.proofs.Headline.{of_each}
use Rattle.rpg_engine.specs.Devices.{file_contents}
use Rattle.rpg_engine.specs.Outputs.{Contents, bytes_for}
use Rattle.rpg_engine.specs.declared.files.OutputFile.{OutputFile}
use Rattle.rpg_engine.specs.declared.files.Readers.{Readers}
use Rattle.rpg_engine.specs.declared.files.Writers.{Writers}
use Rattle.rpg_engine.specs.declared.report.Report.{Report}
use Rattle.rpg_faults.specs.Source.{cards_in}
use Rattle.rpg_meaning.specs.Sources.Printing.{PrintsAsMeant}
use Rattle.rpg_meaning.specs.Sources.Running.{IsSourceRun}
use Rattle.rpg_meaning.specs.declared.source.CompiledSource.{CompiledSource}

printed_kept : (cards : List SpecCard) (allowance : ℕ) (report : Report) (before after flushed : Contents) → ((file : OutputFile) → Keeps (after file) (flushed file))
    → (day : ℤ) (primary secondary : List ℕ) → PrintsAsMeant cards allowance day report before after primary secondary
    → PrintsAsMeant cards allowance day report before flushed primary secondary
printed_kept cards allowance report before after flushed kept day primary secondary r = record {
  meant = r.meant;
  ending = r.ending;
  cycles = r.cycles;
  sent = λ file. Appends-kept (before file) (after file) (flushed file) (bytes_for file r.meant.bytes) (r.sent file) (kept file);
}

-- a run that gave a report, whose writers were flushed after it
pub source_kept : {R S P D : Type 0} (remaining : R → Option (List ℕ)) (others : S → Option (List ℕ)) (contents : P → Option (List ℕ)) (stored : D → Option (List ℕ))
    (source : CompiledSource) (date : List ℕ) (old new : Readers R S) (before after flushed : Writers P D) (report : Report)
    → ((file : OutputFile) → Keeps (file_contents contents stored after file) (file_contents contents stored flushed file))
    → IsSourceRun remaining others contents stored source date old new before after (Ok report) → IsSourceRun remaining others contents stored source date old new before flushed (Ok report)
source_kept remaining others contents stored source date old new before after flushed report kept ran = record {
  faultless = ran.faultless;
  refused = ran.refused;
  untouched = λ none. absurd (let dated = ran.refused.1 in cc);
  alone = ran.alone;
  prints = λ day dated. of_each _ _ _ _ _ _ (printed_kept (cards_in source.text.items) source.allowance report _ _ _ kept day) (ran.prints day dated);
  stops = λ day dated. tt;
}
