-- Whose fault it was that a run stopped.
use Rattle.std.proofs.Common.{◌≡◌, ℕ, ◌+◌, ◌<◌, Bool, List, length, Option, Result, Ok, Err, refl, sym, ap, ◌∙◌, subst, arith, inl, inr}
use Rattle.std.specs.declared.cmp.Ordering.{Ordering}
use Rattle.std.specs.declared.cmp.Ordering.TheVariants.{Less, Equal, Greater}
use Rattle.rpg_cycle.specs.Job.{AtWork, job_needs_record}
use Rattle.rpg_cycle.specs.declared.ends.StartFault.{StartFault}
use Rattle.rpg_cycle.specs.declared.ends.StartFault.TheVariants as starting
use Rattle.rpg_program.specs.declared.input.InputFile.{InputFile}
use Rattle.rpg_program.specs.declared.input.InputFile.TheVariants.{Primary, Secondary}
use Rattle.rpg_files.specs.Counting.{faults_of}
use Rattle.rpg_files.specs.Reading.{ReadsNext, input_of, reader_of}
use Rattle.rpg_files.specs.Records.{max_records}
use Rattle.rpg_files.specs.declared.counting.Counted.{Counted}
use Rattle.rpg_files.specs.declared.reader.ReadFault.{ReadFault}
use Rattle.rpg_files.specs.declared.reader.ReadFault.TheVariants as reading
use Rattle.rpg_files.specs.declared.reader.RecordReader.{RecordReader}
use Rattle.rpg_engine.specs.Devices.{NamesFault}
use Rattle.rpg_program.specs.Put.{Bytes}
use Rattle.rpg_engine.specs.Faults.{Counts, Device, FaultsAre, NoneRises, OnlyRises, Reader, Writer}
use Rattle.rpg_engine.specs.Inputs.{HasTooMany, OfInputs}
use Rattle.rpg_engine.specs.Outputs.{bytes_for, order}
use Rattle.rpg_engine.specs.Refusing.{start_fault}
use Rattle.rpg_engine.specs.Sending.{FailsToSend, FileState, IsFileAfterFault, States, StopsWith}
use Rattle.rpg_engine.specs.Streaming.{HasAnswered, TakesNone}
use Rattle.rpg_engine.specs.declared.fault.CycleFault.{CycleFault}
use Rattle.rpg_engine.specs.declared.fault.CycleFault.TheVariants as stops
use Rattle.rpg_engine.specs.declared.fault.RunFault.{RunFault}
use Rattle.rpg_engine.specs.declared.fault.RunFault.TheVariants as faults
use Rattle.rpg_engine.specs.declared.files.OutputFile.{OutputFile}
use Rattle.rpg_engine.specs.declared.files.Writers.{Writers}
use Rattle.rpg_engine.proofs.Outputs.{own_order, same_file}
use Rattle.rpg_engine.proofs.Stopping.{Moves, moved_by, unread_by}
use Rattle.rpg_engine.proofs.Streams.{Stands, more_read, was_read}
use Rattle.rpg_engine.proofs.Taking.{faults_stay, source_of}

-- ---- which counts rose

-- no other writer failed
left_faults : (o : Ordering) (count : ℕ) (old new : FileState) (bytes : List ℕ) → (o ≡ Equal → ⊥) → IsFileAfterFault o count old new bytes → new.faults ≡ old.faults
left_faults Less count old new bytes other left = left.faults
left_faults Equal count old new bytes other left = absurd (other refl)
left_faults Greater count old new bytes other left = ap (λ (f : FileState). f.faults) left

answered_faults : {R : Type 0} (remaining : R → Option (List ℕ)) (is_needed : Bool) (old new : RecordReader R) → HasAnswered remaining is_needed old new → faults_of (reader_of new) ≡ faults_of (reader_of old)
answered_faults remaining is_needed old new asks = faults_stay remaining is_needed asks.0 old new asks.1

-- where the count of no writer rose, and none of a reader
pub none_rises : (old new : Counts) → new (Reader Primary) ≡ old (Reader Primary) → new (Reader Secondary) ≡ old (Reader Secondary)
    → ((file : OutputFile) → new (Writer file) ≡ old (Writer file)) → NoneRises old new
none_rises old new primary secondary written (Reader Primary) = primary
none_rises old new primary secondary written (Reader Secondary) = secondary
none_rises old new primary secondary written (Writer file) = written file

-- where that of one device did
pub only_rises : (failed : Device) (old new : Counts) → new failed ≡ old failed + 1
    → ((Reader Primary ≡ failed → ⊥) → new (Reader Primary) ≡ old (Reader Primary)) → ((Reader Secondary ≡ failed → ⊥) → new (Reader Secondary) ≡ old (Reader Secondary))
    → ((file : OutputFile) → (Writer file ≡ failed → ⊥) → new (Writer file) ≡ old (Writer file)) → OnlyRises failed old new
only_rises failed old new rises primary secondary written = (rises, others)
  where
    others : (device : Device) → (device ≡ failed → ⊥) → new device ≡ old device
    others (Reader Primary) = primary
    others (Reader Secondary) = secondary
    others (Writer file) = written file

-- a writer failed, the others being as before
one_rises : (e : RunFault) (now next : States) (bytes : Bytes) (old new : Counts) (f : FailsToSend e now next bytes) → new (Reader Primary) ≡ old (Reader Primary) → new (Reader Secondary) ≡ old (Reader Secondary)
    → ((file : OutputFile) → (now file).faults ≡ old (Writer file)) → ((file : OutputFile) → new (Writer file) ≡ (next file).faults) → OnlyRises (Writer f.failed) old new
one_rises e now next bytes old new f primary secondary was is =
    let own = subst (λ (o : Ordering). IsFileAfterFault o f.count (now f.failed) (next f.failed) (bytes_for f.failed bytes)) (own_order f.failed) (f.left f.failed) in
    only_rises (Writer f.failed) old new (is f.failed ∙ own.faults ∙ ap (λ n. n + 1) (was f.failed)) (λ _. primary) (λ _. secondary)
    (λ file other. is file ∙ left_faults (order file f.failed) f.count (now file) (next file) (bytes_for file bytes) (λ same. other (ap Writer (same_file file f.failed same))) (f.left file) ∙ was file)

more_than : (all left : List (List ℕ)) → (0 < length left) × (length all ≡ max_records + length left) → max_records < length all
more_than all left (some, is) = omega (arith, some, is)

-- a writer failed, where the counts of all writers were as at the start
pub some_faults : (e : RunFault) (now next : States) (bytes : Bytes) (given left others rest : Option (List ℕ)) (old new : Counts) (X : Type 0) → FailsToSend e now next bytes
    → new (Reader Primary) ≡ old (Reader Primary) → new (Reader Secondary) ≡ old (Reader Secondary)
    → ((file : OutputFile) → (now file).faults ≡ old (Writer file)) → ((file : OutputFile) → new (Writer file) ≡ (next file).faults)
    → FaultsAre {X = X} (Err e) given left others rest old new
some_faults e now next bytes given left others rest old new X f primary secondary was is =
    subst (λ (x : RunFault). FaultsAre {X = X} (Err x) given left others rest old new) (sym f.is) (one_rises e now next bytes old new f primary secondary was is)

module _ {R S : Type 0} (remaining : R → Option (List ℕ)) (beside : S → Option (List ℕ)) (primary primary' : RecordReader R) (secondary secondary' : RecordReader S)
    (given others : Option (List ℕ)) (s : Stands given (source_of remaining primary)) (t : Stands others (source_of beside secondary)) where
  primary_has : ReadsNext remaining primary (Err reading.TooMany) primary' → Moves (input_of beside secondary) (input_of beside secondary')
      → OfInputs given (input_of remaining primary').remaining others (input_of beside secondary').remaining (λ xs ys. HasTooMany xs)
  primary_has reads moved = record {
    primary = was_read given (input_of remaining primary') (more_read given (input_of remaining primary) (input_of remaining primary') _ s.since reads.input);
    secondary = was_read others (input_of beside secondary') (more_read others (input_of beside secondary) (input_of beside secondary') _ t.since moved);
    fact = λ more others_more can can_too. more_than _ _ (unread_by remaining primary primary' given s reading.TooMany reads more can);
  }

  secondary_has : Moves (input_of remaining primary) (input_of remaining primary') → ReadsNext beside secondary (Err reading.TooMany) secondary'
      → OfInputs given (input_of remaining primary').remaining others (input_of beside secondary').remaining (λ xs ys. HasTooMany ys)
  secondary_has moved reads = record {
    primary = was_read given (input_of remaining primary') (more_read given (input_of remaining primary) (input_of remaining primary') _ s.since moved);
    secondary = was_read others (input_of beside secondary') (more_read others (input_of beside secondary) (input_of beside secondary') _ t.since reads.input);
    fact = λ more others_more can can_too. more_than _ _ (unread_by beside secondary secondary' others t reading.TooMany reads others_more can_too);
  }

  -- a cycle wasn't done
  module _ (job : AtWork) (old new : Counts) (was_primary : faults_of (reader_of primary) ≡ old (Reader Primary)) (was_secondary : faults_of (reader_of secondary) ≡ old (Reader Secondary))
      (is_primary : new (Reader Primary) ≡ faults_of (reader_of primary')) (is_secondary : new (Reader Secondary) ≡ faults_of (reader_of secondary')) where
    reading_faults : (file : InputFile) (why : ReadFault) (X : Type 0) → TakesNone remaining beside job primary secondary (stops.Read file why) primary' secondary'
        → ((file : OutputFile) → new (Writer file) ≡ old (Writer file))
        → FaultsAre {X = X} (Err (faults.Read file why)) given (input_of remaining primary').remaining others (input_of beside secondary').remaining old new
    reading_faults Primary reading.Device X none written =
        only_rises (Reader Primary) old new (is_primary ∙ none.0.1.faults ∙ ap (λ x. x + 1) was_primary) (λ other. absurd (other refl))
        (λ _. is_secondary ∙ ap (λ r. faults_of (reader_of r)) none.1 ∙ was_secondary) (λ f _. written f)
    reading_faults Primary reading.TooMany X none written = (
      none_rises old new (is_primary ∙ none.0.1.faults ∙ was_primary) (is_secondary ∙ ap (λ r. faults_of (reader_of r)) none.1 ∙ was_secondary) written,
      primary_has none.0.1 (moved_by remaining beside job primary primary' secondary secondary' (stops.Read Primary reading.TooMany) none).1,
    )
    reading_faults Secondary reading.Device X none written = only_rises (Reader Secondary) old new (is_secondary ∙ none.1.1.faults ∙ ap (λ x. x + 1) was_secondary)
        (λ _. is_primary ∙ answered_faults remaining (job_needs_record job Primary) primary primary' none.0 ∙ was_primary) (λ other. absurd (other refl)) (λ f _. written f)
    reading_faults Secondary reading.TooMany X none written = (
      none_rises old new (is_primary ∙ answered_faults remaining (job_needs_record job Primary) primary primary' none.0 ∙ was_primary) (is_secondary ∙ none.1.1.faults ∙ was_secondary) written,
      secondary_has (moved_by remaining beside job primary primary' secondary secondary' (stops.Read Secondary reading.TooMany) none).0 none.1.1,
    )

    -- memory ran out after both readers returned
    read_primary : TakesNone remaining beside job primary secondary stops.NoMemory primary' secondary' → new (Reader Primary) ≡ old (Reader Primary)
    read_primary none = is_primary ∙ answered_faults remaining (job_needs_record job Primary) primary primary' none.0 ∙ was_primary

    read_secondary : TakesNone remaining beside job primary secondary stops.NoMemory primary' secondary' → new (Reader Secondary) ≡ old (Reader Secondary)
    read_secondary none = is_secondary ∙ answered_faults beside (job_needs_record job Secondary) secondary secondary' none.1 ∙ was_secondary

    pub stop_faults : (fault : CycleFault) (cycles : ℕ) (e : RunFault) (now next : States) (bytes : Bytes) (X : Type 0) → TakesNone remaining beside job primary secondary fault primary' secondary'
        → StopsWith fault cycles now next bytes e → ((file : OutputFile) → (now file).faults ≡ old (Writer file)) → ((file : OutputFile) → new (Writer file) ≡ (next file).faults)
        → FaultsAre {X = X} (Err e) given (input_of remaining primary').remaining others (input_of beside secondary').remaining old new
    stop_faults (stops.Read file why) cycles e now next bytes X none (reported, same) was is =
        subst (λ (x : RunFault). FaultsAre {X = X} (Err x) given (input_of remaining primary').remaining others (input_of beside secondary').remaining old new) (sym reported)
        (reading_faults file why X none (λ f. is f ∙ ap (λ (x : FileState). x.faults) (same f) ∙ was f))
    stop_faults stops.NoMemory cycles e now next bytes X none (inl (reported, all)) was is =
        subst (λ (x : RunFault). FaultsAre {X = X} (Err x) given (input_of remaining primary').remaining others (input_of beside secondary').remaining old new) (sym reported)
        (none_rises old new (read_primary none) (read_secondary none) (λ f. is f ∙ (all f).faults ∙ was f))
    stop_faults stops.NoMemory cycles e now next bytes X none (inr fails) was is =
        some_faults e now next bytes given (input_of remaining primary').remaining others (input_of beside secondary').remaining old new X fails (read_primary none) (read_secondary none) was is

-- a job that never began
pub start_faults : (fault : StartFault) (given left others rest : Option (List ℕ)) (c : Counts) (X : Type 0) → FaultsAre {X = X} (Err (start_fault fault)) given left others rest c c
start_faults starting.BadDate given left others rest c X = λ device. refl
start_faults starting.NoMemory given left others rest c X = λ device. refl

-- the same readers, whatever they are called
pub same_fault : {R S P D X : Type 0} (remaining : R → Option (List ℕ)) (others : S → Option (List ℕ)) (a a' c c' : Counted R) (b b' d d' : Counted S) (before after : Writers P D) (result : Result X RunFault)
    → a ≡ a' → b ≡ b' → c ≡ c' → d ≡ d' → NamesFault remaining others (record { primary = a; secondary = b }) (record { primary = c; secondary = d }) before after result
    → NamesFault remaining others (record { primary = a'; secondary = b' }) (record { primary = c'; secondary = d' }) before after result
same_fault {R} {S} remaining others a a' c c' b b' d d' before after result e f g h holds =
    subst (λ (x : Counted R). NamesFault remaining others (record { primary = x; secondary = b' }) (record { primary = c'; secondary = d' }) before after result) e
    (subst (λ (y : Counted S). NamesFault remaining others (record { primary = a; secondary = y }) (record { primary = c'; secondary = d' }) before after result) f
    (subst (λ (x : Counted R). NamesFault remaining others (record { primary = a; secondary = b }) (record { primary = x; secondary = d' }) before after result) g
    (subst (λ (y : Counted S). NamesFault remaining others (record { primary = a; secondary = b }) (record { primary = c; secondary = y }) before after result) h holds)))
