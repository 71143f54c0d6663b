-- A run that is reported, and one that stops early.
use Rattle.std.proofs.Common.{◌≡◌, ℕ, ℤ, ◌⊎◌, ◌+◌, ◌<◌, ◌≤◌, ◌&&◌, ◌==◌, max, Bool, true, false, List, [], ◌∷◌, ◌++◌, length, Option, Some, None, Ok, Err, refl, sym, ap, ◌∙◌, subst, append_assoc, arith, inl, inr}
use Rattle.std.proofs.lemmas.Bool.{cases_Bool}
use Rattle.std.specs.Io.KnownBytes.{Appends}
use Rattle.std.specs.declared.cmp.Ordering.{Ordering}
use Rattle.std.specs.declared.cmp.Ordering.TheVariants.{Equal}
use Rattle.rpg_cycle.specs.Ends.{EndOfJob, Continues, Halt, PhaseEnd, Wrong}
use Rattle.rpg_cycle.specs.Job.{AtWork, first_fields, job_needs_record, job_started}
use Rattle.rpg_cycle.specs.Phases.{UnderWay, needs_record}
use Rattle.rpg_cycle.specs.Runs.{Course, Records, Runs, first_if_any, last_cycle, printed, stored}
use Rattle.rpg_cycle.specs.Stages.{is_going, job_end}
use Rattle.rpg_cycle.specs.Starting.{job_start}
use Rattle.rpg_cycle.specs.declared.ends.JobEnd.{JobEnd}
use Rattle.rpg_cycle_records.specs.Earlier.{Selected, with_record}
use Rattle.rpg_cycle_records.specs.Identifying.{is_valid_record}
use Rattle.rpg_cycle_records.specs.Waiting.{Inputs, unread}
use Rattle.rpg_paper.specs.Paper.{last_position}
use Rattle.rpg_program.specs.Put.{Bytes}
use Rattle.rpg_program.specs.declared.input.InputFile.{InputFile}
use Rattle.rpg_program.specs.declared.input.InputFile.TheVariants.{Primary, Secondary}
use Rattle.rpg_files.specs.NextLine.{CanFollow}
use Rattle.rpg_files.specs.Reading.{Advances, Input, ReadsNext, buffered_of, input_of, limit_of}
use Rattle.rpg_files.specs.Records.{begins_with_line_feed, onto_first, records}
use Rattle.rpg_files.specs.declared.reader.Next.TheVariants as next
use Rattle.rpg_files.specs.declared.reader.ReadFault.{ReadFault}
use Rattle.rpg_files.specs.declared.reader.ReadFault.TheVariants as fault
use Rattle.rpg_files.specs.declared.reader.RecordReader.{RecordReader}
use Rattle.rpg_machine.specs.Config.{Config, Output, with_more}
use Rattle.rpg_machine.specs.Run.{running_place}
use Rattle.rpg_machine.specs.Running.{config_on, no_bytes}
use Rattle.rpg_program.specs.Object.{Object, input_length}
use Rattle.rpg_program.specs.declared.section.Place.{Place}
use Rattle.rpg_verify.specs.Bound.{bound}
use Rattle.rpg_engine.specs.Inputs.{OfFronts, OfInputs, bytes_of_input, records_of}
use Rattle.rpg_engine.specs.Outputs.{Contents, HaveAll, HaveParts, bytes_for, bytes_with, order}
use Rattle.rpg_engine.specs.Reporting.{AreSameOrBad, IsBad, ContinuesFor, HasParts, HasSent, IsOutputSoFar, IsOutputBy, IsRunOver, IsUnread, MayBeOutput, Reports, WaitsFor, WentOn, bytes_of, records_of_file}
use Rattle.rpg_engine.specs.Sending.{FailsToSend, FileState, IsFileAfterFault, States, StopsWith, held_in}
use Rattle.rpg_engine.specs.Streaming.{ReadsIfNeeded, FailsToRead, HasAnswered, IsRunFault, StopsEarly, TakesNone, ended_stage, record_with}
use Rattle.rpg_engine.specs.declared.fault.CycleFault.{CycleFault}
use Rattle.rpg_engine.specs.declared.fault.CycleFault.TheVariants as stops
use Rattle.rpg_engine.specs.declared.fault.RunFault.{RunFault}
use Rattle.rpg_engine.specs.declared.fault.RunFault.TheVariants as faults
use Rattle.rpg_engine.specs.declared.files.OutputFile.{OutputFile}
use Rattle.rpg_engine.proofs.Bytes.{BeginsWith, put_begins, put_last, put_on, put_with, so_far}
use Rattle.rpg_engine.proofs.Courses.{ContinuesWith, HeadCycle, IsLast, IsUnderWay, following, begins_with, ends, continues_to, one_more, some_cycles, stand}
use Rattle.rpg_engine.proofs.Outputs.{none_for, own_order}
use Rattle.rpg_engine.proofs.Sent.{IsSent, all_sent, begins_whole, counted_sent, left_parts, left_up_to, rest_sent, still_sent, waiting_sent}
use Rattle.rpg_engine.proofs.Streams.{SinceStart, Stands, Streams, head, is_last, more_read, reads_on, rest, steps_are, under_way_still, was_ended, was_read}
use Rattle.rpg_engine.proofs.Taking.{Source, TakesNext, no_character, source_of, stands_still, reported_of}

-- ---- the start

abbrev IsStart : AtWork → ℤ → Type 0
IsStart first day = first ≡ job_started first.program day (first_fields first.program)

start_is : (first : AtWork) (day : ℤ) → IsStart first day → config_on None first.config ≡ job_start first.program day (first_fields first.program)
start_is first day is = ap (λ (j : AtWork). config_on None j.config) is

-- ---- a report

pub stream_reports : (first job mid : AtWork) (given others : Option (List ℕ)) (a b a' b' : Source) (cycles most greater : ℕ)
    (before after : Contents) (most_steps : ℕ) (j : JobEnd) (place : Option Place) (e : PhaseEnd)
    (s : Streams first given others job a b cycles most) (t : TakesNext s.earlier (last_position s.out.lines) job a b e mid a' b')
    → mid.stage ≡ ended_stage (Some j) → greater ≡ max most mid.config.steps
    → HaveAll before after (put_with e s.out t.does.out)
    → most_steps ≡ bound first.program → greater ≤ most_steps → place ≡ running_place mid.program mid.config → (day : ℤ) → IsStart first day
    → OfInputs given a'.input.remaining others b'.input.remaining (Reports first.program day (record { ending = j; cycles = cycles + 1; most = greater; bound = most_steps; place = place }) before after)
stream_reports first job mid given others a b a' b' cycles most greater before after most_steps j place e s t stage most_is sent bounded few stands day is =
    let does = t.does in
    let ended : e ≡ job_end j = was_ended e j (sym does.stage ∙ stage) in
    let last : IsLast e = subst IsLast (sym ended) (is_last j) in
    let course = following cycles most s.out (last_cycle e does.there does.out) in
    record {
      primary = was_read given a'.input (more_read given a.input a'.input _ s.primary.since t.primary.input);
      secondary = was_read others b'.input (more_read others b.input b'.input _ s.secondary.since t.secondary.input);
      fact = λ more others_more can can_too.
          let all = records_of ((s.primary.since.read ++ t.primary.input.read) ++ more) ((s.secondary.since.read ++ t.secondary.input.read) ++ others_more) in
          let again = under_way_still first job given others a b cycles most s mid a' b' e t more others_more can can_too in
          let one = head first job given others a b cycles most s mid a' b' e t more others_more can can_too in
          record {
            course = course;
            bytes = bytes_with (printed course.output) (stored course.output);
            run = record {
              runs = subst (λ (c : Config). Runs first.program [] all c unread course) (start_is first day is)
                  (ends first.program (config_on None first.config) all s.earlier (config_on (last_position s.out.lines) job.config) job.inputs _ _ cycles most s.out e does.there does.out again one last);
              print = refl;
              disk = refl;
            };
            ending = sym ended;
            cycles = refl;
            most = most_is ∙ ap (max most) (sym (steps_are job mid s.earlier s.out t.x t.y e does));
            bound = bounded;
            place = stands ∙ ap (λ (p : Object). running_place p mid.config) (does.program ∙ s.program) ∙ ap (running_place first.program) (sym does.config);
            few = few;
            sent = subst (λ (bytes : Bytes). HaveAll before after bytes) (put_last e s.out does.out last) sent;
          };
    }

-- ---- nothing was done with what stands next

-- some bytes were read, or none
abbrev pub Moves : Input → Input → Type 0
Moves i j = Advances i j (λ x y. Unit {0})

pub stays_there : (i : Input) → Moves i i
stays_there i = stands_still i (λ x y. Unit {0}) (λ x. tt)

module _ {R : Type 0} (remaining : R → Option (List ℕ)) where
  pub still : (old new : RecordReader R) → new ≡ old → Moves (input_of remaining old) (input_of remaining new)
  still old new same = subst (λ (r : RecordReader R). Moves (input_of remaining old) (input_of remaining r)) (sym same) (stays_there (input_of remaining old))

  abbrev pub asked : (is_needed : Bool) (old new : RecordReader R) → HasAnswered remaining is_needed old new → Moves (input_of remaining old) (input_of remaining new)
  asked false old new (answer, asks) = still old new (asks.unneeded refl).1
  asked true old new (answer, asks) = reported_of (input_of remaining old) (input_of remaining new) _ (λ x y. Unit {0}) (λ x y is. tt) (asks.needed refl).0.input

  abbrev pub failed : (is_needed : Bool) (fault : ReadFault) (old new : RecordReader R) → FailsToRead remaining is_needed fault old new → Moves (input_of remaining old) (input_of remaining new)
  failed is_needed fault old new fails = reported_of (input_of remaining old) (input_of remaining new) _ (λ x y. Unit {0}) (λ x y is. tt) fails.1.input

  -- a reader that failed was read
  pub failed_ask : (is_needed : Bool) (fault : ReadFault) (old new : RecordReader R) → ReadsIfNeeded remaining is_needed old (Err fault) new → FailsToRead remaining is_needed fault old new
  failed_ask true fault old new asks = (refl, (asks.needed refl).0)
  failed_ask false fault old new asks = absurd (let no = (asks.unneeded refl).0 in cc)

  -- the first record that a reader returned has to come, whatever follows
  known_first : (p : Object) (f : InputFile) (is_needed : Bool) (old new : RecordReader R) (x : HasAnswered remaining is_needed old new) → limit_of old ≡ input_length p f → is_needed ≡ true
      → (more : List ℕ) → CanFollow (input_of remaining new).ended more
      → AreSameOrBad p f (record_with new x.0) (first_if_any (records ((input_of remaining old).buffered ++ ((asked is_needed old new x).read ++ more))))
  known_first p f false old new x limit is more can = absurd (let never : false ≡ true = is in cc)
  known_first p f true old new (next.Record, asks) limit is more can = let gives = (asks.needed refl).0.input.fact more can in inl (sym (ap first_if_any gives.2))
  known_first p f true old new (next.Bad, asks) limit is more can =
      let bad = ((asks.needed refl).0.input.fact more can).1 in
      let bad_too : is_valid_record p f bad.0 ≡ false = rw limit at bad.3 in
      inr (no_character p f, subst (λ (rs : List (List ℕ)). IsBad p f (first_if_any rs)) (sym bad.2) bad_too)
  known_first p f true old new (next.End, asks) limit is more can = let gives = (asks.needed refl).0.input.fact more can in inl (sym (ap (λ (bytes : List ℕ). first_if_any (records bytes)) gives.0))

module _ {R S : Type 0} (remaining : R → Option (List ℕ)) (others : S → Option (List ℕ)) (job : AtWork) (primary primary' : RecordReader R) (secondary secondary' : RecordReader S) where
  abbrev DoesNone : CycleFault → Type 0
  DoesNone e = TakesNone remaining others job primary secondary e primary' secondary'

  abbrev pub moved_by : (e : CycleFault) → DoesNone e → Moves (input_of remaining primary) (input_of remaining primary') × Moves (input_of others secondary) (input_of others secondary')
  moved_by (stops.Read Primary fault) none = (failed remaining (job_needs_record job Primary) fault primary primary' none.0, still others secondary secondary' none.1)
  moved_by (stops.Read Secondary fault) none =
      (asked remaining (job_needs_record job Primary) primary primary' none.0, failed others (job_needs_record job Secondary) fault secondary secondary' none.1)
  moved_by stops.NoMemory none =
      (asked remaining (job_needs_record job Primary) primary primary' none.0, asked others (job_needs_record job Secondary) secondary secondary' none.1)

pub some_of_run : (e : RunFault) (old new : States) (bytes : Bytes) → FailsToSend e old new bytes → IsRunFault e
some_of_run e old new bytes fails = subst IsRunFault (sym fails.is) tt

pub stop_of_run : (fault : CycleFault) (cycles : ℕ) (old new : States) (bytes : Bytes) (e : RunFault) → StopsWith fault cycles old new bytes e → IsRunFault e
stop_of_run (stops.Read file fault) cycles old new bytes e stop = subst IsRunFault (sym stop.0) tt
stop_of_run stops.NoMemory cycles old new bytes e (inl stop) = subst IsRunFault (sym stop.0) tt
stop_of_run stops.NoMemory cycles old new bytes e (inr fails) = some_of_run e old new bytes fails

-- a job that needs a record continues, and so do its files
going_on : (p q : Bool) → (p && q) ≡ true → q ≡ true
going_on true q h = h
going_on false q h = absurd cc

-- a run over these records, from where the job began
runs_from : (first : AtWork) (day : ℤ) (primary secondary : List ℕ) (course : Course) (bytes : Bytes) → IsStart first day → IsRunOver first.program day primary secondary course bytes
    → Runs first.program [] (records_of primary secondary) (config_on None first.config) unread course
runs_from first day primary secondary course bytes is run = subst (λ (c : Config). Runs first.program [] (records_of primary secondary) c unread course) (sym (start_is first day is)) run.runs

-- bytes that are there make a record
some_onto : (b : ℕ) (rs : List (List ℕ)) → 0 < length (onto_first b rs)
some_onto b [] = omega arith
some_onto b (r ∷ rs) = omega arith

some_records : (bytes : List ℕ) → 0 < length bytes → 0 < length (records bytes)
some_records [] some = absurd (omega arith)
some_records (b ∷ bytes) some = elim (cases_Bool (b == 10)) [
  | inl feed ↦ rw feed (omega arith)
  | inr other ↦ rw other (elim (cases_Bool (b == 13 && begins_with_line_feed bytes)) [
    | inl returns ↦ rw returns (after_return bytes (feed_follows (b == 13) (begins_with_line_feed bytes) returns))
    | inr on ↦ rw on (some_onto b (records bytes))
  ])
]
  where
    feed_follows : (p q : Bool) → (p && q) ≡ true → q ≡ true
    feed_follows true q h = h
    feed_follows false q h = absurd cc

    after_return : (rest : List ℕ) → begins_with_line_feed rest ≡ true → 0 < length (records rest)
    after_return [] h = absurd (let never : false ≡ true = h in cc)
    after_return (c ∷ rest) h = rw h (omega arith)

-- the records of an input and those to come of it, once so much more was read
abbrev pub all_of : {given : Option (List ℕ)} {i : Input} → SinceStart given i → List ℕ → List ℕ → List (List ℕ)
all_of since read more = records ((since.read ++ read) ++ more)

abbrev pub left_of : Input → List ℕ → List ℕ → List (List ℕ)
left_of i read more = records (i.buffered ++ (read ++ more))

-- what a reader that failed hadn't read
module _ {R : Type 0} (remaining : R → Option (List ℕ)) (old new : RecordReader R) (given : Option (List ℕ)) (s : Stands given (source_of remaining old)) where
  pub unread_by : (fault : ReadFault) (reads : ReadsNext remaining old (Err fault) new) (more : List ℕ) → CanFollow (input_of remaining new).ended more
      → IsUnread fault (all_of s.since reads.input.read more) (left_of (input_of remaining old) reads.input.read more) (buffered_of new) more
  unread_by fault.Device reads more can = (reads.waits refl, ap records (reads.input.fact more can))
  unread_by fault.TooMany reads more can =
      let gives = reads.input.fact more can in
      let some = some_records ((input_of remaining old).buffered ++ (reads.input.read ++ more)) gives.1 in
      let all = s.counted (reads.input.read ++ more) (λ ended. let none = reads.input.none_at_end ended in ap (λ (xs : List ℕ). xs ++ more) none.0 ∙ can none.1) in
      let same : length (all_of s.since reads.input.read more) ≡ length (records (s.since.read ++ (reads.input.read ++ more))) =
      ap (λ (bytes : List ℕ). length (records bytes)) (append_assoc s.since.read reads.input.read more) in
      (some, omega (arith, gives.0, all, same))

-- the job waited for a record of this file, and each writer has all that was output
pub record ReadFails (job : AtWork) (file : InputFile) (fault : ReadFault) {given others : Option (List ℕ)} {a b i j : Input} (since : SinceStart given a) (since_too : SinceStart others b) (one : Moves a i) (two : Moves b j)
    (put : Bytes) (before after : Contents) : Type 0 where
  pub needed : job_needs_record job file ≡ true
  pub part : List ℕ
  pub known : Option (List ℕ)
  pub unread : (more following : List ℕ) → CanFollow i.ended more → CanFollow j.ended following
      → IsUnread fault (records_of_file file (record { primary = all_of since one.read more; secondary = all_of since_too two.read following }))
      (records_of_file file (record { primary = left_of a one.read more; secondary = left_of b two.read following })) part (bytes_of_input file more following)
  pub first : file ≡ Secondary → job_needs_record job Primary ≡ true → (more : List ℕ) → CanFollow i.ended more → AreSameOrBad job.program Primary known (first_if_any (left_of a one.read more))
  pub sent : HaveAll before after put

module _ {R S : Type 0} (remaining : R → Option (List ℕ)) (others : S → Option (List ℕ)) (job : AtWork) (primary primary' : RecordReader R) (secondary secondary' : RecordReader S)
    (given beside : Option (List ℕ)) (s : Stands given (source_of remaining primary)) (t : Stands beside (source_of others secondary)) (limit : limit_of primary ≡ job.program.record_length)
    (put : Bytes) (before after : Contents) (sent : HaveAll before after put) where
  abbrev pub FailsBy : (file : InputFile) (fault : ReadFault) → TakesNone remaining others job primary secondary (stops.Read file fault) primary' secondary' → Type 0
  FailsBy file fault none =
      let moved = moved_by remaining others job primary primary' secondary secondary' (stops.Read file fault) none in
      ReadFails job file fault s.since t.since moved.0 moved.1 put before after

  pub reading_fails : (file : InputFile) (fault : ReadFault) (none : TakesNone remaining others job primary secondary (stops.Read file fault) primary' secondary') → FailsBy file fault none
  reading_fails Primary fault none = record {
    needed = none.0.0;
    part = buffered_of primary';
    known = None;
    unread = λ more following can can_too. unread_by remaining primary primary' given s fault none.0.1 more can;
    first = λ is. absurd cc;
    sent = sent;
  }
  reading_fails Secondary fault none = record {
    needed = none.1.0;
    part = buffered_of secondary';
    known = record_with primary' none.0.0;
    unread = λ more following can can_too. unread_by others secondary secondary' beside t fault none.1.1 following can_too;
    first = λ is needs more can. known_first remaining job.program Primary (job_needs_record job Primary) primary primary' none.0 limit needs more can;
    sent = sent;
  }

-- of each run's bytes that begin with these, a fault leaves such parts
abbrev pub LeavesParts : RunFault → (put : Bytes) → (before after : Contents) → Type 0
LeavesParts e put before after = (bytes : Bytes) → ((file : OutputFile) → BeginsWith (bytes_for file bytes) (bytes_for file put)) → HasParts e before after bytes

-- where memory ran out the fault reports these cycles
abbrev pub CountsCycles : RunFault → ℕ → Type 0
CountsCycles e cycles = (n : ℕ) → e ≡ faults.NoMemory n → n ≡ cycles

may_be_output : (e : RunFault) (p : Object) (day : ℤ) (primary secondary : List ℕ) (bytes : Bytes) (cycles : ℕ) → CountsCycles e cycles → IsOutputBy cycles p day primary secondary bytes
    → MayBeOutput e p day primary secondary bytes
may_be_output (faults.Object fault) p day primary secondary bytes cycles counts put = inl (cycles, put)
may_be_output faults.BadDate p day primary secondary bytes cycles counts put = inl (cycles, put)
may_be_output (faults.Read file fault) p day primary secondary bytes cycles counts put = inl (cycles, put)
may_be_output (faults.Write file sent) p day primary secondary bytes cycles counts put = inl (cycles, put)
may_be_output (faults.NoMemory n) p day primary secondary bytes cycles counts put = subst (λ (k : ℕ). IsOutputBy k p day primary secondary bytes) (sym (counts n refl)) put

-- a fault of a writer
abbrev pub IsWriters : RunFault → Type 0
IsWriters e = (failed : OutputFile) × (count : ℕ) × (e ≡ faults.Write failed count)

abbrev pub writers_of : (e : RunFault) (old new : States) (bytes : Bytes) → FailsToSend e old new bytes → IsWriters e
writers_of e old new bytes fails = (fails.failed, fails.count, fails.is)

-- it reports no cycles, and no reader
pub writers_count : (e : RunFault) (cycles : ℕ) → IsWriters e → CountsCycles e cycles
writers_count e cycles (failed, count, is) n counted = absurd (let never : faults.Write failed count ≡ faults.NoMemory n = sym is ∙ counted in cc)

pub writers_read : (e : RunFault) → IsWriters e → (file : InputFile) (why : ReadFault) → e ≡ faults.Read file why → ⊥
writers_read e (failed, count, is) file why read = let never : faults.Write failed count ≡ faults.Read file why = sym is ∙ read in cc

-- what a fault of a reader names
file_same : (f g : InputFile) (w v : ReadFault) → faults.Read f w ≡ faults.Read g v → f ≡ g
file_same f g w v same = cc

fault_same : (f g : InputFile) (w v : ReadFault) → faults.Read f w ≡ faults.Read g v → w ≡ v
fault_same f g w v same = cc

-- a job that continues needs the records that its next cycle does
needs_too : (p q r : Bool) → (p && q) ≡ true → r ≡ true → (p && r) ≡ true
needs_too true q r h is = is
needs_too false q r h is = absurd cc

-- between two cycles, once some of what stands next may have been read
module _ (first job : AtWork) (given others : Option (List ℕ)) (a b : Source) (i j : Input) (cycles most : ℕ) (s : Streams first given others job a b cycles most) (one : Moves a.input i) (two : Moves b.input j) where
  abbrev xs_of : List ℕ → List ℕ
  xs_of more = (s.primary.since.read ++ one.read) ++ more

  abbrev ys_of : List ℕ → List ℕ
  ys_of following = (s.secondary.since.read ++ two.read) ++ following

  abbrev stands_now : Config
  stands_now = config_on (last_position s.out.lines) job.config

  -- the cycles that went on, and what holds after them
  went_on : (day : ℤ) → IsStart first day → (more following : List ℕ) → CanFollow i.ended more → CanFollow j.ended following → (Then : List Selected → Records → Config → Inputs → Type 0)
      → Then s.earlier (records_of (a.input.buffered ++ (one.read ++ more)) (b.input.buffered ++ (two.read ++ following))) stands_now job.inputs
      → WentOn cycles first.program day (xs_of more) (ys_of following) s.out Then
  went_on day is more following can can_too Then holds =
      let u = reads_on first job given others a b cycles most s i j _ _ one two more following can can_too in
      subst (λ (c : Config). ContinuesFor cycles first.program [] (records_of (xs_of more) (ys_of following)) c unread s.out Then) (start_is first day is)
      (continues_to cycles first.program [] (records_of (xs_of more) (ys_of following)) (config_on None first.config) unread s.out
      (stand s.earlier (records_of (a.input.buffered ++ (one.read ++ more)) (b.input.buffered ++ (two.read ++ following))) stands_now job.inputs) Then holds u.gone)

  -- the next cycle waits for its record
  waits_for : (file : InputFile) (fault : ReadFault) (before after : Contents) (fails : ReadFails job file fault s.primary.since s.secondary.since one two (bytes_of s.out) before after)
      → (more following : List ℕ) → CanFollow i.ended more → CanFollow j.ended following
      → WaitsFor job.program file fault (records_of (xs_of more) (ys_of following)) (records_of (a.input.buffered ++ (one.read ++ more)) (b.input.buffered ++ (two.read ++ following))) stands_now job.inputs
      fails.part (bytes_of_input file more following) fails.known
  waits_for file fault before after fails more following can can_too = record {
    needed = going_on (is_going job.stage) (needs_record job.program stands_now job.inputs file) fails.needed;
    unread = fails.unread more following can can_too;
    first = λ is needs. fails.first is
        (needs_too (is_going job.stage) (needs_record job.program stands_now job.inputs file) (needs_record job.program stands_now job.inputs Primary) fails.needed needs) more can;
  }

  pub stopped_between : (e : RunFault) (before after : Contents) → CountsCycles e cycles → LeavesParts e (bytes_of s.out) before after
      → HasSent e before after (bytes_of s.out)
      → ((file : InputFile) (fault : ReadFault) → e ≡ faults.Read file fault → ReadFails job file fault s.primary.since s.secondary.since one two (bytes_of s.out) before after)
      → (day : ℤ) → IsStart first day → OfFronts given i.remaining others j.remaining (StopsEarly first.program day e before after)
  stopped_between e before after counts leaves sent fails day is = record {
    primary = was_read given i (more_read given a.input i _ s.primary.since one);
    secondary = was_read others j (more_read others b.input j _ s.secondary.since two);
    fact = record {
      stops = λ more others_more can can_too.
          let xs = xs_of more in
          let ys = ys_of others_more in
          let u = reads_on first job given others a b cycles most s i j _ _ one two more others_more can can_too in
          record {
            parts = λ course bytes run.
                let later = u.back course (runs_from first day xs ys course bytes is run) in
                let output : course.output ≡ with_more s.out later.0.output = ap (λ (c : Course). c.output) later.2 in
                leaves bytes (so_far course.output s.out bytes run.print run.disk later.0.output output);
            bytes = bytes_of s.out;
            write_line_out = may_be_output e first.program day xs ys (bytes_of s.out) cycles counts
                (s.out, went_on day is more others_more can can_too (λ earlier rs c k. Unit {0}) tt, refl);
            sent = sent;
          };
      needs = λ file fault read.
          let failed = fails file fault read in
          record {
            cycles = cycles;
            out = s.out;
            part = failed.part;
            known = failed.known;
            sent = failed.sent;
            continues = λ more following can can_too.
                let xs = xs_of more in
                let ys = ys_of following in
                went_on day is more following can can_too (λ earlier rs c k. WaitsFor first.program file fault (records_of xs ys) rs c k failed.part (bytes_of_input file more following) failed.known)
                (subst (λ (p : Object). WaitsFor p file fault (records_of xs ys) (records_of (a.input.buffered ++ (one.read ++ more)) (b.input.buffered ++ (two.read ++ following))) stands_now job.inputs
                failed.part (bytes_of_input file more following) failed.known) s.program (waits_for file fault before after failed more following can can_too));
            longer = λ more following can can_too course bytes run.
                let u = reads_on first job given others a b cycles most s i j _ _ one two more following can can_too in
                let later = u.back course (runs_from first day (xs_of more) (ys_of following) course bytes is run) in
                let some = some_cycles later.0.cycles first.program s.earlier stands_now job.inputs _ later.0 later.1 in
                let all : course.cycles ≡ cycles + later.0.cycles = ap (λ (c : Course). c.cycles) later.2 in
                omega (arith, some, all);
          };
    };
  }

-- what a run output by the end of a cycle, or by its own end
abbrev EitherOutput : Object → ℤ → (primary secondary : List ℕ) → Bytes → Type 0
EitherOutput p day primary secondary bytes = IsOutputSoFar p day primary secondary bytes ⊎ ((course : Course) × IsRunOver p day primary secondary course bytes)

-- a cycle with what it output
module _ (first : AtWork) (day : ℤ) (is : IsStart first day) (xs ys : List ℕ) (earlier : List Selected) (now : Config) (i : Inputs) (rest after : Records) (cycles most : ℕ) (out : Output) (there : UnderWay) (o : Output)
    (u : IsUnderWay first.program (config_on None first.config) (records_of xs ys) earlier now i rest cycles most out) where
  put_at_end : (e : PhaseEnd) → HeadCycle first.program earlier now i e there o rest after → IsLast e → EitherOutput first.program day xs ys (put_with e out o)
  put_at_end e head last =
      let course = following cycles most out (last_cycle e there o) in
      inr (
        course,
        record {
          runs = subst (λ (c : Config). Runs first.program [] (records_of xs ys) c unread course) (start_is first day is)
              (ends first.program (config_on None first.config) (records_of xs ys) earlier now i rest after cycles most out e there o u head last);
          print = ap (λ (bytes : Bytes). bytes.print) (put_last e out o last);
          disk = ap (λ (bytes : Bytes). bytes.disk) (put_last e out o last);
        },
      )

  output_after : (e : PhaseEnd) → HeadCycle first.program earlier now i e there o rest after → EitherOutput first.program day xs ys (put_with e out o)
  output_after Continues head =
      let more = one_more first.program (config_on None first.config) (records_of xs ys) earlier now i rest after cycles most (max most there.config.steps) out there o u head refl in
      let put : IsOutputBy (cycles + 1) first.program day xs ys (put_with Continues out o) = (
        with_more out o,
        subst (λ (c : Config). ContinuesFor (cycles + 1) first.program [] (records_of xs ys) c unread (with_more out o) (λ e rs d k. Unit {0})) (start_is first day is)
            (continues_to (cycles + 1) first.program [] (records_of xs ys) (config_on None first.config) unread (with_more out o)
            (stand (with_record there.selected earlier) after there.config there.inputs) (λ e rs d k. Unit {0}) tt more.gone),
        put_on out o Continues refl,
      ) in
      inl (cycles + 1, put)
  output_after EndOfJob head = put_at_end EndOfJob head tt
  output_after (Halt k) head = put_at_end (Halt k) head tt
  output_after (Wrong f) head = put_at_end (Wrong f) head tt

-- after a cycle, with its output
pub stopped_after : (first job mid : AtWork) (given others : Option (List ℕ)) (a b a' b' : Source) (cycles most : ℕ) (fault : RunFault) (e : PhaseEnd) (before after : Contents)
    (s : Streams first given others job a b cycles most) (t : TakesNext s.earlier (last_position s.out.lines) job a b e mid a' b')
    → LeavesParts fault (put_with e s.out t.does.out) before after → HasSent fault before after (put_with e s.out t.does.out)
    → IsWriters fault → (day : ℤ) → IsStart first day → OfFronts given a'.input.remaining others b'.input.remaining (StopsEarly first.program day fault before after)
stopped_after first job mid given others a b a' b' cycles most fault e before after s t leaves sent writers day is =
    let does = t.does in
    let now = config_on (last_position s.out.lines) job.config in
    record {
      primary = was_read given a'.input (more_read given a.input a'.input _ s.primary.since t.primary.input);
      secondary = was_read others b'.input (more_read others b.input b'.input _ s.secondary.since t.secondary.input);
      fact = record {
        stops = λ more others_more can can_too.
            let xs = (s.primary.since.read ++ t.primary.input.read) ++ more in
            let ys = (s.secondary.since.read ++ t.secondary.input.read) ++ others_more in
            let u = under_way_still first job given others a b cycles most s mid a' b' e t more others_more can can_too in
            let one = head first job given others a b cycles most s mid a' b' e t more others_more can can_too in
            record {
              parts = λ course bytes run.
                  let goes : ContinuesWith e course.output (with_more s.out does.out) =
                  begins_with first.program (config_on None first.config) (records_of xs ys) s.earlier now job.inputs _ _ cycles most s.out e does.there does.out course u one
                  (runs_from first day xs ys course bytes is run) in
                  leaves bytes (put_begins course.output s.out bytes run.print run.disk e does.out goes);
              bytes = put_with e s.out does.out;
              write_line_out = subst (λ (x : RunFault). MayBeOutput x first.program day xs ys (put_with e s.out does.out)) (sym writers.2)
                  (output_after first day is xs ys s.earlier now job.inputs _ _ cycles most s.out does.there does.out u e one);
              sent = sent;
            };
        needs = λ file why read. absurd (writers_read fault writers file why read);
      };
    }

-- ---- what the files have after a fault

-- all of these bytes were output, and some of them wait
module _ (start now next : States) (waiting put : Bytes) (went : (file : OutputFile) → IsSent (start file) (now file) (bytes_for file waiting) (bytes_for file put)) where
  own_left : (e : RunFault) (fails : FailsToSend e now next waiting) → IsFileAfterFault Equal fails.count (now fails.failed) (next fails.failed) (bytes_for fails.failed waiting)
  own_left e fails = subst (λ (o : Ordering). IsFileAfterFault o fails.count (now fails.failed) (next fails.failed) (bytes_for fails.failed waiting)) (own_order fails.failed) (fails.left fails.failed)

  -- a writer failed over those
  each_part : (e : RunFault) → FailsToSend e now next waiting → (bytes : Bytes) → ((file : OutputFile) → BeginsWith (bytes_for file bytes) (bytes_for file put)) → HaveParts (held_in start) (held_in next) bytes
  each_part e fails bytes begins file = left_parts _ _ _ _ (went file) (order file fails.failed) fails.count (next file) (bytes_for file bytes) (begins file) (fails.left file)

  pub some_parts : (e : RunFault) → FailsToSend e now next waiting → LeavesParts e put (held_in start) (held_in next)
  some_parts e fails bytes begins = subst (λ (x : RunFault). HasParts x (held_in start) (held_in next) bytes) (sym fails.is) (
    counted_sent _ _ _ _ (went fails.failed) fails.count (next fails.failed) (bytes_for fails.failed bytes) (begins fails.failed) (own_left e fails),
    each_part e fails bytes begins,
  )

  pub some_have : (e : RunFault) → FailsToSend e now next waiting → HasSent e (held_in start) (held_in next) put
  some_have e fails = subst (λ (x : RunFault). HasSent x (held_in start) (held_in next) put) (sym fails.is)
      (λ file. left_up_to _ _ _ _ (went file) (order file fails.failed) fails.count (next file) (fails.left file))

  -- a cycle wasn't done
  pub stop_parts : (fault : CycleFault) (cycles : ℕ) (e : RunFault) → StopsWith fault cycles now next waiting e → LeavesParts e put (held_in start) (held_in next)
  stop_parts stops.NoMemory cycles e (inl (is, all)) bytes begins = subst (λ (x : RunFault). HasParts x (held_in start) (held_in next) bytes) (sym is)
      (λ file. waiting_sent _ _ _ _ (went file) (next file).has (bytes_for file bytes) (begins file) (all file).out)
  stop_parts stops.NoMemory cycles e (inr fails) bytes begins = some_parts e fails bytes begins
  stop_parts (stops.Read f w) cycles e (is, same) bytes begins = subst (λ (x : RunFault). HasParts x (held_in start) (held_in next) bytes) (sym is)
      (λ file. still_sent _ _ _ _ (went file) (next file).has (bytes_for file bytes) (begins file) (ap (λ (x : FileState). x.has) (same file)))

  pub stop_has : (fault : CycleFault) (cycles : ℕ) (e : RunFault) → StopsWith fault cycles now next waiting e
      → HasSent e (held_in start) (held_in next) put
  stop_has stops.NoMemory cycles e (inl (is, all)) = subst (λ (x : RunFault). HasSent x (held_in start) (held_in next) put) (sym is)
      (λ file. rest_sent _ _ _ _ (went file) (next file).has (all file).out)
  stop_has stops.NoMemory cycles e (inr fails) = some_have e fails
  stop_has (stops.Read f w) cycles e (is, same) = subst (λ (x : RunFault). HasSent x (held_in start) (held_in next) put) (sym is) tt

  -- the fault reports the cycles that were done
  pub stop_counts : (fault : CycleFault) (cycles : ℕ) (e : RunFault) → StopsWith fault cycles now next waiting e → CountsCycles e cycles
  stop_counts stops.NoMemory cycles e (inr fails) n counted = writers_count e cycles (writers_of e now next waiting fails) n counted
  stop_counts stops.NoMemory cycles e (inl (is, all)) n counted = let same : faults.NoMemory cycles ≡ faults.NoMemory n = sym is ∙ counted in cc
  stop_counts (stops.Read f w) cycles e (is, same) n counted = absurd (let never : faults.Read f w ≡ faults.NoMemory n = sym is ∙ counted in cc)

  -- where a reader failed nothing waited
  module _ {R S : Type 0} (remaining : R → Option (List ℕ)) (others : S → Option (List ℕ)) (job : AtWork) (primary primary' : RecordReader R) (secondary secondary' : RecordReader S)
      (given beside : Option (List ℕ)) (s : Stands given (source_of remaining primary)) (t : Stands beside (source_of others secondary)) (limit : limit_of primary ≡ job.program.record_length) where
    pub stop_needs : (fault : CycleFault) (cycles : ℕ) (e : RunFault) → StopsWith fault cycles now next waiting e
        → (none : TakesNone remaining others job primary secondary fault primary' secondary')
        → ((file : InputFile) (why : ReadFault) → fault ≡ stops.Read file why → waiting ≡ no_bytes) → (file : InputFile) (why : ReadFault) → e ≡ faults.Read file why
        → (let moved = moved_by remaining others job primary primary' secondary secondary' fault none in ReadFails job file why s.since t.since moved.0 moved.1 put (held_in start) (held_in next))
    stop_needs stops.NoMemory cycles e (inl (is, all)) none waits file why read = absurd (let never : faults.NoMemory cycles ≡ faults.Read file why = sym is ∙ read in cc)
    stop_needs stops.NoMemory cycles e (inr fails) none waits file why read = absurd (writers_read e (writers_of e now next waiting fails) file why read)
    stop_needs (stops.Read f w) cycles e stop none waits file why read =
        let fails = reading_fails remaining others job primary primary' secondary secondary' given beside s t limit put (held_in start) (held_in next)
        (λ file. subst (λ (x : Option (List ℕ)). Appends (start file).has x (bytes_for file put)) (ap (λ (x : FileState). x.has) (sym (stop.1 file)))
        (all_sent _ _ _ _ (went file) (ap (bytes_for file) (waits f w refl) ∙ none_for file))) f w none in
        let same : faults.Read f w ≡ faults.Read file why = sym stop.0 ∙ read in
        let moved = moved_by remaining others job primary primary' secondary secondary' (stops.Read f w) none in
        subst (λ (x : InputFile). ReadFails job x why s.since t.since moved.0 moved.1 put (held_in start) (held_in next)) (file_same f file w why same)
        (subst (λ (x : ReadFault). ReadFails job f x s.since t.since moved.0 moved.1 put (held_in start) (held_in next)) (fault_same f file w why same) fails)

-- where it was certain that no reader fails, or what waited went out, nothing waits when one has failed
pub none_waits : (job : AtWork) (P Q : Type 0) (fault : CycleFault) → (job.output ≡ no_bytes) ⊎ (P × Q) → (P → Q → fault ≡ stops.NoMemory) → (file : InputFile) (why : ReadFault) → fault ≡ stops.Read file why
    → job.output ≡ no_bytes
none_waits job P Q fault (inl none) sure file why read = none
none_waits job P Q fault (inr both) sure file why read = absurd (let never : stops.NoMemory ≡ stops.Read file why = sym (sure both.0 both.1) ∙ read in cc)
