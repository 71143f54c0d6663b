-- A cycle with what two readers of records found.
use Rattle.rpg_paper.specs.Form.{line_of}
use Rattle.std.proofs.Common.{◌≡◌, ℕ, ◌+◌, ◌&&◌, Bool, true, false, List, [], ◌∷◌, ◌++◌, length, Option, Some, None, Result, Ok, refl, sym, ap, ◌∙◌, subst, arith, inl, inr}
use Rattle.std.proofs.KnownBytes.{Consumes-nil}
use Rattle.std.proofs.lemmas.Bool.{and_right}
use Rattle.rpg_cycle.specs.Ends.{EndOfJob, Continues, Halt, PhaseEnd, Wrong}
use Rattle.rpg_cycle.specs.Job.{AtWork, DoesCycle, job_needs_record}
use Rattle.rpg_cycle.specs.Phases.{Cycle, begun, needs_record}
use Rattle.rpg_cycle.specs.Runs.{next_of, rest_where_needed}
use Rattle.rpg_cycle.specs.Stages.{Going, is_going, stage_at}
use Rattle.rpg_cycle.specs.declared.ends.JobEnd.{JobEnd}
use Rattle.rpg_cycle.specs.declared.jobs.Need.{Need}
use Rattle.rpg_cycle_records.specs.Earlier.{Selected, left_by}
use Rattle.rpg_cycle_records.specs.Identifying.{is_valid_record}
use Rattle.rpg_cycle_records.specs.Merging.{AreMergedInOrder}
use Rattle.rpg_cycle_records.specs.Waiting.{Inputs, input_at}
use Rattle.rpg_program.specs.declared.input.InputFile.{InputFile}
use Rattle.rpg_program.specs.declared.input.InputFile.TheVariants.{Primary, Secondary}
use Rattle.rpg_files.specs.Counting.{faults_of}
use Rattle.rpg_files.specs.Reading.{Advances, GivesNext, Input, ReadsNext, answer_of, count_of, input_of, is_record, limit_of, reader_of, record_of}
use Rattle.rpg_files.specs.Records.{records}
use Rattle.rpg_files.specs.declared.reader.Next.{Next}
use Rattle.rpg_files.specs.declared.reader.Next.TheVariants as next
use Rattle.rpg_files.specs.declared.reader.ReadFault.{ReadFault}
use Rattle.rpg_files.specs.declared.reader.RecordReader.{RecordReader}
use Rattle.rpg_machine.specs.Running.{config_on}
use Rattle.rpg_program.specs.Object.{Object, input_length}
use Rattle.rpg_paper.specs.Paper.{Position}
use Rattle.rpg_engine.specs.Reporting.{AreSameOrBad, IsBad}
use Rattle.rpg_engine.specs.Streaming.{ReadsIfNeeded, StandsAfterRecord, IsNeedOf, TakesCycle, record_with}
use Rattle.rpg_engine.proofs.Passing.{IfNeeded, Takes, cycle_takes, in_list, needed_takes}

-- what holds for the bytes to come, in another form
abbrev pub reported_of : (old new : Input) (F G : List ℕ → List ℕ → Type 0) → ((x y : List ℕ) → F x y → G x y) → Advances old new F → Advances old new G
reported_of old new F G tells adv = record {
  read = adv.read;
  consumed = adv.consumed;
  none_at_end = adv.none_at_end;
  at_end = adv.at_end;
  fact = λ more can. tells (old.buffered ++ (adv.read ++ more)) (new.buffered ++ more) (adv.fact more can);
}

-- nothing was read
pub stands_still : (i : Input) (F : List ℕ → List ℕ → Type 0) → ((x : List ℕ) → F x x) → Advances i i F
stands_still i F holds = record {
  read = [];
  consumed = Consumes-nil i.remaining;
  none_at_end = λ ended. (refl, ended);
  at_end = λ ended at. at ended;
  fact = λ more can. holds (i.buffered ++ more);
}

-- ---- one reader

-- what is still to come of a reader's input, and how many records it has given
pub record Source : Type 0 where
  pub input : Input
  pub count : ℕ

abbrev pub source_of : {R : Type 0} → (R → Option (List ℕ)) → RecordReader R → Source
source_of remaining r = record { input = input_of remaining r; count = count_of r }

-- a cycle that is given this of a file does the same with the file's first record; where it continues, the others are left
pub record IsFirstOf (p : Object) (f : InputFile) (is_needed : Bool) (x : Option (List ℕ)) (e : PhaseEnd) (before after : List (List ℕ)) : Type 0 where
  pub alike : AreSameOrBad p f x (next_of is_needed before)
  pub left : e ≡ Continues → after ≡ rest_where_needed is_needed before
  pub counted : e ≡ Continues → length before ≡ length (in_list x) + length after

-- so it is, whatever follows the bytes that were read
pub record Gives (p : Object) (f : InputFile) (is_needed : Bool) (x : Option (List ℕ)) (e : PhaseEnd) (old new : Source) : Type 0 where
  pub input : Advances old.input new.input (λ before after. IsFirstOf p f is_needed x e (records before) (records after))
  pub count : e ≡ Continues → new.count ≡ old.count + length (in_list x)
  pub needed : IfNeeded is_needed x

pub no_character : (p : Object) (f : InputFile) → is_valid_record p f (0 ∷ []) ≡ false
no_character p f = and_right _ _ refl

module _ {R : Type 0} (remaining : R → Option (List ℕ)) where
  abbrev Given : Object → InputFile → PhaseEnd → RecordReader R → Bool → Next → RecordReader R → Type 0
  Given p f e old is_needed answer new = Gives p f is_needed (record_with new answer) e (source_of remaining old) (source_of remaining new)

  left_alone : (p : Object) (f : InputFile) (e : PhaseEnd) (old : RecordReader R) → Given p f e old false next.End old
  left_alone p f e old = record {
    input = stands_still (input_of remaining old) (λ before after. IsFirstOf p f false None e (records before) (records after))
        (λ x. record { alike = inl refl; left = λ on. refl; counted = λ on. omega arith });
    count = λ on. omega arith;
    needed = λ is. refl;
  }

  with_record : (p : Object) (f : InputFile) (e : PhaseEnd) (old new : RecordReader R) → ReadsNext remaining old (Ok next.Record) new → Given p f e old true next.Record new
  with_record p f e old new reads = record {
    input = reported_of (input_of remaining old) (input_of remaining new) (GivesNext (limit_of old) (count_of old) (record_of new) (Ok next.Record))
        (λ before after. IsFirstOf p f true (Some (record_of new)) e (records before) (records after))
        (λ x y gives. subst (λ (rs : List (List ℕ)). IsFirstOf p f true (Some (record_of new)) e rs (records y)) (sym gives.2)
        (record { alike = inl refl; left = λ on. refl; counted = λ on. omega arith })) reads.input;
    count = λ on. reads.count;
    needed = λ is. absurd (let never : true ≡ false = is in cc);
  }

  with_bad : (p : Object) (f : InputFile) (e : PhaseEnd) (old new : RecordReader R) → limit_of old ≡ input_length p f → ReadsNext remaining old (Ok next.Bad) new → (e ≡ Continues → ⊥) → Given p f e old true next.Bad new
  with_bad p f e old new limit reads never = record {
    input = reported_of (input_of remaining old) (input_of remaining new) (GivesNext (limit_of old) (count_of old) (record_of new) (Ok next.Bad))
        (λ before after. IsFirstOf p f true (Some (0 ∷ [])) e (records before) (records after))
        (λ x y gives.
        let bad = gives.1 in
        let bad_too : is_valid_record p f bad.0 ≡ false = rw limit at bad.3 in
        subst (λ (rs : List (List ℕ)). IsFirstOf p f true (Some (0 ∷ [])) e rs (records y)) (sym bad.2)
        (record { alike = inr (no_character p f, bad_too); left = λ on. absurd (never on); counted = λ on. absurd (never on) })) reads.input;
    count = λ on. absurd (never on);
    needed = λ is. absurd (let no : true ≡ false = is in cc);
  }

  at_end : (p : Object) (f : InputFile) (e : PhaseEnd) (old new : RecordReader R) → ReadsNext remaining old (Ok next.End) new → Given p f e old true next.End new
  at_end p f e old new reads = record {
    input = reported_of (input_of remaining old) (input_of remaining new) (GivesNext (limit_of old) (count_of old) (record_of new) (Ok next.End))
        (λ before after. IsFirstOf p f true None e (records before) (records after))
        (λ x y gives.
        subst (λ (bytes : List ℕ). IsFirstOf p f true None e (records bytes) (records y)) (sym gives.0)
        (subst (λ (bytes : List ℕ). IsFirstOf p f true None e [] (records bytes)) (sym gives.1)
        (record { alike = inl refl; left = λ on. refl; counted = λ on. refl }))) reads.input;
    count = λ on. let same = reads.count in omega arith;
    needed = λ is. absurd (let no : true ≡ false = is in cc);
  }

  -- what a reader returns to a cycle, where no cycle continues with a bad record
  pub gives : (p : Object) (f : InputFile) (e : PhaseEnd) (old new : RecordReader R) (is_needed : Bool) (answer : Next) → limit_of old ≡ input_length p f → ReadsIfNeeded remaining is_needed old (Ok answer) new
      → (e ≡ Continues → is_needed ≡ true → IsBad p f (record_with new answer) → ⊥) → Given p f e old is_needed answer new
  gives p f e old new false next.Record limit asks never = absurd (let no = (asks.unneeded refl).0 in cc)
  gives p f e old new false next.Bad limit asks never = absurd (let no = (asks.unneeded refl).0 in cc)
  gives p f e old new false next.End limit asks never = subst (λ (r : RecordReader R). Given p f e old false next.End r) (sym (asks.unneeded refl).1) (left_alone p f e old)
  gives p f e old new true next.Record limit asks never = with_record p f e old new (asks.needed refl).0
  gives p f e old new true next.Bad limit asks never = with_bad p f e old new limit (asks.needed refl).0 (λ on. never on refl (no_character p f))
  gives p f e old new true next.End limit asks never = at_end p f e old new (asks.needed refl).0

  -- ---- what stays

  pub limit_stays : (is_needed : Bool) (answer : Result Next ReadFault) (old new : RecordReader R) → ReadsIfNeeded remaining is_needed old answer new → limit_of new ≡ limit_of old
  limit_stays false answer old new asks = ap (λ (r : RecordReader R). limit_of r) (asks.unneeded refl).1
  limit_stays true answer old new asks = (asks.needed refl).0.limit

  pub faults_stay : (is_needed : Bool) (answer : Next) (old new : RecordReader R) → ReadsIfNeeded remaining is_needed old (Ok answer) new → faults_of (reader_of new) ≡ faults_of (reader_of old)
  faults_stay false answer old new asks = ap (λ (r : RecordReader R). faults_of (reader_of r)) (asks.unneeded refl).1
  faults_stay true answer old new asks = (asks.needed refl).0.faults

  -- of a file that isn't over the reader gave a record
  pub record_after : (p : Object) (f : InputFile) (job job' : AtWork) (old new : RecordReader R) (is_needed : Bool) (answer : Next) → ReadsIfNeeded remaining is_needed old (Ok answer) new
      → (is_needed ≡ true → IsBad p f (record_with new answer) → ⊥) → (is_needed ≡ true → record_with new answer ≡ None → (input_at job'.inputs f).is_over ≡ true)
      → ((input_at job.inputs f).is_over ≡ true → (input_at job'.inputs f).is_over ≡ true) → StandsAfterRecord job f old → StandsAfterRecord job' f new
  record_after p f job job' old new false answer asks bad none still before = λ not_over.
      ap (λ (r : RecordReader R). is_record (answer_of r)) (asks.unneeded refl).1 ∙ before (was_open (input_at job.inputs f).is_over refl not_over)
    where
      was_open : (b : Bool) → (input_at job.inputs f).is_over ≡ b → (input_at job'.inputs f).is_over ≡ false → (input_at job.inputs f).is_over ≡ false
      was_open true is not_over = absurd (let never : true ≡ false = sym (still is) ∙ not_over in cc)
      was_open false is not_over = is
  record_after p f job job' old new true next.Record asks bad none still before = λ not_over. ap is_record (asks.needed refl).1
  record_after p f job job' old new true next.Bad asks bad none still before = absurd (bad refl (no_character p f))
  record_after p f job job' old new true next.End asks bad none still before = λ not_over. absurd (let never : true ≡ false = sym (none refl refl) ∙ not_over in cc)

-- ---- both

-- a job that continues, with the readers of its files: each returned a record last, unless its file is over, and reads records of the program's length
pub record AreReady {R S : Type 0} (job : AtWork) (primary : RecordReader R) (secondary : RecordReader S) : Type 0 where
  pub going : is_going job.stage ≡ true
  pub after_primary : StandsAfterRecord job Primary primary
  pub after_secondary : StandsAfterRecord job Secondary secondary
  pub limit_primary : limit_of primary ≡ job.program.record_length
  pub limit_secondary : limit_of secondary ≡ job.program.secondary_length

-- a job after those earlier records, and after a line placed before, did a cycle with what stands next in both inputs
pub record TakesNext (earlier : List Selected) (previous : Option Position) (job : AtWork) (a b : Source) (e : PhaseEnd) (job' : AtWork) (a' b' : Source) : Type 0 where
  pub x : Option (List ℕ)
  pub y : Option (List ℕ)
  pub does : DoesCycle job earlier previous x y e job'
  pub primary : Gives job.program Primary (needs_record job.program (config_on previous job.config) job.inputs Primary) x e a a'
  pub secondary : Gives job.program Secondary (needs_record job.program (config_on previous job.config) job.inputs Secondary) y e b b'

-- how a cycle ended, by the stage that it led to
pub went : (e : PhaseEnd) → stage_at e ≡ Going → e ≡ Continues
went Continues h = refl
went EndOfJob h = cc
went (Halt k) h = cc
went (Wrong f) h = cc

-- what a cycle that continues has taken
pub gone_on : (job job' : AtWork) (earlier : List Selected) (previous : Option Position) (x y : Option (List ℕ)) (e : PhaseEnd) → AreMergedInOrder job.program earlier job.inputs
    → DoesCycle job earlier previous x y e job' → e ≡ Continues → Takes job.program x y job.inputs job'.inputs
gone_on job job' earlier previous x y e order does on =
    subst (λ (i : Inputs). Takes job.program x y job.inputs i) (sym (does.inputs on))
    (cycle_takes job.program earlier x y (config_on previous job.config) job.inputs does.there does.out order
    (subst (λ (k : PhaseEnd). Cycle job.program earlier x y (begun job.program (config_on previous job.config) job.inputs) k does.there does.out) on does.cycle))

needs_of : (job : AtWork) (f : InputFile) → is_going job.stage ≡ true → job_needs_record job f ≡ needs_record job.program job.config job.inputs f
needs_of job f going = ap (λ b. b && needs_record job.program job.config job.inputs f) going

module _ {R S : Type 0} (remaining : R → Option (List ℕ)) (others : S → Option (List ℕ)) (job job' : AtWork) (primary primary' : RecordReader R) (secondary secondary' : RecordReader S)
    (ended : Option JobEnd) (ready : AreReady job primary secondary) (takes : TakesCycle remaining others job primary secondary ended job' primary' secondary') where
  asks_first : ReadsIfNeeded remaining (needs_record job.program job.config job.inputs Primary) primary (Ok takes.first) primary'
  asks_first = subst (λ (b : Bool). ReadsIfNeeded remaining b primary (Ok takes.first) primary') (needs_of job Primary ready.going) takes.reads_primary

  asks_second : ReadsIfNeeded others (needs_record job.program job.config job.inputs Secondary) secondary (Ok takes.second) secondary'
  asks_second = subst (λ (b : Bool). ReadsIfNeeded others b secondary (Ok takes.second) secondary') (needs_of job Secondary ready.going) takes.reads_secondary

  -- after all records that leave what the job keeps
  pub takes_next : (earlier : List Selected) → job.left ≡ left_by job.program earlier
      → AreMergedInOrder job.program earlier job.inputs → (previous : Option Position) → job.last ≡ line_of previous
      → (e : PhaseEnd) × TakesNext earlier previous job (source_of remaining primary) (source_of others secondary) e job' (source_of remaining primary') (source_of others secondary')
  takes_next earlier leave order previous placed =
      let x = record_with primary' takes.first in
      let y = record_with secondary' takes.second in
      let went = takes.cycle.cycles.does earlier leave order previous placed in
      let c = config_on previous job.config in (
        went.0,
        record {
          x = x;
          y = y;
          does = went.1;
          primary = gives remaining job.program Primary went.0 primary primary' (needs_record job.program c job.inputs Primary) takes.first ready.limit_primary asks_first
              (λ on needs. (gone_on job job' earlier previous x y went.0 order went.1 on).primary.no_bad (needed_takes job.program c job.inputs Primary needs));
          secondary = gives others job.program Secondary went.0 secondary secondary' (needs_record job.program c job.inputs Secondary) takes.second ready.limit_secondary asks_second
              (λ on needs. (gone_on job job' earlier previous x y went.0 order went.1 on).secondary.no_bad (needed_takes job.program c job.inputs Secondary needs));
        },
      )

  -- where the job continues the readers stand after a record, as before
  following_first : Takes job.program (record_with primary' takes.first) (record_with secondary' takes.second) job.inputs job'.inputs → StandsAfterRecord job Primary primary → StandsAfterRecord job' Primary primary'
  following_first took = record_after remaining job.program Primary job job' primary primary' (needs_record job.program job.config job.inputs Primary) takes.first asks_first
      (λ needs. took.primary.no_bad (needed_takes job.program job.config job.inputs Primary needs))
      (λ needs. took.primary.over_where_none (needed_takes job.program job.config job.inputs Primary needs)) took.primary.over_still

  after_second : Takes job.program (record_with primary' takes.first) (record_with secondary' takes.second) job.inputs job'.inputs → StandsAfterRecord job Secondary secondary → StandsAfterRecord job' Secondary secondary'
  after_second took = record_after others job.program Secondary job job' secondary secondary' (needs_record job.program job.config job.inputs Secondary) takes.second asks_second
      (λ needs. took.secondary.no_bad (needed_takes job.program job.config job.inputs Secondary needs))
      (λ needs. took.secondary.over_where_none (needed_takes job.program job.config job.inputs Secondary needs)) took.secondary.over_still

  pub ready_after : (earlier : List Selected) → job.left ≡ left_by job.program earlier → AreMergedInOrder job.program earlier job.inputs → (previous : Option Position) → job.last ≡ line_of previous → job'.stage ≡ Going
      → AreReady job' primary' secondary'
  ready_after earlier leave order previous placed stage =
      let x = record_with primary' takes.first in
      let y = record_with secondary' takes.second in
      let done = takes.cycle.cycles.does earlier leave order previous placed in
      let took = gone_on job job' earlier previous x y done.0 order done.1 (went done.0 (sym done.1.stage ∙ stage)) in
      record {
        going = ap is_going stage;
        after_primary = following_first took ready.after_primary;
        after_secondary = after_second took ready.after_secondary;
        limit_primary = limit_stays remaining _ _ primary primary' takes.reads_primary ∙ ready.limit_primary ∙ sym (ap (λ (p : Object). p.record_length) done.1.program);
        limit_secondary = limit_stays others _ _ secondary secondary' takes.reads_secondary ∙ ready.limit_secondary ∙ sym (ap (λ (p : Object). p.secondary_length) done.1.program);
      }

-- ---- a job of which output went out

pub ready_still : {R S : Type 0} (job mid : AtWork) → mid ≡ record job { output = mid.output } → (primary : RecordReader R) (secondary : RecordReader S) → AreReady job primary secondary → AreReady mid primary secondary
ready_still job mid same primary secondary ready = subst (λ (j : AtWork). AreReady j primary secondary) (sym same) (record {
  going = ready.going;
  after_primary = ready.after_primary;
  after_secondary = ready.after_secondary;
  limit_primary = ready.limit_primary;
  limit_secondary = ready.limit_secondary;
})

-- it needs the same records
pub needs_still : (need : Need) (job mid : AtWork) → mid ≡ record job { output = mid.output } → IsNeedOf need job → IsNeedOf need mid
needs_still need job mid same needs = subst (λ (j : AtWork). IsNeedOf need j) (sym same) (record { primary = needs.primary; secondary = needs.secondary })
