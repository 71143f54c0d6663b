-- A run whose inputs are read, and whose output is sent, a cycle at a time.
use Rattle.rpg_paper.specs.Form.{line_of}
use Rattle.std.proofs.Common.{◌≡◌, ℕ, ◌+◌, ◌≤◌, max, Bool, true, false, List, [], ◌++◌, length, Option, None, refl, sym, ap, ◌∙◌, subst, append_assoc, arith}
use Rattle.std.specs.Io.KnownBytes.{Consumes, IsAtEnd}
use Rattle.std.proofs.KnownBytes.{Consumes-nil, Consumes-trans}
use Rattle.rpg_cycle.proofs.Cycling.{at_first, keeps}
use Rattle.rpg_cycle.specs.Counting.{waiting_count}
use Rattle.rpg_cycle.specs.Ends.{PhaseEnd, Continues, EndOfJob, Halt, Wrong}
use Rattle.rpg_cycle.specs.Job.{AtWork, DoesCycle, feed_at, with_feed}
use Rattle.rpg_cycle.specs.Phases.{Cycle, begun, needs_record}
use Rattle.rpg_cycle.specs.Runs.{Records, left_following, next_of}
use Rattle.rpg_cycle.specs.Stages.{Ended, job_end, stage_at}
use Rattle.rpg_cycle.specs.declared.ends.JobEnd.{JobEnd}
use Rattle.rpg_cycle.specs.declared.ends.JobEnd.TheVariants as jobs
use Rattle.rpg_cycle_records.specs.Earlier.{Selected, left_by, with_record}
use Rattle.rpg_cycle_records.specs.Merging.{AreMergedInOrder}
use Rattle.rpg_cycle_records.specs.Waiting.{Inputs, unread}
use Rattle.rpg_program.proofs.Putting.{end_from-lines}
use Rattle.rpg_program.specs.Put.{Bytes, with_output}
use Rattle.rpg_program.specs.declared.input.InputFile.{InputFile}
use Rattle.rpg_program.specs.declared.input.InputFile.TheVariants.{Primary, Secondary}
use Rattle.rpg_files.specs.NextLine.{CanFollow}
use Rattle.rpg_files.specs.Reading.{Advances, Input, count_of}
use Rattle.rpg_files.specs.Records.{max_records, records}
use Rattle.rpg_files.specs.declared.reader.RecordReader.{RecordReader}
use Rattle.rpg_machine.specs.Config.{Config, Output, no_output, with_more}
use Rattle.rpg_machine.specs.Running.{config_on}
use Rattle.rpg_program.specs.Object.{Object}
use Rattle.rpg_paper.specs.Paper.{bytes_from, last_position, last_position_from}
use Rattle.rpg_verify.specs.Bound.{bound}
use Rattle.rpg_engine.specs.Inputs.{WasRead, records_of}
use Rattle.rpg_engine.specs.Outputs.{bytes_for}
use Rattle.rpg_engine.specs.declared.files.OutputFile.{OutputFile}
use Rattle.rpg_engine.specs.declared.files.OutputFile.TheVariants.{Print, Disk}
use Rattle.rpg_engine.proofs.Bytes.{put_by}
use Rattle.rpg_engine.proofs.Courses.{HeadCycle, IsLast, IsUnderWay, begins, one_more}
use Rattle.rpg_engine.proofs.Passing.{cycles_same, fewer_wait}
use Rattle.rpg_engine.proofs.Taking.{Gives, Source, TakesNext}

-- ---- how a cycle ended, by the stage that it led to

pub was_ended : (e : PhaseEnd) (j : JobEnd) → stage_at e ≡ Ended (job_end j) → e ≡ job_end j
was_ended Continues j h = cc
was_ended EndOfJob j h = cc
was_ended (Halt k) j h = cc
was_ended (Wrong f) j h = cc

pub is_last : (j : JobEnd) → IsLast (job_end j)
is_last jobs.EndOfJob = tt
is_last (jobs.Halt k) = tt

-- ---- what was read of an input since the start

pub record SinceStart (given : Option (List ℕ)) (i : Input) : Type 0 where
  pub read : List ℕ
  pub consumed : Consumes given i.remaining read
  pub at_end : i.ended ≡ true → IsAtEnd i.remaining

abbrev pub was_read : (given : Option (List ℕ)) (i : Input) → SinceStart given i → WasRead given i.remaining
was_read given i s = record { read = s.read; ended = i.ended; consumed = s.consumed; at_end = s.at_end }

abbrev pub more_read : (given : Option (List ℕ)) (i j : Input) (F : List ℕ → List ℕ → Type 0) → SinceStart given i → Advances i j F → SinceStart given j
more_read given i j F s adv = record {
  read = s.read ++ adv.read;
  consumed = Consumes-trans given i.remaining j.remaining s.read adv.read s.consumed adv.consumed;
  at_end = λ ended. adv.at_end ended s.at_end;
}

-- what may follow what is read now may follow what was read before, with that between
follows : (old new : Input) (F : List ℕ → List ℕ → Type 0) (adv : Advances old new F) (more : List ℕ) → CanFollow new.ended more → CanFollow old.ended (adv.read ++ more)
follows old new F adv more can = λ ended. let none = adv.none_at_end ended in ap (λ (xs : List ℕ). xs ++ more) none.0 ∙ can none.1

-- whatever follows, so many records were given, and the others are to come
abbrev IsCounted : (given : Option (List ℕ)) (a : Source) → SinceStart given a.input → Type 0
IsCounted given a s = (more : List ℕ) → CanFollow a.input.ended more → length (records (s.read ++ more)) ≡ a.count + length (records (a.input.buffered ++ more))

-- what stands there after it
pub record Stands (given : Option (List ℕ)) (a : Source) : Type 0 where
  pub since : SinceStart given a.input
  pub counted : IsCounted given a since

-- of the records to come one was given, or none, and the others are to come
counted_on : (p : Object) (f : InputFile) (given : Option (List ℕ)) (is_needed : Bool) (x : Option (List ℕ)) (e : PhaseEnd) (a b : Source) (s : Stands given a) (g : Gives p f is_needed x e a b) → e ≡ Continues
    → IsCounted given b (more_read given a.input b.input _ s.since g.input)
counted_on p f given is_needed x e a b s g on more can =
    let earlier = s.counted (g.input.read ++ more) (follows a.input b.input _ g.input more can) in
    let given_one = (g.input.fact more can).counted on in
    let count = g.count on in
    let same : length (records ((s.since.read ++ g.input.read) ++ more)) ≡ length (records (s.since.read ++ (g.input.read ++ more))) = ap (λ (bytes : List ℕ). length (records bytes)) (append_assoc s.since.read g.input.read more) in
    let total : length (records (s.since.read ++ (g.input.read ++ more))) ≡ b.count + length (records (b.input.buffered ++ more)) = omega (arith, earlier, given_one, count) in
    same ∙ total

-- ---- a run under way

-- A job that began over the bytes that were given has done so many cycles. Whatever follows the bytes that were read, its cycles are
-- those of the run over the records of all.
pub record Streams (first : AtWork) (given others : Option (List ℕ)) (job : AtWork) (a b : Source) (cycles most : ℕ) : Type 0 where
  pub program : job.program ≡ first.program
  pub earlier : List Selected
  pub out : Output
  pub left : job.left ≡ left_by job.program earlier
  pub orderly : AreMergedInOrder job.program earlier job.inputs
  pub last : job.last ≡ line_of (last_position out.lines)
  pub few : cycles + waiting_count job.inputs ≤ a.count + b.count
  pub primary : Stands given a
  pub secondary : Stands others b
  pub under_way : (more following : List ℕ) → CanFollow a.input.ended more → CanFollow b.input.ended following
      → IsUnderWay first.program (config_on None first.config) (records_of (primary.since.read ++ more) (secondary.since.read ++ following)) earlier (config_on (last_position out.lines) job.config) job.inputs
      (records_of (a.input.buffered ++ more) (b.input.buffered ++ following)) cycles most out

pub stream_begins : (first : AtWork) (a b : Source)
    → first.left ≡ left_by first.program [] → first.inputs ≡ unread → first.last ≡ None
    → a.input.buffered ≡ [] → a.input.ended ≡ false → a.count ≡ 0 → b.input.buffered ≡ [] → b.input.ended ≡ false → b.count ≡ 0
    → (s : Streams first a.input.remaining b.input.remaining first a b 0 0) × (s.out ≡ no_output)
stream_begins first a b left none last front unended count front_too unended_too count_too = (
  record {
    program = refl;
    earlier = [];
    out = no_output;
    left = left;
    orderly = subst (λ (i : Inputs). AreMergedInOrder first.program [] i) (sym none) (at_first first.program);
    last = last;
    few = let waits : waiting_count first.inputs ≡ 0 = ap waiting_count none in omega (arith, waits);
    primary = stands a front unended count;
    secondary = stands b front_too unended_too count_too;
    under_way = λ more following can can_too.
        subst (λ (i : Inputs). IsUnderWay first.program (config_on None first.config) (records_of more following) [] (config_on None first.config) i (records_of (a.input.buffered ++ more) (b.input.buffered ++ following)) 0 0 no_output) (sym none)
        (subst (λ (x : List ℕ). IsUnderWay first.program (config_on None first.config) (records_of more following) [] (config_on None first.config) unread (records_of (x ++ more) (b.input.buffered ++ following)) 0 0 no_output) (sym front)
        (subst (λ (x : List ℕ). IsUnderWay first.program (config_on None first.config) (records_of more following) [] (config_on None first.config) unread (records_of more (x ++ following)) 0 0 no_output) (sym front_too)
        (begins first.program (config_on None first.config) (records_of more following))));
  },
  refl,
)
  where
    stands : (s : Source) → s.input.buffered ≡ [] → s.input.ended ≡ false → s.count ≡ 0 → Stands s.input.remaining s
    stands s none unended zero = record {
      since = record { read = []; consumed = Consumes-nil s.input.remaining; at_end = λ is. absurd (let never : true ≡ false = sym is ∙ unended in cc) };
      counted = λ more can. let same : length (records more) ≡ length (records (s.input.buffered ++ more)) = ap (λ (x : List ℕ). length (records (x ++ more))) (sym none) in omega (arith, same, zero);
    }

-- ---- one more cycle

both_records : (a b c d : List (List ℕ)) → a ≡ b → c ≡ d → (let r : Records = record { primary = a; secondary = c } in r) ≡ (let r : Records = record { primary = b; secondary = d } in r)
both_records a b c d h g = ap (λ x. let r : Records = record { primary = x; secondary = c } in r) h ∙ ap (λ x. let r : Records = record { primary = b; secondary = x } in r) g

-- a run under way over two inputs, and what was read of each since
module _ (first job : AtWork) (given others : Option (List ℕ)) (a b : Source) (cycles most : ℕ)
    (s : Streams first given others job a b cycles most) where
  abbrev pub now : Config
  now = config_on (last_position s.out.lines) job.config

  -- the cycles so far, with what was read since
  pub reads_on : (i j : Input) (F G : List ℕ → List ℕ → Type 0) (adv : Advances a.input i F) (more_adv : Advances b.input j G) (more following : List ℕ) → CanFollow i.ended more → CanFollow j.ended following
      → IsUnderWay first.program (config_on None first.config) (records_of ((s.primary.since.read ++ adv.read) ++ more) ((s.secondary.since.read ++ more_adv.read) ++ following)) s.earlier now job.inputs
      (records_of (a.input.buffered ++ (adv.read ++ more)) (b.input.buffered ++ (more_adv.read ++ following))) cycles most s.out
  reads_on i j F G adv more_adv more following can can_too =
      let rest = records_of (a.input.buffered ++ (adv.read ++ more)) (b.input.buffered ++ (more_adv.read ++ following)) in
      subst (λ (x : List ℕ). IsUnderWay first.program (config_on None first.config) (records_of x ((s.secondary.since.read ++ more_adv.read) ++ following)) s.earlier now job.inputs rest cycles most s.out) (sym (append_assoc s.primary.since.read adv.read more))
      (subst (λ (x : List ℕ). IsUnderWay first.program (config_on None first.config) (records_of (s.primary.since.read ++ (adv.read ++ more)) x) s.earlier now job.inputs rest cycles most s.out) (sym (append_assoc s.secondary.since.read more_adv.read following))
      (s.under_way (adv.read ++ more) (more_adv.read ++ following) (follows a.input i F adv more can) (follows b.input j G more_adv following can_too)))

  -- one more cycle
  module _ (mid : AtWork) (a' b' : Source) (e : PhaseEnd) (t : TakesNext s.earlier (last_position s.out.lines) job a b e mid a' b') where
    abbrev pub rest : List ℕ → List ℕ → Records
    rest more following = records_of (a.input.buffered ++ (t.primary.input.read ++ more)) (b.input.buffered ++ (t.secondary.input.read ++ following))

    abbrev pub after : List ℕ → List ℕ → Records
    after more following = records_of (a'.input.buffered ++ more) (b'.input.buffered ++ following)

    -- whatever follows, the cycle is one with the first records of what is left
    pub head : (more following : List ℕ) → CanFollow a'.input.ended more → CanFollow b'.input.ended following
        → HeadCycle first.program s.earlier now job.inputs e t.does.there t.does.out (rest more following) (after more following)
    head more following can can_too =
        let p = job.program in
        let one = t.primary.input.fact more can in
        let two = t.secondary.input.fact following can_too in
        subst (λ (q : Object). HeadCycle q s.earlier now job.inputs e t.does.there t.does.out (rest more following) (after more following)) s.program (record {
          cycle = cycles_same p s.earlier t.x (next_of (needs_record p now job.inputs Primary) (rest more following).primary) t.y (next_of (needs_record p now job.inputs Secondary) (rest more following).secondary)
              one.alike two.alike (begun p now job.inputs) e t.does.there t.does.out t.does.cycle;
          left = λ on. both_records (after more following).primary (left_following p now job.inputs (rest more following)).primary (after more following).secondary (left_following p now job.inputs (rest more following)).secondary
              (one.left on) (two.left on);
        })

    pub under_way_still : (more following : List ℕ) → CanFollow a'.input.ended more → CanFollow b'.input.ended following
        → IsUnderWay first.program (config_on None first.config) (records_of ((s.primary.since.read ++ t.primary.input.read) ++ more) ((s.secondary.since.read ++ t.secondary.input.read) ++ following)) s.earlier now job.inputs
        (rest more following) cycles most s.out
    under_way_still = reads_on a'.input b'.input _ _ t.primary.input t.secondary.input

-- what the job outputs in this cycle, after what it had output before
pub output_is : (job mid : AtWork) (earlier : List Selected) (out : Output) (x y : Option (List ℕ)) (e : PhaseEnd) (does : DoesCycle job earlier (last_position out.lines) x y e mid) (file : OutputFile)
    → bytes_for file mid.output ≡ bytes_for file job.output ++ bytes_for file (put_by e out does.out)
output_is job mid earlier out x y e does file = output_for file
  where
    last : Option ℕ
    last = line_of (last_position_from (last_position out.lines) does.out.lines)

    is : mid.output ≡ with_feed (feed_at (stage_at e) last) (with_output (last_position out.lines) does.out.lines does.out.records job.output)
    is = does.bytes ∙ ap (λ (l : Option ℕ). with_feed (feed_at (stage_at e) l) (with_output (last_position out.lines) does.out.lines does.out.records job.output)) does.last

    output_for : (file : OutputFile) → bytes_for file mid.output ≡ bytes_for file job.output ++ bytes_for file (put_by e out does.out)
    output_for Print = ap (λ (b : Bytes). b.print) is ∙ append_assoc job.output.print (bytes_from (last_position out.lines) does.out.lines) (feed_at (stage_at e) last)
    output_for Disk = ap (λ (b : Bytes). b.disk) is

pub steps_are : (job mid : AtWork) (earlier : List Selected) (out : Output) (x y : Option (List ℕ)) (e : PhaseEnd) (does : DoesCycle job earlier (last_position out.lines) x y e mid) → does.there.config.steps ≡ mid.config.steps
steps_are job mid earlier out x y e does = ap (λ (c : Config). c.steps) does.config

pub stream_continues : (first job mid : AtWork) (given others : Option (List ℕ)) (a b a' b' : Source) (cycles most greater : ℕ)
    (e : PhaseEnd) (s : Streams first given others job a b cycles most) (t : TakesNext s.earlier (last_position s.out.lines) job a b e mid a' b')
    → e ≡ Continues → greater ≡ max most mid.config.steps
    → (k : Streams first given others mid a' b' (cycles + 1) greater) × (k.out ≡ with_more s.out t.does.out)
stream_continues first job mid given others a b a' b' cycles most greater e s t on most_is =
    let does = t.does in
    let there = does.there in
    let line : last_position (s.out.lines ++ does.out.lines) ≡ last_position_from (last_position s.out.lines) does.out.lines = end_from-lines None s.out.lines does.out.lines in
    let c = config_on (last_position s.out.lines) job.config in
    let p = job.program in
    let cycle : Cycle p s.earlier t.x t.y (begun p c job.inputs) Continues there does.out =
    subst (λ (k : PhaseEnd). Cycle p s.earlier t.x t.y (begun p c job.inputs) k there does.out) on does.cycle in
    let order : AreMergedInOrder p (with_record there.selected s.earlier) mid.inputs =
    subst (λ (i : Inputs). AreMergedInOrder p (with_record there.selected s.earlier) i) (sym (does.inputs on)) (keeps p s.earlier t.x t.y c job.inputs there does.out s.orderly cycle) in
    let fewer = fewer_wait p s.earlier t.x t.y c job.inputs there does.out s.orderly t.primary.needed t.secondary.needed cycle in
    let waits : waiting_count mid.inputs ≡ waiting_count there.inputs = ap waiting_count (does.inputs on) in
    let start = config_on None first.config in (
      record {
        program = does.program ∙ s.program;
        earlier = with_record there.selected s.earlier;
        out = with_more s.out does.out;
        left = does.left on ∙ ap (λ (p : Object). left_by p (with_record there.selected s.earlier)) (sym does.program);
        orderly = subst (λ (q : Object). AreMergedInOrder q (with_record there.selected s.earlier) mid.inputs) (sym does.program) order;
        last = does.last ∙ ap line_of (sym line);
        few = omega (arith, s.few, fewer, waits, t.primary.count on, t.secondary.count on);
        primary = record { since = more_read given a.input a'.input _ s.primary.since t.primary.input; counted = counted_on p Primary given (needs_record p c job.inputs Primary) t.x e a a' s.primary t.primary on };
        secondary = record { since = more_read others b.input b'.input _ s.secondary.since t.secondary.input; counted = counted_on p Secondary others (needs_record p c job.inputs Secondary) t.y e b b' s.secondary t.secondary on };
        under_way = λ more following can can_too.
            let rs = records_of (a.input.buffered ++ (t.primary.input.read ++ more)) (b.input.buffered ++ (t.secondary.input.read ++ following)) in
            let ss = records_of (a'.input.buffered ++ more) (b'.input.buffered ++ following) in
            let all = records_of ((s.primary.since.read ++ t.primary.input.read) ++ more) ((s.secondary.since.read ++ t.secondary.input.read) ++ following) in
            let one = head first job given others a b cycles most s mid a' b' e t more following can can_too in
            let again = under_way_still first job given others a b cycles most s mid a' b' e t more following can can_too in
            let going : HeadCycle first.program s.earlier c job.inputs Continues there does.out rs ss = subst (λ (x : PhaseEnd). HeadCycle first.program s.earlier c job.inputs x there does.out rs ss) on one in
            let to : there.config ≡ config_on (last_position (s.out.lines ++ does.out.lines)) mid.config = does.config ∙ ap (λ previous. config_on previous mid.config) (sym line) in
            subst (λ (i : Inputs). IsUnderWay first.program start all (with_record there.selected s.earlier) (config_on (last_position (s.out.lines ++ does.out.lines)) mid.config) i ss (cycles + 1) greater (with_more s.out does.out)) (sym (does.inputs on))
            (subst (λ (x : Config). IsUnderWay first.program start all (with_record there.selected s.earlier) x there.inputs ss (cycles + 1) greater (with_more s.out does.out)) to
            (one_more first.program start all s.earlier c job.inputs rs ss cycles most greater s.out there does.out again going (most_is ∙ ap (max most) (sym (steps_are job mid s.earlier s.out t.x t.y e does)))));
      },
      refl,
    )

-- the steps stay in the bound of the program
pub stays_bounded : (first job mid : AtWork) (given others : Option (List ℕ)) (a b a' b' : Source) (cycles most : ℕ)
    (e : PhaseEnd) (s : Streams first given others job a b cycles most) → TakesNext s.earlier (last_position s.out.lines) job a b e mid a' b'
    → most ≤ bound first.program → mid.config.steps ≤ bound mid.program → max most mid.config.steps ≤ bound first.program
stays_bounded first job mid given others a b a' b' cycles most e s t small now_small =
    let same : bound mid.program ≡ bound first.program = ap bound (t.does.program ∙ s.program) in
    omega (arith, same)

-- a reader has given no more records than an input may have
pub few_given : {R : Type 0} (r : RecordReader R) → count_of r ≤ max_records
few_given r = r.few

-- what holds for a job holds whatever output waits in it
pub stream_sends : (first job mid : AtWork) (given others : Option (List ℕ)) (a b : Source) (cycles most : ℕ) (s : Streams first given others job a b cycles most) → mid ≡ record job { output = mid.output }
    → (k : Streams first given others mid a b cycles most) × (k.out ≡ s.out)
stream_sends first job mid given others a b cycles most s same =
    subst (λ (j : AtWork). (k : Streams first given others j a b cycles most) × (k.out ≡ s.out)) (sym same) (
      record {
        program = s.program;
        earlier = s.earlier;
        out = s.out;
        left = s.left;
        orderly = s.orderly;
        last = s.last;
        few = s.few;
        primary = s.primary;
        secondary = s.secondary;
        under_way = s.under_way;
      },
      refl,
    )
