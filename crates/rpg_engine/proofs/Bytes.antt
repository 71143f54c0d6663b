-- The bytes of a run, and the parts of them that were sent.
use Rattle.rpg_paper.specs.Form.{line_of}
use Rattle.std.proofs.Common.{◌≡◌, ℕ, ◌+◌, List, [], ◌∷◌, ◌++◌, length, take, Option, Some, None, refl, sym, ap, ◌∙◌, subst, append_assoc, append-nil, arith, length-append}
use Rattle.std.proofs.Math.Seq.{take-append-add, take-length}
use Rattle.std.proofs.lemmas.List.{take-append-le}
use Rattle.std.specs.Io.KnownBytes.{Appends}
use Rattle.std.proofs.KnownBytes.{Appends-trans}
use Rattle.rpg_cycle.specs.Ends.{PhaseEnd, Continues, EndOfJob, Halt, Wrong}
use Rattle.rpg_cycle.specs.Job.{feed_at, with_feed}
use Rattle.rpg_cycle.specs.Runs.{last_feed, printed, stored}
use Rattle.rpg_cycle.specs.Stages.{stage_at}
use Rattle.rpg_paper.proofs.Papers.{bytes_from-append}
use Rattle.rpg_paper.specs.Paper.{Placed, Position, bytes_from, last_position, last_position_from, paper}
use Rattle.rpg_program.proofs.Putting.{disk-append, end_from-lines}
use Rattle.rpg_program.specs.Put.{Bytes, disk_bytes, with_output}
use Rattle.rpg_files.specs.Sending.{AppendsFirst}
use Rattle.rpg_machine.specs.Config.{Output, with_more}
use Rattle.rpg_machine.specs.Running.{feed_after, no_bytes}
use Rattle.rpg_engine.proofs.Courses.{ContinuesWith, IsLast, more_none}
use Rattle.rpg_engine.proofs.Outputs.{same_bytes}
use Rattle.rpg_engine.specs.Outputs.{bytes_for, bytes_with}
use Rattle.rpg_engine.specs.Reporting.{bytes_of}
use Rattle.rpg_engine.specs.declared.files.OutputFile.{OutputFile}
use Rattle.rpg_engine.specs.declared.files.OutputFile.TheVariants.{Print, Disk}

-- ---- a front of bytes, and what is after it

pub record BeginsWith (all front : List ℕ) : Type 0 where
  pub more : List ℕ
  pub is : all ≡ front ++ more

-- the last line's feed
feed_of_lines : (x : Placed) (xs : List Placed) (last : Option Position) → feed_after (line_of (last_position_from (Some x.at) xs)) ≡ 10 ∷ []
feed_of_lines x [] last = refl
feed_of_lines x (y ∷ ys) last = feed_of_lines y ys last

feed_is : (lines : List Placed) → last_feed lines ≡ feed_after (line_of (last_position lines))
feed_is [] = refl
feed_is (x ∷ xs) = sym (feed_of_lines x xs None)

-- the printer's bytes of two outputs
paper_both : (a b : List Placed) → paper (a ++ b) ≡ paper a ++ bytes_from (last_position a) b
paper_both a b = bytes_from-append None a b

-- what a cycle output, with the last line's feed where the job ended
abbrev pub put_by : PhaseEnd → Output → Output → Bytes
put_by e out o = with_feed (feed_at (stage_at e) (line_of (last_position_from (last_position out.lines) o.lines))) (with_output (last_position out.lines) o.lines o.records no_bytes)

-- all that was output by then
abbrev pub put_with : PhaseEnd → Output → Output → Bytes
put_with e out o = bytes_with (paper out.lines ++ (put_by e out o).print) (disk_bytes out.records ++ (put_by e out o).disk)

pub put_for : (file : OutputFile) (e : PhaseEnd) (out o : Output) → bytes_for file (bytes_of out) ++ bytes_for file (put_by e out o) ≡ bytes_for file (put_with e out o)
put_for Print e out o = refl
put_for Disk e out o = refl

-- ---- the end of a run

ends_with_feed : (out o : Output) → paper out.lines ++ (([] ++ bytes_from (last_position out.lines) o.lines) ++ feed_after (line_of (last_position_from (last_position out.lines) o.lines))) ≡ printed (with_more out o)
ends_with_feed out o =
    let feed = feed_after (line_of (last_position_from (last_position out.lines) o.lines)) in
    sym (append_assoc (paper out.lines) (bytes_from (last_position out.lines) o.lines) feed)
    ∙ ap (λ bytes. bytes ++ feed) (sym (paper_both out.lines o.lines))
    ∙ ap (λ last. paper (out.lines ++ o.lines) ++ feed_after (line_of last)) (sym (end_from-lines None out.lines o.lines))
    ∙ ap (λ bytes. paper (out.lines ++ o.lines) ++ bytes) (sym (feed_is (out.lines ++ o.lines)))

print_ends : (e : PhaseEnd) (out o : Output) → IsLast e → paper out.lines ++ (put_by e out o).print ≡ printed (with_more out o)
print_ends Continues out o last = absurd last
print_ends EndOfJob out o last = ends_with_feed out o
print_ends (Halt k) out o last = ends_with_feed out o
print_ends (Wrong f) out o last = ends_with_feed out o

disk_continues : (e : PhaseEnd) (out o : Output) → disk_bytes out.records ++ (put_by e out o).disk ≡ disk_bytes (out.records ++ o.records)
disk_continues e out o = sym (disk-append out.records o.records)

print_continues : (out o : Output) → paper out.lines ++ (put_by Continues out o).print ≡ paper (out.lines ++ o.lines)
print_continues out o = ap (λ bytes. paper out.lines ++ bytes) (append-nil (bytes_from (last_position out.lines) o.lines)) ∙ sym (paper_both out.lines o.lines)

-- after a cycle that continues this is what was output in all
pub put_on : (out o : Output) (e : PhaseEnd) → e ≡ Continues → put_with e out o ≡ bytes_of (with_more out o)
put_on out o e on = ap (λ (x : PhaseEnd). put_with x out o) on ∙ same_bytes _ _ _ _ (print_continues out o) (disk_continues Continues out o)

-- after one that ended the job these are all bytes of the run
pub put_last : (e : PhaseEnd) (out o : Output) → IsLast e → put_with e out o ≡ bytes_with (printed (with_more out o)) (stored (with_more out o))
put_last e out o last = same_bytes _ _ _ _ (print_ends e out o last) (disk_continues e out o)

-- ---- a run begins with what was output

print_begins : (out more : Output) → BeginsWith (printed (with_more out more)) (paper out.lines)
print_begins out more = record {
  more = bytes_from (last_position out.lines) more.lines ++ last_feed (out.lines ++ more.lines);
  is = ap (λ bytes. bytes ++ last_feed (out.lines ++ more.lines)) (paper_both out.lines more.lines)
      ∙ append_assoc (paper out.lines) (bytes_from (last_position out.lines) more.lines) (last_feed (out.lines ++ more.lines));
}

with_last : (front : List ℕ) (whole : Output) (out o : Output) → whole ≡ with_more out o → front ≡ printed (with_more out o) → BeginsWith (printed whole) front
with_last front whole out o is ends = record { more = []; is = ap printed is ∙ sym ends ∙ sym (append-nil front) }

with_none : (e : PhaseEnd) (whole out : Output) → ContinuesWith e whole out → IsLast e → whole ≡ out
with_none e whole out is last = is.output ∙ ap (with_more out) (is.last last) ∙ more_none out

printed_begins : (e : PhaseEnd) (whole out o : Output) → ContinuesWith e whole (with_more out o) → BeginsWith (printed whole) (paper out.lines ++ (put_by e out o).print)
printed_begins Continues whole out o is =
    let begins = print_begins (with_more out o) is.more in
    record { more = begins.more; is = ap printed is.output ∙ begins.is ∙ ap (λ front. front ++ begins.more) (sym (print_continues out o)) }
printed_begins EndOfJob whole out o is = with_last _ whole out o (with_none EndOfJob whole (with_more out o) is tt) (print_ends EndOfJob out o tt)
printed_begins (Halt k) whole out o is = with_last _ whole out o (with_none (Halt k) whole (with_more out o) is tt) (print_ends (Halt k) out o tt)
printed_begins (Wrong f) whole out o is = with_last _ whole out o (with_none (Wrong f) whole (with_more out o) is tt) (print_ends (Wrong f) out o tt)

stored_begins : (e : PhaseEnd) (whole out o : Output) → ContinuesWith e whole (with_more out o) → BeginsWith (stored whole) (disk_bytes out.records ++ (put_by e out o).disk)
stored_begins e whole out o is = record {
  more = disk_bytes is.more.records;
  is = ap stored is.output ∙ disk-append (out.records ++ o.records) is.more.records ∙ ap (λ front. front ++ disk_bytes is.more.records) (sym (disk_continues e out o));
}

begins_as : (bytes all front : List ℕ) → bytes ≡ all → BeginsWith all front → BeginsWith bytes front
begins_as bytes all front is begins = record { more = begins.more; is = is ∙ begins.is }

-- a run's bytes begin with those that were output by the end of a cycle
module _ (whole out : Output) (bytes : Bytes) (print : bytes.print ≡ printed whole) (disk : bytes.disk ≡ stored whole) where
  pub put_begins : (e : PhaseEnd) (o : Output) → ContinuesWith e whole (with_more out o) → (file : OutputFile) → BeginsWith (bytes_for file bytes) (bytes_for file (put_with e out o))
  put_begins e o is Print = begins_as bytes.print (printed whole) _ print (printed_begins e whole out o is)
  put_begins e o is Disk = begins_as bytes.disk (stored whole) _ disk (stored_begins e whole out o is)

  -- the same for the cycles done alone
  pub so_far : (more : Output) → whole ≡ with_more out more → (file : OutputFile) → BeginsWith (bytes_for file bytes) (bytes_for file (bytes_of out))
  so_far more is Print = let begins = print_begins out more in begins_as bytes.print (printed whole) _ print (record { more = begins.more; is = ap printed is ∙ begins.is })
  so_far more is Disk = begins_as bytes.disk (stored whole) _ disk (record { more = disk_bytes more.records; is = ap stored is ∙ disk-append out.records more.records })

-- ---- parts of them at a writer

-- all of the front
pub front_sent : (a b : Option (List ℕ)) (all front : List ℕ) → BeginsWith all front → Appends a b front → AppendsFirst a b (length front) all
front_sent a b all front begins sent =
    let cut : take (length front) all ≡ front = ap (take (length front)) begins.is ∙ take-append-le (length front) front begins.more (omega arith) ∙ take-length front in
    (omega (arith, ap length begins.is, length-append front begins.more), subst (λ (bytes : List ℕ). Appends a b bytes) (sym cut) sent)

-- the front, and n bytes of what follows it
pub part_sent : (a b c : Option (List ℕ)) (all front next : List ℕ) (n : ℕ) → BeginsWith all (front ++ next) → Appends a b front → AppendsFirst b c n next → AppendsFirst a c (length front + n) all
part_sent a b c all front next n begins sent part =
    let is : all ≡ front ++ (next ++ begins.more) = begins.is ∙ append_assoc front next begins.more in
    let cut : take (length front + n) all ≡ front ++ take n next =
    ap (take (length front + n)) is ∙ take-append-add front (next ++ begins.more) n ∙ ap (λ bytes. front ++ bytes) (take-append-le n next begins.more part.0) in (
      omega (arith, part.0, ap length begins.is, length-append (front ++ next) begins.more, length-append front next),
      subst (λ (bytes : List ℕ). Appends a c bytes) (sym cut) (Appends-trans a b c front (take n next) sent part.1),
    )
