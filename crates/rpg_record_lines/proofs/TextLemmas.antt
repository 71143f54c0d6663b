-- The texts that were written so far.
use Rattle.std.proofs.Common.{◌≡◌, ℕ, ◌+◌, List, [], ◌++◌, length, take, refl, sym, subst, arith, Option, Some, unwrap_or, Result, Ok, Err}
use Rattle.std.proofs.KnownBytes.{Appends-nil, Appends-trans}
use Rattle.std.proofs.Math.Seq.{take-append-add}
use Rattle.std.specs.Io.KnownBytes.{Appends}
use Rattle.std.proofs.Common.{append-nil, length-append, take_all}
use Rattle.rpg_files.specs.Sending.{AppendsPrefix}
use Rattle.rpg_record_lines.specs.Conversions.{Made, InputPlace, counts_after, frame_stop, line_stop}
use Rattle.rpg_record_lines.specs.Texts.{BeginsOne, EndsAfter, HaveBegun, HaveWritten, NoTexts, OneMore, WritesNext, WritesOne, WritesTexts, no_counts}
use Rattle.rpg_record_lines.specs.declared.conversion.ConversionFault.{ConversionFault}
use Rattle.rpg_record_lines.specs.declared.conversion.ConversionFault.TheVariants as stops
use Rattle.rpg_record_lines.specs.declared.conversion.Counts.{Counts}
use Rattle.rpg_record_lines.specs.declared.fault.LineFault.{LineFault}
use Rattle.rpg_record_lines.specs.declared.fault.LineFault.TheVariants as lines
use Rattle.rpg_record_lines.specs.declared.frames.FrameFault.{FrameFault}
use Rattle.rpg_record_lines.specs.declared.frames.FrameFault.TheVariants as frames
use Rattle.rpg_record_lines.specs.declared.input.InputFault.TheVariants as inputs

-- ---- the next record

pub none_written : (text_of : List ℕ → Made) (a : Option (List ℕ)) → HaveWritten text_of a a no_counts
none_written text_of a = ([], NoTexts, Appends-nil a)

pub unwritten : (text_of : List ℕ → Made) (a : Option (List ℕ)) → WritesTexts text_of a a (Err stops.NoMemory)
unwritten text_of a = (no_counts, none_written text_of a)

pub one_written : (text_of : List ℕ → Made) (a b w : Option (List ℕ)) (counts more : Counts) → HaveWritten text_of a b counts → WritesOne text_of b w counts more → HaveWritten text_of a w more
one_written text_of a b w counts more h s =
    subst (HaveWritten text_of a w) (sym s.3)
    (h.0 ++ unwrap_or s.1 [], OneMore counts h.0 s.0 s.1 h.1 s.2, Appends-trans a b w h.0 (unwrap_or s.1 []) h.2 s.4)

-- nothing more
pub same_written : (text_of : List ℕ → Made) (a b w : Option (List ℕ)) (counts : Counts) → HaveWritten text_of a b counts → Appends b w [] → HaveWritten text_of a w counts
same_written text_of a b w counts h s = (h.0, h.1, subst (Appends a w) (append-nil h.0) (Appends-trans a b w h.0 [] h.2 s))

begun_after : (text more : List ℕ) (a b w : Option (List ℕ)) → Appends a b text → AppendsPrefix b w more → AppendsPrefix a w (text ++ more)
begun_after text more a b w sent part = (
  length text + part.0,
  (
    omega (arith, part.1.0, length-append text more),
    subst (Appends a w) (sym (take-append-add text more part.0)) (Appends-trans a b w text (take part.0 more) sent part.1.1),
  ),
)

one_begun : (text_of : List ℕ → Made) (a b w : Option (List ℕ)) (counts : Counts) → HaveWritten text_of a b counts → BeginsOne text_of b w → HaveBegun text_of a w
one_begun text_of a b w counts h s = (
  counts_after counts (Some s.1),
  h.0 ++ s.1,
  OneMore counts h.0 s.0 (Some s.1) h.1 s.2,
  begun_after h.0 s.1 a b w h.2 s.3,
)

begun_whole : (text : List ℕ) (a b : Option (List ℕ)) → Appends a b text → AppendsPrefix a b text
begun_whole text a b sent = (length text, (omega arith, subst (Appends a b) (sym (take_all (length text) text (omega arith))) sent))

-- ---- the end

pub ended_next : (text_of : List ℕ → Made) (a b w : Option (List ℕ)) (counts : Counts) (fault : ConversionFault) → HaveWritten text_of a b counts → WritesNext text_of b w counts (Err fault)
    → WritesTexts text_of a w (Err fault)
ended_next text_of a b w counts (stops.Record number offset fault) h s = (counts, same_written text_of a b w counts h s.0, s.1)
ended_next text_of a b w counts stops.Read h s = (counts, same_written text_of a b w counts h s)
ended_next text_of a b w counts stops.Write h s = one_begun text_of a b w counts h s
ended_next text_of a b w counts stops.NoMemory h s = (counts, same_written text_of a b w counts h s)

pub ended_all : (text_of : List ℕ → Made) (a b : Option (List ℕ)) (counts : Counts) (result : Result Counts ConversionFault) → HaveWritten text_of a b counts → EndsAfter counts result
    → WritesTexts text_of a b result
ended_all text_of a b counts (Ok all) h e = subst (HaveWritten text_of a b) (sym e) h
ended_all text_of a b counts (Err (stops.Record number offset fault)) h e = (counts, h, e)
ended_all text_of a b counts (Err stops.Read) h e = (counts, h)
ended_all text_of a b counts (Err stops.Write) h e = (counts, h.0, h.1, begun_whole h.0 a b h.2)
ended_all text_of a b counts (Err stops.NoMemory) h e = (counts, h)

-- ---- faults

pub frame_next : (text_of : List ℕ → Made) (a : Option (List ℕ)) (p : InputPlace) (fault : FrameFault) (stop : ConversionFault) → stop ≡ frame_stop p fault
    → WritesNext text_of a a p.counts (Err stop)
frame_next text_of a p fault stop e = subst (λ (x : ConversionFault). WritesNext text_of a a p.counts (Err x)) (sym e) (at fault)
  where
    at : (fault : FrameFault) → WritesNext text_of a a p.counts (Err (frame_stop p fault))
    at (frames.Record fault) = (Appends-nil a, refl)
    at (frames.Input inputs.Device) = Appends-nil a
    at (frames.Input inputs.NoMemory) = Appends-nil a

pub line_next : (text_of : List ℕ → Made) (a : Option (List ℕ)) (p : InputPlace) (fault : LineFault) (stop : ConversionFault) → stop ≡ line_stop p fault → WritesNext text_of a a p.counts (Err stop)
line_next text_of a p fault stop e = subst (λ (x : ConversionFault). WritesNext text_of a a p.counts (Err x)) (sym e) (at fault)
  where
    at : (fault : LineFault) → WritesNext text_of a a p.counts (Err (line_stop p fault))
    at (lines.Record fault) = (Appends-nil a, refl)
    at lines.NoMemory = Appends-nil a

pub frame_end : (p : InputPlace) (fault : FrameFault) (stop : ConversionFault) → stop ≡ frame_stop p fault → EndsAfter p.counts (Err stop)
frame_end p fault stop e = subst (λ (x : ConversionFault). EndsAfter p.counts (Err x)) (sym e) (at fault)
  where
    at : (fault : FrameFault) → EndsAfter p.counts (Err (frame_stop p fault))
    at (frames.Record fault) = refl
    at (frames.Input inputs.Device) = tt
    at (frames.Input inputs.NoMemory) = tt
