use Rattle.std.proofs.Common.{◌≡◌, ◌≤◌, ◌+◌, ◌-◌}
use Rattle.rpg_record_lines.specs.Conversions.{ConvertsUpTo}
use Rattle.rpg_record_lines.specs.Inputs.{framing_of, most_of, remaining_of}
use Rattle.rpg_record_lines.specs.Texts.{HaveWritten}
use Rattle.rpg_record_lines.specs.Ways.{input_place_at, text_by, conversion_settings}
use Rattle.rpg_record_lines.proofs.conversion.convert_all.Given as goal

abbrev pub invariant-loop-frames : goal.invariant-loop-frames
invariant-loop-frames g l = record {
  framing : framing_of l.frames ≡ framing_of l.initial.frames;
  most : most_of l.frames ≡ most_of l.initial.frames;
  few : l.counts.records + l.counts.dropped ≤ 10000000;
  reached : ConvertsUpTo (conversion_settings l.maker l.frames) (remaining_of g.R.Read.remaining l.initial.frames) (remaining_of g.R.Read.remaining l.frames) (10000000 - (l.counts.records + l.counts.dropped)) (input_place_at l.counts l.frames)
      (g.W.Write.contents l.initial.writer) (g.W.Write.contents l.writer);
  written : HaveWritten (text_by l.maker) (g.W.Write.contents l.initial.writer) (g.W.Write.contents l.writer) l.counts;
}

abbrev pub decreases-loop-frames : goal.decreases-loop-frames
decreases-loop-frames g l = 10000000 - (l.counts.records + l.counts.dropped)
