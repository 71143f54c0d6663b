use Rattle.std.proofs.Common.{◌≡◌, ◌+◌, ◌-◌, ◌∙◌, suc, ap₂, arith}
use Rattle.std.proofs.lemmas.Result.{err_from_is_err_and}
use Rattle.rpg_record_lines.proofs.StepLemmas.{reached_last, reached_next, reached_stop}
use Rattle.rpg_record_lines.proofs.TextLemmas.{ended_next, one_written, same_written}
use Rattle.rpg_record_lines.specs.Inputs.{offset_of, remaining_of}
use Rattle.rpg_record_lines.specs.Ways.{input_place_at, text_by, way_by, conversion_settings}
use Rattle.rpg_record_lines.proofs.conversion.convert_all.Goals as goal

pub returns-in_err-more-clause-known : goal.returns-in_err-more-clause-known
returns-in_err-more-clause-known g c =
    let p = err_from_is_err_and c.from_residual.result c.from_residual.ensures.1 in
    let n = c.loop-frames.counts.records + c.loop-frames.counts.dropped in
    let few : 10000000 - n ≡ suc (10000000 - (n + 1)) = omega (arith, c.loop-frames-test.true, c.next_number.ensures) in
    let same : (conversion_settings c.args.maker.now c.loop-frames.frames) ≡ (conversion_settings c.args.maker.now c.args.frames.now) = ap₂ (λ x y. way_by x y c.args.maker.now) c.loop-frames.invariant.framing c.loop-frames.invariant.most in
    rw (p.1, p.2)
    (reached_stop (conversion_settings c.args.maker.now c.loop-frames.frames) (conversion_settings c.args.maker.now c.args.frames.now) (remaining_of g.R.Read.remaining c.args.frames.now) (remaining_of g.R.Read.remaining c.loop-frames.frames) (remaining_of g.R.Read.remaining c.convert_next.new.frames) (g.W.Write.contents c.args.writer.now) (g.W.Write.contents c.loop-frames.writer) (g.W.Write.contents c.convert_next.new.writer) (10000000 - n) (10000000 - (n + 1)) (offset_of c.convert_next.new.frames) (input_place_at c.loop-frames.counts c.loop-frames.frames) c.in_err-more.field-0.0
    same few c.loop-frames.invariant.reached c.in_err-more.ensures.step)

pub returns-in-None-clause-known : goal.returns-in-None-clause-known
returns-in-None-clause-known g c =
    let n = c.loop-frames.counts.records + c.loop-frames.counts.dropped in
    let few : 10000000 - n ≡ suc (10000000 - (n + 1)) = omega (arith, c.loop-frames-test.true, c.next_number.ensures) in
    let same : (conversion_settings c.args.maker.now c.loop-frames.frames) ≡ (conversion_settings c.args.maker.now c.args.frames.now) = ap₂ (λ x y. way_by x y c.args.maker.now) c.loop-frames.invariant.framing c.loop-frames.invariant.most in
    reached_last (conversion_settings c.args.maker.now c.loop-frames.frames) (conversion_settings c.args.maker.now c.args.frames.now) (remaining_of g.R.Read.remaining c.args.frames.now) (remaining_of g.R.Read.remaining c.loop-frames.frames) (remaining_of g.R.Read.remaining c.convert_next.new.frames) (g.W.Write.contents c.args.writer.now) (g.W.Write.contents c.loop-frames.writer) (g.W.Write.contents c.convert_next.new.writer) (10000000 - n) (10000000 - (n + 1)) (offset_of c.convert_next.new.frames) (input_place_at c.loop-frames.counts c.loop-frames.frames) same few
    c.loop-frames.invariant.reached (rw c.in-None.is at c.in_ok-more.ensures.step)

pub returns-in_err-more-clause-any : goal.returns-in_err-more-clause-any
returns-in_err-more-clause-any g c =
    let p = err_from_is_err_and c.from_residual.result c.from_residual.ensures.1 in
    rw (p.1, p.2)
    (ended_next (text_by c.args.maker.now) (g.W.Write.contents c.args.writer.now) (g.W.Write.contents c.loop-frames.writer) (g.W.Write.contents c.convert_next.new.writer) c.loop-frames.counts c.in_err-more.field-0.0
    c.loop-frames.invariant.written c.in_err-more.ensures.text)

pub returns-in-None-clause-any : goal.returns-in-None-clause-any
returns-in-None-clause-any g c =
    same_written (text_by c.args.maker.now) (g.W.Write.contents c.args.writer.now) (g.W.Write.contents c.loop-frames.writer) (g.W.Write.contents c.convert_next.new.writer) c.loop-frames.counts
    c.loop-frames.invariant.written (rw c.in-None.is at c.in_ok-more.ensures.text)

pub loop-frames-preserved : goal.loop-frames-preserved
loop-frames-preserved g c =
    let n = c.loop-frames.counts.records + c.loop-frames.counts.dropped in
    let m = c.in-Some.more.records + c.in-Some.more.dropped in
    let one : m ≡ n + 1 = rw c.in-Some.is at c.in_ok-more.ensures.counts in
    let few : 10000000 - n ≡ suc (10000000 - m) = omega (arith, one, c.loop-frames-test.true, c.next_number.ensures) in
    let same : (conversion_settings c.args.maker.now c.convert_next.new.frames) ≡ (conversion_settings c.args.maker.now c.loop-frames.frames) = ap₂ (λ x y. way_by x y c.args.maker.now) c.in_ok-more.ensures.framing c.in_ok-more.ensures.most in
    record {
      framing = c.in_ok-more.ensures.framing ∙ c.loop-frames.invariant.framing;
      most = c.in_ok-more.ensures.most ∙ c.loop-frames.invariant.most;
      few = omega (arith, one, c.loop-frames-test.true, c.next_number.ensures);
      reached = reached_next (conversion_settings c.args.maker.now c.loop-frames.frames) (conversion_settings c.args.maker.now c.convert_next.new.frames) (remaining_of g.R.Read.remaining c.args.frames.now) (remaining_of g.R.Read.remaining c.loop-frames.frames) (remaining_of g.R.Read.remaining c.convert_next.new.frames) (g.W.Write.contents c.args.writer.now) (g.W.Write.contents c.loop-frames.writer) (g.W.Write.contents c.convert_next.new.writer) (10000000 - n) (10000000 - m) (offset_of c.convert_next.new.frames) (input_place_at c.loop-frames.counts c.loop-frames.frames) c.in-Some.more
          same few c.loop-frames.invariant.reached (rw c.in-Some.is at c.in_ok-more.ensures.step);
      written = one_written (text_by c.args.maker.now) (g.W.Write.contents c.args.writer.now) (g.W.Write.contents c.loop-frames.writer) (g.W.Write.contents c.convert_next.new.writer) c.loop-frames.counts c.in-Some.more c.loop-frames.invariant.written
          (rw c.in-Some.is at c.in_ok-more.ensures.text);
    }
