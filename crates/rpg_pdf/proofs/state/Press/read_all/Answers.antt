use Rattle.std.proofs.Common.{◌≡◌, ◌<◌, ◌++◌, ℕ, List, [], length, take, refl, ap, ap₂, ◌∙◌, arith}
use Rattle.rpg_files.specs.Counting.{device_of}
use Rattle.rpg_pdf.proofs.PrintLemmas.{at_end, passed_on, read_on, reader_moved, same_reads, stopped}
use Rattle.rpg_pdf.specs.Pages.{pages}
use Rattle.rpg_pdf.specs.declared.state.PaperFault.TheVariants as faults
use Rattle.rpg_pdf.proofs.state.Press.read_all.Goals as goal

pub reads-init : goal.reads-init
reads-init g c = record { failures = refl; reading = λ s before print e h. (print, e, h) }

pub returns-in-Ok-eq0-clause-reading : goal.returns-in-Ok-eq0-clause-reading
returns-in-Ok-eq0-clause-reading g c = λ s before print e h.
    let inv = c.reads.invariant.reading s before print e h in
    let got = read_on (g.R.Read.remaining (device_of c.reads.self.reader)) (g.R.Read.remaining (device_of c.read.new.self)) inv.0 (take c.in-Ok-eq0.field-0 c.read.new.buf) inv.1 c.in-Ok-eq0.ensures.bytes.0 in
    let zero : c.in-Ok-eq0.field-0 ≡ 0 = omega arith in
    let room : 0 < length c.read.new.buf = omega arith in
    let ended = at_end (g.R.Read.remaining (device_of c.read.new.self)) got.0 got.1 (c.in-Ok-eq0.ensures.bytes.1 zero room) in
    let none : inv.0 ≡ [] = got.2 ∙ ap₂ (λ (n : ℕ) (t : List ℕ). take n c.read.new.buf ++ t) zero ended in
    reader_moved g.W.Write.contents s before print inv.0 [] c.reads.self _ inv.2 none refl refl refl refl refl

pub reads-preserved : goal.reads-preserved
reads-preserved g c = record {
  failures = c.in_ok-take_all-in-Ok.ensures.failures ∙ same_reads _ _ _ _ c.in-Ok.ensures.faults ∙ c.reads.invariant.failures;
  reading = λ s before print e h.
      let inv = c.reads.invariant.reading s before print e h in
      let got = read_on (g.R.Read.remaining (device_of c.reads.self.reader)) (g.R.Read.remaining (device_of c.read.new.self)) inv.0 (take c.in-Ok.count c.read.new.buf) inv.1 c.in-Ok.ensures.bytes.0 in (
        got.0,
        ap (λ r. g.R.Read.remaining (device_of r)) c.in_ok-take_all-in-Ok.ensures.moved.0 ∙ got.1,
        c.in_ok-take_all-in-Ok.ensures.reading s before print got.0 (reader_moved g.W.Write.contents s before print inv.0 (take c.in-Ok.count c.read.new.buf ++ got.0) c.reads.self _ inv.2 got.2 refl refl refl refl refl),
      );
}

pub returns-in_err-take_all-in-Ok-clause-reading : goal.returns-in_err-take_all-in-Ok-clause-reading
returns-in_err-take_all-in-Ok-clause-reading g c = λ s before print e h.
    let inv = c.reads.invariant.reading s before print e h in
    let got = read_on (g.R.Read.remaining (device_of c.reads.self.reader)) (g.R.Read.remaining (device_of c.read.new.self)) inv.0 (take c.in-Ok.count c.read.new.buf) inv.1 c.in-Ok.ensures.bytes.0 in
    passed_on _ _ c.from_residual.result c.in_err-take_all-in-Ok.field-0.0 c.from_residual.ensures.1
    (c.in_err-take_all-in-Ok.ensures.reading s before print got.0 (reader_moved g.W.Write.contents s before print inv.0 (take c.in-Ok.count c.read.new.buf ++ got.0) c.reads.self _ inv.2 got.2 refl refl refl refl refl))

pub returns-in-Err-clause-reading : goal.returns-in-Err-clause-reading
returns-in-Err-clause-reading g c = λ s before print e h.
    let inv = c.reads.invariant.reading s before print e h in
    stopped g.W.Write.contents s before (pages print) (pages (c.reads.self.page.items ++ inv.0)) c.reads.self _ faults.Read inv.2.reached refl tt
