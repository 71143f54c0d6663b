use Rattle.std.proofs.Common.{[], refl, arith}
use Rattle.rpg_pdf.proofs.PrintLemmas.{at_ok_any, end_unsent, ended, page_too_many, passed_stop, stop_is, stopped, to_last, unflushed}
use Rattle.rpg_files.specs.Counting.{device_of}
use Rattle.rpg_pdf.specs.Pages.{pages}
use Rattle.rpg_pdf.proofs.state.Press.finish.Goals as goal

pub returns-then-self-ge-MOST_PAGES-clause-paper : goal.returns-then-self-ge-MOST_PAGES-clause-paper
returns-then-self-ge-MOST_PAGES-clause-paper g c = λ s before print h. stop_is g.W.Write.contents s before (pages print) c.args.self.now _ (page_too_many g.W.Write.contents s before print [] c.args.self.now h (omega arith))

pub returns-in_err-end_page-clause-paper : goal.returns-in_err-end_page-clause-paper
returns-in_err-end_page-clause-paper g c = λ s before print h.
    passed_stop g.W.Write.contents s before (pages print) c.end_page.new.self c.from_residual.result c.in_err-end_page.field-0.0 c.from_residual.ensures.1
    (c.in_err-end_page.ensures.reached s before (pages print) [] (to_last g.W.Write.contents s before print c.args.self.now h))

pub returns-in_err-noted-clause-paper : goal.returns-in_err-noted-clause-paper
returns-in_err-noted-clause-paper g c = λ s before print h.
    let r = c.in_ok-end_page.ensures.reached s before (pages print) [] (to_last g.W.Write.contents s before print c.args.self.now h) in
    passed_stop g.W.Write.contents s before (pages print) c.noted.new.self c.from_residual-in_err-noted.result c.in_err-noted.field-0.0 c.from_residual-in_err-noted.ensures.1
    (stopped g.W.Write.contents s before (pages print) [] c.end_page.new.self c.noted.new.self c.in_err-noted.field-0.0 r c.in_err-noted.ensures.fault.0 (c.in_err-noted.ensures.fault.1 s (pages print)))

pub returns-in_err-send-clause-paper : goal.returns-in_err-send-clause-paper
returns-in_err-send-clause-paper g c = λ s before print h.
    let r = c.in_ok-end_page.ensures.reached s before (pages print) [] (to_last g.W.Write.contents s before print c.args.self.now h) in
    let ends = at_ok_any c.add_end-made.result c.in_ok-noted.field-0 c.add_end-made.ensures c.in_ok-noted.ensures.made.0 in
    passed_stop g.W.Write.contents s before (pages print) c.send.new.self c.from_residual-in_err-send.result c.in_err-send.field-0.0 c.from_residual-in_err-send.ensures.1
    (end_unsent g.W.Write.contents s before (pages print) c.end_page.new.self _ c.noted.new.self c.send.new.self c.in_err-send.field-0.0 r ends c.in_ok-noted.ensures.made.1 refl c.in_err-send.ensures.sent)

pub returns-in-Ok-clause-paper : goal.returns-in-Ok-clause-paper
returns-in-Ok-clause-paper g c = λ s before print h.
    let r = c.in_ok-end_page.ensures.reached s before (pages print) [] (to_last g.W.Write.contents s before print c.args.self.now h) in
    let ends = at_ok_any c.add_end-made.result c.in_ok-noted.field-0 c.add_end-made.ensures c.in_ok-noted.ensures.made.0 in
    ended g.W.Write.contents s before (pages print) c.end_page.new.self _ c.noted.new.self c.send.new.self (g.W.Write.contents (device_of c.flush.new.self)) c.send.new.self.number r ends c.in_ok-noted.ensures.made.1 refl refl c.in_ok-send.ensures.sent c.flush.ensures.bytes refl

pub returns-in-Err-clause-paper : goal.returns-in-Err-clause-paper
returns-in-Err-clause-paper g c = λ s before print h.
    let r = c.in_ok-end_page.ensures.reached s before (pages print) [] (to_last g.W.Write.contents s before print c.args.self.now h) in
    let ends = at_ok_any c.add_end-made.result c.in_ok-noted.field-0 c.add_end-made.ensures c.in_ok-noted.ensures.made.0 in
    unflushed g.W.Write.contents s before (pages print) c.end_page.new.self _ c.noted.new.self c.send.new.self (g.W.Write.contents (device_of c.flush.new.self)) r ends c.in_ok-noted.ensures.made.1 refl refl c.in_ok-send.ensures.sent c.flush.ensures.bytes
