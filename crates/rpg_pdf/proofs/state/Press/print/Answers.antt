use Rattle.std.proofs.Common.{refl}
use Rattle.rpg_pdf.proofs.PrintLemmas.{at_ok_any, if_known, known_kept, passed_stop, stopped_first, unread}
use Rattle.rpg_pdf.specs.Outcomes.{written_by}
use Rattle.rpg_pdf.specs.Pages.{pages}
use Rattle.rpg_pdf.proofs.state.Press.print.Goals as goal

pub returns-in_err-noted-clause-paper : goal.returns-in_err-noted-clause-paper
returns-in_err-noted-clause-paper g c =
    if_known _ (λ print e.
    passed_stop g.W.Write.contents c.args.self.now.sheet (written_by g.W.Write.contents c.args.self.now) (pages print) c.noted.new.self c.from_residual.result c.in_err-noted.field-0.0 c.from_residual.ensures.1
    (stopped_first g.W.Write.contents c.args.self.now.sheet (pages print) c.args.self.now c.noted.new.self c.in_err-noted.field-0.0 c.in_err-noted.ensures.fault.0 (c.in_err-noted.ensures.fault.1 c.args.self.now.sheet (pages print))))

pub returns-in_err-read_all-clause-paper : goal.returns-in_err-read_all-clause-paper
returns-in_err-read_all-clause-paper g c =
    if_known _ (λ print e.
    let begins = at_ok_any c.add_first-made.result c.in_ok-noted.field-0 c.add_first-made.ensures c.in_ok-noted.ensures.made.0 in
    passed_stop g.W.Write.contents c.args.self.now.sheet (written_by g.W.Write.contents c.args.self.now) (pages print) c.read_all.new.self c.from_residual-in_err-read_all.result c.in_err-read_all.field-0.0 c.from_residual-in_err-read_all.ensures.1
    (c.in_err-read_all.ensures.reading c.args.self.now.sheet (written_by g.W.Write.contents c.args.self.now) print (known_kept g.R.Read.remaining print c.noted.new.self _ c.in_ok-noted.ensures.made.1 e)
    (unread g.W.Write.contents c.args.self.now.sheet _ print c.args.self.now _ c.noted.new.self refl c.requires.fresh begins c.in_ok-noted.ensures.made.1 refl refl refl refl)))

pub returns-clause-paper : goal.returns-clause-paper
returns-clause-paper g c =
    if_known _ (λ print e.
    let begins = at_ok_any c.add_first-made.result c.in_ok-noted.field-0 c.add_first-made.ensures c.in_ok-noted.ensures.made.0 in
    c.finish.ensures.paper c.args.self.now.sheet (written_by g.W.Write.contents c.args.self.now) print
    (c.in_ok-read_all.ensures.reading c.args.self.now.sheet (written_by g.W.Write.contents c.args.self.now) print (known_kept g.R.Read.remaining print c.noted.new.self _ c.in_ok-noted.ensures.made.1 e)
    (unread g.W.Write.contents c.args.self.now.sheet _ print c.args.self.now _ c.noted.new.self refl c.requires.fresh begins c.in_ok-noted.ensures.made.1 refl refl refl refl)))
