use Rattle.std.proofs.Common.{◌∷◌, refl}
use Rattle.rpg_pdf.proofs.PrintLemmas.{at_ok, page_done, page_stops, page_unsent, passed_on, stopped}
use Rattle.rpg_pdf.specs.Made.{AddsPage}
use Rattle.rpg_pdf.proofs.state.Press.end_page.Goals as goal

pub returns-in_err-fault-clause-reached : goal.returns-in_err-fault-clause-reached
returns-in_err-fault-clause-reached g c = λ s before all later r.
    passed_on _ _ c.from_residual.result c.in_err-fault.field-0.0 c.from_residual.ensures.1
    (stopped g.W.Write.contents s before all (c.args.self.now.page.items ∷ later) c.args.self.now c.noted.new.self c.in_err-fault.field-0.0 r c.in_err-fault.ensures.fault.0 (c.in_err-fault.ensures.fault.1 s all))

pub returns-in-Some-clause-reached : goal.returns-in-Some-clause-reached
returns-in-Some-clause-reached g c = λ s before all later r.
    let made = at_ok (AddsPage c.args.self.now.sheet c.args.self.now.number c.as_slice-page.result.now c.args.self.now.made c.add_page-made.new.self) c.add_page-made.result c.in_ok-fault.field-0 c.add_page-made.ensures c.in_ok-fault.ensures.made.0 in
    page_stops g.W.Write.contents s before all later c.args.self.now.page.items c.as_slice-page.result.now c.args.self.now _ c.noted.new.self c.in-Some.fault c.in_ok-fault.field-0 r c.requires.few c.as_slice-page.ensures.value made.fault_is c.in-Some.is
    c.in_ok-fault.ensures.made.1 refl refl

pub returns-in_err-send-clause-reached : goal.returns-in_err-send-clause-reached
returns-in_err-send-clause-reached g c = λ s before all later r.
    let made = at_ok (AddsPage c.args.self.now.sheet c.args.self.now.number c.as_slice-page.result.now c.args.self.now.made c.add_page-made.new.self) c.add_page-made.result c.in_ok-fault.field-0 c.add_page-made.ensures c.in_ok-fault.ensures.made.0 in
    passed_on _ _ c.from_residual-in_err-send.result c.in_err-send.field-0.0 c.from_residual-in_err-send.ensures.1
    (page_unsent g.W.Write.contents s before all later c.args.self.now.page.items c.as_slice-page.result.now c.args.self.now _ c.noted.new.self c.send.new.self c.in_ok-fault.field-0 c.in_err-send.field-0.0 r c.as_slice-page.ensures.value made c.in_default.is
    c.in_ok-fault.ensures.made.1 refl c.in_err-send.ensures.sent)

pub returns-clause-reached : goal.returns-clause-reached
returns-clause-reached g c = λ s before all later r.
    let made = at_ok (AddsPage c.args.self.now.sheet c.args.self.now.number c.as_slice-page.result.now c.args.self.now.made c.add_page-made.new.self) c.add_page-made.result c.in_ok-fault.field-0 c.add_page-made.ensures c.in_ok-fault.ensures.made.0 in
    page_done g.W.Write.contents s before all later c.args.self.now.page.items c.as_slice-page.result.now c.args.self.now _ c.noted.new.self c.send.new.self _ c.in_ok-fault.field-0 r c.requires.few c.as_slice-page.ensures.value made c.in_default.is
    c.in_ok-fault.ensures.made.1 refl refl refl c.in_ok-send.ensures.sent refl refl refl refl
