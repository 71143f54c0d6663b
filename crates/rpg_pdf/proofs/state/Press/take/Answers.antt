use Rattle.std.proofs.Common.{◌∷◌, refl, arith}
use Rattle.rpg_pdf.proofs.PrintLemmas.{byte_kept, page_ended, page_too_long, page_too_many}
use Rattle.rpg_pdf.proofs.state.Press.take.Goals as goal

pub returns-then-self-ge-MOST_PAGES-clause-reading : goal.returns-then-self-ge-MOST_PAGES-clause-reading
returns-then-self-ge-MOST_PAGES-clause-reading g c = λ s before print rest h. page_too_many g.W.Write.contents s before print (c.args.byte ∷ rest) c.args.self.now h (omega arith)

pub returns-then-byte-eq-FORM_FEED-clause-reading : goal.returns-then-byte-eq-FORM_FEED-clause-reading
returns-then-byte-eq-FORM_FEED-clause-reading g c = λ s before print rest h.
    page_ended g.W.Write.contents s before print c.args.byte rest c.args.self.now c.end_page.new.self c.end_page.result h c.if-byte-eq-FORM_FEED.true (λ all later r. c.end_page.ensures.reached s before all later r) c.end_page.ensures.moved

pub returns-then-len-ge-MOST_PAGE_BYTES-clause-reading : goal.returns-then-len-ge-MOST_PAGE_BYTES-clause-reading
returns-then-len-ge-MOST_PAGE_BYTES-clause-reading g c = λ s before print rest h.
    page_too_long g.W.Write.contents s before print c.args.byte rest c.args.self.now h c.if-byte-eq-FORM_FEED.false (omega arith) (omega arith)

pub returns-clause-reading : goal.returns-clause-reading
returns-clause-reading g c = λ s before print rest h.
    byte_kept g.W.Write.contents s before print c.args.byte rest c.args.self.now _ c.noted.new.self c.noted.result c.extend_from_slice-pushed.result h c.if-byte-eq-FORM_FEED.false c.extend_from_slice-pushed.ensures.items refl refl refl refl
    c.noted.ensures.made c.noted.ensures.fault
