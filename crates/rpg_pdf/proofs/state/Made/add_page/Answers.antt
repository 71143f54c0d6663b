use Rattle.std.proofs.Common.{◌≡◌, ℕ, List, ◌++◌, length, None, refl, sym, ap, ◌∙◌, arith}
use Rattle.rpg_pdf.proofs.MadeLemmas.{adds_page, contents_made}
use Rattle.rpg_pdf.specs.Contents.{contents, page_fault}
use Rattle.rpg_pdf.proofs.state.Made.add_page.Goals as goal

pub returns : goal.returns
returns c =
    let fits : None ≡ page_fault c.args.sheet.now c.args.page.now = sym c.in_default.is ∙ c.in_ok-fault.ensures.0 in
    let shown =
    contents_made c.args.number c.number_of_page-number.result c.len.result c.as_slice.result.now c.fill-2.new.out.items c.fill-4.new.out.items c.extend_from_slice.new.self.items _ c.number_of_page-number.ensures
    (omega (arith, c.len.ensures, ap length c.as_slice.ensures.value)) c.in_ok-fill-4.ensures c.in_ok-extend_from_slice.ensures.items c.in_ok-extend_from_slice-2.ensures.items in
    adds_page c.args.sheet.now c.args.number c.args.page.now c.args.self.now _ None c.as_slice.result.now c.fill-2.new.out.items c.fill.new.out.items c.number_of_page-number.result c.place-place.result c.place-place-2.result c.number_of_page-number.ensures fits
    (c.as_slice.ensures.value ∙ c.in_ok-fault.ensures.1 (sym fits) ∙ ap (λ (t : List ℕ). t ++ contents c.args.sheet.now c.args.page.now) c.clear.ensures.items) c.place-place.ensures c.in_ok-fill.ensures c.in_ok-fill-2.ensures c.place-place-2.ensures c.in_ok-fill-3.ensures shown refl
