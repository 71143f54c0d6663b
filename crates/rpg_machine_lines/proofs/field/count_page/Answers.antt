use Rattle.std.proofs.Common.{◌≡◌, refl, sym, ap, ◌∙◌, rules, to_z, of_z, w64}
use Rattle.rpg_program.specs.Forms.{form_at}
use Rattle.rpg_program.specs.LineFaults.{fits_source}
use Rattle.rpg_program.specs.Lines.{next_page}
use Rattle.rpg_machine_lines.proofs.Keeping.{page_below, page_room}
use Rattle.rpg_machine_lines.proofs.field.count_page.Goals as goal

pub set_number-requires-clause-length : goal.set_number-requires-clause-length
set_number-requires-clause-length g c =
    let forms = c.args.memory.now.program.fields in
    let f = c.args.field.now.operand.field in
    let page = ap (λ s. fits_source s (form_at forms f)) (sym c.in-Page.is) ∙ c.requires.source in
    let read : to_z w64 (of_z w64 c.number-n.result) ≡ c.number-n.result = search rules in
    let wrote : to_z w64 (of_z w64 c.next_page.result) ≡ c.next_page.result = search rules in
    page_room forms forms f c.number-n.result (to_z w64 (of_z w64 c.next_page.result)) refl page
    (page_below forms f c.number-n.result page c.number-n.ensures.fits) (wrote ∙ c.next_page.ensures ∙ ap next_page read)
