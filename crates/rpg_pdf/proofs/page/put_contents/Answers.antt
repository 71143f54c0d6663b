use Rattle.std.proofs.Common.{◌≡◌, ◌==◌, ◌++◌, [], ◌∷◌, None, arith, codes, rules, sym, ◌∙◌}
use Rattle.rpg_pdf.proofs.PageLemmas.{lines_counted, page_shown}
use Rattle.std.specs.List.{count_by}
use Rattle.rpg_pdf.specs.Contents.{lines_fault}
use Rattle.rpg_pdf.specs.Pages.{lines_in}
use Rattle.rpg_pdf.specs.Texts.{filled}
use Rattle.rpg_pdf.proofs.page.put_contents.Goals as goal

pub returns : goal.returns
unfolding filled
returns c =
    let none : lines_fault c.args.sheet.now 0 (lines_in c.without_last_line_feeds-text.result.now) ≡ None = sym c.in_ok-fault.ensures.0 ∙ c.in_default.is in
    let counted : c.count-count.result ≡ count_by (λ b. b == 10) c.without_last_line_feeds-text.result.now = search rules in
    let font : c.fill.new.out.items ≡ c.put_bars.new.out.items ++ filled (codes "BT /F $ Tf\n") (c.args.sheet.now.font ∷ []) = search rules in
    page_shown c.args.sheet.now c.args.page.now c.without_last_line_feeds-text.result.now c.args.out.now.items c.put_bars.new.out.items c.fill.new.out.items c.put_lines.new.out.items _ c.requires c.without_last_line_feeds-text.ensures.page
    (omega (arith, counted, lines_counted c.without_last_line_feeds-text.result.now, c.if-count-sheet.false)) none c.in_ok-put_bars.ensures font (c.in_ok-fault.ensures.1 none) c.in_ok-extend_from_slice.ensures.items
