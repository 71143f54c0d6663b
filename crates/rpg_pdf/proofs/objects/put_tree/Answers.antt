use Rattle.std.proofs.Common.{◌≡◌, arith}
use Rattle.rpg_pdf.proofs.MadeLemmas.{tree_made}
use Rattle.rpg_pdf.proofs.objects.put_tree.Goals as goal

pub returns : goal.returns
returns c =
    let all : c.loop-page.page ≡ c.args.pages = omega (arith, c.loop-page.auto.page-end, c.loop-page-test.false) in
    tree_made c.args.sheet.now c.args.pages c.loop-page.page c.from.result c.from-2.result c.from-3.result c.args.out.now.items c.fill.new.out.items c.loop-page.out.items _ c.from.ensures all c.from-2.ensures c.from-3.ensures c.in_ok-fill.ensures c.loop-page.invariant c.in_ok-fill-3.ensures
