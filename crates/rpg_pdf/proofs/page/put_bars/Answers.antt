use Rattle.std.proofs.Common.{◌≡◌, ◌+◌, ◌/◌, true, arith}
use Rattle.std.proofs.lemmas.Grind.{common_steps}
use Rattle.rpg_pdf.proofs.PageLemmas.{bars_shown}
use Rattle.rpg_pdf.proofs.page.put_bars.Goals as goal

pub returns : goal.returns
returns c =
    let has : c.args.sheet.now.settings.has_bars ≡ true = grind (arith, common_steps) in
    let all : c.loop-bar.bar ≡ (c.args.sheet.now.settings.length + 5) / 6 = omega (arith, c.loop-bar.auto.bar-end, c.loop-bar-test.false) in
    bars_shown c.args.sheet.now c.loop-bar.bar c.args.out.now.items c.extend_from_slice.new.self.items c.loop-bar.out.items _ has all c.in_ok-extend_from_slice.ensures.items c.loop-bar.invariant c.in_ok-extend_from_slice-2.ensures.items
