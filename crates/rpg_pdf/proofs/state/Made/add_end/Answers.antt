use Rattle.std.proofs.Common.{refl, ◌∙◌}
use Rattle.rpg_pdf.proofs.MadeLemmas.{ending_made}
use Rattle.rpg_pdf.proofs.state.Made.add_end.Goals as goal

pub returns : goal.returns
returns c = record {
  at = refl;
  out = λ places is. ending_made c.args.self.now.at c.number_of_page-count.result _ c.place-start.result c.place-root.result _ places _ c.put_tree.new.out.items c.fill.new.out.items c.extend_from_slice.new.self.items _ c.as_slice.result.now
      c.in_ok-put_tree.ensures c.place-start.ensures c.place-root.ensures c.number_of_page-count.ensures (c.as_slice.ensures.value ∙ is) c.in_ok-fill.ensures c.in_ok-extend_from_slice.ensures.items c.in_ok-fill-2.ensures;
}
