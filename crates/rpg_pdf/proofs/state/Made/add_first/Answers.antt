use Rattle.std.proofs.Common.{◌≡◌, ◌+◌, ◌++◌, length, refl, ap, ◌∙◌}
use Rattle.rpg_pdf.specs.Objects.{catalog, entry, first_bytes, font}
use Rattle.rpg_pdf.proofs.state.Made.add_first.Goals as goal

pub returns : goal.returns
unfolding first_bytes catalog font
returns c =
    let before : c.fill.new.out.items ≡ c.args.self.now.out.items ++ first_bytes ++ catalog = c.in_ok-fill.ensures ∙ ap (λ t. t ++ catalog) c.in_ok-extend_from_slice.ensures.items in
    record { out = c.in_ok-fill-3.ensures ∙ ap (λ t. t ++ font) before; entries = c.in_ok-fill-2.ensures ∙ ap (λ k. c.args.self.now.entries.items ++ entry k) (c.place-place.ensures ∙ ap (λ t. c.args.self.now.at + length t) before); at = refl }
