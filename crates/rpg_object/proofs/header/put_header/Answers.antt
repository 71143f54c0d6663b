use Rattle.std.proofs.Common.{List, ℕ, ◌++◌, append_assoc, ap, sym, ◌∙◌}
use Rattle.rpg_object.specs.Header.{page_text}
use Rattle.rpg_object.proofs.HeaderLaws.{header_text}
use Rattle.rpg_object.proofs.header.put_header.Goals as goal

pub returns : goal.returns
returns c =
    let h = c.args.header in
    c.in_ok-put_page.ensures ∙ ap (λ (xs : List ℕ). xs ++ page_text h) c.in_ok-put_numbers.ensures ∙ append_assoc c.args.out.now.items _ (page_text h)
    ∙ ap (λ (xs : List ℕ). c.args.out.now.items ++ xs) (sym (header_text h c.requires _ _ c.number.ensures (c.from.ensures ∙ c.indicator_number.ensures)))
