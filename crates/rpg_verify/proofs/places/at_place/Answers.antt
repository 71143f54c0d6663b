use Rattle.std.proofs.Common.{rules, ◌≡◌, ◌-◌, length, map, slice_get, sym, ap, ◌∙◌}
use Rattle.std.specs.Option.{option_or}
use Rattle.rpg_program.specs.Object.{seen}
use Rattle.rpg_program.specs.declared.section.Section.TheVariants.{Detail}
use Rattle.rpg_verify.proofs.Walking.{either}
use Rattle.rpg_verify.specs.Placed.{placed_instruction, placed_after_detail, placed_in}
use Rattle.rpg_verify_rules.proofs.Spanning.{detail_span}
use Rattle.rpg_verify.proofs.places.at_place.Goals as goal

pub in_section-requires : goal.in_section-requires
in_section-requires c =
    let same : c.len-detail.result ≡ length c.args.rows.now.detail.items = search rules in
    detail_span (seen c.args.rows.now) c.len-detail.result same

pub returns-in-Some-clause-placed : goal.returns-in-Some-clause-placed
unfolding placed_instruction
returns-in-Some-clause-placed c =
    let p = seen c.args.rows.now in
    let later = placed_after_detail p in
    let rest = slice_get later (c.args.place - length p.detail) in
    ap (λ o. option_or o rest) c.in-Some.ensures.placed
    ∙ ap (λ is. option_or (slice_get (map (placed_in p Detail) is) c.args.place) rest) c.deref.ensures.value
    ∙ sym (either (placed_in p Detail) p.detail later c.args.place)

pub returns-in-None-clause-placed : goal.returns-in-None-clause-placed
unfolding placed_instruction
returns-in-None-clause-placed c =
    let p = seen c.args.rows.now in
    let later = placed_after_detail p in
    let rest = slice_get later (c.args.place - length p.detail) in
    let taken : c.saturating_sub.result ≡ c.args.place - length p.detail = search rules in
    c.after_detail.ensures.placed
    ∙ ap (slice_get later) taken
    ∙ ap (λ o. option_or o rest) (sym c.in-None.is ∙ c.in_section.ensures.placed)
    ∙ ap (λ is. option_or (slice_get (map (placed_in p Detail) is) c.args.place) rest) c.deref.ensures.value
    ∙ sym (either (placed_in p Detail) p.detail later c.args.place)
