use Rattle.std.proofs.Common.{rules, ◌≡◌, ◌-◌, length, map, slice_get, sym, ap, ◌∙◌}
use Rattle.std.specs.Option.{option_or}
use Rattle.rpg_program.specs.Object.{seen}
use Rattle.rpg_program.specs.declared.section.Section.TheVariants.{Total}
use Rattle.rpg_verify.proofs.Walking.{either}
use Rattle.rpg_verify.specs.Placed.{placed_in, placed_in_subroutines}
use Rattle.rpg_verify_rules.proofs.Spanning.{total_span}
use Rattle.rpg_verify.proofs.places.after_detail.Goals as goal

pub in_section-requires : goal.in_section-requires
in_section-requires c =
    let first : c.len-first.result ≡ length c.args.rows.now.detail.items = search rules in
    let rest : c.len-total.result ≡ length c.args.rows.now.total.items = search rules in
    total_span (seen c.args.rows.now) c.len-first.result c.len-total.result first rest

pub returns-in-Some-clause-placed : goal.returns-in-Some-clause-placed
returns-in-Some-clause-placed c =
    let p = seen c.args.rows.now in
    let later = placed_in_subroutines p 0 p.subroutines in
    let rest = slice_get later (c.args.place - length p.total) in
    ap (λ o. option_or o rest) c.in-Some.ensures.placed
    ∙ ap (λ is. option_or (slice_get (map (placed_in p Total) is) c.args.place) rest) c.deref.ensures.value
    ∙ sym (either (placed_in p Total) p.total later c.args.place)

pub returns-in-None-clause-placed : goal.returns-in-None-clause-placed
returns-in-None-clause-placed c =
    let p = seen c.args.rows.now in
    let later = placed_in_subroutines p 0 p.subroutines in
    let rest = slice_get later (c.args.place - length p.total) in
    let taken : c.saturating_sub.result ≡ c.args.place - length p.total = search rules in
    c.in_subroutines.ensures.placed
    ∙ ap (slice_get later) taken
    ∙ ap (λ o. option_or o rest) (sym c.in-None.is ∙ c.in_section.ensures.placed)
    ∙ ap (λ is. option_or (slice_get (map (placed_in p Total) is) c.args.place) rest) c.deref.ensures.value
    ∙ sym (either (placed_in p Total) p.total later c.args.place)
