use Rattle.std.proofs.Common.{ap, subst, sym, ◌∙◌}
use Rattle.rpg_program.specs.Object.{Object}
use Rattle.rpg_cycle.proofs.Growing.{does_grow}
use Rattle.rpg_cycle.proofs.Spending.{turns_free}
use Rattle.rpg_cycle.proofs.Turning.{shows}
use Rattle.rpg_cycle.specs.Doing.{holding_kept, match_by, selected_has_match}
use Rattle.rpg_cycle.specs.Indicators.{matching_record}
use Rattle.rpg_cycle.specs.Staging.{KeepsSelected}
use Rattle.rpg_cycle.proofs.phases.show_match.Goals as goal

pub finds_match_of-is_found-requires : goal.finds_match_of-is_found-requires
finds_match_of-is_found-requires g c = subst (λ (o : Object). KeepsSelected o c.args.kept.now c.args.selected) (sym c.program-program.ensures) c.requires.held

pub returns : goal.returns
returns g c =
    let a = c.args.machine.now in
    let b = c.set_indicator.new.self in
    let kept = c.args.kept.now in
    let found = c.finds_match_of-is_found.result in
    let shown = shows (match_by a.program kept) found a b (holding_kept a.program kept c.args.selected)
    (c.finds_match_of-is_found.ensures ∙ ap (λ (q : Object). selected_has_match q kept c.args.selected) c.program-program.ensures) c.set_indicator.ensures.set in
    record {
      goes = shown;
      stops = tt;
      ready = c.set_indicator.ensures.ready c.requires.ready;
      spends = turns_free a.program matching_record found a b c.set_indicator.ensures.set;
      grows = does_grow shown;
    }
