use Rattle.std.proofs.Common.{Err, ◌+◌, ◌≤◌, ◌^◌, sym, subst}
use Rattle.rpg_cycle.proofs.Composing.{same_program, stops_map}
use Rattle.rpg_cycle.proofs.Staging.{can_less, ends_free, ends_here, goes_free, continues, of_phase, of_test, still_few, unspent}
use Rattle.rpg_cycle.specs.Doing.{holding_kept, match_by}
use Rattle.rpg_cycle.specs.Spending.{detail_time_weight, reach, record_weight}
use Rattle.rpg_cycle.specs.Staging.{DoesStage, KeepsSelected, detail_time}
use Rattle.rpg_cycle_records.specs.Holding.{inputs_of, text_in}
use Rattle.rpg_program.proofs.Fronts.{grows_not}
use Rattle.rpg_program.specs.Object.{Object}
use Rattle.rpg_cycle.proofs.cycle.follow_selection.Goals as goal

pub take_total_time-requires : goal.take_total_time-requires
take_total_time-requires g c = can_less (record_weight c.args.machine.now.program c.args.selected) c.requires.can

pub take_detail_time-requires-clause-can : goal.take_detail_time-requires-clause-can
take_detail_time-requires-clause-can g c =
    let p = c.args.machine.now.program in
    let b = c.take_total_time.new.machine in
    let totals = c.in_ok-take_total_time.ensures in
    record {
      ready = totals.ready;
      few = subst (λ (o : Object). reach o b + detail_time_weight o c.args.selected ≤ 2 ^ 59) (sym (same_program totals.goes))
          (still_few (detail_time_weight p c.args.selected) (2 ^ 59) totals.spends c.requires.can.few);
    }

pub take_detail_time-requires-clause-held : goal.take_detail_time-requires-clause-held
take_detail_time-requires-clause-held g c = subst (λ (o : Object). KeepsSelected o c.args.kept.now c.args.selected) (sym (same_program c.in_ok-take_total_time.ensures.goes)) c.requires.held

pub returns-in_err-take_total_time : goal.returns-in_err-take_total_time
returns-in_err-take_total_time g c =
    let p = c.args.machine.now.program in
    let t = c.args.selected in
    ends_here (detail_time_weight p t) c.in_err-take_total_time.field-0.0 c.from_residual.result c.from_residual.ensures.1 (of_phase (holding_kept p c.args.kept.now t) c.in_err-take_total_time.ensures)

pub returns-in_err-end_where_last : goal.returns-in_err-end_where_last
returns-in_err-end_where_last g c =
    let p = c.args.machine.now.program in
    let t = c.args.selected in
    let k = c.args.kept.now in
    let h = holding_kept p k t in
    let totals = c.in_ok-take_total_time.ensures in
    let s = c.in_err-end_where_last.field-0.0 in
    continues (detail_time_weight p t) (totals.goes.each h) totals.spends totals.grows
    (ends_free (detail_time_weight p t) s c.from_residual-in_err-end_where_last.result c.from_residual-in_err-end_where_last.ensures.1
    (of_test h s (stops_map {A = Unit {0}} (Err s) _ _ (λ e d. d (text_in p k t) (inputs_of k)) c.in_err-end_where_last.ensures.stops)))

pub returns : goal.returns
returns g c =
    let p = c.args.machine.now.program in
    let t = c.args.selected in
    let k = c.args.kept.now in
    let h = holding_kept p k t in
    let b = c.take_total_time.new.machine in
    let totals = c.in_ok-take_total_time.ensures in
    let rest = subst (λ (o : Object). DoesStage o (detail_time o (match_by o k)) (detail_time_weight o t) (holding_kept o k t) b c.take_detail_time.result c.take_detail_time.new.machine)
    (same_program totals.goes) c.take_detail_time.ensures in
    continues (detail_time_weight p t) (totals.goes.each h) totals.spends totals.grows
    (goes_free (detail_time_weight p t) (c.in_ok-end_where_last.ensures.goes (text_in p k t) (inputs_of k)) (unspent p b) (grows_not b.output) rest)
