use Rattle.std.proofs.Common.{Ok, Err, ◌+◌, ◌^◌, ◌∙◌, sym, subst}
use Rattle.rpg_cycle.proofs.Composing.{same_program}
use Rattle.rpg_cycle.proofs.Spending.{of_same}
use Rattle.rpg_cycle.proofs.Staging.{can_do, ends_here, goes_free, continues, of_phase, stage_own, steps_few, still_few, still_free}
use Rattle.rpg_cycle.specs.Doing.{holding_kept, match_by}
use Rattle.rpg_cycle.specs.Phases as spec
use Rattle.rpg_cycle.specs.Spending.{fields_weight, section_cost}
use Rattle.rpg_cycle.specs.Staging.{DoesStage, KeepsSelected}
use Rattle.rpg_cycle_records.specs.Holding.{HoldsSelected, inputs_of}
use Rattle.rpg_program.specs.Object.{Object}
use Rattle.rpg_program.specs.declared.section.Section.TheVariants as sections
use Rattle.rpg_cycle.proofs.cycle.take_detail_time.Goals as goal

pub output_overflow-requires : goal.output_overflow-requires
output_overflow-requires g c = can_do c.requires.can

pub show_match-requires-clause-held : goal.show_match-requires-clause-held
show_match-requires-clause-held g c = subst (λ (o : Object). KeepsSelected o c.args.kept.now c.args.selected) (sym (same_program c.in_ok-output_overflow.ensures.goes)) c.requires.held

pub fill_fields-requires-clause-can : goal.fill_fields-requires-clause-can
fill_fields-requires-clause-can g c =
    let p = c.args.machine.now.program in
    let m = fields_weight p c.args.selected + section_cost p sections.Detail in
    let few = still_few m (2 ^ 59) c.in_ok-output_overflow.ensures.spends c.requires.can.few in
    let shown = of_same (λ (o : Object). 0) (same_program c.in_ok-output_overflow.ensures.goes) c.show_match.ensures.spends in
    record { ready = c.show_match.ensures.ready; few = steps_few p m c.show_match.new.machine (still_free m (2 ^ 59) shown few) }

pub fill_fields-requires-clause-held : goal.fill_fields-requires-clause-held
fill_fields-requires-clause-held g c =
    let same = c.show_match.ensures.goes.program ∙ same_program c.in_ok-output_overflow.ensures.goes in
    subst (λ (o : Object). HoldsSelected o c.args.kept.now c.args.selected) (sym same) c.requires.held.held

pub calculate_details-requires : goal.calculate_details-requires
calculate_details-requires g c =
    let p = c.args.machine.now.program in
    let t = c.args.selected in
    let n = section_cost p sections.Detail in
    let fields = c.in_ok-fill_fields.ensures (inputs_of c.args.kept.now) in
    let q1 = same_program c.in_ok-output_overflow.ensures.goes in
    let q2 = c.show_match.ensures.goes.program ∙ q1 in
    let few = still_few (fields_weight p t + n) (2 ^ 59) c.in_ok-output_overflow.ensures.spends c.requires.can.few in
    let shown = still_free (fields_weight p t + n) (2 ^ 59) (of_same (λ (o : Object). 0) q1 c.show_match.ensures.spends) few in
    record { ready = fields.ready; few = steps_few p n c.fill_fields.new.machine (still_few n (2 ^ 59) (of_same (λ (o : Object). fields_weight o t) q2 fields.spends) shown) }

pub returns-in_err-output_overflow : goal.returns-in_err-output_overflow
returns-in_err-output_overflow g c =
    let p = c.args.machine.now.program in
    let t = c.args.selected in
    ends_here (fields_weight p t + section_cost p sections.Detail) c.in_err-output_overflow.field-0.0 c.from_residual.result c.from_residual.ensures.1
    (of_phase (holding_kept p c.args.kept.now t) c.in_err-output_overflow.ensures)

pub returns-in_err-fill_fields : goal.returns-in_err-fill_fields
returns-in_err-fill_fields g c =
    let p = c.args.machine.now.program in
    let t = c.args.selected in
    let k = c.args.kept.now in
    let n = section_cost p sections.Detail in
    let b = c.show_match.new.machine in
    let s = c.in_err-fill_fields.field-0.0 in
    let lines = c.in_ok-output_overflow.ensures in
    let q1 = same_program lines.goes in
    let q2 = c.show_match.ensures.goes.program ∙ q1 in
    let shown = subst (λ (o : Object). DoesStage o (spec.show_match (match_by o k)) 0 (holding_kept o k t) c.output_overflow.new.machine (Ok tt) b) q1 c.show_match.ensures in
    let filled = subst (λ (o : Object). DoesStage o (spec.fill_fields o) (fields_weight o t) (holding_kept o k t) b (Err s) c.fill_fields.new.machine) q2 (c.in_err-fill_fields.ensures (inputs_of k)) in
    continues (fields_weight p t + n) (lines.goes.each (holding_kept p k t)) lines.spends lines.grows
    (goes_free (fields_weight p t + n) shown.goes shown.spends shown.grows
    (ends_here n s c.from_residual-in_err-fill_fields.result c.from_residual-in_err-fill_fields.ensures.1 filled))

pub returns : goal.returns
returns g c =
    let p = c.args.machine.now.program in
    let t = c.args.selected in
    let k = c.args.kept.now in
    let h = holding_kept p k t in
    let n = section_cost p sections.Detail in
    let b = c.show_match.new.machine in
    let lines = c.in_ok-output_overflow.ensures in
    let q1 = same_program lines.goes in
    let q2 = c.show_match.ensures.goes.program ∙ q1 in
    let shown = subst (λ (o : Object). DoesStage o (spec.show_match (match_by o k)) 0 (holding_kept o k t) c.output_overflow.new.machine (Ok tt) b) q1 c.show_match.ensures in
    let filled = subst (λ (o : Object). DoesStage o (spec.fill_fields o) (fields_weight o t) (holding_kept o k t) b (Ok tt) c.fill_fields.new.machine) q2 (c.in_ok-fill_fields.ensures (inputs_of k)) in
    continues (fields_weight p t + n) (lines.goes.each h) lines.spends lines.grows
    (goes_free (fields_weight p t + n) shown.goes shown.spends shown.grows
    (continues n filled.goes filled.spends filled.grows
    (stage_own spec.detail_calculations (λ (o : Object). section_cost o sections.Detail) (filled.goes.program ∙ q2) (of_phase h c.calculate_details.ensures))))
