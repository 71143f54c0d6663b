use Rattle.std.proofs.Common.{ℕ, Option, ◌+◌, ◌≤◌, ◌^◌, ◌∙◌, sym, subst}
use Rattle.rpg_cycle.proofs.AfterSelection.{by_left}
use Rattle.rpg_cycle.proofs.Composing.{ends, goes, memory_both, ok_of_err, passed_map, passed_memory, passed_stops, same_program}
use Rattle.rpg_cycle.proofs.Growing.{and_grows, and_same}
use Rattle.rpg_cycle.proofs.Spending.{and_less, and_then, at_no_cost, of_same, selected_few, selected_then}
use Rattle.rpg_cycle.proofs.Staging.{fewer, first_three, steps_low, still_few}
use Rattle.rpg_cycle.specs.Cycled.{KeepsWell}
use Rattle.rpg_cycle.specs.Doing.{DoesAlone, DoesHolding, holding_kept, match_by, unselected}
use Rattle.rpg_cycle.specs.Ends.{Continues}
use Rattle.rpg_cycle.specs.Phases as spec
use Rattle.rpg_cycle.specs.Selecting.{EndsSelecting, IsChosen}
use Rattle.rpg_cycle.specs.Spending.{Spends, SpendsSelecting, full_page_weight, reach, record_weight, section_cost, totals_weight}
use Rattle.rpg_cycle.specs.Stages.{job_end}
use Rattle.rpg_cycle.specs.Staging.{KeepsSelected, after_selection}
use Rattle.rpg_cycle_records.specs.Holding.{inputs_of, text_in}
use Rattle.rpg_cycle_records.specs.Keeping.{left_of}
use Rattle.rpg_program.specs.Weights.{types_weight}
use Rattle.rpg_program.specs.Object.{Object}
use Rattle.rpg_program.specs.declared.section.Section.TheVariants as sections
use Rattle.rpg_cycle.proofs.cycle.do_phases.Goals as goal

-- what the phases from the selection on weigh
abbrev rest_weight : Object → ℕ
rest_weight p = types_weight p.types + (totals_weight p + (full_page_weight p + section_cost p sections.Detail))

-- ---- what the calls require

pub select_record-requires-clause-few : goal.select_record-requires-clause-few
select_record-requires-clause-few g c =
    let p = c.args.machine.now.program in
    let q1 = same_program c.in_ok-output_details.ensures.goes in
    let s3 = at_no_cost c.in_ok-output_details.ensures.spends (of_same (λ (o : Object). 0) q1 c.set_off.ensures.spends) in
    steps_low p (rest_weight p) c.set_off.new.machine (still_few (rest_weight p) (2 ^ 48) s3 c.requires.few)

pub select_record-requires-clause-kept : goal.select_record-requires-clause-kept
select_record-requires-clause-kept g c =
    let q3 = same_program c.set_off.ensures.goes ∙ same_program c.in_ok-output_details.ensures.goes in
    subst (λ (o : Object). KeepsWell o c.args.kept.now) (sym (c.program-program.ensures ∙ q3)) c.requires.kept

pub follow_selection-requires-clause-can : goal.follow_selection-requires-clause-can
follow_selection-requires-clause-can g c =
    let p = c.args.machine.now.program in
    let q1 = same_program c.in_ok-output_details.ensures.goes in
    let q3 = same_program c.set_off.ensures.goes ∙ q1 in
    let q4 = c.in_ok-selected.ensures.chosen.goes.program ∙ q3 in
    let t = c.in_ok-selected.selected in
    let b = c.select_record.new.machine in
    let s3 = at_no_cost c.in_ok-output_details.ensures.spends (of_same (λ (o : Object). 0) q1 c.set_off.ensures.spends) in
    let s4 = subst (λ (o : Object). SpendsSelecting o t c.set_off.new.machine b) (c.program-program.ensures ∙ q3) c.in_ok-selected.ensures.chosen.spends in
    let few = selected_few (2 ^ 48) s4 (still_few (rest_weight p) (2 ^ 48) s3 c.requires.few) in
    record {
      ready = c.in_ok-selected.ensures.chosen.ready;
      few = subst (λ (o : Object). reach o b + record_weight o t ≤ 2 ^ 59) (sym q4) (fewer (reach p b + record_weight p t) few);
    }

pub follow_selection-requires-clause-held : goal.follow_selection-requires-clause-held
follow_selection-requires-clause-held g c =
    let chosen = c.in_ok-selected.ensures.chosen in
    subst (λ (o : Object). KeepsSelected o c.select_record.new.kept c.in_ok-selected.selected) (c.program-program.ensures ∙ sym c.in_ok-selected.ensures.chosen.goes.program)
    (record { kept = chosen.kept; held = chosen.held })

-- ---- where a phase ends the job

pub returns-in_err-output_details : goal.returns-in_err-output_details
returns-in_err-output_details g c =
    let h = unselected (inputs_of c.args.kept.now) in
    let x = c.in_err-output_details.ensures in
    let is = c.from_residual.ensures.1 in
    record {
      goes = ok_of_err c.from_residual.result _ _ is;
      stops = passed_map (Unit {0}) _ c.from_residual.result c.in_err-output_details.field-0.0 _ _ (λ e d. (h, ends e (d.each h))) is x.stops;
      spends = passed_memory (Unit {0}) _ c.from_residual.result c.in_err-output_details.field-0.0 _ _ (λ s. and_less (rest_weight c.args.machine.now.program) s) is x.spends;
      grows = x.grows;
    }

pub returns-in_err-halt_if_indicated : goal.returns-in_err-halt_if_indicated
returns-in_err-halt_if_indicated g c =
    let h = unselected (inputs_of c.args.kept.now) in
    let r = c.from_residual-in_err-halt_if_indicated.result in
    let is = c.from_residual-in_err-halt_if_indicated.ensures.1 in
    let lines = c.in_ok-output_details.ensures in
    record {
      goes = ok_of_err r _ _ is;
      stops = passed_map (Unit {0}) _ r c.in_err-halt_if_indicated.field-0.0 _ _ (λ e d. (h, goes (lines.goes.each h) (ends e (d.each h)))) is c.in_err-halt_if_indicated.ensures.stops;
      spends = memory_both r _ (and_less (rest_weight c.args.machine.now.program) lines.spends);
      grows = lines.grows;
    }

pub returns-in_err-selected : goal.returns-in_err-selected
returns-in_err-selected g c =
    let p = c.args.machine.now.program in
    let k = c.args.kept.now in
    let h = unselected (inputs_of k) in
    let d = c.set_off.new.machine in
    let b = c.select_record.new.machine in
    let lines = c.in_ok-output_details.ensures in
    let q1 = same_program lines.goes in
    let same = c.program-program.ensures ∙ same_program c.set_off.ensures.goes ∙ q1 in
    let off = subst (λ (o : Object). DoesAlone (spec.set_off o) c.output_details.new.machine Continues d) q1 c.set_off.ensures.goes in
    let s3 = at_no_cost lines.spends (of_same (λ (o : Object). 0) q1 c.set_off.ensures.spends) in
    let r = c.from_residual-in_err-selected.result in
    let is = c.from_residual-in_err-selected.ensures.1 in
    record {
      goes = ok_of_err r _ _ is;
      stops = passed_map (Option ℕ) _ r c.in_err-selected.field-0.0 _ _
          (λ e d. let x = subst (λ (o : Object). EndsSelecting o k c.args.primary c.args.secondary c.set_off.new.machine (job_end e) b) same d in
          (unselected x.inputs, first_three p h lines.goes c.in_ok-halt_if_indicated.ensures.goes off (ends e x.does)))
          is c.in_err-selected.ensures.stops;
      spends = passed_stops (Option ℕ) _ r c.in_err-selected.field-0.0 _ _
          (λ e x. and_then s3 (and_less (totals_weight p + (full_page_weight p + section_cost p sections.Detail)) (subst (λ (o : Object). Spends o (types_weight o.types) d b) same x.spends)))
          is c.in_err-selected.ensures.stops;
      grows = and_same (and_grows lines.grows c.set_off.ensures.grows) c.in_err-selected.ensures.output;
    }

pub returns-in_err-follow_selection : goal.returns-in_err-follow_selection
returns-in_err-follow_selection g c =
    let p = c.args.machine.now.program in
    let k = c.args.kept.now in
    let now = c.select_record.new.kept in
    let t = c.in_ok-selected.selected in
    let h = unselected (inputs_of k) in
    let d = c.set_off.new.machine in
    let b = c.select_record.new.machine in
    let lines = c.in_ok-output_details.ensures in
    let q1 = same_program lines.goes in
    let q3 = same_program c.set_off.ensures.goes ∙ q1 in
    let same = c.program-program.ensures ∙ q3 in
    let q4 = c.in_ok-selected.ensures.chosen.goes.program ∙ q3 in
    let off = subst (λ (o : Object). DoesAlone (spec.set_off o) c.output_details.new.machine Continues d) q1 c.set_off.ensures.goes in
    let chosen = subst (λ (o : Object). IsChosen o k c.args.primary c.args.secondary d t now b) same c.in_ok-selected.ensures.chosen in
    let s3 = at_no_cost lines.spends (of_same (λ (o : Object). 0) q1 c.set_off.ensures.spends) in
    let x = c.in_err-follow_selection.ensures in
    let s = c.in_err-follow_selection.field-0.0 in
    let r = c.from_residual-in_err-follow_selection.result in
    let is = c.from_residual-in_err-follow_selection.ensures.1 in
    record {
      goes = ok_of_err r _ _ is;
      stops = passed_map (Unit {0}) _ r s _ _
          (λ e d.
          let y = subst (λ (o : Object). DoesHolding (after_selection o (left_of now) (match_by o now)) (holding_kept o now t) b (job_end e) c.follow_selection.new.machine) q4 d in (
            holding_kept p now t,
            first_three p h lines.goes c.in_ok-halt_if_indicated.ensures.goes off
                (goes chosen.goes (by_left p t (text_in p now t) (inputs_of now) (left_of now) (left_of k) b c.follow_selection.new.machine (job_end e) (holding_kept p now t) chosen.left y)),
          ))
          is x.stops;
      spends = passed_memory (Unit {0}) _ r s _ _ (λ z. and_then s3 (selected_then chosen.spends (of_same (λ (o : Object). record_weight o t) q4 z))) is x.spends;
      grows = and_grows (and_same (and_grows lines.grows c.set_off.ensures.grows) c.in_ok-selected.ensures.output) x.grows;
    }

-- ---- where all of them continue

pub returns : goal.returns
returns g c =
    let p = c.args.machine.now.program in
    let k = c.args.kept.now in
    let now = c.select_record.new.kept in
    let t = c.in_ok-selected.selected in
    let h = unselected (inputs_of k) in
    let d = c.set_off.new.machine in
    let b = c.select_record.new.machine in
    let lines = c.in_ok-output_details.ensures in
    let q1 = same_program lines.goes in
    let q3 = same_program c.set_off.ensures.goes ∙ q1 in
    let same = c.program-program.ensures ∙ q3 in
    let q4 = c.in_ok-selected.ensures.chosen.goes.program ∙ q3 in
    let off = subst (λ (o : Object). DoesAlone (spec.set_off o) c.output_details.new.machine Continues d) q1 c.set_off.ensures.goes in
    let chosen = subst (λ (o : Object). IsChosen o k c.args.primary c.args.secondary d t now b) same c.in_ok-selected.ensures.chosen in
    let s3 = at_no_cost lines.spends (of_same (λ (o : Object). 0) q1 c.set_off.ensures.spends) in
    let x = c.in_ok-follow_selection.ensures in
    let rest = subst (λ (o : Object). DoesHolding (after_selection o (left_of now) (match_by o now)) (holding_kept o now t) b Continues c.follow_selection.new.machine) q4 x.goes in
    record {
      goes = record {
        goes = first_three p h lines.goes c.in_ok-halt_if_indicated.ensures.goes off
            (goes chosen.goes (by_left p t (text_in p now t) (inputs_of now) (left_of now) (left_of k) b c.follow_selection.new.machine Continues (holding_kept p now t) chosen.left rest));
        ready = x.ready;
        there = λ n e. (chosen.held n e).there;
        left = chosen.left;
        kept = chosen.kept;
      };
      stops = tt;
      spends = and_then s3 (selected_then chosen.spends (of_same (λ (o : Object). record_weight o t) q4 x.spends));
      grows = and_grows (and_same (and_grows lines.grows c.set_off.ensures.grows) c.in_ok-selected.ensures.output) x.grows;
    }
