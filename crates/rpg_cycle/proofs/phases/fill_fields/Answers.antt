use Rattle.std.proofs.Common.{List, Option, Some, ℕ, ◌<◌, length, ap, sym, subst, ◌∙◌}
use Rattle.rpg_machine.specs.Outputs.{FillsFields}
use Rattle.rpg_machine.specs.Running.{Did}
use Rattle.rpg_cycle.proofs.Composing.{memory_both, ok_map, stops_map}
use Rattle.rpg_cycle.proofs.Growing.{did_grow}
use Rattle.rpg_cycle.proofs.Machining.{filled, nothing_filled}
use Rattle.rpg_cycle.proofs.Spending.{costs_none, fields_spend}
use Rattle.rpg_cycle_records.specs.Holding.{text_in}
use Rattle.rpg_cycle.specs.Ends.{Continues, phase_end}
use Rattle.rpg_cycle.specs.Spending.{Spends, fields_weight}
use Rattle.rpg_cycle.specs.Stages.{job_end}
use Rattle.rpg_program.proofs.Fronts.{grows_not}
use Rattle.rpg_program.specs.Ends as effects
use Rattle.rpg_program.specs.Object.{Object}
use Rattle.rpg_program.specs.declared.outcome.End as answers
use Rattle.rpg_cycle.proofs.phases.fill_fields.Goals as goal

pub text-text-requires : goal.text-text-requires
text-text-requires g c =
    subst (λ (q : Object). c.in-Some.row < length q.types) (sym c.program.ensures) (c.requires.held c.in-Some.row c.in-Some.is).there

pub returns-in-None : goal.returns-in-None
returns-in-None g c =
    let a = c.args.machine.now in
    let t = c.args.selected in
    λ i. record {
      goes = nothing_filled a.program i t (text_in a.program c.args.kept.now t) a c.in-None.is;
      stops = tt;
      ready = c.requires.can.ready;
      spends = costs_none a.program (fields_weight a.program t) a;
      grows = grows_not a.output;
    }

pub returns-in-Some : goal.returns-in-Some
returns-in-Some g c =
    let a = c.args.machine.now in
    let b = c.fill_fields-end.new.self in
    let p = a.program in
    let t = c.in-Some.row in
    let last = c.fill_fields-end.result in
    let full = text_in p c.args.kept.now c.args.selected in
    let same = c.text-text.ensures ∙ ap (λ (q : Object). text_in q c.args.kept.now (Some t)) c.program.ensures ∙ ap (text_in p c.args.kept.now) (sym c.in-Some.is) in
    let did = subst (λ (z : List ℕ). Did (FillsFields p t z) a (effects.end_of last) b) same c.fill_fields-end.ensures.done in
    λ i. record {
      goes = ok_map c.go_on.result _ _
          (λ x h. filled i c.args.selected t full a b _ Continues c.in-Some.is (ap (λ (x : answers.End). phase_end (effects.end_of x)) h) did) c.go_on.ensures.goes;
      stops = stops_map c.go_on.result _ _ (λ e h. filled i c.args.selected t full a b _ (job_end e) c.in-Some.is h did) c.go_on.ensures.stops;
      ready = ok_map c.go_on.result _ _ (λ x h. c.fill_fields-end.ensures.ready h) c.go_on.ensures.goes;
      spends = memory_both c.go_on.result _
          (subst (λ (o : Option ℕ). Spends p (fields_weight p o) a b) (sym c.in-Some.is) (fields_spend t c.text-text.result.now _ a b c.fill_fields-end.ensures.done));
      grows = did_grow c.fill_fields-end.ensures.done;
    }
