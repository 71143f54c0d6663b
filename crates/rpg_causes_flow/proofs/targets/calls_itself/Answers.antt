use Rattle.std.proofs.Common.{◌∙◌, [], ap, sym}
use Rattle.std.specs.List.{list_any}
use Rattle.std.specs.Option.{option_and_then}
use Rattle.std.specs.Prelude.{option_copied}
use Rattle.rpg_cards.specs.Calculations.{calculations}
use Rattle.rpg_cards.specs.Calls.{calls, calls_after}
use Rattle.rpg_cards.specs.Labels.{labels}
use Rattle.rpg_causes_flow.proofs.Listing.{call_at-is, call_known}
use Rattle.rpg_causes_flow.specs.Index.{calculation_call, same_call}
use Rattle.rpg_faults_flow.specs.Flow.{leads_back}
use Rattle.rpg_causes_flow.proofs.targets.calls_itself.Goals as goal

pub returns-in-None-call : goal.returns-in-None-call
returns-in-None-call c =
    let all = c.args.labels.now in
    let k = sym (ap option_copied c.in-Some.is) ∙ c.last_card.ensures in
    let call = sym c.in-None-call.is ∙ c.call.ensures ∙ ap (option_and_then (calculation_call c.args.flow.now (labels (calculations all)))) k in
    ap (leads_back (calls (calculations all))) (call ∙ sym (call_at-is c.args.before.now c.args.card.now c.args.after.now c.args.flow.now c.requires.flow (labels (calculations all))))

pub returns-in-Some-call : goal.returns-in-Some-call
returns-in-Some-call c =
    let all = c.args.labels.now in
    let before = c.args.before.now in
    let card = c.args.card.now in
    let after = c.args.after.now in
    let given = labels (calculations all) in
    let call = c.in-Some-call.call in
    let k = sym (ap option_copied c.in-Some.is) ∙ c.last_card.ensures in
    let is = sym c.in-Some-call.is ∙ c.call.ensures ∙ ap (option_and_then (calculation_call c.args.flow.now given)) k ∙ sym (call_at-is before card after c.args.flow.now c.requires.flow given) in
    let known = ap (λ cards. list_any (same_call call) (calls_after given [] (calculations cards))) c.requires.split ∙ call_known before card after given call (sym is) in
    c.leads_back.ensures known ∙ ap (leads_back (calls (calculations all))) is
