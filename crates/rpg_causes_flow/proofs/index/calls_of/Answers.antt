use Rattle.std.proofs.Common.{◌≡◌, ◌++◌, ◌∷◌, [], ◌∙◌, ap, append_assoc, refl, subst, sym}
use Rattle.std.specs.Option.{option_to_list}
use Rattle.rpg_cards.specs.Calculations.{calculations, calculations_before}
use Rattle.rpg_cards.specs.Calls.{calls_after}
use Rattle.rpg_cards.specs.Labels.{labels}
use Rattle.rpg_causes_flow.proofs.Listing.{call_at-is, calls_next, front_more}
use Rattle.rpg_causes_flow.proofs.Unlabelled.{calls_none}
use Rattle.rpg_causes_flow.specs.Flow.{IsFlow}
use Rattle.rpg_causes_flow.proofs.index.calls_of.Goals as goal

pub returns-then-has_none : goal.returns-then-has_none
returns-then-has_none c = c.new-calls.ensures.items ∙ sym (calls_none c.args.cards.now (c.has_none.ensures c.args.cards.now c.requires.index c.if-has_none.true))

pub loop-card-init : goal.loop-card-init
loop-card-init c = record { split = refl; flow = c.nothing-flow.ensures c.args.cards.now; calls = c.new-calls.ensures.items }

pub loop-card-preserved : goal.loop-card-preserved
loop-card-preserved c =
    let before = c.loop-card.before.now in
    let card = c.in-Some.card.now in
    let after = c.in-Some.after.now in
    let given = labels (calculations c.args.cards.now) in
    let here : c.args.cards.now ≡ before ++ card ∷ after = c.loop-card.invariant.split ∙ ap (λ rest. before ++ rest) c.in-Some.ensures.cases.0 in
    let front = front_more before card after c.args.cards.now here in
    let flow = subst (λ rest. IsFlow before rest c.loop-card.flow) c.in-Some.ensures.cases.0 c.loop-card.invariant.flow in
    let was : c.loop-card.calls.items ≡ calls_after given [] (calculations_before before (card ∷ after)) = c.loop-card.invariant.calls ∙ ap (λ rest. calls_after given [] (calculations_before before rest)) c.in-Some.ensures.cases.0 in
    record {
      split = here ∙ sym (append_assoc before (card ∷ []) after) ∙ ap (λ b. b ++ after) (sym front);
      flow = subst (λ b. IsFlow b after c.pass.new.self) (sym front) c.pass.ensures;
      calls =
          c.in_ok-add_call.ensures ∙ ap (λ l. l ++ option_to_list c.call_at.result) was
          ∙ ap (λ x. calls_after given [] (calculations_before before (card ∷ after)) ++ option_to_list x) (c.call_at.ensures c.args.cards.now c.requires.index ∙ sym (call_at-is before card after c.loop-card.flow flow given))
          ∙ sym (calls_next before card after given)
          ∙ ap (λ b. calls_after given [] (calculations_before b after)) (sym front);
    }
