use Rattle.std.proofs.Common.{◌<◌, ◌≤◌, List, length, ap, refl, ◌∙◌, arith}
use Rattle.rpg_fit_deck.proofs.Replacing.{deck_with, end_changed, here_changed, on_ok, past_from, places}
use Rattle.rpg_fit_deck.specs.declared.slot.Made.{Made}
use Rattle.rpg_fit_deck.proofs.editor.Editor.set.Goals as goal

pub returns-in-Some-clause-deck : goal.returns-in-Some-clause-deck
returns-in-Some-clause-deck c =
    let editor = c.args.self.now in
    let slots = editor.slots.items in
    let within : c.args.at.slot < length slots = omega (arith, c.in-Some.ensures.variant.0 refl, editor.slots.ok.0) in
    on_ok c.set.result
    (λ made. here_changed c.args.here c.args.at c.args.with editor.rule slots editor.end.items c.in-Some.slot.now c.set.new.self within c.in-Some.ensures.value made)
    c.set.ensures

pub returns-in-None-clause-deck : goal.returns-in-None-clause-deck
returns-in-None-clause-deck c =
    let editor = c.args.self.now in
    let slots = editor.slots.items in
    let past : length slots ≤ c.args.at.slot = past_from c.args.at.slot (length slots) (λ h. c.in-None.ensures.variant.1 (omega (arith, h, editor.slots.ok.0))) in
    ap (λ (made : List Made). deck_with editor.rule made (places slots)) c.set_made.ensures
    ∙ end_changed c.args.here c.args.at c.args.with editor.rule slots editor.end.items past
