use Rattle.std.proofs.Common.{◌≡◌, ℕ, ◌-◌, ◌<◌, ◌≤◌, length, ap, refl, ◌∙◌, arith}
use Rattle.rpg_fit_deck.proofs.Replacing.{deck_with, on_ok, past_from, places, slot_changed, slots_past}
use Rattle.rpg_fit_deck.specs.Changing.{changed_at, with_remark}
use Rattle.rpg_fit_deck.proofs.editor.Editor.add.Goals as goal

pub returns-in-Some-clause-deck : goal.returns-in-Some-clause-deck
returns-in-Some-clause-deck c =
    let editor = c.args.self.now in
    let slots = editor.slots.items in
    let i = c.saturating_sub.result in
    let same : i ≡ c.args.card - 1 = c.saturating_sub.ensures in
    let within : i < length slots = omega (arith, c.in-Some.ensures.variant.0 refl, editor.slots.ok.0) in
    on_ok c.report.result
    (λ made. ap (deck_with editor.rule editor.end.items)
    (slot_changed (with_remark c.args.remark) slots i c.in-Some.slot.now c.report.new.self within c.in-Some.ensures.value made
    ∙ ap (λ (k : ℕ). changed_at (with_remark c.args.remark) k (places slots)) same))
    c.report.ensures

pub returns-in-None-clause-deck : goal.returns-in-None-clause-deck
returns-in-None-clause-deck c =
    let editor = c.args.self.now in
    let slots = editor.slots.items in
    let i = c.saturating_sub.result in
    let same : i ≡ c.args.card - 1 = c.saturating_sub.ensures in
    let past : length slots ≤ i = past_from i (length slots) (λ h. c.in-None.ensures.variant.1 (omega (arith, h, editor.slots.ok.0))) in
    ap (deck_with editor.rule editor.end.items) (slots_past (with_remark c.args.remark) slots i past ∙ ap (λ (k : ℕ). changed_at (with_remark c.args.remark) k (places slots)) same)
