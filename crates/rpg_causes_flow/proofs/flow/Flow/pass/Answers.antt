use Rattle.std.proofs.Common.{◌∷◌, ◌∙◌, ◌+◌, ap, arith}
use Rattle.rpg_cards.proofs.ItemLemmas.{few_definitions_on}
use Rattle.rpg_causes_flow.proofs.Flowing.{few, flow_with}
use Rattle.rpg_causes_flow.specs.Flow.{begun_after}
use Rattle.std.specs.Option.{option_or}
use Rattle.rpg_causes_flow.proofs.flow.Flow.pass.Goals as goal

pub begun_after-self-requires : goal.begun_after-self-requires
begun_after-self-requires c = let f = few c.args.before.now (c.args.card.now ∷ c.args.after.now) c.args.self.now c.requires.flow in let n = f.begun in omega arith

pub overflow_add-self : goal.overflow_add-self
overflow_add-self c =
    let f = few c.args.before.now (c.args.card.now ∷ c.args.after.now) c.args.self.now c.requires.flow in
    let n = f.definitions in
    let two = few_definitions_on c.args.card.now.spec in
    let is = c.definition_count.ensures in
    omega arith

pub returns : goal.returns
returns c =
    flow_with c.args.before.now c.args.card.now c.args.after.now c.args.self.now _ c.requires.flow
    c.level_with-self.ensures
    c.note_first.ensures
    c.note_first-2.ensures
    (c.note_last.ensures ∙ ap (λ b. option_or b c.args.self.now.bracket) c.bracket_on-bracket.ensures)
    (c.begun_after-self.ensures ∙ ap (begun_after c.args.self.now.begun) c.bracket_on-bracket.ensures)
    (ap (λ n. c.args.self.now.definitions + n) c.definition_count.ensures)
