use Rattle.std.proofs.Common.{[], ◌∷◌, ◌++◌, ◌+◌, ◌∙◌, ap, not, sym, take}
use Rattle.std.specs.Prelude.{is_some}
use Rattle.rpg_cards.specs.Names.{definitions, is_new_name}
use Rattle.rpg_causes_operands.proofs.Options.{none_of}
use Rattle.rpg_causes_flow.proofs.Flowing.{defined_is}
use Rattle.rpg_causes_flow.proofs.LabelLemmas.{field_rule}
use Rattle.rpg_causes_flow.specs.Labels.{if_names_field}
use Rattle.rpg_causes_flow.proofs.labels.if_field.Goals as goal

pub returns-then-is_new_name-clause-rule : goal.returns-then-is_new_name-clause-rule
returns-then-is_new_name-clause-rule c =
    let new = sym (c.is_new_name.ensures ∙ ap (λ n. is_new_name c.args.name.now (take (n + c.definition_count.result) (definitions c.args.source.now))) c.from.ensures) ∙ c.if-is_new_name.true in
    sym (defined_is c.args.before.now c.args.card.now c.args.after.now c.args.flow.now c.requires.flow c.args.source.now c.definition_count.result c.args.name.now c.requires.split c.definition_count.ensures ∙ ap not new)

pub returns-then-is_new_name-clause-cause : goal.returns-then-is_new_name-clause-cause
returns-then-is_new_name-clause-cause c =
    let new = sym (c.is_new_name.ensures ∙ ap (λ n. is_new_name c.args.name.now (take (n + c.definition_count.result) (definitions c.args.source.now))) c.from.ensures) ∙ c.if-is_new_name.true in
    let cards = c.args.before.now ++ c.args.card.now ∷ [] in
    sym (none_of (if_names_field cards c.args.name.now)
    (field_rule c.args.name.now cards ∙ defined_is c.args.before.now c.args.card.now c.args.after.now c.args.flow.now c.requires.flow c.args.source.now c.definition_count.result c.args.name.now c.requires.split c.definition_count.ensures ∙ ap not new))

pub returns-clause-cause : goal.returns-clause-cause
returns-clause-cause c = c.of_field.ensures ∙ ap (λ cs. if_names_field cs c.args.name.now) c.up_to.ensures

pub returns-clause-rule : goal.returns-clause-rule
returns-clause-rule c =
    let same = c.of_field.ensures ∙ ap (λ cs. if_names_field cs c.args.name.now) c.up_to.ensures in
    ap is_some same ∙ field_rule c.args.name.now (c.args.before.now ++ c.args.card.now ∷ [])
