use Rattle.std.proofs.Common.{Some, sym, ◌∙◌}
use Rattle.rpg_sheet_specs.specs.declared.spec.Spec.TheVariants as specs
use Rattle.rpg_sheet.proofs.Puts.{field_put}
use Rattle.rpg_sheet.proofs.output.read_output.Goals as goal

pub returns-then-is_field_card : goal.returns-then-is_field_card
returns-then-is_field_card c =
    c.read_field.ensures
    ∙ field_put (λ o. Some (specs.Output o)) c.args.card.now (sym c.is_and_card.ensures ∙ c.if-is_and_card.false) (sym c.is_or_card.ensures ∙ c.if-is_or_card.false) (sym c.is_field_card.ensures ∙ c.if-is_field_card.true)
