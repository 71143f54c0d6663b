use Rattle.std.proofs.Common.{◌∙◌, Some, ap, sym}
use Rattle.rpg_faults_places.proofs.TypeLemmas.{field_with_level, field_without_level}
use Rattle.rpg_faults_places.proofs.lengths.with_field.Goals as goal

pub returns-in-Some : goal.returns-in-Some
returns-in-Some c = λ specs was.
    field_with_level c.args.field.now c.in_ok-lengths.lengths specs (sym c.in_ok-lengths.was ∙ was) c.number.result c.columns_of.result c.saturating_add.result
    (c.in-Some.is ∙ ap (λ n. Some n) (sym c.number.ensures.value)) c.number.ensures.first c.number.ensures.last c.columns_of.ensures c.saturating_add.ensures

pub returns-in_default : goal.returns-in_default
returns-in_default c = λ specs was. field_without_level c.args.field.now c.in_ok-lengths.lengths specs (sym c.in_ok-lengths.was ∙ was) c.in_default.is
