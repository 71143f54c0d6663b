use Rattle.std.proofs.Common.{◌∙◌, Option, ap, sym}
use Rattle.std.specs.Prelude.{false}
use Rattle.std.specs.Option.{option_map_or, option_or}
use Rattle.rpg_causes_operands.proofs.Tests.{some_of_four}
use Rattle.rpg_causes_operands.specs.declared.indexes.IndexCause.{IndexCause}
use Rattle.rpg_faults_operands.proofs.Listed.{any_listed}
use Rattle.rpg_faults_operands.specs.Indexes.{bad_index_of}
use Rattle.rpg_faults_operands.specs.Operands.{Operand, operands_ending, output_operand_on}
use Rattle.rpg_sheet_specs.specs.declared.indicator.Three.{Three}
use Rattle.rpg_causes_operands.proofs.indexes.index_cause.Goals as goal

pub returns-clause-rule : goal.returns-clause-rule
returns-clause-rule c =
    let cards = c.args.source.now in
    let card = c.args.card.now in
    let is = c.operands_ending-operands.ensures in
    some_of_four c.of_operand.result c.of_operand-2.result c.of_operand-3.result c.of_operand-4.result c.or-3.result _ _ _ _
    (c.or-3.ensures ∙ ap (λ (x : Option IndexCause). option_or x c.of_operand-4.result) (c.or-2.ensures ∙ ap (λ (x : Option IndexCause). option_or x c.of_operand-3.result) c.or.ensures))
    (c.of_operand.ensures.rule ∙ ap (λ (t : Three (Option Operand)). option_map_or (bad_index_of cards) t.first false) is)
    (c.of_operand-2.ensures.rule ∙ ap (λ (t : Three (Option Operand)). option_map_or (bad_index_of cards) t.second false) is)
    (c.of_operand-3.ensures.rule ∙ ap (λ (t : Three (Option Operand)). option_map_or (bad_index_of cards) t.third false) is)
    (c.of_operand-4.ensures.rule ∙ ap (λ (o : Option Operand). option_map_or (bad_index_of cards) o false) c.output_operand.ensures)
    ∙ sym (any_listed (bad_index_of cards) (operands_ending card c.args.after.now) (output_operand_on card))
