use Rattle.std.proofs.lemmas.Bool.{OnTrue_at, OnTrue_from}
use Rattle.rpg_faults_operands.proofs.ValidLemmas.{on_card}
use Rattle.rpg_faults_operands.proofs.valid.has_valid_operands.Goals as goal

pub returns-then-is_valid_ending : goal.returns-then-is_valid_ending
returns-then-is_valid_ending c =
    OnTrue_from c.is_valid_output.result _
    (λ t. on_card c.args.source.now c.args.card.now c.args.after.now (OnTrue_at c.if-is_valid_ending.true c.is_valid_ending.ensures) (OnTrue_at t c.is_valid_output.ensures.operand) (OnTrue_at t c.is_valid_output.ensures.kind))
