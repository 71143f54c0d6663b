use Rattle.std.proofs.Common.{◌∙◌, length, subst}
use Rattle.rpg_causes_flow.proofs.Bits.{reaching-suc}
use Rattle.rpg_causes_flow.specs.Index.{IsReaching}
use Rattle.rpg_causes_flow.proofs.cycles.reach_further.Goals as goal

pub returns-clause-reaching : goal.returns-clause-reaching
returns-clause-reaching c = λ steps is.
    let start = subst (λ n. IsReaching 0 c.args.calls.now c.args.first n c.reach_itself.new.words) c.requires.same (c.reach_itself.ensures c.args.calls.now) in
    reaching-suc steps c.args.calls.now c.args.first (length c.args.words.now) c.args.words.now c.reach_itself.new.words c.spread.new.next
    c.requires.below is start (c.spread.ensures.same ∙ start.each_has) c.spread.ensures.bits
