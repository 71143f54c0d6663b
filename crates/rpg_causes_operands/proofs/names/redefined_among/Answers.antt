use Rattle.std.proofs.Common.{◌∙◌, sym}
use Rattle.rpg_cards.specs.Names.{definitions}
use Rattle.rpg_causes_operands.proofs.Options.{none_of}
use Rattle.rpg_causes_operands.proofs.NameLemmas.{one_kept, one_less}
use Rattle.rpg_causes_operands.proofs.NewNames.{new_keeps, new_none}
use Rattle.rpg_causes_operands.proofs.names.redefined_among.Goals as goal

pub loop-i-preserved-then-is_first_name : goal.loop-i-preserved-then-is_first_name
loop-i-preserved-then-is_first_name c =
    let source = c.args.source.now in
    let all = definitions source in
    let items = c.args.items.now in
    let place = c.args.place in
    let stand = c.requires.stand in
    let i = c.loop-i.i in
    let d = c.index-items-i.result in
    let new = c.is_first_name.result in
    let within = c.loop-i-test.true in
    let here = c.index-items-i.is in
    let none = new_none source all items place i d new stand within here c.is_first_name.ensures c.if-is_first_name.true in
    let kept = new_keeps all items place i d new stand within here c.is_first_name.ensures c.if-is_first_name.true in (
      sym (one_less source all stand.0 items stand.1 place stand.2 stand.3 i d within here none) ∙ c.loop-i.invariant.0,
      sym (one_kept all stand.0 items stand.1 place stand.2 stand.3 i d within here kept) ∙ c.loop-i.invariant.1,
    )

pub loop-i-preserved : goal.loop-i-preserved
loop-i-preserved c =
    let all = definitions c.args.source.now in
    let items = c.args.items.now in
    let place = c.args.place in
    let stand = c.requires.stand in
    let d = c.index-items-i.result in
    let no = sym c.is_some.ensures ∙ c.if-is_some.false in
    let none = sym c.redefined_by-found.ensures.cause ∙ none_of c.redefined_by-found.result no in
    let kept = sym c.redefined_by-found.ensures.rule ∙ no in (
      sym (one_less c.args.source.now all stand.0 items stand.1 place stand.2 stand.3 c.loop-i.i d c.loop-i-test.true c.index-items-i.is none) ∙ c.loop-i.invariant.0,
      sym (one_kept all stand.0 items stand.1 place stand.2 stand.3 c.loop-i.i d c.loop-i-test.true c.index-items-i.is kept) ∙ c.loop-i.invariant.1,
    )
