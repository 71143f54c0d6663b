use Rattle.std.proofs.Common.{arith}
use Rattle.rpg_card_index.proofs.FileLemmas.{files_more}
use Rattle.rpg_card_index.proofs.first_files.FirstFiles.of.Goals as goal

pub loop-card-preserved : goal.loop-card-preserved
loop-card-preserved c =
    let loop = c.loop-card in
    record {
      files = files_more c.args.cards.now loop.card-index loop.place c.card-item.result _ _ c.loop-card-test.true c.card-item.is loop.invariant.place loop.invariant.files c.in_ok-note.ensures;
      place = let is = loop.invariant.place in omega arith;
    }
