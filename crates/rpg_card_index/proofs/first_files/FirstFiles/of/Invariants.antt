use Rattle.std.proofs.Common.{◌≡◌, take}
use Rattle.rpg_card_index.specs.Index.{AreFirstFiles}
use Rattle.rpg_card_index.proofs.first_files.FirstFiles.of.Given as goal

abbrev pub invariant-loop-card : goal.invariant-loop-card
invariant-loop-card l = record {
  files : AreFirstFiles l.files (take l.card-index l.cards);
  place : l.place ≡ l.card-index;
}
