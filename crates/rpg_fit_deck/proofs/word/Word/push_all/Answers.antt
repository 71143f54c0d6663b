use Rattle.std.proofs.Common.{◌++◌, ap, append_assoc, refl, arith}
use Rattle.rpg_fit_deck.specs.Words.{room_of, word_text}
use Rattle.rpg_fit_deck.proofs.Texts.{room_step}
use Rattle.rpg_fit_deck.proofs.word.Word.push_all.Goals as goal

pub loop-character-preserved : goal.loop-character-preserved
loop-character-preserved c =
    let first = word_text c.args.self.now in
    let room = room_of c.args.self.now in
    let k = c.loop-character.character-index in
    let step = room_step room k _ c.args.text.now (omega arith) refl in
    (rw (c.push.ensures.text, c.loop-character.invariant.0, append_assoc, c.loop-character.invariant.1) (ap (λ zs. first ++ zs) step), omega arith)
