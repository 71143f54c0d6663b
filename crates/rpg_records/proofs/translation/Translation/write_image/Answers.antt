use Rattle.std.proofs.Common.{◌≡◌, length, sym, ◌∙◌, arith}
use Rattle.std.proofs.lemmas.List.{ext_get_or}
use Rattle.rpg_records.specs.Columns.{image}
use Rattle.rpg_records.proofs.Images.{length-image, get_or-image}
use Rattle.rpg_records.proofs.translation.Translation.write_image.Goals as goal

pub returns-clause-image : goal.returns-clause-image
returns-clause-image c =
    let text = c.loop-i.text in
    let kinds = c.args.columns.now in
    let bytes = c.args.bytes.now in
    let page = c.args.self.now.page in
    let low = c.args.self.now.low_blank in
    let long : length text ≡ length kinds = c.loop-i.invariant.long in
    let same : length kinds ≡ length bytes = c.requires.columns ∙ sym c.requires.bytes in
    let past = c.loop-i-test.false in
    ext_get_or 0 text (image page low kinds bytes) (long ∙ same ∙ sym (length-image page low kinds bytes same))
    (λ k h. c.loop-i.invariant.done k (omega (arith, past, long, h)) ∙ sym (get_or-image page low kinds bytes k (omega (arith, long, h)) (omega (arith, long, same, h))))
