use Rattle.std.proofs.Common.{◌≡◌, ◌<◌, ◌^◌, ◌++◌, unsigned_abs, List, ℕ, ap, ap₂, ◌∙◌, arith, pos, to_z-of_z}
use Rattle.std.proofs.lemmas.List.{append_assoc}
use Rattle.rpg_decimal_words.specs.Zoned.{zoned_text}
use Rattle.rpg_decimal.proofs.ZonedLemmas.{plus_back}
use Rattle.rpg_csv_values.specs.Contents.{minus_of, pointed}
use Rattle.rpg_csv_values.proofs.column.add_number.Goals as goal

pub returns : goal.returns
returns c =
    let n = c.args.number in
    let size : c.unsigned_abs.result ≡ unsigned_abs n = c.unsigned_abs.ensures.value ∙ ap unsigned_abs (to_z-of_z c.ranges.number) in
    let few : c.unsigned_abs.result < 10 ^ 15 = omega (arith, size, c.requires) in
    let text : c.write_zoned.new.text ≡ zoned_text 15 (pos (unsigned_abs n)) = c.write_zoned.ensures.text ∙ ap (zoned_text 15) (plus_back c.unsigned_abs.result few ∙ ap pos size) in
    let minus = c.in_ok-add_minus.ensures ∙ ap (λ m. c.args.out.now.items ++ minus_of m) (to_z-of_z c.ranges.number) in
    c.in_ok-add_pointed.ensures ∙ ap₂ (λ (a b : List ℕ). a ++ pointed c.args.decimals c.args.point b) minus text
    ∙ append_assoc c.args.out.now.items (minus_of n) (pointed c.args.decimals c.args.point (zoned_text 15 (pos (unsigned_abs n))))
