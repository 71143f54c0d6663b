use Rattle.std.proofs.Common.{◌≡◌, ap, ◌∙◌, sym, subst, unsigned_abs, length, to_z-of_z, false}
use Rattle.std.specs.Int.{is_negative}
use Rattle.rpg_decimal_words.specs.Zoned.{Spells, last_character}
use Rattle.rpg_decimal.proofs.ZonedLemmas.{Spells-zoned, written_minus, written_plus}
use Rattle.rpg_decimal.proofs.zoned.write_zoned.Goals as goal

pub returns-then-n-lt0-clause-text : goal.returns-then-n-lt0-clause-text
returns-then-n-lt0-clause-text c =
    let n_is = to_z-of_z c.ranges.n in
    let long : length c.write_digits.new.text ≡ length c.args.text.now = c.write_digits.auto.text in
    rw long (written_minus (length c.args.text.now) c.args.n c.unsigned_abs.result c.last_character.result c.write_digits.new.text c.requires.low
    (c.unsigned_abs.ensures.value ∙ ap unsigned_abs n_is) (c.last_character.ensures ∙ ap last_character n_is) c.write_digits.ensures)

pub returns-then-n-lt0-clause-spells : goal.returns-then-n-lt0-clause-spells
returns-then-n-lt0-clause-spells c =
    subst (λ t. Spells t c.args.n) (sym (returns-then-n-lt0-clause-text c)) (Spells-zoned _ c.args.n c.requires.low c.requires.fits)

pub returns-else-n-lt0-clause-text : goal.returns-else-n-lt0-clause-text
returns-else-n-lt0-clause-text c =
    let n_is = to_z-of_z c.ranges.n in
    let plus : is_negative c.args.n ≡ false = sym (ap is_negative n_is) ∙ c.if-n-lt0.false in
    written_plus (length c.args.text.now) c.args.n c.unsigned_abs.result c.write_digits.new.text c.requires.low
    (c.unsigned_abs.ensures.value ∙ ap unsigned_abs n_is) plus c.write_digits.ensures

pub returns-else-n-lt0-clause-spells : goal.returns-else-n-lt0-clause-spells
returns-else-n-lt0-clause-spells c =
    subst (λ t. Spells t c.args.n) (sym (returns-else-n-lt0-clause-text c)) (Spells-zoned _ c.args.n c.requires.low c.requires.fits)
