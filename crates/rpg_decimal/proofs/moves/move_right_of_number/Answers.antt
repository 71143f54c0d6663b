use Rattle.std.proofs.Common.{rules, unsigned_abs, ◌∙◌, to_z-of_z, FitsSigned, w64}
use Rattle.rpg_decimal_words.specs.Move.{overlay_right}
use Rattle.rpg_decimal_words.specs.Place.{lowest_digits}
use Rattle.rpg_decimal.proofs.WholeLemmas.{back_64}
use Rattle.rpg_decimal.proofs.MoveLemmas.{sign_is}
use Rattle.rpg_decimal.proofs.moves.move_right_of_number.Goals as goal

pub returns-clause-value : goal.returns-clause-value
returns-clause-value c =
    let s = c.args.source in
    let b = c.args.before in
    let fits : FitsSigned w64 s.value = search rules in
    back_64 c.under_sign_of.type_inv ∙ (rw (to_z-of_z fits, c.digits_moved_right.ensures.value) at c.under_sign_of.ensures.value)
    ∙ sign_is s.value (overlay_right (lowest_digits s.len (unsigned_abs s.value)) (lowest_digits b.len (unsigned_abs b.value)))
