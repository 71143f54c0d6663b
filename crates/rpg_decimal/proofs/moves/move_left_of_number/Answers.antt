use Rattle.std.proofs.Common.{rules, unsigned_abs, if◌then◌else◌, ap, sym, ◌∙◌, to_z-of_z, FitsSigned, w64}
use Rattle.std.specs.Int.{is_negative}
use Rattle.std.proofs.lemmas.Bool.{lt-ltb}
use Rattle.rpg_decimal_words.specs.Move.{overlay_left}
use Rattle.rpg_decimal_words.specs.Place.{lowest_digits, signed_number}
use Rattle.rpg_decimal.proofs.WholeLemmas.{back_64}
use Rattle.rpg_decimal.proofs.MoveLemmas.{sign_is}
use Rattle.rpg_decimal.proofs.moves.move_left_of_number.Goals as goal

pub returns-then-source-before-clause-value : goal.returns-then-source-before-clause-value
returns-then-source-before-clause-value c =
    let s = c.args.source in
    let b = c.args.before in
    let ds = overlay_left (lowest_digits s.len (unsigned_abs s.value)) (lowest_digits b.len (unsigned_abs b.value)) in
    let fits : FitsSigned w64 b.value = search rules in
    back_64 c.under_sign_of.type_inv ∙ (rw (to_z-of_z fits, c.digits_moved_left-size.ensures.value) at c.under_sign_of.ensures.value)
    ∙ sign_is b.value ds ∙ sym (ap (λ t. signed_number (is_negative (if t then b.value else s.value)) ds) (lt-ltb s.len b.len c.if-source-before.true))
