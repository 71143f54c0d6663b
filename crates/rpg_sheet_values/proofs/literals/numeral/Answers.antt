use Rattle.std.proofs.Common.{ℕ, ◌+◌, length, sym, ◌∙◌, ap, arith, FitsSigned, to_z-of_z, w64, rules}
use Rattle.std.specs.Str.Parse.{digits_value_after}
use Rattle.rpg_sheet_specs.specs.Values.{with_sign}
use Rattle.rpg_sheet_values.proofs.Digits.{has_room, nothing_has_room, both_fit, ten_digits_fit, digits_value_after-append, when_some}
use Rattle.rpg_sheet_values.proofs.LiteralLemmas.{size_of_sign, numeral_is}
use Rattle.rpg_sheet_values.proofs.literals.numeral.Goals as goal

pub number_after-requires-clause-room : goal.number_after-requires-clause-room
number_after-requires-clause-room c = nothing_has_room _

pub number_after-requires-2-clause-room : goal.number_after-requires-2-clause-room
number_after-requires-2-clause-room c =
    let first = when_some _ _ _ (sym c.number_after.ensures ∙ c.in_ok-first.was) in
    rw (sym first.1) (has_room c.args.whole.now (length c.args.following.now) first.0 c.requires.short)

pub with_sign-requires : goal.with_sign-requires
with_sign-requires c =
    let whole = c.args.whole.now in
    let following = c.args.following.now in
    let first = when_some _ _ _ (sym c.number_after.ensures ∙ c.in_ok-first.was) in
    let size = when_some _ _ _ (sym c.number_after-2.ensures ∙ c.in_ok-size.was) in
    let below = ten_digits_fit (length whole + length following) _ c.requires.short (both_fit whole following first.0 size.0) in
    rw (sym size.1, sym first.1, sym (digits_value_after-append whole following 0)) below

pub new-requires : goal.new-requires
new-requires c =
    let whole = c.args.whole.now in
    let following = c.args.following.now in
    let first = when_some _ _ _ (sym c.number_after.ensures ∙ c.in_ok-first.was) in
    let size = when_some _ _ _ (sym c.number_after-2.ensures ∙ c.in_ok-size.was) in
    let fits : FitsSigned w64 c.with_sign.result = search rules in
    let short = c.requires.short in
    let point = c.requires.point in
    record {
      has_digits = omega arith;
      has_columns = short;
      after_point = omega arith;
      has_point = point;
      fits = rw (to_z-of_z fits, c.with_sign.ensures, size_of_sign c.args.minus c.in_ok-size.size, sym size.1, sym first.1, sym (digits_value_after-append whole following 0)) (both_fit whole following first.0 size.0);
    }

pub returns : goal.returns
returns c =
    let fits : FitsSigned w64 c.with_sign.result = search rules in
    let whole = c.args.whole.now in
    let following = c.args.following.now in
    let first = when_some _ _ _ (sym c.number_after.ensures ∙ c.in_ok-first.was) in
    let size = when_some _ _ _ (sym c.number_after-2.ensures ∙ c.in_ok-size.was) in
    let value = ap (λ (n : ℕ). digits_value_after 10 n following) first.1 ∙ size.1 in
    rw (c.new.ensures, to_z-of_z fits)
    (sym (numeral_is c.args.minus whole following c.with_sign.result first.0 size.0 (omega arith)
    (c.with_sign.ensures ∙ ap (with_sign c.args.minus) (sym value ∙ sym (digits_value_after-append whole following 0)))))
