use Rattle.std.proofs.Common.{◌≡◌, ◌-◌, ◌∙◌, true, refl, sym, add_assoc, arith, get_or, length}
use Rattle.std.specs.Char.{is_ascii_digit}
use Rattle.std.proofs.lemmas.List.Folds.{list_all_more}
use Rattle.rpg_sheet_values.proofs.Digits.{is_digit, more_fits, value_more}
use Rattle.rpg_sheet_values.proofs.numbers.number_after.Goals as goal

pub loop-digit-preserved : goal.loop-digit-preserved
loop-digit-preserved c =
    let kept = c.loop-digit.invariant in
    let digits = c.args.digits.now in
    let i = c.loop-digit.digit-index in
    let is : is_ascii_digit (get_or digits i 0) ≡ true = sym c.is_ascii_digit.ensures.value ∙ c.if-not-is_ascii_digit.false in
    let digit = is_digit (get_or digits i 0) is in
    record {
      all = rw (list_all_more is_ascii_digit digits i 0 c.loop-digit-test.true, kept.all, is) refl;
      value = value_more digits i c.loop-digit.value c.loop-digit-test.true digit ∙ kept.value;
      fits = rw (sym (add_assoc (10 - length digits) i 1)) (more_fits _ c.loop-digit.value (get_or digits i 0 - 48) kept.fits (omega arith));
    }
