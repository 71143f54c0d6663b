use Rattle.std.proofs.Common.{◌≡◌, ℕ, ◌+◌, ◌-◌, ◌≤◌, length, arith, rules, ap, ap₂, subst, sym, ◌∙◌, to_z-of_z, FitsSigned, w64, length-take}
use Rattle.rpg_decimal_words.specs.Move.{overlay_right}
use Rattle.rpg_decimal_words.specs.Zoned.{zoned_text, IsFirstBad}
use Rattle.rpg_decimal.proofs.MoveLemmas.{bad_in_source}
use Rattle.rpg_decimal.proofs.moves.move_right_of_text.Goals as goal

inside : (c : goal.After-from-in-Err) → c.args.before.len ≤ c.in-Err.bad.spot + length c.args.text.now
inside c =
    let text = c.args.text.now in
    let old = c.write_zoned.new.text in
    let long : length old ≡ c.args.before.len = omega (arith, c.write_zoned.auto.text, length-take {A = ℕ}, c.from.ensures, c.args.before.len_high) in
    omega (arith, long, bad_in_source text old c.in-Err.bad.spot c.write_zoned.ensures.spells.valid (subst (λ t. IsFirstBad t c.in-Err.bad.spot) c.overlay_right.ensures c.in-Err.ensures.bad))

pub overflow_sub-result : goal.overflow_sub-result
overflow_sub-result c = omega (arith, inside c, c.from-in-Err.ensures)

pub returns-in-Err-clause-bad : goal.returns-in-Err-clause-bad
returns-in-Err-clause-bad c =
    let b = c.args.before in
    let spot = c.in-Err.bad.spot in
    let fits : FitsSigned w64 b.value = search rules in
    let long : length c.write_zoned.new.text ≡ b.len = omega (arith, c.write_zoned.auto.text, length-take {A = ℕ}, c.from.ensures, b.len_high) in
    let old_is : c.write_zoned.new.text ≡ zoned_text b.len b.value = c.write_zoned.ensures.text ∙ ap₂ zoned_text (sym c.write_zoned.auto.text ∙ long) (to_z-of_z fits) in
    let same : spot ≡ spot + length c.args.text.now - c.from-in-Err.result + b.len - length c.args.text.now = omega (arith, inside c, c.from-in-Err.ensures) in
    subst (λ k. IsFirstBad (overlay_right c.args.text.now (zoned_text b.len b.value)) k) same
    (subst (λ t. IsFirstBad t spot) (c.overlay_right.ensures ∙ ap (overlay_right c.args.text.now) old_is) c.in-Err.ensures.bad)
