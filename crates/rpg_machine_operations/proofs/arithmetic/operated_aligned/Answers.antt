use Rattle.std.proofs.Common.{◌≡◌, ℤ, ap₂, ◌∙◌, rules, to_z, of_z}
use Rattle.std.specs.Int.{w64}
use Rattle.rpg_decimal_words.specs.Fraction.{minus, plus, stored_number, with_decimals}
use Rattle.rpg_decimal.proofs.WholeLemmas.{back_64}
use Rattle.rpg_machine_operations.proofs.Aligned.{difference_there, product_there, sum_there}
use Rattle.rpg_machine_operations.proofs.arithmetic.operated_aligned.Goals as goal

pub returns-in-Add-clause-value : goal.returns-in-Add-clause-value
returns-in-Add-clause-value c =
    let t = c.args.target in
    let a = c.args.a in
    let b = c.args.b in
    let read_a : to_z w64 (of_z w64 a.value) ≡ a.value = search rules in
    let read_b : to_z w64 (of_z w64 b.value) ≡ b.value = search rules in
    let there = sum_there c.args.operator t.half t.dec t.len a.value b.value a.dec b.dec c.requires c.in-Add.is in
    back_64 c.add.type_inv ∙ c.add.ensures.value
    ∙ ap₂ (λ (x y : ℤ). stored_number t.half t.dec t.len (plus (with_decimals x t.dec) (with_decimals y t.dec))) read_a read_b
    ∙ there

pub returns-in-Subtract-clause-value : goal.returns-in-Subtract-clause-value
returns-in-Subtract-clause-value c =
    let t = c.args.target in
    let a = c.args.a in
    let b = c.args.b in
    let read_a : to_z w64 (of_z w64 a.value) ≡ a.value = search rules in
    let read_b : to_z w64 (of_z w64 b.value) ≡ b.value = search rules in
    let there = difference_there c.args.operator t.half t.dec t.len a.value b.value a.dec b.dec c.requires c.in-Subtract.is in
    back_64 c.sub.type_inv ∙ c.sub.ensures.value
    ∙ ap₂ (λ (x y : ℤ). stored_number t.half t.dec t.len (minus (with_decimals x t.dec) (with_decimals y t.dec))) read_a read_b
    ∙ there

pub product_aligned-requires : goal.product_aligned-requires
product_aligned-requires c = product_there c.args.operator c.args.a.dec c.args.b.dec c.args.target.dec c.requires c.in-Multiply.is
