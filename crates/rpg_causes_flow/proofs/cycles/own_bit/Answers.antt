use Rattle.std.proofs.Common.{◌≡◌, ◌-◌, ◌+◌, ◌≤◌, ℕ, ◌∙◌, arith}
use Rattle.std.specs.Prelude.{◌==◌}
use Rattle.std.proofs.lemmas.Bool.Decides.{nat_tests}
use Rattle.rpg_causes_flow.proofs.Bits.{has_bit-shift}
use Rattle.rpg_causes_flow.proofs.cycles.own_bit.Goals as goal

moved : (first number i : ℕ) → first ≤ number → (i == number - first) ≡ (number == first + i)
moved first number i h = grind (arith, nat_tests)

pub returns-then-number-first-lt-WIDTH : goal.returns-then-number-first-lt-WIDTH
returns-then-number-first-lt-WIDTH c = λ i small. has_bit-shift (c.args.number - c.args.first) i c.if-number-first-lt-WIDTH.true ∙ moved c.args.first c.args.number i c.if-first-number.true
