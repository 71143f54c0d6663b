use Rattle.std.proofs.Common.{◌≡◌, ℕ, zero, suc, ◌+◌, ◌<◌, false, List, [], ◌∷◌, length, get_or, drop, map, refl, ap, sym, ◌∙◌, arith}
use Rattle.std.specs.Str.{bytes_eq}
use Rattle.rpg_sheet_specs.specs.declared.calculation.Operation.{Operation}
use Rattle.rpg_sheet_specs.specs.declared.calculation.Operation.TheVariants as op
use Rattle.rpg_sheet_specs.specs.Tables.{card_operations, letters_of}
use Rattle.rpg_sheet_specs.specs.Values.{one_of}
use Rattle.rpg_sheet_values.proofs.words.operation.Goals as goal

-- an operation with other letters is passed over
passed : (text : List ℕ) (ops : List Operation) (i : ℕ) → i < length ops → bytes_eq text (letters_of (get_or ops i op.Add)) ≡ false
    → one_of (map (λ o. (letters_of o, o)) (drop i ops)) text ≡ one_of (map (λ o. (letters_of o, o)) (drop (i + 1) ops)) text
passed text [] i l other = absurd (omega arith)
passed text (o ∷ os) zero l other = rw other refl
passed text (o ∷ os) (suc i) l other = let next : suc i + 1 ≡ suc (i + 1) = omega arith in rw next (passed text os i (omega arith) other)

pub loop-operation-preserved : goal.loop-operation-preserved
loop-operation-preserved c =
    let other = sym (ap (bytes_eq c.args.text.now) c.letters.ensures) ∙ sym c.is.ensures ∙ c.if-is.false in
    c.loop-operation.invariant ∙ passed c.args.text.now card_operations c.loop-operation.operation-index c.loop-operation-test.true other
