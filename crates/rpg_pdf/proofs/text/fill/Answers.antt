use Rattle.std.proofs.Common.{◌≡◌, ◌++◌, [], ◌∷◌, true, false, get_or, drop, arith, rules}
use Rattle.rpg_pdf.proofs.TextLemmas.{all_filled, byte_kept, mark_filled, rest_kept}
use Rattle.rpg_pdf.specs.Texts.{is_mark, number_by}
use Rattle.rpg_pdf.proofs.text.fill.Goals as goal
use Rattle.rpg_pdf.proofs.text.fill.Goals.{then-used-numbers+then-matches+in_ok-put_number, else-used-numbers+in_ok-push, else-used-numbers-via-then-used-numbers+else-matches, else-used-numbers-via-else-used-numbers}

pub loop-byte-preserved : goal.loop-byte-preserved
loop-byte-preserved c =
    elim c.if-used-numbers.branch [
      | then-used-numbers+then-matches+in_ok-put_number w ↦
          let mark : is_mark (get_or c.args.text.now c.loop-byte.byte-index 0) ≡ true = search rules in
          let out : c.if-used-numbers.out.items ≡ c.loop-byte.out.items ++ number_by (get_or c.args.text.now c.loop-byte.byte-index 0) (get_or c.args.numbers.now c.loop-byte.used 0) = cc w.in_ok-put_number.ensures in
          rw w.used-is (mark_filled _ c.loop-byte.out.items c.if-used-numbers.out.items c.args.text.now c.args.numbers.now c.loop-byte.byte-index c.loop-byte.used (omega arith) (omega arith) mark c.loop-byte.invariant out)
      | else-used-numbers+in_ok-push w ↦
          let out : c.if-used-numbers.out.items ≡ c.loop-byte.out.items ++ get_or c.args.text.now c.loop-byte.byte-index 0 ∷ [] = cc w.in_ok-push.ensures.items in
          elim w.else-used-numbers.branch [
            | else-used-numbers-via-then-used-numbers+else-matches w' ↦
                let mark : is_mark (get_or c.args.text.now c.loop-byte.byte-index 0) ≡ false = search rules in
                rw w.used-is (byte_kept _ c.loop-byte.out.items c.if-used-numbers.out.items c.args.text.now c.args.numbers.now c.loop-byte.byte-index c.loop-byte.used (omega arith) mark c.loop-byte.invariant out)
            | else-used-numbers-via-else-used-numbers w' ↦
                rw w.used-is (rest_kept _ c.loop-byte.out.items c.if-used-numbers.out.items c.args.text.now c.args.numbers.now c.loop-byte.byte-index c.loop-byte.used (omega arith) (omega arith) c.loop-byte.invariant out)
          ]
    ]

pub returns : goal.returns
returns c = all_filled _ c.loop-byte.out.items c.args.text.now (drop c.loop-byte.used c.args.numbers.now) c.loop-byte.byte-index c.loop-byte-test.false c.loop-byte.invariant
