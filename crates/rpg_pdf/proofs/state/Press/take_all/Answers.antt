use Rattle.std.proofs.Common.{◌≡◌, ◌+◌, ◌++◌, ◌∷◌, ◌∙◌, drop, get_or, arith, subst}
use Rattle.std.proofs.lemmas.List.{drop_all, drop_more}
use Rattle.rpg_pdf.proofs.PrintLemmas.{passed_on}
use Rattle.rpg_pdf.specs.Outcomes.{Reading}
use Rattle.rpg_pdf.proofs.state.Press.take_all.Goals as goal

pub returns-in_err-take-clause-reading : goal.returns-in_err-take-clause-reading
returns-in_err-take-clause-reading g c = λ s before print rest h.
    let more : drop c.loop-byte.byte-index c.args.piece.now ≡ get_or c.args.piece.now c.loop-byte.byte-index 0 ∷ drop (c.loop-byte.byte-index + 1) c.args.piece.now = drop_more c.args.piece.now c.loop-byte.byte-index 0 (omega arith) in
    passed_on _ _ c.from_residual.result c.in_err-take.field-0.0 c.from_residual.ensures.1
    (c.in_err-take.ensures.reading s before print (drop (c.loop-byte.byte-index + 1) c.args.piece.now ++ rest) (subst (λ t. Reading s g.W.Write.contents before print (t ++ rest) c.loop-byte.self) more (c.loop-byte.invariant.reading s before print rest h)))

pub loop-byte-preserved : goal.loop-byte-preserved
loop-byte-preserved g c =
    let more : drop c.loop-byte.byte-index c.args.piece.now ≡ get_or c.args.piece.now c.loop-byte.byte-index 0 ∷ drop (c.loop-byte.byte-index + 1) c.args.piece.now = drop_more c.args.piece.now c.loop-byte.byte-index 0 (omega arith) in
    record {
      failures = c.in_ok-take.ensures.failures ∙ c.loop-byte.invariant.failures;
      reader = c.in_ok-take.ensures.moved.0 ∙ c.loop-byte.invariant.reader;
      left = omega (arith, c.in_ok-take.ensures.moved.1, c.loop-byte.invariant.left);
      reading = λ s before print rest h.
          c.in_ok-take.ensures.reading s before print (drop (c.loop-byte.byte-index + 1) c.args.piece.now ++ rest) (subst (λ t. Reading s g.W.Write.contents before print (t ++ rest) c.loop-byte.self) more (c.loop-byte.invariant.reading s before print rest h));
    }

pub returns-clause-reading : goal.returns-clause-reading
returns-clause-reading g c = λ s before print rest h.
    subst (λ t. Reading s g.W.Write.contents before print (t ++ rest) c.loop-byte.self) (drop_all c.loop-byte.byte-index c.args.piece.now c.loop-byte-test.false) (c.loop-byte.invariant.reading s before print rest h)
