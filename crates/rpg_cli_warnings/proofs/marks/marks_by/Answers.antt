use Rattle.rpg_cli_warnings.proofs.Marking.{all_noted, nothing_noted, one_noted}
use Rattle.rpg_cli_warnings.specs.Indicators.{shows, tests_indicator}
use Rattle.rpg_cli_warnings.proofs.marks.marks_by.Goals as goal

pub loop-card-init : goal.loop-card-init
loop-card-init c = record {
  tested = λ n. nothing_noted (tests_indicator n) c.args.cards.now n;
  shown = λ n. nothing_noted (shows n) c.args.cards.now n;
}

pub loop-card-preserved : goal.loop-card-preserved
loop-card-preserved c = record {
  tested = λ n. one_noted (tests_indicator n) c.args.cards.now c.loop-card.card-index c.card-item.result _ _ c.loop-card-test.true c.card-item.is (c.note_tested.ensures n) (c.loop-card.invariant.tested n);
  shown = λ n. one_noted (shows n) c.args.cards.now c.loop-card.card-index c.card-item.result _ _ c.loop-card-test.true c.card-item.is (c.note_shown.ensures n) (c.loop-card.invariant.shown n);
}

pub returns : goal.returns
returns c = record {
  tested = λ n. all_noted (tests_indicator n) c.args.cards.now c.loop-card.card-index _ c.loop-card-test.false (c.loop-card.invariant.tested n);
  shown = λ n. all_noted (shows n) c.args.cards.now c.loop-card.card-index _ c.loop-card-test.false (c.loop-card.invariant.shown n);
}
