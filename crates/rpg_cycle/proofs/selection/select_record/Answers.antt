use Rattle.std.proofs.Common.{◌∙◌, refl, sym}
use Rattle.rpg_cycle.proofs.Composing.{ends, goes, of_none, passed_with}
use Rattle.rpg_cycle.proofs.Selecting.{at_last, not_last}
use Rattle.rpg_cycle.proofs.Spending.{both_paid, both_taken, taken_paid, turned_paid}
use Rattle.rpg_cycle.specs.Doing.{holding, next_text, unselected}
use Rattle.rpg_cycle.specs.Ends.{Continues}
use Rattle.rpg_cycle.specs.Stages.{job_end}
use Rattle.rpg_cycle_records.specs.Holding.{input_state_of, inputs_of, text_in}
use Rattle.rpg_cycle_records.specs.Keeping.{left_of}
use Rattle.rpg_cycle_records.specs.Waiting.{with_input}
use Rattle.rpg_program.specs.declared.input.InputFile.TheVariants.{Primary}
use Rattle.rpg_cycle.proofs.selection.select_record.Goals as goal

pub returns-then-indicator-clause-chosen : goal.returns-then-indicator-clause-chosen
returns-then-indicator-clause-chosen g c = record {
  goes = at_last c.args.program.now (left_of c.args.kept.now) (next_text c.args.primary) (next_text c.args.secondary) (inputs_of c.args.kept.now) c.args.machine.now c.turn_all.new.machine
      (sym c.indicator.ensures ∙ c.if-indicator.true) c.turn_all.ensures.turned;
  ready = c.turn_all.ensures.ready c.requires.ready;
  spends = turned_paid c.args.program.now c.args.machine.now c.turn_all.new.machine c.turn_all.ensures.turned;
  held = of_none _;
  kept = c.requires.kept.files;
  left = refl;
}

pub returns-in_err-take_in-clause-stops : goal.returns-in_err-take_in-clause-stops
returns-in_err-take_in-clause-stops g c =
    let p = c.args.program.now in
    let left = left_of c.args.kept.now in
    let i = inputs_of c.args.kept.now in
    passed_with (Unit {0}) _ c.from_residual.result c.in_err-take_in.field-0.0 _ _ _
    (λ e takes h. record {
      inputs = i;
      does = not_last p left (next_text c.args.primary) (next_text c.args.secondary) c.args.machine.now c.take_in.new.machine (unselected i) (unselected i) (job_end e)
          (sym c.indicator.ensures ∙ c.if-indicator.false) (ends e (h left i refl refl));
      spends = taken_paid p c.args.machine.now c.take_in.new.machine takes;
    })
    c.from_residual.ensures.1 c.in_err-take_in.ensures.leaves.takes c.in_err-take_in.ensures.stops

pub returns-in_err-take_in-2-clause-stops : goal.returns-in_err-take_in-2-clause-stops
returns-in_err-take_in-2-clause-stops g c =
    let p = c.args.program.now in
    let left = left_of c.args.kept.now in
    let i = inputs_of c.args.kept.now in
    let j = with_input Primary (input_state_of c.take_in.new.kept) i in
    passed_with (Unit {0}) _ c.from_residual-in_err-take_in-2.result c.in_err-take_in-2.field-0.0 _ _ _
    (λ e takes h. record {
      inputs = j;
      does = not_last p left (next_text c.args.primary) (next_text c.args.secondary) c.args.machine.now c.take_in-2.new.machine (unselected i) (unselected j) (job_end e)
          (sym c.indicator.ensures ∙ c.if-indicator.false) (goes (c.in_ok-take_in.ensures.goes left i refl refl) (ends e (h left j refl refl)));
      spends = both_taken p c.args.machine.now c.take_in.new.machine c.take_in-2.new.machine c.in_ok-take_in.ensures.leaves.takes takes;
    })
    c.from_residual-in_err-take_in-2.ensures.1 c.in_err-take_in-2.ensures.leaves.takes c.in_err-take_in-2.ensures.stops

pub returns-clause-chosen : goal.returns-clause-chosen
returns-clause-chosen g c =
    let p = c.args.program.now in
    let left = left_of c.args.kept.now in
    let i = inputs_of c.args.kept.now in
    let j = with_input Primary (input_state_of c.take_in.new.kept) i in
    let first = c.in_ok-take_in.ensures.leaves in
    let second = c.in_ok-take_in-2.ensures.leaves in
    let picked = c.in_ok-row.ensures.picked in
    record {
      goes = not_last p left (next_text c.args.primary) (next_text c.args.secondary) c.args.machine.now c.select_one.new.machine (unselected i)
          (holding (inputs_of c.select_one.new.kept) c.in_ok-row.row (text_in p c.select_one.new.kept c.in_ok-row.row)) Continues (sym c.indicator.ensures ∙ c.if-indicator.false)
          (goes (c.in_ok-take_in.ensures.goes left i refl refl) (goes (c.in_ok-take_in-2.ensures.goes left j refl refl) picked.goes));
      ready = picked.ready (second.taken.ready (first.taken.ready c.requires.ready));
      spends = both_paid p c.in_ok-row.row c.args.machine.now c.take_in.new.machine c.take_in-2.new.machine c.select_one.new.machine first.takes second.takes picked.spends;
      held = picked.held;
      kept = picked.kept;
      left = picked.left;
    }
