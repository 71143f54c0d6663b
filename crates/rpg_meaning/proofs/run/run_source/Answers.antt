use Rattle.rpg_faults.specs.Source.{cards_in}
use Rattle.rpg_meaning.proofs.Sources.Stopping.{faultless_of, prints_of, reads_none, stops_of}
use Rattle.rpg_meaning.proofs.run.run_source.Goals as goal

pub returns-clause-runs : goal.returns-clause-runs
returns-clause-runs g c =
    let ran = rw c.program.ensures.same at c.watch_program.ensures.runs in
    let source = c.args.source.now in
    let compiled = c.program.ensures.compiled in
    let law = c.source_to_print.ensures in
    record {
      faultless = faultless_of _ _ _ compiled;
      refused = ran.refused;
      untouched = ran.untouched;
      alone = λ none. ran.alone (reads_none _ _ _ compiled none);
      prints = λ day dated. let on = ran.run day dated in
          prints_of source.program (cards_in source.text.items) source.allowance day _ _ _ _ _ _
          (λ report primary secondary. law.prints source.text.items source.allowance source.program c.program.ensures.program compiled c.args.date.now day dated report _ _ primary secondary)
          c.watch_program.result on.report;
      stops = λ day dated. let on = ran.run day dated in
          stops_of source.program (cards_in source.text.items) source.allowance day _ _ _ _ _ _
          (λ e primary secondary. law.parts source.text.items source.allowance source.program c.program.ensures.program compiled c.args.date.now day dated e _ _ primary secondary)
          c.watch_program.result on.early;
    }

pub returns-clause-program : goal.returns-clause-program
returns-clause-program g c = rw c.program.ensures.same at c.watch_program.ensures.runs
