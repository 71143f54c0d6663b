use Rattle.std.proofs.Common.{◌∙◌, Some, sym, ap}
use Rattle.rpg_cycle.proofs.Composing.{ok_map, stops_map}
use Rattle.rpg_cycle.proofs.Selecting.{asked, leaves_none, over_kept}
use Rattle.rpg_cycle.specs.Doing.{next_text}
use Rattle.rpg_cycle.specs.Ends.{Continues}
use Rattle.rpg_cycle.specs.Stages.{job_end}
use Rattle.rpg_cycle_records.specs.Holding.{input_state_of, takes_from}
use Rattle.rpg_cycle_records.specs.Waiting.{with_input}
use Rattle.rpg_cycle.proofs.selection.take_in.Goals as goal

pub returns-clause-goes : goal.returns-clause-goes
returns-clause-goes g c =
    let p = c.args.program.now in
    let f = c.args.file in
    ok_map c.read.result _ _
    (λ x h left i last at. asked p left f (next_text c.args.next) (Some c.in-Some.text.now) i (with_input f (input_state_of c.read.new.kept) i) c.args.machine.now c.read.new.machine Continues
    (ap (takes_from p f) at ∙ sym c.takes_in.ensures ∙ c.if-not-takes_in.false) (ap next_text c.in-Some.is) (h left i last at))
    c.read.ensures.goes

pub returns-clause-stops : goal.returns-clause-stops
returns-clause-stops g c =
    let p = c.args.program.now in
    let f = c.args.file in
    stops_map c.read.result _ _
    (λ e h left i last at. asked p left f (next_text c.args.next) (Some c.in-Some.text.now) i i c.args.machine.now c.read.new.machine (job_end e)
    (ap (takes_from p f) at ∙ sym c.takes_in.ensures ∙ c.if-not-takes_in.false) (ap next_text c.in-Some.is) (h left i last))
    c.read.ensures.stops

pub returns-then-not-takes_in-clause-leaves : goal.returns-then-not-takes_in-clause-leaves
returns-then-not-takes_in-clause-leaves g c = leaves_none c.args.program.now c.args.file c.args.kept.now c.args.machine.now c.requires.kept

pub returns-in_default-clause-leaves : goal.returns-in_default-clause-leaves
returns-in_default-clause-leaves g c = leaves_none c.args.program.now c.args.file _ c.args.machine.now (over_kept c.args.program.now c.args.file c.args.kept.now c.requires.kept)

pub returns-clause-leaves : goal.returns-clause-leaves
returns-clause-leaves g c = c.read.ensures.leaves
