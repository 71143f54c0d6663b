use Rattle.std.proofs.Common.{◌≡◌, drop, map}
use Rattle.std.specs.Global.{Vec}
use Rattle.rpg_program.specs.Lines.{is_due}
use Rattle.rpg_program.specs.declared.condition.Condition.{Condition}
use Rattle.rpg_machine_lines.proofs.passage.is_due.Given as goal

abbrev pub invariant-alternatives : goal.invariant-alternatives
invariant-alternatives l =
    is_due l.indicator l.pass l.on l.time (map (λ (a : Vec Condition). a.items) (drop l.alternative-index l.alternatives))
    ≡ is_due l.indicator l.pass l.on l.time (map (λ (a : Vec Condition). a.items) l.alternatives)
