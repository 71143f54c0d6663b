use Rattle.std.proofs.Common.{◌≡◌, ◌+◌, drop, take}
use Rattle.rpg_cards.specs.Names.{definitions}
use Rattle.rpg_causes_operands.specs.Names.{redefined_among}
use Rattle.rpg_faults_limits.specs.Names.{redefine}
use Rattle.rpg_causes_operands.proofs.names.redefined_among.Given as goal

abbrev pub invariant-loop-i : goal.invariant-loop-i
invariant-loop-i l =
    (redefined_among l.source (take (l.place + l.i) (definitions l.source)) (drop l.i l.items) ≡ redefined_among l.source (take l.place (definitions l.source)) l.items)
    × (redefine (take (l.place + l.i) (definitions l.source)) (drop l.i l.items) ≡ redefine (take l.place (definitions l.source)) l.items)
