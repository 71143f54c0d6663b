use Rattle.rpg_cycle.proofs.Turning.{row_indicators}
use Rattle.rpg_cycle.proofs.phases.turn_off.Goals as goal

pub turn_types_off-requires : goal.turn_types_off-requires
turn_types_off-requires g c = row_indicators c.program.result.now c.types_of.result.now c.types_of.ensures.fit
