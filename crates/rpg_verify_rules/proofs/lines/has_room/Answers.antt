use Rattle.std.proofs.lemmas.Bool.{and_parts}
use Rattle.rpg_verify_rules.proofs.lines.has_room.Goals as goal

pub field_width-requires-clause-text : goal.field_width-requires-clause-text
field_width-requires-clause-text c = (and_parts _ _ (and_parts _ _ c.requires.width).1).1
