use Rattle.rpg_edit.proofs.Table.{groups_at}
use Rattle.rpg_edit.proofs.groups.group_of.Goals as goal

pub returns : goal.returns
returns c =
    let at = groups_at c.args.three c.requires in
    rw c.from-place.ensures (record { comma = at.comma; hundreds = at.hundreds; tens = at.tens; ones = at.ones })
