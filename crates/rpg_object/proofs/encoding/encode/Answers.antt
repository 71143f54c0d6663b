use Rattle.rpg_object.proofs.encoding.encode.Goals as goal

pub put_body-requires : goal.put_body-requires
put_body-requires c = rw c.rows-rows.ensures.same c.rows-rows.ensures.kept
