use Rattle.rpg_edit.proofs.Codes.{writes-decimals}
use Rattle.rpg_edit.proofs.code.put_kept_decimals.Goals as goal

pub returns : goal.returns
returns c = writes-decimals c.args.dec _ _ _ _ _ _ c.requires.some c.put_kept_digits.ensures c.put_kept_character.ensures
