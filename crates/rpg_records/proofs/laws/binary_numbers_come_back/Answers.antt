use Rattle.rpg_records.proofs.Again.{binary_again, in_bytes}
use Rattle.rpg_records.proofs.laws.binary_numbers_come_back.Goals as goal

pub returns : goal.returns
returns c bytes h = binary_again bytes (in_bytes bytes h)
