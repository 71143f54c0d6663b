use Rattle.rpg_decimal.proofs.LawLemmas.{spells_either, plain_zoned, plain_alone, length-zoned, read_either, read_back}
use Rattle.rpg_decimal.proofs.laws.texts_spell_by_places.Goals as goal

pub returns-clause-spells : goal.returns-clause-spells
returns-clause-spells c = spells_either

pub returns-clause-written : goal.returns-clause-written
returns-clause-written c = plain_zoned

pub returns-clause-alone : goal.returns-clause-alone
returns-clause-alone c = plain_alone

pub returns-clause-long : goal.returns-clause-long
returns-clause-long c = length-zoned

pub returns-clause-read : goal.returns-clause-read
returns-clause-read c = read_either

pub returns-clause-read_back : goal.returns-clause-read_back
returns-clause-read_back c = read_back
