use Rattle.std.proofs.Common.{length}
use Rattle.rpg_faults_data.proofs.NumberLemmas.{read_fits}
use Rattle.rpg_faults_data.proofs.number.number_in.Goals as goal

pub returns-in-None-clause-fits : goal.returns-in-None-clause-fits
returns-in-None-clause-fits c = rw c.ok.ensures.value (read_fits c.read_zoned.result (length c.args.text.now) c.requires.high c.read_zoned.ensures.fits)
