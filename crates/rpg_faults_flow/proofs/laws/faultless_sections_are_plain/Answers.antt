use Rattle.rpg_faults_flow.proofs.Joined.{plain_of_rules}
use Rattle.rpg_faults_flow.proofs.laws.faultless_sections_are_plain.Goals as goal

pub returns : goal.returns
returns c = λ cards kept few. plain_of_rules cards kept.columns kept.order kept.targets kept.apart kept.calls few
