use Rattle.rpg_faults_places.proofs.state.Places.nothing.Goals as goal

pub returns : goal.returns
returns c = λ cards. record { lengths = c.nothing.ensures cards; matches = c.nothing-2.ensures cards }
